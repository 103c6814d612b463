-- What a node holds, and how deep it nests.
use Rattle.std.proofs.Common.{◌≡◌, ℕ, suc, ◌<◌, ◌^◌, List, [], ◌∷◌, length, map, refl, sym, ap, ◌∙◌, subst, arith}
use Rattle.cbor_head.specs.Value as value
use Rattle.cbor_head.specs.Prelude.{Value, AreInRange, AreEntriesInRange, IsInRange}
use Rattle.cbor_head.specs.Value.{depth, depth_all, depth_entries}
use Rattle.theory_values.{proofs.Lists.values_counted, proofs.Lists.entries_counted, specs.Lists.values_of}
use Rattle.cbor_item.specs.inner.Texts.{HasUtf8Texts, HaveUtf8Texts, EntriesHaveUtf8Texts}
use Rattle.cbor_item.specs.{Nodes.entries_in, Nodes.values_in, inner.Rest.flat, inner.Walk.size, inner.Within.Holds}
use Rattle.cbor_item.proofs.Walk.{weight-all, weight-flat}

module _ {N : Type 0} (see : N → Value) where
  pub holds_members : (v : Value) (ns : List N) → value.array (values_in see ns) ≡ v → length ns < 2 ^ 64 → Holds v (map see ns)
  holds_members v ns is few = record {
    deeper = ap depth (sym is);
    in_range = λ h. subst IsInRange is (omega (arith, values_counted see ns), h);
    texts = λ h. subst HasUtf8Texts is h;
    smaller = ap size (sym is) ∙ ap (λ (n : ℕ). suc (suc n)) (weight-all (map see ns));
  }

  pub holds_pairs : (v : Value) (ps : List (N × N)) → value.map (entries_in see ps) ≡ v → length ps < 2 ^ 64 → Holds v (flat see ps)
  holds_pairs v ps is few = record {
    deeper = ap depth (sym is) ∙ ap suc (deep ps);
    in_range = λ h. subst IsInRange is (omega (arith, entries_counted see ps), ranges ps h);
    texts = λ h. subst HasUtf8Texts is (utf8 ps h);
    smaller = ap size (sym is) ∙ ap (λ (n : ℕ). suc (suc n)) (weight-flat see ps);
  }
    where
      deep : (ps : List (N × N)) → depth_entries (entries_in see ps) ≡ depth_all (values_of (flat see ps))
      deep [] = refl
      deep (p ∷ ps) = let more = deep ps in omega (arith, more)

      ranges : (ps : List (N × N)) → AreInRange (values_of (flat see ps)) → AreEntriesInRange (entries_in see ps)
      ranges [] h = tt
      ranges (p ∷ ps) h = (h.0, h.1.0, ranges ps h.1.1)

      utf8 : (ps : List (N × N)) → HaveUtf8Texts (values_of (flat see ps)) → EntriesHaveUtf8Texts (entries_in see ps)
      utf8 [] h = tt
      utf8 (p ∷ ps) h = (h.0, h.1.0, utf8 ps h.1.1)
