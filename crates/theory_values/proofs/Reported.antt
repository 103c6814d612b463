-- Canonical bytes report the value, whatever follows them.
use Rattle.std.proofs.Common.{◌≡◌, ℕ, suc, List, [], ◌++◌, length, inl, inr, refl, sym, ap, ◌∙◌, subst}
use Rattle.cbor_head.specs.Prelude.{Value, Entries, HasEntry, HasDistinctKeys, Same, IsInRange, AreEntriesInRange, spell, value_of, Pair, canonical, canonical_entries}
use Rattle.cbor_head.specs.Value.{no_entries, entry, entries_count}
use Rattle.cbor_head.specs.declared.order.KeyOrder.{KeyOrder}
use Rattle.theory_values.proofs.Normal.{normal, spell-normal, IsSpelled-normal}
use Rattle.theory_values.{proofs.ReadLaws.unique, specs.Pairs.HasDistinctBytes, proofs.Members.In, proofs.Members.all_from, proofs.Sound.ranges_at}
use Rattle.theory_values.proofs.{Sameness.Same-sym, Sameness.Same-trans, NormalValue.value_of-normal}

-- of bytes with rests that are equal, in whichever orders, the values are the same, and the rests equal
pub record IsReported (o p : KeyOrder) (v w : Value) (x y : List ℕ) : Type 0 where
  pub same : Same v w
  pub bytes_are : canonical o v ≡ canonical p w
  pub rest : x ≡ y

pub reported : (o p : KeyOrder) (v w : Value) → IsInRange v → IsInRange w → (x y : List ℕ) → canonical o v ++ x ≡ canonical p w ++ y → IsReported o p v w x y
reported o p v w h g x y e =
    let begins : (q : KeyOrder) (u : Value) (z : List ℕ) → spell (normal q u) ++ z ≡ canonical q u ++ z = λ q u z. ap (λ (l : List ℕ). l ++ z) (spell-normal q u) in
    let r = unique (normal o v) (normal p w) (IsSpelled-normal o v h) (IsSpelled-normal p w g) x y (begins o v x ∙ e ∙ sym (begins p w y)) in
    let there : Same v (value_of (normal p w)) = subst (λ s. Same v (value_of s)) r.0 (value_of-normal o v) in
    record {
      same = Same-trans v (value_of (normal p w)) w there (Same-sym w (value_of (normal p w)) (value_of-normal p w));
      bytes_are = sym (spell-normal o v) ∙ ap spell r.0 ∙ spell-normal p w;
      rest = r.1;
    }

pub canonical_injective : (o : KeyOrder) (v w : Value) → IsInRange v → IsInRange w → canonical o v ≡ canonical o w → Same v w
canonical_injective o v w h g e = (reported o o v w h g [] [] (ap (λ (l : List ℕ). l ++ []) e)).same

-- ---- the pairs of a map

abbrev pub pair_of : KeyOrder → Value → Value → Pair
pair_of o k v = record { key = canonical o k; value = canonical o v }

-- the encoded pairs are those of the entries
pub pair_in : (o : KeyOrder) (es : Entries) (k v : Value) → HasEntry es k v → In (pair_of o k v) (canonical_entries o es)
pair_in o no_entries k v m = m
pair_in o (entry k' v' es) k v (inl e) = inl (λ i. pair_of o (e.0 i) (e.1 i))
pair_in o (entry k' v' es) k v (inr m) = inr (pair_in o es k v m)

pub in_pair : (o : KeyOrder) (es : Entries) (p : Pair) → In p (canonical_entries o es) → (k : Value) × (v : Value) × HasEntry es k v × (p ≡ pair_of o k v)
in_pair o no_entries p m = absurd m
in_pair o (entry k v es) p (inl e) = (k, v, inl (refl, refl), e)
in_pair o (entry k v es) p (inr m) = let r = in_pair o es p m in (r.0, r.1, inr r.2, r.3)

pub length-canonical_entries : (o : KeyOrder) (es : Entries) → length (canonical_entries o es) ≡ entries_count es
length-canonical_entries o no_entries = refl
length-canonical_entries o (entry k v es) = ap suc (length-canonical_entries o es)

-- keys that are not the same have different bytes
pub distinct_bytes : (o : KeyOrder) (es : Entries) → AreEntriesInRange es → HasDistinctKeys es → HasDistinctBytes (canonical_entries o es)
distinct_bytes o no_entries h d = tt
distinct_bytes o (entry k v es) h d = (
  all_from (λ (q : Pair). q.key ≡ canonical o k → ⊥) (canonical_entries o es) (λ q m e.
      let r = in_pair o es q m in
      let g = ranges_at es r.0 r.1 h.2 r.2 in
      d.0 r.0 r.1 r.2 (canonical_injective o k r.0 h.0 g.0 (sym e ∙ ap (λ (p : Pair). p.key) r.3))),
  distinct_bytes o es h.2 d.1,
)
