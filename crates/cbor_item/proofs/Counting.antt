-- For maps without repeated keys, sameness needs only the counts and one direction.
use Rattle.std.proofs.Common.{◌≡◌, suc, ◌≤◌, ◌↔◌, ◌⊎◌, inl, inr, refl, sym, ap, ◌∙◌, subst, arith}
use Rattle.cbor_head.specs.Prelude.{Value, Entries, map, HasEntry, HasDistinctKeys, Same, Covered}
use Rattle.cbor_head.specs.Value.{no_entries, entry, entries_count}
use Rattle.theory_values.proofs.Sameness.{HasSame, IsSameOf, same_maps, Same-maps, Same-sym, Same-trans, from_covered}

-- fs without one pair
record Pulled (k v : Value) (fs : Entries) : Type 0 where
  rest : Entries
  count : entries_count fs ≡ suc (entries_count rest)
  has : (a b : Value) → HasEntry fs a b → ((a ≡ k) × (b ≡ v)) ⊎ HasEntry rest a b

pull : (k v : Value) (fs : Entries) → HasEntry fs k v → Pulled k v fs
pull k v no_entries m = absurd m
pull k v (entry a b fs) (inl e) = record {
  rest = fs;
  count = refl;
  has = λ x y m. elim m [ inl f ↦ inl (f.0 ∙ sym e.0, f.1 ∙ sym e.1) | inr n ↦ inr n ];
}
pull k v (entry a b fs) (inr m) =
    let r = pull k v fs m in
    record {
      rest = entry a b r.rest;
      count = ap suc r.count;
      has = λ x y n. elim n [
        | inl e ↦ inr (inl e)
        | inr o ↦ elim (r.has x y o) [ inl e ↦ inl e | inr l ↦ inr (inr l) ]
      ];
    }

none_of : (fs : Entries) (k v : Value) → entries_count fs ≡ 0 → HasEntry fs k v → ⊥
none_of no_entries k v e m = m
none_of (entry a b fs) k v e m = absurd (omega arith)

-- what distinct keys that all have the same pair in fs do
record Fills (es fs : Entries) : Type 0 where
  fewer : entries_count es ≤ entries_count fs
  fill : entries_count es ≡ entries_count fs → (k v : Value) → HasEntry fs k v → IsSameOf es k v

fills : (es fs : Entries) → HasDistinctKeys es → ((k v : Value) → HasEntry es k v → HasSame fs k v) → Fills es fs
fills no_entries fs d c = record { fewer = omega arith; fill = λ e k v m. absurd (none_of fs k v (sym e) m) }
fills (entry k v es) fs d c =
    let s = c k v (inl (refl, refl)) in
    let p = pull s.0 s.1 fs s.2 in
    let left : (a b : Value) → HasEntry es a b → HasSame p.rest a b = λ a b m.
    let r = c a b (inr m) in
    elim (p.has r.0 r.1 r.2) [
      | inl e ↦ absurd (d.0 a b m (Same-trans k s.0 a s.3 (Same-sym a s.0 (subst (Same a) e.0 r.3))))
      | inr n ↦ (r.0, r.1, n, r.3, r.4)
    ] in
    let more = fills es p.rest d.1 left in
    let counted = p.count in
    let fewer = more.fewer in
    record {
      fewer = omega (arith, counted, fewer);
      fill = λ e a b m. elim (p.has a b m) [
        | inl f ↦ (k, v, inl (refl, refl), subst (Same k) (sym f.0) s.3, subst (Same v) (sym f.1) s.4)
        | inr n ↦ let r = more.fill (omega (arith, counted, e)) a b n in (r.0, r.1, inr r.2, r.3, r.4)
      ];
    }

pub same_by_count : (es fs : Entries) → HasDistinctKeys es → HasDistinctKeys fs → Same (map es) (map fs) ↔ ((entries_count es ≡ entries_count fs) × Covered es fs)
same_by_count es fs d g = (
  (λ h.
      let there = fills es fs d (same_maps es fs h).forth in
      let back = fills fs es g (same_maps fs es (Same-sym (map es) (map fs) h)).forth in
      (omega (arith, there.fewer, back.fewer), h.0)),
  (λ h.
      let forth = from_covered es fs h.1 in
      Same-maps es fs (record { forth = forth; back = (fills es fs d forth).fill h.0 })),
)
