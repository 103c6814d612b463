-- The normal spelling is of the same value and depth.
use Rattle.std.proofs.Common.{◌≡◌, suc, max, inl, inr, refl, sym, ap, ◌∙◌, subst, arith}
use Rattle.cbor_head.specs.Value as value
use Rattle.cbor_head.specs.Prelude.{Value, Values, Entries, HasEntry, Same, SameValues, Spelling, SpelledEntries, value_of, values_of, entries_of, depth, depth_all, depth_entries}
use Rattle.cbor_head.specs.declared.order.KeyOrder.{KeyOrder}
use Rattle.theory_values.proofs.Induction.{AllOf, AllIn, by_cases}
use Rattle.theory_values.proofs.Sameness.{HasSame, IsSameOf, Same-maps}
use Rattle.theory_values.proofs.Normal.{put_entry, normal, normal_all, normal_entries, by_put}

-- ---- the value

abbrev Means : KeyOrder → Value → Type 0
Means o v = Same v (value_of (normal o v))

entry_put : (o : KeyOrder) (k v : Spelling) (es : SpelledEntries) (a b : Value) → HasEntry (value.entry (value_of k) (value_of v) (entries_of es)) a b → HasEntry (entries_of (put_entry o k v es)) a b
entry_put o k v es a b h =
    by_put o k v (λ es put. HasEntry (value.entry (value_of k) (value_of v) (entries_of es)) a b → HasEntry (entries_of put) a b) (λ h. h) (λ k' v' es h. h)
    (λ k' v' es put ih h. elim h [ inl e ↦ inr (ih (inl e)) | inr (inl e) ↦ inl e | inr (inr l) ↦ inr (ih (inr l)) ]) es h

put_entry_has : (o : KeyOrder) (k v : Spelling) (es : SpelledEntries) (a b : Value) → HasEntry (entries_of (put_entry o k v es)) a b → HasEntry (value.entry (value_of k) (value_of v) (entries_of es)) a b
put_entry_has o k v es a b h =
    by_put o k v (λ es put. HasEntry (entries_of put) a b → HasEntry (value.entry (value_of k) (value_of v) (entries_of es)) a b) (λ h. h) (λ k' v' es h. h)
    (λ k' v' es put ih h. elim h [ inl e ↦ inr (inl e) | inr l ↦ elim (ih l) [ inl e ↦ inl e | inr m ↦ inr (inr m) ] ]) es h

means_forth : (o : KeyOrder) (es : Entries) → AllIn (Means o) es → (k v : Value) → HasEntry es k v → HasSame (entries_of (normal_entries o es)) k v
means_forth o value.no_entries a k v h = absurd h
means_forth o (value.entry k' v' es) a k v (inl e) = (
  value_of (normal o k'),
  value_of (normal o v'),
  entry_put o (normal o k') (normal o v') (normal_entries o es) _ _ (inl (refl, refl)),
  subst (λ u. Same u (value_of (normal o k'))) (sym e.0) a.0,
  subst (λ u. Same u (value_of (normal o v'))) (sym e.1) a.1,
)
means_forth o (value.entry k' v' es) a k v (inr h) =
    let r = means_forth o es a.2 k v h in
    (r.0, r.1, entry_put o (normal o k') (normal o v') (normal_entries o es) r.0 r.1 (inr r.2), r.3, r.4)

means_back : (o : KeyOrder) (es : Entries) → AllIn (Means o) es → (k v : Value) → HasEntry (entries_of (normal_entries o es)) k v → IsSameOf es k v
means_back o value.no_entries a k v h = absurd h
means_back o (value.entry k' v' es) a k v h = elim (put_entry_has o (normal o k') (normal o v') (normal_entries o es) k v h) [
  | inl e ↦ (k', v', inl (refl, refl), subst (λ u. Same k' u) (sym e.0) a.0, subst (λ u. Same v' u) (sym e.1) a.1)
  | inr g ↦ let r = means_back o es a.2 k v g in (r.0, r.1, inr r.2, r.3, r.4)
]

means_all : (o : KeyOrder) (vs : Values) → AllOf (Means o) vs → SameValues vs (values_of (normal_all o vs))
means_all o value.no_values a = tt
means_all o (value.a_value v vs) a = (a.0, means_all o vs a.1)

pub value_of-normal : (o : KeyOrder) (v : Value) → Same v (value_of (normal o v))
value_of-normal o = by_cases {P = Means o} (record {
  at_unsigned = λ n. refl;
  at_negative = λ n. refl;
  at_bytes = λ s. refl;
  at_text = λ s. refl;
  at_array = λ vs a. means_all o vs a;
  at_map = λ es a. Same-maps es (entries_of (normal_entries o es)) (record { forth = means_forth o es a; back = means_back o es a });
  at_tag = λ n v p. (refl, p);
  at_simple = λ n. refl;
})

-- ---- the depth

abbrev AsDeep : KeyOrder → Value → Type 0
AsDeep o v = depth (normal o v) ≡ value.depth v

depth-put_entry : (o : KeyOrder) (k v : Spelling) (es : SpelledEntries) → depth_entries (put_entry o k v es) ≡ max (max (depth k) (depth v)) (depth_entries es)
depth-put_entry o k v es = by_put o k v (λ es put. depth_entries put ≡ max (max (depth k) (depth v)) (depth_entries es)) refl (λ k' v' es. refl) (λ k' v' es put ih. omega (arith, ih)) es

deep_all : (o : KeyOrder) (vs : Values) → AllOf (AsDeep o) vs → depth_all (normal_all o vs) ≡ value.depth_all vs
deep_all o value.no_values a = refl
deep_all o (value.a_value v vs) a = let e = a.0 in let r = deep_all o vs a.1 in λ i. max (e i) (r i)

deep_entries : (o : KeyOrder) (es : Entries) → AllIn (AsDeep o) es → depth_entries (normal_entries o es) ≡ value.depth_entries es
deep_entries o value.no_entries a = refl
deep_entries o (value.entry k v es) a =
    let r = deep_entries o es a.2 in
    depth-put_entry o (normal o k) (normal o v) (normal_entries o es) ∙ (λ i. max (max (a.0 i) (a.1 i)) (r i))

pub depth-normal : (o : KeyOrder) (v : Value) → depth (normal o v) ≡ value.depth v
depth-normal o = by_cases {P = AsDeep o} (record {
  at_unsigned = λ n. refl;
  at_negative = λ n. refl;
  at_bytes = λ s. refl;
  at_text = λ s. refl;
  at_array = λ vs a. ap suc (deep_all o vs a);
  at_map = λ es a. ap suc (deep_entries o es a);
  at_tag = λ n v p. ap suc p;
  at_simple = λ n. refl;
})
