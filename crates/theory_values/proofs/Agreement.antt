-- Values that are the same have the same canonical bytes.
use Rattle.std.proofs.Common.{◌≡◌, suc, ◌++◌, length, refl, sym, ap, ◌∙◌, subst, flat_map}
use Rattle.cbor_head.specs.Prelude.{shortest_head, Value, Values, Entries, map, no_values, a_value, HasEntry, Same, SameValues, values_count, AreInRange, AreValid, Pair, in_order, canonical, canonical_all, canonical_entries}
use Rattle.cbor_head.specs.Value.{unsigned, negative, bytes, text, array, tag, simple, entries_count}
use Rattle.cbor_head.specs.declared.major.Major.TheVariants.{Array, Map, Tag}
use Rattle.cbor_head.specs.declared.order.KeyOrder.{KeyOrder}
use Rattle.theory_values.proofs.Induction.{AllOf, AllIn, AllIn-at, by_cases}
use Rattle.theory_values.proofs.Sound.{IsSound, sound, sound_at}
use Rattle.theory_values.proofs.Reported.{pair_of, pair_in, in_pair, length-canonical_entries, distinct_bytes}
use Rattle.theory_values.proofs.{Members.In, Sorting.in_order_same, Sorting.length-in_order, Sameness.SameMaps, Sameness.same_maps}
use Rattle.theory_values.specs.Pairs.{pair_bytes}

abbrev HasOneEncoding : KeyOrder → Value → Type 0
HasOneEncoding o v = (w : Value) → IsSound v → IsSound w → Same v w → canonical o v ≡ canonical o w

agrees_array : (o : KeyOrder) (vs : Values) → AllOf (HasOneEncoding o) vs → (ws : Values) → AreInRange vs × AreValid vs → AreInRange ws × AreValid ws → SameValues vs ws
    → (values_count vs ≡ values_count ws) × (canonical_all o vs ≡ canonical_all o ws)
agrees_array o no_values a no_values h g s = (refl, refl)
agrees_array o no_values a (a_value w ws) h g s = absurd s
agrees_array o (a_value v vs) a no_values h g s = absurd s
agrees_array o (a_value v vs) a (a_value w ws) h g s =
    let one = a.0 w (sound v h.0.0 h.1.0) (sound w g.0.0 g.1.0) s.0 in
    let rest = agrees_array o vs a.1 ws (h.0.1, h.1.1) (g.0.1, g.1.1) s.1 in
    (ap suc rest.0, λ i. one i ++ rest.1 i)

agrees_map : (o : KeyOrder) (es : Entries) → AllIn (HasOneEncoding o) es → (fs : Entries) → IsSound (map es) → IsSound (map fs) → SameMaps es fs → canonical o (map es) ≡ canonical o (map fs)
agrees_map o es a fs h g s =
    λ i. shortest_head Map (count i) ++ flat_map pair_bytes (sorted i)
  where
    visited : (k v k' v' : Value) → HasEntry es k v → HasEntry fs k' v' → Same k k' → Same v v' → pair_of o k v ≡ pair_of o k' v'
    visited k v k' v' m n p q =
        let b = AllIn-at (HasOneEncoding o) es k v a m in
        let x = sound_at es k v h.range.1 h.valid.0 m in
        let y = sound_at fs k' v' g.range.1 g.valid.0 n in
        let ke = b.0 k' x.0 y.0 p in
        let ve = b.1 v' x.1 y.1 q in
        λ i. record { key = ke i; value = ve i }

    forth : (p : Pair) → In p (canonical_entries o es) → In p (canonical_entries o fs)
    forth p m =
        let r = in_pair o es p m in
        let t = s.forth r.0 r.1 r.2 in
        subst (λ (q : Pair). In q (canonical_entries o fs)) (sym (visited r.0 r.1 t.0 t.1 r.2 t.2 t.3 t.4) ∙ sym r.3) (pair_in o fs t.0 t.1 t.2)

    back : (p : Pair) → In p (canonical_entries o fs) → In p (canonical_entries o es)
    back p m =
        let r = in_pair o fs p m in
        let t = s.back r.0 r.1 r.2 in
        subst (λ (q : Pair). In q (canonical_entries o es)) (visited t.0 t.1 r.0 r.1 t.2 r.2 t.3 t.4 ∙ sym r.3) (pair_in o es t.0 t.1 t.2)

    sorted : in_order o (canonical_entries o es) ≡ in_order o (canonical_entries o fs)
    sorted =
        in_order_same o (canonical_entries o es) (canonical_entries o fs) (distinct_bytes o es h.range.1 h.valid.1) (distinct_bytes o fs g.range.1 g.valid.1)
        forth back

    count : entries_count es ≡ entries_count fs
    count = sym (length-canonical_entries o es) ∙ sym (length-in_order o (canonical_entries o es)) ∙ ap length sorted ∙ length-in_order o (canonical_entries o fs) ∙ length-canonical_entries o fs

pub canonical_agrees : (o : KeyOrder) (v w : Value) → IsSound v → IsSound w → Same v w → canonical o v ≡ canonical o w
canonical_agrees o = by_cases {P = HasOneEncoding o} (record {
  at_unsigned = λ n. elim [ unsigned m ↦ λ h g s. ap (λ k. canonical o (unsigned k)) s | _ ↦ λ h g s. absurd s ];
  at_negative = λ n. elim [ negative m ↦ λ h g s. ap (λ k. canonical o (negative k)) s | _ ↦ λ h g s. absurd s ];
  at_bytes = λ n. elim [ bytes m ↦ λ h g s. ap (λ k. canonical o (bytes k)) s | _ ↦ λ h g s. absurd s ];
  at_text = λ n. elim [ text m ↦ λ h g s. ap (λ k. canonical o (text k)) s | _ ↦ λ h g s. absurd s ];
  at_array = λ vs a. elim [
    | array ws ↦ λ h g s. let r = agrees_array o vs a ws (h.range.1, h.valid) (g.range.1, g.valid) s in λ i. shortest_head Array (r.0 i) ++ r.1 i
    | _ ↦ λ h g s. absurd s
  ];
  at_map = λ es a. elim [ map fs ↦ λ h g s. agrees_map o es a fs h g (same_maps es fs s) | _ ↦ λ h g s. absurd s ];
  at_tag = λ n v p. elim [
    | tag m w ↦ λ h g s. let r = p w (sound v h.range.1 h.valid) (sound w g.range.1 g.valid) s.1 in λ i. shortest_head Tag (s.0 i) ++ r i
    | _ ↦ λ h g s. absurd s
  ];
  at_simple = λ n. elim [ simple m ↦ λ h g s. ap (λ k. canonical o (simple k)) s | _ ↦ λ h g s. absurd s ];
})
