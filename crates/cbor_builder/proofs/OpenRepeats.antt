-- Which repeated key is reported, from the innermost out.
use Rattle.std.proofs.Common.{◌≡◌, ℕ, suc, ◌+◌, ◌-◌, ◌^◌, ◌<◌, ◌≤◌, List, [], ◌∷◌, ◌++◌, length, drop, map, Option, Some, None, Bool, true, false, refl, sym, ap, ◌∙◌, subst, arith, inl, inr, IsTrue, MatchOption, IfSome, ◌↔◌}
use Rattle.std.{specs.Option.option_or, specs.Bool.then_some, proofs.lemmas.List.length-map, proofs.lemmas.List.drop_all}
use Rattle.cbor_head.specs.{Prelude.Pair, declared.order.KeyOrder.KeyOrder}
use Rattle.theory_values.{specs.Parts.Open, proofs.Sorting.rising_distinct}
use Rattle.cbor_builder.specs.Built.{HasKey, IsRepeatedKey, IsRepeatReported, keys_so_far, open_maps, AreAllDifferent, IsFirstRepeat}
use Rattle.cbor_builder.specs.inner.Laid.{pairs_from, shape_open, Fits}
use Rattle.cbor_builder.specs.inner.Repeats.{first_of, maps_of, outward, ReportsOf, ReportsWithin, Reports, IsBelow}
use Rattle.cbor_builder.specs.declared.frame.Shape.TheVariants.{Plain, Map, Key}
use Rattle.cbor_builder.proofs.KeysSoFar.{first_more, waits_repeated, waits_alone, distinct_different}
use Rattle.cbor_builder.specs.{inner.Spans.span_pair, declared.span.Span.Span, inner.Prefix.key_of, declared.frame.Shape.Shape, declared.repeat.Repeat.Repeat}
use Rattle.cbor_builder.proofs.{Growth.count, Neighbours.keys, Neighbours.keys-map}

-- ---- from the innermost out

pub reports_outward : (c : Open) (os whole : List Open) (own : Option ℕ) (found : Option Repeat) (maps : ℕ) → ReportsOf c own → maps + open_maps os ≡ open_maps (c ∷ os)
    → ReportsWithin whole (c ∷ os) found → ReportsWithin whole os (outward own found maps)
reports_outward c os whole (Some pair) found maps o e h = ((λ a b t. h.0 a b (inl t)), λ d. let none : open_maps os ≡ 0 + open_maps os = omega arith in subst (λ (n : ℕ). IsRepeatReported whole n pair) none (h.0 (open_maps os) pair (inr (d, refl, o))))
reports_outward c os whole None (Some t) maps o e h =
    let all : t.outside + open_maps (c ∷ os) ≡ t.outside + maps + open_maps os = omega (arith, e) in
    ((λ a b t. h.0 a b (inl t)), λ d. subst (λ (n : ℕ). IsRepeatReported whole n t.pair) all (h.1 (o, d)))
reports_outward c os whole None None maps o e h = ((λ a b t. h.0 a b (inl t)), λ d. h.1 (o, d))

pub reports_first : (c : Open) (os : List Open) (own : Option ℕ) → ReportsOf c own → ReportsWithin (c ∷ os) os (outward own None 0)
reports_first c os (Some pair) o = ((λ a b t. inl t), λ d. inr (d, omega arith, o))
reports_first c os None o = ((λ a b t. inl t), λ d. (o, d))

pub reports_all : (whole : List Open) (found : Option Repeat) → ReportsWithin whole [] found → Reports whole found
reports_all whole None h = h.1 tt
reports_all whole (Some t) h = let e : t.outside + 0 ≡ t.outside = omega arith in subst (λ (n : ℕ). IsRepeatReported whole n t.pair) e (h.1 tt)

pub maps_more : (out : List ℕ) (ss : List Span) (start : ℕ) (s : Shape) (os : List Open) → maps_of s + open_maps os ≡ open_maps (shape_open out ss start s ∷ os)
maps_more out ss start Plain os = omega arith
maps_more out ss start s os = omega arith

-- ---- the number of maps

maps_least : (s : Shape) → maps_of s ≤ 1
maps_least Plain = omega arith
maps_least s = omega arith

pub below_fits : (found : Option Repeat) (s : Shape) (n : ℕ) → n < 2 ^ 63 → IsBelow found n → IfSome found (λ (t : Repeat). t.outside + maps_of s < 2 ^ 64)
below_fits None s n l h = tt
below_fits (Some t) s n l h = omega (arith, l, h, maps_least s)

pub below_outward : (own : Option ℕ) (found : Option Repeat) (s : Shape) (n : ℕ) → IsBelow found n → IsBelow (outward own found (maps_of s)) (suc n)
below_outward (Some pair) found s n h = omega arith
below_outward None (Some t) s n h = omega (arith, h, maps_least s)
below_outward None None s n h = tt

pub below_first : (own : Option ℕ) (n : ℕ) → IsBelow (outward own None 0) n
below_first (Some pair) n = omega arith
below_first None n = tt

-- ---- of what is open

-- its keys, without one that waits
abbrev pub own_keys : List ℕ → List Span → Shape → List (List ℕ)
own_keys out ss s = map (key_of out) (drop (first_of ss s) ss)

no_repeats : (ks : List (List ℕ)) → ks ≡ [] → AreAllDifferent ks
no_repeats ks e = subst AreAllDifferent (sym e) (λ i t. absurd (omega (arith, t.2)))

none_of : {X : Type 0} (f : Span → X) (ss : List Span) → map f (drop (length ss) ss) ≡ []
none_of f ss = ap (map f) (drop_all (length ss) ss (omega arith))

pairs_keys : (out : List ℕ) (ss : List Span) (first : ℕ) → keys (pairs_from out ss first) ≡ map (key_of out) (drop first ss)
pairs_keys out ss first = keys-map (span_pair out) (drop first ss)

-- no key waits
without_key : (ks : List (List ℕ)) (r : Option ℕ) (waits : Bool) (count : ℕ) → MatchOption r (AreAllDifferent ks) (IsFirstRepeat ks) → (IsTrue waits → ⊥)
    → MatchOption (option_or r (then_some waits count)) (AreAllDifferent ks) (IsFirstRepeat ks)
without_key ks None true count h w = absurd (w refl)
without_key ks r waits count h w = h

with_key : (ps : List Pair) (k : List ℕ) (r : Option ℕ) (waits : Bool) (count : ℕ) → count ≡ length (keys ps) → MatchOption r (AreAllDifferent (keys ps)) (IsFirstRepeat (keys ps))
    → (IsTrue waits ↔ HasKey ps k) → MatchOption (option_or r (then_some waits count)) (AreAllDifferent (keys ps ++ k ∷ [])) (IsFirstRepeat (keys ps ++ k ∷ []))
with_key ps k (Some m) waits count e h w = first_more (keys ps) k m h
with_key ps k None true count e h w = subst (IsFirstRepeat (keys ps ++ k ∷ [])) (sym e) (waits_repeated ps k h (w.0 refl))
with_key ps k None false count e h w = waits_alone ps k h (λ g. let t : false ≡ true = w.1 g in cc)

count_keys : (out : List ℕ) (ss : List Span) (first n : ℕ) → n ≡ length ss - first → n ≡ length (keys (pairs_from out ss first))
count_keys out ss first n e = count out ss first n e ∙ sym (length-map (pairs_from out ss first) (λ (p : Pair). p.key))

-- what is found among the spans of its pairs, and for the key that waits, is what is reported
pub shape_reports : (out : List ℕ) (ss : List Span) (start count : ℕ) (s : Shape) (r : Option ℕ) (waits : Bool) (os : List Open) → count ≡ length ss - first_of ss s
    → MatchOption r (AreAllDifferent (own_keys out ss s)) (IsFirstRepeat (own_keys out ss s)) → (IsTrue waits ↔ IsRepeatedKey (shape_open out ss start s ∷ os))
    → MatchOption (option_or r (then_some waits count)) (AreAllDifferent (keys_so_far (shape_open out ss start s))) (IsFirstRepeat (keys_so_far (shape_open out ss start s)))
shape_reports out ss start count (Map first) r w os e h k =
    without_key (keys (pairs_from out ss first)) r w count (coe 1 0 (i. MatchOption r (AreAllDifferent (pairs_keys out ss first i)) (IsFirstRepeat (pairs_keys out ss first i))) h) k.0
shape_reports out ss start count (Key first at) r w os e h k =
    with_key (pairs_from out ss first) (drop at out) r w count (count_keys out ss first count e) (coe 1 0 (i. MatchOption r (AreAllDifferent (pairs_keys out ss first i)) (IsFirstRepeat (pairs_keys out ss first i))) h) k
shape_reports out ss start count s r w os e h k =
    coe 0 1 (i. MatchOption (option_or r (then_some w count)) (AreAllDifferent (none_of (key_of out) ss i)) (IsFirstRepeat (none_of (key_of out) ss i))) (without_key (own_keys out ss s) r w count h k.0)

-- keys that rise differ
pub rising_different : (o : KeyOrder) (out : List ℕ) (ss : List Span) (from start : ℕ) (rises : Bool) (s : Shape) → Fits o out ss from start rises s → IsTrue rises → AreAllDifferent (own_keys out ss s)
rising_different o out ss from start rises (Map first) f t =
    subst AreAllDifferent (pairs_keys out ss first) (distinct_different (pairs_from out ss first) (rising_distinct o (pairs_from out ss first) (f.2 t)))
rising_different o out ss from start rises (Key first at) f t =
    subst AreAllDifferent (pairs_keys out ss first) (distinct_different (pairs_from out ss first) (rising_distinct o (pairs_from out ss first) (f.3 t)))
rising_different o out ss from start rises s f t = no_repeats (own_keys out ss s) (none_of (key_of out) ss)

-- ---- from what calls ensure

pub reported_of : (out : List ℕ) (ss : List Span) (start first count : ℕ) (s : Shape) (r x waiting : Option ℕ) (waits : Bool) (os : List Open) → first ≡ first_of ss s → count ≡ length ss
    → MatchOption r (AreAllDifferent (own_keys out ss s)) (IsFirstRepeat (own_keys out ss s)) → (IsTrue waits ↔ IsRepeatedKey (shape_open out ss start s ∷ os))
    → waiting ≡ then_some waits (count - first) → x ≡ option_or r waiting
    → MatchOption x (AreAllDifferent (keys_so_far (shape_open out ss start s))) (IsFirstRepeat (keys_so_far (shape_open out ss start s)))
reported_of out ss start first count s r x waiting waits os ef ec h k ew ex =
    coe 1 0 (i. MatchOption ((ex ∙ ap (option_or r) ew) i) (AreAllDifferent (keys_so_far (shape_open out ss start s))) (IsFirstRepeat (keys_so_far (shape_open out ss start s)))) (shape_reports out ss start (count - first) s r waits os (λ i. ec i - ef i) h k)
