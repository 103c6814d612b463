-- The sink that finds equal keys is given the parts of an item: its position after each.
use Rattle.std.proofs.Common.{◌≡◌, ℕ, zero, suc, ◌^◌, ◌<◌, Bool, true, false, List, [], ◌∷◌, refl, sym, ap, ◌∙◌, subst, inl, inr, arith, ◌⊎◌, ◌↔◌, IsNone, Option, Result, Ok, Err, IfOk}
use Rattle.std.proofs.lemmas.Bool.{false≢true}
use Rattle.cbor_head.specs.Prelude.{canonical, Spelling, array, a_map, value_of, Value}
use Rattle.cbor_head.specs.declared.order.KeyOrder.{KeyOrder}
use Rattle.theory_values.specs.Parts.{IsInContainer, Open, plain, give, close}
use Rattle.cbor_builder.specs.Built.{Built, built, HasDistinctKeysSoFar, TakesPart, around}
use Rattle.cbor_builder.specs.declared.repeat.Repeat.{Repeat}
use Rattle.theory_verdicts.specs.Given.{level_open, opens, IsFull}
use Rattle.theory_verdicts.specs.Levels.{Level, some_member, some_key, AreLevels, ParseState, item_full, settle}
use Rattle.cbor_parser.specs.Sink.{key_expected, is_map, Reported, IsEndedAs, Fills, AgreesAsFull, IsItemExpected, IsContainerFull, Gives, Ends}
use Rattle.cbor_parser.proofs.CanonGiven.{full-indefinite}
use Rattle.cbor_reader.proofs.KeysKept.{in_key-is, item-kept, takes-part, value-takes, inside-few, innermost, may-end, IsAfter, map-ended, other-ended, inner-ended, inner-takes}
use Rattle.cbor_reader.specs.inner.KeyBytes.{is_open_map, in_key, kept, kept_all, one_more, inside, is_kept, after_item, with_item, KeepsAt, keys_agree}
use Rattle.cbor_reader.specs.declared.key_bytes.KeyBytes.{KeyBytes}

-- ---- an item

pub agrees-by : (o p : KeyOrder) (os xs : List Open) (n m : ℕ) (st : ParseState) → p ≡ o → xs ≡ os → m ≡ n → KeepsAt o os n st → KeepsAt p xs m st
agrees-by o p os xs n m st e f g h =
    subst (λ (y : KeyOrder). KeepsAt y xs m st) (sym e) (subst (λ (y : List Open). KeepsAt o y m st) (sym f) (subst (λ (y : ℕ). KeepsAt o os y st) (sym g) h))

pub takes : (k : Bool) (g : KeyBytes) → IsItemExpected KeyBytes keys_agree k g → TakesPart g.builder.open_levels
takes k g (start, d, ls, space, at) = subst TakesPart (sym at.0.0) (takes-part g.builder.order d ls space.levels space.short)

-- after a key
pub key-takes : (k : Bool) (b : List ℕ) (g new : KeyBytes) → IsItemExpected KeyBytes keys_agree k g → is_kept g.inside k ≡ true → new.builder ≡ built g.builder.order (give b g.builder.open_levels)
    → g.inside ≡ 0 → TakesPart new.builder.open_levels
key-takes k b g new (start, d, ls, space, at) keeps is none =
    let reported : is_kept g.inside k ≡ is_kept (inside ls) (key_expected ls) = λ i. is_kept (at.0.1 i) (at.1 i) in
    subst TakesPart (sym (ap (λ (x : Built). x.open_levels) is ∙ ap (give b) at.0.0)) (value-takes g.builder.order ls b (sym at.0.1 ∙ none) (sym reported ∙ keeps))

pub few : (k : Bool) (g : KeyBytes) → IsItemExpected KeyBytes keys_agree k g → g.inside < 2 ^ 63
few k g (start, d, ls, space, at) = let short = space.short in omega (arith, at.0.1, inside-few ls, short)

given : (k : Bool) (v : Value) (b : List ℕ) (old new : KeyBytes) → ((o : KeyOrder) → canonical o v ≡ b) → new.builder.order ≡ old.builder.order → new.builder.open_levels ≡ with_item old.inside k b old.builder.open_levels → new.inside ≡ old.inside
    → Gives KeyBytes keys_agree k v old new
given k v b old new same order is stays start d ls s at done e =
    let o = old.builder.order in
    let bytes : b ≡ canonical o (value_of s) = sym (same o) ∙ ap (canonical o) (sym e) in
    let reported : with_item old.inside k b old.builder.open_levels ≡ with_item (inside ls) (key_expected ls) (canonical o (value_of s)) (kept_all o ls) = λ i. with_item (at.0.1 i) (at.1 i) (bytes i) (at.0.0 i) in
    agrees-by o new.builder.order _ new.builder.open_levels _ new.inside (settle ls s) order
    (is ∙ reported) (stays ∙ at.0.1)
    (item-kept o d ls s done.levels done.taken (omega (arith, done.short)))

-- it is stored
pub with-kept : (n : ℕ) (k : Bool) (b : List ℕ) (os : List Open) → is_kept n k ≡ true → after_item n (give b os) ≡ with_item n k b os
with-kept zero false b os e = absurd (false≢true e)
with-kept _ _ b os e = refl

pub with-left : (n : ℕ) (k : Bool) (b : List ℕ) (os : List Open) → is_kept n k ≡ false → os ≡ with_item n k b os
with-left zero false b os e = refl
with-left _ _ b os e = absurd (false≢true (sym e))

pub given-kept : (k : Bool) (v : Value) (b : List ℕ) (old new : KeyBytes) (mid : Built) → ((o : KeyOrder) → canonical o v ≡ b) → is_kept old.inside k ≡ true → mid ≡ built old.builder.order (give b old.builder.open_levels)
    → new.builder ≡ built mid.order (after_item old.inside mid.open_levels) → new.inside ≡ old.inside → Gives KeyBytes keys_agree k v old new
given-kept k v b old new mid same keeps is following stays =
    let all = following ∙ ap (λ (x : Built). built x.order (after_item old.inside x.open_levels)) is ∙ ap (built old.builder.order) (with-kept old.inside k b old.builder.open_levels keeps) in
    given k v b old new same (ap (λ (x : Built). x.order) all) (ap (λ (x : Built). x.open_levels) all) stays

pub given-left : (k : Bool) (v : Value) (b : List ℕ) (old : KeyBytes) → ((o : KeyOrder) → canonical o v ≡ b) → is_kept old.inside k ≡ false → Gives KeyBytes keys_agree k v old old
given-left k v b old same lacks = given k v b old old same refl (with-left old.inside k b old.builder.open_levels lacks) refl

-- ---- containers

-- one of indefinite length has no more members
ended-as : (o : KeyOrder) (l : Level) (s : Spelling) → IsEndedAs l s → (is_open_map (level_open o l) ≡ is_map s) × (key_expected (l ∷ []) ≡ is_map s)
ended-as o (some_member done) (array w ss) e = (refl, refl)
ended-as o (some_key done) (a_map w es) e = (refl, refl)
ended-as o l s e = absurd e

indefinite : (o : KeyOrder) (d : ℕ) (ls : List Level) (l : Level) (s : Spelling) → AreLevels d (l ∷ ls) → IsEndedAs l s → Fills false d ls s → (e : ℕ) × IsFull o e (level_open o l) s
indefinite o d ls l s levels ended fills =
    let at = (full-indefinite (built o []) (built o (opens o (l ∷ ls))) d ls l s (refl, refl) levels ended fills).1 in
    (at.0, subst (λ (c : Open). IsFull o at.0 c s) (sym (ap innermost at.3)) at.2)

pub full-at : (k : Bool) (d : ℕ) (start g : KeyBytes) (ls : List Level) (s : Spelling) → Fills false d ls s → AgreesAsFull KeyBytes (Reported KeyBytes keys_agree k) d start g ls s → Reported KeyBytes keys_agree k start g (item_full ls s)
full-at k d start g ls s fills (inl at) = at
full-at k d start g ls s fills (inr (l, ended, levels, at)) =
    let o = g.builder.order in
    let like = ended-as o l s ended in
    let full = indefinite o d ls l s levels ended fills in
    ((full.0, level_open o l, full.1, like.0, at.0.0, at.0.1), at.1 ∙ like.1)

-- it may end, if it is in a key or is a map
pub in-container : (k : Bool) (g : KeyBytes) → IsContainerFull KeyBytes keys_agree false k g → (0 < g.inside) ⊎ (k ≡ true) → IsInContainer g.builder.open_levels
in-container k g (start, d, ls, s, fills, full) h =
    let at = full-at k d start g ls s fills full in
    let kind : (0 < one_more (in_key ls) (inside ls)) ⊎ (is_open_map at.0.1 ≡ true) = elim h [ inl some ↦ inl (subst (λ (n : ℕ). 0 < n) at.0.5 some) | inr e ↦ inr (at.0.3 ∙ sym at.1 ∙ e) ] in
    subst IsInContainer (sym at.0.4) (may-end g.builder.order at.0.1 ls at.0.2.container kind)

pub end-takes : (k : Bool) (m : ℕ) (old new : KeyBytes) → IsContainerFull KeyBytes keys_agree false k old → new.builder ≡ built old.builder.order (close old.builder.order old.builder.open_levels) → suc m ≡ old.inside → m ≡ 0
    → TakesPart new.builder.open_levels
end-takes k m old new (start, d, ls, s, fills, full) is some none =
    let at = full-at k d start old ls s fills full in
    let o = old.builder.order in
    subst TakesPart (sym (ap (λ (x : Built). x.open_levels) is ∙ ap (close o) at.0.4)) (inner-takes o at.0.1 ls m (some ∙ at.0.5) none)

ended : (k : Bool) (old new : KeyBytes) → new.builder.order ≡ old.builder.order
    → ((ls : List Level) (c : Open) → IsInContainer (c ∷ plain [] ∷ []) → is_open_map c ≡ k → old.builder.open_levels ≡ kept (in_key ls) c (kept_all old.builder.order ls) → old.inside ≡ one_more (in_key ls) (inside ls)
    → IsAfter old.builder.order (inside ls) (key_expected ls) c (kept_all old.builder.order ls) new.builder.open_levels new.inside)
    → Ends KeyBytes keys_agree false k old new
ended k old new order path start d ls s fills stood =
    let o = old.builder.order in
    let at = full-at k d start old ls s fills stood in
    let full = at.0.2 in
    let following = path ls at.0.1 (full.container (plain []) []) (at.0.3 ∙ sym at.1) at.0.4 at.0.5 in
    let clean = full.clean following.differ in
    let short = fills.short in (
      clean,
      agrees-by o new.builder.order _ new.builder.open_levels _ new.inside (settle ls s) order (following.holds ∙ ap (λ (b : List ℕ). with_item (inside ls) (key_expected ls) b (kept_all o ls)) full.canonical_is) following.count
          (item-kept o d ls s fills.levels (record { spelled = fills.spelled; within = fills.within; clean = clean }) (omega (arith, short))),
    )

ended-map : (k : Bool) (old new : KeyBytes) → k ≡ true → old.inside ≡ 0 → HasDistinctKeysSoFar old.builder.open_levels → new.builder ≡ built old.builder.order (around old.builder.open_levels) → new.inside ≡ old.inside
    → Ends KeyBytes keys_agree false k old new
ended-map k old new keeps none distinct is stays =
    ended k old new (ap (λ (x : Built). x.order) is)
    (λ ls c inner like at n.
    let o = old.builder.order in
    let following = map-ended o (in_key ls) (inside ls) (key_expected ls) c (kept_all o ls) (in_key-is ls) (sym n ∙ none) (like ∙ keeps) (subst HasDistinctKeysSoFar at distinct) in
    record { differ = following.differ; holds = ap (λ (x : Built). x.open_levels) is ∙ ap around at ∙ following.holds; count = stays ∙ none ∙ following.count })

pub ended-other : (k : Bool) (old new : KeyBytes) → k ≡ false → old.inside ≡ 0 → new.builder ≡ old.builder → new.inside ≡ old.inside → Ends KeyBytes keys_agree false k old new
ended-other k old new not none is stays =
    ended k old new (ap (λ (x : Built). x.order) is)
    (λ ls c inner like at n.
    let o = old.builder.order in
    let following = other-ended o (in_key ls) (inside ls) (key_expected ls) c (kept_all o ls) (in_key-is ls) (sym n ∙ none) (like ∙ not) inner in
    record { differ = following.differ; holds = ap (λ (x : Built). x.open_levels) is ∙ at ∙ following.holds; count = stays ∙ none ∙ following.count })

pub ended-inner : (k : Bool) (old new : KeyBytes) → suc new.inside ≡ old.inside → HasDistinctKeysSoFar old.builder.open_levels
    → new.builder ≡ built old.builder.order (after_item new.inside (close old.builder.order old.builder.open_levels)) → Ends KeyBytes keys_agree false k old new
ended-inner k old new some distinct is =
    ended k old new (ap (λ (x : Built). x.order) is)
    (λ ls c inner like at n.
    let o = old.builder.order in
    let following = inner-ended o (in_key ls) (inside ls) new.inside (key_expected ls) c (kept_all o ls) (in_key-is ls) (some ∙ n) (subst HasDistinctKeysSoFar at distinct) in
    record { differ = following.differ; holds = ap (λ (x : Built). x.open_levels) is ∙ ap (λ (os : List Open). after_item new.inside (close o os)) at ∙ following.holds; count = following.count })

pub map-ends : {E : Type 0} (r : Result (Option Repeat) E) (k : Bool) (old : KeyBytes) (new : Built) → k ≡ true → old.inside ≡ 0 → IfOk r (λ reported. IsNone reported ↔ HasDistinctKeysSoFar old.builder.open_levels)
    → IfOk r (λ reported. IsNone reported → new ≡ built old.builder.order (around old.builder.open_levels)) → IfOk r (λ reported. IsNone reported → Ends KeyBytes keys_agree false k old (record { builder = new; inside = old.inside }))
map-ends (Ok reported) k old new keeps none x y = λ t. ended-map k old (record { builder = new; inside = old.inside }) keeps none (x.0 t) (y t) refl
map-ends (Err e) k old new keeps none x y = tt
