-- Why no more is reported: the refusal is that of the bytes consumed, and of what the reader held after
-- them.
use Rattle.std.proofs.Common.{◌≡◌, ℕ, ◌-◌, ◌<◌, ◌≤◌, ◌↔◌, Bool, true, false, true≢false, Option, None, List, [], ◌++◌, length, refl, sym, ap, ◌∙◌, subst, inl, inr, arith, append_assoc, Err, length-append}
use Rattle.cbor_head.specs.Prelude.{head, Bounds, spell, strict}
use Rattle.cbor_head.specs.declared.{order.KeyOrder.KeyOrder, reason.Reason.TheVariants.Memory, reason.Reason.TheVariants.KeyKind, reason.Refusal.Refusal}
use Rattle.cbor_head.specs.declared.keys.Keys.{Keys, TheVariants.IntegersAndTexts}
use Rattle.theory_values.proofs.ByteLists.{bytes_join}
use Rattle.theory_automaton.specs.{Reasons.IsEventReason, Trace.Mark}
use Rattle.cbor_machine.specs.NextEvent.{ItemEventsView, AgreesBetween, IsNext, call}
use Rattle.cbor_machine.{specs.Machine.IsComplete, proofs.Positions.no-payload, specs.NextKey.IsNextOf, specs.NextKey.IsKeyReason}
use Rattle.theory_verdicts.{specs.Kinds.KeepsToKinds, specs.Kinds.IsKeyExpected, proofs.ItemExpected.of_refused, proofs.ItemExpected.stopped-expected}
use Rattle.theory_verdicts.{proofs.RefusedAfter.stopped_by, specs.Frame.Frame, specs.Judged.IsJudged, specs.Reading.HasCause, specs.Reading.string_major}
use Rattle.theory_verdicts.proofs.{Payloads.none-come, Payloads.part-cut, ParseState.is-complete, Steps.SameLimits, Steps.stops}
use Rattle.theory_verdicts.{specs.RefusedAfter.IsRefusedAfter, proofs.CutHeads.string_cut}
use Rattle.cbor_strict.specs.inner.LastKeys.{view_value, from_outside, IsKept}
use Rattle.cbor_strict.specs.inner.OpenItems.{frames_in, bytes_before, Agrees, IsInString}
use Rattle.cbor_strict.{specs.declared.open_items.OpenItems.OpenItems, specs.StrictReader.StopsAtOnce, proofs.StrictReading.by_form}
use Rattle.cbor_strict.proofs.{OpenBegins.expects, OpenBegins.lift, StrictKinds.keeps_string}

module _ (v : OpenItems) (b : Bounds) (e new : ItemEventsView) (t : List ℕ) (from to : Option (List ℕ)) (f : Refusal) (asked : Bool) (same : SameLimits e.machine new.machine) (reason : IsKeyReason f.reason)
    (all : new.machine.taken ≡ f.read) (most : new.machine.taken ≤ new.machine.bytes) (keeps : KeepsToKinds b (strict v.order) t) where
  not_memory : f.reason ≡ Memory → ⊥
  not_memory e = elim reason [ inl h ↦ subst IsEventReason e h | inr h ↦ let two : Memory ≡ KeyKind = sym e ∙ h in cc two ]

  -- where a payload is open
  stopped_string : (h : IsInString v b e t) → ((u : List ℕ) (ms : List Mark) → AgreesBetween e.machine u ms → IsNext (Err f) (call e new from to u ms)) → ¬ IsComplete e.machine × IsRefusedAfter (strict v.order) b t from to f
  stopped_string h next =
      let m = string_major v.is_text in
      let k = none-come b false m (frames_in h.fs) t v.left [] from e h.at in
      let s = part-cut b false m (frames_in h.fs) t v.left [] [] from from e v.left k h.some to f (stops b e new (t ++ k.p) _ from to f k.at same (next (t ++ k.p) k.at.marks k.at.agrees).1) in
      elim s.why [
        | inl x ↦ absurd (not_memory x.0.0)
        | inr (inr x) ↦ absurd (true≢false (sym x.0))
        | inr (inl c) ↦
            let hd = head m h.w h.n in
            let y = bytes_before h.fs in
            let are = h.around.are in
            let count = h.count in
            let short = c.short in
            let there : t ++ c.p ≡ y ++ (hd ++ (h.q ++ c.p)) = ap (λ (z : List ℕ). z ++ c.p) h.taken ∙ append_assoc y (hd ++ h.q) c.p ∙ ap (λ (z : List ℕ). y ++ z) (append_assoc hd h.q c.p) in
            let joined = bytes_join h.q c.p h.are_bytes c.are_bytes in
            let j = string_cut h.w h.n (h.q ++ c.p) h.holds joined (omega (arith, short, count, length-append h.q c.p)) (strict v.order) (length y) (b.depth - length (frames_in h.fs)) v.is_text h.clean in
            let cause : HasCause (strict v.order) b [] [] (t ++ s.bytes) to f = record {
              p = t ++ c.p;
              last = c.last;
              splits = ap (λ (x : List ℕ). t ++ x) c.splits ∙ sym (append_assoc t c.p c.last);
              found = None;
              judged = subst (λ (x : List ℕ). IsJudged (strict v.order) 0 (b.depth - 0) x None) (sym there) (lift v.order b h.fs are h.around.distinct (hd ++ (h.q ++ c.p)) None j);
              cause = (c.place, c.refused);
            } in (
              (next t h.at.marks h.at.agrees).0,
              stopped_by (strict v.order) b t from to f s.bytes s.consumed s.read (inr cause)
                  (λ rest is. subst (KeepsToKinds b (strict v.order)) (sym there)
                  (keeps_string b (strict v.order) (from_outside h.fs) are.left are.levels are.path v.is_text h.w h.n h.q c.p h.holds joined (omega (arith, short, count, length-append h.q c.p))
                  (subst (KeepsToKinds b (strict v.order)) h.taken keeps))),
            )
      ]

-- whether a key is expected whose kind is judged, as the code knows it
pub record IsAsked (asked : Bool) (keys : Keys) (v : OpenItems) : Type 0 where
  pub expected : (fs : List Frame) (p : List ℕ) → IsKept (view_value v.keys) fs p → v.left ≡ 0 → (asked ≡ true) ↔ ((keys ≡ IntegersAndTexts) × IsKeyExpected (from_outside fs))
  pub payload : 0 < v.left → asked ≡ false

-- the events refuse
pub stopped_there : (v : OpenItems) (b : Bounds) (e new : ItemEventsView) (t : List ℕ) (from to : Option (List ℕ)) (f : Refusal) (asked : Bool) (keys : Keys) → SameLimits e.machine new.machine → IsKeyReason f.reason → new.machine.taken ≡ f.read → new.machine.taken ≤ new.machine.bytes
    → IsAsked asked keys v → b.keys ≡ keys → Agrees v b e t → KeepsToKinds b (strict v.order) t → (e.refusal ≡ None → (u : List ℕ) (ms : List Mark) → AgreesBetween e.machine u ms → IsNextOf asked (Err f) (call e new from to u ms)) → ¬ IsComplete e.machine × IsRefusedAfter (strict v.order) b t from to f
stopped_there v b e new t from to f asked keys same reason all most asks keys_are (inl h) keeps next =
    let expected = asks.expected h.fs [] h.kept h.none in
    stopped-expected (strict v.order) b t (frames_in h.fs) (expects v b t h.fs h.around h.taken keeps) e new from to asked f h.at same all most (λ a. ((refl, keys_are ∙ (expected.0 a).0), (expected.0 a).1)) (λ k d. expected.1 (sym keys_are ∙ k.1, d))
    (next h.at.live t h.at.marks h.at.agrees)
stopped_there v b e new t from to f asked keys same reason all most asks keys_are (inr (inl h)) keeps next =
    stopped_string v b e new t from to f asked same reason all most keeps h (λ u ms st. subst (λ (a : Bool). IsNextOf a (Err f) (call e new from to u ms)) (asks.payload h.some) (next h.at.live u ms st))
stopped_there v b e new t from to f asked keys same reason all most asks keys_are (inr (inr h)) keeps next =
    absurd (elim (of_refused asked f (call e new from to t h.at.marks) (next h.at.live t h.at.marks h.at.agrees)) [ inl n ↦ n.0.0 (is-complete b e t h.at) | inr k ↦ k.1.unfinished (is-complete b e t h.at) ])

-- no payload is open where a key is expected
pub no_payload : (v : OpenItems) (b : Bounds) (e : ItemEventsView) (t : List ℕ) (asked : Bool) (keys : Keys) → IsAsked asked keys v → Agrees v b e t → asked ≡ true → e.machine.in_payload ≡ false
no_payload v b e t asked keys asks (inl h) a = no-payload e.machine (frames_in h.fs) h.at.agrees.agrees.inner.shown h.at.state
no_payload v b e t asked keys asks (inr (inl h)) a = absurd (true≢false (sym a ∙ asks.payload h.some))
no_payload v b e t asked keys asks (inr (inr h)) a = absurd (((asks.expected [] (spell h.item) h.kept h.none).0 a).1)

-- no event is left out before it
pub at_once_there : (asked : Bool) (o : KeyOrder) (spans : ℕ) (f : Refusal) (e new : ItemEventsView) (from to : Option (List ℕ)) (t : List ℕ) (ms : List Mark) → IsNextOf asked (Err f) (call e new from to t ms) → StopsAtOnce o spans f (call e new from to t ms)
at_once_there asked o spans f e new from to t ms h = elim (of_refused asked f (call e new from to t ms) h) [ inl n ↦ by_form o spans f _ n.0.1 | inr k ↦ inr (inr (inr (inr k.1))) ]
