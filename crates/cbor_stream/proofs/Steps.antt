-- One step of the machine, and what is made of it.
use Rattle.std.proofs.Common.{◌≡◌, ℕ, ◌+◌, ◌<◌, ◌≤◌, ◌↔◌, Bool, true, List, ◌++◌, length, take, sym, ap, ◌∙◌, subst, arith, length-take-le, Ok, Err, None}
use Rattle.cbor_head.specs.Prelude.{Bounds, AreBytes, refusal}
use Rattle.cbor_head.specs.declared.{event.Event.Event, reason.Reason.TheVariants.KeyKind, reason.Refusal.Refusal}
use Rattle.theory_values.proofs.ByteLists.{bytes_take}
use Rattle.theory_automaton.specs.{Reasons.IsMachineReason, Trace.Mark}
use Rattle.cbor_machine.specs.Machine.{Represents, KeepsLimits, IsComplete, IsGiven, IsResult, IsDone, IfRefused, wanted}
use Rattle.cbor_machine.specs.declared.step.Out.TheVariants as outs
use Rattle.cbor_machine.specs.{MachineView.MachineView, Steps.IsStep, declared.step.Step.Step, declared.step.Out.Out}
use Rattle.cbor_machine.proofs.NextEvents.{complete-wants}
use Rattle.cbor_strict.specs.{StrictReader.IsAgainstEvent, declared.open_items.OpenItems.OpenItems, inner.OpenItems.IsEventCome, inner.OpenItems.ReturnsEvent}
use Rattle.cbor_stream.specs.inner.Amid.{IsAmid, IsOffered, IsTaken, IsBasicFirst, IsOtherFirst, IsRefusedNow, IsStepResult, asks_of}
use Rattle.cbor_stream.proofs.StepResults.{event_judged, event_taken, event_withheld, kind_refused, follows_so, no_event}
use Rattle.cbor_stream.proofs.Offers.{start_of, one_of, all_of_one}
use Rattle.cbor_stream.proofs.{Amid.amid_represents, KeyKinds.HasStart}

pub if_refused : (out : Out) (P Q : Refusal → Type 0) → ((f : Refusal) → P f → Q f) → IfRefused out P → IfRefused out Q
if_refused (outs.Refused f) P Q h p = h f p
if_refused _ P Q h p = tt

module _ (is_key : Bool) (m new : MachineView) (v : OpenItems) (input : List ℕ) (step : Step) (small : AreBytes input) (first : is_key ≡ true → (length input ≡ 1) × (wanted m ≡ 1)) (within : step.used ≤ length input) (taken : new.taken ≡ m.taken + step.used) (limits : KeepsLimits m new)
    (exact : length input ≤ wanted m → step.used ≡ length input) (walked : m.refusal ≡ None → IsStep step.out m new (take step.used input)) (given : (t : List ℕ) (ms : List Mark) → Represents m t ms → IsResult step.out new t (take step.used input) ms) where
  abbrev bs : List ℕ
  bs = take step.used input

  are : AreBytes bs
  are = bytes_take step.used input small

  size : length bs ≡ step.used
  size = length-take-le step.used input within

  fits : m.taken + length bs ≤ new.bytes
  fits = omega (arith, size, taken, limits.taken)

  one : is_key ≡ true → (length input ≡ 1) × (step.used ≡ 1)
  one k =
      let i = first k in
      let used : step.used ≡ length input = exact (omega (arith, i.0, i.1)) in
      (i.0, used ∙ i.0)

  -- the event that is complete
  given_event : (ev : Event) → step.out ≡ outs.Event ev → (u : List ℕ) (ns : List Mark) → Represents m u ns → IsGiven ev new u bs ns
  given_event ev is u ns h = subst (λ (o : Out). IsResult o new u bs ns) is (given u ns h)

  module _ (b : Bounds) (t : List ℕ) (ms : List Mark) (a : IsAmid m v b t ms) where
    -- it may be judged
    pub event_come_here : (ev : Event) → step.out ≡ outs.Event ev → 0 < step.used → (count read : ℕ) → count ≡ new.open_count → read ≡ new.taken → IsEventCome v ev bs count read
    event_come_here ev is some count read counted all = event_judged m new v b t bs ms a limits are ev (omega (arith, size, some)) (given_event ev is) count read counted all

    module _ (offered : IsOffered is_key b v a.since step.used) (basic : is_key ≡ true → IsTaken step.out m.taken → IsBasicFirst input) where
      start : HasStart (IsTaken step.out m.taken) (asks_of b.keys v) a.since bs
      start = start_of (IsTaken step.out m.taken) is_key b v a.since input step.used offered one basic

      -- no event is complete
      pub no_event_here : ((e : Event) → step.out ≡ outs.Event e → ⊥) → IsDone step.out ↔ IsComplete m → (IsComplete m → (step.used ≡ 0) × (new ≡ m)) → IfRefused step.out (λ f. new.taken ≡ f.read) → IfRefused step.out (λ f. IsMachineReason f.reason) → IsStepResult step.out new v b t bs ms
      no_event_here none done stays read reason =
          let s = amid_represents m v b t ms a in
          no_event m new v b t bs ms a limits are step.out (walked s.live) given none fits done (λ c. let k = stays c in (ap (λ (n : ℕ). take n input) k.0, k.1)) read reason start

      module _ (ev : Event) (is : step.out ≡ outs.Event ev) (some : 0 < step.used) (w : OpenItems) (order : w.order ≡ v.order) (count read : ℕ) (counted : count ≡ new.open_count) (all : read ≡ new.taken) where
        begun : HasStart (Unit {0}) (asks_of b.keys v) a.since bs
        begun = subst (λ (o : Out). HasStart (IsTaken o m.taken) (asks_of b.keys v) a.since bs) is start

        pub event_here : (u : Unit {0}) → ReturnsEvent v w ev bs count read (Ok u) → IsStepResult (outs.Event ev) new w b t bs ms
        event_here u ans = event_taken m new v b t bs ms a limits are ev (omega (arith, size, some)) (given_event ev is) begun w order count read counted all u ans

        pub withheld_here : (f : Refusal) → IsAgainstEvent v.order f.reason → ReturnsEvent v w ev bs count read (Err f) → IsRefusedNow f new w b (t ++ bs) ms
        withheld_here f against ans = event_withheld m new v b t bs ms a limits are ev (omega (arith, size, some)) (given_event ev is) begun w order count read counted all f against ans

  -- a key of another kind
  pub other_here : (b : Bounds) (t : List ℕ) (ms : List Mark) (a : IsAmid m v b t ms) → IsOffered is_key b v a.since step.used → is_key ≡ true → IsTaken step.out m.taken → IsOtherFirst input → (f : Refusal) → f ≡ refusal KeyKind m.taken new.taken → IsRefusedNow f new v b (t ++ bs) ms
  other_here b t ms a offered key was other f is =
      let s = amid_represents m v b t ms a in
      let i = one key in
      let k = subst (λ (x : Bool). IsOffered x b v a.since step.used) key offered in
      let x = one_of input i.0 in
      let all = all_of_one step.used input i.0 i.1 in
      let no = subst IsOtherFirst x.alone other in
      let some : 0 < wanted m = omega (arith, (first key).1) in
      kind_refused m new v b t bs ms a limits are f (sym (ap (λ (y : Refusal). y.read) is)) (complete-wants m s.inner.shown some) k.1 k.0 x.byte (all ∙ x.alone) no.0 no.1 is (taken ∙ ap (λ (n : ℕ). m.taken + n) i.1)
      (follows_so m new v b t bs ms a limits are step.out (walked s.live) given was (size ∙ i.1))
