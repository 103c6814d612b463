-- A machine that is complete, or refused, says so at its first step.
use Rattle.std.proofs.Common.{◌≡◌, ◌⊎◌, ◌<◌, ◌∙◌, arith, ℕ, Option, Some, None, IfSome, inl, inr, refl, sym, subst}
use Rattle.cbor_head.specs.declared.{reason.Refusal.Refusal, event.Event.Event}
use Rattle.cbor_machine.specs.Machine.{IsComplete, IsDone, Stays}
use Rattle.cbor_machine.specs.declared.step.Out.TheVariants as outs
use Rattle.cbor_machine.specs.{MachineView.MachineView, declared.step.Step.Step}

-- neither, so that the first step reported an event
abbrev pub IsLive : MachineView → Type 0
IsLive m = (IsComplete m → ⊥) × (m.refusal ≡ None)

-- between two steps: none was made, or the machine was live
abbrev pub HasBegun : MachineView → MachineView → ℕ → ℕ → Type 0
HasBegun old now used reported = ((used ≡ 0) × (reported ≡ 0) × (now ≡ old)) ⊎ IsLive old

-- a machine that says so is complete, and stays it
pub done-following : (s : Step) (old new : MachineView) → Stays s old new → s.out ≡ outs.Done → IsComplete new
done-following s old new stays is =
    let before : IsComplete old = stays.done.0 (subst IsDone (sym is) tt) in
    subst IsComplete (sym (stays.complete before).1) before

pub not-more : (f : Refusal) → outs.More ≡ outs.Refused f → ⊥
not-more f q = cc q

pub not-done : (f : Refusal) → outs.Done ≡ outs.Refused f → ⊥
not-done f q = cc q

pub same-refusal : {f g : Refusal} → outs.Refused f ≡ outs.Refused g → f ≡ g
same-refusal q = cc q

not-event : (f : Refusal) (e : Event) → outs.Refused f ≡ outs.Event e → ⊥
not-event f e q = cc q

no-refusal : (o : Option Refusal) (s : Step) (now new : MachineView) (e : Event) → IfSome o (λ f. (s.out ≡ outs.Refused f) × (s.used ≡ 0) × (new ≡ now))
    → s.out ≡ outs.Event e → o ≡ None
no-refusal None s now new e h is = refl
no-refusal (Some f) s now new e h is = elim (not-event f e (sym h.0 ∙ is)) [ ]

pub live-then : (old now new : MachineView) (used reported : ℕ) (s : Step) (e : Event) → HasBegun old now used reported → Stays s now new → s.out ≡ outs.Event e → IsLive old
live-then old now new used reported s e (inr live) stays is = live
live-then old now new used reported s e (inl h) stays is = (
  λ c. subst IsDone is (stays.done.1 (subst IsComplete (sym h.2) c)),
  subst (λ (m : MachineView). m.refusal ≡ None) h.2 (no-refusal now.refusal s now new e stays.refused is),
)

pub complete-then : (old now new : MachineView) (used reported : ℕ) (s : Step) → HasBegun old now used reported → Stays s now new → IsComplete old
    → IsDone s.out × (s.used ≡ 0) × (used ≡ 0) × (new ≡ old)
complete-then old now new used reported s (inr live) stays c = elim (live.0 c) [ ]
complete-then old now new used reported s (inl h) stays c =
    let still : IsComplete now = subst IsComplete (sym h.2) c in
    (stays.done.1 still, (stays.complete still).0, h.0, (stays.complete still).1 ∙ h.2)

pub unrefused : (o : Option Refusal) (P : Refusal → Type 0) → o ≡ None → IfSome o P
unrefused o P e = subst (λ (x : Option Refusal). IfSome x P) (sym e) tt

refused-so : (o : Option Refusal) (now new : MachineView) (s : Step) (P : Refusal → Type 0) → ((f : Refusal) → s.out ≡ outs.Refused f → s.used ≡ 0 → new ≡ now → P f)
    → IfSome o (λ f. (s.out ≡ outs.Refused f) × (s.used ≡ 0) × (new ≡ now)) → IfSome o P
refused-so None now new s P to h = tt
refused-so (Some f) now new s P to h = to f h.0 h.1 h.2

pub refused-then : (old now new : MachineView) (used reported : ℕ) (s : Step) (P : Refusal → Type 0) → HasBegun old now used reported → Stays s now new
    → ((f : Refusal) → s.out ≡ outs.Refused f → s.used ≡ 0 → used ≡ 0 → new ≡ old → P f) → IfSome old.refusal P
refused-then old now new used reported s P (inr live) stays to = unrefused old.refusal P live.1
refused-then old now new used reported s P (inl h) stays to =
    subst (λ (m : MachineView). IfSome m.refusal P) h.2
    (refused-so now.refusal now new s P (λ f out none same. to f out none h.0 (same ∙ h.2)) stays.refused)

none-reported : {reported : ℕ} → reported ≡ 0 → 0 < reported → ⊥
none-reported e l = omega (arith, e, l)

pub live-following : (old now : MachineView) (used reported : ℕ) → HasBegun old now used reported → 0 < reported → IsLive old
live-following old now used reported (inr live) l = live
live-following old now used reported (inl h) l = elim (none-reported h.1 l) [ ]
