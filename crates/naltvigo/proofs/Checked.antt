-- What a machine says of a part, as it is reported.
use Rattle.std.proofs.Common.{◌≡◌, ℕ, ◌+◌, ◌≤◌, ◌⊎◌, ◌≢◌, zero, suc, ◌++◌, Option, Some, None, List, [], length, take, refl, sym, ap, ◌∙◌, subst, inl, inr, arith, length-take-le, IsTrue}
use Rattle.std.specs.Option.{IfSome}
use Rattle.cbor_head.specs.{Prelude.refusal, declared.reason.Reason.TheVariants.Memory, declared.reason.Reason.TheVariants.Truncated}
use Rattle.cbor_head.specs.declared.reason.Refusal.{Refusal}
use Rattle.theory_automaton.specs.Trace.{Mark}
use Rattle.cbor_machine.specs.declared.step.Out.TheVariants as outs
use Rattle.cbor_machine.specs.Machine.{IfRefused, IsComplete, KeepsLimits}
use Rattle.cbor_machine.specs.declared.step.Out.{Out}
use Rattle.cbor_stream.specs.{StrictMachine.StrictMachineView, StrictMachine.AgreesAmid, Said.Says, Reasons.IsStrictReason}
use Rattle.cbor_stream.proofs.{Steps.if_refused, Checking.limits_same}
use Rattle.cbor_checker.specs.declared.checker.Checker.{Checker}
use Rattle.naltvigo.specs.Checker.{HasChecked, IsReportedPart, IsReportedAtEnd, IsReportedRefusal}
use Rattle.naltvigo.specs.{Reported.IsReported, declared.status.NaltvigoRefusal.NaltvigoRefusal}

map_some : (o : Option Refusal) (P Q : Refusal → Type 0) → ((f : Refusal) → P f → Q f) → IfSome o P → IfSome o Q
map_some None P Q h p = tt
map_some (Some f) P Q h p = h f p

module _ (was now : StrictMachineView) (input : List ℕ) (used : ℕ) (out : Out) (within : used ≤ length input) (taken : now.machine.taken ≡ was.machine.taken + used)
    (says : (t : List ℕ) (ms : List Mark) → AgreesAmid was t ms → Says out now (t ++ take used input)) (limits : KeepsLimits was.machine now.machine) (order : now.order ≡ was.order) (keys : now.keys ≡ was.keys)
    (refused : IfRefused out (λ f. (now.refusal ≡ Some f) × (now.machine.taken ≡ f.read) × IsStrictReason was.order f.reason × (now.spans ≡ 0) × (now.kept ≡ 0)))
    (memory : IfRefused out (λ f. f.reason ≡ Memory → IsTrue now.refused)) (again : IfSome was.refusal (λ f. (out ≡ outs.Refused f) × (used ≡ 0) × (now ≡ was)))
    (complete : IsComplete was.machine → was.refusal ≡ None → (out ≡ outs.Done) × (used ≡ 0)) where
  pub checked_so : (old new : Option StrictMachineView) → old ≡ Some was → new ≡ Some now → (reported : Out → StrictMachineView → Type 0) → reported out now → HasChecked old new (take used input) reported
  checked_so old new held holds reported reports = record {
    was = was;
    held = held;
    now = now;
    holds = holds;
    out = out;
    reports = reports;
    says = says;
    limits = limits_same was now limits keys;
    order = order;
    taken = omega (arith, taken, length-take-le used input within);
    refused = if_refused out _ (λ f. now.refusal ≡ Some f) (λ f h. h.0) refused;
    memory = memory;
    complete = λ is live. let d = complete is live in (d.0, ap (λ (n : ℕ). take n input) d.1);
    again = map_some was.refusal _ (λ f. (out ≡ outs.Refused f) × (take used input ≡ []) × (now ≡ was)) (λ f h. (h.0, ap (λ (n : ℕ). take n input) h.1, h.2)) again;
  }

-- the machine that a handle held
pub held_so : (old taken : Checker) (m was : StrictMachineView) → taken ≡ old → taken.held ≡ Some m → was ≡ m → old.held ≡ Some was
held_so old taken m was same held is = ap (λ (c : Checker). c.held) (sym same) ∙ held ∙ ap Some (sym is)

abbrev pub no_bytes : List ℕ
no_bytes = []

pub take_none : (n : ℕ) → take n no_bytes ≡ no_bytes
take_none zero = refl
take_none (suc n) = refl

-- ---- what is reported

refusal_so : (f : Refusal) (status : ℕ) (r : NaltvigoRefusal) → IsReported f r → (status ≡ 1 → f.reason ≢ Memory) → (status ≡ 3 → f.reason ≡ Memory) → (status ≡ 1) ⊎ (status ≡ 3) → IsReportedRefusal f status r
refusal_so f status r is refused memory (inl e) = (is, inl (e, refused e))
refusal_so f status r is refused memory (inr e) = (is, inr (e, memory e))

module _ (out : Out) (status : ℕ) (r : NaltvigoRefusal) where
  pub part_done : out ≡ outs.Done → status ≡ 0 → IsReportedPart out status r
  part_done e is = subst (λ (o : Out). IsReportedPart o status r) (sym e) is

  pub part_refused : (f : Refusal) → out ≡ outs.Refused f → IsReported f r → (status ≡ 1 → f.reason ≢ Memory) → (status ≡ 3 → f.reason ≡ Memory) → (status ≡ 1) ⊎ (status ≡ 3) → IsReportedPart out status r
  part_refused f e is refused memory one = subst (λ (o : Out). IsReportedPart o status r) (sym e) (refusal_so f status r is refused memory one)

  pub end_done : (taken : ℕ) → out ≡ outs.Done → status ≡ 0 → IsReportedAtEnd taken out status r
  end_done taken e is = subst (λ (o : Out). IsReportedAtEnd taken o status r) (sym e) is

  pub end_refused : (taken : ℕ) (f : Refusal) → out ≡ outs.Refused f → IsReported f r → (status ≡ 1 → f.reason ≢ Memory) → (status ≡ 3 → f.reason ≡ Memory) → (status ≡ 1) ⊎ (status ≡ 3) → IsReportedAtEnd taken out status r
  end_refused taken f e is refused memory one = subst (λ (o : Out). IsReportedAtEnd taken o status r) (sym e) (refusal_so f status r is refused memory one)

pub part_more : (out : Out) (r : NaltvigoRefusal) → (out ≡ outs.Done → ⊥) → ((f : Refusal) → out ≡ outs.Refused f → ⊥) → IsReportedPart out 8 r
part_more outs.More r done refused = refl
part_more (outs.Event e) r done refused = refl
part_more outs.Done r done refused = absurd (done refl)
part_more (outs.Refused f) r done refused = absurd (refused f refl)

pub end_more : (taken : ℕ) (out : Out) (r : NaltvigoRefusal) → (out ≡ outs.Done → ⊥) → ((f : Refusal) → out ≡ outs.Refused f → ⊥) → IsReported (refusal Truncated taken taken) r → IsReportedAtEnd taken out 1 r
end_more taken outs.More r done refused is = (refl, is)
end_more taken (outs.Event e) r done refused is = (refl, is)
end_more taken outs.Done r done refused is = absurd (done refl)
end_more taken (outs.Refused f) r done refused is = absurd (refused f refl)
