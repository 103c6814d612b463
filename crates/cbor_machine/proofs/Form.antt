-- The verdict of form: its rules allow no complaint, so a form error decides.
use Rattle.std.proofs.Common.{ℕ, ◌-◌, List, ◌++◌, length, take, refl, sym, ap, ◌∙◌, inr, arith}
use Rattle.cbor_head.specs.Prelude.{Bounds, bounds, Spelling, form, Complaint, IsComplaint, IsVerdict}
use Rattle.cbor_head.specs.Verdict as verdict
use Rattle.cbor_head.specs.declared.reason.Refusal.{Refusal}
use Rattle.theory_values.proofs.{Beginnings.item_decides, KindsUnasked.form_complaint, Reasons.each_complaint}
use Rattle.theory_automaton.{specs.Trace.Mark, proofs.Runs.take-following}
use Rattle.cbor_machine.specs.Machine.{Represents, IsComplete, IsRefused}
use Rattle.cbor_machine.specs.MachineView.{MachineView}

pub never : (limits : Bounds) (s : Spelling) (c : Complaint) → ¬ IsComplaint limits form s c
never limits s c h = each_complaint form (λ x. ⊥) (λ t at q. cc t) (λ t at n. cc t) (λ t at. cc t) (λ e at n. cc e) (λ o e at n. cc e) 0 s c ((form_complaint limits s c).0 h)

-- a refusal is the verdict of form on each input that starts with these bytes
pub refusal-verdict : (r : Refusal) (m : MachineView) (t bs : List ℕ) (ms : List Mark) → IsRefused r m t bs ms → (more : List ℕ) → IsVerdict (bounds m.depth m.bytes) form ((t ++ bs) ++ more) (verdict.refused r)
refusal-verdict r m t bs ms h more =
    let start = h.agrees.beginning in
    record {
      p = t ++ h.prefix;
      longest = (h.error more).longest;
      item = start.0;
      rest = start.1;
      starts = start.2;
      decides = inr (
        λ c k e. never (bounds m.depth m.bytes) start.0 c k,
        λ e. h.unfinished (start.0, record { spelled = start.2.spelled; within = start.2.within; bytes_are = e }),
        (h.error more).error,
      );
    }

-- if the machine is complete, the item is accepted
pub complete-verdict : (m : MachineView) (t : List ℕ) (ms : List Mark) → Represents m t ms → IsComplete m → (more : List ℕ) → (s : Spelling) × IsVerdict (bounds m.depth m.bytes) form (t ++ more) (verdict.accepted s)
complete-verdict m t ms h c more =
    let w = h.complete.0 c in
    let is = w.1.bytes_are in
    let cut = take-following m.bytes t more (omega (arith, h.limited, h.taken)) in (
      w.0,
      item_decides (IsComplaint (bounds m.depth m.bytes) form) (bounds m.depth m.bytes) (t ++ more) (take (m.bytes - length t) more) w.0
          (record { spelled = w.1.spelled; within = w.1.within; bytes_are = refl }) (cut ∙ ap (λ xs. xs ++ take (m.bytes - length t) more) (sym is)) (λ e k. never (bounds m.depth m.bytes) w.0 e k),
    )
