-- What is reported of all bytes so far is the verdict of these bytes.
use Rattle.std.proofs.Common.{◌≡◌, ℕ, ◌<◌, ◌≤◌, List, [], ◌++◌, length, take, take_all, refl, sym, ap, ◌∙◌, subst, inl, inr, arith, append-nil, length-append, Result, Ok, Err}
use Rattle.cbor_head.specs.Prelude.{Bounds, Spelling, spell, IsItem, Rules, Complaint, IsComplaint, strict, accepted, refusal, IsVerdict}
use Rattle.cbor_head.specs.declared.reason.Reason.TheVariants.{Truncated, Read, Memory, KeyKind}
use Rattle.cbor_head.specs.{Laws.StartsWith, declared.order.KeyOrder.KeyOrder, declared.reason.Reason.Reason, declared.reason.Refusal.Refusal}
use Rattle.theory_values.proofs.Complaints.{complaint_within}
use Rattle.theory_automaton.specs.{Trace.Mark, Reasons.IsMachineReason}
use Rattle.cbor_machine.specs.declared.step.Out.TheVariants as outs
use Rattle.cbor_machine.specs.Machine.{IsComplete, IsWhole, wanted}
use Rattle.cbor_machine.{specs.declared.step.Out.Out, proofs.NextEvents.complete-wants, proofs.NextEvents.wants-short}
use Rattle.theory_verdicts.proofs.Accepted.{one_item, one_refusal, not_both, prefix_accepted, verdict_only}
use Rattle.theory_verdicts.{specs.Readers.IsRead, specs.Refusals.IsComplaintReason, proofs.CanonicalPrefixes.prefix_read}
use Rattle.cbor_stream.specs.StrictMachine.{StrictMachineView, AgreesAmid, IsStrictlyRefused, limits_of}
use Rattle.cbor_stream.specs.Said.{Tells, SaysMore, SaysDone, SaysRefused, Says, IsOfWhole}
use Rattle.cbor_stream.specs.Reasons.{IsStrictReason}

-- an input has one result
pub tells_one : (limits : Bounds) (o : KeyOrder) (input : List ℕ) (x y : Result ℕ Refusal) → Tells limits o input x → Tells limits o input y → x ≡ y
tells_one limits o input (Ok n) (Ok k) a b = let same = one_item limits (strict o) input a.item b.item a.verdict b.verdict in ap Ok (a.size ∙ ap (λ (s : Spelling). length (spell s)) same ∙ sym b.size)
tells_one limits o input (Ok n) (Err g) a b = absurd (not_both limits (strict o) input a.item g a.verdict b)
tells_one limits o input (Err f) (Ok k) a b = absurd (not_both limits (strict o) input b.item f b.verdict a)
tells_one limits o input (Err f) (Err g) a b = ap Err (one_refusal limits (strict o) input f g a b)

-- what is reported of the parts is what is reported of the whole
pub of_whole : (out : Out) (v : StrictMachineView) (all more : List ℕ) (x : Result ℕ Refusal) → Says out v all → Tells (limits_of v) v.order (all ++ more) x → IsOfWhole out (length all) more x
of_whole outs.More v all more x h k = λ none.
    tells_one (limits_of v) v.order (all ++ more) x (Err (refusal Truncated (length all) (length all))) k
    (subst (λ (y : List ℕ). Tells (limits_of v) v.order y (Err (refusal Truncated (length all) (length all)))) (sym (append-nil all) ∙ ap (λ (y : List ℕ). all ++ y) (sym none)) h.1)
of_whole (outs.Event e) v all more x h k = h
of_whole outs.Done v all more x h k = tells_one (limits_of v) v.order (all ++ more) x (Ok (length all)) k (h.1 more).0
of_whole (outs.Refused f) v all more x h k = λ m. tells_one (limits_of v) v.order (all ++ more) x (Err f) k (h.1 m more)

no_read : (o : KeyOrder) (x : Reason) → IsStrictReason o x → x ≡ Read → ⊥
no_read o x (inl h) e = subst IsMachineReason e h
no_read o x (inr (inl (inl h))) e = subst (IsComplaintReason (strict o)) e h
no_read o x (inr (inl (inr h))) e = let two : Read ≡ Memory = sym e ∙ h in cc two
no_read o x (inr (inr h)) e = let two : Read ≡ KeyKind = sym e ∙ h in cc two

module _ (v : StrictMachineView) (t : List ℕ) where
  abbrev b : Bounds
  b = limits_of v

  abbrev r : Rules
  r = strict v.order

  module _ (ms : List Mark) (h : AgreesAmid v t ms) where
    -- the item goes on
    pub says_more : 0 < wanted v.machine → SaysMore v t
    says_more some =
        let unfinished : ¬ IsWhole v.machine.depth t = λ w. complete-wants v.machine h.agrees.inner.shown some (h.agrees.complete.1 w) in
        let short : length t < b.bytes = (let less = wants-short v.machine some in omega (arith, less, h.agrees.taken)) in
        let all : take b.bytes t ≡ t = take_all b.bytes t (omega (arith, short)) in
        let g = h.agrees.beginning in (
          (ms, h),
          record {
            p = t;
            longest = record { beginning = g; rest = []; splits = all ∙ sym (append-nil t); longest = λ q x k e. omega (arith, ap length (sym all ∙ e), length-append q x) };
            item = g.0;
            rest = g.1;
            starts = g.2;
            decides = inr (
              h.clean g.0 (g.1, g.2),
              λ e. unfinished (g.0, record { spelled = g.2.spelled; within = g.2.within; bytes_are = e }),
              inr (short, refl),
            );
          },
        )

    -- it is complete
    pub says_done : IsComplete v.machine → SaysDone v t
    says_done c =
        let w = h.agrees.complete.0 c in
        let s = w.0 in
        let starts : StartsWith v.machine.depth s t = ([], subst (IsItem v.machine.depth s) (sym (append-nil t)) w.1) in
        let item : IsItem b.depth s (spell s) = record { spelled = w.1.spelled; within = w.1.within; bytes_are = refl } in
        let size : length (spell s) ≡ length t = ap length w.1.bytes_are in
        let sound : (c : Complaint) → IsComplaint b r s c → ⊥ = λ c k. h.clean s starts c k (omega (arith, complaint_within b r s c k, size)) in
        let fits : length (spell s) ≤ b.bytes = omega (arith, size, h.agrees.taken, h.agrees.limited) in
        let read : (more : List ℕ) → IsRead b r (t ++ more) (length t) = λ more. record {
          item = s;
          verdict = subst (λ (x : List ℕ). IsVerdict b r (x ++ more) (accepted s)) w.1.bytes_are (prefix_accepted b r s more item sound fits);
          size = sym size;
        } in
        ((ms, h), λ more. (read more, prefix_read b v.order (t ++ more) (length t) (read more)))

  -- it is refused
  pub says_refused : (f : Refusal) (ms : List Mark) → IsStrictlyRefused f v t ms → IsStrictReason v.order f.reason → SaysRefused f v t
  says_refused f ms n reason = ((ms, n), λ m more. verdict_only b r (t ++ more) f (n.unread more) (no_read v.order f.reason reason) m)
