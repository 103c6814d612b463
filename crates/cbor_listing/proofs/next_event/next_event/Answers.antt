use Rattle.std.proofs.Common.{◌≡◌, ◌<◌, ◌≤◌, ◌++◌, ℕ, List, [], length, take, drop, Option, Some, inl, inr, refl, ap, ◌∙◌, arith, length-take, length-drop}
use Rattle.std.proofs.{KnownBytes.Consumes-nil, Math.ListN.drop_of_length-le}
use Rattle.theory_values.proofs.ByteLists.{bytes_take, bytes_drop}
use Rattle.cbor_machine.proofs.NextEvents.{event-here, end-here, read-on, complete-wants, prefix-again}
use Rattle.cbor_machine.proofs.NextRefusals.{stopped-here, cut-here, cut-is}
use Rattle.cbor_machine.specs.{Machine.IsComplete, NextEvent.machine_call}
use Rattle.cbor_listing.proofs.Slices.{nothing-read, left-over, to-the-end}
use Rattle.cbor_listing.proofs.next_event.next_event.Goals as goal

pub returns-in-Event-clause-returned : goal.returns-in-Event-clause-returned
returns-in-Event-clause-returned c = λ t ms h.
    let m = c.args.machine.now in
    let new = c.take_part-step.new.machine in
    let input = c.args.bytes.now in
    let used = c.take_part-step.result.used in
    let from : Option (List ℕ) = Some (drop m.taken input) in
    let to : Option (List ℕ) = Some (drop new.taken input) in
    let r = nothing-read from m t ms h.agrees in
    let starts = to-the-end input c.taken.result m.taken c.taken.ensures.taken in
    let consumed = left-over input m.taken used new.taken c.take_part-step.ensures.taken in
    let fits : used ≤ length (drop m.taken input) = rw starts at c.take_part-step.ensures.used in
    let progress : 0 < used = (rw c.in-Event.is at c.take_part-step.ensures.progress) tt in
    let some : 0 < length (take used (drop m.taken input)) = omega (arith, length-take used (drop m.taken input)) in
    let given = rw (c.in-Event.is, starts) at (c.take_part-step.ensures.returned (t ++ r.bytes) ms r.agrees) in
    rw c.in-Event.event-is (event-here c.in-Event.event from from to m m new [] (drop m.taken input) t (take used (drop m.taken input)) ms h r refl c.take_part-step.ensures.limits.depth consumed
    (bytes_take used (drop m.taken input) (bytes_drop m.taken input c.below_256.ensures)) some (prefix-again used (drop m.taken input)) given)

pub returns-in-Done-clause-returned : goal.returns-in-Done-clause-returned
returns-in-Done-clause-returned c = λ t ms h.
    let m = c.args.machine.now in
    let new = c.take_part-step.new.machine in
    let input = c.args.bytes.now in
    let used = c.take_part-step.result.used in
    let from : Option (List ℕ) = Some (drop m.taken input) in
    let to : Option (List ℕ) = Some (drop new.taken input) in
    let r = nothing-read from m t ms h.agrees in
    let complete : IsComplete m = (rw c.in-Done.is at c.take_part-step.ensures.done.0) tt in
    let still = c.take_part-step.ensures.stays complete in
    end-here from from to m m new [] t (take used (drop m.taken input)) ms h r refl complete still.1
    (left-over input m.taken used new.taken c.take_part-step.ensures.taken) (ap (λ n. take n (drop m.taken input)) still.0)

pub returns-in-Refused-clause-returned : goal.returns-in-Refused-clause-returned
returns-in-Refused-clause-returned c = λ t ms h.
    let m = c.args.machine.now in
    let new = c.take_part-step.new.machine in
    let input = c.args.bytes.now in
    let used = c.take_part-step.result.used in
    let f = c.in-Refused.refusal in
    let from : Option (List ℕ) = Some (drop m.taken input) in
    let to : Option (List ℕ) = Some (drop new.taken input) in
    let r = nothing-read from m t ms h.agrees in
    let starts = to-the-end input c.taken.result m.taken c.taken.ensures.taken in
    let going : IsComplete m → ⊥ = λ k. let d = c.take_part-step.ensures.done.1 k in rw c.in-Refused.is at d in
    let last = take used (drop m.taken input) in
    let size = length-take used (drop m.taken input) in
    let refused = rw (c.in-Refused.is, starts) at (c.take_part-step.ensures.returned (t ++ r.bytes) ms r.agrees) in
    let walked = rw (c.in-Refused.is, starts) at (c.take_part-step.ensures.walked h.agrees.live) in (
      going,
      inr (stopped-here f (machine_call m new from to [] [] t ms) from m last r (left-over input m.taken used new.taken c.take_part-step.ensures.taken)
          (bytes_take used (drop m.taken input) (bytes_drop m.taken input c.below_256.ensures)) going c.take_part-step.ensures.limits.depth
          (omega (arith, size, c.take_part-step.ensures.taken, c.take_part-step.ensures.limits.taken)) refused walked),
    )

pub returns-in-More-clause-returned : goal.returns-in-More-clause-returned
returns-in-More-clause-returned c = λ t ms h.
    let m = c.args.machine.now in
    let new = c.take_part-step.new.machine in
    let input = c.args.bytes.now in
    let used = c.take_part-step.result.used in
    let from : Option (List ℕ) = Some (drop m.taken input) in
    let to : Option (List ℕ) = Some (drop new.taken input) in
    let r = nothing-read from m t ms h.agrees in
    let starts = to-the-end input c.taken.result m.taken c.taken.ensures.taken in
    let whole = (rw c.in-More.is at c.take_part-step.ensures.whole) tt in
    let going = complete-wants m h.agrees.inner.shown ((rw c.in-More.is at c.take_part-step.ensures.idle) tt) in
    let now = rw (c.in-More.is, starts) at (c.take_part-step.ensures.returned (t ++ r.bytes) ms r.agrees) in
    let on = read-on from from to m new t (take used (drop m.taken input)) ms r (left-over input m.taken used new.taken c.take_part-step.ensures.taken) now in
    let later = complete-wants new now.inner.shown ((rw c.in-More.is at c.take_part-step.ensures.expected) tt) in
    let all : used ≡ length (drop m.taken input) = whole.0 ∙ ap length starts in
    let ended : drop new.taken input ≡ [] = drop_of_length-le input (omega (arith, all, length-drop m.taken input, c.take_part-step.ensures.taken, c.requires)) in (
      going,
      inl (cut-here c.at.result (machine_call m new from to [] [] t ms) to on (Consumes-nil to) (inr (ap (λ x. x.reason) c.at.ensures, ended))
          (cut-is c.at.result _ _ _ c.at.ensures c.taken-in-More.ensures.taken) whole.1 later),
    )
