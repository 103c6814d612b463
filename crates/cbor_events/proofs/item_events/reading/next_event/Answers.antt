use Rattle.std.proofs.Common.{[], ◌++◌, ◌∙◌, refl, sym, subst, arith, append-nil, append_assoc, Some, Ok}
use Rattle.cbor_machine.specs.Machine.{Represents}
use Rattle.cbor_events.proofs.Parts.{end-outcome, given-on, reported-given, silent-on}
use Rattle.cbor_events.proofs.item_events.reading.next_event.Goals as goal

pub returns-then-want-eq0-clause-returned : goal.returns-then-want-eq0-clause-returned
returns-then-want-eq0-clause-returned g c = λ was from kept t ms h r d.
    let inv = c.reads.invariant in
    end-outcome c.at_end.result from _ was c.at_end.new.machine kept c.reads.buffer t ms c.at_end.ensures.none (c.at_end.ensures.returned was from _ kept t ms h (inv.read was from t ms h d r) (inv.depth ∙ d))

pub returns-in-Reported-clause-returned : goal.returns-in-Reported-clause-returned
returns-in-Reported-clause-returned g c = λ was from kept t ms h r d.
    let inv = c.reads.invariant in
    c.in-Reported.ensures.returned was from kept t ms h (inv.read was from t ms h d r) (inv.depth ∙ d)

pub returns-in-Stopped-clause-returned : goal.returns-in-Stopped-clause-returned
returns-in-Stopped-clause-returned g c = λ was from kept t ms h r d.
    let inv = c.reads.invariant in
    c.in-Stopped.ensures.returned was from kept t ms h (inv.read was from t ms h d r) (inv.depth ∙ d)

pub reads-preserved : goal.reads-preserved
reads-preserved g c =
    let inv = c.reads.invariant in
    record {
      read = λ was from t ms h d r. c.in-Open.ensures.returned was from [] t ms h (inv.read was from t ms h d r) (inv.depth ∙ d);
      ran = λ t ms h.
          let was = inv.ran t ms h in
          let more = silent-on _ _ _ _ _ _ _ _ (c.in-Open.ensures.lost (t ++ was.0) ms was.1) in
          (was.0 ++ more.0, subst (λ xs. Represents c.read_part.new.machine xs ms) (append_assoc t was.0 more.0) more.1);
      depth = c.read_part.ensures.limits.depth ∙ inv.depth;
      bytes = c.read_part.ensures.limits.bytes ∙ inv.bytes;
      within = c.read_part.ensures.limits.open_count;
      idle = λ none. absurd (omega (arith, c.expected-want.ensures.idle (inv.idle none).0));
      space = omega (arith, inv.space, c.read_part.ensures.same);
      same = c.read_part.ensures.same ∙ inv.same;
    }

pub returns-in-Reported-clause-given : goal.returns-in-Reported-clause-given
returns-in-Reported-clause-given g c = λ t ms h.
    let was = c.reads.invariant.ran t ms h in
    given-on (Ok (Some c.in-Reported.event)) c.read_part.new.machine t was.0 ms (reported-given c.in-Reported.event _ _ _ _ _ _ _ _ (c.in-Reported.ensures.lost (t ++ was.0) ms was.1))

pub reads-init : goal.reads-init
reads-init g c = record {
  read = λ was from t ms h d r. r;
  ran = λ t ms h. ([], subst (λ xs. Represents c.args.machine.now xs ms) (sym (append-nil t)) h);
  depth = refl;
  bytes = refl;
  within = c.requires.within;
  idle = λ n. (n, refl);
  space = c.requires.space;
  same = refl;
}
