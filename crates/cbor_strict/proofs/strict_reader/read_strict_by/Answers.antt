use Rattle.std.proofs.{Common.subst, Common.Ok, lemmas.Option.IfSome_then}
use Rattle.cbor_head.specs.Prelude.{strict}
use Rattle.theory_verdicts.proofs.{Accepted.verdict_only, CanonicalPrefixes.prefix_read, CanonicalPrefixes.prefix_refused}
use Rattle.cbor_strict.specs.StrictReader.{IsNextStrict, limits_of, strict_call}
use Rattle.cbor_strict.proofs.StrictLoop.{runs_first, runs_on, runs_farther, runs_limits, runs_out, runs_stop}
use Rattle.cbor_strict.proofs.strict_reader.read_strict_by.Goals as goal

pub events-init : goal.events-init
events-init g c = runs_first c.args.order (limits_of c.args.events.now) c.restart.new.self _ c.restart.ensures.starts c.restart.ensures.order c.restart.ensures.limits c.restart.ensures.memory

pub events-smaller : goal.events-smaller
events-smaller g c =
    let h = c.events.invariant in
    runs_farther c.args.order (limits_of c.args.events.now) c.events.events c.next.new.self (g.R.Read.remaining c.args.reader.now) (g.R.Read.remaining c.events.reader) (g.R.Read.remaining c.next.new.reader) h c.in-Ok-Some.field-0-0 (subst (λ x. IsNextStrict (Ok x) (strict_call c.events.events c.next.new.self (g.R.Read.remaining c.events.reader) (g.R.Read.remaining c.next.new.reader) h.t h.marks)) c.in-Ok-Some.field-0-is (c.in-Ok-Some.ensures.returned h.t h.marks h.agrees)) c.next.ensures.limits

pub events-preserved : goal.events-preserved
events-preserved g c =
    let h = c.events.invariant in
    runs_on c.args.order (limits_of c.args.events.now) c.events.events c.next.new.self (g.R.Read.remaining c.args.reader.now) (g.R.Read.remaining c.events.reader) (g.R.Read.remaining c.next.new.reader) h c.in-Ok-Some.field-0-0 (subst (λ x. IsNextStrict (Ok x) (strict_call c.events.events c.next.new.self (g.R.Read.remaining c.events.reader) (g.R.Read.remaining c.next.new.reader) h.t h.marks)) c.in-Ok-Some.field-0-is (c.in-Ok-Some.ensures.returned h.t h.marks h.agrees)) c.next.ensures.limits c.next.ensures.order c.next.ensures.keys c.in-Ok-Some.ensures.granted

pub returns-in-Ok-None-clause-limits : goal.returns-in-Ok-None-clause-limits
returns-in-Ok-None-clause-limits g c = runs_limits c.args.order (limits_of c.args.events.now) c.events.events c.next.new.self (g.R.Read.remaining c.args.reader.now) (g.R.Read.remaining c.events.reader) (g.R.Read.remaining c.next.new.reader) c.events.invariant c.next.ensures.limits c.next.ensures.keys

pub returns-in-Ok-None-clause-accepted : goal.returns-in-Ok-None-clause-accepted
returns-in-Ok-None-clause-accepted g c =
    let h = c.events.invariant in
    (runs_out c.args.order (limits_of c.args.events.now) c.events.events c.next.new.self (g.R.Read.remaining c.args.reader.now) (g.R.Read.remaining c.events.reader) (g.R.Read.remaining c.next.new.reader) h c.taken.result (subst (λ x. IsNextStrict (Ok x) (strict_call c.events.events c.next.new.self (g.R.Read.remaining c.events.reader) (g.R.Read.remaining c.next.new.reader) h.t h.marks)) c.in-Ok-None.field-0-is (c.in-Ok-None.ensures.returned h.t h.marks h.agrees)) c.next.ensures.limits c.taken.ensures.taken).0

pub returns-in-Ok-None-clause-canonical : goal.returns-in-Ok-None-clause-canonical
returns-in-Ok-None-clause-canonical g c = IfSome_then _ (returns-in-Ok-None-clause-accepted g c) (λ input i. prefix_read (limits_of c.args.events.now) c.args.order input c.taken.result i)

pub returns-in-Ok-None-clause-taken : goal.returns-in-Ok-None-clause-taken
returns-in-Ok-None-clause-taken g c =
    let h = c.events.invariant in
    (runs_out c.args.order (limits_of c.args.events.now) c.events.events c.next.new.self (g.R.Read.remaining c.args.reader.now) (g.R.Read.remaining c.events.reader) (g.R.Read.remaining c.next.new.reader) h c.taken.result (subst (λ x. IsNextStrict (Ok x) (strict_call c.events.events c.next.new.self (g.R.Read.remaining c.events.reader) (g.R.Read.remaining c.next.new.reader) h.t h.marks)) c.in-Ok-None.field-0-is (c.in-Ok-None.ensures.returned h.t h.marks h.agrees)) c.next.ensures.limits c.taken.ensures.taken).1

pub returns-in-Err-clause-limits : goal.returns-in-Err-clause-limits
returns-in-Err-clause-limits g c = runs_limits c.args.order (limits_of c.args.events.now) c.events.events c.next.new.self (g.R.Read.remaining c.args.reader.now) (g.R.Read.remaining c.events.reader) (g.R.Read.remaining c.next.new.reader) c.events.invariant c.next.ensures.limits c.next.ensures.keys

pub returns-in-Err-clause-refused : goal.returns-in-Err-clause-refused
returns-in-Err-clause-refused g c =
    let h = c.events.invariant in
    (runs_stop c.args.order (limits_of c.args.events.now) c.events.events c.next.new.self (g.R.Read.remaining c.args.reader.now) (g.R.Read.remaining c.events.reader) (g.R.Read.remaining c.next.new.reader) h c.in-Err.refusal (c.in-Err.ensures.returned h.t h.marks h.agrees) c.in-Err.ensures.refused.2).refused

pub returns-in-Err-clause-reason : goal.returns-in-Err-clause-reason
returns-in-Err-clause-reason g c =
    let h = c.events.invariant in
    (runs_stop c.args.order (limits_of c.args.events.now) c.events.events c.next.new.self (g.R.Read.remaining c.args.reader.now) (g.R.Read.remaining c.events.reader) (g.R.Read.remaining c.next.new.reader) h c.in-Err.refusal (c.in-Err.ensures.returned h.t h.marks h.agrees) c.in-Err.ensures.refused.2).reason

pub returns-in-Err-clause-read : goal.returns-in-Err-clause-read
returns-in-Err-clause-read g c =
    let h = c.events.invariant in
    (runs_stop c.args.order (limits_of c.args.events.now) c.events.events c.next.new.self (g.R.Read.remaining c.args.reader.now) (g.R.Read.remaining c.events.reader) (g.R.Read.remaining c.next.new.reader) h c.in-Err.refusal (c.in-Err.ensures.returned h.t h.marks h.agrees) c.in-Err.ensures.refused.2).taken

pub returns-in-Err-clause-no_canonical : goal.returns-in-Err-clause-no_canonical
returns-in-Err-clause-no_canonical g c = λ e r.
    IfSome_then _ (returns-in-Err-clause-refused g c)
    (λ input i. prefix_refused (limits_of c.args.events.now) c.args.order input c.in-Err.refusal (verdict_only (limits_of c.args.events.now) (strict c.args.order) input c.in-Err.refusal i e r))
