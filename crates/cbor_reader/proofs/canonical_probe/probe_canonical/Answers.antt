use Rattle.cbor_head.specs.Prelude.{plain}
use Rattle.theory_verdicts.proofs.{CanonicalPrefixes.prefix_read, CanonicalPrefixes.prefix_refused, Reasons.never-read, Reasons.never-memory}
use Rattle.cbor_reader.proofs.CanonicalPrefixes.{canonical_built, prefix_within, not-strict}
use Rattle.cbor_reader.proofs.canonical_probe.probe_canonical.Goals as goal

pub returns-in-Ok-clause-accepted : goal.returns-in-Ok-clause-accepted
returns-in-Ok-clause-accepted c = canonical_built c.args.limits c.args.order c.args.bytes.now c.in-Ok.size c.in-Ok.ensures

pub returns-in-Ok-clause-within : goal.returns-in-Ok-clause-within
returns-in-Ok-clause-within c =
    prefix_within c.args.limits c.args.order c.args.bytes.now c.in-Ok.size (prefix_read c.args.limits c.args.order c.args.bytes.now c.in-Ok.size c.in-Ok.ensures)

pub returns-in-NotShortest-clause-none : goal.returns-in-NotShortest-clause-none
returns-in-NotShortest-clause-none c = λ _. prefix_refused c.args.limits c.args.order c.args.bytes.now _ c.in-Err.ensures.strictly

pub returns-in_default : goal.returns-in_default
returns-in_default c =
    let plainly = c.in-Err.ensures.plainly (not-strict c.in-Err.refusal.reason c.in_default.not-NotShortest c.in_default.not-Indefinite c.in_default.not-KeyOrder) in
    record {
      accepted = tt;
      within = tt;
      none = λ e v b. cc e;
      refused = plainly;
      reason = (never-read c.args.limits plain c.args.bytes.now c.in-Err.refusal plainly, never-memory c.args.limits plain c.args.bytes.now c.in-Err.refusal plainly);
      no_canonical = prefix_refused c.args.limits c.args.order c.args.bytes.now _ c.in-Err.ensures.strictly;
    }
