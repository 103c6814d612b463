use Rattle.std.proofs.Common.{sym, subst}
use Rattle.cbor_head.specs.Prelude.{strict, IsVerdict, refused}
use Rattle.cbor_head.specs.declared.reason.Refusal.{Refusal}
use Rattle.theory_verdicts.proofs.CanonicalPrefixes.{prefix_read, prefix_refused}
use Rattle.cbor_strict.proofs.strict_slice.check_canonical.Goals as goal

pub returns-in-Ok-clause-canonical : goal.returns-in-Ok-clause-canonical
returns-in-Ok-clause-canonical c = prefix_read c.args.limits c.args.order c.args.bytes.now c.in-Ok.count c.in-Ok.ensures

pub returns-in-Err-clause-refused : goal.returns-in-Err-clause-refused
returns-in-Err-clause-refused c = subst (λ (f : Refusal). IsVerdict c.args.limits (strict c.args.order) c.args.bytes.now (refused f)) (sym c.strictly.ensures) c.in-Err.ensures.strictly

pub returns-in-Err-clause-no_canonical : goal.returns-in-Err-clause-no_canonical
returns-in-Err-clause-no_canonical c = prefix_refused c.args.limits c.args.order c.args.bytes.now _ c.in-Err.ensures.strictly
