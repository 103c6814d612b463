use Rattle.std.proofs.Common.{arith}
use Rattle.cbor_reader.proofs.OnResults.{ok_item, err_item, ok_equal, ok_again, err_reason}
use Rattle.cbor_reader.proofs.canonicaliser.canonicalise.Goals as goal

pub returns-clause-accepted : goal.returns-clause-accepted
returns-clause-accepted c =
    ok_item c.args.limits c.args.order c.args.bytes.now (λ v. v.items) c.canonicalise_in.result c.canonicalise_in.ensures.outcome

pub returns-clause-refused : goal.returns-clause-refused
returns-clause-refused c =
    err_item c.args.limits c.args.order c.args.bytes.now (λ v. v.items) c.canonicalise_in.result c.canonicalise_in.ensures.outcome

pub returns-clause-equal : goal.returns-clause-equal
returns-clause-equal c =
    ok_equal c.args.limits c.args.order c.args.bytes.now (λ v. v.items) c.canonicalise_in.result (omega arith) c.canonicalise_in.ensures.outcome

pub returns-clause-reason : goal.returns-clause-reason
returns-clause-reason c =
    err_reason c.args.limits c.args.order c.args.bytes.now (λ v. v.items) c.canonicalise_in.result c.canonicalise_in.ensures.outcome

pub returns-clause-again : goal.returns-clause-again
returns-clause-again c =
    ok_again c.args.limits c.args.order c.args.bytes.now (λ v. v.items) c.canonicalise_in.result (omega arith) c.canonicalise_in.ensures.outcome
