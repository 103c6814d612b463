use Rattle.std.proofs.lemmas.Result.{err_from_is_err_and}
use Rattle.cbor_reader.proofs.canonicaliser.canonicalise_in.Goals as goal
use Rattle.cbor_reader.{proofs.Headline.results_exactly, specs.Canonicalise.at_copy, specs.Canonicalise.at_start, proofs.WholeItems.memory_at_end}

pub returns-in-Err-clause-outcome : goal.returns-in-Err-clause-outcome
returns-in-Err-clause-outcome c =
    let e = (results_exactly c.args.limits c.args.order c.args.bytes.now _).0 c.in_ok-made.ensures.outcome in
    memory_at_end c.args.limits c.args.order c.args.bytes.now c.at.result (e.0, e.1) c.at.ensures

pub returns-in_err-made-clause-memory : goal.returns-in_err-made-clause-memory
returns-in_err-made-clause-memory c =
    let p = err_from_is_err_and c.from_residual.result c.from_residual.ensures.1 in
    rw (p.1, p.2) (λ e. at_start (c.in_err-made.ensures.memory e))

pub returns-in-Err-clause-memory : goal.returns-in-Err-clause-memory
returns-in-Err-clause-memory c = λ _. at_copy _ c.in_ok-made.ensures.outcome c.at.ensures
