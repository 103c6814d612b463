use Rattle.std.proofs.Common.{rules, of_calls}
use Rattle.cbor_builder.proofs.sort.sort_by_keys.Goals as goal
use Rattle.cbor_builder.proofs.Ranks.{sorted_by_rank}

pub returns-clause-sorted : goal.returns-clause-sorted
returns-clause-sorted c =
    sorted_by_rank c.args.order c.args.bytes.now c.sort_unstable_by.new.self c.sort_unstable_by.ensures.sorted (λ a r q k. search (rules, of_calls))
