use Rattle.std.proofs.Common.{arith}
use Rattle.naltvigo.proofs.indexing.index_own_bytes.Goals as goal
use Rattle.naltvigo.proofs.Indexed.{canonical_item, indexed}

pub fill_table-requires : goal.fill_table-requires
fill_table-requires c =
    let own = c.in_ok-check_own_bytes.ensures.own.own in
    (c.args.order, own.item, canonical_item c.args.limits c.args.order c.args.input.now own (λ s. c.valid_items.ensures.verdict c.args.limits c.args.input.now s) (λ s v. c.valid_items.ensures.value c.args.limits c.args.input.now s (omega arith) v))

pub returns-clause-indexed : goal.returns-clause-indexed
returns-clause-indexed c =
    let own = c.in_ok-check_own_bytes.ensures.own.own in
    let item = canonical_item c.args.limits c.args.order c.args.input.now own (λ s. c.valid_items.ensures.verdict c.args.limits c.args.input.now s) (λ s v. c.valid_items.ensures.value c.args.limits c.args.input.now s (omega arith) v) in
    indexed c.args.limits c.args.order c.args.input.now own (λ s. c.valid_items.ensures.verdict c.args.limits c.args.input.now s) (λ s v. c.valid_items.ensures.value c.args.limits c.args.input.now s (omega arith) v)
    c.args.items.now c.fill_table.new.items c.fill_table.result (c.fill_table.ensures.table c.args.order own.item item) c.fill_table.ensures.kept
