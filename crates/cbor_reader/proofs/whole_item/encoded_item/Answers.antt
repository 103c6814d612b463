use Rattle.std.proofs.Common.{arith}
use Rattle.cbor_head.specs.Prelude.{value_of}
use Rattle.cbor_reader.proofs.whole_item.encoded_item.Goals as goal
use Rattle.cbor_reader.{specs.WholeItem.unread, specs.WholeItem.trailing, proofs.OwnResults.own_prefix, proofs.WholeItems.all-of-it}

pub returns-then-size-bytes-clause-refused : goal.returns-then-size-bytes-clause-refused
returns-then-size-bytes-clause-refused c = trailing c.in-Ok.size c.in-Ok.ensures.accepted.read (omega (arith, c.if-size-bytes.true)) c.trailing.ensures

pub returns-else-size-bytes-clause-encoded : goal.returns-else-size-bytes-clause-encoded
returns-else-size-bytes-clause-encoded c =
    let f = c.in-Ok.ensures.accepted in
    (f.read.item, all-of-it c.args.limits c.args.bytes.now c.in-Ok.size f.read (omega (arith, c.if-size-bytes.false)), f.canonical_is)

pub returns-in-Err-clause-refused : goal.returns-in-Err-clause-refused
returns-in-Err-clause-refused c = unread c.in-Err.ensures.refused c.in-Err.ensures.no_read

pub returns-in-Err-clause-own : goal.returns-in-Err-clause-own
returns-in-Err-clause-own c = λ a. c.in-Err.ensures.own (value_of a.item) (own_prefix c.args.limits c.args.order c.args.bytes.now (omega arith) a)

pub returns-else-size-bytes-clause-borrowed : goal.returns-else-size-bytes-clause-borrowed
returns-else-size-bytes-clause-borrowed c = λ a. c.in-Ok.ensures.borrowed (value_of a.item) (own_prefix c.args.limits c.args.order c.args.bytes.now (omega arith) a)
