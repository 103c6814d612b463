use Rattle.std.proofs.Common.{arith}
use Rattle.cbor_reader.proofs.view_reader.whole_view.Goals as goal
use Rattle.cbor_reader.{specs.WholeItem.unread, specs.WholeItem.trailing, proofs.WholeItems.all-of-it}

pub returns-then-size-bytes-clause-refused : goal.returns-then-size-bytes-clause-refused
returns-then-size-bytes-clause-refused c =
    trailing c.in-Ok.size c.in-Ok.ensures.accepted.read (omega (arith, c.if-size-bytes.true)) c.trailing.ensures

pub returns-else-size-bytes-clause-accepted : goal.returns-else-size-bytes-clause-accepted
returns-else-size-bytes-clause-accepted c =
    let a = c.in-Ok.ensures.accepted in
    (a.read.item, all-of-it c.args.limits c.args.bytes.now c.in-Ok.size a.read (omega (arith, c.if-size-bytes.false)), a.value)

pub returns-in-Err-clause-refused : goal.returns-in-Err-clause-refused
returns-in-Err-clause-refused c = unread c.in-Err.ensures.refused c.in-Err.ensures.no_read
