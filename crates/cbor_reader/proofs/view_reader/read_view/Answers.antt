use Rattle.std.proofs.Common.{arith}
use Rattle.cbor_item.specs.ViewValue.{view_value}
use Rattle.cbor_parser.proofs.PrefixStops.{reported_at_start}
use Rattle.cbor_reader.proofs.ViewPrefixes.{view_bounded, view_depth, view_range, view_valid}
use Rattle.cbor_reader.proofs.view_reader.read_view.Goals as goal

pub returns-in-Ok-clause-accepted : goal.returns-in-Ok-clause-accepted
returns-in-Ok-clause-accepted c =
    let h = c.in-Ok.ensures.given in
    record { read = h.read; value = c.finish.ensures c.new-building.result.sink h.read.item h.whole }

pub returns-in-Ok-clause-bounded : goal.returns-in-Ok-clause-bounded
returns-in-Ok-clause-bounded c =
    view_bounded c.args.limits c.args.bytes.now (view_value c.finish.result) c.in-Ok.size (returns-in-Ok-clause-accepted c)

pub returns-in-Ok-clause-depth : goal.returns-in-Ok-clause-depth
returns-in-Ok-clause-depth c =
    view_depth c.args.limits c.args.bytes.now (view_value c.finish.result) c.in-Ok.size (omega (arith, c.depth-depth.ensures.depth, c.depth-depth.ensures.most)) (returns-in-Ok-clause-accepted c)

pub returns-in-Ok-clause-in_range : goal.returns-in-Ok-clause-in_range
returns-in-Ok-clause-in_range c =
    view_range c.args.limits c.args.bytes.now (view_value c.finish.result) c.in-Ok.size (omega (arith, c.bytes-bytes.ensures.bytes, c.bytes-bytes.ensures.most)) (returns-in-Ok-clause-accepted c)

pub returns-in-Ok-clause-valid : goal.returns-in-Ok-clause-valid
returns-in-Ok-clause-valid c =
    view_valid c.args.limits c.args.bytes.now (view_value c.finish.result) c.in-Ok.size (returns-in-Ok-clause-accepted c)

pub returns-clause-refused : goal.returns-clause-refused
returns-clause-refused c = (reported_at_start c.args.limits c.args.bytes.now c.in-Err.refusal c.in-Err.ensures.given).refused

pub returns-clause-reason : goal.returns-clause-reason
returns-clause-reason c = (reported_at_start c.args.limits c.args.bytes.now c.in-Err.refusal c.in-Err.ensures.given).reason

pub returns-clause-no_read : goal.returns-clause-no_read
returns-clause-no_read c = (reported_at_start c.args.limits c.args.bytes.now c.in-Err.refusal c.in-Err.ensures.given).no_read

pub returns-clause-memory : goal.returns-clause-memory
returns-clause-memory c = (reported_at_start c.args.limits c.args.bytes.now c.in-Err.refusal c.in-Err.ensures.given).memory
