use Rattle.cbor_item.specs.View.{view}
use Rattle.cbor_diag.proofs.laws.texts_distinguish_trees.Goals as goal
use Rattle.cbor_diag.proofs.ReadBack.{equal-line, equal-lines}

pub returns : goal.returns
returns c =
    let left = view c.args.left.now in
    let right = view c.args.right.now in
    record {
      one_line = equal-line left right c.item-left.ensures.in_range c.item-right.ensures.in_range;
      lines = equal-lines 0 left right c.item-left.ensures.in_range c.item-right.ensures.in_range;
    }
