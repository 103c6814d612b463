use Rattle.cbor_tree_reader.proofs.Sizes.{size_bounded}
use Rattle.cbor_reader.proofs.laws.values_are_no_larger_than_their_items.Goals as goal

pub returns : goal.returns
returns c = size_bounded
