use Rattle.std.proofs.Common.{refl}
use Rattle.cbor_reader.proofs.laws.results_are_encoded_trees.Goals as goal
use Rattle.cbor_reader.specs.{Canonicalise.of_item, WholeItem.unread, WholeItem.trailing}
use Rattle.cbor_reader.proofs.WholeItems.{tree_becomes, tree_too_long}

pub returns-clause-outcome : goal.returns-clause-outcome
returns-clause-outcome c = tree_becomes

pub returns-clause-too_long : goal.returns-clause-too_long
returns-clause-too_long c = tree_too_long

pub returns-clause-followed : goal.returns-clause-followed
returns-clause-followed c = λ limits o input v count a l. of_item (trailing count a.read l refl)

pub returns-clause-refused : goal.returns-clause-refused
returns-clause-refused c = λ limits o input f u g. of_item (unread u g)
