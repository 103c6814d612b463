use Rattle.cbor_reader.proofs.laws.items_cut_short.Goals as goal
use Rattle.cbor_reader.proofs.CutShort.{truncated, too_long}

pub returns-clause-truncated : goal.returns-clause-truncated
returns-clause-truncated c = λ limits r s b k i none small. truncated limits r s b k i none small

pub returns-clause-too_long : goal.returns-clause-too_long
returns-clause-too_long c = λ limits r s b rest i none small. too_long limits r s b rest i none small
