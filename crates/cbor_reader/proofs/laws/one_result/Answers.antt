use Rattle.cbor_reader.proofs.OneResult.{one_canonical, one_result, only_memory}
use Rattle.cbor_reader.proofs.laws.one_result.Goals as goal

pub returns-clause-bytes : goal.returns-clause-bytes
returns-clause-bytes c = λ limits o input x y v w. one_canonical limits o input x y v w

pub returns-clause-refusal : goal.returns-clause-refusal
returns-clause-refusal c = λ limits o input f g h i a b. one_result limits o input f g h i a b

pub returns-clause-either : goal.returns-clause-either
returns-clause-either c = λ limits o input x f v w. only_memory limits o input x f v w
