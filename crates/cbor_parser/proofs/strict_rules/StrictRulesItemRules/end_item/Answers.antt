use Rattle.cbor_parser.proofs.strict_rules.StrictRulesItemRules.end_item.Goals as goal
use Rattle.cbor_parser.proofs.StrictPlaces.{steps}

pub returns : goal.returns
returns c = λ first limits input outer h. steps c.end_item.result first c.args.self.now limits input c.args.top.now c.end_item.new.self outer c.args.rest.now h c.end_item.ensures
