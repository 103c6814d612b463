use Rattle.cbor_item.proofs.within.held.Goals as goal
use Rattle.cbor_item.{proofs.Held.holds_members, proofs.Held.holds_pairs, specs.View.view}

pub returns-in-Array : goal.returns-in-Array
returns-in-Array c = holds_members view _ c.in-Array.members.now c.in-Array.ensures.value c.check_count.ensures

pub returns-in-Map : goal.returns-in-Map
returns-in-Map c = holds_pairs view _ c.in-Map.pairs.now c.in-Map.ensures.value c.check_count-in-Map.ensures
