use Rattle.cbor_reader.proofs.laws.items_and_their_refusals.Goals as goal
use Rattle.cbor_reader.proofs.{OneResult.item_refused_once, WholeItems.refused_for_memory}

pub returns-clause-one : goal.returns-clause-one
returns-clause-one c = item_refused_once

pub returns-clause-either : goal.returns-clause-either
returns-clause-either c = refused_for_memory
