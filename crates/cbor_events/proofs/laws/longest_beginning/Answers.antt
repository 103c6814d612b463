use Rattle.theory_automaton.proofs.Longest.{longest_exists}
use Rattle.cbor_events.proofs.laws.longest_beginning.Goals as goal

pub returns : goal.returns
returns c = longest_exists
