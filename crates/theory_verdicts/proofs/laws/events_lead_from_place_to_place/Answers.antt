use Rattle.theory_verdicts.specs.Place as place
use Rattle.theory_verdicts.proofs.Placed.{event-leads, open-there, complete-there}
use Rattle.theory_verdicts.proofs.laws.events_lead_from_place_to_place.Goals as goal

pub returns-clause-begins : goal.returns-clause-begins
returns-clause-begins c = λ d. place.begins

pub returns-clause-leads : goal.returns-clause-leads
returns-clause-leads c = event-leads

pub returns-clause-open : goal.returns-clause-open
returns-clause-open c = open-there

pub returns-clause-complete : goal.returns-clause-complete
returns-clause-complete c = complete-there
