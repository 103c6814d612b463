-- The reasons of a byte are reasons of a machine, and of a reader of events.
use Rattle.cbor_head.specs.declared.reason.Reason.{Reason, TheVariants.TooLong}
use Rattle.theory_automaton.specs.Reasons.{IsFormReason, IsMachineReason}

pub form-machine : (r : Reason) → IsFormReason r → IsMachineReason r
form-machine TooLong h = absurd h
form-machine _ h = h
