-- What a step of the strict machine refuses for.
use Rattle.std.specs.Prelude.{◌≡◌, ◌⊎◌}
use Rattle.cbor_head.specs.declared.{order.KeyOrder.KeyOrder, reason.Reason.Reason, reason.Reason.TheVariants.KeyKind}
use Rattle.theory_automaton.specs.Reasons.{IsMachineReason}
use Rattle.cbor_strict.specs.StrictReader.{IsAgainstEvent}

-- a byte that may not follow, or the byte limit; an event that was read; the kind of a key; and never that the input ended
abbrev pub IsStrictReason : KeyOrder → Reason → Type 0
IsStrictReason o reason = IsMachineReason reason ⊎ IsAgainstEvent o reason ⊎ (reason ≡ KeyKind)
