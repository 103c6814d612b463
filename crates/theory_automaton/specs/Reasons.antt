-- The reasons for which a machine and a reader of events refuse (RFC 8949, section 3 and appendix F).
use Rattle.cbor_head.specs.declared.reason.Reason.TheVariants.{Truncated, TooLong, Reserved, NoIndefinite, Float, BadSimple, StrayBreak, BadChunk, TooDeep, Read}
use Rattle.cbor_head.specs.declared.reason.Reason.{Reason}

-- a byte is not allowed here
abbrev pub IsFormReason : Reason → Type 0
IsFormReason Reserved = Unit {0}
IsFormReason NoIndefinite = Unit {0}
IsFormReason Float = Unit {0}
IsFormReason BadSimple = Unit {0}
IsFormReason StrayBreak = Unit {0}
IsFormReason BadChunk = Unit {0}
IsFormReason TooDeep = Unit {0}
IsFormReason _ = ⊥

-- for a machine: those, and the byte limit
abbrev pub IsMachineReason : Reason → Type 0
IsMachineReason TooLong = Unit {0}
IsMachineReason r = IsFormReason r

-- for a reader: those, and that the reader ended or failed
abbrev pub IsEventReason : Reason → Type 0
IsEventReason Truncated = Unit {0}
IsEventReason Read = Unit {0}
IsEventReason r = IsMachineReason r
