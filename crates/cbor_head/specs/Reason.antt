-- The numbers of the reasons.
use Rattle.std.specs.Prelude.{ℕ}
use Rattle.cbor_head.specs.declared.reason.Reason.TheVariants.{Truncated, TooLong, Reserved, NoIndefinite, Float, BadSimple, StrayBreak, BadChunk, TooDeep, InvalidText, RepeatedKey, Trailing, CanonicalTooLong, NotShortest, Indefinite, KeyOrder, Read, Write, Memory, KeyKind}
use Rattle.cbor_head.specs.declared.reason.Reason.{Reason}

abbrev pub reason_number : Reason → ℕ
reason_number Truncated = 1
reason_number TooLong = 2
reason_number Reserved = 3
reason_number NoIndefinite = 4
reason_number Float = 5
reason_number BadSimple = 6
reason_number StrayBreak = 7
reason_number BadChunk = 8
reason_number TooDeep = 9
reason_number InvalidText = 10
reason_number RepeatedKey = 11
reason_number Trailing = 12
reason_number CanonicalTooLong = 13
reason_number NotShortest = 14
reason_number Indefinite = 15
reason_number KeyOrder = 16
reason_number Read = 17
reason_number Write = 18
reason_number Memory = 19
reason_number KeyKind = 20
