-- What is printed of a reason and of a refusal.
use Rattle.std.specs.Prelude.{ℕ, List, ◌++◌, codes, decimal}
use Rattle.cbor_head.specs.declared.reason.Reason.TheVariants.{Truncated, TooLong, Reserved, NoIndefinite, Float, BadSimple, StrayBreak, BadChunk, TooDeep, InvalidText, RepeatedKey, Trailing, CanonicalTooLong, NotShortest, Indefinite, KeyOrder, Read, Write, Memory, KeyKind}
use Rattle.cbor_head.specs.{Reason.reason_number, declared.reason.Reason.Reason, declared.reason.Refusal.Refusal}

abbrev pub reason_name : Reason → List ℕ
reason_name Truncated = codes "Truncated"
reason_name TooLong = codes "TooLong"
reason_name Reserved = codes "Reserved"
reason_name NoIndefinite = codes "NoIndefinite"
reason_name Float = codes "Float"
reason_name BadSimple = codes "BadSimple"
reason_name StrayBreak = codes "StrayBreak"
reason_name BadChunk = codes "BadChunk"
reason_name TooDeep = codes "TooDeep"
reason_name InvalidText = codes "InvalidText"
reason_name RepeatedKey = codes "RepeatedKey"
reason_name Trailing = codes "Trailing"
reason_name CanonicalTooLong = codes "CanonicalTooLong"
reason_name NotShortest = codes "NotShortest"
reason_name Indefinite = codes "Indefinite"
reason_name KeyOrder = codes "KeyOrder"
reason_name Read = codes "Read"
reason_name Write = codes "Write"
reason_name Memory = codes "Memory"
reason_name KeyKind = codes "KeyKind"

-- the number of the reason, its name, and the offset
abbrev pub refusal_text : Refusal → List ℕ
refusal_text r = decimal (reason_number r.reason) ++ codes " " ++ reason_name r.reason ++ codes " at " ++ decimal r.place
