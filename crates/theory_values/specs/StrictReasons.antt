-- The reasons for which the deterministic encoding alone refuses (RFC 8949, section 4.2).
use Rattle.cbor_head.specs.declared.reason.Reason.TheVariants.{NotShortest, Indefinite, KeyOrder}
use Rattle.cbor_head.specs.declared.reason.Reason.{Reason}

-- a head that is not the shortest, an indefinite length, keys that do not rise
abbrev pub IsStrictReason : Reason → Type 0
IsStrictReason NotShortest = Unit {0}
IsStrictReason Indefinite = Unit {0}
IsStrictReason KeyOrder = Unit {0}
IsStrictReason _ = ⊥
