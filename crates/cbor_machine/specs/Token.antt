-- What is reported of an item, as events.
use Rattle.std.specs.Prelude.{ℕ, Some}
use Rattle.cbor_head.specs.declared.event.EventKind.TheVariants as kinds
use Rattle.cbor_head.specs.declared.event.EventKind.{EventKind}
use Rattle.cbor_machine.specs.declared.token.Token.TheVariants.{Unsigned, Negative, Bytes, Text, Array, Map, Tag, Simple, Piece, Chunk}
use Rattle.cbor_machine.specs.declared.token.Token.{Token}

-- an event, by what is reported and its number
abbrev pub kind_of : Token → ℕ → EventKind
kind_of Unsigned n = kinds.Unsigned n
kind_of Negative n = kinds.Negative n
kind_of Bytes n = kinds.Bytes (Some n)
kind_of Text n = kinds.Text (Some n)
kind_of Array n = kinds.Array (Some n)
kind_of Map n = kinds.Map (Some n)
kind_of Tag n = kinds.Tag n
kind_of Simple n = kinds.Simple n
kind_of Piece n = kinds.Piece n
kind_of Chunk n = kinds.Chunk n
