-- The values of some kinds of items.
use Rattle.std.specs.Prelude.{Bool, true, false}
use Rattle.cbor_head.specs.{Value.simple, Prelude.Value}

-- `false` and `true` (RFC 8949, section 3.3)
abbrev pub boolean : Bool → Value
boolean false = simple 20
boolean true = simple 21
