-- Which expected bytes a machine consumes at once: a head, an argument or a part of a payload that is complete in the input.
use Rattle.std.specs.Prelude.{ℕ, ◌%◌, ◌==◌, ◌&&◌, ◌||◌, nat_lt, nat_le, Bool, true, false, List, [], ◌∷◌, length}
use Rattle.cbor_machine.specs.declared.position.Position.TheVariants.{Item, Head, Payload}
use Rattle.cbor_machine.specs.declared.opening.{Opening.TheVariants.Long, ArgumentType.ArgumentType, Opening.Opening}
use Rattle.cbor_machine.specs.declared.position.Position.{Position}

-- whether an item that begins with this byte may begin with this number of containers open: an array, a map or a tag
-- must be within the depth limit
abbrev pub may_begin : ℕ → ℕ → ℕ → Bool
may_begin depth open_count c = nat_lt c 0x80 || nat_le 0xe0 c || nat_lt open_count depth

-- the byte is a complete head, with its argument in the low five bits (RFC 8949, section 3)
abbrev pub is_short_head : ℕ → Bool
is_short_head c = nat_lt (c % 32) 24

-- the first byte of a head whose argument is in the 1, 2, 4 or 8 bytes after it, except simple values and floats
abbrev pub is_long_head : ℕ → Bool
is_long_head c = nat_lt c 0xe0 && nat_le 24 (c % 32) && nat_le (c % 32) 27

-- such a byte where an item is expected, within this number of open containers
abbrev pub begins_long : ℕ → ℕ → ℕ → Bool
begins_long depth open_count c = is_long_head c && may_begin depth open_count c

-- the bytes begin with a head of one byte
abbrev pub begins_short : ℕ → ℕ → List ℕ → Bool
begins_short depth open_count [] = false
begins_short depth open_count (c ∷ following) = is_short_head c && may_begin depth open_count c

-- one more than this number is 1, 2, 4 or 8, the number of bytes of an argument
abbrev pub is_width : ℕ → Bool
is_width left = left == 0 || left == 1 || left == 3 || left == 7

-- Whether these expected bytes are consumed at once: a head of one byte; the argument of the open head, if it is
-- complete and its bytes before these are zeros; any part of a payload. It depends on the depth limit, the number of
-- open containers and the position.
abbrev pub is_taken_at_once : ℕ → ℕ → Position → List ℕ → Bool
is_taken_at_once depth open_count Item bytes = begins_short depth open_count bytes
is_taken_at_once depth open_count (Head chunk kind width left argument) bytes = argument == 0 && is_width left && nat_lt left (length bytes)
is_taken_at_once depth open_count (Payload chunk kind left) bytes = true
is_taken_at_once depth open_count _ bytes = false

-- what holds for the type of a head that begins with this byte, if its argument follows the byte
abbrev pub IfLong : Opening → (ArgumentType → Type 0) → Type 0
IfLong (Long kind width) P = P kind
IfLong _ P = Unit {0}

abbrev pub is_long : Opening → Bool
is_long (Long kind width) = true
is_long _ = false
