-- The orders of encoded keys (RFC 8949, sections 4.2.1 and 4.2.3).
use Rattle.std.specs.Prelude.{ℕ, Bool, List, length}
use Rattle.std.specs.Ordering.{nat_cmp, then_cmp, on, is_lt}
use Rattle.std.specs.{declared.cmp.Ordering.Ordering, Cmp.Lexicographic.slice_cmp}
use Rattle.cbor_head.specs.declared.order.KeyOrder.{KeyOrder, TheVariants.Bytewise, TheVariants.LengthFirst}

-- Bytewise: lexicographic, a proper prefix first. LengthFirst: fewer bytes first, then bytewise.
abbrev pub key_cmp : KeyOrder → List ℕ → List ℕ → Ordering
key_cmp Bytewise = slice_cmp nat_cmp
key_cmp LengthFirst = then_cmp (on length nat_cmp) (slice_cmp nat_cmp)

-- the first comes before the second
abbrev pub key_lt : KeyOrder → List ℕ → List ℕ → Bool
key_lt o xs ys = is_lt (key_cmp o xs ys)
