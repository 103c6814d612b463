-- Orders of keys, kinds of keys and limits, as numbers.
use Rattle.std.specs.Prelude.{ℕ, ◌==◌, ◌≤◌, if◌then◌else◌}
use Rattle.cbor_head.specs.Prelude.{Bounds, bounds, with_keys, AreBounds}
use Rattle.cbor_head.specs.declared.{keys.Keys.Keys, keys.Keys.TheVariants.Any, keys.Keys.TheVariants.IntegersAndTexts, order.KeyOrder.KeyOrder}
use Rattle.cbor_head.specs.declared.order.KeyOrder.TheVariants.{Bytewise, LengthFirst}

-- the order of a number: of 0 and of 1 (RFC 8949, sections 4.2.1 and 4.2.3)
abbrev pub key_order : ℕ → KeyOrder
key_order n = if n == 0 then Bytewise else LengthFirst

-- the kinds of keys of a number: of 0 and of 1
abbrev pub key_kinds : ℕ → Keys
key_kinds n = if n == 0 then Any else IntegersAndTexts

-- the limits for keys of the kinds of a number, by depth and bytes
abbrev pub item_limits : ℕ → ℕ → ℕ → Bounds
item_limits keys depth bytes = with_keys (bounds depth bytes) (key_kinds keys)

-- a depth and bytes that are bounds, and a number that is one of the two kinds'
abbrev pub AreLimits : ℕ → ℕ → ℕ → Type 0
AreLimits keys depth bytes = AreBounds (bounds depth bytes) × (keys ≤ 1)
