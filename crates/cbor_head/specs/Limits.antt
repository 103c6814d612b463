-- The limits on one item.
use Rattle.std.specs.Prelude.{ℕ, ◌≤◌, ◌^◌}
use Rattle.cbor_head.specs.declared.{keys.Keys.Keys, keys.Keys.TheVariants.Any, limits.TheConstants.MAX_DEPTH}

-- how deep its arrays, maps and tags may nest, how many bytes it may have, and which kinds of keys its maps may have
pub record Bounds : Type 0 where
  pub depth : ℕ
  pub bytes : ℕ
  pub keys : Keys

-- bounds, by depth and bytes, for keys of any kind
abbrev pub bounds : ℕ → ℕ → Bounds
bounds depth bytes = record { depth = depth; bytes = bytes; keys = Any }

-- the same for keys of these kinds
abbrev pub with_keys : Bounds → Keys → Bounds
with_keys b keys = record { depth = b.depth; bytes = b.bytes; keys = keys }

-- a depth up to the greatest, 1024, and up to 2^62 bytes
abbrev pub AreBounds : Bounds → Type 0
AreBounds b = (b.depth ≤ MAX_DEPTH) × (b.bytes ≤ 2 ^ 62)
