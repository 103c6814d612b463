-- The diagnostic text of an input (RFC 8949, section 8).
use Rattle.std.specs.Prelude.{ℕ, ◌≡◌, List}
use Rattle.cbor_head.specs.Prelude.{Bounds, Spelling, value_of}
use Rattle.cbor_reader.specs.Headline.{IsValidItem}
use Rattle.cbor_diag.specs.Text.{text}

-- the input is one valid item within the limits, and this is the text of its value
pub record IsTextOf (limits : Bounds) (input shown : List ℕ) : Type 0 where
  pub item : Spelling
  pub valid : IsValidItem limits input item
  pub says : shown ≡ text (value_of item)
