-- When two inputs mean the same, and which side is refused (RFC 8949, section 5.6.1).
use Rattle.std.specs.Prelude.{ℕ, Bool, List}
use Rattle.cbor_head.specs.Prelude.{plain, Bounds, Spelling, value_of, Same}
use Rattle.cbor_head.specs.declared.reason.Refusal.{Refusal}
use Rattle.cbor_reader.specs.declared.comparison.Side.{Side, TheVariants.Left, TheVariants.Right}
use Rattle.cbor_reader.specs.{Headline.IsValidItem, WholeItem.IsWholeItem, WholeItem.IsItemRefusal}

-- the input on this side
abbrev pub input_of : Side → List ℕ → List ℕ → List ℕ
input_of Left left right = left
input_of Right left right = right

-- what is recorded of the requests for this side
abbrev pub memory_of : Side → Bool → Bool → Bool
memory_of Left left right = left
memory_of Right left right = right

-- both are whole valid items within the limits, of the same value
pub record MeanTheSame (limits : Bounds) (left right : List ℕ) : Type 0 where
  pub left_item : Spelling
  pub right_item : Spelling
  pub left_whole : IsValidItem limits left left_item
  pub right_whole : IsValidItem limits right right_item
  pub same : Same (value_of left_item) (value_of right_item)

-- the refusal of this side; the right one is refused only if the left one is accepted
abbrev pub IsSideRefusal : Bounds → List ℕ → List ℕ → Side → Refusal → Type 0
IsSideRefusal limits left right Left f = IsItemRefusal limits plain left f
IsSideRefusal limits left right Right f = IsWholeItem limits left × IsItemRefusal limits plain right f
