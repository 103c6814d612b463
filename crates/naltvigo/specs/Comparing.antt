-- What `naltvigo_compare_raw` promises.
use Rattle.std.specs.Prelude.{ℕ, ◌≡◌, ◌≢◌, ◌⊎◌, List}
use Rattle.cbor_head.specs.Prelude.{Same, Spelling, value_of}
use Rattle.cbor_head.specs.declared.order.KeyOrder.TheVariants.{Bytewise}
use Rattle.cbor_reader.specs.Comparing.{IsSideRefusal, MeanTheSame, input_of}
use Rattle.cbor_reader.specs.declared.comparison.Side.{Side, TheVariants.Left, TheVariants.Right}
use Rattle.cbor_reader.specs.{Canonicalise.IsCanonicalOf, Headline.IsValidItem, WholeItem.IsWholeItem}
use Rattle.naltvigo.specs.declared.status.TheConstants.{BAD_LIMITS, DIFFERENT, NO_MEMORY, OK, REFUSED}
use Rattle.naltvigo.specs.{Reported.ReportsMemory, Reported.ReportsOf, Settings.AreLimits, Settings.item_limits}
use Rattle.naltvigo.specs.declared.{comparing.TheConstants.LEFT, comparing.TheConstants.RIGHT, status.NaltvigoRefusal.NaltvigoRefusal}

-- the number of a side
abbrev pub side_number : Side → ℕ
side_number Left = 0
side_number Right = 1

-- `side` and `refusal` are the contents before the call, `new_side` and `new_refusal` those after it, and `status` is what it returned.
pub record HasCompared (left right : List ℕ) (keys depth bytes side new_side : ℕ) (refusal new_refusal : NaltvigoRefusal) (status : ℕ) : Type 0 where
  pub same : status ≡ OK → MeanTheSame (item_limits keys depth bytes) left right
  pub different : status ≡ DIFFERENT → ¬ MeanTheSame (item_limits keys depth bytes) left right
  pub accepted : (status ≡ OK) ⊎ (status ≡ DIFFERENT) → IsWholeItem (item_limits keys depth bytes) left × IsWholeItem (item_limits keys depth bytes) right
  pub values : status ≡ OK → (s t : Spelling) → IsValidItem (item_limits keys depth bytes) left s → IsValidItem (item_limits keys depth bytes) right t → Same (value_of s) (value_of t)
  pub other_values : status ≡ DIFFERENT → (s t : Spelling) → IsValidItem (item_limits keys depth bytes) left s → IsValidItem (item_limits keys depth bytes) right t
      → ¬ Same (value_of s) (value_of t)
  -- a canonical side needs no memory, nor does a right one with the bytes of the left
  pub own : (status ≡ REFUSED) ⊎ (status ≡ NO_MEMORY) → (s : Side) → IsCanonicalOf (item_limits keys depth bytes) Bytewise (input_of s left right) (input_of s left right)
      → new_side ≢ side_number s
  pub equal : (status ≡ REFUSED) ⊎ (status ≡ NO_MEMORY) → left ≡ right → new_side ≡ LEFT
  pub refused : status ≡ REFUSED → (s : Side) × (new_side ≡ side_number s) × ReportsOf (IsSideRefusal (item_limits keys depth bytes) left right s) new_refusal
  pub only : status ≡ REFUSED → IsWholeItem (item_limits keys depth bytes) left → ¬ IsWholeItem (item_limits keys depth bytes) right
  pub no_memory : status ≡ NO_MEMORY → ReportsMemory 0 new_refusal
  pub memory_side : status ≡ NO_MEMORY → (new_side ≡ LEFT) ⊎ ((new_side ≡ RIGHT) × IsWholeItem (item_limits keys depth bytes) left)
  pub bad_limits : status ≡ BAD_LIMITS → ¬ AreLimits keys depth bytes
  pub in_range : status ≢ BAD_LIMITS → AreLimits keys depth bytes
  -- OK, DIFFERENT, REFUSED, NO_MEMORY, BAD_LIMITS
  pub statuses : (status ≡ 0) ⊎ (status ≡ 6) ⊎ (status ≡ 1) ⊎ (status ≡ 3) ⊎ (status ≡ 5)
  pub unreported : status ≢ REFUSED → status ≢ NO_MEMORY → (new_side ≡ side) × (new_refusal ≡ refusal)
