-- Items that are skipped, and nothing stored of them.
use Rattle.std.specs.Prelude.{ℕ, ◌≡◌, ◌<◌, ◌-◌, ◌++◌, Bool, List}
use Rattle.cbor_head.specs.Prelude.{Spellings, spell_all, spellings_count}
use Rattle.theory_verdicts.specs.Levels.{AreTaken, Level, ParseState}

-- a sink that stores nothing is at every position
abbrev pub anywhere : (S : Type 0) → S → S → ParseState → Type 0
anywhere S start g st = Unit {0}

abbrev pub anything : (S : Type 0) → S → S → List Level → Bool → List ℕ → Type 0
anything S start g ls is_text content = Unit {0}

-- this number of items without complaint are at the start, as they may be within one container, and these bytes follow
-- them
pub record HasItemsAtStart (d : ℕ) (bytes : List ℕ) (count : ℕ) (following : List ℕ) : Type 0 where
  pub items : Spellings
  pub taken : AreTaken (d - 1) items
  pub space : 0 < d
  pub count_is : spellings_count items ≡ count
  pub bytes_are : bytes ≡ spell_all items ++ following
