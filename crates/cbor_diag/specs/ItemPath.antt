-- The text of a path through an item.
use Rattle.std.specs.Prelude.{ℕ, ◌≡◌, ◌≢◌, true, false, List, [], ◌∷◌, ◌++◌, drop, codes, decimal}
use Rattle.cbor_head.specs.Prelude.{plain, bounds, Value}
use Rattle.cbor_head.specs.declared.reason.{Reason.TheVariants.Memory, Refusal.Refusal}
use Rattle.theory_verdicts.specs.Readers.{IsReadAs, IsUnread}
use Rattle.cbor_diag.specs.declared.item_path.Step.TheVariants.{Member, Key, Value as ValueOf, Content}
use Rattle.cbor_diag.specs.{Hidden.has_hidden, Text.text, declared.item_path.Step.Step}

-- a key that is shown by its offset
abbrev pub by_place : ℕ → List ℕ
by_place place = codes ".(the key at " ++ decimal place ++ codes ")"

-- The text of the key at an offset: its diagnostic text, if it is a valid item of at most 64 bytes; its offset, if that text has
-- a character that a terminal does not show, or if the bytes there are refused.
pub data IsKeyText (item : List ℕ) (place : ℕ) (t : List ℕ) : Type 0 where
  short : (v : Value) (count : ℕ) → IsReadAs (bounds 256 64) plain (drop place item) v count → has_hidden (text v) ≡ false → t ≡ codes "." ++ text v → IsKeyText item place t
  hidden : (v : Value) (count : ℕ) → IsReadAs (bounds 256 64) plain (drop place item) v count → has_hidden (text v) ≡ true → t ≡ by_place place → IsKeyText item place t
  long : (f : Refusal) → IsUnread (bounds 256 64) plain (drop place item) f → f.reason ≢ Memory → t ≡ by_place place → IsKeyText item place t

-- the text of a step
abbrev pub IsStepText : List ℕ → Step → List ℕ → Type 0
IsStepText item (Member index) t = t ≡ codes "[" ++ decimal index ++ codes "]"
IsStepText item (Content number) t = t ≡ codes "(" ++ decimal number ++ codes ")"
IsStepText item (ValueOf key) t = IsKeyText item key t
IsStepText item (Key number map) t = t ≡ codes ", key " ++ decimal number ++ codes " of the map at " ++ decimal map

-- the texts of the steps, joined
abbrev pub AreStepTexts : List ℕ → List Step → List ℕ → Type 0
AreStepTexts item [] t = t ≡ []
AreStepTexts item (s ∷ ss) t = (first rest : List ℕ) × IsStepText item s first × AreStepTexts item ss rest × (t ≡ first ++ rest)

-- the text of a path
pub record IsPathText (item : List ℕ) (way : List Step) (path : List ℕ) : Type 0 where
  pub steps : List ℕ
  pub are : AreStepTexts item way steps
  pub is : path ≡ codes "$" ++ steps
