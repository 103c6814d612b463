-- What the bytes read of an item decide about it: its first complaint, or none so far.
use Rattle.std.specs.Prelude.{ℕ, ◌+◌, ◌<◌, ◌++◌, List, length, Option, Some, None}
use Rattle.cbor_head.specs.Prelude.{Spelling, spell, IsItem, Rules, Complaint, Complains, IsFirstOf}

-- there is no complaint of this kind
abbrev pub Never : (Complaint → Type 0) → Type 0
Never P = (c : Complaint) → P c → ⊥

-- the first complaint that ends within the first t bytes; or none, for an item that is longer
abbrev pub IsFinding : (Complaint → Type 0) → ℕ → ℕ → Option Complaint → Type 0
IsFinding P t whole (Some c) = IsFirstOf P t c
IsFinding P t whole None = (t < whole) × ((e : Complaint) → P e → t < e.end)

-- Some item within the depth starts with p. At this offset it has this complaint first, within p; or none within p, and
-- is longer. The same then holds for each item that starts with p.
pub record IsJudged (r : Rules) (at d : ℕ) (p : List ℕ) (found : Option Complaint) : Type 0 where
  pub item : Spelling
  pub rest : List ℕ
  pub is : IsItem d item (p ++ rest)
  pub finding : IsFinding (Complains r at item) (at + length p) (at + length (spell item)) found
