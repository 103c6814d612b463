-- Which of the open containers are maps.
use Rattle.std.specs.Prelude.{ℕ, suc, ◌≡◌, ◌-◌, Bool, true, false, Option, Some, List, [], ◌∷◌, ◌++◌, length}
use Rattle.cbor_head.specs.Prelude.{Spelling, a_map}
use Rattle.theory_verdicts.specs.Levels.{Level, a_member, some_member, tagged, ArePairsTaken, bytes_before}
use Rattle.cbor_parser.specs.{Expected.pairs, Sink.is_map, inner.OpenContainer.full_opener, inner.OpenContainer.Cell}

-- the keys and values of a map were read; two keys may be the same
abbrev pub HasTakenPairs : ℕ → Spelling → Type 0
HasTakenPairs d (a_map w es) = ArePairsTaken d es
HasTakenPairs d _ = Unit {0}

-- this container, complete within these, has this cell, in an input of this number of bytes
pub record IsCellOf (n d : ℕ) (c : Cell) (ls : List Level) (s : Spelling) : Type 0 where
  pub kind : pairs c.expected ≡ is_map s
  pub place : c.kept ≡ n - length (bytes_before ls ++ full_opener s)
  pub taken : HasTakenPairs (d - suc (length ls)) s

-- ---- maps

abbrev pub is_map_level : Level → Bool
is_map_level (a_member w left done) = false
is_map_level (some_member done) = false
is_map_level (tagged w n) = false
is_map_level _ = true

abbrev pub counts_one : Bool → ℕ → ℕ
counts_one true n = suc n
counts_one false n = n

-- this number of the open containers are maps
abbrev pub map_levels : List Level → ℕ
map_levels [] = 0
map_levels (l ∷ ls) = counts_one (is_map_level l) (map_levels ls)

-- this number of the cells are those of maps
abbrev pub map_cells : List Cell → ℕ
map_cells [] = 0
map_cells (c ∷ cs) = counts_one (pairs c.expected) (map_cells cs)

-- the cell, among these, of the map that has this number of open maps around it
abbrev pub FindsMap : List Cell → ℕ → Option Cell → Type 0
FindsMap cells outside found = (inner outer : List Cell) (c : Cell) → cells ≡ inner ++ c ∷ outer → pairs c.expected ≡ true → map_cells outer ≡ outside → found ≡ Some c
