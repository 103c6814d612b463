-- A key of an open map that is the same as an earlier one, given by the number of bytes after the map's head and the
-- number of pairs before the key.
use Rattle.std.specs.Prelude.{ℕ, suc, ◌≡◌, ◌≤◌, ◌-◌, ◌^◌, ◌++◌, Option, Some, List, ◌∷◌, length}
use Rattle.cbor_head.specs.Prelude.{canonical, canonical_entries, plain, Bounds, Spelling, SpelledEntries, spell, entries_count, value_of, entries_of}
use Rattle.cbor_head.specs.declared.order.KeyOrder.{KeyOrder}
use Rattle.cbor_builder.specs.{Built.HasKey, Built.AreOpenKeysDifferent, declared.repeat.Repeat.Repeat}
use Rattle.theory_verdicts.specs.Levels.{IsTaken, Level, AreLevels, bytes_before}
use Rattle.theory_verdicts.specs.{Given.opens, Kinds.KeepsToKinds}
use Rattle.cbor_parser.specs.{Sink.IsKeyAfter, inner.OpenContainer.opener, inner.OpenContainer.Cell, inner.OpenMaps.FindsMap}

-- The input's item has a key with the canonical bytes of an earlier one of its map, and no two keys before it are the
-- same. This number of bytes of the input follows the map's head.
pub record IsKeyReported (limits : Bounds) (input : List ℕ) (following pair : ℕ) : Type 0 where
  pub level : Level
  pub outer : List Level
  pub levels : AreLevels limits.depth (level ∷ outer)
  pub es : SpelledEntries
  pub is_after : IsKeyAfter level es
  pub count : entries_count es ≡ pair
  pub key : Spelling
  pub taken : IsTaken (limits.depth - suc (length outer)) key
  pub order : KeyOrder
  pub held : HasKey (canonical_entries order (entries_of es)) (canonical order (value_of key))
  pub apart : AreOpenKeysDifferent (opens order (level ∷ outer))
  pub more : List ℕ
  pub bytes : input ≡ bytes_before (level ∷ outer) ++ (spell key ++ more)
  pub small : length input ≤ 2 ^ 62
  pub keeps : KeepsToKinds limits plain (bytes_before (level ∷ outer) ++ spell key)
  pub begins : following ≡ length input - length (bytes_before outer ++ opener level)

-- the cell that was found gives the position of its map's reported key
abbrev pub IsCellReported : Bounds → List ℕ → Option Cell → ℕ → Type 0
IsCellReported limits input found pair = (c : Cell) × (found ≡ Some c) × IsKeyReported limits input c.kept pair

-- the map of the reported key has one of these cells
abbrev pub IsKeyReportedIn : Bounds → List ℕ → List Cell → Repeat → Type 0
IsKeyReportedIn limits input cells repeat = (found : Option Cell) → FindsMap cells repeat.outside found → IsCellReported limits input found repeat.pair
