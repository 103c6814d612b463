-- A writer as C has it: two numbers, and the parts that calls put by the number of their kind.
use Rattle.std.specs.Prelude.{ℕ, ◌≡◌, ◌<◌, ◌⊎◌, List, length}
use Rattle.cbor_head.specs.{Head.major_number, declared.major.Major.Major}
use Rattle.cbor_writer.specs.{Parts.Part, Writing.Puts, Writing.Fails, declared.writer.Writer.Writer}
use Rattle.cbor_cursor.specs.WellFormed.{BeginsWithItem, HasNoItem}

-- a writer by its numbers
abbrev pub writer : ℕ → ℕ → Writer
writer needed status = record { needed = needed; status = status }

-- the part of the major type of this number is put
pub record PutsOf (part : Major → Part) (kind : ℕ) (old_out new_out : List ℕ) (old new : Writer) : Type 0 where
  pub major : Major
  pub kind_is : kind ≡ major_number major
  pub puts : Puts (part major) old_out new_out old new

-- nothing is put, and the writer fails
pub record PutsNothing (failure : ℕ) (old_out new_out : List ℕ) (old new : Writer) : Type 0 where
  pub same : new_out ≡ old_out
  pub fails : Fails failure old new

-- these are not the bytes of one well-formed item of definite lengths: none begins there, or bytes follow one
abbrev pub IsNotItem : List ℕ → Type 0
IsNotItem bytes = HasNoItem bytes ⊎ ((rest : List ℕ) × BeginsWithItem bytes rest × (0 < length rest))
