-- Reading a file.
use Rattle.std.specs.Prelude.{ℕ, ◌≡◌, ◌≢◌, ◌≤◌, ◌++◌, List, [], length, Option}
use Rattle.std.specs.declared.io.ErrorKind.TheVariants as kinds
use Rattle.std.specs.{Io.KnownBytes.Consumes, declared.io.ErrorKind.ErrorKind}

-- bytes were added to the old ones, at most this number
pub record IsAppended (most : ℕ) (old new : List ℕ) : Type 0 where
  pub added : List ℕ
  pub is : new ≡ old ++ added
  pub few : length added ≤ most

-- before an error of this kind, all bytes that were read were added to the old ones, except a part for which memory was refused
pub record IsCutShort (kind : ErrorKind) (before after : Option (List ℕ)) (old new : List ℕ) : Type 0 where
  pub added : List ℕ
  pub dropped : List ℕ
  pub is : new ≡ old ++ added
  pub lost : Consumes before after (added ++ dropped)
  pub memory : dropped ≢ [] → kind ≡ kinds.OutOfMemory
