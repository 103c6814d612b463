-- An input that is read in parts.
use Rattle.std.specs.Prelude.{ℕ, ◌^◌, ◌≡◌, ◌<◌, ◌++◌, Bool, List, length, Option}
use Rattle.cborc_files.specs.Folder.{Files}
use Rattle.cborc_commands.specs.{declared.source.Source.Source, inner.Sources.HasGiven, inner.Sources.IsPartAdded}

-- the state that contracts see: the bytes that were read and not consumed yet, their offset in the input, and the file that they are read from
pub record PartsView : Type 0 where
  pub rest : List ℕ
  pub start : ℕ
  pub source : Source

-- these bytes of the input at this path were consumed, and the rest follows them
pub record IsReadTo (held : Option Files) (path : List ℕ) (hex : Bool) (taken : List ℕ) (p : PartsView) : Type 0 where
  pub given : HasGiven held path p.source (taken ++ p.rest)
  pub start_is : p.start ≡ length taken
  pub hex_is : p.source.hex ≡ hex

-- the bytes of the next part of the file at this path were added
pub record IsNextPart (held : Option Files) (path : List ℕ) (old new : PartsView) : Type 0 where
  pub added : IsPartAdded held path old.source new.source old.rest new.rest
  pub start_is : new.start ≡ old.start
  pub range : new.source.size < 2 ^ 63
