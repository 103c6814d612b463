-- What the errors of an output say about its reader.
use Rattle.std.specs.Prelude.{◌≡◌, ◌≢◌, Bool, true}
use Rattle.std.specs.declared.io.ErrorKind.TheVariants as kinds
use Rattle.std.specs.declared.io.ErrorKind.{ErrorKind}

-- an error of this kind says that the reader closed the pipe, or changes nothing
pub record IsClosedBy (kind : ErrorKind) (old new : Bool) : Type 0 where
  pub closed : kind ≡ kinds.BrokenPipe → new ≡ true
  pub other : kind ≢ kinds.BrokenPipe → new ≡ old
