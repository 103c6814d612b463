-- What is read of an input that is to be one item.
use Rattle.std.specs.Prelude.{ℕ, ◌≡◌, ◌++◌, List, Option}
use Rattle.cbor_head.specs.Prelude.{Rules}
use Rattle.cborc_files.specs.Folder.{Files}
use Rattle.cborc_words.specs.declared.request.Options.{Options}
use Rattle.cborc_commands.specs.{inner.Decided.IsEnough, Input.IsInput}

-- these bytes are the first ones of the input at this path: all of them, or enough by these rules
pub record StartsInput (rules : Rules) (held : Option Files) (path : List ℕ) (options : Options) (bytes : List ℕ) : Type 0 where
  pub input : List ℕ
  pub is : IsInput held path options.hex input
  pub following : List ℕ
  pub splits : bytes ++ following ≡ input
  pub enough : IsEnough rules options.limits bytes following
