-- What stays known about files from call to call, for a text that was written.
use Rattle.std.proofs.Common.{List, ℕ, Option}
use Rattle.cborc_files.specs.Folder.{Files, KeepsFiles}
use Rattle.cborc_commands.specs.Put.{IsPut, printed, written}
use Rattle.cborc_commands.proofs.Files.{keeps_keeps, replaces_kept}

pub put_kept : (path : List ℕ) (a b c : Option Files) (before after : Option (List ℕ)) (text : List ℕ) → KeepsFiles a b → IsPut path b c before after text → IsPut path a c before after text
put_kept path a b c before after text h (printed s p k) = printed s p (keeps_keeps a b c h k)
put_kept path a b c before after text h (written s r o) = written s (replaces_kept a b c path text h r) o
