-- What `--explain` says about a fault.
use Rattle.std.specs.Prelude.{ℕ, List, Option, Some, None, codes}
use Rattle.std.specs.declared.io.ErrorKind.TheVariants as kinds
use Rattle.std.specs.declared.io.ErrorKind.{ErrorKind}
use Rattle.cborc_words.specs.declared.request.{Action.Action, Action.TheVariants.Compare, Request.Request}

-- the path of the last file that a request reads
abbrev pub last_source_by : Action → List ℕ → List ℕ
last_source_by (Compare right) source = right.now
last_source_by _ source = source

abbrev pub last_source : Request → List ℕ
last_source request = last_source_by request.action request.source.now

-- why a file could not be read or written, for the most common errors
abbrev pub cause_text : ErrorKind → Option (List ℕ)
cause_text kinds.NotFound = Some (codes "There is no such file or folder.")
cause_text kinds.PermissionDenied = Some (codes "It is not permitted.")
cause_text kinds.IsADirectory = Some (codes "It is a folder.")
cause_text kinds.NotADirectory = Some (codes "A part of the path is not a folder.")
cause_text kinds.ReadOnlyFilesystem = Some (codes "The file system is read-only.")
cause_text kinds.StorageFull = Some (codes "The disk is full.")
cause_text kinds.QuotaExceeded = Some (codes "The disk is full.")
cause_text kinds.FileTooLarge = Some (codes "The file would be larger than the system allows.")
cause_text kinds.ExecutableFileBusy = Some (codes "It is a running program.")
cause_text kinds.ResourceBusy = Some (codes "It is in use.")
cause_text kinds.InvalidInput = Some (codes "The path contains a NUL byte.")
cause_text kinds.InvalidFilename = Some (codes "The name is too long.")
cause_text kinds.FilesystemLoop = Some (codes "Symbolic links form a loop.")
cause_text kinds.BrokenPipe = Some (codes "Its reader has closed it.")
cause_text _ = None
