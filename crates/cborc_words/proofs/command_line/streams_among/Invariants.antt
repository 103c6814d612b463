use Rattle.std.{proofs.Common.◌≡◌, proofs.Common.take, specs.List.count_by}
use Rattle.cborc_files.specs.Folder.{is_stream}
use Rattle.cborc_words.proofs.command_line.streams_among.Given as goal

abbrev pub invariant-files : goal.invariant-files
invariant-files l = l.count ≡ count_by (λ file. is_stream file.now) (take l.file-index l.files)
