use Rattle.std.proofs.Common.{◌≤◌, ◌≢◌, take}
use Rattle.cborc_files.specs.Folder.{KeepsFiles}
use Rattle.cborc_program.proofs.several_files.check_each.Given as goal
use Rattle.cborc_program.specs.SeveralFiles.{AreAllChecked}

abbrev pub invariant-paths : goal.invariant-paths
invariant-paths g l = record {
  all : AreAllChecked l.fn.task.verbosity l.fn.task.request l.fn.accepted (take l.path-index l.paths) (g.F.Folder.held l.fn.files) (g.F.Folder.held l.files) (g.O.Write.contents l.fn.out) (g.O.Write.contents l.out) l.worst;
  keeps : KeepsFiles (g.F.Folder.held l.fn.files) (g.F.Folder.held l.files);
  range : l.worst ≤ 3;
  used_well : l.worst ≢ 2;
}
