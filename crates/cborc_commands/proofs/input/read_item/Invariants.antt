use Rattle.std.proofs.Common.{[], ◌≡◌}
use Rattle.cborc_files.specs.Folder.{KeepsFiles}
use Rattle.cborc_commands.proofs.input.read_item.Given as goal
use Rattle.cborc_commands.{specs.inner.Parts.IsReadTo, proofs.ReadParts.weight}

abbrev pub invariant-parts : goal.invariant-parts
invariant-parts g l = record {
  read : IsReadTo (g.F.Folder.held l.fn.files) l.fn.path l.fn.options.hex [] l.parts;
  keeps : KeepsFiles (g.F.Folder.held l.fn.files) (g.F.Folder.held l.files);
  same : g.F.Folder.forwards_to l.files ≡ g.F.Folder.forwards_to l.fn.files;
}

abbrev pub decreases-parts : goal.decreases-parts
decreases-parts g l = weight l.parts
