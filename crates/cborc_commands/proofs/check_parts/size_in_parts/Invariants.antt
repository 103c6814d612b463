use Rattle.std.proofs.Common.{◌≡◌, [], Option}
use Rattle.cborc_files.specs.Folder.{Files, KeepsFiles}
use Rattle.cborc_commands.proofs.check_parts.size_in_parts.Given as goal
use Rattle.cborc_commands.{proofs.CheckedParts.IsCheckedTo, proofs.ReadParts.weight, specs.inner.Parts.IsReadTo}

abbrev pub invariant-parts : goal.invariant-parts
invariant-parts g l = record {
  checked : (held : Option Files) → KeepsFiles held (g.F.Folder.held l.fn.files) → IsReadTo held l.fn.path l.fn.options.hex [] l.fn.parts
      → IsCheckedTo held l.fn.path l.fn.options l.fn.order l.machine l.parts;
  keeps : KeepsFiles (g.F.Folder.held l.fn.files) (g.F.Folder.held l.files);
  same : g.F.Folder.forwards_to l.files ≡ g.F.Folder.forwards_to l.fn.files;
}

abbrev pub decreases-parts : goal.decreases-parts
decreases-parts g l = weight l.parts
