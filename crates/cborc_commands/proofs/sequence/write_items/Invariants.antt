use Rattle.std.proofs.Common.{◌≡◌}
use Rattle.cborc_files.specs.Folder.{KeepsFiles}
use Rattle.cborc_commands.proofs.sequence.write_items.Given as goal
use Rattle.cborc_commands.proofs.{Items.AreTaken, ReadParts.weight}

abbrev pub invariant-items : goal.invariant-items
invariant-items g l = record {
  taken : AreTaken (g.V.ItemWriter.takes l.fn.writer l.fn.options.limits) (g.V.ItemWriter.text l.fn.writer) l.fn.options l.fn.source (g.F.Folder.held l.fn.files) l.parts (g.W.Write.contents l.fn.out) (g.W.Write.contents l.out) l.count;
  keeps : KeepsFiles (g.F.Folder.held l.fn.files) (g.F.Folder.held l.files);
  same : g.F.Folder.forwards_to l.files ≡ g.F.Folder.forwards_to l.fn.files;
}

abbrev pub decreases-items : goal.decreases-items
decreases-items g l = weight l.parts
