use Rattle.std.proofs.Common.{◌^◌, ◌<◌, ◌≡◌}
use Rattle.cborc_files.specs.Folder.{KeepsFiles}
use Rattle.cborc_commands.proofs.source.Source.read_out.Given as goal
use Rattle.cborc_commands.proofs.Sources.{IsFurther, unread}

abbrev pub invariant-parts : goal.invariant-parts
invariant-parts g l = record {
  size : l.self.size < 2 ^ 63;
  hex : l.self.hex ≡ l.fn.self.hex;
  far : IsFurther (g.F.Folder.held l.fn.files) l.fn.path l.fn.self l.self;
  keeps : KeepsFiles (g.F.Folder.held l.fn.files) (g.F.Folder.held l.files);
  same : g.F.Folder.forwards_to l.files ≡ g.F.Folder.forwards_to l.fn.files;
}

abbrev pub decreases-parts : goal.decreases-parts
decreases-parts g l = unread l.self
