use Rattle.std.{proofs.Common.flat_map, specs.Fmt.HasWritten, specs.Fmt.IsPlainFormatter}
use Rattle.cborc_files.proofs.visible.write_visible.Given as goal
use Rattle.cborc_files.specs.Visible.{visible_character}

abbrev pub invariant-loop-character : goal.invariant-loop-character
invariant-loop-character g l =
    IsPlainFormatter l.initial.f → HasWritten g.W.Write.write_str_gives l.initial.f (flat_map visible_character l.yielded) l.f
