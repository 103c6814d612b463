use Rattle.std.proofs.{Common.◌∙◌, lemmas.Result.err_from_is_err_and}
use Rattle.cborc_commands.proofs.Sources.{one_further, no_end, at_end}
use Rattle.cborc_commands.proofs.source.Source.read_out.Goals as goal
use Rattle.cborc_commands.proofs.Files.{keeps_keeps}

pub parts-preserved : goal.parts-preserved
parts-preserved g c = record {
  size = c.append.ensures.size.1;
  hex = c.in_ok-append.ensures.added.hex_is ∙ c.parts.invariant.hex;
  far = one_further _ _ c.args.path.now _ _ c.parts.invariant.keeps c.parts.invariant.far _ _ _ c.in_ok-append.ensures.added;
  keeps = keeps_keeps _ _ _ c.parts.invariant.keeps c.append.ensures.keeps;
  same = c.append.ensures.same ∙ c.parts.invariant.same;
}

pub returns-in_err-append-clause-fault : goal.returns-in_err-append-clause-fault
returns-in_err-append-clause-fault g c =
    let p = err_from_is_err_and c.from_residual.result c.from_residual.ensures.1 in
    rw (p.1, p.2) (no_end _ _ c.args.path.now _ _ c.parts.invariant.keeps c.parts.invariant.far c.parts.invariant.hex _ c.in_err-append.ensures.fault)

pub returns-clause-input : goal.returns-clause-input
returns-clause-input g c =
    at_end (g.F.Folder.held c.args.files.now) c.args.path.now c.args.self.now c.parts.self c.parts.invariant.far c.parts.invariant.hex (c.may_be_no_hex.ensures.no c.parts-test.false)
