use Rattle.std.proofs.Common.{◌≡◌, ◌≢◌, ◌∙◌, rules, inr, length, ap, sym}
use Rattle.std.proofs.lemmas.Result.{err_from_is_err_and}
use Rattle.cborc_commands.specs.Fault.{fault_status}
use Rattle.cborc_program.proofs.several_files.check_one.Goals as goal
use Rattle.cborc_program.{proofs.SeveralFiles.reported, proofs.SeveralFiles.line_is, specs.SeveralFiles.label, specs.SeveralFiles.line_of}

pub returns-in_err-print-clause-ended : goal.returns-in_err-print-clause-ended
returns-in_err-print-clause-ended g c =
    let p = err_from_is_err_and c.from_residual.result c.from_residual.ensures.1 in
    let text = c.perform-status.new.out.items in
    let differs : length text ≢ length (label c.args.path.now) = search rules in
    let same : c.as_slice.result.now ≡ line_of c.args.path.now text = c.as_slice.ensures.value ∙ sym (line_is c.args.path.now text differs) in
    rw (p.1, p.2) (
      ap fault_status c.in_err-print.ensures.fault.0,
      inr (record {
        text = text;
        status = c.perform-status.result;
        reported = rw (c.in-Ok.ensures) at c.perform-status.ensures;
        written = rw (same) at c.in_err-print.ensures.fault.1;
      }),
    )

pub returns-clause-keeps : goal.returns-clause-keeps
returns-clause-keeps g c =
    (reported c.args.task.now.request c.args.accepted c.args.path (g.F.Folder.held c.args.files.now) (g.F.Folder.held c.perform-status.new.files) _ _ _ c.args.task.now.verbosity c.perform-status.ensures).0
