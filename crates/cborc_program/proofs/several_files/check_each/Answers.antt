use Rattle.std.proofs.Common.{ℕ, List, ◌<◌, ◌≡◌, [], arith, max, rules, take, length, ap, ◌∙◌}
use Rattle.std.{specs.Borrow.Bor, proofs.lemmas.Option.slice_get-get_or}
use Rattle.cborc_commands.{specs.Fault.status_number, proofs.Files.keeps_keeps}
use Rattle.cborc_program.proofs.several_files.check_each.Goals as goal
use Rattle.cborc_program.{proofs.SeveralFiles.checked_more, proofs.SeveralFiles.one_more, specs.SeveralFiles.ended}

pub returns-in-Err-clause-checked : goal.returns-in-Err-clause-checked
returns-in-Err-clause-checked g c =
    let within : c.paths.path-index < length c.as_slice-paths.result.now = search rules in
    let none : Bor (List ℕ) = record { ref_ptr = (0, 0); now = [] } in
    rw (← c.as_slice-paths.ensures.value)
    (ended c.paths.path-index _ (g.F.Folder.held c.paths.files) (g.O.Write.contents c.paths.out) c.paths.worst
    (slice_get-get_or c.as_slice-paths.result.now c.paths.path-index none within)
    c.paths.invariant.all c.in-Err.ensures.ended.1 (c.end_in.ensures ∙ ap status_number c.in-Err.ensures.ended.0))

pub paths-preserved : goal.paths-preserved
paths-preserved g c =
    let within : c.paths.path-index < length c.as_slice-paths.result.now = search rules in
    let none : Bor (List ℕ) = record { ref_ptr = (0, 0); now = [] } in
    let worst : c.max-worst.result ≡ max c.paths.worst c.in-Ok.status = search rules in
    let all = checked_more c.args.task.now.verbosity c.args.task.now.request c.args.accepted (take c.paths.path-index c.as_slice-paths.result.now) _ _ _ _ _ _ _ c.paths.worst c.in-Ok.status
    c.paths.invariant.all c.in-Ok.ensures.named in
    record {
      all = rw (worst, one_more c.as_slice-paths.result.now c.paths.path-index none within) all;
      keeps = keeps_keeps _ _ _ c.paths.invariant.keeps c.check_one.ensures.keeps;
      range = omega (arith, worst, c.paths.invariant.range, c.in-Ok.ensures.range);
      used_well = omega (arith, worst, c.paths.invariant.used_well, c.in-Ok.ensures.used_well);
    }
