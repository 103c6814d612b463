use Rattle.std.proofs.lemmas.Result.{err_from_is_err_and}
use Rattle.cborc_commands.proofs.input_parts.Parts.open.Goals as goal
use Rattle.cborc_commands.proofs.{ReadParts.first_part, Sources.no_first_part}

pub returns-in_err-read_on-clause-fault : goal.returns-in_err-read_on-clause-fault
returns-in_err-read_on-clause-fault g c =
    let p = err_from_is_err_and c.from_residual.result c.from_residual.ensures.1 in
    rw (p.1, p.2) (no_first_part (g.F.Folder.held c.args.files.now) c.args.path.now c.args.hex _ c.unread-parts.ensures.source _ c.in_err-read_on.ensures.fault)

pub returns-clause-begins : goal.returns-clause-begins
returns-clause-begins g c =
    first_part (g.F.Folder.held c.args.files.now) c.args.path.now c.args.hex c.unread-parts.result c.read_on.new.self c.unread-parts.ensures.rest c.unread-parts.ensures.start
    c.unread-parts.ensures.source c.in_ok-read_on.ensures.read
