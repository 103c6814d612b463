use Rattle.std.proofs.{Common.sym, Common.◌∙◌, lemmas.Result.err_from_is_err_and, lemmas.Bool.not-false}
use Rattle.cbor_head.specs.Prelude.{strict}
use Rattle.cborc_commands.proofs.check_parts.strict_size.Goals as goal
use Rattle.cborc_commands.proofs.{CheckedParts.starts_ended, ItemFaults.not_whole, Results.if_ok, Results.if_err}

pub returns-in_err-size-clause-fault : goal.returns-in_err-size-clause-fault
returns-in_err-size-clause-fault g c =
    let p = err_from_is_err_and c.from_residual-in_err-size.result c.from_residual-in_err-size.ensures.1 in
    let ended = not-false c.in_ok-parts.parts.source.ended (sym c.goes_on.ensures ∙ c.if-goes_on.false) in
    rw (p.1)
    (not_whole (strict c.args.order) c.args.options c.args.path.now (g.F.Folder.held c.args.files.now) c.in_ok-parts.parts.rest
    (starts_ended (g.F.Folder.held c.args.files.now) c.args.path.now c.args.options (strict c.args.order) c.in_ok-parts.parts c.in_ok-parts.ensures.begins ended) _
    (rw (c.rest.ensures) at c.in_err-size.ensures.refused) p.0 p.2)

pub returns-then-goes_on-clause-whole : goal.returns-then-goes_on-clause-whole
returns-then-goes_on-clause-whole g c = if_ok c.size_in_parts.result _ _ (λ n h. h (g.F.Folder.held c.args.files.now) c.open.ensures.keeps c.in_ok-parts.ensures.begins) c.size_in_parts.ensures.whole

pub returns-then-goes_on-clause-fault : goal.returns-then-goes_on-clause-fault
returns-then-goes_on-clause-fault g c = if_err c.size_in_parts.result _ _ (λ fault h. h (g.F.Folder.held c.args.files.now) c.open.ensures.keeps c.in_ok-parts.ensures.begins) c.size_in_parts.ensures.fault
