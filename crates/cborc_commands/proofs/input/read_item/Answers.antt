use Rattle.std.proofs.Common.{[], ◌∙◌, sym, subst}
use Rattle.std.proofs.lemmas.Result.{err_from_is_err_and}
use Rattle.cborc_commands.proofs.ReadParts.{next_part, parts_enough, no_input_there, no_next_part, read_less}
use Rattle.cborc_commands.proofs.input.read_item.Goals as goal
use Rattle.cborc_commands.{proofs.Results.if_err, proofs.Results.both_ok, proofs.Files.holds_there, proofs.Files.keeps_keeps, specs.inner.Decided.judging_rules}
use Rattle.cborc_commands.specs.NoInput.{IsNoInput}

pub parts-preserved : goal.parts-preserved
parts-preserved g c = record {
  read = next_part (g.F.Folder.held c.args.files.now) _ c.args.path.now c.args.options.hex [] c.parts.parts c.read_on.new.self c.parts.invariant.keeps c.parts.invariant.read c.in_ok-read_on.ensures.read;
  keeps = keeps_keeps _ _ _ c.parts.invariant.keeps c.read_on.ensures.keeps;
  same = c.read_on.ensures.same ∙ c.parts.invariant.same;
}

pub parts-smaller : goal.parts-smaller
parts-smaller g c = read_less _ _ c.parts.parts c.read_on.new.self (c.in_ok-more.ensures.yes c.if-not-more.false) c.in_ok-read_on.ensures.read

pub returns-in_err-more-clause-fault : goal.returns-in_err-more-clause-fault
returns-in_err-more-clause-fault g c =
    let p = err_from_is_err_and c.from_residual-in_err-more.result c.from_residual-in_err-more.ensures.1 in
    rw (p.1, p.2) (subst (IsNoInput (g.F.Folder.held c.args.files.now) c.args.path.now c.args.options.hex) (sym c.in_err-more.ensures.memory)
    (holds_there _ _ _ c.parts.invariant.read.given.file.holds))

pub returns-in_err-read_on-clause-fault : goal.returns-in_err-read_on-clause-fault
returns-in_err-read_on-clause-fault g c =
    let p = err_from_is_err_and c.from_residual-in_err-read_on.result c.from_residual-in_err-read_on.ensures.1 in
    rw (p.1, p.2)
    (no_next_part (g.F.Folder.held c.args.files.now) _ c.args.path.now c.args.options.hex [] c.parts.parts c.parts.invariant.keeps c.parts.invariant.read _ c.in_err-read_on.ensures.fault)

pub returns-in_err-read_on-clause-keeps : goal.returns-in_err-read_on-clause-keeps
returns-in_err-read_on-clause-keeps g c = keeps_keeps _ _ _ c.parts.invariant.keeps c.read_on.ensures.keeps

pub returns-then-not-more-clause-prefix : goal.returns-then-not-more-clause-prefix
returns-then-not-more-clause-prefix g c =
    both_ok c.finish.result _ _ _
    (λ v same there. parts_enough (judging_rules c.args.judge) (g.F.Folder.held c.args.files.now) _ c.args.path.now c.args.options c.parts.parts c.parts.invariant.keeps c.parts.invariant.read there
    (c.in_ok-more.ensures.no c.if-not-more.true) v.items same)
    c.finish.ensures.rest c.finish.ensures.input

pub returns-then-not-more-clause-fault : goal.returns-then-not-more-clause-fault
returns-then-not-more-clause-fault g c =
    if_err c.finish.result _ _
    (λ fault h. no_input_there (g.F.Folder.held c.args.files.now) _ c.args.path.now c.args.options.hex [] c.parts.parts c.parts.invariant.keeps c.parts.invariant.read fault h)
    c.finish.ensures.fault
