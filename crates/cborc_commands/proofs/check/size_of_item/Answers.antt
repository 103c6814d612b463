use Rattle.std.proofs.Common.{ℕ, ◌≡◌, ◌≢◌, ◌∙◌, true, false, eqb, length, sym, arith, subst}
use Rattle.std.proofs.lemmas.{Result.err_from_is_err_and, Bool.Decides.Decides-eqb}
use Rattle.theory_verdicts.specs.Readers.{IsRead}
use Rattle.cbor_reader.specs.WholeItem.{unread, trailing}
use Rattle.cborc_commands.proofs.check.size_of_item.Goals as goal
use Rattle.cborc_commands.{proofs.Within.read_within, proofs.Results.if_ok, proofs.Results.if_err, specs.Rules.rules_of, specs.Fault.IsOfInput}

apart : (m n : ℕ) → eqb m n ≡ false → m ≢ n
apart m n differs e = let both : false ≡ true = sym differs ∙ (Decides-eqb m n).1 e in cc both

pub returns-in_err-size-clause-refused : goal.returns-in_err-size-clause-refused
returns-in_err-size-clause-refused c =
    let p = err_from_is_err_and c.from_residual.result c.from_residual.ensures.1 in
    rw (p.1, p.2) (λ own. unread c.in_err-size.ensures.refused (λ e. subst IsOfInput e own))

pub returns-clause-refused : goal.returns-clause-refused
returns-clause-refused c =
    let read = c.in_ok-size.ensures.accepted in
    if_err c.all_of.result _ _
    (λ f h own. trailing c.in_ok-size.size read
    (omega (arith, read_within c.args.limits (rules_of c.args.accepted) c.args.bytes.now c.in_ok-size.size read, apart c.in_ok-size.size (length c.args.bytes.now) h.1)) h.0)
    c.all_of.ensures.followed

pub returns-clause-whole : goal.returns-clause-whole
returns-clause-whole c =
    if_ok c.all_of.result _ _
    (λ n h. (
      subst (IsRead c.args.limits (rules_of c.args.accepted) c.args.bytes.now) (sym h.0) c.in_ok-size.ensures.accepted,
      h.0 ∙ (Decides-eqb c.in_ok-size.size (length c.args.bytes.now)).0 h.1,
    ))
    c.all_of.ensures.all
