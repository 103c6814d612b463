use Rattle.std.proofs.Common.{◌∙◌, ◌++◌, codes, ap, subst}
use Rattle.std.{specs.Io.KnownBytes.Appends, proofs.lemmas.Result.on_ok_weaker}
use Rattle.cbor_head.specs.Prelude.{plain, value_of, Value}
use Rattle.theory_verdicts.proofs.Accepted.{one_item}
use Rattle.cbor_diag.specs.IndentedText.{indented}
use Rattle.cborc_commands.proofs.first_item.Scratch.print_indented.Goals as goal
use Rattle.cborc_commands.{proofs.Results.if_err, specs.inner.NotWritten.IsNotTaken}

pub returns-in-Ok-clause-shown : goal.returns-in-Ok-clause-shown
returns-in-Ok-clause-shown g c =
    let before = g.O.Write.contents c.args.out.now in
    let after = g.O.Write.contents c.print_view.new.out in
    let read = c.in-Ok.ensures.accepted in
    on_ok_weaker c.print_view.result
    (λ h s v.
    subst (λ (x : Value). Appends before after (indented 0 x ++ codes "\n")) (read.value ∙ ap value_of (one_item c.args.limits plain c.args.bytes.now read.read.item s read.read.verdict v)) h) c.print_view.ensures.shown

pub returns-in-Ok-clause-fault : goal.returns-in-Ok-clause-fault
returns-in-Ok-clause-fault g c =
    let before = g.O.Write.contents c.args.out.now in
    let after = g.O.Write.contents c.print_view.new.out in
    let read = c.in-Ok.ensures.accepted in
    if_err c.print_view.result _ _
    (λ fault h s v.
    subst (λ (x : Value). IsNotTaken (indented 0 x ++ codes "\n") before after fault) (read.value ∙ ap value_of (one_item c.args.limits plain c.args.bytes.now read.read.item s read.read.verdict v)) h) c.print_view.ensures.cut
