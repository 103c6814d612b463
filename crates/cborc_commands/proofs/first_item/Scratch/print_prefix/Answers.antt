use Rattle.std.proofs.Common.{sym, subst}
use Rattle.cbor_head.specs.Prelude.{value_of}
use Rattle.cborc_words.specs.declared.request.TextStyle.{TextStyle}
use Rattle.cborc_commands.proofs.first_item.Scratch.print_prefix.Goals as goal
use Rattle.cborc_commands.{proofs.Results.if_err, specs.Texts.shown_text, specs.inner.NotWritten.IsNotTaken}

pub returns-in-OneLine-clause-fault : goal.returns-in-OneLine-clause-fault
returns-in-OneLine-clause-fault g c =
    let before = g.O.Write.contents c.args.out.now in
    let after = g.O.Write.contents c.print_on_one_line.new.out in
    if_err c.print_on_one_line.result _ _
    (λ fault h s v. subst (λ (l : TextStyle). IsNotTaken (shown_text l (value_of s)) before after fault) (sym c.in-OneLine.is) (h s v)) c.print_on_one_line.ensures.fault

pub returns-in-Indented-clause-fault : goal.returns-in-Indented-clause-fault
returns-in-Indented-clause-fault g c =
    let before = g.O.Write.contents c.args.out.now in
    let after = g.O.Write.contents c.print_indented.new.out in
    if_err c.print_indented.result _ _
    (λ fault h s v. subst (λ (l : TextStyle). IsNotTaken (shown_text l (value_of s)) before after fault) (sym c.in-Indented.is) (h s v)) c.print_indented.ensures.fault
