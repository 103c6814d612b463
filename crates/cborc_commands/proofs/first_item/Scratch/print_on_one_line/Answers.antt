use Rattle.std.proofs.Common.{ℕ, List, ◌++◌, codes, subst}
use Rattle.cborc_commands.proofs.first_item.Scratch.print_on_one_line.Goals as goal
use Rattle.cborc_commands.{proofs.Results.if_err, specs.inner.NotWritten.IsNotTaken}

pub returns-in-Ok-clause-fault : goal.returns-in-Ok-clause-fault
returns-in-Ok-clause-fault g c =
    if_err c.print_line.result _ _
    (λ fault h s v. subst (λ (x : List ℕ). IsNotTaken (x ++ codes "\n") (g.O.Write.contents c.args.out.now) (g.O.Write.contents c.print_line.new.out) fault) (c.in-Ok.ensures s v) h)
    c.print_line.ensures.cut
