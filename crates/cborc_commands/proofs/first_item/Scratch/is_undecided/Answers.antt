use Rattle.cborc_commands.proofs.first_item.Scratch.is_undecided.Goals as goal
use Rattle.cborc_commands.proofs.Undecided.{decided_of_item, decided_of_unread, undecided_of_item, undecided_of_unread}
use Rattle.cborc_commands.specs.Rules.{rules_of}

pub returns-in-Ok-clause-undecided : goal.returns-in-Ok-clause-undecided
returns-in-Ok-clause-undecided c = λ e. undecided_of_item (rules_of c.args.accepted) c.args.limits c.args.bytes.now c.in-Ok.size c.in-Ok.ensures.accepted e

pub returns-in-Ok-clause-decided : goal.returns-in-Ok-clause-decided
returns-in-Ok-clause-decided c = λ e. decided_of_item (rules_of c.args.accepted) c.args.limits c.args.bytes.now c.in-Ok.size c.in-Ok.ensures.accepted e

pub returns-in-Truncated-clause-undecided : goal.returns-in-Truncated-clause-undecided
returns-in-Truncated-clause-undecided c =
    λ e. undecided_of_unread (rules_of c.args.accepted) c.args.limits c.args.bytes.now c.in-Err.refusal c.in-Err.ensures.refused c.in-Truncated.is

pub returns-in_default-clause-decided : goal.returns-in_default-clause-decided
returns-in_default-clause-decided c =
    λ e. decided_of_unread (rules_of c.args.accepted) c.args.limits c.args.bytes.now c.in-Err.refusal c.in-Err.ensures.refused c.in_default.not-Truncated c.in_default.not-Read c.in_default.not-Memory
