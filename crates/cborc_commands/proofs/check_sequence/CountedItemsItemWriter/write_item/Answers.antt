use Rattle.std.proofs.Common.{[]}
use Rattle.cbor_reader.specs.Sequence.{IsAccepted}
use Rattle.cborc_commands.proofs.check_sequence.CountedItemsItemWriter.write_item.Goals as goal
use Rattle.cborc_commands.{proofs.Results.if_err, proofs.Outputs.appends_none, specs.Rules.rules_of, proofs.Further.settled, proofs.Further.uncounted}
use Rattle.cborc_commands.proofs.Taken.{item_accepted, written_of}

pub returns-in-Err-clause-stopped : goal.returns-in-Err-clause-stopped
returns-in-Err-clause-stopped g c =
    if_err c.unless_cut.result _ _
    (λ fault h following ends.
    uncounted c.args.limits c.args.bytes.now following c.in-Err.refusal (settled c.args.goes_on following c.in-Err.refusal ends h.1) fault h.0 (rules_of c.args.self.now.accepted) c.in-Err.ensures.refused)
    c.unless_cut.ensures.fault

pub returns-in-Ok-clause-written : goal.returns-in-Ok-clause-written
returns-in-Ok-clause-written g c =
    written_of _ _ _ _ c.in-Ok.ensures.accepted (IsAccepted c.args.limits (rules_of c.args.self.now.accepted)) (λ item. []) _ _
    (item_accepted _ _ _ _ c.in-Ok.ensures.accepted) (appends_none _)
