use Rattle.cbor_machine.proofs.machine.Machine.save.Goals as goal
use Rattle.cbor_machine.{specs.declared.frame.TheConstants.MOST_OPEN, proofs.SavedFrames.zeros-following}

pub returns-clause-zeros : goal.returns-clause-zeros
returns-clause-zeros c = (zeros-following c.args.self.now.open_count MOST_OPEN _ c.save_into.ensures.lefts, zeros-following c.args.self.now.open_count MOST_OPEN _ c.save_into.ensures.kinds)
