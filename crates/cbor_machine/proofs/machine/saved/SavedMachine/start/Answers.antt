use Rattle.std.proofs.Common.{[], None, refl, rules}
use Rattle.cbor_machine.specs.declared.position.Position.TheVariants as positions
use Rattle.cbor_machine.proofs.machine.saved.SavedMachine.start.Goals as goal
use Rattle.cbor_machine.{specs.contracts.machine.Machine.the_view, proofs.Starting.starts}

pub returns-clause-starts : goal.returns-clause-starts
returns-clause-starts c = record {
  machine = the_view (record { limits = c.args.limits; taken = 0; reported = 0; position = positions.Item; container_stack = []; refusal = None });
  holds = search rules;
  depth_is = refl;
  bytes_is = refl;
  agrees = starts c.args.limits [] refl;
}
