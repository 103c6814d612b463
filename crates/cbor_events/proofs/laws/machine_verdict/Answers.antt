use Rattle.cbor_machine.proofs.Form.{refusal-verdict, complete-verdict}
use Rattle.cbor_events.proofs.laws.machine_verdict.Goals as goal

pub returns-clause-refuses : goal.returns-clause-refuses
returns-clause-refuses c = refusal-verdict

pub returns-clause-accepts : goal.returns-clause-accepts
returns-clause-accepts c = complete-verdict
