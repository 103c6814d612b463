use Rattle.std.proofs.Common.{◌≤◌, arith}
use Rattle.cbor_machine.proofs.machine.saved.has_bytes_left.Goals as goal
use Rattle.cbor_machine.proofs.Saved.{no-space}

pub returns-in_default : goal.returns-in_default
returns-in_default c =
    let many : 8 ≤ c.args.left = omega arith in
    (λ h. absurd (cc), λ h. absurd (no-space c.args.argument c.args.left many h))
