use Rattle.std.proofs.Common.{take, refl}
use Rattle.cbor_builder.proofs.builder.Core.bytes.Goals as goal
use Rattle.cbor_builder.proofs.OpenMembers.{member_longer}

pub returns-clause-leaves : goal.returns-clause-leaves
returns-clause-leaves c =
    let s = c.args.self.now in
    let b = take c.args.count c.args.prefix.now in
    let k = member_longer s c.extend_prefix.new.self b c.requires.laid c.requires.string c.in_ok-extend_prefix.ensures.appended in
    record { order = refl; laid = k.0; given = k.1 }
