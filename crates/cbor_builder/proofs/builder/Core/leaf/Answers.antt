use Rattle.cbor_head.specs.Prelude.{shortest_head}
use Rattle.cbor_builder.proofs.builder.Core.leaf.Goals as goal
use Rattle.cbor_builder.proofs.OpenMembers.{member_given, member_ready}

pub returns-clause-leaves : goal.returns-clause-leaves
returns-clause-leaves c =
    let e = c.complete.ensures in
    member_given c.complete.result c.args.self.now c.head.new.self (shortest_head c.args.major c.args.n) c.len-at.result c.complete.new.frame c.complete.new.spans c.requires.laid c.requires.takes c.in_ok-head.ensures.appended c.len-at.ensures e.from e.start e.shape e.spans e.rises

pub complete-requires-clause-ready : goal.complete-requires-clause-ready
complete-requires-clause-ready c =
    member_ready c.args.self.now c.head.new.self (shortest_head c.args.major c.args.n) c.len-at.result c.requires.laid c.in_ok-head.ensures.appended c.len-at.ensures
