use Rattle.std.proofs.Common.{append-nil, sym, []}
use Rattle.cbor_builder.proofs.builder.Core.nothing.Goals as goal
use Rattle.cbor_builder.proofs.OpenMembers.{member_given, member_ready}

pub returns-clause-leaves : goal.returns-clause-leaves
returns-clause-leaves c =
    let s = c.args.self.now in
    let e = c.complete.ensures in
    member_given c.complete.result s s.out [] c.len-at.result c.complete.new.frame c.complete.new.spans c.requires.laid c.requires.takes (sym (append-nil s.out)) c.len-at.ensures e.from e.start e.shape e.spans e.rises

pub complete-requires-clause-ready : goal.complete-requires-clause-ready
complete-requires-clause-ready c = let s = c.args.self.now in member_ready s s.out [] c.len-at.result c.requires.laid (sym (append-nil s.out)) c.len-at.ensures
