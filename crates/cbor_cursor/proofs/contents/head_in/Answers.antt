use Rattle.std.proofs.Common.{[]}
use Rattle.cbor_cursor.proofs.contents.head_in.Goals as goal
use Rattle.cbor_cursor.{proofs.ItemHeads.whole_begins, proofs.HeadsAt.same_head, proofs.SpelledItems.canonical_head, specs.Decoded.decoded}

pub returns-in-Some-clause-head : goal.returns-in-Some-clause-head
returns-in-Some-clause-head c = λ o i.
    let v = decoded c.args.bytes.now in
    let f = same_head _ _ _ _ _ _ _ c.in-Some.ensures.head (canonical_head o v _ [] (whole_begins o _ i)) in
    record { kind_is = f.0; argument_is = f.1; content_is = f.2 }

pub returns-in-None-clause-head : goal.returns-in-None-clause-head
returns-in-None-clause-head c = λ o i.
    let v = decoded c.args.bytes.now in
    absurd (c.in-None.ensures.head _ _ _ (canonical_head o v _ [] (whole_begins o _ i)))
