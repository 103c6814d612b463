use Rattle.std.proofs.Common.{rules, ◌≡◌, drop}
use Rattle.std.proofs.lemmas.List.{take_rest}
use Rattle.cbor_item.proofs.view_builder.ended.Goals as goal
use Rattle.cbor_item.proofs.ViewValues.{ended-array, ended-map}

pub returns-in_ok-kept-in-Array-clause-value : goal.returns-in_ok-kept-in-Array-clause-value
returns-in_ok-kept-in-Array-clause-value c =
    let e : c.in_ok-kept-in-Array.kept.now ≡ drop c.in-Array.first c.args.members.now.items = search (rules, take_rest) in
    ended-array c.args.top c.in-Array.first c.args.members.now.items c.args.pairs.now.items _ c.in-Array.is e

pub returns-in_ok-kept-in-Map-clause-value : goal.returns-in_ok-kept-in-Map-clause-value
returns-in_ok-kept-in-Map-clause-value c =
    let e : c.in_ok-kept-in-Map.kept.now ≡ drop c.in-Map.first c.args.pairs.now.items = search (rules, take_rest) in
    ended-map c.args.top c.in-Map.first c.in-Map.field-1 c.args.members.now.items c.args.pairs.now.items _ c.requires.ends c.in-Map.is e
