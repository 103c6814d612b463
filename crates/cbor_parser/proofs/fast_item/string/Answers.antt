use Rattle.std.proofs.{Common.false, Common.arith, lemmas.List.take_rest}
use Rattle.theory_values.proofs.KeyByteLists.{are_bytes}
use Rattle.cbor_parser.proofs.fast_item.string.Goals as goal
use Rattle.cbor_parser.proofs.ShortLeaves.{short-bytes, short-text}

pub returns-then-first-lt96-clause-prefix : goal.returns-then-first-lt96-clause-prefix
returns-then-first-lt96-clause-prefix c =
    let b = c.args.rest.now in
    let s = c.in-Some.ensures in
    let all = are_bytes b (λ i. omega (arith, c.type_inv.rest i)) in
    (omega (arith, s.begins, s.size), short-bytes false c.args.first b c.in-Some.payload c.in-Some.end s all c.requires.kind.0 c.if-first-lt96.true)

pub returns-then-is_text_prefix-clause-prefix : goal.returns-then-is_text_prefix-clause-prefix
returns-then-is_text_prefix-clause-prefix c =
    let b = c.args.rest.now in
    let s = c.in-Some.ensures in
    let all = are_bytes b (λ i. omega (arith, c.type_inv.rest i)) in
    (omega (arith, s.begins, s.size), short-text false c.args.first b c.in-Some.payload c.in-Some.end s all c.if-first-lt96.false c.requires.kind.1 _ (take_rest b c.in-Some.payload) (c.is_text_prefix.ensures.0 c.if-is_text_prefix.true))
