use Rattle.std.proofs.Common.{◌∷◌, [], refl, sym, inl, subst, arith}
use Rattle.std.proofs.lemmas.Bool.{false≢true}
use Rattle.cbor_head.specs.Prelude.{strict}
use Rattle.theory_values.proofs.KeyByteLists.{are_bytes}
use Rattle.theory_verdicts.proofs.KindFrames.{keeps_start}
use Rattle.cbor_parser.proofs.canonical.whole_prefix.Goals as goal
use Rattle.cbor_parser.{specs.inner.Cells.StrictCell, specs.inner.StrictRules.Expect, proofs.Taking.start_place, proofs.Taking.leaf_is_whole}
use Rattle.cbor_parser.proofs.StrictPlaces.{starts}

pub returns-in-Leaf-clause-whole : goal.returns-in-Leaf-clause-whole
returns-in-Leaf-clause-whole c = leaf_is_whole c.args.order c.args.limits c.args.input.now c.depth.result c.in-Leaf.used c.depth.ensures.depth (c.in-Leaf.ensures.taken refl refl).1

pub returns-in-Refused-clause-refused : goal.returns-in-Refused-clause-refused
returns-in-Refused-clause-refused c =
    let o = c.args.order in
    let limits = c.args.limits in
    let input = c.args.input.now in
    inl (c.in-Refused.ensures.refused (strict o) (o, refl) limits [] tt (λ b. absurd b) (keeps_start limits (strict o)) (record { both = λ e. absurd (false≢true e); none = λ e kinds expected. expected }) (start_place limits c.depth.result c.depth.ensures.depth) (are_bytes input (λ i. omega (arith, c.type_inv.input i))))

pub parse-requires : goal.parse-requires
parse-requires c = λ n.
    let a = c.args in
    let input = a.input.now in
    ((refl, tt), (subst (λ (x : StrictCell). Expect c.new-rules.result c.new-rules.result a.limits input (x ∷ []) input) (sym c.strict_cell.ensures) (starts c.new-rules.result a.limits input c.new-rules.ensures.input (are_bytes input (λ i. omega (arith, c.type_inv.input i)))), (c.requires, omega arith)))
