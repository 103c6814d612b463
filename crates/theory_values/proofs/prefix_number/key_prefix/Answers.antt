use Rattle.std.proofs.Common.{ℕ, ◌≤◌, ◌-◌, List, length, take, drop, w64, ap, ◌∙◌, subst, arith}
use Rattle.std.{proofs.lemmas.List.take_rest, specs.Int.from_be_bytes}
use Rattle.theory_values.proofs.prefix_number.key_prefix.Goals as goal
use Rattle.theory_values.proofs.{KeyByteLists.are_bytes, KeyByteLists.bytes_drop, KeyPrefixes.kept_read}

pub returns-in-Some : goal.returns-in-Some
returns-in-Some c =
    let b = are_bytes c.args.bytes.now (λ i. omega (arith, c.type_inv.bytes i)) in
    let rest = take_rest c.args.bytes.now c.args.start in
    kept_read (drop c.args.start c.args.bytes.now) (c.args.end - c.args.start) c.from_be_bytes.result c.kept.result (bytes_drop c.args.start c.args.bytes.now b)
    (subst (λ (xs : List ℕ). 8 ≤ length xs) rest c.in-Some.ensures.cases.enough) (c.from_be_bytes.ensures ∙ ap (from_be_bytes w64) (c.in-Some.ensures.cases.same ∙ ap (take 8) rest))
    c.kept.ensures.whole c.kept.ensures.none c.kept.ensures.part
