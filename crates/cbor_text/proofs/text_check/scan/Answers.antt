use Rattle.std.proofs.Common.{◌-◌, ◌++◌, length, take, drop, sym, ap, subst, ◌∙◌, arith}
use Rattle.std.proofs.lemmas.List.{take_rest}
use Rattle.cbor_text.proofs.TextPrefixes.{open-whole, open-rest, fixed-now}
use Rattle.cbor_text.proofs.text_check.scan.Goals as goal
use Rattle.cbor_text.specs.inner.TextCheck.{IsOpen}

pub returns-in-Open-clause-found : goal.returns-in-Open-clause-found
returns-in-Open-clause-found c =
    let piece = c.args.piece.now in
    let n = c.in-Open.n in
    let kept = c.append.ensures ∙ ap (λ l. l ++ take (length piece - n) (drop n piece)) c.requires ∙ take_rest piece n in
    subst (IsOpen piece) (sym kept) (open-rest piece n c.in-Open.ensures.0 c.in-Open.ensures.1)

pub returns-in-Open-clause-unfinished : goal.returns-in-Open-clause-unfinished
returns-in-Open-clause-unfinished c = (returns-in-Open-clause-found c).unfinished

pub returns-in-Fixed-clause-inside : goal.returns-in-Fixed-clause-inside
returns-in-Fixed-clause-inside c = omega (arith, (fixed-now c.args.piece.now c.in-Fixed.n (λ xs. c.in-Fixed.ensures xs)).short)

pub returns-in-Whole-clause-found : goal.returns-in-Whole-clause-found
returns-in-Whole-clause-found c = subst (IsOpen c.args.piece.now) (sym c.requires) (open-whole c.args.piece.now c.in-Whole.ensures)
