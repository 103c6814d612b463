use Rattle.std.proofs.Common.{◌+◌, ◌++◌, length, take, sym, ap, subst, arith, length-append}
use Rattle.std.specs.Str.{IsUtf8, IsValidUpTo}
use Rattle.cbor_text.specs.inner.TextCheck.{IsUnfinished, IsFixed, IsOpen}
use Rattle.cbor_text.proofs.TextPrefixes.{past-open, past-fixed, open-none}
use Rattle.cbor_text.proofs.text_check.go_on.Goals as goal

pub fill-requires-clause-unfinished : goal.fill-requires-clause-unfinished
fill-requires-clause-unfinished c = subst IsUnfinished (sym c.as_slice.ensures.value) c.requires.unfinished

pub returns-in-None-clause-found : goal.returns-in-None-clause-found
returns-in-None-clause-found c =
    let carried = c.args.carried.now.items in
    let piece = c.args.piece.now in
    let u = subst (λ l. IsUtf8 (l ++ take c.in-Past.n piece)) c.as_slice.ensures.value c.in-Past.ensures.1 in
    past-open carried piece c.in-Past.n u _ c.in-None.ensures.found

pub returns-in-Some-clause-found : goal.returns-in-Some-clause-found
returns-in-Some-clause-found c =
    let carried = c.args.carried.now.items in
    let piece = c.args.piece.now in
    let u = subst (λ l. IsUtf8 (l ++ take c.in-Past.n piece)) c.as_slice.ensures.value c.in-Past.ensures.1 in
    subst (IsFixed (carried ++ piece)) (ap (λ k. k + c.in-Past.n + c.in-Some.fault) (sym c.len-held.ensures.value))
    (past-fixed carried piece c.in-Past.n u c.in-Some.fault c.in-Past.ensures.0 c.in-Some.ensures.found)

pub returns-in-Short-clause-found : goal.returns-in-Short-clause-found
returns-in-Short-clause-found c =
    let carried = c.args.carried.now.items in
    let piece = c.args.piece.now in
    let v = subst (λ l. IsValidUpTo (l ++ piece) 0) c.as_slice.ensures.value c.in-Short.ensures.1 in
    subst (IsOpen (carried ++ piece)) (sym c.append.ensures) (open-none (carried ++ piece) v (omega (arith, length-append carried piece, c.in-Short.ensures.0, ap length c.as_slice.ensures.value)))

pub returns-in-Short-clause-unfinished : goal.returns-in-Short-clause-unfinished
returns-in-Short-clause-unfinished c = (returns-in-Short-clause-found c).unfinished
