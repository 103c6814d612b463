use Rattle.std.proofs.Common.{◌≡◌, ◌==◌, ℕ, length, ap, arith, length-append}
use Rattle.std.proofs.lemmas.Result.{err_from_is_err_and}
use Rattle.cbor_cursor.proofs.cursor.Cursor.open_whole.Goals as goal
use Rattle.cbor_cursor.proofs.WholeItems.{no_less}

pub returns-in_err-cursor-clause-not_whole : goal.returns-in_err-cursor-clause-not_whole
returns-in_err-cursor-clause-not_whole c =
    rw ((err_from_is_err_and c.from_residual.result c.from_residual.ensures.1).1) (λ v b e. c.in_err-cursor.ensures.no_canonical v b)

pub returns-then-not-is_empty-clause-not_whole : goal.returns-then-not-is_empty-clause-not_whole
returns-then-not-is_empty-clause-not_whole c = λ v b e.
    let item = c.in_ok-cursor.cursor.bytes in
    let rest = c.in_ok-cursor.rest.now in
    let a = c.in_ok-cursor.ensures.accepted in
    let all = no_less c.args.order v a.value c.args.bytes.now a.begins.rest (length item) b.range a.begins.range a.begins.begins a.size e in
    let none : length rest ≡ 0 = omega (arith, all, ap length c.in_ok-cursor.ensures.parts, length-append item rest) in
    let empty = ap (λ (k : ℕ). k == 0) none in
    cc (c.is_empty.ensures, c.if-not-is_empty.true, empty)
