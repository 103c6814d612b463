use Rattle.std.proofs.Common.{◌≡◌, ◌++◌, decimal, codes, arith}
use Rattle.std.proofs.lemmas.Result.{err_from_is_err_and}
use Rattle.cbor_diag.proofs.Putting.{stops-more, puts-next, puts-then, puts-stops}
use Rattle.cbor_diag.proofs.pieces.put_simple.Goals as goal
use Rattle.cbor_diag.{specs.Text.simple_text, proofs.PieceTexts.simple-other}

pub returns-in_err-put-in_default : goal.returns-in_err-put-in_default
returns-in_err-put-in_default g c =
    let n = c.args.number in
    let is : simple_text n ≡ (codes "simple(" ++ decimal n) ++ codes ")" = simple-other n (λ e. omega arith) (λ e. omega arith) (λ e. omega arith) (λ e. omega arith) in
    rw ((err_from_is_err_and c.from_residual.result c.from_residual.ensures.1).1, is) (stops-more _ _ c.args.out.now (codes "simple(") (decimal n ++ codes ")") _ c.in_err-put-in_default.ensures)

pub returns-in_err-put_number-in_default : goal.returns-in_err-put_number-in_default
returns-in_err-put_number-in_default g c =
    let n = c.args.number in
    let is : simple_text n ≡ (codes "simple(" ++ decimal n) ++ codes ")" = simple-other n (λ e. omega arith) (λ e. omega arith) (λ e. omega arith) (λ e. omega arith) in
    rw ((err_from_is_err_and c.from_residual-in_err-put_number-in_default.result c.from_residual-in_err-put_number-in_default.ensures.1).1, is) (stops-more _ _ c.args.out.now (codes "simple(" ++ decimal n) (codes ")") _
    (puts-stops _ _ _ c.args.out.now c.put-in_default.new.self (codes "simple(") (decimal n) _ c.in_ok-put-in_default.ensures (rw c.from.ensures at c.in_err-put_number-in_default.ensures)))

pub returns-in_ok-put_number-in_default : goal.returns-in_ok-put_number-in_default
returns-in_ok-put_number-in_default g c =
    let n = c.args.number in
    let is : simple_text n ≡ (codes "simple(" ++ decimal n) ++ codes ")" = simple-other n (λ e. omega arith) (λ e. omega arith) (λ e. omega arith) (λ e. omega arith) in
    rw is (puts-next _ _ _ c.args.out.now c.put_number.new.out _ (codes "simple(" ++ decimal n) (codes ")") _
    (puts-then _ _ _ c.args.out.now c.put-in_default.new.self c.put_number.new.out (codes "simple(") (decimal n) c.in_ok-put-in_default.ensures (rw c.from.ensures at c.in_ok-put_number-in_default.ensures)) c.put-in_default-2.ensures)
