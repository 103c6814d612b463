use Rattle.std.proofs.Common.{◌≡◌, ◌++◌, ◌∷◌, [], codes, arith}
use Rattle.std.proofs.lemmas.Result.{err_from_is_err_and}
use Rattle.hex.specs.Hex.{encode_lower}
use Rattle.cbor_diag.proofs.pieces.put_escape.Goals as goal
use Rattle.cbor_diag.{specs.Text.escaped, proofs.Putting.stops-more, proofs.Putting.puts-next, proofs.PieceTexts.escape-other}

pub returns-in_err-put-in_default : goal.returns-in_err-put-in_default
returns-in_err-put-in_default g c =
    let b = c.args.byte in
    let is : escaped b ≡ codes "\\u00" ++ encode_lower (b ∷ []) = escape-other b (λ e. omega arith) (λ e. omega arith) c.requires in
    rw ((err_from_is_err_and c.from_residual.result c.from_residual.ensures.1).1, is) (stops-more _ _ c.args.out.now (codes "\\u00") (encode_lower (b ∷ [])) _ c.in_err-put-in_default.ensures)

pub returns-in_ok-put-in_default : goal.returns-in_ok-put-in_default
returns-in_ok-put-in_default g c =
    let b = c.args.byte in
    let is : escaped b ≡ codes "\\u00" ++ encode_lower (b ∷ []) = escape-other b (λ e. omega arith) (λ e. omega arith) c.requires in
    rw is (puts-next _ _ _ c.args.out.now c.put-in_default.new.self _ (codes "\\u00") (encode_lower (b ∷ [])) _ c.in_ok-put-in_default.ensures c.put_digits.ensures)
