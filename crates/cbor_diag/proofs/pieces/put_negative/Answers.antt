use Rattle.std.proofs.Common.{◌≡◌, ◌+◌, ◌∷◌, [], ap, ◌∙◌, decimal, ℕ}
use Rattle.std.proofs.lemmas.Result.{err_from_is_err_and}
use Rattle.cbor_diag.proofs.pieces.put_negative.Goals as goal
use Rattle.cbor_diag.proofs.Putting.{stops-more, puts-next}

pub returns-in_err-put : goal.returns-in_err-put
returns-in_err-put g c = rw ((err_from_is_err_and c.from_residual.result c.from_residual.ensures.1).1) (stops-more _ _ c.args.out.now (45 ∷ []) (decimal (c.args.n + 1)) _ c.in_err-put.ensures)

pub returns : goal.returns
returns g c =
    let is : c.as_bytes.result.now ≡ decimal (c.args.n + 1) = c.as_bytes.ensures.value ∙ c.format.ensures.text ∙ ap (λ (n : ℕ). decimal (n + 1)) c.from.ensures in
    puts-next _ _ _ c.args.out.now c.put.new.self _ (45 ∷ []) (decimal (c.args.n + 1)) _ c.in_ok-put.ensures (rw is at c.put-2.ensures)
