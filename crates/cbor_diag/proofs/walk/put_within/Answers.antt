use Rattle.std.proofs.lemmas.Result.{err_from_is_err_and}
use Rattle.cbor_diag.proofs.walk.put_within.Goals as goal
use Rattle.cbor_diag.proofs.Leaving.{left-left, left-stops}

pub levels-preserved : goal.levels-preserved
levels-preserved g c = record {
  left = left-left _ _ _ c.args.out.now c.levels.out c.go_on.new.out _ _ _ (rw c.in-Some.is at c.levels.invariant.left) c.in_ok-innermost.ensures.put;
  height = c.in_ok-innermost.ensures.height;
  shallow = c.in_ok-innermost.ensures.shallow;
}

pub returns-in_err-innermost-clause-put : goal.returns-in_err-innermost-clause-put
returns-in_err-innermost-clause-put g c =
    rw ((err_from_is_err_and c.from_residual.result c.from_residual.ensures.1).1) (left-stops 0 _ _ _ c.args.out.now c.levels.out _ _ _ (rw c.in-Some.is at c.levels.invariant.left) c.in_err-innermost.ensures.put)
