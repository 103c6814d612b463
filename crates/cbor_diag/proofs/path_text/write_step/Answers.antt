use Rattle.std.proofs.Common.{◌++◌, ap, sym, append_assoc, codes, decimal}
use Rattle.std.proofs.lemmas.Result.{on_ok_weaker}
use Rattle.cbor_diag.specs.declared.item_path.Step.TheVariants as steps
use Rattle.cbor_diag.proofs.path_text.write_step.Goals as goal
use Rattle.cbor_diag.{specs.ItemPath.IsStepText, proofs.PathSteps.just}

pub returns-in-Value : goal.returns-in-Value
returns-in-Value g c =
    rw c.in-Value.is (on_ok_weaker c.write_key.result (λ w. just (IsStepText c.args.item.now (steps.Value c.in-Value.key)) _ _ w.text w.is w.written) c.write_key.ensures)

pub returns-in-Key : goal.returns-in-Key
returns-in-Key g c =
    rw c.in-Key.is
    (on_ok_weaker c.write-in-Key.result
    (just (IsStepText c.args.item.now (steps.Key c.in-Key.number c.in-Key.map)) _ _ (codes ", key " ++ (decimal c.in-Key.number ++ (codes " of the map at " ++ decimal c.in-Key.map)))
    (ap (λ t. codes ", key " ++ t) (sym (append_assoc (decimal c.in-Key.number) (codes " of the map at ") (decimal c.in-Key.map)))))
    c.write-in-Key.ensures.bytes)
