use Rattle.std.proofs.Common.{◌≡◌, refl, ap, true, false, is_some}
use Rattle.cbor_item.proofs.tree.Tree.of_in.Goals as goal
use Rattle.cbor_item.{proofs.Distinct.valid_from, specs.View.view}

pub returns-in-Ok-None-clause-refused : goal.returns-in-Ok-None-clause-refused
returns-in-Ok-None-clause-refused c =
    let e = c.if-not-is_within.ensures in (
      e.shallow.0 refl,
      λ d.
          let none : is_some c.in-Ok-None.field-0 ≡ false = ap is_some c.in-Ok-None.field-0-is in
          let some : is_some c.in-Ok-None.field-0 ≡ true = c.in-Ok-None.ensures.valid.1 (valid_from (view c.args.item) (e.texts refl) d) in
          absurd (cc),
    )
