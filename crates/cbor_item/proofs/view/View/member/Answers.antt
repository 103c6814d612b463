use Rattle.std.proofs.Common.{◌≡◌, sym, ap, ◌∙◌}
use Rattle.cbor_head.specs.Value as value
use Rattle.cbor_head.specs.Prelude.{Value}
use Rattle.theory_values.specs.{Lists.values_of, Lookup.member_of}
use Rattle.cbor_item.proofs.view.View.member.Goals as goal
use Rattle.cbor_item.{specs.ViewValue.view_value, specs.ViewValue.view_values, proofs.Lookups.member_read, proofs.ViewValues.view_value-Array}

pub returns-in-Array : goal.returns-in-Array
returns-in-Array c =
    let l = c.get.ensures.lookup in
    let is : view_value c.args.self.now ≡ value.array (values_of (view_values c.in-Array.members.now)) = ap view_value c.in-Array.is ∙ view_value-Array c.in-Array.members in
    member_read c.in-Array.members.now c.args.index c.get.result _ l.3 l.1 ∙ sym (ap (λ (v : Value). member_of v c.args.index) is)
