use Rattle.std.proofs.Common.{sym, ap, ◌∙◌, subst, append-nil, to_z, of_z, w64}
use Rattle.std.proofs.lemmas.Int.{to_z-of_z}
use Rattle.cbor_head.specs.Value.{Value}
use Rattle.theory_values.specs.Lookup.{HasValueAt, integer}
use Rattle.cbor_cursor.specs.Decoded.{Encoded, encoded, value_in}
use Rattle.cbor_cursor.proofs.cursor.Cursor.get_integer.Goals as goal

pub returns-clause-value : goal.returns-clause-value
returns-clause-value c =
    let o = c.self.inside.order in
    let k = integer (to_z w64 (of_z w64 c.args.key)) in
    let key = append-nil c.as_slice.result.now ∙ c.as_slice.ensures.value ∙ c.integer_head-head.ensures.bytes o in
    let found = c.in_ok-item.ensures.value o k c.self.invariant c.integer_head-head.ensures.range c.integer_head-head.ensures.valid key in
    subst (λ (l : Value). HasValueAt (value_in c.args.self.now) l (value_in c.new.result)) (ap integer (to_z-of_z w64 c.args.key c.ranges.key))
    (subst (λ (e : Encoded). HasValueAt (value_in e) k (value_in c.new.result)) c.self.view_is
    (subst (λ (e : Encoded). HasValueAt (value_in (encoded o c.self.inside.bytes.now)) k (value_in e)) (sym c.new.ensures) found))
