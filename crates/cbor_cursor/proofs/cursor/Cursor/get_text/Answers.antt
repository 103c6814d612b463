use Rattle.std.proofs.Common.{◌++◌, ℕ, List, sym, ap₂, ◌∙◌, subst}
use Rattle.cbor_head.specs.Value.{Value, text}
use Rattle.theory_values.specs.Lookup.{HasValueAt}
use Rattle.cbor_cursor.specs.Decoded.{Encoded, encoded, value_in}
use Rattle.cbor_cursor.proofs.cursor.Cursor.get_text.Goals as goal

pub returns-in_err-item-clause-value : goal.returns-in_err-item-clause-value
returns-in_err-item-clause-value c =
    let o = c.self.inside.order in
    let key = ap₂ (λ (x y : List ℕ). x ++ y) c.as_slice.ensures.value c.as_bytes.ensures.value ∙ c.text_head-head.ensures.bytes o in
    let none = c.in_err-item.ensures.value o (text c.args.key.now) c.self.invariant c.text_head-head.ensures.range c.text_head-head.ensures.valid key in
    rw c.from_residual.ensures (subst (λ (e : Encoded). (v : Value) → HasValueAt (value_in e) (text c.args.key.now) v → ⊥) c.self.view_is none)

pub returns-clause-value : goal.returns-clause-value
returns-clause-value c =
    let o = c.self.inside.order in
    let key = ap₂ (λ (x y : List ℕ). x ++ y) c.as_slice.ensures.value c.as_bytes.ensures.value ∙ c.text_head-head.ensures.bytes o in
    let found = c.in_ok-item.ensures.value o (text c.args.key.now) c.self.invariant c.text_head-head.ensures.range c.text_head-head.ensures.valid key in
    subst (λ (e : Encoded). HasValueAt (value_in e) (text c.args.key.now) (value_in c.new.result)) c.self.view_is
    (subst (λ (e : Encoded). HasValueAt (value_in (encoded o c.self.inside.bytes.now)) (text c.args.key.now) (value_in e)) (sym c.new.ensures) found)
