-- The item at an offset: there is only one.
use Rattle.std.proofs.Common.{◌≡◌, ℕ, ◌≤◌, List, length, drop, length-drop, sym, ap, ◌∙◌, arith, subst, Option, Some, None}
use Rattle.std.specs.Prelude.{IfSome, MatchOption}
use Rattle.cbor_head.specs.{Value.Value, declared.order.KeyOrder.KeyOrder}
use Rattle.cbor_cursor.specs.Offsets.{IsItemAt, IsWithin, IsWellFormedAt}
use Rattle.cbor_cursor.specs.WellFormed.{BeginsWithHead, BeginsWithItem, HasNoItem}
use Rattle.cbor_cursor.specs.declared.items.ItemAt.{ItemAt}

same_offset : (bytes rest : List ℕ) (p q : ℕ) → p ≤ length bytes → q ≤ length bytes → drop p bytes ≡ rest → drop q bytes ≡ rest → p ≡ q
same_offset bytes rest p q l m e f = omega (arith, l, m, ap length e, ap length f, length-drop p bytes, length-drop q bytes)

item_of : ℕ → ℕ → ℕ → ℕ → ℕ → ItemAt
item_of kind argument offset content end = record { kind = kind; argument = argument; offset = offset; content = content; end = end }

same_fields : (i j : ItemAt) → i.kind ≡ j.kind → i.argument ≡ j.argument → i.offset ≡ j.offset → i.content ≡ j.content → i.end ≡ j.end → i ≡ j
unfolding item_of
same_fields i j k a o c e =
    let same : item_of i.kind i.argument i.offset i.content i.end ≡ item_of j.kind j.argument j.offset j.content j.end = cc (k, a, o, c, e) in same

-- two of the same value, with the same rest
pub same_item : (o : KeyOrder) (bytes rest : List ℕ) (v : Value) (i j : ItemAt) → IsItemAt o bytes v rest i → IsItemAt o bytes v rest j → IsWithin bytes i → IsWithin bytes j → i.offset ≡ j.offset → i ≡ j
same_item o bytes rest v i j a b w x e =
    same_fields i j (a.head.kind_is ∙ sym b.head.kind_is) (a.head.argument_is ∙ sym b.head.argument_is) e
    (same_offset bytes _ i.content j.content (omega (arith, w.content, w.ends)) (omega (arith, x.content, x.ends)) a.head.content_is b.head.content_is)
    (same_offset bytes rest i.end j.end w.ends x.ends a.ends b.ends)

-- a result that meets the contract of `item_at` is this item
pub same_result : (o : KeyOrder) (bytes rest : List ℕ) (v : Value) (i : ItemAt) (r : Option ItemAt) → IsItemAt o bytes v rest i → IsWithin bytes i
    → MatchOption r ⊥ (λ j. IsItemAt o bytes v rest j) → IfSome r (λ j. j.offset ≡ i.offset) → IfSome r (λ j. IsWithin bytes j) → r ≡ Some i
same_result o bytes rest v i None a w b e x = absurd b
same_result o bytes rest v i (Some j) a w b e x = ap Some (same_item o bytes rest v j i b a x w e)

-- what is well-formed at the offset of the call is so at the offset of the result
pub well_formed_at : (bytes : List ℕ) (offset : ℕ) (r : Option ItemAt)
    → MatchOption r (HasNoItem (drop offset bytes)) (λ i. BeginsWithHead (drop offset bytes) i.kind i.argument (drop i.content bytes) × BeginsWithItem (drop offset bytes) (drop i.end bytes))
    → IfSome r (λ i. i.offset ≡ offset) → IfSome r (λ i. IsWellFormedAt bytes i)
well_formed_at bytes offset None h e = tt
well_formed_at bytes offset (Some i) h e =
    subst (λ (p : ℕ). BeginsWithHead (drop p bytes) i.kind i.argument (drop i.content bytes) × BeginsWithItem (drop p bytes) (drop i.end bytes)) (sym e) h
