-- The value of a view, level by level.
use Rattle.std.proofs.Common.{◌≡◌, ℕ, List, map, drop, Option, Some, None, Bor, ap, sym, subst, ◌∙◌, rules}
use Rattle.cbor_head.specs.Value as value
use Rattle.theory_values.specs.Lists.{values_of, entries_of}
use Rattle.cbor_item.specs.declared.view_level.Level.TheVariants as levels
use Rattle.cbor_item.specs.{declared.view.View.TheViews.Array, declared.view.View.TheViews.Map, OpenValues.closed, OpenValues.CanEnd}
use Rattle.cbor_item.specs.{ViewValue.view_value, ViewValue.open_value, inner.ViewLevels.open_view, declared.view_level.Level.Level}
use Rattle.cbor_item.specs.declared.view.View.{View, the_lemmas}

pub view_value-Array : (r : Bor (List View)) → view_value (Array r) ≡ value.array (values_of (map view_value r.now))
view_value-Array r = search (rules, the_lemmas)

pub view_value-Map : (r : Bor (List (View × View))) → view_value (Map r) ≡ value.map (entries_of (map (λ p. (view_value p.0, view_value p.1)) r.now))
view_value-Map r = search (rules, the_lemmas)

-- the value of the array that ends
pub ended-array : (top : Level) (first : ℕ) (ms : List View) (ps : List (View × View)) (r : Bor (List View))
    → top ≡ levels.Array first → r.now ≡ drop first ms → view_value (Array r) ≡ closed (open_value (open_view top ms ps))
ended-array top first ms ps r is e =
    view_value-Array r ∙ ap (λ vs. value.array (values_of (map view_value vs))) e ∙ sym (ap (λ l. closed (open_value (open_view l ms ps))) is)

map-of : (key : Option View) (first : ℕ) (ms : List View) (ps : List (View × View)) (r : Bor (List (View × View)))
    → CanEnd (open_value (open_view (levels.Map first key) ms ps)) → r.now ≡ drop first ps
    → view_value (Map r) ≡ closed (open_value (open_view (levels.Map first key) ms ps))
map-of None first ms ps r can e = view_value-Map r ∙ ap (λ (qs : List (View × View)). value.map (entries_of (map (λ p. (view_value p.0, view_value p.1)) qs))) e
map-of (Some k) first ms ps r can e = absurd can

-- the value of the map that ends
pub ended-map : (top : Level) (first : ℕ) (key : Option View) (ms : List View) (ps : List (View × View)) (r : Bor (List (View × View)))
    → CanEnd (open_value (open_view top ms ps)) → top ≡ levels.Map first key → r.now ≡ drop first ps
    → view_value (Map r) ≡ closed (open_value (open_view top ms ps))
ended-map top first key ms ps r can is e =
    map-of key first ms ps r (subst (λ l. CanEnd (open_value (open_view l ms ps))) is can) e ∙ sym (ap (λ l. closed (open_value (open_view l ms ps))) is)
