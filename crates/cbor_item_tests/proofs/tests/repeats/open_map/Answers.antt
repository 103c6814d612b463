use Rattle.std.proofs.Common.{List, ℕ, ◌≡◌, ◌∷◌, [], ◌++◌, ap, ◌∙◌}
use Rattle.cbor_head.specs.{Prelude.Pair, declared.order.KeyOrder.KeyOrder}
use Rattle.theory_values.specs.Parts.{Open, a_map, give, pair}
use Rattle.cbor_builder.specs.Built.{Built, built}
use Rattle.cbor_item_tests.proofs.tests.repeats.open_map.Goals as goal

-- one more pair
pair_given : (o p : KeyOrder) (k b : List ℕ) (ps : List Pair) (os s : List Open) (v w : Built) → s ≡ a_map ps ∷ os → v ≡ built o (give k s) → w ≡ built p (give b v.open_levels)
    → (qs : List Pair) × (w.open_levels ≡ a_map qs ∷ os)
pair_given o p k b ps os s v w i e f =
    (ps ++ pair k b ∷ [], ap (λ (u : Built). u.open_levels) f ∙ ap (λ (u : Built). give b u.open_levels) e ∙ ap (λ (xs : List Open). give b (give k xs)) i)

pub loop-key-preserved : goal.loop-key-preserved
loop-key-preserved c =
    let i = c.loop-key.invariant in
    pair_given _ _ _ _ i.0 c.args.builder.now.open_levels c.loop-key.builder.open_levels c.leaf.new.self c.leaf-in-loop-key.new.self i.1 c.in_ok-leaf.ensures.given c.in_ok-leaf-2.ensures.given
