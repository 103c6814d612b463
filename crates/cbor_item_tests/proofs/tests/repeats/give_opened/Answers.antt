use Rattle.std.proofs.Common.{List, ℕ, ◌≡◌, ◌∷◌, ap, ◌∙◌}
use Rattle.cbor_head.specs.{Prelude.Pair, declared.major.Major.TheVariants.Array, declared.order.KeyOrder.KeyOrder}
use Rattle.theory_values.specs.Parts.{Open, a_map, a_key, give, opened}
use Rattle.cbor_builder.specs.Built.{Built, built}
use Rattle.cbor_item_tests.proofs.tests.repeats.give_opened.Goals as goal

-- a key in a map in an array
key_waits : (o p : KeyOrder) (k : List ℕ) (ps : List Pair) (s t u v : Built) → t ≡ built o (opened Array 0 ∷ s.open_levels) → u.open_levels ≡ a_map ps ∷ t.open_levels
    → v ≡ built p (give k u.open_levels) → (qs : List Pair) × (b : List ℕ) × (c : Open) × (os : List Open) × (v.open_levels ≡ a_key qs b ∷ c ∷ os)
key_waits o p k ps s t u v is e given =
    (ps, k, opened Array 0, s.open_levels, ap (λ (w : Built). w.open_levels) given ∙ ap (give k) e ∙ ap (λ (w : Built). a_key ps k ∷ w.open_levels) is)

pub returns : goal.returns
returns c =
    let inner = c.in_ok-open_map-2.ensures in
    key_waits _ _ _ inner.0 c.leaf.new.self c.begin.new.self c.open_map-2.new.builder c.leaf-2.new.self c.in_ok-begin.ensures.given inner.1 c.in_ok-leaf-2.ensures.given
