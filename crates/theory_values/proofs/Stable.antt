-- What is decided, and so follows where its negation fails.
use Rattle.std.proofs.Common.{◌≡◌, ◌≢◌, ℕ, List, refl, sym, ◌∙◌, IsUtf8, true≢false}
use Rattle.std.proofs.lemmas.{Bool.true_from_ne_false, Str.IsUtf8-from_is_utf8, Str.is_utf8-from_IsUtf8}
use Rattle.cbor_head.specs.declared.width.Width.TheVariants.{Direct, One, Two, Four, Eight, Indefinite}
use Rattle.cbor_head.specs.declared.width.Width.{Width}

pub width_stable : (a b : Width) → ((a ≢ b) → ⊥) → a ≡ b
width_stable Direct Direct n = refl
width_stable One One n = refl
width_stable Two Two n = refl
width_stable Four Four n = refl
width_stable Eight Eight n = refl
width_stable Indefinite Indefinite n = refl
width_stable _ _ n = absurd (n (λ e. cc))

pub utf8_stable : (s : List ℕ) → (¬ IsUtf8 s → ⊥) → IsUtf8 s
utf8_stable s n = IsUtf8-from_is_utf8 s (true_from_ne_false _ (λ e. n (λ u. true≢false (sym (is_utf8-from_IsUtf8 s u) ∙ e))))
