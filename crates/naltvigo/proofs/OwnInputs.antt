-- Canonical input, by the numbers that C gave.
use Rattle.std.proofs.Common.{ℕ, ◌≡◌, ◌≢◌, List, subst, sym, ◌∙◌}
use Rattle.cbor_head.specs.{Prelude.Bounds, Prelude.Value, declared.order.KeyOrder.TheVariants.Bytewise}
use Rattle.theory_verdicts.specs.Readers.{BeginsWithCanonical}
use Rattle.cbor_reader.specs.declared.comparison.Side.{Side, TheVariants.Left, TheVariants.Right}
use Rattle.cbor_reader.specs.{Canonicalise.IsCanonicalOf, Comparing.input_of}
use Rattle.naltvigo.specs.Comparing.{side_number}

module _ (l m : Bounds) (same : l ≡ m) where
  pub own-at : (input : List ℕ) → IsCanonicalOf m Bytewise input input → IsCanonicalOf l Bytewise input input
  own-at input h = subst (λ (b : Bounds). IsCanonicalOf b Bytewise input input) (sym same) h

  pub begins-at : (input : List ℕ) (v : Value) → BeginsWithCanonical m Bytewise input v → BeginsWithCanonical l Bytewise input v
  begins-at input v h = subst (λ (b : Bounds). BeginsWithCanonical b Bytewise input v) (sym same) h

  -- the side that is named is not canonical
  pub not-own : (left right : List ℕ) (named : Side) (n : ℕ) → n ≡ side_number named → ¬ IsCanonicalOf l Bytewise (input_of named left right) (input_of named left right)
      → (s : Side) → IsCanonicalOf m Bytewise (input_of s left right) (input_of s left right) → n ≢ side_number s
  not-own left right Left n e h Left a = λ _. h (own-at left a)
  not-own left right Right n e h Right a = λ _. h (own-at right a)
  not-own left right Left n e h Right a = λ f. let two : 0 ≡ 1 = sym e ∙ f in cc two
  not-own left right Right n e h Left a = λ f. let two : 1 ≡ 0 = sym e ∙ f in cc two
