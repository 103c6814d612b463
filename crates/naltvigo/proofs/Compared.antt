-- What a comparison reports of values, by the numbers that C gave.
use Rattle.std.proofs.Common.{ℕ, ◌≡◌, ◌⊎◌, ◌↔◌, inl, inr, Bool, true, false, List, subst, sym, ◌∙◌, IsTrue}
use Rattle.std.proofs.lemmas.Bool.{false≢true}
use Rattle.cbor_head.specs.Prelude.{Bounds, Spelling, value_of, Same}
use Rattle.cbor_head.specs.declared.reason.Refusal.{Refusal}
use Rattle.cbor_reader.specs.{Headline.IsValidItem, WholeItem.IsWholeItem, Comparing.IsSideRefusal, declared.comparison.Side.Side}
use Rattle.cbor_reader.specs.declared.comparison.Side.TheVariants.{Left, Right}
use Rattle.naltvigo.specs.Comparing.{side_number}

module _ (l m : Bounds) (left right : List ℕ) (same : Bool) (k : m ≡ l) (reports : (s t : Spelling) → IsValidItem l left s → IsValidItem l right t → IsTrue same ↔ Same (value_of s) (value_of t)) where
  at-limits : (x : List ℕ) (s : Spelling) → IsValidItem m x s → IsValidItem l x s
  at-limits x s h = subst (λ (b : Bounds). IsValidItem b x s) k h

  pub same-values : same ≡ true → (s t : Spelling) → IsValidItem m left s → IsValidItem m right t → Same (value_of s) (value_of t)
  same-values e s t a b = (reports s t (at-limits left s a) (at-limits right t b)).0 e

  pub other-values : same ≡ false → (s t : Spelling) → IsValidItem m left s → IsValidItem m right t → ¬ Same (value_of s) (value_of t)
  other-values e s t a b = λ q. false≢true (sym e ∙ (reports s t (at-limits left s a) (at-limits right t b)).1 q)

-- the side that is named: the left one, or the right one after a left one that is whole
pub named-side : (l m : Bounds) (left right : List ℕ) → l ≡ m → (s : Side) (f : Refusal) (n : ℕ) → n ≡ side_number s → IsSideRefusal l left right s f → (n ≡ 0) ⊎ ((n ≡ 1) × IsWholeItem m left)
named-side l m left right k Left f n e h = inl e
named-side l m left right k Right f n e h = inr (e, subst (λ (b : Bounds). IsWholeItem b left) k h.0)
