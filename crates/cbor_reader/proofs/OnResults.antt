-- The headline's clauses on a result, if it is known to be right.
use Rattle.std.proofs.Common.{ℕ, ◌^◌, ◌≢◌, ◌≤◌, List, Result, Ok, Err}
use Rattle.std.specs.Result.{MatchResult, IfOk, IfErr}
use Rattle.cbor_head.specs.{Prelude.Bounds, declared.order.KeyOrder.KeyOrder, declared.reason.Reason.TheVariants.Memory, declared.reason.Refusal.Refusal}
use Rattle.cbor_reader.specs.Canonicalise.{IsCanonicalOf, IsRefusal, DeterminesItsValue, IsCanonicaliserReason}
use Rattle.cbor_reader.proofs.Headline.{results_exactly, refused_too_long, equal_exactly, again}
use Rattle.cbor_reader.{specs.Headline.HasResult, specs.Headline.HasNoResult, proofs.CanonicaliserRefusals.canonicaliser-reason}

module _ {A : Type 0} (limits : Bounds) (o : KeyOrder) (input : List ℕ) (items : A → List ℕ) where
  abbrev pub IsResult : Result A Refusal → Type 0
  IsResult r = MatchResult r (λ v. IsCanonicalOf limits o input (items v)) (λ f. IsRefusal limits o input f)

  pub ok_item : (r : Result A Refusal) → IsResult r → IfOk r (λ v. HasResult limits o input (items v))
  ok_item (Ok v) a = (results_exactly limits o input (items v)).0 a
  ok_item (Err f) a = tt

  pub err_item : (r : Result A Refusal) → IsResult r → IfErr r (λ f. f.reason ≢ Memory → HasNoResult limits o input)
  err_item (Ok v) a = tt
  err_item (Err f) a = refused_too_long limits o input f a

  pub ok_equal : (r : Result A Refusal) → limits.bytes ≤ 2 ^ 62 → IsResult r → IfOk r (λ v. DeterminesItsValue limits.depth o input (items v))
  ok_equal (Ok v) l a = λ others y b s t k i h j. equal_exactly limits others o input y (items v) b s t l k a i h j
  ok_equal (Err f) l a = tt

  pub err_reason : (r : Result A Refusal) → IsResult r → IfErr r (λ f. IsCanonicaliserReason limits f.reason)
  err_reason (Ok v) a = tt
  err_reason (Err f) a = canonicaliser-reason limits o input f a

  pub ok_again : (r : Result A Refusal) → limits.bytes ≤ 2 ^ 62 → IsResult r → IfOk r (λ v. IsCanonicalOf limits o (items v) (items v))
  ok_again (Ok v) l a = again limits o input (items v) l a
  ok_again (Err f) l a = tt
