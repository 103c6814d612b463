-- Which inputs are their own results: those that the strict verdict accepts whole.
use Rattle.std.proofs.Common.{ℕ, ◌≡◌, List, length, sym, ◌∙◌, [], subst, ◌^◌, ◌≤◌, ◌↔◌, append-nil}
use Rattle.cbor_head.specs.Prelude.{Bounds, Spelling, spell, value_of, canonical, plain, strict, accepted, IsVerdict}
use Rattle.cbor_head.specs.declared.order.KeyOrder.{KeyOrder}
use Rattle.theory_values.proofs.PlainVerdicts.{accepted_plainly}
use Rattle.theory_verdicts.proofs.CanonicalPrefixes.{strict_bytes, strict_value, strict_accepts, one_prefix}
use Rattle.theory_verdicts.specs.Readers.{BeginsWithCanonical}
use Rattle.cbor_reader.proofs.Headline.{prefix_range, prefix_valid, prefix_keys, prefix_depth, valid_item, results_exactly}
use Rattle.cbor_reader.specs.Canonicalise.{IsCanonicalOf}

module _ (limits : Bounds) (o : KeyOrder) (input : List ℕ) where
  -- it begins with its canonical bytes
  pub own_prefix : limits.bytes ≤ 2 ^ 62 → (a : IsCanonicalOf limits o input input) → BeginsWithCanonical limits o input (value_of a.item)
  own_prefix m a = record {
    range = prefix_range limits plain input a.item m a.verdict;
    valid = prefix_valid limits input a.item a.verdict;
    keys = λ basic. prefix_keys limits input a.item basic a.verdict;
    within = prefix_depth limits plain input a.item a.verdict;
    fits = subst (λ (b : List ℕ). length b ≤ limits.bytes) a.canonical_bytes a.fits;
    rest = [];
    begins = append-nil (canonical o (value_of a.item)) ∙ sym a.canonical_bytes;
  }

  own_result_accepted : limits.bytes ≤ 2 ^ 62 → IsCanonicalOf limits o input input → (s : Spelling) × IsVerdict limits (strict o) input (accepted s) × (spell s ≡ input)
  own_result_accepted m a =
      let v = value_of a.item in
      let begins = own_prefix m a in
      let (s, h) = strict_accepts limits o input v begins in
      (s, h, strict_bytes limits o input s h ∙ (one_prefix limits o input (value_of s) v (strict_value limits o input s h) begins).1 ∙ sym a.canonical_bytes)

  accepted_own_result : (s : Spelling) → IsVerdict limits (strict o) input (accepted s) → spell s ≡ input → IsCanonicalOf limits o input input
  accepted_own_result s v e =
      let i = valid_item limits input s (accepted_plainly limits o input s v) e in
      (results_exactly limits o input input).1 (s, i, sym e ∙ strict_bytes limits o input s v, i.fits)

  -- it is its own result exactly if the strict verdict accepts it whole
  pub own_results_exactly : limits.bytes ≤ 2 ^ 62 → IsCanonicalOf limits o input input ↔ ((s : Spelling) × IsVerdict limits (strict o) input (accepted s) × (spell s ≡ input))
  own_results_exactly m = (own_result_accepted m, (λ (s, v, e). accepted_own_result s v e))
