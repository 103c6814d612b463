-- What a refusal of the canonicaliser can be: its offset, and its reason.
use Rattle.std.proofs.Common.{ℕ, List, length, ap, arith, inl, inr}
use Rattle.cbor_head.specs.{Prelude.Bounds, Prelude.plain, declared.order.KeyOrder.KeyOrder, declared.reason.Refusal.Refusal}
use Rattle.theory_verdicts.specs.Readers.{of_verdict, of_reader, of_memory}
use Rattle.theory_verdicts.{specs.Refusals.IsWithinInput, proofs.Accepted.item_within_limit, proofs.Reasons.verdict-reason}
use Rattle.cbor_reader.specs.Canonicalise.{IsRefusal, of_item, canonical_too_long, IsCanonicaliserReason}
use Rattle.cbor_reader.{specs.WholeItem.unread, specs.WholeItem.trailing, proofs.Headline.valid_item, proofs.Readings.within_at, proofs.Readings.unread_within}

module _ (limits : Bounds) (input : List ℕ) where
  pub refusal_within : (o : KeyOrder) (f : Refusal) → IsRefusal limits o input f → IsWithinInput limits.bytes input f
  refusal_within o f (of_item (unread u g)) = unread_within limits plain input f u
  refusal_within o f (of_item (trailing k a l e)) = within_at limits input f _ k e (omega (arith, a.size, item_within_limit limits plain input a.item a.verdict)) (omega (arith, l))
  refusal_within o f (canonical_too_long s v w l e) = within_at limits input f _ (length input) e (valid_item limits input s v w).fits (omega arith)

-- the canonicaliser's
pub canonicaliser-reason : (limits : Bounds) (o : KeyOrder) (input : List ℕ) (f : Refusal) → IsRefusal limits o input f → IsCanonicaliserReason limits f.reason
canonicaliser-reason limits o input f (of_item (unread (of_verdict v) g)) = elim (verdict-reason limits plain input f v) [ inl h ↦ inl h | inr h ↦ inr (inl h) ]
canonicaliser-reason limits o input f (of_item (unread (of_reader e v) g)) = absurd (g (ap (λ (x : Refusal). x.reason) e))
canonicaliser-reason limits o input f (of_item (unread (of_memory p l m e w) g)) = inr (inr (inr (inr (ap (λ (x : Refusal). x.reason) e))))
canonicaliser-reason limits o input f (of_item (trailing k a l e)) = inr (inr (inl (ap (λ (x : Refusal). x.reason) e)))
canonicaliser-reason limits o input f (canonical_too_long s v e l g) = inr (inr (inr (inl (ap (λ (x : Refusal). x.reason) g))))
