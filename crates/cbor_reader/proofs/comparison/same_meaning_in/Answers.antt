use Rattle.std.proofs.Common.{arith, Bool, ◌≡◌, ◌∙◌, refl}
use Rattle.std.{specs.Cow.cow_slice_items, specs.Bool.Decides, proofs.lemmas.Bool.Decides.Decides-eqb, proofs.lemmas.Slice.Eq.slice_eq-Decides}
use Rattle.cbor_head.specs.Prelude.{canonical, Spelling, value_of}
use Rattle.cbor_head.specs.declared.order.KeyOrder.TheVariants.{Bytewise}
use Rattle.cbor_reader.proofs.Comparing.{encoded_again, same_inputs, same_values}
use Rattle.cbor_reader.proofs.comparison.same_meaning_in.Goals as goal
use Rattle.cbor_reader.proofs.comparison.same_meaning_in.Goals.{Joined-left_item, Joined-left_item-2, Joined-left_item-4}
use Rattle.cbor_reader.{specs.Headline.IsValidItem, proofs.WholeItems.refused_for_memory}

pub returns-in-Err-clause-only : goal.returns-in-Err-clause-only
returns-in-Err-clause-only c = λ h l r. h (refused_for_memory c.args.limits c.args.left.now c.in-Err.refusal l c.in-Err.ensures.refused)

pub returns-in-Err-encoded_item-clause-only : goal.returns-in-Err-encoded_item-clause-only
returns-in-Err-encoded_item-clause-only c =
    λ h l r. h (refused_for_memory c.args.limits c.args.right.now c.in-Err-encoded_item.refusal r c.in-Err-encoded_item.ensures.refused)

decides : (c : Joined-left_item-4) → Decides c.eq-2.result (cow_slice_items c.in-Ok.bytes ≡ cow_slice_items c.in-Ok-encoded_item.bytes)
decides c = rw (← c.as_slice-2.ensures.value, ← c.as_slice-3.ensures.value) (slice_eq-Decides Decides-eqb _ _ _ c.eq-2.ensures)

pub returns-clause-outcome : goal.returns-clause-outcome
returns-clause-outcome c =
    same_inputs c.args.limits (omega arith) c.args.left.now c.args.right.now c.eq-2.result (cow_slice_items c.in-Ok.bytes) (cow_slice_items c.in-Ok-encoded_item.bytes)
    (decides c) c.in-Ok.ensures.encoded c.in-Ok-encoded_item.ensures.encoded

pub returns-clause-values : goal.returns-clause-values
returns-clause-values c =
    same_values c.args.limits (omega arith) c.args.left.now c.args.right.now c.eq-2.result (cow_slice_items c.in-Ok.bytes) (cow_slice_items c.in-Ok-encoded_item.bytes)
    (decides c) c.in-Ok.ensures.encoded c.in-Ok-encoded_item.ensures.encoded

-- ---- the same bytes on both sides

alike : (c : Joined-left_item) → c.args.left.now ≡ c.args.right.now
alike c = (slice_eq-Decides Decides-eqb _ _ _ c.eq.ensures).0 c.if-eq.true

pub returns-then-eq-clause-outcome : goal.returns-then-eq-clause-outcome
returns-then-eq-clause-outcome c = rw (← alike c) (
    same_inputs c.args.limits (omega arith) c.args.left.now c.args.left.now Bool.true (cow_slice_items c.in-Ok.bytes) (cow_slice_items c.in-Ok.bytes)
    ((λ _. refl), (λ _. refl)) c.in-Ok.ensures.encoded c.in-Ok.ensures.encoded)

pub returns-then-eq-clause-values : goal.returns-then-eq-clause-values
returns-then-eq-clause-values c = rw (← alike c) (
    same_values c.args.limits (omega arith) c.args.left.now c.args.left.now Bool.true (cow_slice_items c.in-Ok.bytes) (cow_slice_items c.in-Ok.bytes)
    ((λ _. refl), (λ _. refl)) c.in-Ok.ensures.encoded c.in-Ok.ensures.encoded)

-- ---- the right one is the canonical bytes of the left one

own : (c : Joined-left_item-2) → (s : Spelling) × IsValidItem c.args.limits c.args.right.now s × (cow_slice_items c.in-Ok.bytes ≡ canonical Bytewise (value_of s))
own c =
    encoded_again c.args.limits (omega arith) c.args.left.now c.args.right.now (cow_slice_items c.in-Ok.bytes) c.in-Ok.ensures.encoded
    (c.is_within.ensures.equal c.if-is_within.true ∙ c.as_slice.ensures.value) (omega (arith, c.is_within.ensures.within c.if-is_within.true, c.bytes.ensures.bytes))

pub returns-then-is_within-clause-outcome : goal.returns-then-is_within-clause-outcome
returns-then-is_within-clause-outcome c =
    same_inputs c.args.limits (omega arith) c.args.left.now c.args.right.now Bool.true (cow_slice_items c.in-Ok.bytes) (cow_slice_items c.in-Ok.bytes)
    ((λ _. refl), (λ _. refl)) c.in-Ok.ensures.encoded (own c)

pub returns-then-is_within-clause-accepted : goal.returns-then-is_within-clause-accepted
returns-then-is_within-clause-accepted c = let h = own c in ((c.in-Ok.ensures.encoded.0, c.in-Ok.ensures.encoded.1), (h.0, h.1))

pub returns-then-is_within-clause-values : goal.returns-then-is_within-clause-values
returns-then-is_within-clause-values c =
    same_values c.args.limits (omega arith) c.args.left.now c.args.right.now Bool.true (cow_slice_items c.in-Ok.bytes) (cow_slice_items c.in-Ok.bytes)
    ((λ _. refl), (λ _. refl)) c.in-Ok.ensures.encoded (own c)
