-- What the strict verdict accepts: the canonical bytes of a valid value, at the start of the input.
use Rattle.std.proofs.Common.{ℕ, ◌+◌, ◌-◌, ◌≡◌, List, ◌++◌, length, take, drop, refl, sym, ap, ◌∙◌, arith, inl, inr, append_assoc, take-append-drop}
use Rattle.std.proofs.Math.Seq.{take-append-add}
use Rattle.cbor_head.specs.Prelude.{Bounds, Value, Same, HasBasicKeys, Spelling, spell, value_of, canonical, strict, Complaint, IsComplaint, accepted, refused, IsVerdict}
use Rattle.cbor_head.specs.declared.{keys.Keys.TheVariants.IntegersAndTexts, order.KeyOrder.KeyOrder, reason.Refusal.Refusal}
use Rattle.theory_values.proofs.BasicKeys.{none_of_kinds, has_basic_keys, basic_same}
use Rattle.theory_values.{proofs.Accepted.accepts_exactly, specs.CanonicalSpelling.IsCanonicalSpelling, proofs.Depth.depth-value_of, proofs.Reported.reported}
use Rattle.theory_values.proofs.Theorems.{canonical_spelled, strict_exactly}
use Rattle.theory_verdicts.specs.Readers.{IsRead, BeginsWithCanonical, IsCanonicalPrefix, HasNoCanonicalPrefix}
use Rattle.theory_verdicts.proofs.Accepted.{item_within_limit, not_both}

module _ (limits : Bounds) (o : KeyOrder) (input : List ℕ) where
  -- an item that is accepted is spelled canonically
  pub strict_bytes : (s : Spelling) → IsVerdict limits (strict o) input (accepted s) → spell s ≡ canonical o (value_of s)
  strict_bytes s v = let h = (accepts_exactly limits (strict o) input s).0 v in (strict_exactly o s h.1.0 (λ c x. h.2 c (inl x))).canonical_is.bytes_are

  pub strict_value : (s : Spelling) → IsVerdict limits (strict o) input (accepted s) → BeginsWithCanonical limits o input (value_of s)
  strict_value s v =
      let h = (accepts_exactly limits (strict o) input s).0 v in
      let k = strict_exactly o s h.1.0 (λ c x. h.2 c (inl x)) in
      record {
        range = k.range;
        valid = k.valid;
        keys = λ basic. has_basic_keys s 0 (λ c x. h.2 c (inr (refl, basic, x)));
        within = omega (arith, depth-value_of s, h.1.1);
        fits = omega (arith, ap length k.canonical_is.bytes_are, item_within_limit limits (strict o) input s v);
        rest = h.0 ++ drop limits.bytes input;
        begins = ap (λ (b : List ℕ). b ++ (h.0 ++ drop limits.bytes input)) (sym k.canonical_is.bytes_are) ∙ sym (append_assoc (spell s) h.0 (drop limits.bytes input))
            ∙ ap (λ (b : List ℕ). b ++ drop limits.bytes input) h.1.2 ∙ take-append-drop limits.bytes input;
      }

  canonical_none : (v : Value) (s : Spelling) → (limits.keys ≡ IntegersAndTexts → HasBasicKeys v) → IsCanonicalSpelling o v s → (c : Complaint) → IsComplaint limits (strict o) s c → ⊥
  canonical_none v s keys k c (inl x) = k.clean 0 c x
  canonical_none v s keys k c (inr x) = none_of_kinds s (basic_same (value_of s) v k.same (keys x.1)) 0 c x.2

  pub strict_accepts : (v : Value) → BeginsWithCanonical limits o input v → (s : Spelling) × IsVerdict limits (strict o) input (accepted s)
  strict_accepts v h =
      let (s, k) = canonical_spelled o v h.range h.valid in
      let left = limits.bytes - length (canonical o v) in
      let size : length (canonical o v) + left ≡ limits.bytes = omega (arith, h.fits) in
      let prefix : spell s ++ take left h.rest ≡ take limits.bytes input =
      ap (λ (b : List ℕ). b ++ take left h.rest) k.bytes_are ∙ sym (take-append-add (canonical o v) h.rest left) ∙ (λ i. take (size i) (h.begins i)) in
      (s, (accepts_exactly limits (strict o) input s).1 (take left h.rest, (k.spelled, omega (arith, k.as_deep, h.within), prefix), canonical_none v s h.keys k))

  pub one_prefix : (v w : Value) → BeginsWithCanonical limits o input v → BeginsWithCanonical limits o input w → Same v w × (canonical o v ≡ canonical o w)
  one_prefix v w h k = let r = reported o o v w h.range k.range h.rest k.rest (h.begins ∙ sym k.begins) in (r.same, r.bytes_are)

  -- ---- the verdict on a prefix

  pub prefix_read : (count : ℕ) → IsRead limits (strict o) input count → IsCanonicalPrefix limits o input count
  prefix_read count r = record { value = value_of r.item; begins = strict_value r.item r.verdict; size = r.size ∙ ap length (strict_bytes r.item r.verdict) }

  pub prefix_refused : (f : Refusal) → IsVerdict limits (strict o) input (refused f) → HasNoCanonicalPrefix limits o input
  prefix_refused f w v h = let (s, accepts) = strict_accepts v h in not_both limits (strict o) input s f accepts w
