-- The offsets of refusals: an offset is at most the end, and the end at most the input's length or the limit.
use Rattle.std.proofs.Common.{ℕ, ◌+◌, ◌≤◌, List, [], ◌∷◌, length, take, ap, ◌∙◌, arith, inl, inr, length-append, length-take}
use Rattle.std.proofs.lemmas.Str.{utf8_valid_len_le}
use Rattle.cbor_head.specs.Prelude.{Bounds, Spelling, Rules, Complaint, Complains, IsComplaint, IsFormError, IsVerdict, refused, IsLongestBeginning}
use Rattle.cbor_head.specs.declared.reason.Refusal.{Refusal}
use Rattle.theory_values.proofs.{KeyKinds.of_kind, Reasons.each_complaint}
use Rattle.theory_verdicts.specs.Refusals.{IsWithinInput}

-- ---- complaints

place_by_end : (s : Spelling) (r : Rules) (at : ℕ) (c : Complaint) → Complains r at s c → c.place ≤ c.end
place_by_end s r at c h =
    each_complaint r (λ e. e.place ≤ e.end) (λ t at q. omega (arith, utf8_valid_len_le q)) (λ t at n. omega arith) (λ t at. omega arith) (λ k at n. omega arith) (λ o k at n. omega arith) at s c h

complaint_place : (limits : Bounds) (r : Rules) (s : Spelling) (c : Complaint) → IsComplaint limits r s c → c.place ≤ c.end
complaint_place limits r s c (inl h) = place_by_end s r 0 c h
complaint_place limits r s c (inr h) = omega (arith, ap (λ (x : Complaint). x.end) ((of_kind s 0 c h.2).is))

-- ---- refusals

module _ (limits : Bounds) (input : List ℕ) where
  pub longest_within : (p : List ℕ) (g : IsLongestBeginning limits.depth (take limits.bytes input) p) → (length p + length g.rest ≤ limits.bytes) × (length p + length g.rest ≤ length input)
  longest_within p g =
      let size = ap length g.splits ∙ length-append p g.rest in
      let small = length-take limits.bytes input in
      (omega (arith, size, small), omega (arith, size, small))

  break_within : (p following : List ℕ) (f : Refusal) → length p + length following ≤ limits.bytes → length p + length following ≤ length input → IsFormError limits p following f → IsWithinInput limits.bytes input f
  break_within p [] f l m (inl b) =
      let place = ap (λ (f : Refusal). f.place) b.1 in let read = ap (λ (f : Refusal). f.read) b.1 in
      record { by_read = omega (arith, place, read); in_limit = omega (arith, read); in_input = omega (arith, read, b.0, m) }
  break_within p [] f l m (inr b) =
      let place = ap (λ (f : Refusal). f.place) b.1 in let read = ap (λ (f : Refusal). f.read) b.1 in
      record { by_read = omega (arith, place, read); in_limit = omega (arith, read, l); in_input = omega (arith, read, m) }
  break_within p (x ∷ xs) f l m b =
      let place = ap (λ (f : Refusal). f.place) b.2 in let read = ap (λ (f : Refusal). f.read) b.2 in
      record { by_read = omega (arith, place, read); in_limit = omega (arith, read, l); in_input = omega (arith, read, m) }

  pub verdict_within : (r : Rules) (f : Refusal) → IsVerdict limits r input (refused f) → IsWithinInput limits.bytes input f
  verdict_within r f v =
      let w = longest_within v.p v.longest in
      elim v.decides [
        | inl h ↦
            let place = ap (λ (f : Refusal). f.place) h.2 in let read = ap (λ (f : Refusal). f.read) h.2 in
            record {
              by_read = omega (arith, place, read, complaint_place limits r v.item h.0 h.1.holds);
              in_limit = omega (arith, read, h.1.ends, w.0);
              in_input = omega (arith, read, h.1.ends, w.1);
            }
        | inr h ↦ break_within v.p v.longest.rest f w.0 w.1 h.2
      ]
