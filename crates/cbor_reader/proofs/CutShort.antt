-- The verdict on a prefix of an item without complaint.
use Rattle.std.proofs.Common.{ℕ, ◌≡◌, ◌<◌, List, [], ◌++◌, length, take, drop, refl, sym, ap, ◌∙◌, arith, inl, inr, append-nil, length-append, length-drop, length-take-le, take-append-drop, take_all}
use Rattle.std.proofs.lemmas.List.{take-append-le}
use Rattle.cbor_head.specs.Prelude.{Bounds, Spelling, IsItem, Rules, IsComplaint, refused, refusal, IsFormError, IsVerdict}
use Rattle.cbor_head.specs.declared.reason.{Reason.TheVariants.Truncated, Reason.TheVariants.TooLong, Refusal.Refusal}
use Rattle.theory_verdicts.specs.Judged.{Never}

-- the first n bytes of the input are p, and the item continues after p
pub cut : (limits : Bounds) (r : Rules) (input : List ℕ) (s : Spelling) (p q : List ℕ) (f : Refusal) → IsItem limits.depth s (p ++ q) → Never (IsComplaint limits r s) → 0 < length q → take limits.bytes input ≡ p
    → IsFormError limits p [] f → IsVerdict limits r input (refused f)
cut limits r input s p q f i none l e b = record {
  p = p;
  longest = record {
    beginning = (s, q, i);
    rest = [];
    splits = e ∙ sym (append-nil p);
    longest = λ x y g h. omega (arith, ap length (sym e ∙ h), length-append x y);
  };
  item = s;
  rest = q;
  starts = i;
  decides = inr ((λ c h m. none c h), (λ w. omega (arith, l, ap length w, ap length i.bytes_are, length-append p q)), b);
}

module _ (limits : Bounds) (r : Rules) (s : Spelling) (b : List ℕ) (k : ℕ) (i : IsItem limits.depth s b) (none : Never (IsComplaint limits r s)) (small : k < length b) where
  parted : IsItem limits.depth s (take k b ++ drop k b)
  parted = record { spelled = i.spelled; within = i.within; bytes_are = i.bytes_are ∙ sym (take-append-drop k b) }

  prefix_size : length (take k b) ≡ k
  prefix_size = length-take-le k b (omega (arith, small))

  goes_on : 0 < length (drop k b)
  goes_on = omega (arith, small, length-drop k b)

  -- the input ends there
  pub truncated : k < limits.bytes → IsVerdict limits r (take k b) (refused (refusal Truncated k k))
  truncated m =
      cut limits r (take k b) s (take k b) (drop k b) _ parted none goes_on (take_all limits.bytes (take k b) (omega (arith, prefix_size, m)))
      (inr (omega (arith, prefix_size, m), ap (λ (j : ℕ). refusal Truncated j j) (sym prefix_size)))

-- it has more bytes than the limit
pub too_long : (limits : Bounds) (r : Rules) (s : Spelling) (b rest : List ℕ) → IsItem limits.depth s b → Never (IsComplaint limits r s) → limits.bytes < length b
    → IsVerdict limits r (b ++ rest) (refused (refusal TooLong limits.bytes limits.bytes))
too_long limits r s b rest i none small =
    let k = limits.bytes in
    cut limits r (b ++ rest) s (take k b) (drop k b) _ (parted limits r s b k i none small) none (goes_on limits r s b k i none small) (take-append-le k b rest (omega (arith, small)))
    (inl (prefix_size limits r s b k i none small, refl))
