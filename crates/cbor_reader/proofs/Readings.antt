-- What the readers of one input agree on, and what is accepted within wider limits.
use Rattle.std.proofs.Common.{ℕ, ◌≡◌, ◌≢◌, ◌≤◌, ◌⊎◌, List, length, take, drop, refl, sym, ap, ◌∙◌, arith, subst, inl, inr, length-take}
use Rattle.cbor_head.specs.Prelude.{Rules, Bounds, Spelling, spell, value_of, Value, accepted, refused, refusal, IsVerdict}
use Rattle.cbor_head.specs.declared.reason.Reason.TheVariants.{Read, Memory, Truncated}
use Rattle.cbor_head.specs.declared.{keys.Keys.TheVariants.IntegersAndTexts, reason.Reason.Reason, reason.Refusal.Refusal}
use Rattle.theory_verdicts.specs.Readers.{IsRead, IsReadAs, IsUnread, of_verdict, of_reader, of_memory}
use Rattle.theory_verdicts.proofs.Accepted.{one_item, one_refusal, not_both, verdict_only}
use Rattle.theory_verdicts.{specs.Refusals.IsWithinInput, proofs.Within.longest_within, proofs.Within.verdict_within}
use Rattle.cbor_reader.proofs.Sequences.{is_accepted, verdict_of, splits}
use Rattle.cbor_reader.specs.Sequence.{IsAccepted}

pub within_at : (limits : Bounds) (input : List ℕ) (f : Refusal) (x : Reason) (k : ℕ) → f ≡ refusal x k k → k ≤ limits.bytes → k ≤ length input → IsWithinInput limits.bytes input f
within_at limits input f x k e l m = subst (IsWithinInput limits.bytes input) (sym e) (record { by_read = omega arith; in_limit = l; in_input = m })

-- ---- one input

module _ (limits : Bounds) (r : Rules) (input : List ℕ) where
  pub one_value : (v w : Value) (m n : ℕ) → IsReadAs limits r input v m → IsReadAs limits r input w n → (v ≡ w) × (m ≡ n)
  one_value v w m n a b =
      let same = one_item limits r input a.read.item b.read.item a.read.verdict b.read.verdict in
      (a.value ∙ ap value_of same ∙ sym b.value, a.read.size ∙ ap (λ (s : Spelling). length (spell s)) same ∙ sym b.read.size)

  pub one_unread : (f g : Refusal) → IsUnread limits r input f → IsUnread limits r input g → f.reason ≢ Read → f.reason ≢ Memory → g.reason ≢ Read → g.reason ≢ Memory → f ≡ g
  one_unread f g u v a b c d = one_refusal limits r input f g (verdict_only limits r input f u a b) (verdict_only limits r input g v c d)

  -- the verdict, or a failure of the reader or of memory
  reported_by : (f : Refusal) → IsUnread limits r input f → IsVerdict limits r input (refused f) ⊎ (((f.reason ≡ Read) ⊎ (f.reason ≡ Memory)) × IsWithinInput limits.bytes input f)
  reported_by f (of_verdict w) = inl w
  reported_by f (of_reader is w) =
      let there = verdict_within limits (take f.read input) r (refusal Truncated f.read f.read) w in
      inr (inl (ap (λ (g : Refusal). g.reason) is), within_at limits input f Read f.read is there.in_limit (omega (arith, there.in_input, length-take f.read input)))
  reported_by f (of_memory p l m is free) =
      let w = longest_within limits input p l in
      inr (inr (ap (λ (g : Refusal). g.reason) is), within_at limits input f Memory f.read is (omega (arith, m, w.0)) (omega (arith, m, w.1)))

  pub unread_within : (f : Refusal) → IsUnread limits r input f → IsWithinInput limits.bytes input f
  unread_within f u = elim (reported_by f u) [ inl w ↦ verdict_within limits input r f w | inr h ↦ h.1 ]

  pub read_or_unread : (n : ℕ) (f : Refusal) → IsRead limits r input n → IsUnread limits r input f → (f.reason ≡ Read) ⊎ (f.reason ≡ Memory)
  read_or_unread n f a u = elim (reported_by f u) [ inl w ↦ absurd (not_both limits r input a.item f a.verdict w) | inr h ↦ h.0 ]

-- ---- wider limits

pub accepted_wider : (limits others : Bounds) (r : Rules) (input : List ℕ) (s : Spelling) → limits.depth ≤ others.depth → limits.bytes ≤ others.bytes → (others.keys ≡ IntegersAndTexts → limits.keys ≡ IntegersAndTexts)
    → IsVerdict limits r input (accepted s) → IsVerdict others r input (accepted s)
accepted_wider limits others r input s deep long kinds v =
    let a = is_accepted limits r input s v in
    let wider : IsAccepted others r s = record {
      well_formed = record { spelled = a.well_formed.spelled; within = omega (arith, a.well_formed.within, deep); bytes_are = refl };
      sound = λ c x. elim x [ inl y ↦ a.sound c (inl y) | inr y ↦ a.sound c (inr (y.0, kinds y.1, y.2)) ];
      fits = omega (arith, a.fits, long);
    } in
    subst (λ (xs : List ℕ). IsVerdict others r xs (accepted s)) (splits limits r input s v) (verdict_of others r s (drop (length (spell s)) input) wider)
