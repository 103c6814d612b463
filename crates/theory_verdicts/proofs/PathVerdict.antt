-- Where the walk ends is the verdict.
use Rattle.std.proofs.Common.{◌≡◌, ◌≢◌, ℕ, ◌<◌, List, [], ◌∷◌, ◌++◌, length, take, refl, sym, ap, ◌∙◌, subst, inl, inr, arith, append-nil, length-append, length-take}
use Rattle.std.proofs.lemmas.Bool.{cases_lt}
use Rattle.cbor_head.specs.Prelude.{IsBeginning, IsLongestBeginning, Rules, IsComplaint, Bounds, Spelling, IsItem, spell, refusal, accepted, refused, IsVerdict}
use Rattle.cbor_head.specs.declared.reason.Reason.TheVariants.{Truncated, TooLong, KeyKind}
use Rattle.cbor_head.specs.declared.reason.Refusal.{Refusal}
use Rattle.theory_values.proofs.Beginnings.{item_decides}
use Rattle.theory_automaton.specs.Reasons.{IsFormReason as IsByteReason}
use Rattle.theory_automaton.proofs.Longest.{longest_if_refused}
use Rattle.theory_verdicts.proofs.Decisions.{whole_beside, complaint_decides, break_decides, kind_decides}
use Rattle.theory_verdicts.specs.Stop.{HasComplaint, HasBadByte, EndsWithin, HasOtherKey, IsStopped, IsReportedAs}
use Rattle.theory_verdicts.{specs.Refusals.IsComplaintReason, specs.Kinds.KeepsToKinds, proofs.Reasons.byte-reason, proofs.Reasons.complaint-reason}
use Rattle.theory_verdicts.{proofs.SpelledBytes.longest_always, specs.Path.HasEnded}

-- ---- reasons

-- a complaint, a bad byte and a key of another kind are no end of the input
bad_byte_differs : (r : Rules) (limits : Bounds) (b : List ℕ) (f : Refusal) → HasBadByte r limits b f → f.reason ≢ Truncated
bad_byte_differs r limits b f h e = subst IsByteReason e (byte-reason limits.depth h.p h.byte f.reason h.reason)

complaint_differs : (r : Rules) (limits : Bounds) (b : List ℕ) (f : Refusal) → HasComplaint r limits b f → f.reason ≢ Truncated
complaint_differs r limits b f h e = subst (IsComplaintReason r) e (complaint-reason r 0 h.judged.item h.complaint h.judged.finding.holds f h.is)

other_key_differs : (r : Rules) (limits : Bounds) (b : List ℕ) (f : Refusal) → HasOtherKey r limits b f → f.reason ≢ Truncated
other_key_differs r limits b f h e = let same : KeyKind ≡ Truncated = sym (ap (λ (x : Refusal). x.reason) h.is) ∙ e in cc same

-- ---- the longest beginning

-- all that there is
abbrev whole_longest : (d : ℕ) (b : List ℕ) → IsBeginning d b → IsLongestBeginning d b b
whole_longest d b i = record { beginning = i; rest = []; splits = sym (append-nil b); longest = λ x y h e. omega (arith, ap length e, length-append x y) }

-- ---- the verdict, of an input within n bytes

module _ (r : Rules) (limits : Bounds) (input : List ℕ) where
  pub complaint_stops : (f : Refusal) → HasComplaint r limits (take limits.bytes input) f → IsVerdict limits r input (refused f)
  complaint_stops f h =
      let (q, g) = longest_always limits.depth (take limits.bytes input) in
      subst (λ (x : Refusal). IsVerdict limits r input (refused x)) (sym h.is) (complaint_decides limits r input h.p h.rest q h.complaint h.judged h.keeps h.splits g)

  pub bad_byte_stops : (f : Refusal) → HasBadByte r limits (take limits.bytes input) f → IsVerdict limits r input (refused f)
  bad_byte_stops f h =
      let g = longest_if_refused limits.depth h.p h.byte h.rest (h.judged.item, h.judged.rest, h.judged.is) h.cannot_follow in
      let longest : IsLongestBeginning limits.depth (take limits.bytes input) h.p = record { beginning = g.beginning; rest = h.byte ∷ h.rest; splits = h.splits; longest = λ x y i e. g.longest x y i (sym h.splits ∙ e) } in
      break_decides limits r input h.p f h.judged h.keeps longest (f.reason, h.reason, h.is)

  pub other_key_stops : (f : Refusal) → HasOtherKey r limits (take limits.bytes input) f → IsVerdict limits r input (refused f)
  other_key_stops f h =
      let (q, g) = longest_always limits.depth (take limits.bytes input) in
      subst (λ (x : Refusal). IsVerdict limits r input (refused x)) (sym h.is) (kind_decides limits r input h.p h.rest q h.byte h.item h.asked h.judged h.keeps h.starts h.other h.splits g)

  module _ (f : Refusal) (h : EndsWithin r limits (take limits.bytes input) f) where
    abbrev longest : IsLongestBeginning limits.depth (take limits.bytes input) (take limits.bytes input)
    longest = whole_longest limits.depth (take limits.bytes input) (h.judged.item, h.judged.rest, h.judged.is)

    pub end_stops : length (take limits.bytes input) < limits.bytes → IsVerdict limits r input (refused f)
    end_stops l = break_decides limits r input (take limits.bytes input) f h.judged h.keeps longest (inr (l, h.is))

    pub limit_stops : length (take limits.bytes input) ≡ limits.bytes → IsVerdict limits r input (refused (refusal TooLong limits.bytes limits.bytes))
    limit_stops e = break_decides limits r input (take limits.bytes input) (refusal TooLong limits.bytes limits.bytes) h.judged h.keeps longest (inl (e, refl))

  pub stopped : (f : Refusal) → IsStopped r limits (take limits.bytes input) f → (g : Refusal) → IsReportedAs limits.bytes (take limits.bytes input) f g → IsVerdict limits r input (refused g)
  stopped f (inl h) g a = subst (λ (x : Refusal). IsVerdict limits r input (refused x)) (sym (a.same (λ e. absurd (complaint_differs r limits (take limits.bytes input) f h e)))) (complaint_stops f h)
  stopped f (inr (inl h)) g a = subst (λ (x : Refusal). IsVerdict limits r input (refused x)) (sym (a.same (λ e. absurd (bad_byte_differs r limits (take limits.bytes input) f h e)))) (bad_byte_stops f h)
  stopped f (inr (inr (inr h))) g a = subst (λ (x : Refusal). IsVerdict limits r input (refused x)) (sym (a.same (λ e. absurd (other_key_differs r limits (take limits.bytes input) f h e)))) (other_key_stops f h)
  stopped f (inr (inr (inl h))) g a = elim (cases_lt (length (take limits.bytes input)) limits.bytes) [
    | inl l ↦ subst (λ (x : Refusal). IsVerdict limits r input (refused x)) (sym (a.same (λ e same. omega (arith, l, same)))) (end_stops f h l)
    | inr l ↦
        let all : length (take limits.bytes input) ≡ limits.bytes = omega (arith, l, length-take limits.bytes input) in
        subst (λ (x : Refusal). IsVerdict limits r input (refused x)) (sym (a.too_long (ap (λ (x : Refusal). x.reason) h.is) all)) (limit_stops f h all)
  ]

  pub accepts : (s : Spelling) (rest : List ℕ) → HasEnded r limits.depth [] s → KeepsToKinds limits r (spell s) → take limits.bytes input ≡ spell s ++ rest → IsVerdict limits r input (accepted s)
  accepts s rest h keeps e =
      let whole : IsItem limits.depth s (spell s) = record { spelled = h.spelled; within = omega (arith, h.within); bytes_are = refl } in
      item_decides (IsComplaint limits r) limits input rest s whole e (whole_beside limits r s whole keeps h.clean)
