-- The verdict of the strict rules is that of the plain ones too, unless it has a reason that the plain rules do not have.
use Rattle.std.proofs.Common.{◌≡◌, ◌⊎◌, ℕ, ◌<◌, ◌≤◌, List, length, inl, inr, refl, ap, subst, arith}
use Rattle.std.proofs.lemmas.Bool.{cases_lt}
use Rattle.cbor_head.specs.Prelude.{Bounds, Spelling, IsSpelled, plain, strict, Complaint, Complains, IsComplaint, rank, IsFirstOf, HasNoneOf, accepted, refused, IsVerdict}
use Rattle.cbor_head.specs.declared.{order.KeyOrder.KeyOrder, reason.Reason.Reason, reason.Reason.TheVariants.InvalidText, reason.Refusal.Refusal}
use Rattle.theory_values.{proofs.Complaints.kind_rank, proofs.Reasons.each_complaint, proofs.Reasons.ranked, specs.StrictReasons.IsStrictReason}
use Rattle.theory_values.proofs.PlainRules.{none_plainly, plainly}

module _ (limits : Bounds) (o : KeyOrder) (s : Spelling) (spelled : IsSpelled s) where
  pub none_of_plain : (t : ℕ) → HasNoneOf (IsComplaint limits (strict o) s) t → HasNoneOf (IsComplaint limits plain s) t
  none_of_plain t h c (inl x) l = none_plainly o t s 0 spelled (λ e y m. h e (inl y) m) c x l
  none_of_plain t h c (inr x) l = h c (inr x) l

  -- beyond the strict reasons there is one, which the plain rules know
  split : (c : Complaint) → Complains (strict o) 0 s c → IsStrictReason c.reason ⊎ (c.reason ≡ InvalidText)
  split c x =
      each_complaint (strict o) (λ e. IsStrictReason e.reason ⊎ (e.reason ≡ InvalidText)) (λ t at q. inr refl) (λ t at n. inl tt) (λ t at. inl tt)
      (λ e at n. inl (cc e)) (λ p e at n. inl tt) 0 s c x

  -- a complaint for a reason of the plain rules is one of theirs
  complains_plainly : (c : Complaint) → ¬ IsStrictReason c.reason → IsComplaint limits (strict o) s c → IsComplaint limits plain s c
  complains_plainly c apart (inl x) = elim (split c x) [ inl y ↦ absurd (apart y) | inr y ↦ inl (plainly o c y s 0 x) ]
  complains_plainly c apart (inr x) = inr x

  pub first_of_plain : (t : ℕ) (c : Complaint) → ¬ IsStrictReason c.reason → IsFirstOf (IsComplaint limits (strict o) s) t c → IsFirstOf (IsComplaint limits plain s) t c
  first_of_plain t c apart h = record { holds = complains_plainly c apart h.holds; ends = h.ends; first = first }
    where
      none_before : (e : Complaint) → IsComplaint limits plain s e → e.end < c.end → ⊥
      none_before e x l = none_of_plain e.end (λ z y m. omega (arith, l, m, h.ends, h.first z y (omega (arith, l, m, h.ends)))) e x (omega arith)

      ranks : (e : Complaint) → IsComplaint limits plain s e → e.end ≤ t → c.end ≡ e.end → rank c.reason ≤ rank e.reason
      ranks e (inr x) l same = omega (arith, same, h.first e (inr x) l)
      ranks e (inl x) l same = omega (arith, ranked plain 0 s e x, low h.holds)
        where
          low : IsComplaint limits (strict o) s c → rank c.reason ≤ 1
          low (inr y) = omega (arith, kind_rank s c y.2)
          low (inl y) = elim (split c y) [ inl z ↦ absurd (apart z) | inr z ↦ omega (arith, ap rank z) ]

      first : (e : Complaint) → IsComplaint limits plain s e → e.end ≤ t → (c.end < e.end) ⊎ ((c.end ≡ e.end) × (rank c.reason ≤ rank e.reason))
      first e x l = elim (cases_lt c.end e.end) [
        | inl k ↦ inl k
        | inr k ↦ elim (cases_lt e.end c.end) [
          | inl m ↦ absurd (none_before e x m)
          | inr m ↦ let same : c.end ≡ e.end = omega (arith, k, m) in inr (same, ranks e x l same)
        ]
      ]

module _ (limits : Bounds) (o : KeyOrder) (input : List ℕ) where
  pub accepted_plainly : (s : Spelling) → IsVerdict limits (strict o) input (accepted s) → IsVerdict limits plain input (accepted s)
  accepted_plainly s v = record {
    p = v.p;
    longest = v.longest;
    item = v.item;
    rest = v.rest;
    starts = v.starts;
    decides = (v.decides.0, v.decides.1, none_of_plain limits o v.item v.starts.spelled (length v.p) v.decides.2);
  }

  pub refused_plainly : (f : Refusal) → ¬ IsStrictReason f.reason → IsVerdict limits (strict o) input (refused f) → IsVerdict limits plain input (refused f)
  refused_plainly f apart v = record {
    p = v.p;
    longest = v.longest;
    item = v.item;
    rest = v.rest;
    starts = v.starts;
    decides = elim v.decides [
      | inl h ↦ inl (h.0, first_of_plain limits o v.item v.starts.spelled (length v.p) h.0 (subst (λ (r : Reason). ¬ IsStrictReason r) (ap (λ (g : Refusal). g.reason) h.2) apart) h.1, h.2)
      | inr h ↦ inr (none_of_plain limits o v.item v.starts.spelled (length v.p) h.0, h.1, h.2)
    ];
  }
