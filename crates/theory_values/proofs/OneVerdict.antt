-- An input has one verdict, whichever item is chosen.
use Rattle.std.proofs.Common.{ℕ, ◌+◌, ◌≡◌, List, [], ◌∷◌, ◌++◌, length, take, sym, ap, ◌∙◌, arith, subst, inl, inr}
use Rattle.std.proofs.lemmas.List.{append_cancel_left}
use Rattle.cbor_head.specs.Prelude.{Bounds, Spelling, spell, IsItem, Rules, Complaint, IsComplaint, refusal, Decision, accepted, refused, IsReasonAt, IsFormError, DecidesBy, IsVerdictBy, IsVerdict}
use Rattle.cbor_head.specs.declared.reason.{Refusal.Refusal, Reason.Reason}
use Rattle.theory_values.proofs.Complaints.{AreReportedByBytes, complaints_reported, one_first, first_for_each, none_for_each}
use Rattle.theory_values.proofs.Verdicts.{longest_one, item_one}

-- why c may not follow p is one reason
one_reason : (d : ℕ) (p : List ℕ) (c : ℕ) (q r : Reason) → IsReasonAt d p c q → IsReasonAt d p c r → q ≡ r
one_reason d p c q r (inl h) (inl i) = h.1 ∙ sym i.1
one_reason d p c q r (inl h) (inr (inl i)) = absurd (i.0 h.0)
one_reason d p c q r (inl h) (inr (inr i)) = absurd (i.0 h.0)
one_reason d p c q r (inr (inl h)) (inl i) = absurd (h.0 i.0)
one_reason d p c q r (inr (inl h)) (inr (inl i)) = h.2 ∙ sym i.2
one_reason d p c q r (inr (inl h)) (inr (inr i)) = absurd (i.1 h.1)
one_reason d p c q r (inr (inr h)) (inl i) = absurd (h.0 i.0)
one_reason d p c q r (inr (inr h)) (inr (inl i)) = absurd (h.1 i.1)
one_reason d p c q r (inr (inr h)) (inr (inr i)) = h.2 ∙ sym i.2

-- a form error is one refusal
pub one_break : (limits : Bounds) (p following : List ℕ) (f g : Refusal) → IsFormError limits p following f → IsFormError limits p following g → f ≡ g
one_break limits p [] f g (inl h) (inl i) = h.1 ∙ sym i.1
one_break limits p [] f g (inl h) (inr i) = absurd (omega (arith, h.0, i.0))
one_break limits p [] f g (inr h) (inl i) = absurd (omega (arith, h.0, i.0))
one_break limits p [] f g (inr h) (inr i) = h.1 ∙ sym i.1
one_break limits p (c ∷ rest) f g h i = h.2 ∙ ap (λ (r : Reason). refusal r (length p) (length p + 1)) (one_reason limits.depth p c h.0 i.0 h.1 i.1) ∙ sym i.2

module _ (P : Spelling → Complaint → Type 0) (reported : AreReportedByBytes P) (limits : Bounds) where
  whole_too : (p : List ℕ) (s t : Spelling) (a b : List ℕ) → IsItem limits.depth s (p ++ a) → IsItem limits.depth t (p ++ b) → spell s ≡ p → s ≡ t
  whole_too p s t a b i j e = (item_one limits.depth s t p b (record { spelled = i.spelled; within = i.within; bytes_are = e }) j).0

  -- what is decided of one item that starts with p is decided of each
  pub decides_for_each : (p following : List ℕ) (s t : Spelling) (a b : List ℕ) → IsItem limits.depth s (p ++ a) → IsItem limits.depth t (p ++ b) → (x : Decision) → DecidesBy P limits p following s x → DecidesBy P limits p following t x
  decides_for_each p following s t a b i j (accepted u) h =
      let e : s ≡ t = whole_too p s t a b i j h.1 in
      (h.0 ∙ e, ap spell (sym e) ∙ h.1, none_for_each P reported limits.depth s t p a b i j h.2)
  decides_for_each p following s t a b i j (refused f) (inl h) = inl (h.0, first_for_each P reported limits.depth s t p a b i j h.0 h.1, h.2)
  decides_for_each p following s t a b i j (refused f) (inr h) = inr (none_for_each P reported limits.depth s t p a b i j h.0, λ e. h.1 (ap spell (sym (whole_too p t s b a j i e)) ∙ e), h.2)

  -- one thing is decided of an item
  one_decision : (p following : List ℕ) (s : Spelling) (x y : Decision) → DecidesBy P limits p following s x → DecidesBy P limits p following s y → x ≡ y
  one_decision p following s (accepted u) (accepted v) h k = ap accepted (h.0 ∙ sym k.0)
  one_decision p following s (accepted u) (refused f) h (inl k) = absurd (h.2 k.0 k.1.holds k.1.ends)
  one_decision p following s (accepted u) (refused f) h (inr k) = absurd (k.1 h.1)
  one_decision p following s (refused f) (accepted v) (inl h) k = absurd (k.2 h.0 h.1.holds h.1.ends)
  one_decision p following s (refused f) (accepted v) (inr h) k = absurd (h.1 k.1)
  one_decision p following s (refused f) (refused g) (inl h) (inl k) =
      let e = one_first P reported s (length p) h.0 k.0 h.1 k.1 in
      ap refused (h.2 ∙ ap (λ (c : Complaint). refusal c.reason c.place c.end) e ∙ sym k.2)
  one_decision p following s (refused f) (refused g) (inl h) (inr k) = absurd (k.0 h.0 h.1.holds h.1.ends)
  one_decision p following s (refused f) (refused g) (inr h) (inl k) = absurd (h.0 k.0 k.1.holds k.1.ends)
  one_decision p following s (refused f) (refused g) (inr h) (inr k) = ap refused (one_break limits p following f g h.2 k.2)

  -- the verdict is one
  pub one_result : (input : List ℕ) (x y : Decision) → IsVerdictBy P limits input x → IsVerdictBy P limits input y → x ≡ y
  one_result input x y v w =
      let e : w.p ≡ v.p = sym (longest_one limits.depth (take limits.bytes input) v.p w.p v.longest w.longest) in
      let f : w.longest.rest ≡ v.longest.rest = append_cancel_left v.p w.longest.rest v.longest.rest (ap (λ (p : List ℕ). p ++ w.longest.rest) (sym e) ∙ sym w.longest.splits ∙ v.longest.splits) in
      let j : IsItem limits.depth w.item (v.p ++ w.rest) = subst (λ (p : List ℕ). IsItem limits.depth w.item (p ++ w.rest)) e w.starts in
      let k : DecidesBy P limits v.p w.longest.rest w.item y = subst (λ (p : List ℕ). DecidesBy P limits p w.longest.rest w.item y) e w.decides in
      let l : DecidesBy P limits v.p v.longest.rest w.item y = subst (λ (q : List ℕ). DecidesBy P limits v.p q w.item y) f k in
      one_decision v.p v.longest.rest w.item x y (decides_for_each v.p v.longest.rest v.item w.item v.rest w.rest v.starts j x v.decides) l

-- the verdict is one
pub one_verdict : (limits : Bounds) (r : Rules) (input : List ℕ) (x y : Decision) → IsVerdict limits r input x → IsVerdict limits r input y → x ≡ y
one_verdict limits r input x y v w = one_result (IsComplaint limits r) (complaints_reported limits r) limits input x y v w
