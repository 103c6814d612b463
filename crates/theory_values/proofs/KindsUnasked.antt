-- Verdicts by other definitions of the same complaints; and limits that allow keys of any kind.
use Rattle.std.proofs.Common.{ℕ, ◌≡◌, ◌↔◌, List, [], ◌∷◌, length, sym, ◌∙◌, subst, inl, inr, IsTrue}
use Rattle.cbor_head.specs.Prelude.{Bounds, bounds, with_keys, Spelling, form, Rules, Complaint, Complains, IsComplaint, Decision, accepted, refused, IsFormError, IsFirstOf, HasNoneOf, DecidesBy, IsVerdictBy, IsVerdict}
use Rattle.cbor_head.specs.declared.{keys.Keys.Keys, keys.Keys.TheVariants.Any, keys.Keys.TheVariants.IntegersAndTexts, reason.Refusal.Refusal}

-- ---- the same complaints, by other words

module _ (P Q : Spelling → Complaint → Type 0) (same : (s : Spelling) (c : Complaint) → P s c ↔ Q s c) where
  pub first_as : (s : Spelling) (t : ℕ) (c : Complaint) → IsFirstOf (P s) t c → IsFirstOf (Q s) t c
  first_as s t c f = record { holds = (same s c).0 f.holds; ends = f.ends; first = λ e h l. f.first e ((same s e).1 h) l }

  pub none_as : (s : Spelling) (t : ℕ) → HasNoneOf (P s) t → HasNoneOf (Q s) t
  none_as s t h c k l = h c ((same s c).1 k) l

  decides_as : (limits : Bounds) (p following : List ℕ) (s : Spelling) (x : Decision) → DecidesBy P limits p following s x → DecidesBy Q limits p following s x
  decides_as limits p following s (accepted t) h = (h.0, h.1, none_as s (length p) h.2)
  decides_as limits p following s (refused f) (inl h) = inl (h.0, first_as s (length p) h.0 h.1, h.2)
  decides_as limits p following s (refused f) (inr h) = inr (none_as s (length p) h.0, h.1, h.2)

  pub verdict_as : (limits : Bounds) (input : List ℕ) (x : Decision) → IsVerdictBy P limits input x → IsVerdictBy Q limits input x
  verdict_as limits input x v = record { p = v.p; longest = v.longest; item = v.item; rest = v.rest; starts = v.starts; decides = decides_as limits v.p v.longest.rest v.item x v.decides }

-- ---- the same depth and bytes, for other keys

module _ (P : Spelling → Complaint → Type 0) (input : List ℕ) (x : Decision) where
  break_beside : (d n : ℕ) (k l : Keys) (p following : List ℕ) (f : Refusal) → IsFormError (with_keys (bounds d n) k) p following f → IsFormError (with_keys (bounds d n) l) p following f
  break_beside d n k l p [] f h = h
  break_beside d n k l p (c ∷ cs) f h = h

  decides_beside : (d n : ℕ) (k l : Keys) (p following : List ℕ) (s : Spelling) (x : Decision) → DecidesBy P (with_keys (bounds d n) k) p following s x → DecidesBy P (with_keys (bounds d n) l) p following s x
  decides_beside d n k l p following s (accepted t) h = h
  decides_beside d n k l p following s (refused f) (inl h) = inl h
  decides_beside d n k l p following s (refused f) (inr h) = inr (h.0, h.1, break_beside d n k l p following f h.2)

  beside : (d n : ℕ) (k l : Keys) → IsVerdictBy P (with_keys (bounds d n) k) input x → IsVerdictBy P (with_keys (bounds d n) l) input x
  beside d n k l v = record { p = v.p; longest = v.longest; item = v.item; rest = v.rest; starts = v.starts; decides = decides_beside d n k l v.p v.longest.rest v.item x v.decides }

  -- complaints alone do not depend on which keys the limits allow
  pub verdict_beside : (limits others : Bounds) → limits.depth ≡ others.depth → limits.bytes ≡ others.bytes → IsVerdictBy P limits input x → IsVerdictBy P others input x
  verdict_beside limits others e g v =
      subst (λ (d : ℕ). IsVerdictBy P (with_keys (bounds d others.bytes) others.keys) input x) e
      (subst (λ (n : ℕ). IsVerdictBy P (with_keys (bounds limits.depth n) others.keys) input x) g
      (beside limits.depth limits.bytes limits.keys others.keys v))

-- ---- keys of any kind are allowed

unasked : (limits : Bounds) (r : Rules) → (IsTrue r.kinds → limits.keys ≡ IntegersAndTexts → ⊥) → (s : Spelling) (c : Complaint) → IsComplaint limits r s c ↔ Complains r 0 s c
unasked limits r none s c = (only, λ h. inl h)
  where
    only : IsComplaint limits r s c → Complains r 0 s c
    only (inl h) = h
    only (inr h) = absurd (none h.0 h.1)

other_way : {A B : Type 0} → A ↔ B → B ↔ A
other_way h = (h.1, h.0)

-- for keys of any kind
module _ (limits : Bounds) (r : Rules) (any : limits.keys ≡ Any) where
  pub any_complaint : (s : Spelling) (c : Complaint) → IsComplaint limits r s c ↔ Complains r 0 s c
  any_complaint = unasked limits r (λ t k. let e : Any ≡ IntegersAndTexts = sym any ∙ k in cc e)

  pub any_first : (s : Spelling) (t : ℕ) (c : Complaint) → IsFirstOf (IsComplaint limits r s) t c ↔ IsFirstOf (Complains r 0 s) t c
  any_first s t c =
      (first_as (IsComplaint limits r) (Complains r 0) any_complaint s t c, first_as (Complains r 0) (IsComplaint limits r) (λ s c. other_way (any_complaint s c)) s t c)

  pub any_none : (s : Spelling) (t : ℕ) → HasNoneOf (IsComplaint limits r s) t ↔ HasNoneOf (Complains r 0 s) t
  any_none s t = (none_as (IsComplaint limits r) (Complains r 0) any_complaint s t, none_as (Complains r 0) (IsComplaint limits r) (λ s c. other_way (any_complaint s c)) s t)

  pub any_verdict : (input : List ℕ) (x : Decision) → IsVerdict limits r input x ↔ IsVerdictBy (Complains r 0) limits input x
  any_verdict input x =
      (verdict_as (IsComplaint limits r) (Complains r 0) any_complaint limits input x, verdict_as (Complains r 0) (IsComplaint limits r) (λ s c. other_way (any_complaint s c)) limits input x)

-- by form alone there is one verdict, whichever keys are allowed
pub form_complaint : (limits : Bounds) (s : Spelling) (c : Complaint) → IsComplaint limits form s c ↔ Complains form 0 s c
form_complaint limits = unasked limits form (λ t k. cc t)

pub form_beside : (limits others : Bounds) (input : List ℕ) (x : Decision) → limits.depth ≡ others.depth → limits.bytes ≡ others.bytes → IsVerdict limits form input x → IsVerdict others form input x
form_beside limits others input x e g v =
    verdict_as (Complains form 0) (IsComplaint others form) (λ s c. other_way (form_complaint others s c)) others input x
    (verdict_beside (Complains form 0) input x limits others e g (verdict_as (IsComplaint limits form) (Complains form 0) (form_complaint limits) limits input x v))
