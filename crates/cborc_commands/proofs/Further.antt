-- Why no item is accepted at the start of some bytes, however they continue.
use Rattle.std.proofs.Common.{ℕ, ◌≡◌, ◌≢◌, ◌⊎◌, inl, inr, Bool, true, false, List, [], ◌++◌, Option, refl, sym, ap, ◌∙◌, subst, append-nil}
use Rattle.cbor_head.specs.Prelude.{Rules, plain, Bounds, refused, IsVerdict}
use Rattle.cbor_head.specs.declared.{order.KeyOrder.KeyOrder, reason.Reason.TheVariants.Truncated, reason.Refusal.Refusal}
use Rattle.theory_verdicts.specs.Readers.{IsUnread, of_verdict, of_reader, of_memory}
use Rattle.theory_verdicts.proofs.Further.{further}
use Rattle.cborc_words.specs.declared.request.{Form.Form, TextStyle.TextStyle}
use Rattle.cborc_commands.specs.CanonSequence as canon
use Rattle.cborc_commands.specs.inner.SequenceItems.{IsUncounted, IsUnwritten, IsItemNotShown}
use Rattle.cborc_commands.{specs.Fault.IsOfInput, specs.Fault.refusal_fault, specs.declared.fault.Fault.Fault, proofs.Faults.refusal_is}

-- nothing follows the prefix, or the refusal is not due to its end
abbrev pub IsSettled : List ℕ → Refusal → Type 0
IsSettled following f = (following ≡ []) ⊎ (f.reason ≢ Truncated)

pub settled : (goes_on : Bool) (following : List ℕ) (f : Refusal) → (goes_on ≡ false → following ≡ []) → (goes_on ≡ true → f.reason ≢ Truncated) → IsSettled following f
settled true following f ends apart = inr (apart refl)
settled false following f ends apart = inl (ends refl)

module _ (b : Bounds) (r : Rules) (prefix following : List ℕ) (f : Refusal) (known : IsSettled following f) where
  pub verdict_further : IsVerdict b r prefix (refused f) → IsVerdict b r (prefix ++ following) (refused f)
  verdict_further v = elim known [
    | inl e ↦ subst (λ (xs : List ℕ). IsVerdict b r xs (refused f)) (sym (ap (λ (xs : List ℕ). prefix ++ xs) e ∙ append-nil prefix)) v
    | inr apart ↦ further b r prefix following (refused f) v apart
  ]

  pub unread_further : IsOfInput f.reason → IsUnread b r prefix f → IsVerdict b r (prefix ++ following) (refused f)
  unread_further own (of_verdict v) = verdict_further v
  unread_further own (of_reader is v) = absurd (subst IsOfInput (ap (λ (g : Refusal). g.reason) is) own)
  unread_further own (of_memory p l within is free) = absurd (subst IsOfInput (ap (λ (g : Refusal). g.reason) is) own)

-- the fault of a refusal
module _ (b : Bounds) (prefix following : List ℕ) (f : Refusal) (known : IsSettled following f) (fault : Fault) (is : fault ≡ refusal_fault f) where
  pub uncounted : (r : Rules) → IsUnread b r prefix f → IsUncounted b r (prefix ++ following) fault
  uncounted r h = refusal_is (IsUncounted b r (prefix ++ following)) f fault is (λ own. unread_further b r prefix following f known own h) (λ other. tt)

  pub uncanonical : (o : KeyOrder) (form : Form) (out : Option (List ℕ)) → IsUnread b plain prefix f → IsUnwritten b o form (prefix ++ following) fault out out
  uncanonical o form out h =
      refusal_is (λ (x : Fault). IsUnwritten b o form (prefix ++ following) x out out) f fault is (λ own. (canon.of_verdict (unread_further b plain prefix following f known own h), refl)) (λ other. refl)

  pub item_not_shown : (text_style : TextStyle) (out : Option (List ℕ)) → IsUnread b plain prefix f → IsItemNotShown b text_style (prefix ++ following) fault out out
  item_not_shown text_style out h =
      refusal_is (λ (x : Fault). IsItemNotShown b text_style (prefix ++ following) x out out) f fault is (λ own. (unread_further b plain prefix following f known own h, refl)) (λ other. refl)
