-- Which reasons a refusal has.
use Rattle.std.proofs.Common.{ℕ, ◌+◌, ◌≡◌, ◌≢◌, ◌⊎◌, Option, Some, None, List, [], ◌∷◌, ◌++◌, length, sym, ap, ◌∙◌, subst, inl, inr, Bool, ◌==◌, ◌||◌, ◌&&◌, ◌%◌, nat_le, if◌then◌else◌}
use Rattle.std.proofs.lemmas.Bool.{cond_both}
use Rattle.cbor_head.specs.Prelude.{Spelling, spell, Rules, form, Complaint, Complains, IsComplaint, Bounds, initial_reason, refusal, refused, IsReasonAt, IsFormError, IsVerdict}
use Rattle.cbor_head.specs.declared.reason.Reason.TheVariants.{Truncated, TooLong, InvalidText, RepeatedKey, NotShortest, Indefinite as IndefiniteReason, KeyOrder, Read, Memory, KeyKind}
use Rattle.cbor_head.specs.declared.reason.{Reason.Reason, Refusal.Refusal}
use Rattle.theory_values.proofs.{KeyKinds.of_kind, Reasons.each_complaint}
use Rattle.theory_automaton.specs.Reasons.{IsFormReason as IsByteReason}
use Rattle.theory_verdicts.specs.Reading.{IsFormRefusal, IsCause, HasCause, StopsItem}
use Rattle.theory_verdicts.specs.Refusals.{IsFormReason, IsComplaintReason, IsKindReason, IsReaderReason}
use Rattle.theory_verdicts.specs.{Place.Container, Judged.IsFinding}

-- a complaint for a reason that the rules have
complains : (r : Rules) (at : ℕ) (s : Spelling) (c : Complaint) → Complains r at s c → IsComplaintReason r c.reason
complains r at s c h = each_complaint r (λ e. IsComplaintReason r e.reason) (λ x at q. x) (λ x at n. x) (λ x at. x) (λ x at n. x) (λ o x at n. (o, x)) at s c h

initial-byte : (c : ℕ) → IsByteReason (initial_reason c)
initial-byte c = chosen (c == 0xff) _ _ tt (chosen ((c == 0xf9) || (c == 0xfa) || (c == 0xfb)) _ _ tt (chosen ((c == 0x1f) || (c == 0x3f) || (c == 0xdf)) _ _ tt (chosen (nat_le 28 (c % 32) && nat_le (c % 32) 30) _ _ tt tt)))
  where
    chosen : (b : Bool) (x y : Reason) → IsByteReason x → IsByteReason y → IsByteReason (if b then x else y)
    chosen b x y f g = cond_both b x y IsByteReason (λ e. f) (λ e. g)

-- a byte that is not allowed at its offset
pub byte-reason : (d : ℕ) (p : List ℕ) (c : ℕ) (reason : Reason) → IsReasonAt d p c reason → IsByteReason reason
byte-reason d p c reason (inl b) = subst IsByteReason (sym b.1) (initial-byte c)
byte-reason d p c reason (inr (inl b)) = subst IsByteReason (sym b.2) tt
byte-reason d p c reason (inr (inr b)) = subst IsByteReason (sym b.2) tt

byte-form : (reason : Reason) → IsByteReason reason → IsFormReason reason
byte-form Truncated h = absurd h
byte-form TooLong h = absurd h
byte-form _ h = h

-- a form error
pub breaks-form : (limits : Bounds) (p following : List ℕ) (f : Refusal) → IsFormError limits p following f → IsFormReason f.reason
breaks-form limits p [] f (inl h) = subst (λ (x : Refusal). IsFormReason x.reason) (sym h.1) tt
breaks-form limits p [] f (inr h) = subst (λ (x : Refusal). IsFormReason x.reason) (sym h.1) tt
breaks-form limits p (c ∷ cs) f h = subst (λ (x : Refusal). IsFormReason x.reason) (sym h.2) (byte-form h.0 (byte-reason limits.depth p c h.0 h.1))

-- a complaint that is a refusal
pub complaint-reason : (r : Rules) (at : ℕ) (s : Spelling) (c : Complaint) → Complains r at s c → (f : Refusal) → f ≡ refusal c.reason c.place c.end → IsComplaintReason r f.reason
complaint-reason r at s c h f is = subst (λ (x : Refusal). IsComplaintReason r x.reason) (sym is) (complains r at s c h)

-- or one on a key's kind
pub item-reason : (limits : Bounds) (r : Rules) (s : Spelling) (c : Complaint) → IsComplaint limits r s c → (f : Refusal) → f ≡ refusal c.reason c.place c.end → IsComplaintReason r f.reason ⊎ IsKindReason limits r f.reason
item-reason limits r s c (inl h) f is = inl (complaint-reason r 0 s c h f is)
item-reason limits r s c (inr h) f is = inr (ap (λ (x : Refusal). x.reason) is ∙ ap (λ (x : Complaint). x.reason) ((of_kind s 0 c h.2).is), h.0, h.1)

-- a verdict
pub verdict-reason : (limits : Bounds) (r : Rules) (input : List ℕ) (f : Refusal) → IsVerdict limits r input (refused f) → IsFormReason f.reason ⊎ (IsComplaintReason r f.reason ⊎ IsKindReason limits r f.reason)
verdict-reason limits r input f v = elim v.decides [
  | inl c ↦ inr (item-reason limits r v.item c.0 c.1.holds f c.2)
  | inr b ↦ inl (breaks-form limits v.p v.longest.rest f b.2)
]

-- by form alone it has no complaint
none-by-form : (reason : Reason) → ¬ IsComplaintReason form reason
none-by-form InvalidText h = cc h
none-by-form NotShortest h = cc h
none-by-form IndefiniteReason h = cc h
none-by-form RepeatedKey h = cc h
none-by-form KeyOrder h = cc h.1
none-by-form _ h = h

pub form-reason : (limits : Bounds) (input : List ℕ) (f : Refusal) → IsVerdict limits form input (refused f) → IsFormReason f.reason
form-reason limits input f v = elim (verdict-reason limits form input f v) [ inl h ↦ h | inr (inl h) ↦ absurd (none-by-form f.reason h) | inr (inr h) ↦ absurd (cc h.1) ]

-- no verdict gives a reason that is none of these
pub never-given : (limits : Bounds) (r : Rules) (input : List ℕ) (f : Refusal) (x : Reason) → ¬ IsFormReason x → ¬ IsComplaintReason r x → x ≢ KeyKind → IsVerdict limits r input (refused f) → f.reason ≢ x
never-given limits r input f x form complaint kind v e = elim (verdict-reason limits r input f v) [
  | inl h ↦ form (subst IsFormReason e h)
  | inr (inl h) ↦ complaint (subst (IsComplaintReason r) e h)
  | inr (inr h) ↦ kind (sym e ∙ h.0)
]

-- that a reader failed
pub never-read : (limits : Bounds) (r : Rules) (input : List ℕ) (f : Refusal) → IsVerdict limits r input (refused f) → f.reason ≢ Read
never-read limits r input f = never-given limits r input f Read (λ h. h) (λ h. h) (λ e. cc e)

-- that memory was refused
pub never-memory : (limits : Bounds) (r : Rules) (input : List ℕ) (f : Refusal) → IsVerdict limits r input (refused f) → f.reason ≢ Memory
never-memory limits r input f = never-given limits r input f Memory (λ h. h) (λ h. h) (λ e. cc e)

-- ---- the readers

-- a form error, or a failure of the reader
form-refusal : (b : Bounds) (all : List ℕ) (to : Option (List ℕ)) (f : Refusal) → IsFormRefusal b all to f → IsFormReason f.reason ⊎ (f.reason ≡ Read)
form-refusal b all to f (inl v) = inl (form-reason b (all ++ []) f (v []))
form-refusal b all to f (inr v) = elim v.2 [ inl e ↦ inr e | inr e ↦ inl (subst IsFormReason (sym e.0) tt) ]

cause-reason : (r : Rules) (b limits : Bounds) (fs : List Container) (t taken : List ℕ) (to : Option (List ℕ)) (f : Refusal) → HasCause r b fs t taken to f → IsReaderReason limits r f.reason
cause-reason r b limits fs t taken to f h = go h.found h.judged.finding h.cause
  where
    go : (found : Option Complaint) → IsFinding (Complains r (length t) h.judged.item) (length t + length h.p) (length t + length (spell h.judged.item)) found → IsCause b (t ++ taken) to (length (t ++ h.p)) found f → IsReaderReason limits r f.reason
    go (Some c) g k = inr (inl (inl (complaint-reason r (length t) h.judged.item c g.holds f k.0)))
    go None g k = elim (form-refusal b (t ++ taken) to f k.1) [ inl e ↦ inl e | inr e ↦ inr (inr (inl e)) ]

-- whichever keys are allowed
pub reader-reason : (r : Rules) (b limits : Bounds) (fs : List Container) (t x : List ℕ) (from to : Option (List ℕ)) (f : Refusal) → StopsItem r b fs t x from to f → IsReaderReason limits r f.reason
reader-reason r b limits fs t x from to f s = elim s.why [ inl m ↦ inr (inr (inr m.0.0)) | inr h ↦ cause-reason r b limits fs t s.bytes to f h ]
