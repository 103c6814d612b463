-- What a sequence gives of an input.
use Rattle.std.proofs.Common.{ℕ, ◌+◌, ◌≡◌, ◌≢◌, ◌<◌, Option, Some, None, Result, Err, List, [], ◌∷◌, ◌++◌, length, take, drop, refl, sym, ap, ◌∙◌, arith, subst, inl, inr, append_assoc, append-nil, take-append-drop, length-append, length-take}
use Rattle.std.{specs.Option.IfSome, specs.List.AllByRecursion, proofs.Math.Seq.drop-append_seam, proofs.lemmas.List.nil_from_length}
use Rattle.cbor_head.specs.Prelude.{Value, Spelling, simple, spell, value_of, Rules, Complaint, IsComplaint, Bounds, accepted, refused, refusal, IsFormError, IsVerdict}
use Rattle.cbor_head.specs.declared.reason.Reason.TheVariants.{Read, Memory, Truncated, TooLong}
use Rattle.cbor_head.specs.declared.reason.Refusal.{Refusal}
use Rattle.theory_values.proofs.{Accepted.accepts_exactly, KeyKinds.of_kind, OneFirst.after_head, ReadLaws.length_spell}
use Rattle.theory_verdicts.specs.Readers.{IsRead, IsReadAs, IsUnread, Loses}
use Rattle.theory_verdicts.proofs.Accepted.{item_within_limit, prefix_accepted, one_refusal, not_both, verdict_only}
use Rattle.theory_verdicts.specs.Refusals.{IsReaderReason}
use Rattle.cbor_reader.specs.Sequence.{sequence_bytes, IsAccepted, IfRefused, EndsBefore, IsAtEnd, IsRefused, Given, given_by, items_of, HasGiven, IsTaken}
use Rattle.cbor_reader.proofs.CutShort.{truncated}

-- the refusal that says that the input ended before an item
abbrev pub IsBeforeItem : Refusal → Type 0
IsBeforeItem f = (f.reason ≡ Truncated) × (f.read ≡ 0)

-- ---- an item at the start

module _ (limits : Bounds) (r : Rules) (input : List ℕ) (s : Spelling) (v : IsVerdict limits r input (accepted s)) where
  pub is_accepted : IsAccepted limits r s
  is_accepted =
      let h = (accepts_exactly limits r input s).0 v in
      record { well_formed = record { spelled = h.1.0; within = h.1.1; bytes_are = refl }; sound = h.2; fits = item_within_limit limits r input s v }

  at_start : (rest : List ℕ) × (spell s ++ rest ≡ input)
  at_start =
      let h = (accepts_exactly limits r input s).0 v in
      (h.0 ++ drop limits.bytes input, sym (append_assoc (spell s) h.0 (drop limits.bytes input)) ∙ ap (λ (b : List ℕ). b ++ drop limits.bytes input) h.1.2 ∙ take-append-drop limits.bytes input)

  pub splits : spell s ++ drop (length (spell s)) input ≡ input
  splits = let h = at_start in ap (λ (b : List ℕ). spell s ++ b) (ap (drop (length (spell s))) (sym h.1) ∙ drop-append_seam (spell s) h.0) ∙ h.1

pub verdict_of : (limits : Bounds) (r : Rules) (s : Spelling) (rest : List ℕ) → IsAccepted limits r s → IsVerdict limits r (spell s ++ rest) (accepted s)
verdict_of limits r s rest a = prefix_accepted limits r s rest a.well_formed a.sound a.fits

-- an accepted item is not refused
pub not_refused : (limits : Bounds) (r : Rules) (s : Spelling) (rest input : List ℕ) (f : Refusal) → IsAccepted limits r s → spell s ++ rest ≡ input → IsVerdict limits r input (refused f) → ⊥
not_refused limits r s rest input f a e w = not_both limits r input s f (subst (λ (b : List ℕ). IsVerdict limits r b (accepted s)) e (verdict_of limits r s rest a)) w

-- ---- the end of the input

-- a simple value has no complaint
pub simple_is_fine : (limits : Bounds) (r : Rules) (n : ℕ) (c : Complaint) → IsComplaint limits r (simple n) c → ⊥
simple_is_fine limits r n c (inl h) = h
simple_is_fine limits r n c (inr h) = h.2

-- a complaint ends after the first byte
some_end : (limits : Bounds) (r : Rules) (s : Spelling) (c : Complaint) → IsComplaint limits r s c → 0 < c.end
some_end limits r s c (inl h) = after_head s r 0 c h
some_end limits r s c (inr h) = omega (arith, (of_kind s 0 c h.2).later)

-- an input without bytes is truncated, where the limit would let it have one
pub empty_is_truncated : (limits : Bounds) (r : Rules) → 0 < limits.bytes → IsVerdict limits r [] (refused (refusal Truncated 0 0))
empty_is_truncated limits r l = truncated limits r (simple 0) (spell (simple 0)) 0 (record { spelled = omega arith; within = omega arith; bytes_are = refl }) (simple_is_fine limits r 0) (length_spell (simple 0)) l

module _ (limits : Bounds) (r : Rules) (input : List ℕ) where
  -- a form error before the first byte of an item is the end of the input
  break_before : (p following : List ℕ) (f : Refusal) → take limits.bytes input ≡ p ++ following → IsFormError limits p following f → IsBeforeItem f → EndsBefore limits.bytes input
  break_before p [] f e (inl b) (x, y) = absurd (apart (sym x ∙ ap (λ (g : Refusal). g.reason) b.1))
    where
      apart : Truncated ≡ TooLong → ⊥
      apart e = cc e
  break_before p [] f e (inr b) (x, y) =
      let none : length p ≡ 0 = sym (ap (λ (g : Refusal). g.read) b.1) ∙ y in
      (nil_from_length input (omega (arith, none, b.0, ap length e, length-append p [], length-take limits.bytes input)), omega (arith, none, b.0))
  break_before p (c ∷ rest) f e b (x, y) = let h : f.read ≡ length p + 1 = ap (λ (g : Refusal). g.read) b.2 in absurd (omega (arith, y, h))

  pub verdict_before : (f : Refusal) → IsVerdict limits r input (refused f) → IsBeforeItem f → EndsBefore limits.bytes input
  verdict_before f v h = elim v.decides [
    | inl x ↦
        let later : 0 < x.0.end = some_end limits r v.item x.0 x.1.holds in
        let end : f.read ≡ x.0.end = ap (λ (g : Refusal). g.read) x.2 in
        absurd (omega (arith, later, end, h.1))
    | inr x ↦ break_before v.p v.longest.rest f v.longest.splits x.2 h
  ]

  ends_so : (f : Refusal) → IsUnread limits r input f → IsBeforeItem f → EndsBefore limits.bytes input
  ends_so f u h = verdict_before f (verdict_only limits r input f u (λ e. not_read (sym h.0 ∙ e)) (λ e. not_memory (sym h.0 ∙ e))) h
    where
      not_read : Truncated ≡ Read → ⊥
      not_read e = cc e

      not_memory : Truncated ≡ Memory → ⊥
      not_memory e = cc e

  begun_so : (f : Refusal) → IsUnread limits r input f → ¬ IsBeforeItem f → f.reason ≢ Read → f.reason ≢ Memory → ¬ EndsBefore limits.bytes input
  begun_so f u h x y = λ (e, l).
      let same : f ≡ refusal Truncated 0 0 = one_refusal limits r input f (refusal Truncated 0 0) (verdict_only limits r input f u x y) (subst (λ (b : List ℕ). IsVerdict limits r b (refused (refusal Truncated 0 0))) (sym e) (empty_is_truncated limits r l)) in
      h (ap (λ (g : Refusal). g.reason) same, ap (λ (g : Refusal). g.read) same)

-- ---- what a call returns

module _ (r : Rules) (b : Bounds) where
  pub at_end : (from to : Option (List ℕ)) (f : Refusal) → IfSome from (λ input. IsUnread b r input f) → Loses f.read from to → IsBeforeItem f → IsAtEnd b.bytes from to
  at_end None to f u l h = record { ends = tt; taken = tt }
  at_end (Some input) to f u l h = record { ends = ends_so b r input f u h; taken = subst (λ (k : ℕ). Loses k (Some input) to) h.1 l }

  refused_so : (from to : Option (List ℕ)) (f : Refusal) → IfSome from (λ input. IsUnread b r input f) → Loses f.read from to → ¬ IsBeforeItem f → IsRefused r b from to f
  refused_so None to f u l h = record { unread = tt; begun = λ x y. tt; taken = tt }
  refused_so (Some input) to f u l h = record { unread = u; begun = begun_so b r input f u h; taken = l }

  pub refused_as : {A : Type 0} → (outcome : Option (Result A Refusal)) (from to : Option (List ℕ)) (f : Refusal) → IfSome from (λ input. IsUnread b r input f) → Loses f.read from to
      → IfRefused outcome (λ g. (g ≡ f) × ¬ IsBeforeItem f) → IfRefused outcome (IsRefused r b from to)
  refused_as (Some (Err g)) from to f u l h = subst (IsRefused r b from to) (sym h.0) (refused_so from to f u l h.1)
  refused_as _ from to f u l h = tt

-- what holds of the reader's reason
pub reason_as : {A : Type 0} → (b : Bounds) (r : Rules) (outcome : Option (Result A Refusal)) (f : Refusal) → IsReaderReason b r f.reason → IfRefused outcome (λ g. (g ≡ f) × ¬ IsBeforeItem f) → IfRefused outcome (λ g. IsReaderReason b r g.reason)
reason_as b r (Some (Err g)) f x h = subst (λ (y : Refusal). IsReaderReason b r y.reason) (sym h.0) x
reason_as b r _ f x h = tt

-- ---- a run of calls

-- one more
all_with : {X : Type 0} → (P : X → Type 0) (xs : List X) (x : X) → AllByRecursion P xs → P x → AllByRecursion P (xs ++ x ∷ [])
all_with P [] x h p = (p, tt)
all_with P (y ∷ ys) x h p = (h.0, all_with P ys x h.1 p)

bytes_with : (given : List Given) (g : Given) (more : List ℕ) → sequence_bytes (items_of (given ++ g ∷ [])) ++ more ≡ sequence_bytes (items_of given) ++ (spell g.item ++ more)
bytes_with [] g more = ap (λ (x : List ℕ). x ++ more) (append-nil (spell g.item))
bytes_with (h ∷ hs) g more =
    append_assoc (spell h.item) (sequence_bytes (items_of (hs ++ g ∷ []))) more ∙ ap (λ (x : List ℕ). spell h.item ++ x) (bytes_with hs g more)
    ∙ sym (append_assoc (spell h.item) (sequence_bytes (items_of hs)) (spell g.item ++ more))

module _ (r : Rules) (b : Bounds) (from to : Option (List ℕ)) (input : List ℕ) (given : List Given) where
  goes_on : (run : HasGiven b from input given) (s : Spelling) (count : ℕ) → IsVerdict b r run.rest (accepted s) → count ≡ length (spell s) → Loses count (Some run.rest) to → HasGiven b to input (given ++ given_by r s ∷ [])
  goes_on run s count v size lost = record {
    rest = drop (length (spell s)) run.rest;
    holds = lost.0 ∙ ap (λ (k : ℕ). Some (drop k run.rest)) size;
    each = all_with (λ g. IsAccepted b g.rules g.item) given (given_by r s) run.each (is_accepted b r run.rest s v);
    bytes = bytes_with given (given_by r s) (drop (length (spell s)) run.rest) ∙ ap (λ (x : List ℕ). sequence_bytes (items_of given) ++ x) (splits b r run.rest s v) ∙ run.bytes;
  }

  pub gives_value : (v : Value) → HasGiven b from input given → IsTaken r b from to v → (s : Spelling) × (v ≡ value_of s) × HasGiven b to input (given ++ given_by r s ∷ [])
  gives_value v run h =
      let i : IsReadAs b r run.rest v h.count = subst (λ (x : Option (List ℕ)). IfSome x (λ held. IsReadAs b r held v h.count)) run.holds h.read in
      (i.read.item, i.value, goes_on run i.read.item h.count i.read.verdict i.read.size (subst (λ (x : Option (List ℕ)). Loses h.count x to) run.holds h.taken))

  pub gives_count : (count : ℕ) → HasGiven b from input given → IfSome from (λ held. IsRead b r held count) → Loses count from to → (s : Spelling) × (count ≡ length (spell s)) × HasGiven b to input (given ++ given_by r s ∷ [])
  gives_count count run h lost =
      let i : IsRead b r run.rest count = subst (λ (x : Option (List ℕ)). IfSome x (λ held. IsRead b r held count)) run.holds h in
      (i.item, i.size, goes_on run i.item count i.verdict i.size (subst (λ (x : Option (List ℕ)). Loses count x to) run.holds lost))
