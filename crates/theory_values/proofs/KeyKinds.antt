-- Complaints on the kinds of keys: which byte reports the kind, and where they end.
use Rattle.std.proofs.Common.{ℕ, ◌+◌, ◌*◌, ◌≡◌, ◌<◌, ◌≤◌, ◌/◌, List, [], ◌∷◌, ◌++◌, length, refl, sym, ap, ◌∙◌, arith, subst, inl, inr, IsTrue, length-append}
use Rattle.cbor_head.specs.Prelude.{head, major_number, IsIntegerOrText, Spelling, Spellings, SpelledEntries, unsigned, negative, text, text_chunks, array, a_map, tag, no_spellings, a_spelling, no_entries, entry, spell, spell_all, spell_entries, IsSpelled, HoldsOrIndefinite, value_of, form, IsItem, spellings_count, entries_count, Complaint, complaint, OfCount, OfKind, ComplainsInBy, ComplainsInEntriesBy, OfKinds}
use Rattle.cbor_head.specs.declared.width.Width.TheVariants.{Direct, One, Two, Four, Eight, Indefinite}
use Rattle.cbor_head.specs.declared.{major.Major.TheVariants.Array, major.Major.TheVariants.Map, major.Major.Major, reason.Reason.TheVariants.KeyKind}
use Rattle.cbor_head.specs.declared.width.Width.{Width}
use Rattle.theory_values.proofs.Parts.{major, width, count, body, head_of, parts, holds_of}
use Rattle.theory_values.{proofs.Reasons.none_by_form, proofs.Agree.same_by, specs.FirstBytes.is_basic, proofs.ReadLaws.length_spell, proofs.Alike.Both}

-- ---- the first byte of an item reports whether it is an integer or a text

pub record FirstByte (m : Major) (bs : List ℕ) : Type 0 where
  pub low : ℕ
  pub rest : List ℕ
  pub small : low < 32
  pub is : bs ≡ (32 * major_number m + low) ∷ rest

pub first_of_head : (m : Major) (w : Width) (n : ℕ) → HoldsOrIndefinite w n → FirstByte m (head m w n)
first_of_head m Direct n h = record { low = n; rest = []; small = omega (arith, h); is = refl }
first_of_head m One n h = record { low = 24; rest = _; small = omega arith; is = refl }
first_of_head m Two n h = record { low = 25; rest = _; small = omega arith; is = refl }
first_of_head m Four n h = record { low = 26; rest = _; small = omega arith; is = refl }
first_of_head m Eight n h = record { low = 27; rest = _; small = omega arith; is = refl }
first_of_head m Indefinite n h = record { low = 31; rest = []; small = omega arith; is = refl }

first_byte : (s : Spelling) → IsSpelled s → FirstByte (major s) (spell s)
first_byte s h =
    let f = first_of_head (major s) (width s) (count s) (holds_of s h) in
    record { low = f.low; rest = f.rest ++ body s; small = f.small; is = parts s ∙ ap (λ (x : List ℕ). x ++ body s) f.is }

basic_number : (s : Spelling) → IsIntegerOrText (value_of s) → IsTrue (is_basic (major_number (major s)))
basic_number (unsigned w n) h = refl
basic_number (negative w n) h = refl
basic_number (text w q) h = refl
basic_number (text_chunks cs) h = refl
basic_number _ h = absurd h

basic_value : (s : Spelling) → IsTrue (is_basic (major_number (major s))) → IsIntegerOrText (value_of s)
basic_value (unsigned w n) h = tt
basic_value (negative w n) h = tt
basic_value (text w q) h = tt
basic_value (text_chunks cs) h = tt
basic_value _ h = absurd (cc h)

-- where two items begin with one byte
module _ (s : Spelling) (h : IsSpelled s) (b : ℕ) (x y : List ℕ) (e : spell s ++ x ≡ b ∷ y) where
  pub number_is : major_number (major s) ≡ b / 32
  number_is =
      let f = first_byte s h in
      let whole : ((32 * major_number (major s) + f.low) ∷ f.rest) ++ x ≡ b ∷ y = ap (λ (z : List ℕ). z ++ x) (sym f.is) ∙ e in
      let same : 32 * major_number (major s) + f.low ≡ b = cc whole in
      omega (arith, f.small, same)

  pub basic_byte : IsIntegerOrText (value_of s) → IsTrue (is_basic (b / 32))
  basic_byte k = subst (λ (n : ℕ). IsTrue (is_basic n)) number_is (basic_number s k)

  pub byte_basic : IsTrue (is_basic (b / 32)) → IsIntegerOrText (value_of s)
  byte_basic k = basic_value s (subst (λ (n : ℕ). IsTrue (is_basic n)) (sym number_is) k)

pub kind_too : (s t : Spelling) → IsSpelled s → IsSpelled t → (p : List ℕ) → Both (spell s) (spell t) p → 0 < length p → IsIntegerOrText (value_of t) → IsIntegerOrText (value_of s)
kind_too s t h i [] both l k = absurd (omega (arith, l))
kind_too s t h i (b ∷ p) both l k = byte_basic s h b both.x (p ++ both.u) both.left (basic_byte t i b both.y (p ++ both.v) both.right k)

-- ---- the offsets of a complaint

-- it is after the first of these offsets, within the last, one byte long, and for one reason
pub record IsWithin (from to : ℕ) (c : Complaint) : Type 0 where
  pub is : c ≡ complaint (c.place + 1) c.place KeyKind
  pub later : from < c.end
  pub within : c.end ≤ to

wider : {from to before following : ℕ} {c : Complaint} → IsWithin from to c → before ≤ from → to ≤ following → IsWithin before following c
wider w l h = record { is = w.is; later = omega (arith, w.later, l); within = omega (arith, w.within, h) }

pub kind_end : (c : Complaint) (at : ℕ) → c ≡ complaint (at + 1) at KeyKind → c.end ≡ at + 1
kind_end c at e = ap (λ (x : Complaint). x.end) e

-- by form alone, nothing is said of heads
pub form_count : (at : ℕ) (m : Major) (w : Width) (n : ℕ) (c : Complaint) → OfCount form at m w n c → ⊥
form_count at m Indefinite n c h = cc h.0
form_count at m _ n c h = cc h.0

mutual
  -- after the first head
  pub of_kind : (s : Spelling) (at : ℕ) (c : Complaint) → OfKinds at s c → IsWithin (at + length (head_of s)) (at + length (spell s)) c
  of_kind (array w ss) at c (inr h) = wider (of_kind_in ss _ c h) (omega arith) (simp length-append (omega arith))
  of_kind (a_map w es) at c (inr h) = wider (of_kind_entries es [] _ c h) (omega arith) (simp length-append (omega arith))
  of_kind (tag w n s) at c (inr h) = wider (of_kind s _ c h) (omega arith) (simp length-append (omega arith))
  of_kind (array w ss) at c (inl h) = absurd (form_count at Array w (spellings_count ss) c h)
  of_kind (a_map w es) at c (inl h) = absurd (form_count at Map w (entries_count es) c h)
  of_kind (tag w n s) at c (inl h) = absurd (cc h.0)
  of_kind s at c h = absurd (none_by_form at s c h)

  pub of_kind_in : (ss : Spellings) (at : ℕ) (c : Complaint) → ComplainsInBy form OfKind at ss c → IsWithin at (at + length (spell_all ss)) c
  of_kind_in no_spellings at c h = absurd h
  of_kind_in (a_spelling s ss) at c (inl h) = wider (of_kind s at c h) (omega arith) (simp length-append (omega arith))
  of_kind_in (a_spelling s ss) at c (inr h) = wider (of_kind_in ss _ c h) (omega arith) (simp length-append (omega arith))

  pub of_kind_entries : (es : SpelledEntries) (before : List Spelling) (at : ℕ) (c : Complaint) → ComplainsInEntriesBy form OfKind at before es c → IsWithin at (at + length (spell_entries es)) c
  of_kind_entries no_entries before at c h = absurd h
  of_kind_entries (entry k v es) before at c (inl h) = wider (of_kind k at c h) (omega arith) (simp length-append (omega arith))
  of_kind_entries (entry k v es) before at c (inr (inl h)) =
      let one : IsWithin at (at + 1) c = record { is = h.1 ∙ sym (ap (λ (x : Complaint). complaint (x.place + 1) x.place KeyKind) h.1); later = omega (arith, kind_end c at h.1); within = omega (arith, kind_end c at h.1) } in
      wider one (omega arith) (simp length-append (omega (arith, length_spell k)))
  of_kind_entries (entry k v es) before at c (inr (inr (inl h))) = wider (of_kind v _ c h) (omega arith) (simp length-append (omega arith))
  of_kind_entries (entry k v es) before at c (inr (inr (inr h))) = wider (of_kind_entries es (k ∷ before) _ c h) (omega arith) (simp length-append (omega arith))

-- those of an array or a map end within its members
pub of_kind_array : (w : Width) (ss : Spellings) (at : ℕ) (c : Complaint) → OfKinds at (array w ss) c → c.end ≤ at + length (head Array w (spellings_count ss) ++ spell_all ss)
of_kind_array w ss at c (inl h) = absurd (form_count at Array w (spellings_count ss) c h)
of_kind_array w ss at c (inr h) = omega (arith, (of_kind_in ss _ c h).within, length-append (head Array w (spellings_count ss)) (spell_all ss))

pub of_kind_map : (w : Width) (es : SpelledEntries) (at : ℕ) (c : Complaint) → OfKinds at (a_map w es) c → c.end ≤ at + length (head Map w (entries_count es) ++ spell_entries es)
of_kind_map w es at c (inl h) = absurd (form_count at Map w (entries_count es) c h)
of_kind_map w es at c (inr h) = omega (arith, (of_kind_entries es [] _ c h).within, length-append (head Map w (entries_count es)) (spell_entries es))

-- two that end at one offset are one
pub one_kind : (s : Spelling) (at : ℕ) (c e : Complaint) → c.end ≡ e.end → OfKinds at s c → OfKinds at s e → c ≡ e
one_kind s at c e f h i =
    let a = (of_kind s at c h).is in
    let b = (of_kind s at e i).is in
    let ends : c.place + 1 ≡ e.place + 1 = sym (ap (λ (x : Complaint). x.end) a) ∙ f ∙ ap (λ (x : Complaint). x.end) b in
    let place : c.place ≡ e.place = omega (arith, ends) in
    a ∙ ap (λ (n : ℕ). complaint (n + 1) n KeyKind) place ∙ sym b

-- Two items that start with p have the same within p.
pub same_kinds : (d : ℕ) (s t : Spelling) (p a b : List ℕ) → IsItem d s (p ++ a) → IsItem d t (p ++ b) → (c : Complaint) → c.end ≤ length p → OfKinds 0 s c → OfKinds 0 t c
same_kinds d s t p a b i j =
    same_by OfKind (λ at before k c h. omega (arith, kind_end c at h.1))
    (λ k m x y q both at before c l h. ((λ z. h.0 (kind_too k m x y q both (omega (arith, kind_end c at h.1, l)) z)), h.1))
    d s t p a b i j form
