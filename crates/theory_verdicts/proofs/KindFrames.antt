-- Complaints on the kinds of keys over the open containers: where those of the whole end, and which are the item's.
use Rattle.std.proofs.Common.{ℕ, suc, ◌+◌, ◌≡◌, ◌<◌, ◌≤◌, ◌⊎◌, ◌↔◌, List, [], ◌∷◌, ◌++◌, length, refl, sym, ap, ◌∙◌, arith, subst, inl, inr, length-append, append_assoc, append-nil, Option}
use Rattle.cbor_head.specs.Prelude.{head, IsIntegerOrText, Spelling, spell, spell_all, spell_entries, spellings_count, entries_count, IsSpelled, depth, value_of, IsItem, Complaint, complaint, form, OfKind, OfKinds, Rules, Bounds, IsBeginning}
use Rattle.cbor_head.specs.declared.major.Major.TheVariants.{Array, Map, Tag}
use Rattle.cbor_head.specs.{declared.reason.Reason.TheVariants.KeyKind, Laws.StartsWith, declared.reason.Refusal.Refusal}
use Rattle.theory_values.proofs.KeyKinds.{kind_end, form_count, of_kind, of_kind_in, of_kind_entries}
use Rattle.theory_values.proofs.KeyKinds.{same_kinds}
use Rattle.theory_values.proofs.ReadLaws.{length_head, length_spell}
use Rattle.theory_verdicts.specs.Frame.{Frame, a_member, a_key, a_content, tagged, plug, before, following, OfPrefixBy, OfKeyAtBy, OfBackBy}
use Rattle.theory_verdicts.specs.Kinds.{IsKeyFrame, IsKeyExpected, plug_all, AsksForKinds, KeepsToKinds}
use Rattle.theory_verdicts.proofs.Frames.{spell_plug, spelled_plug, depth_plug, plug_split, plug_item}
use Rattle.theory_verdicts.specs.Reading.{IsMemory, IsReached, IsUndecided, HasCause}
use Rattle.theory_verdicts.specs.OpenMaps.{before_all, ArePath}

-- ---- of one container

-- about the item as a key, which begins at this offset
abbrev pub IsOnKey : ℕ → Spelling → Complaint → Type 0
IsOnKey at s c = OfKind at [] s c

kind_before : (f : Frame) (at : ℕ) (c : Complaint) → OfPrefixBy form OfKind at f c → c.end ≤ at + length (before f)
kind_before (a_member w a b) at c (inl h) = absurd (form_count at Array w _ c h)
kind_before (a_member w a b) at c (inr h) = omega (arith, (of_kind_in a _ c h).within, length-append (head Array w (spellings_count a + suc (spellings_count b))) (spell_all a))
kind_before (a_key w a v b) at c (inl h) = absurd (form_count at Map w _ c h)
kind_before (a_key w a v b) at c (inr h) = omega (arith, (of_kind_entries a [] _ c h).within, length-append (head Map w (entries_count a + suc (entries_count b))) (spell_entries a))
kind_before (a_content w a k b) at c h =
    let hd = head Map w (entries_count a + suc (entries_count b)) in
    let size = length-append (hd ++ spell_entries a) (spell k) in
    elim h [
      | inl x ↦ absurd (form_count at Map w _ c x)
      | inr (inl x) ↦ omega (arith, (of_kind_entries a [] _ c x).within, length-append hd (spell_entries a), size)
      | inr (inr (inl x)) ↦ omega (arith, (of_kind k _ c x).within, size)
      | inr (inr (inr x)) ↦ omega (arith, kind_end c (at + length (hd ++ spell_entries a)) x.1, size, length_spell k)
    ]
kind_before (tagged w n) at c h = absurd (cc h.0)

kind_after : (f : Frame) (s : Spelling) (at : ℕ) (c : Complaint) → OfBackBy form OfKind at f s c → at < c.end
kind_after (a_member w a b) s at c h = (of_kind_in b at c h).later
kind_after (a_key w a v b) s at c (inl h) = omega (arith, (of_kind v at c h).later)
kind_after (a_key w a v b) s at c (inr h) = omega (arith, (of_kind_entries b _ _ c h).later)
kind_after (a_content w a k b) s at c h = (of_kind_entries b _ at c h).later
kind_after (tagged w n) s at c h = absurd h

-- a complaint of the container ends with what comes before the item, is about it as a key, is its own, or ends after it
kind_split : (f : Frame) (s : Spelling) (at to : ℕ) (c : Complaint) → to ≡ at + length (before f) → OfKinds at (plug f s) c → (c.end ≤ to) ⊎ (IsKeyFrame f × IsOnKey to s c) ⊎ OfKinds to s c ⊎ (to + length (spell s) < c.end)
kind_split f s at to c e h = elim (plug_split f s form OfKind at to c e h) [
  | inl x ↦ inl (omega (arith, kind_before f at c x, e))
  | inr (inl x) ↦ inr (inr (inl x))
  | inr (inr (inl x)) ↦ inr (inl (on_key f x))
  | inr (inr (inr x)) ↦ inr (inr (inr (kind_after f s (to + length (spell s)) c x)))
]
  where
    on_key : (f : Frame) → OfKeyAtBy form OfKind to f s c → IsKeyFrame f × IsOnKey to s c
    on_key (a_key w a v b) x = (tt, x)
    on_key _ x = absurd x

-- and one about it as a key is of the container
kind_on_key : (f : Frame) (s : Spelling) (at to : ℕ) (c : Complaint) → to ≡ at + length (before f) → IsKeyFrame f → IsOnKey to s c → OfKinds at (plug f s) c
kind_on_key (a_key w a v b) s at to c e k h = plug_item (a_key w a v b) s form OfKind at to c e (inr h)
kind_on_key _ s at to c e k h = absurd k

-- ---- of all containers

before_some : (f : Frame) → 1 ≤ length (before f)
before_some (a_member w a b) = omega (arith, length_head Array w (spellings_count a + suc (spellings_count b)), length-append {A = ℕ})
before_some (a_key w a v b) = omega (arith, length_head Map w (entries_count a + suc (entries_count b)), length-append {A = ℕ})
before_some (a_content w a k b) = omega (arith, length_head Map w (entries_count a + suc (entries_count b)), length-append {A = ℕ})
before_some (tagged w n) = length_head Tag w n

-- their bytes around the item
pub spell_along : (fs : List Frame) (s : Spelling) → (rest : List ℕ) × (spell (plug_all fs s) ≡ before_all fs ++ (spell s ++ rest))
spell_along [] s = ([], sym (append-nil (spell s)))
spell_along (f ∷ fs) s =
    let r = spell_along fs s in (
      r.0 ++ following f,
      spell_plug f (plug_all fs s) ∙ ap (λ (x : List ℕ). before f ++ (x ++ following f)) r.1
          ∙ ap (λ (x : List ℕ). before f ++ x) (append_assoc (before_all fs) (spell s ++ r.0) (following f) ∙ ap (λ (x : List ℕ). before_all fs ++ x) (append_assoc (spell s) r.0 (following f)))
          ∙ sym (append_assoc (before f) (before_all fs) (spell s ++ (r.0 ++ following f))),
    )

pub item_along : (fs : List Frame) (s : Spelling) (d : ℕ) → ArePath d fs → IsSpelled s → depth s ≤ d → IsSpelled (plug_all fs s) × (depth (plug_all fs s) ≤ length fs + d)
item_along [] s d h i l = (i, omega (arith, l))
item_along (f ∷ fs) s d h i l =
    let r = item_along fs s d h.2 i l in
    (spelled_plug f (plug_all fs s) h.0 r.0, omega (arith, depth_plug f (plug_all fs s), r.1, h.1))

-- a complaint of the whole ends with what comes before the item, is about it as a key, is its own, or ends after it
pub kind_along : (fs : List Frame) (s : Spelling) (at to : ℕ) (c : Complaint) → to ≡ at + length (before_all fs) → OfKinds at (plug_all fs s) c
    → (c.end ≤ to) ⊎ (IsKeyExpected fs × IsOnKey to s c) ⊎ OfKinds to s c ⊎ (to + length (spell s) < c.end)
kind_along [] s at to c e h = let f : at ≡ to = omega (arith, e) in inr (inr (inl (subst (λ (n : ℕ). OfKinds n s c) f h)))
kind_along (f ∷ []) s at to c e h = kind_split f s at to c (omega (arith, e, length-append (before f) [])) h
kind_along (f ∷ g ∷ fs) s at to c e h =
    let inner = plug_all (g ∷ fs) s in
    let next = at + length (before f) in
    let further = length-append (before f) (before_all (g ∷ fs)) in
    let some = length-append (before g) (before_all fs) in
    elim (kind_split f inner at next c refl h) [
      | inl x ↦ inl (omega (arith, x, e, further))
      | inr (inl x) ↦ inl (omega (arith, kind_end c next x.1.1, e, further, some, before_some g))
      | inr (inr (inl x)) ↦ kind_along (g ∷ fs) s next to c (omega (arith, e, further)) x
      | inr (inr (inr x)) ↦
          let r = spell_along (g ∷ fs) s in
          inr (inr (inr (omega (arith, x, e, further, ap length r.1, length-append (before_all (g ∷ fs)) (spell s ++ r.0), length-append (spell s) r.0))))
    ]

-- and a complaint about the item as a key is one of the whole
pub key_along : (fs : List Frame) (s : Spelling) (at to : ℕ) (c : Complaint) → to ≡ at + length (before_all fs) → IsKeyExpected fs → IsOnKey to s c → OfKinds at (plug_all fs s) c
key_along [] s at to c e expected h = absurd expected
key_along (f ∷ []) s at to c e expected h = kind_on_key f s at to c (omega (arith, e, length-append (before f) [])) expected h
key_along (f ∷ g ∷ fs) s at to c e expected h =
    let next = at + length (before f) in
    plug_item f (plug_all (g ∷ fs) s) form OfKind at next c refl (inl (key_along (g ∷ fs) s next to c (omega (arith, e, length-append (before f) (before_all (g ∷ fs)))) expected h))

-- ---- the innermost is the last

pub expected_last : (fs : List Frame) (f : Frame) → IsKeyExpected (fs ++ f ∷ []) ↔ IsKeyFrame f
expected_last [] f = (λ h. h, λ h. h)
expected_last (g ∷ []) f = (λ h. h, λ h. h)
expected_last (g ∷ k ∷ fs) f = expected_last (k ∷ fs) f

-- ---- no key of another kind begins in the bytes so far, from one event to the next

-- no key of another kind begins in the bytes before what refuses them
abbrev pub KeepsBefore : (r : Rules) (b : Bounds) (bytes : List ℕ) (to : Option (List ℕ)) (f : Refusal) → (IsMemory f × IsReached b bytes × IsUndecided r b [] [] bytes) ⊎ HasCause r b [] [] bytes to f → Type 0
KeepsBefore r b bytes to f (inl m) = KeepsToKinds b r m.2.p
KeepsBefore r b bytes to f (inr h) = KeepsToKinds b r h.p

-- no bytes have any key
pub keeps_start : (limits : Bounds) (r : Rules) → KeepsToKinds limits r []
keeps_start limits r asked s c begins h l = omega (arith, l, (of_kind s 0 c h).later)

-- where one item that starts with these bytes has none, no item has
pub keeps_of_one : (limits : Bounds) (r : Rules) (t : List ℕ) (s : Spelling) → StartsWith limits.depth s t → (AsksForKinds limits r → (c : Complaint) → OfKinds 0 s c → c.end ≤ length t → ⊥) → KeepsToKinds limits r t
keeps_of_one limits r t s i none asked o c j h l = none asked c (same_kinds limits.depth o s t j.0 i.0 j.1 i.1 c l h) l

-- a prefix of bytes that an item starts with
pub keeps_prefix : (limits : Bounds) (r : Rules) (p q : List ℕ) → IsBeginning limits.depth (p ++ q) → KeepsToKinds limits r (p ++ q) → KeepsToKinds limits r p
keeps_prefix limits r p q b keeps =
    let i : IsItem limits.depth b.0 (p ++ (q ++ b.1)) = subst (IsItem limits.depth b.0) (append_assoc p q b.1) b.2 in
    keeps_of_one limits r p b.0 (q ++ b.1, i) (λ asked c h l. keeps asked b.0 c (b.1, b.2) h (omega (arith, l, length-append p q)))

-- Containers around an item that is expected, the outermost first: the bytes before it in them, and whether it is a key.
pub record IsAround (d left : ℕ) (fs : List Frame) (before : List ℕ) (Expected : Type 0) : Type 0 where
  pub levels : length fs + left ≡ d
  pub path : ArePath left fs
  pub before_is : before_all fs ≡ before
  pub expected : IsKeyExpected fs ↔ Expected

pub around_frames : (d left : ℕ) (fs : List Frame) (before : List ℕ) → length fs + left ≡ d → ArePath left fs → before_all fs ≡ before → IsAround d left fs before (IsKeyExpected fs)
around_frames d left fs before levels path is = record { levels = levels; path = path; before_is = is; expected = (λ h. h, λ h. h) }

module _ {left : ℕ} {fs : List Frame} {before : List ℕ} {Expected : Type 0} (limits : Bounds) (r : Rules) (around : IsAround limits.depth left fs before Expected) where
  at_item : length before ≡ 0 + length (before_all fs)
  at_item = omega (arith, ap length around.before_is)

  -- the whole starts with what comes before the item, and a prefix of the item
  starts_along : (s : Spelling) (y z : List ℕ) → IsSpelled s → depth s ≤ left → spell s ≡ y ++ z → StartsWith limits.depth (plug_all fs s) (before ++ y)
  starts_along s y z h l e =
      let r = spell_along fs s in
      let i = item_along fs s left around.path h l in (
        z ++ r.0,
        record {
          spelled = i.0;
          within = omega (arith, i.1, around.levels);
          bytes_are = r.1 ∙ ap (λ (x : List ℕ). x ++ (spell s ++ r.0)) around.before_is ∙ ap (λ (x : List ℕ). before ++ (x ++ r.0)) e ∙ ap (λ (x : List ℕ). before ++ x) (append_assoc y z r.0) ∙ sym (append_assoc before y (z ++ r.0));
        },
      )

  -- after a prefix of the item that is expected, if no key within it has begun: if it is a key, it is of a kind that is allowed
  pub keeps_on : (s : Spelling) (y z : List ℕ) → IsSpelled s → depth s ≤ left → spell s ≡ y ++ z → (AsksForKinds limits r → Expected → 0 < length y → IsIntegerOrText (value_of s))
      → ((c : Complaint) → OfKinds (length before) s c → length before + length y < c.end) → KeepsToKinds limits r before → KeepsToKinds limits r (before ++ y)
  keeps_on s y z h l e kind later keeps =
      let size = length-append before y in
      let whole = ap length e ∙ length-append y z in
      let starts = subst (StartsWith limits.depth (plug_all fs s)) (append-nil before) (starts_along s [] (spell s) h l refl) in
      keeps_of_one limits r (before ++ y) (plug_all fs s) (starts_along s y z h l e)
      (λ asked c o m. elim (kind_along fs s 0 (length before) c at_item o) [
        | inl x ↦ keeps asked (plug_all fs s) c starts o x
        | inr (inl x) ↦ x.1.0 (kind asked (around.expected.0 x.0) (omega (arith, kind_end c (length before) x.1.1, m, size)))
        | inr (inr (inl x)) ↦ omega (arith, later c x, m, size)
        | inr (inr (inr x)) ↦ omega (arith, x, m, size, whole)
      ])

  -- more of an item comes, of which some was read: no key within it begins there
  pub keeps_more : (s : Spelling) (x y z : List ℕ) → IsSpelled s → depth s ≤ left → spell s ≡ (x ++ y) ++ z → 0 < length x
      → ((c : Complaint) → OfKinds (length before) s c → (c.end ≤ length before + length x) ⊎ (length before + length (x ++ y) < c.end)) → KeepsToKinds limits r (before ++ x) → KeepsToKinds limits r (before ++ (x ++ y))
  keeps_more s x y z h l e some apart keeps =
      let size = length-append before x in
      let more = length-append before (x ++ y) in
      let whole = ap length e ∙ length-append (x ++ y) z in
      let starts = starts_along s x (y ++ z) h l (e ∙ append_assoc x y z) in
      keeps_of_one limits r (before ++ (x ++ y)) (plug_all fs s) (starts_along s (x ++ y) z h l e)
      (λ asked c o m. keeps asked (plug_all fs s) c starts o (elim (kind_along fs s 0 (length before) c at_item o) [
        | inl k ↦ omega (arith, k, size)
        | inr (inl k) ↦ omega (arith, kind_end c (length before) k.1.1, some, size)
        | inr (inr (inl k)) ↦ elim (apart c k) [ inl q ↦ omega (arith, q, size) | inr q ↦ absurd (omega (arith, q, m, more)) ]
        | inr (inr (inr k)) ↦ absurd (omega (arith, k, m, more, whole))
      ]))

  -- a container is closed: its keys began before
  pub keeps_closed : (s : Spelling) (y z : List ℕ) → IsSpelled s → depth s ≤ left → spell s ≡ y ++ z → 0 < length y → ((c : Complaint) → OfKinds (length before) s c → c.end ≤ length before + length y)
      → KeepsToKinds limits r (before ++ y) → KeepsToKinds limits r (before ++ spell s)
  keeps_closed s y z h l e some within keeps =
      subst (λ (x : List ℕ). KeepsToKinds limits r (before ++ x)) (sym e) (keeps_more s y z [] h l (e ∙ sym (append-nil (y ++ z))) some (λ c o. inl (within c o)) keeps)

  -- a key is expected, and another item begins: what kind_decides needs
  pub other_key : (s : Spelling) (x : ℕ) (z : List ℕ) → IsSpelled s → depth s ≤ left → spell s ≡ (x ∷ []) ++ z → Expected → ¬ IsIntegerOrText (value_of s)
      → (o : Spelling) × StartsWith limits.depth o (before ++ x ∷ []) × OfKinds 0 o (complaint (length before + 1) (length before) KeyKind)
  other_key s x z h l e expected other = (plug_all fs s, starts_along s (x ∷ []) z h l e, key_along fs s 0 (length before) _ at_item (around.expected.1 expected) (other, refl))
