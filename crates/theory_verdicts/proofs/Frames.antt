-- What a container with an item in it is, by its parts.
use Rattle.std.proofs.Common.{ℕ, suc, max, ◌+◌, ◌≡◌, ◌<◌, ◌⊎◌, List, [], ◌∷◌, ◌++◌, length, refl, sym, ap, ◌∙◌, arith, subst, inl, inr, length-append, append_assoc, append-nil}
use Rattle.cbor_head.specs.Prelude.{head, Spelling, Spellings, SpelledEntries, no_spellings, a_spelling, no_entries, entry, spell, spell_all, spell_entries, spellings_count, entries_count, break_of, IsSpelled, AreSpelled, AreEntriesSpelled, HoldsOrIndefinite, depth, depth_all, depth_entries, Rules, Complaint, ComplainsBy, ComplainsInBy, ComplainsInEntriesBy}
use Rattle.cbor_head.specs.declared.major.Major.TheVariants.{Array, Map, Tag}
use Rattle.theory_values.proofs.Agree.{key_end, later_in, later_entries}
use Rattle.theory_values.proofs.OneFirst.{after_head}
use Rattle.theory_verdicts.specs.Frame.{Frame, a_member, a_key, a_content, tagged, with_all, with_entries, keys_onto, plug, before, following, IsFrame, depth_beside, OfPrefixBy, OfKeyAtBy, OfBackBy, OfKeyAt, OfBack}

-- ---- members of two lists

pub count_with : (ss ts : Spellings) → spellings_count (with_all ss ts) ≡ spellings_count ss + spellings_count ts
count_with no_spellings ts = omega arith
count_with (a_spelling s ss) ts = omega (arith, count_with ss ts)

pub spell_with : (ss ts : Spellings) → spell_all (with_all ss ts) ≡ spell_all ss ++ spell_all ts
spell_with no_spellings ts = refl
spell_with (a_spelling s ss) ts = ap (λ (x : List ℕ). spell s ++ x) (spell_with ss ts) ∙ sym (append_assoc (spell s) (spell_all ss) (spell_all ts))

pub spelled_with : (ss ts : Spellings) → AreSpelled ss → AreSpelled ts → AreSpelled (with_all ss ts)
spelled_with no_spellings ts h i = i
spelled_with (a_spelling s ss) ts h i = (h.0, spelled_with ss ts h.1 i)

pub depth_with : (ss ts : Spellings) → depth_all (with_all ss ts) ≡ max (depth_all ss) (depth_all ts)
depth_with no_spellings ts = omega arith
depth_with (a_spelling s ss) ts = omega (arith, depth_with ss ts)

pub entries_with : (es fs : SpelledEntries) → entries_count (with_entries es fs) ≡ entries_count es + entries_count fs
entries_with no_entries fs = omega arith
entries_with (entry k v es) fs = omega (arith, entries_with es fs)

pub spell_entries_with : (es fs : SpelledEntries) → spell_entries (with_entries es fs) ≡ spell_entries es ++ spell_entries fs
spell_entries_with no_entries fs = refl
spell_entries_with (entry k v es) fs = ap (λ (x : List ℕ). (spell k ++ spell v) ++ x) (spell_entries_with es fs) ∙ sym (append_assoc (spell k ++ spell v) (spell_entries es) (spell_entries fs))

pub spelled_entries_with : (es fs : SpelledEntries) → AreEntriesSpelled es → AreEntriesSpelled fs → AreEntriesSpelled (with_entries es fs)
spelled_entries_with no_entries fs h i = i
spelled_entries_with (entry k v es) fs h i = (h.0, h.1, spelled_entries_with es fs h.2 i)

pub depth_entries_with : (es fs : SpelledEntries) → depth_entries (with_entries es fs) ≡ max (depth_entries es) (depth_entries fs)
depth_entries_with no_entries fs = omega arith
depth_entries_with (entry k v es) fs = omega (arith, depth_entries_with es fs)

-- ---- complaints of two lists

pub members_split : (ss ts : Spellings) (r : Rules) (K : ℕ → List Spelling → Spelling → Complaint → Type 0) (at to : ℕ) (c : Complaint) → to ≡ at + length (spell_all ss) → ComplainsInBy r K at (with_all ss ts) c → ComplainsInBy r K at ss c ⊎ ComplainsInBy r K to ts c
members_split no_spellings ts r K at to c e h = let f : at ≡ to = omega arith in inr (subst (λ (n : ℕ). ComplainsInBy r K n ts c) f h)
members_split (a_spelling s ss) ts r K at to c e (inl h) = inl (inl h)
members_split (a_spelling s ss) ts r K at to c e (inr h) =
    elim (members_split ss ts r K (at + length (spell s)) to c (omega (arith, e, length-append (spell s) (spell_all ss))) h) [ inl x ↦ inl (inr x) | inr y ↦ inr y ]

pub members_right : (ss ts : Spellings) (r : Rules) (K : ℕ → List Spelling → Spelling → Complaint → Type 0) (at to : ℕ) (c : Complaint) → to ≡ at + length (spell_all ss) → ComplainsInBy r K to ts c → ComplainsInBy r K at (with_all ss ts) c
members_right no_spellings ts r K at to c e h = let f : to ≡ at = omega arith in subst (λ (n : ℕ). ComplainsInBy r K n ts c) f h
members_right (a_spelling s ss) ts r K at to c e h = inr (members_right ss ts r K (at + length (spell s)) to c (omega (arith, e, length-append (spell s) (spell_all ss))) h)

pub pair_size : (k v : Spelling) (es : SpelledEntries) → length (spell_entries (entry k v es)) ≡ length (spell k) + length (spell v) + length (spell_entries es)
pair_size k v es = omega (arith, length-append (spell k ++ spell v) (spell_entries es), length-append (spell k) (spell v))

pub entries_split : (es fs : SpelledEntries) (ks : List Spelling) (r : Rules) (K : ℕ → List Spelling → Spelling → Complaint → Type 0) (at to : ℕ) (c : Complaint) → to ≡ at + length (spell_entries es) → ComplainsInEntriesBy r K at ks (with_entries es fs) c
    → ComplainsInEntriesBy r K at ks es c ⊎ ComplainsInEntriesBy r K to (keys_onto ks es) fs c
entries_split no_entries fs ks r K at to c e h = let f : at ≡ to = omega arith in inr (subst (λ (n : ℕ). ComplainsInEntriesBy r K n ks fs c) f h)
entries_split (entry k v es) fs ks r K at to c e (inl h) = inl (inl h)
entries_split (entry k v es) fs ks r K at to c e (inr (inl h)) = inl (inr (inl h))
entries_split (entry k v es) fs ks r K at to c e (inr (inr (inl h))) = inl (inr (inr (inl h)))
entries_split (entry k v es) fs ks r K at to c e (inr (inr (inr h))) =
    elim (entries_split es fs (k ∷ ks) r K (at + length (spell k) + length (spell v)) to c (omega (arith, e, pair_size k v es)) h) [ inl x ↦ inl (inr (inr (inr x))) | inr y ↦ inr y ]

pub entries_right : (es fs : SpelledEntries) (ks : List Spelling) (r : Rules) (K : ℕ → List Spelling → Spelling → Complaint → Type 0) (at to : ℕ) (c : Complaint) → to ≡ at + length (spell_entries es) → ComplainsInEntriesBy r K to (keys_onto ks es) fs c → ComplainsInEntriesBy r K at ks (with_entries es fs) c
entries_right no_entries fs ks r K at to c e h = let f : to ≡ at = omega arith in subst (λ (n : ℕ). ComplainsInEntriesBy r K n ks fs c) f h
entries_right (entry k v es) fs ks r K at to c e h =
    inr (inr (inr (entries_right es fs (k ∷ ks) r K (at + length (spell k) + length (spell v)) to c (omega (arith, e, pair_size k v es)) h)))

-- ---- bytes, validity and depth of what is plugged

four : (h a s b c : List ℕ) → (h ++ (a ++ (s ++ b))) ++ c ≡ (h ++ a) ++ (s ++ (b ++ c))
four h a s b c = append_assoc h (a ++ (s ++ b)) c ∙ ap (λ (x : List ℕ). h ++ x) (append_assoc a (s ++ b) c ∙ ap (λ (x : List ℕ). a ++ x) (append_assoc s b c)) ∙ sym (append_assoc h a (s ++ (b ++ c)))

pub spell_plug : (f : Frame) (s : Spelling) → spell (plug f s) ≡ before f ++ (spell s ++ following f)
spell_plug (a_member w a b) s =
    ap (λ (n : ℕ). head Array w n ++ spell_all (with_all a (a_spelling s b)) ++ break_of w) (count_with a (a_spelling s b))
    ∙ ap (λ (x : List ℕ). head Array w (spellings_count a + suc (spellings_count b)) ++ x ++ break_of w) (spell_with a (a_spelling s b))
    ∙ four (head Array w (spellings_count a + suc (spellings_count b))) (spell_all a) (spell s) (spell_all b) (break_of w)
spell_plug (a_key w a v b) s =
    ap (λ (n : ℕ). head Map w n ++ spell_entries (with_entries a (entry s v b)) ++ break_of w) (entries_with a (entry s v b))
    ∙ ap (λ (x : List ℕ). head Map w (entries_count a + suc (entries_count b)) ++ x ++ break_of w) (spell_entries_with a (entry s v b) ∙ ap (λ (x : List ℕ). spell_entries a ++ x) (append_assoc (spell s) (spell v) (spell_entries b)))
    ∙ four (head Map w (entries_count a + suc (entries_count b))) (spell_entries a) (spell s) (spell v ++ spell_entries b) (break_of w)
spell_plug (a_content w a k b) s =
    ap (λ (n : ℕ). head Map w n ++ spell_entries (with_entries a (entry k s b)) ++ break_of w) (entries_with a (entry k s b))
    ∙ ap (λ (x : List ℕ). head Map w (entries_count a + suc (entries_count b)) ++ x ++ break_of w)
    (spell_entries_with a (entry k s b) ∙ ap (λ (x : List ℕ). spell_entries a ++ x) (append_assoc (spell k) (spell s) (spell_entries b)) ∙ sym (append_assoc (spell_entries a) (spell k) (spell s ++ spell_entries b)))
    ∙ four (head Map w (entries_count a + suc (entries_count b))) (spell_entries a ++ spell k) (spell s) (spell_entries b) (break_of w)
    ∙ ap (λ (x : List ℕ). x ++ (spell s ++ (spell_entries b ++ break_of w))) (sym (append_assoc (head Map w (entries_count a + suc (entries_count b))) (spell_entries a) (spell k)))
spell_plug (tagged w n) s = ap (λ (x : List ℕ). head Tag w n ++ x) (sym (append-nil (spell s)))

pub spelled_plug : (f : Frame) (s : Spelling) → IsFrame f → IsSpelled s → IsSpelled (plug f s)
spelled_plug (a_member w a b) s h i = (subst (HoldsOrIndefinite w) (sym (count_with a (a_spelling s b))) h.0, spelled_with a (a_spelling s b) h.1 (i, h.2))
spelled_plug (a_key w a v b) s h i = (subst (HoldsOrIndefinite w) (sym (entries_with a (entry s v b))) h.0, spelled_entries_with a (entry s v b) h.1 (i, h.2, h.3))
spelled_plug (a_content w a k b) s h i = (subst (HoldsOrIndefinite w) (sym (entries_with a (entry k s b))) h.0, spelled_entries_with a (entry k s b) h.1 (h.2, i, h.3))
spelled_plug (tagged w n) s h i = (h, i)

pub depth_plug : (f : Frame) (s : Spelling) → depth (plug f s) ≡ suc (max (depth s) (depth_beside f))
depth_plug (a_member w a b) s = omega (arith, depth_with a (a_spelling s b))
depth_plug (a_key w a v b) s = omega (arith, depth_entries_with a (entry s v b))
depth_plug (a_content w a k b) s = omega (arith, depth_entries_with a (entry k s b))
depth_plug (tagged w n) s = omega arith

-- ---- complaints of what is plugged

-- a complaint of the container is about what comes before the item, the item, the item as a key, or what follows
pub plug_split : (f : Frame) (s : Spelling) (r : Rules) (K : ℕ → List Spelling → Spelling → Complaint → Type 0) (at to : ℕ) (c : Complaint) → to ≡ at + length (before f) → ComplainsBy r K at (plug f s) c
    → OfPrefixBy r K at f c ⊎ ComplainsBy r K to s c ⊎ OfKeyAtBy r K to f s c ⊎ OfBackBy r K (to + length (spell s)) f s c
plug_split (a_member w a b) s r K at to c e h =
    let hd = head Array w (spellings_count a + suc (spellings_count b)) in
    let g = rw (count_with a (a_spelling s b)) at h in
    elim g [
      | inl x ↦ inl (inl x)
      | inr y ↦ elim (members_split a (a_spelling s b) r K (at + length hd) to c (omega (arith, e, length-append hd (spell_all a))) y) [ inl x ↦ inl (inr x) | inr (inl x) ↦ inr (inl x) | inr (inr x) ↦ inr (inr (inr x)) ]
    ]
plug_split (a_key w a v b) s r K at to c e h =
    let hd = head Map w (entries_count a + suc (entries_count b)) in
    let g = rw (entries_with a (entry s v b)) at h in
    elim g [
      | inl x ↦ inl (inl x)
      | inr y ↦ elim (entries_split a (entry s v b) [] r K (at + length hd) to c (omega (arith, e, length-append hd (spell_entries a))) y) [
        | inl x ↦ inl (inr x)
        | inr (inl x) ↦ inr (inl x)
        | inr (inr (inl x)) ↦ inr (inr (inl x))
        | inr (inr (inr x)) ↦ inr (inr (inr x))
      ]
    ]
plug_split (a_content w a k b) s r K at to c e h =
    let hd = head Map w (entries_count a + suc (entries_count b)) in
    let there : at + length (hd ++ spell_entries a) + length (spell k) ≡ to = omega (arith, e, length-append (hd ++ spell_entries a) (spell k)) in
    let g = rw (entries_with a (entry k s b)) at h in
    elim g [
      | inl x ↦ inl (inl x)
      | inr y ↦ elim (entries_split a (entry k s b) [] r K (at + length hd) (at + length (hd ++ spell_entries a)) c (omega (arith, length-append hd (spell_entries a))) y) [
        | inl x ↦ inl (inr (inl x))
        | inr (inl x) ↦ inl (inr (inr (inl x)))
        | inr (inr (inl x)) ↦ inl (inr (inr (inr x)))
        | inr (inr (inr (inl x))) ↦ inr (inl (subst (λ (m : ℕ). ComplainsBy r K m s c) there x))
        | inr (inr (inr (inr x))) ↦ inr (inr (inr (subst (λ (m : ℕ). ComplainsInEntriesBy r K (m + length (spell s)) (k ∷ keys_onto [] a) b c) there x)))
      ]
    ]
plug_split (tagged w n) s r K at to c e (inl h) = inl h
plug_split (tagged w n) s r K at to c e (inr h) = inr (inl (subst (λ (m : ℕ). ComplainsBy r K m s c) (sym e) h))

-- and a complaint of the item is one of the container
pub plug_item : (f : Frame) (s : Spelling) (r : Rules) (K : ℕ → List Spelling → Spelling → Complaint → Type 0) (at to : ℕ) (c : Complaint) → to ≡ at + length (before f) → ComplainsBy r K to s c ⊎ OfKeyAtBy r K to f s c → ComplainsBy r K at (plug f s) c
plug_item (a_member w a b) s r K at to c e (inl h) =
    let hd = head Array w (spellings_count a + suc (spellings_count b)) in
    rw (count_with a (a_spelling s b)) (inr (members_right a (a_spelling s b) r K (at + length hd) to c (omega (arith, e, length-append hd (spell_all a))) (inl h)))
plug_item (a_key w a v b) s r K at to c e h =
    let hd = head Map w (entries_count a + suc (entries_count b)) in
    let g : ComplainsInEntriesBy r K to (keys_onto [] a) (entry s v b) c = elim h [ inl x ↦ inl x | inr x ↦ inr (inl x) ] in
    rw (entries_with a (entry s v b)) (inr (entries_right a (entry s v b) [] r K (at + length hd) to c (omega (arith, e, length-append hd (spell_entries a))) g))
plug_item (a_content w a k b) s r K at to c e (inl h) =
    let hd = head Map w (entries_count a + suc (entries_count b)) in
    let there : to ≡ at + length (hd ++ spell_entries a) + length (spell k) = omega (arith, e, length-append (hd ++ spell_entries a) (spell k)) in
    rw (entries_with a (entry k s b)) (inr (entries_right a (entry k s b) [] r K (at + length hd) (at + length (hd ++ spell_entries a)) c (omega (arith, length-append hd (spell_entries a))) (inr (inr (inl (subst (λ (m : ℕ). ComplainsBy r K m s c) there h))))))
plug_item (tagged w n) s r K at to c e (inl h) = inr (subst (λ (m : ℕ). ComplainsBy r K m s c) e h)
plug_item _ s r K at to c e (inr h) = absurd h

-- what follows the item complains later
pub back_later : (f : Frame) (s : Spelling) (r : Rules) (at : ℕ) (c : Complaint) → OfBack r at f s c → at < c.end
back_later (a_member w a b) s r at c h = later_in b r at c h
back_later (a_key w a v b) s r at c (inl h) = after_head v r at c h
back_later (a_key w a v b) s r at c (inr h) = omega (arith, later_entries b (s ∷ keys_onto [] a) r (at + length (spell v)) c h)
back_later (a_content w a k b) s r at c h = later_entries b (k ∷ keys_onto [] a) r at c h
back_later (tagged w n) s r at c h = absurd h

pub key_at_end : (f : Frame) (s : Spelling) (r : Rules) (at : ℕ) (c : Complaint) → OfKeyAt r at f s c → c.end ≡ at + length (spell s)
key_at_end (a_key w a v b) s r at c h = key_end r.keys at (keys_onto [] a) s c h
key_at_end _ s r at c h = absurd h
