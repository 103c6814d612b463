-- Complaints on the completed keys of a map, apart from those within its pairs.
use Rattle.std.proofs.Common.{ℕ, suc, ◌+◌, ◌≡◌, ◌⊎◌, List, [], ◌∷◌, ◌++◌, length, refl, sym, subst, inl, inr}
use Rattle.cbor_head.specs.Prelude.{head, Spelling, SpelledEntries, no_entries, entry, spell, spell_entries, entries_count, Rules, Complaint, OfKey}
use Rattle.cbor_head.specs.declared.major.Major.TheVariants.{Map}
use Rattle.theory_values.specs.MemberComplaints.{ComplainsInEntries}
use Rattle.theory_verdicts.specs.Frame.{Frame, a_member, a_key, a_content, tagged, keys_onto, OfPrefix}
use Rattle.theory_verdicts.specs.OpenMaps.{Placed, placed, keys_at, open_keys, onto, OnKeys, ComplainsWithin, OfClosed}

-- ---- two lists of keys

pub on_keys_split : (xs ys : List Placed) (r : Rules) (ks : List Spelling) (c : Complaint) → OnKeys r ks (xs ++ ys) c → OnKeys r ks xs c ⊎ OnKeys r (onto ks xs) ys c
on_keys_split [] ys r ks c h = inr h
on_keys_split (x ∷ xs) ys r ks c (inl h) = inl (inl h)
on_keys_split (x ∷ xs) ys r ks c (inr h) = elim (on_keys_split xs ys r (x.key ∷ ks) c h) [ inl y ↦ inl (inr y) | inr y ↦ inr y ]

pub on_keys_left : (xs ys : List Placed) (r : Rules) (ks : List Spelling) (c : Complaint) → OnKeys r ks xs c → OnKeys r ks (xs ++ ys) c
on_keys_left [] ys r ks c h = absurd h
on_keys_left (x ∷ xs) ys r ks c (inl h) = inl h
on_keys_left (x ∷ xs) ys r ks c (inr h) = inr (on_keys_left xs ys r (x.key ∷ ks) c h)

pub on_keys_right : (xs ys : List Placed) (r : Rules) (ks : List Spelling) (c : Complaint) → OnKeys r (onto ks xs) ys c → OnKeys r ks (xs ++ ys) c
on_keys_right [] ys r ks c h = h
on_keys_right (x ∷ xs) ys r ks c h = inr (on_keys_right xs ys r (x.key ∷ ks) c h)

pub onto_keys : (es : SpelledEntries) (at : ℕ) (ks : List Spelling) → onto ks (keys_at at es) ≡ keys_onto ks es
onto_keys no_entries at ks = refl
onto_keys (entry k v es) at ks = onto_keys es (at + length (spell k) + length (spell v)) (k ∷ ks)

-- ---- complaints of pairs: within them, or on the keys

pub entries_apart : (es : SpelledEntries) (r : Rules) (at : ℕ) (ks : List Spelling) (c : Complaint) → ComplainsInEntries r at ks es c → ComplainsWithin r at es c ⊎ OnKeys r ks (keys_at at es) c
entries_apart no_entries r at ks c h = absurd h
entries_apart (entry k v es) r at ks c (inl h) = inl (inl h)
entries_apart (entry k v es) r at ks c (inr (inl h)) = inr (inl h)
entries_apart (entry k v es) r at ks c (inr (inr (inl h))) = inl (inr (inl h))
entries_apart (entry k v es) r at ks c (inr (inr (inr h))) =
    elim (entries_apart es r (at + length (spell k) + length (spell v)) (k ∷ ks) c h) [ inl x ↦ inl (inr (inr x)) | inr x ↦ inr (inr x) ]

-- and of what comes before an item in a container
pub prefix_apart : (f : Frame) (r : Rules) (at : ℕ) (c : Complaint) → OfPrefix r at f c → OfClosed r at f c ⊎ OnKeys r [] (open_keys at f) c
prefix_apart (a_member w a b) r at c h = inl h
prefix_apart (tagged w n) r at c h = inl h
prefix_apart (a_key w a v b) r at c (inl h) = inl (inl h)
prefix_apart (a_key w a v b) r at c (inr h) =
    elim (entries_apart a r (at + length (head Map w (entries_count a + suc (entries_count b)))) [] c h) [ inl x ↦ inl (inr x) | inr x ↦ inr x ]
prefix_apart (a_content w a k b) r at c (inl h) = inl (inl h)
prefix_apart (a_content w a k b) r at c (inr (inl h)) =
    let h0 = head Map w (entries_count a + suc (entries_count b)) in
    let xs = keys_at (at + length h0) a in
    let last = placed (at + length (h0 ++ spell_entries a)) k ∷ [] in
    elim (entries_apart a r (at + length h0) [] c h) [ inl x ↦ inl (inr (inl x)) | inr x ↦ inr (on_keys_left xs last r [] c x) ]
prefix_apart (a_content w a k b) r at c (inr (inr (inl h))) = inl (inr (inr h))
prefix_apart (a_content w a k b) r at c (inr (inr (inr h))) =
    let h0 = head Map w (entries_count a + suc (entries_count b)) in
    let here = at + length (h0 ++ spell_entries a) in
    let xs = keys_at (at + length h0) a in
    let last = placed here k ∷ [] in
    inr (on_keys_right xs last r [] c (inl (subst (λ (ks : List Spelling). OfKey r.keys here ks k c) (sym (onto_keys a (at + length h0) [])) h)))
