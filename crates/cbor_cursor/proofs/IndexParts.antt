-- An item in parts: its head, its payload, and the items directly within it.
use Rattle.std.proofs.Common.{◌≡◌, ℕ, ◌+◌, List, [], ◌∷◌, ◌++◌, length, refl, sym, ap, ◌∙◌, arith, append_assoc, append-nil, length-append, add-zero}
use Rattle.cbor_head.specs.Prelude.{Holds, IsHead, head, major_number, break_of, Spelling, Spellings, SpelledEntries, unsigned, negative, bytes, text, byte_chunks, text_chunks, array, a_map, tag, simple, no_spellings, a_spelling, no_entries, entry, spell, spell_all, spell_entries, spellings_count, entries_count}
use Rattle.cbor_head.specs.declared.major.Major.TheVariants as majors
use Rattle.cbor_head.specs.declared.width.Width.{TheVariants.Indefinite, Width}
use Rattle.cbor_cursor.specs.Index.{major_in, width_in, number_in, head_size, items_count, all_count, pairs_count, listed, all_listed, pairs_listed}
use Rattle.cbor_cursor.proofs.Definite.{joined, flat, definite-flat, count-flat, spell-flat}
use Rattle.cbor_cursor.specs.{WellFormed.payload_of, WellFormed.members_of, inner.Definite.IsDefinite, inner.Definite.AreDefinite}
use Rattle.cbor_cursor.specs.declared.placed.PlacedItem.{PlacedItem}

-- the items directly within one
abbrev pub members_in : Spelling → Spellings
members_in (array w ss) = ss
members_in (a_map w es) = flat es
members_in (tag w n s) = a_spelling s no_spellings
members_in _ = no_spellings

-- the bytes of a string
abbrev pub payload_in : Spelling → List ℕ
payload_in (bytes w s) = s
payload_in (text w s) = s
payload_in _ = []

pub head_in : (s : Spelling) → IsDefinite s → IsHead (major_in s) (width_in s) (number_in s)
head_in (unsigned w n) h = h
head_in (negative w n) h = h
head_in (bytes w s) h = h
head_in (text w s) h = h
head_in (byte_chunks cs) h = absurd h
head_in (text_chunks cs) h = absurd h
head_in (array w ss) h = h.0
head_in (a_map w es) h = h.0
head_in (tag w n s) h = h.0
head_in (simple n) h = (h, refl)

pub definite_members : (s : Spelling) → IsDefinite s → AreDefinite (members_in s)
definite_members (array w ss) h = h.1
definite_members (a_map w es) h = definite-flat es h.1
definite_members (tag w n s) h = (h.1, tt)
definite_members _ h = tt

no_break : (w : Width) (n : ℕ) → Holds w n → break_of w ≡ []
no_break Indefinite n h = absurd h
no_break _ n h = refl

pub spell_parts : (s : Spelling) → IsDefinite s → spell s ≡ head (major_in s) (width_in s) (number_in s) ++ (payload_in s ++ spell_all (members_in s))
spell_parts (unsigned w n) h = sym (append-nil _)
spell_parts (negative w n) h = sym (append-nil _)
spell_parts (bytes w s) h = ap (λ (l : List ℕ). head majors.Bytes w (length s) ++ l) (sym (append-nil s))
spell_parts (text w s) h = ap (λ (l : List ℕ). head majors.Text w (length s) ++ l) (sym (append-nil s))
spell_parts (byte_chunks cs) h = absurd h
spell_parts (text_chunks cs) h = absurd h
spell_parts (array w ss) h = ap (λ (l : List ℕ). head majors.Array w (spellings_count ss) ++ spell_all ss ++ l) (no_break w _ h.0) ∙ append-nil _
spell_parts (a_map w es) h =
    ap (λ (l : List ℕ). head majors.Map w (entries_count es) ++ spell_entries es ++ l) (no_break w _ h.0) ∙ append-nil _
    ∙ ap (λ (l : List ℕ). head majors.Map w (entries_count es) ++ l) (sym (spell-flat es))
spell_parts (tag w n s) h = ap (λ (l : List ℕ). head majors.Tag w n ++ l) (sym (append-nil (spell s)))
spell_parts (simple n) h = sym (append-nil _)

pub length_parts : (s : Spelling) → IsDefinite s → length (spell s) ≡ head_size s + length (payload_in s) + length (spell_all (members_in s))
length_parts s h =
    ap length (spell_parts s h)
    ∙ length-append (head (major_in s) (width_in s) (number_in s)) (payload_in s ++ spell_all (members_in s))
    ∙ omega (arith, length-append (payload_in s) (spell_all (members_in s)))

pub payload_is : (s : Spelling) → IsDefinite s → payload_of (major_number (major_in s)) (number_in s) ≡ length (payload_in s)
payload_is (byte_chunks cs) h = absurd h
payload_is (text_chunks cs) h = absurd h
payload_is _ h = refl

pub members_is : (s : Spelling) → members_of (major_number (major_in s)) (number_in s) ≡ spellings_count (members_in s)
members_is (a_map w es) = sym (count-flat es)
members_is _ = refl

-- ---- how many items

pub all_count-joined : (ss ts : Spellings) → all_count (joined ss ts) ≡ all_count ss + all_count ts
all_count-joined no_spellings ts = omega arith
all_count-joined (a_spelling s ss) ts = omega (arith, all_count-joined ss ts)

pub all_count-flat : (es : SpelledEntries) → all_count (flat es) ≡ pairs_count es
all_count-flat no_entries = refl
all_count-flat (entry k v es) = omega (arith, all_count-flat es)

pub count_parts : (s : Spelling) → items_count s ≡ 1 + all_count (members_in s)
count_parts (array w ss) = omega arith
count_parts (a_map w es) = omega (arith, all_count-flat es)
count_parts (tag w n s) = omega arith
count_parts _ = refl

-- ---- tables

module _ (f : ℕ → Spelling → PlacedItem) where
  mutual
    pub length-listed : (p : ℕ) (s : Spelling) → length (listed f p s) ≡ items_count s
    length-listed p (array w ss) = omega (arith, length-all_listed (p + head_size (array w ss)) ss)
    length-listed p (a_map w es) = omega (arith, length-pairs_listed (p + head_size (a_map w es)) es)
    length-listed p (tag w n s) = omega (arith, length-listed (p + head_size (tag w n s)) s)
    length-listed p _ = refl

    pub length-all_listed : (p : ℕ) (ss : Spellings) → length (all_listed f p ss) ≡ all_count ss
    length-all_listed p no_spellings = refl
    length-all_listed p (a_spelling s ss) =
        length-append (listed f p s) (all_listed f (p + length (spell s)) ss) ∙ omega (arith, length-listed p s, length-all_listed (p + length (spell s)) ss)

    length-pairs_listed : (p : ℕ) (es : SpelledEntries) → length (pairs_listed f p es) ≡ pairs_count es
    length-pairs_listed p no_entries = refl
    length-pairs_listed p (entry k v es) =
        let q = p + length (spell k) in
        let r = q + length (spell v) in
        length-append (listed f p k) (listed f q v ++ pairs_listed f r es)
        ∙ omega (arith, length-append (listed f q v) (pairs_listed f r es), length-listed p k, length-listed q v, length-pairs_listed r es)

  pub all_listed-joined : (p : ℕ) (ss ts : Spellings) → all_listed f p (joined ss ts) ≡ all_listed f p ss ++ all_listed f (p + length (spell_all ss)) ts
  all_listed-joined p no_spellings ts = ap (λ (q : ℕ). all_listed f q ts) (sym (add-zero p))
  all_listed-joined p (a_spelling s ss) ts =
      let q = p + length (spell s) in
      let offset : q + length (spell_all ss) ≡ p + length (spell s ++ spell_all ss) = omega (arith, length-append (spell s) (spell_all ss)) in
      ap (λ (l : List PlacedItem). listed f p s ++ l) (all_listed-joined q ss ts)
      ∙ sym (append_assoc (listed f p s) (all_listed f q ss) (all_listed f (q + length (spell_all ss)) ts))
      ∙ ap (λ (r : ℕ). (listed f p s ++ all_listed f q ss) ++ all_listed f r ts) offset

  pairs_listed-flat : (p : ℕ) (es : SpelledEntries) → pairs_listed f p es ≡ all_listed f p (flat es)
  pairs_listed-flat p no_entries = refl
  pairs_listed-flat p (entry k v es) =
      ap (λ (l : List PlacedItem). listed f p k ++ (listed f (p + length (spell k)) v ++ l)) (pairs_listed-flat (p + length (spell k) + length (spell v)) es)

  pub listed_parts : (p : ℕ) (s : Spelling) → listed f p s ≡ f p s ∷ all_listed f (p + head_size s + length (payload_in s)) (members_in s)
  listed_parts p (array w ss) = ap (λ (q : ℕ). f p (array w ss) ∷ all_listed f q ss) (sym (add-zero _))
  listed_parts p (a_map w es) =
      ap (λ (l : List PlacedItem). f p (a_map w es) ∷ l) (pairs_listed-flat (p + head_size (a_map w es)) es)
      ∙ ap (λ (q : ℕ). f p (a_map w es) ∷ all_listed f q (flat es)) (sym (add-zero _))
  listed_parts p (tag w n s) =
      ap (λ (q : ℕ). f p (tag w n s) ∷ listed f q s) (sym (add-zero _)) ∙ ap (λ (l : List PlacedItem). f p (tag w n s) ∷ l) (sym (append-nil _))
  listed_parts p _ = refl
