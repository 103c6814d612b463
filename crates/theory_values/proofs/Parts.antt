-- The parts of an item: its head, and what follows it.
use Rattle.std.proofs.Common.{ℕ, ◌≡◌, List, [], ◌∷◌, ◌++◌, length, Some, refl, sym, ap, ◌∙◌, subst, flat_map, inl, inr, append_assoc, append-nil, lt-ltb, le-ltb}
use Rattle.std.proofs.lemmas.Bool.{cases_lt}
use Rattle.cbor_head.specs.Prelude.{head, Holds, IsSimple, shortest, Chunk, Spelling, Spellings, SpelledEntries, unsigned, negative, bytes, text, byte_chunks, text_chunks, array, a_map, tag, simple, spell, spell_all, spell_entries, spellings_count, entries_count, IsSpelled, HoldsOrIndefinite, chunk_bytes, break_of}
use Rattle.cbor_head.specs.Read.{Prefix, prefix, read_head}
use Rattle.cbor_head.specs.declared.major.Major.TheVariants.{Unsigned, Negative, Bytes, Text, Array, Map, Tag, Simple}
use Rattle.cbor_head.proofs.HeadLaws.{reported, reported_holds, read_head-head}
use Rattle.cbor_head.specs.declared.{major.Major.Major, width.Width.Width, width.Width.TheVariants.Indefinite}
use Rattle.theory_values.proofs.ReadLaws.{holds_or_open}

-- the type of an item's first head
abbrev pub major : Spelling → Major
major (unsigned w n) = Unsigned
major (negative w n) = Negative
major (bytes w p) = Bytes
major (text w p) = Text
major (byte_chunks cs) = Bytes
major (text_chunks cs) = Text
major (array w ss) = Array
major (a_map w es) = Map
major (tag w n s) = Tag
major (simple n) = Simple

-- the width of an item's first head
abbrev pub width : Spelling → Width
width (unsigned w n) = w
width (negative w n) = w
width (bytes w p) = w
width (text w p) = w
width (byte_chunks cs) = Indefinite
width (text_chunks cs) = Indefinite
width (array w ss) = w
width (a_map w es) = w
width (tag w n s) = w
width (simple n) = shortest n

-- the argument of an item's first head
abbrev pub count : Spelling → ℕ
count (unsigned w n) = n
count (negative w n) = n
count (bytes w p) = length p
count (text w p) = length p
count (byte_chunks cs) = 0
count (text_chunks cs) = 0
count (array w ss) = spellings_count ss
count (a_map w es) = entries_count es
count (tag w n s) = n
count (simple n) = n

-- what follows an item's first head
abbrev pub body : Spelling → List ℕ
body (bytes w p) = p
body (text w p) = p
body (byte_chunks cs) = flat_map (chunk_bytes Bytes) cs ++ (0xff ∷ [])
body (text_chunks cs) = flat_map (chunk_bytes Text) cs ++ (0xff ∷ [])
body (array w ss) = spell_all ss ++ break_of w
body (a_map w es) = spell_entries es ++ break_of w
body (tag w n s) = spell s
body _ = []

-- the bytes of an item's first head
abbrev pub head_of : Spelling → List ℕ
head_of s = head (major s) (width s) (count s)

pub parts : (s : Spelling) → spell s ≡ head_of s ++ body s
parts (unsigned w n) = sym (append-nil (head Unsigned w n))
parts (negative w n) = sym (append-nil (head Negative w n))
parts (byte_chunks cs) = append_assoc (head Bytes Indefinite 0) (flat_map (chunk_bytes Bytes) cs) (0xff ∷ [])
parts (text_chunks cs) = append_assoc (head Text Indefinite 0) (flat_map (chunk_bytes Text) cs) (0xff ∷ [])
parts (array w ss) = append_assoc (head Array w (spellings_count ss)) (spell_all ss) (break_of w)
parts (a_map w es) = append_assoc (head Map w (entries_count es)) (spell_entries es) (break_of w)
parts (simple n) = sym (append-nil (head Simple (shortest n) n))
parts _ = refl

simple_holds : (n : ℕ) → IsSimple n → HoldsOrIndefinite (shortest n) n
simple_holds n h = elim (cases_lt n 24) [
  | inl l ↦ rw (lt-ltb n 24 l) l
  | inr l ↦ rw (le-ltb n 24 l, lt-ltb n 256 h.0) h.0
]

pub holds_of : (s : Spelling) → IsSpelled s → HoldsOrIndefinite (width s) (count s)
holds_of (unsigned w n) h = holds_or_open w n h
holds_of (negative w n) h = holds_or_open w n h
holds_of (bytes w p) h = holds_or_open w (length p) h.0
holds_of (text w p) h = holds_or_open w (length p) h.0
holds_of (byte_chunks cs) h = tt
holds_of (text_chunks cs) h = tt
holds_of (array w ss) h = h.0
holds_of (a_map w es) h = h.0
holds_of (tag w n s) h = holds_or_open w n h.0
holds_of (simple n) h = simple_holds n h

-- ---- heads that begin the same bytes

same_prefix : (f g : Prefix) → Some f ≡ Some g → f ≡ g
same_prefix f g e = cc e

-- one type, one width, and one argument where that is reported
abbrev pub SameHead : Major → Width → ℕ → Major → Width → ℕ → Type 0
SameHead m w n o v i = (m ≡ o) × (w ≡ v) × (reported w n ≡ reported v i)

pub one_head : (m : Major) (w : Width) (n : ℕ) (o : Major) (v : Width) (i : ℕ) → HoldsOrIndefinite w n → HoldsOrIndefinite v i → (x y : List ℕ) → head m w n ++ x ≡ head o v i ++ y → SameHead m w n o v i × (x ≡ y)
one_head m w n o v i h j x y e =
    let f = same_prefix (prefix m w (reported w n) x) (prefix o v (reported v i) y) (sym (read_head-head m w n x h) ∙ ap read_head e ∙ read_head-head o v i y j) in
    ((ap (λ (g : Prefix). g.major) f, ap (λ (g : Prefix). g.width) f, ap (λ (g : Prefix). g.argument) f), ap (λ (g : Prefix). g.rest) f)

same_count : (w v : Width) (n i : ℕ) → Holds w n → Holds v i → reported w n ≡ reported v i → n ≡ i
same_count w v n i h j e = sym (reported_holds w n h) ∙ e ∙ reported_holds v i j

-- ---- which item has such a head

pub as_unsigned : (t : Spelling) (w : Width) (n : ℕ) → IsSpelled t → Holds w n → SameHead Unsigned w n (major t) (width t) (count t) → t ≡ unsigned w n
as_unsigned (unsigned v i) w n j h e = let a = same_count w v n i h j e.2 in cc (a, e.1)
as_unsigned _ w n j h e = absurd (cc e.0)

pub as_negative : (t : Spelling) (w : Width) (n : ℕ) → IsSpelled t → Holds w n → SameHead Negative w n (major t) (width t) (count t) → t ≡ negative w n
as_negative (negative v i) w n j h e = let a = same_count w v n i h j e.2 in cc (a, e.1)
as_negative _ w n j h e = absurd (cc e.0)

pub as_bytes : (t : Spelling) (w : Width) (n : ℕ) → IsSpelled t → Holds w n → SameHead Bytes w n (major t) (width t) (count t) → (q : List ℕ) × (t ≡ bytes w q) × (n ≡ length q)
as_bytes (bytes v q) w n j h e = (q, ap (λ (w : Width). bytes w q) (sym e.1), same_count w v n (length q) h j.0 e.2)
as_bytes (byte_chunks ds) w n j h e = absurd (subst (λ (w : Width). Holds w n) e.1 h)
as_bytes _ w n j h e = absurd (cc e.0)

pub as_text : (t : Spelling) (w : Width) (n : ℕ) → IsSpelled t → Holds w n → SameHead Text w n (major t) (width t) (count t) → (q : List ℕ) × (t ≡ text w q) × (n ≡ length q)
as_text (text v q) w n j h e = (q, ap (λ (w : Width). text w q) (sym e.1), same_count w v n (length q) h j.0 e.2)
as_text (text_chunks ds) w n j h e = absurd (subst (λ (w : Width). Holds w n) e.1 h)
as_text _ w n j h e = absurd (cc e.0)

pub as_byte_chunks : (t : Spelling) → IsSpelled t → SameHead Bytes Indefinite 0 (major t) (width t) (count t) → (ds : List Chunk) × (t ≡ byte_chunks ds)
as_byte_chunks (byte_chunks ds) j e = (ds, refl)
as_byte_chunks (bytes v q) j e = absurd (subst (λ (w : Width). Holds w (length q)) (sym e.1) j.0)
as_byte_chunks _ j e = absurd (cc e.0)

pub as_text_chunks : (t : Spelling) → IsSpelled t → SameHead Text Indefinite 0 (major t) (width t) (count t) → (ds : List Chunk) × (t ≡ text_chunks ds)
as_text_chunks (text_chunks ds) j e = (ds, refl)
as_text_chunks (text v q) j e = absurd (subst (λ (w : Width). Holds w (length q)) (sym e.1) j.0)
as_text_chunks _ j e = absurd (cc e.0)

pub as_array : (t : Spelling) (w : Width) (n : ℕ) → SameHead Array w n (major t) (width t) (count t) → (ss : Spellings) × (t ≡ array w ss) × (reported w n ≡ reported w (spellings_count ss))
as_array (array v ss) w n e = (ss, ap (λ (w : Width). array w ss) (sym e.1), e.2 ∙ ap (λ (w : Width). reported w (spellings_count ss)) (sym e.1))
as_array _ w n e = absurd (cc e.0)

pub as_map : (t : Spelling) (w : Width) (n : ℕ) → SameHead Map w n (major t) (width t) (count t) → (es : SpelledEntries) × (t ≡ a_map w es) × (reported w n ≡ reported w (entries_count es))
as_map (a_map v es) w n e = (es, ap (λ (w : Width). a_map w es) (sym e.1), e.2 ∙ ap (λ (w : Width). reported w (entries_count es)) (sym e.1))
as_map _ w n e = absurd (cc e.0)

pub as_tag : (t : Spelling) (w : Width) (n : ℕ) → IsSpelled t → Holds w n → SameHead Tag w n (major t) (width t) (count t) → (s : Spelling) × (t ≡ tag w n s)
as_tag (tag v i s) w n j h e = let a = same_count w v n i h j.0 e.2 in (s, cc (a, e.1))
as_tag _ w n j h e = absurd (cc e.0)
