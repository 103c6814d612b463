-- What is spelled is read back, whatever follows it; so a byte list has one spelling.
use Rattle.std.proofs.Common.{ℕ, zero, suc, max, ◌≡◌, ◌<◌, ◌≤◌, true, false, List, [], ◌∷◌, ◌++◌, length, Option, Some, None, refl, sym, ap, ◌∙◌, arith, nat_le, flat_map, inl, inr, length-append, append_assoc, append-nil, lt-ltb, le-leb, le-ltb}
use Rattle.std.{specs.List.AllByRecursion, proofs.lemmas.Bool.cases_lt, proofs.Math.Seq.drop-append_seam, proofs.Math.Seq.take-append_seam}
use Rattle.cbor_head.specs.Prelude.{head, Holds, IsSimple, shortest, Chunk, Spelling, Spellings, SpelledEntries, unsigned, negative, bytes, text, byte_chunks, text_chunks, array, a_map, tag, simple, no_spellings, a_spelling, no_entries, entry, spell, spell_all, spell_entries, spellings_count, entries_count, IsSpelled, AreSpelled, AreEntriesSpelled, depth, depth_all, depth_entries, IsChunk, HoldsOrIndefinite, chunk_bytes, chunked, break_of}
use Rattle.cbor_head.specs.Read.{prefix, read_head, payload, is_break, same_major, read_chunk, read_chunks, read_many, read_pairs, past_break, read_until, read_pairs_until, leaf, container_stack, read}
use Rattle.cbor_head.specs.declared.major.Major.TheVariants.{Unsigned, Negative, Bytes, Text, Array, Map, Tag, Simple}
use Rattle.cbor_head.specs.declared.width.Width.TheVariants.{Direct, One, Indefinite}
use Rattle.cbor_head.{specs.declared.major.Major.Major, specs.declared.width.Width.Width, proofs.HeadLaws.reported, proofs.HeadLaws.read_head-head}

payload_back : {A : Type 0} (xs x : List ℕ) (f : List ℕ → A) → payload (length xs) (xs ++ x) f ≡ Some (f xs, x)
payload_back xs x f =
    let space : nat_le (length xs) (length (xs ++ x)) ≡ true = le-leb (length xs) (length (xs ++ x)) (omega (arith, length-append xs x)) in
    rw (space, take-append_seam xs x, drop-append_seam xs x) refl

pub holds_or_open : (w : Width) (n : ℕ) → Holds w n → HoldsOrIndefinite w n
holds_or_open Indefinite n h = absurd h
holds_or_open _ n h = h

pub length_head : (m : Major) (w : Width) (n : ℕ) → 1 ≤ length (head m w n)
length_head m Direct n = omega arith
length_head m _ n = omega arith

same_major-refl : (m : Major) → same_major m m ≡ true
same_major-refl Unsigned = refl
same_major-refl _ = refl

-- a chunk
pub chunk_back : (m : Major) (w : Width) (p x : List ℕ) → Holds w (length p) → read_chunk m (prefix m w (reported w (length p)) (p ++ x)) ≡ Some (record { width = w; payload = p }, x)
chunk_back m Indefinite p x h = absurd h
chunk_back m w p x h = rw (same_major-refl m) (payload_back p x (λ q. record { width = w; payload = q }))

no_break : (m : Major) (w : Width) (n : ℕ) (x : List ℕ) → Holds w n → is_break (prefix m w (reported w n) x) ≡ false
no_break m Indefinite n x h = absurd h
no_break m _ n x h = refl

pub chunk_head : (m : Major) (c : Chunk) → IsChunk c → (y : List ℕ) → read_head (chunk_bytes m c ++ y) ≡ Some (prefix m c.width (reported c.width (length c.payload)) (c.payload ++ y))
chunk_head m c h y = ap read_head (append_assoc (head m c.width (length c.payload)) c.payload y) ∙ read_head-head m c.width (length c.payload) (c.payload ++ y) (holds_or_open c.width (length c.payload) h.0)

pub length_chunk : (m : Major) (c : Chunk) → 1 ≤ length (chunk_bytes m c)
length_chunk m c = omega (arith, length_head m c.width (length c.payload), length-append (head m c.width (length c.payload)) c.payload)

chunks_back : (m : Major) (cs : List Chunk) → AllByRecursion IsChunk cs → (k : ℕ) → length (flat_map (chunk_bytes m) cs) < k → (x : List ℕ) → read_chunks m k (flat_map (chunk_bytes m) cs ++ (0xff ∷ x)) ≡ Some (cs, x)
chunks_back m [] h zero small x = absurd (omega arith)
chunks_back m [] h (suc k) small x = rw (read_head-head Simple Indefinite 0 x tt) refl
chunks_back m (c ∷ cs) h zero small x = absurd (omega arith)
chunks_back m (c ∷ cs) h (suc k) small x =
    let more : length (flat_map (chunk_bytes m) cs) < k = omega (arith, length_chunk m c, length-append (chunk_bytes m c) (flat_map (chunk_bytes m) cs)) in
    let y = flat_map (chunk_bytes m) cs ++ (0xff ∷ x) in
    ap (read_chunks m (suc k)) (append_assoc (chunk_bytes m c) (flat_map (chunk_bytes m) cs) (0xff ∷ x))
    ∙ rw (chunk_head m c h.0 y, no_break m c.width (length c.payload) (c.payload ++ y) h.0.0, chunk_back m c.width c.payload y h.0.0, chunks_back m cs h.1 k more x) refl

leaf_read : {r : Spelling × List ℕ} (d : ℕ) (m : Major) (w : Width) (n : ℕ) (body : List ℕ) → HoldsOrIndefinite w n → leaf m w (reported w n) body ≡ Some r → read d (head m w n ++ body) ≡ Some r
unfolding read
leaf_read zero m w n body h e = rw (read_head-head m w n body h) e
leaf_read (suc d) m w n body h e = rw (read_head-head m w n body h, e) refl

container_stack_read : {r : Spelling × List ℕ} (d : ℕ) (m : Major) (w : Width) (n : ℕ) (body : List ℕ) → HoldsOrIndefinite w n → leaf m w (reported w n) body ≡ None → container_stack (read d) m w (reported w n) body ≡ Some r → read (suc d) (head m w n ++ body) ≡ Some r
unfolding read
container_stack_read d m w n body h e f = rw (read_head-head m w n body h, e) f

pub break_none : (d : ℕ) (x : List ℕ) → read d (0xff ∷ x) ≡ None
unfolding read
break_none zero x = rw (read_head-head Simple Indefinite 0 x tt) refl
break_none (suc d) x = rw (read_head-head Simple Indefinite 0 x tt) refl

break_past : (x : List ℕ) → past_break (0xff ∷ x) ≡ Some x
break_past x = rw (read_head-head Simple Indefinite 0 x tt) refl

chunked_back : (d : ℕ) (m : Major) (cs : List Chunk) (s : Spelling) (x : List ℕ) → AllByRecursion IsChunk cs
    → ((body rest : List ℕ) → read_chunks m (length body) body ≡ Some (cs, rest) → leaf m Indefinite 0 body ≡ Some (s, rest))
    → read d (chunked m cs ++ x) ≡ Some (s, x)
chunked_back d m cs s x h made =
    let flat = flat_map (chunk_bytes m) cs in
    let body = flat ++ (0xff ∷ x) in
    let found = chunks_back m cs h (length body) (omega (arith, length-append flat (0xff ∷ x))) x in
    ap (read d) (append_assoc (head m Indefinite 0 ++ flat) (0xff ∷ []) x ∙ append_assoc (head m Indefinite 0) flat (0xff ∷ x))
    ∙ leaf_read d m Indefinite 0 body tt (made body x found)

simple_back : (d n : ℕ) (x : List ℕ) → IsSimple n → read d (head Simple (shortest n) n ++ x) ≡ Some (simple n, x)
simple_back d n x h = elim (cases_lt n 24) [
  | inl l ↦ rw (lt-ltb n 24 l) (leaf_read d Simple Direct n x l refl)
  | inr l ↦ rw (le-ltb n 24 l, lt-ltb n 256 h.0) (leaf_read d Simple One n x (omega arith) (rw (le-leb 32 n (h.1 l)) refl))
]

-- what a container holds, and its break if it has one
closed_back : (d : ℕ) (m : Major) (w : Width) (n : ℕ) (body x : List ℕ) (r : Spelling × List ℕ) → HoldsOrIndefinite w n
    → leaf m w (reported w n) (body ++ (break_of w ++ x)) ≡ None → container_stack (read d) m w (reported w n) (body ++ (break_of w ++ x)) ≡ Some r
    → read (suc d) ((head m w n ++ body ++ break_of w) ++ x) ≡ Some r
closed_back d m w n body x r h none e =
    ap (read (suc d)) (append_assoc (head m w n ++ body) (break_of w) x ∙ append_assoc (head m w n) body (break_of w ++ x))
    ∙ container_stack_read d m w n (body ++ (break_of w ++ x)) h none e

-- each item has at least one byte
from_head : (m : Major) (w : Width) (n : ℕ) (l : List ℕ) → 1 ≤ length (head m w n ++ l)
from_head m w n l = omega (arith, length_head m w n, length-append (head m w n) l)

longer : (l r : List ℕ) → 1 ≤ length l → 1 ≤ length (l ++ r)
longer l r h = omega (arith, length-append l r)

pub length_spell : (s : Spelling) → 1 ≤ length (spell s)
length_spell (unsigned w n) = length_head Unsigned w n
length_spell (negative w n) = length_head Negative w n
length_spell (bytes w p) = from_head Bytes w (length p) p
length_spell (text w p) = from_head Text w (length p) p
length_spell (byte_chunks cs) = longer (head Bytes Indefinite 0 ++ flat_map (chunk_bytes Bytes) cs) (0xff ∷ []) (from_head Bytes Indefinite 0 (flat_map (chunk_bytes Bytes) cs))
length_spell (text_chunks cs) = longer (head Text Indefinite 0 ++ flat_map (chunk_bytes Text) cs) (0xff ∷ []) (from_head Text Indefinite 0 (flat_map (chunk_bytes Text) cs))
length_spell (array w ss) = longer (head Array w (spellings_count ss) ++ spell_all ss) (break_of w) (from_head Array w (spellings_count ss) (spell_all ss))
length_spell (a_map w es) = longer (head Map w (entries_count es) ++ spell_entries es) (break_of w) (from_head Map w (entries_count es) (spell_entries es))
length_spell (tag w n s) = from_head Tag w n (spell s)
length_spell (simple n) = length_head Simple (shortest n) n

mutual
  pub reads : (s : Spelling) → IsSpelled s → (d : ℕ) → depth s ≤ d → (x : List ℕ) → read d (spell s ++ x) ≡ Some (s, x)
  reads (unsigned Indefinite n) h d deep x = absurd h
  reads (unsigned w n) h d deep x = leaf_read d Unsigned w n x h refl
  reads (negative Indefinite n) h d deep x = absurd h
  reads (negative w n) h d deep x = leaf_read d Negative w n x h refl
  reads (bytes Indefinite p) h d deep x = absurd h.0
  reads (bytes w p) h d deep x =
      ap (read d) (append_assoc (head Bytes w (length p)) p x)
      ∙ leaf_read d Bytes w (length p) (p ++ x) h.0 (payload_back p x (bytes w))
  reads (text Indefinite p) h d deep x = absurd h.0
  reads (text w p) h d deep x =
      ap (read d) (append_assoc (head Text w (length p)) p x)
      ∙ leaf_read d Text w (length p) (p ++ x) h.0 (payload_back p x (text w))
  reads (byte_chunks cs) h d deep x = chunked_back d Bytes cs (byte_chunks cs) x h (λ body rest e. rw e refl)
  reads (text_chunks cs) h d deep x = chunked_back d Text cs (text_chunks cs) x h (λ body rest e. rw e refl)
  reads (array Indefinite ss) h (suc d) deep x =
      closed_back d Array Indefinite (spellings_count ss) (spell_all ss) x _ tt refl
      (rw (reads_until ss h.1 d (omega arith) (length (spell_all ss ++ (0xff ∷ x))) (omega (arith, length-append (spell_all ss) (0xff ∷ x))) x) refl)
  reads (array w ss) h (suc d) deep x =
      closed_back d Array w (spellings_count ss) (spell_all ss) x _ h.0 refl (rw (reads_all ss h.1 d (omega arith) x) refl)
  reads (a_map Indefinite es) h (suc d) deep x =
      closed_back d Map Indefinite (entries_count es) (spell_entries es) x _ tt refl
      (rw (reads_pairs_until es h.1 d (omega arith) (length (spell_entries es ++ (0xff ∷ x))) (omega (arith, length-append (spell_entries es) (0xff ∷ x))) x) refl)
  reads (a_map w es) h (suc d) deep x =
      closed_back d Map w (entries_count es) (spell_entries es) x _ h.0 refl (rw (reads_pairs es h.1 d (omega arith) x) refl)
  reads (tag Indefinite n s) h d deep x = absurd h.0
  reads (tag w n s) h (suc d) deep x =
      ap (read (suc d)) (append_assoc (head Tag w n) (spell s) x)
      ∙ container_stack_read d Tag w n (spell s ++ x) h.0 refl (rw (reads s h.1 d (omega arith) x) refl)
  reads (simple n) h d deep x = simple_back d n x h
  reads _ h zero deep x = absurd (omega arith)

  pub reads_all : (ss : Spellings) → AreSpelled ss → (d : ℕ) → depth_all ss ≤ d → (x : List ℕ) → read_many (read d) (spellings_count ss) (spell_all ss ++ x) ≡ Some (ss, x)
  reads_all no_spellings h d deep x = refl
  reads_all (a_spelling s ss) h d deep x =
      rw (append_assoc (spell s) (spell_all ss) x, reads s h.0 d (omega arith) (spell_all ss ++ x), reads_all ss h.1 d (omega arith) x) refl

  pub reads_until : (ss : Spellings) → AreSpelled ss → (d : ℕ) → depth_all ss ≤ d → (k : ℕ) → length (spell_all ss) < k → (x : List ℕ) → read_until (read d) k (spell_all ss ++ (0xff ∷ x)) ≡ Some (ss, x)
  reads_until no_spellings h d deep zero small x = absurd (omega arith)
  reads_until no_spellings h d deep (suc k) small x = rw (break_none d x, break_past x) refl
  reads_until (a_spelling s ss) h d deep zero small x = absurd (omega arith)
  reads_until (a_spelling s ss) h d deep (suc k) small x =
      let more : length (spell_all ss) < k = omega (arith, length_spell s, length-append (spell s) (spell_all ss)) in
      rw (append_assoc (spell s) (spell_all ss) (0xff ∷ x), reads s h.0 d (omega arith) (spell_all ss ++ (0xff ∷ x)), reads_until ss h.1 d (omega arith) k more x) refl

  pub reads_pairs : (es : SpelledEntries) → AreEntriesSpelled es → (d : ℕ) → depth_entries es ≤ d → (x : List ℕ) → read_pairs (read d) (entries_count es) (spell_entries es ++ x) ≡ Some (es, x)
  reads_pairs no_entries h d deep x = refl
  reads_pairs (entry k v es) h d deep x =
      rw (append_assoc (spell k ++ spell v) (spell_entries es) x, append_assoc (spell k) (spell v) (spell_entries es ++ x), reads k h.0 d (omega arith) (spell v ++ (spell_entries es ++ x)), reads v h.1 d (omega arith) (spell_entries es ++ x), reads_pairs es h.2 d (omega arith) x) refl

  pub reads_pairs_until : (es : SpelledEntries) → AreEntriesSpelled es → (d : ℕ) → depth_entries es ≤ d → (j : ℕ) → length (spell_entries es) < j → (x : List ℕ) → read_pairs_until (read d) j (spell_entries es ++ (0xff ∷ x)) ≡ Some (es, x)
  reads_pairs_until no_entries h d deep zero small x = absurd (omega arith)
  reads_pairs_until no_entries h d deep (suc j) small x = rw (break_none d x, break_past x) refl
  reads_pairs_until (entry k v es) h d deep zero small x = absurd (omega arith)
  reads_pairs_until (entry k v es) h d deep (suc j) small x =
      let more : length (spell_entries es) < j = omega (arith, length_spell k, length-append (spell k ++ spell v) (spell_entries es), length-append (spell k) (spell v)) in
      rw (append_assoc (spell k ++ spell v) (spell_entries es) (0xff ∷ x), append_assoc (spell k) (spell v) (spell_entries es ++ (0xff ∷ x)), reads k h.0 d (omega arith) (spell v ++ (spell_entries es ++ (0xff ∷ x))), reads v h.1 d (omega arith) (spell_entries es ++ (0xff ∷ x)), reads_pairs_until es h.2 d (omega arith) j more x) refl

same_result : (s t : Spelling) (x y : List ℕ) → ◌≡◌ {A = Option (Spelling × List ℕ)} (Some (s, x)) (Some (t, y)) → (s ≡ t) × (x ≡ y)
same_result s t x y e =
    let p : ◌≡◌ {A = Spelling × List ℕ} (s, x) (t, y) = cc e in
    (ap (λ (q : Spelling × List ℕ). q.0) p, ap (λ (q : Spelling × List ℕ). q.1) p)

-- a byte list begins with at most one item, so none is a proper beginning of another
pub unique : (s t : Spelling) → IsSpelled s → IsSpelled t → (x y : List ℕ) → spell s ++ x ≡ spell t ++ y → (s ≡ t) × (x ≡ y)
unique s t hs ht x y e =
    let d = max (depth s) (depth t) in
    let a : read d (spell s ++ x) ≡ Some (s, x) = reads s hs d (omega arith) x in
    let b : read d (spell t ++ y) ≡ Some (t, y) = reads t ht d (omega arith) y in
    same_result s t x y (sym a ∙ ap (read d) e ∙ b)

-- a byte list has at most one spelling
pub one_list : (s t : Spelling) → IsSpelled s → IsSpelled t → spell s ≡ spell t → s ≡ t
one_list s t hs ht e = (unique s t hs ht [] [] (ap (λ (l : List ℕ). l ++ []) e)).0

-- no item's bytes are a proper beginning of another's
pub no_prefix : (s t : Spelling) (x : List ℕ) → IsSpelled s → IsSpelled t → spell s ++ x ≡ spell t → x ≡ []
no_prefix s t x hs ht e = (unique s t hs ht x [] (e ∙ sym (append-nil (spell t)))).1
