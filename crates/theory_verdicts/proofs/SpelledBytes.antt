-- Spelled items are bytes, so that each input has a longest beginning.
use Rattle.std.proofs.Common.{ℕ, zero, suc, ◌*◌, ◌/◌, ◌^◌, ◌≡◌, ◌<◌, ◌≤◌, List, [], ◌∷◌, ◌++◌, length, flat_map, refl, sym, ap, ◌∙◌, arith, subst, inl, inr, append_assoc, mod-lt}
use Rattle.std.{specs.List.AllByRecursion, specs.Int.bytes_high_first, specs.Int.byte_at, proofs.lemmas.Bool.cases_lt}
use Rattle.cbor_head.specs.Prelude.{head, major_number, with_argument, AreBytes, Chunk, IsChunk, Spelling, Spellings, SpelledEntries, bytes, text, byte_chunks, text_chunks, array, a_map, tag, no_spellings, a_spelling, no_entries, entry, spell, spell_all, spell_entries, chunk_bytes, break_of, HoldsOrIndefinite, IsSpelled, AreSpelled, AreEntriesSpelled, IsBeginning, IsLongestBeginning}
use Rattle.cbor_head.specs.declared.major.Major.TheVariants.{Unsigned, Bytes, Text}
use Rattle.cbor_head.specs.declared.width.Width.TheVariants.{Direct, One, Two, Four, Eight, Indefinite}
use Rattle.cbor_head.specs.declared.{major.Major.Major, width.Width.Width}
use Rattle.theory_values.proofs.Parts.{major, width, count, body, head_of, parts, holds_of}
use Rattle.theory_values.proofs.{Agree.split_prefix, ReadLaws.holds_or_open, ByteLists.bytes_join, ByteLists.bytes_prefix}
use Rattle.theory_automaton.proofs.Longest.{longest_exists}

-- ---- heads

small_byte : (k n : ℕ) → byte_at k n < 256
small_byte zero n = mod-lt n (omega arith)
small_byte (suc i) n = mod-lt (n / 256 ^ suc i) (omega arith)

high_bytes : (k n : ℕ) → AreBytes (bytes_high_first k n)
high_bytes zero n = tt
high_bytes (suc k) n = (small_byte k n, high_bytes k n)

pub small_major : (m : Major) → major_number m < 8
small_major Unsigned = omega arith
small_major _ = omega arith

argument_bytes : (w : Width) (k n : ℕ) → k < 8 → HoldsOrIndefinite w n → AreBytes (with_argument w (32 * k) n)
argument_bytes Direct k n l h = (omega (arith, l, h), tt)
argument_bytes One k n l h = (omega (arith, l), high_bytes 1 n)
argument_bytes Two k n l h = (omega (arith, l), high_bytes 2 n)
argument_bytes Four k n l h = (omega (arith, l), high_bytes 4 n)
argument_bytes Eight k n l h = (omega (arith, l), high_bytes 8 n)
argument_bytes Indefinite k n l h = (omega (arith, l), tt)

head_bytes : (m : Major) (w : Width) (n : ℕ) → HoldsOrIndefinite w n → AreBytes (head m w n)
head_bytes m w n h = argument_bytes w (major_number m) n (small_major m) h

break_bytes : (w : Width) → AreBytes (break_of w)
break_bytes Indefinite = (omega arith, tt)
break_bytes _ = tt

-- ---- items

chunks_are_bytes : (m : Major) (cs : List Chunk) → AllByRecursion IsChunk cs → AreBytes (flat_map (chunk_bytes m) cs)
chunks_are_bytes m [] h = tt
chunks_are_bytes m (c ∷ cs) h =
    bytes_join (chunk_bytes m c) (flat_map (chunk_bytes m) cs)
    (bytes_join (head m c.width (length c.payload)) c.payload (head_bytes m c.width (length c.payload) (holds_or_open c.width (length c.payload) h.0.0)) h.0.1)
    (chunks_are_bytes m cs h.1)

-- its head, and what follows it
joined_bytes : (s : Spelling) → IsSpelled s → AreBytes (body s) → AreBytes (spell s)
joined_bytes s h b = subst AreBytes (sym (parts s)) (bytes_join (head_of s) (body s) (head_bytes (major s) (width s) (count s) (holds_of s h)) b)

mutual
  body_bytes : (s : Spelling) → IsSpelled s → AreBytes (body s)
  body_bytes (bytes w q) h = h.1
  body_bytes (text w q) h = h.1
  body_bytes (byte_chunks cs) h = bytes_join (flat_map (chunk_bytes Bytes) cs) (0xff ∷ []) (chunks_are_bytes Bytes cs h) (omega arith, tt)
  body_bytes (text_chunks cs) h = bytes_join (flat_map (chunk_bytes Text) cs) (0xff ∷ []) (chunks_are_bytes Text cs h) (omega arith, tt)
  body_bytes (array w ss) h = bytes_join (spell_all ss) (break_of w) (all_bytes ss h.1) (break_bytes w)
  body_bytes (a_map w es) h = bytes_join (spell_entries es) (break_of w) (entries_bytes es h.1) (break_bytes w)
  body_bytes (tag w n s) h = joined_bytes s h.1 (body_bytes s h.1)
  body_bytes _ h = tt

  all_bytes : (ss : Spellings) → AreSpelled ss → AreBytes (spell_all ss)
  all_bytes no_spellings h = tt
  all_bytes (a_spelling s ss) h = bytes_join (spell s) (spell_all ss) (joined_bytes s h.0 (body_bytes s h.0)) (all_bytes ss h.1)

  entries_bytes : (es : SpelledEntries) → AreEntriesSpelled es → AreBytes (spell_entries es)
  entries_bytes no_entries h = tt
  entries_bytes (entry k v es) h =
      bytes_join (spell k ++ spell v) (spell_entries es) (bytes_join (spell k) (spell v) (joined_bytes k h.0 (body_bytes k h.0)) (joined_bytes v h.1 (body_bytes v h.1))) (entries_bytes es h.2)

pub beginning_bytes : (d : ℕ) (p : List ℕ) → IsBeginning d p → AreBytes p
beginning_bytes d p b = bytes_prefix p b.1 (subst AreBytes b.2.bytes_are (joined_bytes b.0 b.2.spelled (body_bytes b.0 b.2.spelled)))

-- ---- the longest beginning, whatever the input has

-- its bytes, up to a number that is none
record BytesAtStart (b : List ℕ) : Type 0 where
  prefix : List ℕ
  following : List ℕ
  splits : b ≡ prefix ++ following
  are_bytes : AreBytes prefix
  most : (q r : List ℕ) → AreBytes q → b ≡ q ++ r → length q ≤ length prefix

bytes_at_start : (b : List ℕ) → BytesAtStart b
bytes_at_start [] = record { prefix = []; following = []; splits = refl; are_bytes = tt; most = λ q r h e. shorter q r e }
  where
    shorter : (q r : List ℕ) → [] ≡ q ++ r → length q ≤ 0
    shorter [] r e = omega arith
    shorter (x ∷ q) r e = cc e
bytes_at_start (c ∷ cs) = elim (cases_lt c 256) [
  | inl l ↦
      let k = bytes_at_start cs in
      record { prefix = c ∷ k.prefix; following = k.following; splits = ap (λ (xs : List ℕ). c ∷ xs) k.splits; are_bytes = (l, k.are_bytes); most = λ q r h e. longer k q r h e }
  | inr l ↦ record { prefix = []; following = c ∷ cs; splits = refl; are_bytes = tt; most = λ q r h e. none l q r h e }
]
  where
    longer : (k : BytesAtStart cs) (q r : List ℕ) → AreBytes q → c ∷ cs ≡ q ++ r → length q ≤ suc (length k.prefix)
    longer k [] r h e = omega arith
    longer k (x ∷ q) r h e =
        let rest : cs ≡ q ++ r = cc e in
        let more = k.most q r h.1 rest in
        omega (arith, more)

    none : 256 ≤ c → (q r : List ℕ) → AreBytes q → c ∷ cs ≡ q ++ r → length q ≤ 0
    none l [] r h e = omega arith
    none l (x ∷ q) r h e =
        let same : c ≡ x = cc e in
        absurd (omega (arith, l, same, h.0))

pub longest_always : (d : ℕ) (b : List ℕ) → (x : List ℕ) × IsLongestBeginning d b x
longest_always d b =
    let k = bytes_at_start b in
    let found = longest_exists d k.prefix k.are_bytes in
    let g = found.1 in (
      found.0,
      record {
        beginning = g.beginning;
        rest = g.rest ++ k.following;
        splits = k.splits ∙ ap (λ (xs : List ℕ). xs ++ k.following) g.splits ∙ append_assoc found.0 g.rest k.following;
        longest = λ q r i e.
            let (m, f, h) = split_prefix q r k.prefix k.following (sym e ∙ k.splits) (k.most q r (beginning_bytes d q i) e) in
            g.longest q m i f;
      },
    )
