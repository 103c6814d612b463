-- The machine reads the bytes of an item, and reports its trace.
use Rattle.std.proofs.Common.{◌≡◌, ℕ, zero, suc, ◌+◌, ◌-◌, ◌*◌, ◌%◌, ◌^◌, ◌<◌, ◌≤◌, Bool, true, false, not, nat_lt, cond, List, [], ◌∷◌, ◌++◌, length, flat_map, refl, sym, ap, ◌∙◌, inl, inr, arith, mod-eq_of_lt, append_assoc, append-nil, lt-ltb, le-ltb}
use Rattle.std.{proofs.lemmas.Bool.cases_lt, specs.List.AllByRecursion, specs.Int.byte_at, specs.Int.bytes_high_first}
use Rattle.cbor_head.specs.Prelude.{Holds, IsSimple, head, major_number, shortest, Chunk, IsChunk, Spelling, Spellings, SpelledEntries, unsigned, negative, bytes, text, byte_chunks, text_chunks, array, a_map, tag, simple, no_spellings, a_spelling, no_entries, entry, spellings_count, entries_count, spell, spell_all, spell_entries, chunk_bytes, string_bytes_of, IsSpelled, AreSpelled, AreEntriesSpelled, depth, depth_all, depth_entries, initial_reason}
use Rattle.cbor_head.specs.declared.major.Major.TheVariants.{Unsigned, Negative, Bytes, Text, Array, Map, Tag, Simple}
use Rattle.cbor_head.specs.declared.width.Width.TheVariants.{Direct, One, Two, Four, Eight, Indefinite}
use Rattle.cbor_head.specs.declared.{major.Major.Major, width.Width.Width, reason.Reason.TheVariants.BadSimple}
use Rattle.theory_automaton.specs.Trace.{Mark, a_head, a_byte, a_break, more_bytes, payload_marks, chunk_marks, trace, trace_all, trace_entries}
use Rattle.theory_automaton.specs.Automaton.{Frame, counted, indefinite_array, indefinite_map, State, at_item, in_head, in_simple, in_payload, in_chunks, direct, long, Next, refuses, goes, reports, numbered_tail, tail, opening, close, expect, close_string, payload, after, mark, has_space, begin, is_major, take_byte, Outcome, reporting, and_then, run}
use Rattle.theory_automaton.proofs.Members.{members, members-count, members-bytes, members-marks, members-spelled, members-depth}
use Rattle.theory_automaton.proofs.Agrees.{is_odd, not-not, double-even}
use Rattle.theory_automaton.proofs.{FirstByte.opening-first, FirstByte.opening-direct, Arguments.byte_on}

abbrev pub reporting_all : List Mark → Outcome → Outcome
reporting_all [] o = o
reporting_all (m ∷ ms) o = reporting m (reporting_all ms o)

pub reporting_all-append : (ms ns : List Mark) (o : Outcome) → reporting_all (ms ++ ns) o ≡ reporting_all ms (reporting_all ns o)
reporting_all-append [] ns o = refl
reporting_all-append (m ∷ ms) ns o = ap (reporting m) (reporting_all-append ms ns o)

-- the bytes of an argument
pub feed : (d : ℕ) (chunk : Bool) (m : Major) (w : Width) (k acc n : ℕ) (fs : List Frame) (rest : List ℕ)
    → run d (in_head chunk m w k acc fs) (bytes_high_first (suc k) n ++ rest)
    ≡ reporting (mark chunk m w (acc * 256 ^ suc k + n % 256 ^ suc k)) (run d (after chunk m (acc * 256 ^ suc k + n % 256 ^ suc k) fs) rest)
feed d chunk m w zero acc n fs rest =
    let e : acc * 256 + n % 256 ≡ acc * 256 ^ 1 + n % 256 ^ 1 = omega arith in
    ap (λ x. reporting (mark chunk m w x) (run d (after chunk m x fs) rest)) e
feed d chunk m w (suc k) acc n fs rest =
    feed d chunk m w k (acc * 256 + byte_at (suc k) n) n fs rest
    ∙ ap (λ x. reporting (mark chunk m w x) (run d (after chunk m x fs) rest)) (byte_on (suc k) n acc)

-- an argument that fits
pub feed-fits : (d : ℕ) (chunk : Bool) (m : Major) (w : Width) (k n : ℕ) (fs : List Frame) (rest : List ℕ) → n < 256 ^ suc k
    → run d (in_head chunk m w k 0 fs) (bytes_high_first (suc k) n ++ rest) ≡ reporting (mark chunk m w n) (run d (after chunk m n fs) rest)
feed-fits d chunk m w k n fs rest h =
    let e : 0 * 256 ^ suc k + n % 256 ^ suc k ≡ n = omega (arith, mod-eq_of_lt h) in
    feed d chunk m w k 0 n fs rest ∙ ap (λ x. reporting (mark chunk m w x) (run d (after chunk m x fs) rest)) e

-- Where a definite head of a type may begin.
pub record Starts (d : ℕ) (q : State) (chunk : Bool) (m : Major) (fs : List Frame) : Type 0 where
  pub direct : (n : ℕ) → n < 24 → take_byte d q (32 * major_number m + n) ≡ reports (mark chunk m Direct n) (after chunk m n fs)
  pub one : take_byte d q (32 * major_number m + 24) ≡ goes (in_head chunk m One 0 0 fs)
  pub two : take_byte d q (32 * major_number m + 25) ≡ goes (in_head chunk m Two 1 0 fs)
  pub four : take_byte d q (32 * major_number m + 26) ≡ goes (in_head chunk m Four 3 0 fs)
  pub eight : take_byte d q (32 * major_number m + 27) ≡ goes (in_head chunk m Eight 7 0 fs)

pub step : (d : ℕ) (q : State) (c : ℕ) (next : Next) (rest : List ℕ) → take_byte d q c ≡ next → run d q (c ∷ rest) ≡ and_then next (λ t. run d t rest)
step d q c next rest e = ap (λ o. and_then o (λ t. run d t rest)) e

pub head-taken : (d : ℕ) (q : State) (chunk : Bool) (m : Major) (fs : List Frame) → Starts d q chunk m fs → (w : Width) (n : ℕ) (rest : List ℕ) → Holds w n
    → run d q (head m w n ++ rest) ≡ reporting (mark chunk m w n) (run d (after chunk m n fs) rest)
head-taken d q chunk m fs starts Direct n rest h = step d q _ _ rest (starts.direct n h)
head-taken d q chunk m fs starts One n rest h = step d q _ _ (bytes_high_first 1 n ++ rest) starts.one ∙ feed-fits d chunk m One 0 n fs rest h
head-taken d q chunk m fs starts Two n rest h = step d q _ _ (bytes_high_first 2 n ++ rest) starts.two ∙ feed-fits d chunk m Two 1 n fs rest h
head-taken d q chunk m fs starts Four n rest h = step d q _ _ (bytes_high_first 4 n ++ rest) starts.four ∙ feed-fits d chunk m Four 3 n fs rest h
head-taken d q chunk m fs starts Eight n rest h = step d q _ _ (bytes_high_first 8 n ++ rest) starts.eight ∙ feed-fits d chunk m Eight 7 n fs rest h
head-taken d q chunk m fs starts Indefinite n rest h = absurd h

-- from what such a head opens
starts_by : (d : ℕ) (q : State) (chunk : Bool) (m : Major) (fs : List Frame) → ((k : ℕ) → tail m k ≡ numbered_tail m k) → ((c n : ℕ) → opening c ≡ direct m n → take_byte d q c ≡ reports (mark chunk m Direct n) (after chunk m n fs))
    → ((c : ℕ) (w : Width) → opening c ≡ long m w → take_byte d q c ≡ goes (in_head chunk m w (more_bytes w - 1) 0 fs)) → Starts d q chunk m fs
starts_by d q chunk m fs plain of_direct of_long = record {
  direct = λ n h. of_direct (32 * major_number m + n) n (opening-direct m n h);
  one = of_long (32 * major_number m + 24) One (opening-first m 24 (omega arith) ∙ plain 0);
  two = of_long (32 * major_number m + 25) Two (opening-first m 25 (omega arith) ∙ plain 1);
  four = of_long (32 * major_number m + 26) Four (opening-first m 26 (omega arith) ∙ plain 2);
  eight = of_long (32 * major_number m + 27) Eight (opening-first m 27 (omega arith) ∙ plain 3);
}

pub item_starts : (d : ℕ) (m : Major) (fs : List Frame) → ((k : ℕ) → tail m k ≡ numbered_tail m k) → has_space d fs m ≡ true → Starts d (at_item fs) false m fs
item_starts d m fs plain space = starts_by d (at_item fs) false m fs plain (λ c n e. rw (e, space) refl) (λ c w e. rw (e, space) refl)

pub chunk_starts : (d : ℕ) (m : Major) (fs : List Frame) → ((k : ℕ) → tail m k ≡ numbered_tail m k) → is_major m m ≡ true → Starts d (in_chunks m fs) true m fs
chunk_starts d m fs plain same = starts_by d (in_chunks m fs) true m fs plain (λ c n e. rw (e, same) refl) (λ c w e. rw (e, same) refl)

-- the bytes of a payload
pub payload-byte : (d : ℕ) (chunk : Bool) (m : Major) (n : ℕ) (fs : List Frame) (b : ℕ) (rest : List ℕ)
    → run d (in_payload chunk m n fs) (b ∷ rest) ≡ reporting a_byte (run d (payload chunk m n fs) rest)
payload-byte d chunk m zero fs b rest = refl
payload-byte d chunk m (suc n) fs b rest = refl

pub payload-taken : (d : ℕ) (chunk : Bool) (m : Major) (fs : List Frame) (bs rest : List ℕ)
    → run d (payload chunk m (length bs) fs) (bs ++ rest) ≡ reporting_all (payload_marks bs) (run d (close_string chunk m fs) rest)
payload-taken d chunk m fs [] rest = refl
payload-taken d chunk m fs (b ∷ bs) rest = payload-byte d chunk m (length bs) fs b (bs ++ rest) ∙ ap (reporting a_byte) (payload-taken d chunk m fs bs rest)

-- a definite string, and the state that its head leads to
pub string-taken : (d : ℕ) (q : State) (chunk : Bool) (m : Major) (fs : List Frame) → Starts d q chunk m fs → ((n : ℕ) → after chunk m n fs ≡ payload chunk m n fs)
    → (w : Width) (bs rest : List ℕ) → Holds w (length bs)
    → run d q (string_bytes_of m w bs ++ rest) ≡ reporting_all (mark chunk m w (length bs) ∷ payload_marks bs) (run d (close_string chunk m fs) rest)
string-taken d q chunk m fs starts leads w bs rest h =
    ap (run d q) (append_assoc (head m w (length bs)) bs rest)
    ∙ head-taken d q chunk m fs starts w (length bs) (bs ++ rest) h
    ∙ ap (λ t. reporting (mark chunk m w (length bs)) (run d t (bs ++ rest))) (leads (length bs))
    ∙ ap (reporting (mark chunk m w (length bs))) (payload-taken d chunk m fs bs rest)

pub chunks-taken : (d : ℕ) (m : Major) (fs : List Frame) → Starts d (in_chunks m fs) true m fs → (cs : List Chunk) (rest : List ℕ) → AllByRecursion IsChunk cs
    → run d (in_chunks m fs) (flat_map (chunk_bytes m) cs ++ rest) ≡ reporting_all (flat_map chunk_marks cs) (run d (in_chunks m fs) rest)
chunks-taken d m fs starts [] rest h = refl
chunks-taken d m fs starts (c ∷ cs) rest h =
    ap (run d (in_chunks m fs)) (append_assoc (chunk_bytes m c) (flat_map (chunk_bytes m) cs) rest)
    ∙ string-taken d (in_chunks m fs) true m fs starts (λ n. refl) c.width c.payload (flat_map (chunk_bytes m) cs ++ rest) h.0.0
    ∙ ap (reporting_all (chunk_marks c)) (chunks-taken d m fs starts cs rest h.1)
    ∙ sym (reporting_all-append (chunk_marks c) (flat_map chunk_marks cs) (run d (in_chunks m fs) rest))

pub close-counted : (n : ℕ) (fs : List Frame) → close (counted n ∷ fs) ≡ expect n fs
close-counted zero fs = refl
close-counted (suc n) fs = refl

-- one item, and then more bytes
then-more : (d : ℕ) (q r t : State) (xs ys rest : List ℕ) (ms ns : List Mark)
    → ((more : List ℕ) → run d q (xs ++ more) ≡ reporting_all ms (run d r more)) → run d r (ys ++ rest) ≡ reporting_all ns (run d t rest)
    → run d q ((xs ++ ys) ++ rest) ≡ reporting_all (ms ++ ns) (run d t rest)
then-more d q r t xs ys rest ms ns first second =
    ap (run d q) (append_assoc xs ys rest) ∙ first (ys ++ rest) ∙ ap (reporting_all ms) second ∙ sym (reporting_all-append ms ns (run d t rest))

-- an item that is only a head
only-head : (d : ℕ) (m : Major) (fs : List Frame) → ((k : ℕ) → tail m k ≡ numbered_tail m k) → has_space d fs m ≡ true → (w : Width) (n : ℕ) (rest : List ℕ) → Holds w n
    → run d (at_item fs) (head m w n ++ rest) ≡ reporting (a_head m w n) (run d (after false m n fs) rest)
only-head d m fs plain space w n rest h = head-taken d (at_item fs) false m fs (item_starts d m fs plain space) w n rest h

pub simple-direct : (d n : ℕ) (fs : List Frame) (rest : List ℕ) → n < 24 → run d (at_item fs) (head Simple Direct n ++ rest) ≡ reporting (a_head Simple Direct n) (run d (close fs) rest)
simple-direct d n fs rest h = step d (at_item fs) (32 * 7 + n) (reports (a_head Simple Direct n) (close fs)) rest (ap (begin d fs (32 * 7 + n)) (opening-direct Simple n h))

pub simple-one : (d n : ℕ) (fs : List Frame) (rest : List ℕ) → 32 ≤ n → n < 256 → run d (at_item fs) (head Simple One n ++ rest) ≡ reporting (a_head Simple One n) (run d (close fs) rest)
simple-one d n fs rest low high =
    let is : n % 256 ≡ n = mod-eq_of_lt high in
    ap (λ c. run d (in_simple fs) (c ∷ rest)) is
    ∙ step d (in_simple fs) n (reports (a_head Simple One n) (close fs)) rest (ap (λ b. cond b (refuses BadSimple) (reports (a_head Simple One n) (close fs))) (le-ltb n 32 low))

pub simple-taken : (d n : ℕ) (fs : List Frame) (rest : List ℕ) → IsSimple n → run d (at_item fs) (head Simple (shortest n) n ++ rest) ≡ reporting (a_head Simple (shortest n) n) (run d (close fs) rest)
simple-taken d n fs rest h = elim (cases_lt n 24) [
  | inl l ↦
      let e : shortest n ≡ Direct = rw (lt-ltb n 24 l) in
      rw e (simple-direct d n fs rest l)
  | inr l ↦
      let e : shortest n ≡ One = rw (le-ltb n 24 l, lt-ltb n (2 ^ 8) h.0) in
      rw e (simple-one d n fs rest (h.1 l) h.0)
]

-- an indefinite string
indefinite-taken : (d : ℕ) (m : Major) (fs : List Frame) → Starts d (in_chunks m fs) true m fs → (cs : List Chunk) (rest : List ℕ) → AllByRecursion IsChunk cs
    → run d (in_chunks m fs) ((flat_map (chunk_bytes m) cs ++ 0xff ∷ []) ++ rest) ≡ reporting_all (flat_map chunk_marks cs ++ a_break ∷ []) (run d (close fs) rest)
indefinite-taken d m fs starts cs rest h =
    then-more d (in_chunks m fs) (in_chunks m fs) (close fs) (flat_map (chunk_bytes m) cs) (0xff ∷ []) rest (flat_map chunk_marks cs) (a_break ∷ [])
    (λ more. chunks-taken d m fs starts cs more h) refl

pub space-above : (d : ℕ) (fs : List Frame) (k : ℕ) → suc k + length fs ≤ d → nat_lt (length fs) d ≡ true
space-above d fs k h = lt-ltb (length fs) d (omega arith)

pub one-down : (a n d : ℕ) → suc a + n ≤ d → a + suc n ≤ d
one-down a n d h = omega arith

-- a container with a definite head
counted-taken : (d : ℕ) (m : Major) (fs : List Frame) → ((k : ℕ) → tail m k ≡ numbered_tail m k) → has_space d fs m ≡ true → (w : Width) (n : ℕ) → Holds w n
    → (q : State) → after false m n fs ≡ q → (xs : List ℕ) (ms : List Mark) (rest : List ℕ) → run d q (xs ++ rest) ≡ reporting_all ms (run d (close fs) rest)
    → run d (at_item fs) (((head m w n ++ xs) ++ []) ++ rest) ≡ reporting_all ((a_head m w n ∷ ms) ++ []) (run d (close fs) rest)
counted-taken d m fs plain space w n h q leads xs ms rest inner =
    rw (append-nil (head m w n ++ xs), append-nil ms, append_assoc (head m w n) xs rest)
    (only-head d m fs plain space w n (xs ++ rest) h ∙ ap (λ t. reporting (a_head m w n) (run d t (xs ++ rest))) leads ∙ ap (reporting (a_head m w n)) inner)

-- a container of indefinite length, after its first byte
open-taken : (d : ℕ) (q : State) (fs : List Frame) → ((rest : List ℕ) → run d q (0xff ∷ rest) ≡ reporting a_break (run d (close fs) rest)) → (xs : List ℕ) (ms : List Mark) (rest : List ℕ)
    → ((more : List ℕ) → run d q (xs ++ more) ≡ reporting_all ms (run d q more)) → run d q ((xs ++ 0xff ∷ []) ++ rest) ≡ reporting_all (ms ++ a_break ∷ []) (run d (close fs) rest)
open-taken d q fs closes xs ms rest inner = then-more d q q (close fs) xs (0xff ∷ []) rest ms (a_break ∷ []) inner (closes rest)

-- ---- within a container

-- how its state changes from one member to the next
pub record Leads (fs : List Frame) : Type 0 where
  -- the frame, if a member is expected and these follow it
  pub expected : Spellings → Frame
  -- the state, if these are expected
  pub here : Spellings → State
  pub begins : (s : Spelling) (ss : Spellings) → here (a_spelling s ss) ≡ at_item (expected ss ∷ fs)
  pub closes : (ss : Spellings) → close (expected ss ∷ fs) ≡ here ss

abbrev pub counted-leads : (fs : List Frame) → Leads fs
counted-leads fs = record { expected = λ ss. counted (spellings_count ss); here = λ ss. expect (spellings_count ss) fs; begins = λ s ss. refl; closes = λ ss. close-counted (spellings_count ss) fs }

abbrev pub array-leads : (fs : List Frame) → Leads fs
array-leads fs = record { expected = λ ss. indefinite_array; here = λ ss. at_item (indefinite_array ∷ fs); begins = λ s ss. refl; closes = λ ss. refl }

-- a map's keys and values are its members
abbrev pub map-leads : (fs : List Frame) → Leads fs
map-leads fs = record {
  expected = λ ss. indefinite_map (not (is_odd (spellings_count ss)));
  here = λ ss. at_item (indefinite_map (is_odd (spellings_count ss)) ∷ fs);
  begins = λ s ss. refl;
  closes = λ ss. ap (λ expected. at_item (indefinite_map expected ∷ fs)) (not-not (is_odd (spellings_count ss)));
}

pub map-even : (es : SpelledEntries) → is_odd (spellings_count (members es)) ≡ false
map-even es = ap is_odd (members-count es) ∙ double-even (entries_count es)

abbrev Forward : Spelling → Type 0
Forward s = (d : ℕ) (fs : List Frame) (rest : List ℕ) → IsSpelled s → depth s + length fs ≤ d → run d (at_item fs) (spell s ++ rest) ≡ reporting_all (trace s) (run d (close fs) rest)

abbrev pub AreForward : Spellings → Type 0
AreForward no_spellings = Unit {0}
AreForward (a_spelling s ss) = Forward s × AreForward ss

pub members-forward : (d : ℕ) (fs : List Frame) (l : Leads fs) (ss : Spellings) (rest : List ℕ) → AreForward ss → AreSpelled ss → depth_all ss + suc (length fs) ≤ d
    → run d (l.here ss) (spell_all ss ++ rest) ≡ reporting_all (trace_all ss) (run d (l.here no_spellings) rest)
members-forward d fs l no_spellings rest f h b = refl
members-forward d fs l (a_spelling s ss) rest f h b =
    ap (λ q. run d q ((spell s ++ spell_all ss) ++ rest)) (l.begins s ss)
    ∙ then-more d (at_item (l.expected ss ∷ fs)) (l.here ss) (l.here no_spellings) (spell s) (spell_all ss) rest (trace s) (trace_all ss)
    (λ more. f.0 d (l.expected ss ∷ fs) more h.0 (omega (arith, b)) ∙ ap (λ q. reporting_all (trace s) (run d q more)) (l.closes ss))
    (members-forward d fs l ss rest f.1 h.1 (omega (arith, b)))

entries-forward : (d : ℕ) (fs : List Frame) (l : Leads fs) (es : SpelledEntries) (rest : List ℕ) → AreForward (members es) → AreEntriesSpelled es → depth_entries es + suc (length fs) ≤ d
    → run d (l.here (members es)) (spell_entries es ++ rest) ≡ reporting_all (trace_entries es) (run d (l.here no_spellings) rest)
entries-forward d fs l es rest f h b = rw (← members-bytes es, ← members-marks es) (members-forward d fs l (members es) rest f (members-spelled es h) (omega (arith, members-depth es, b)))

mutual
  pub forward : (d : ℕ) (s : Spelling) (fs : List Frame) (rest : List ℕ) → IsSpelled s → depth s + length fs ≤ d
      → run d (at_item fs) (spell s ++ rest) ≡ reporting_all (trace s) (run d (close fs) rest)
  forward d (unsigned w n) fs rest h b = only-head d Unsigned fs (λ k. refl) refl w n rest h
  forward d (negative w n) fs rest h b = only-head d Negative fs (λ k. refl) refl w n rest h
  forward d (bytes w payload) fs rest h b = string-taken d (at_item fs) false Bytes fs (item_starts d Bytes fs (λ k. refl) refl) (λ n. refl) w payload rest h.0
  forward d (text w payload) fs rest h b = string-taken d (at_item fs) false Text fs (item_starts d Text fs (λ k. refl) refl) (λ n. refl) w payload rest h.0
  forward d (byte_chunks cs) fs rest h b = ap (reporting (a_head Bytes Indefinite 0)) (indefinite-taken d Bytes fs (chunk_starts d Bytes fs (λ k. refl) refl) cs rest h)
  forward d (text_chunks cs) fs rest h b = ap (reporting (a_head Text Indefinite 0)) (indefinite-taken d Text fs (chunk_starts d Text fs (λ k. refl) refl) cs rest h)
  forward d (array Indefinite ss) fs rest h b =
      step d (at_item fs) 0x9f (reports (a_head Array Indefinite 0) (at_item (indefinite_array ∷ fs))) ((spell_all ss ++ 0xff ∷ []) ++ rest)
      (ap (λ b. cond b (reports (a_head Array Indefinite 0) (at_item (indefinite_array ∷ fs))) (refuses (initial_reason 0x9f))) (space-above d fs (depth_all ss) b))
      ∙ ap (reporting (a_head Array Indefinite 0)) (open-taken d (at_item (indefinite_array ∷ fs)) fs (λ r. refl) (spell_all ss) (trace_all ss) rest
      (λ more. members-forward d fs (array-leads fs) ss more (forwards ss) h.1 (one-down (depth_all ss) (length fs) d b)))
  forward d (array w ss) fs rest h b =
      counted-taken d Array fs (λ k. refl) (space-above d fs (depth_all ss) b) w (spellings_count ss) h.0 (expect (spellings_count ss) fs) refl (spell_all ss) (trace_all ss) rest
      (members-forward d fs (counted-leads fs) ss rest (forwards ss) h.1 (one-down (depth_all ss) (length fs) d b))
  forward d (a_map Indefinite es) fs rest h b =
      step d (at_item fs) 0xbf (reports (a_head Map Indefinite 0) (at_item (indefinite_map false ∷ fs))) ((spell_entries es ++ 0xff ∷ []) ++ rest)
      (ap (λ b. cond b (reports (a_head Map Indefinite 0) (at_item (indefinite_map false ∷ fs))) (refuses (initial_reason 0xbf))) (space-above d fs (depth_entries es) b))
      ∙ ap (reporting (a_head Map Indefinite 0)) (open-taken d (at_item (indefinite_map false ∷ fs)) fs (λ r. refl) (spell_entries es) (trace_entries es) rest
      (λ more. ap (λ expected. run d (at_item (indefinite_map expected ∷ fs)) (spell_entries es ++ more)) (sym (map-even es))
      ∙ entries-forward d fs (map-leads fs) es more (forwards-entries es) h.1 (one-down (depth_entries es) (length fs) d b)))
  forward d (a_map w es) fs rest h b =
      counted-taken d Map fs (λ k. refl) (space-above d fs (depth_entries es) b) w (entries_count es) h.0 (expect (spellings_count (members es)) fs) (ap (λ n. expect n fs) (sym (members-count es))) (spell_entries es) (trace_entries es) rest
      (entries-forward d fs (counted-leads fs) es rest (forwards-entries es) h.1 (one-down (depth_entries es) (length fs) d b))
  forward d (tag w n s) fs rest h b =
      ap (run d (at_item fs)) (append_assoc (head Tag w n) (spell s) rest)
      ∙ only-head d Tag fs (λ k. refl) (space-above d fs (depth s) b) w n (spell s ++ rest) h.0
      ∙ ap (reporting (a_head Tag w n)) (forward d s (counted 0 ∷ fs) rest h.1 (one-down (depth s) (length fs) d b))
  forward d (simple n) fs rest h b = simple-taken d n fs rest h

  pub forwards : (ss : Spellings) → AreForward ss
  forwards no_spellings = tt
  forwards (a_spelling s ss) = (λ d fs rest h b. forward d s fs rest h b, forwards ss)

  pub forwards-entries : (es : SpelledEntries) → AreForward (members es)
  forwards-entries no_entries = tt
  forwards-entries (entry k v es) = (λ d fs rest h b. forward d k fs rest h b, (λ d fs rest h b. forward d v fs rest h b, forwards-entries es))
