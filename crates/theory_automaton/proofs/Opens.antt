-- The containers that are open after some bytes of an item are those on the stack.
use Rattle.std.proofs.Common.{◌≡◌, ℕ, zero, suc, ◌+◌, ◌-◌, ◌*◌, ◌^◌, ◌&&◌, ◌<◌, ◌≤◌, Bool, true, false, nat_le, cond, List, [], ◌∷◌, ◌++◌, length, take, flat_map, refl, sym, ap, ◌∙◌, subst, inl, inr, arith, append_assoc, append-nil, lt-ltb, le-ltb, length-append, length-take-le}
use Rattle.std.proofs.lemmas.Bool.{cases_lt, le-leb, lt-leb}
use Rattle.std.{proofs.lemmas.List.take-append-le, proofs.Math.Seq.take-append_seam, specs.List.AllByRecursion, specs.Int.bytes_high_first}
use Rattle.cbor_head.specs.Prelude.{Holds, IsSimple, head, shortest, Chunk, IsChunk, Spelling, Spellings, SpelledEntries, unsigned, negative, bytes, text, byte_chunks, text_chunks, array, a_map, tag, simple, no_spellings, a_spelling, no_entries, entry, spellings_count, entries_count, spell, spell_all, spell_entries, chunk_bytes, string_bytes_of, IsSpelled, AreSpelled, depth, depth_all, depth_entries, IsItem, initial_reason}
use Rattle.cbor_head.specs.declared.major.Major.TheVariants.{Unsigned, Negative, Bytes, Text, Array, Map, Tag, Simple}
use Rattle.cbor_head.specs.declared.width.Width.TheVariants.{Direct, One, Two, Four, Eight, Indefinite}
use Rattle.cbor_head.specs.declared.{major.Major.Major, width.Width.Width}
use Rattle.theory_automaton.specs.Trace.{Mark, a_head, chunk_marks, trace}
use Rattle.theory_automaton.specs.Automaton.{Frame, counted, indefinite_array, indefinite_map, State, start, at_item, in_head, in_simple, in_payload, in_chunks, done, expect, payload, after, has_space, mark, refuses, tail, numbered_tail, take_byte, goes, reports, Outcome, refused, reached, reporting, run}
use Rattle.theory_automaton.specs.Open.{if_open, open_after, open_in}
use Rattle.theory_automaton.proofs.Forward.{Starts, item_starts, chunk_starts, step, head-taken, string-taken, reporting_all, Leads, counted-leads, array-leads, map-leads, map-even, forward, one-down, space-above}
use Rattle.theory_automaton.proofs.Members.{members, members-count, members-bytes, members-spelled, members-depth, members-open}
use Rattle.theory_automaton.proofs.{Agrees.is_odd, Beginnings.item-done, Runs.take-following}

abbrev pub stack : State → List Frame
stack (at_item fs) = fs
stack (in_head chunk m w k acc fs) = fs
stack (in_simple fs) = fs
stack (in_payload chunk m n fs) = fs
stack (in_chunks m fs) = fs
stack done = []

-- k containers are open where a run leads
abbrev pub Has : ℕ → Outcome → Type 0
Has k (refused r) = Unit {0}
Has k (reached q ms) = length (stack q) ≡ k

reporting-has : (k : ℕ) (m : Mark) (o : Outcome) → Has k o → Has k (reporting m o)
reporting-has k m (refused r) h = h
reporting-has k m (reached q ms) h = h

reporting_all-has : (k : ℕ) (ms : List Mark) (o : Outcome) → Has k o → Has k (reporting_all ms o)
reporting_all-has k [] o h = h
reporting_all-has k (m ∷ ms) o h = reporting-has k m (reporting_all ms o) (reporting_all-has k ms o h)

-- ---- within a head

argument-has : (d : ℕ) (chunk : Bool) (m : Major) (w : Width) (k acc : ℕ) (fs : List Frame) (bs : List ℕ) → length bs ≤ k → Has (length fs) (run d (in_head chunk m w k acc fs) bs)
argument-has d chunk m w k acc fs [] h = refl
argument-has d chunk m w zero acc fs (c ∷ cs) h = absurd (omega arith)
argument-has d chunk m w (suc k) acc fs (c ∷ cs) h = let less : length cs ≤ k = omega arith in argument-has d chunk m w k (acc * 256 + c) fs cs less

long-has : (d : ℕ) (q : State) (chunk : Bool) (m : Major) (w : Width) (k c : ℕ) (fs : List Frame) (bs : List ℕ) (t : ℕ) → length (stack q) ≡ length fs → take_byte d q c ≡ goes (in_head chunk m w k 0 fs)
    → length bs ≡ suc k → t < length (c ∷ bs) → Has (length fs) (run d q (take t (c ∷ bs)))
long-has d q chunk m w k c fs bs zero same e l h = same
long-has d q chunk m w k c fs bs (suc t) same e l h =
    let fits : length (take t bs) ≤ k = omega (arith, length-take-le t bs (omega arith)) in
    subst (λ (o : Outcome). Has (length fs) o) (sym (step d q c (goes (in_head chunk m w k 0 fs)) (take t bs) e)) (argument-has d chunk m w k 0 fs (take t bs) fits)

head-has : (d : ℕ) (q : State) (chunk : Bool) (m : Major) (fs : List Frame) → length (stack q) ≡ length fs → Starts d q chunk m fs → (w : Width) (n t : ℕ) → Holds w n → t < length (head m w n)
    → Has (length fs) (run d q (take t (head m w n)))
head-has d q chunk m fs same starts Direct n zero h b = same
head-has d q chunk m fs same starts Direct n (suc t) h b = absurd (omega arith)
head-has d q chunk m fs same starts One n t h b = long-has d q chunk m One 0 _ fs (bytes_high_first 1 n) t same starts.one refl b
head-has d q chunk m fs same starts Two n t h b = long-has d q chunk m Two 1 _ fs (bytes_high_first 2 n) t same starts.two refl b
head-has d q chunk m fs same starts Four n t h b = long-has d q chunk m Four 3 _ fs (bytes_high_first 4 n) t same starts.four refl b
head-has d q chunk m fs same starts Eight n t h b = long-has d q chunk m Eight 7 _ fs (bytes_high_first 8 n) t same starts.eight refl b
head-has d q chunk m fs same starts Indefinite n t h b = absurd h

-- ---- within a string

payload-has : (d : ℕ) (chunk : Bool) (m : Major) (fs : List Frame) (bs : List ℕ) (t : ℕ) → t < length bs → Has (length fs) (run d (payload chunk m (length bs) fs) (take t bs))
payload-has d chunk m fs [] t h = absurd (omega arith)
payload-has d chunk m fs (b ∷ bs) zero h = refl
payload-has d chunk m fs (b ∷ []) (suc t) h = absurd (omega arith)
payload-has d chunk m fs (b ∷ c ∷ bs) (suc t) h =
    let less : t < length (c ∷ bs) = omega arith in
    reporting-has (length fs) _ _ (payload-has d chunk m fs (c ∷ bs) t less)

string-has : (d : ℕ) (q : State) (chunk : Bool) (m : Major) (fs : List Frame) → length (stack q) ≡ length fs → Starts d q chunk m fs → ((n : ℕ) → after chunk m n fs ≡ payload chunk m n fs)
    → (w : Width) (bs : List ℕ) (t : ℕ) → Holds w (length bs) → t < length (string_bytes_of m w bs) → Has (length fs) (run d q (take t (string_bytes_of m w bs)))
string-has d q chunk m fs same starts leads w bs t h b = elim (cases_lt t (length (head m w (length bs)))) [
  | inl k ↦ subst (λ (xs : List ℕ). Has (length fs) (run d q xs)) (sym (take-append-le t (head m w (length bs)) bs (omega arith))) (head-has d q chunk m fs same starts w (length bs) t h k)
  | inr k ↦
      let n = length bs in
      let j = t - length (head m w n) in
      let sizes = length-append (head m w n) bs in
      let less : j < length bs = omega (arith, sizes) in
      let cut : run d q (take t (string_bytes_of m w bs)) ≡ reporting (mark chunk m w n) (run d (payload chunk m n fs) (take j bs)) =
      ap (run d q) (take-following t (head m w n) bs k) ∙ head-taken d q chunk m fs starts w n (take j bs) h ∙ ap (λ u. reporting (mark chunk m w n) (run d u (take j bs))) (leads n) in
      subst (λ (o : Outcome). Has (length fs) o) (sym cut) (reporting-has (length fs) _ _ (payload-has d chunk m fs bs j less))
]

chunks-has : (d : ℕ) (m : Major) (fs : List Frame) → Starts d (in_chunks m fs) true m fs → (cs : List Chunk) (t : ℕ) → AllByRecursion IsChunk cs → t < length (flat_map (chunk_bytes m) cs ++ 0xff ∷ [])
    → Has (length fs) (run d (in_chunks m fs) (take t (flat_map (chunk_bytes m) cs ++ 0xff ∷ [])))
chunks-has d m fs starts [] zero h b = refl
chunks-has d m fs starts [] (suc t) h b = absurd (omega arith)
chunks-has d m fs starts (c ∷ cs) t h b =
    let here = chunk_bytes m c in
    let rest = flat_map (chunk_bytes m) cs ++ 0xff ∷ [] in
    let all : (here ++ flat_map (chunk_bytes m) cs) ++ 0xff ∷ [] ≡ here ++ rest = append_assoc here (flat_map (chunk_bytes m) cs) (0xff ∷ []) in
    let sizes : length ((here ++ flat_map (chunk_bytes m) cs) ++ 0xff ∷ []) ≡ length here + length rest = ap length all ∙ length-append here rest in
    subst (λ (xs : List ℕ). Has (length fs) (run d (in_chunks m fs) (take t xs))) (sym all) (elim (cases_lt t (length here)) [
      | inl k ↦ subst (λ (xs : List ℕ). Has (length fs) (run d (in_chunks m fs) xs)) (sym (take-append-le t here rest (omega arith)))
          (string-has d (in_chunks m fs) true m fs refl starts (λ n. refl) c.width c.payload t h.0.0 k)
      | inr k ↦
          let j = t - length here in
          let less : j < length rest = omega (arith, sizes) in
          let cut = ap (run d (in_chunks m fs)) (take-following t here rest k) ∙ string-taken d (in_chunks m fs) true m fs starts (λ n. refl) c.width c.payload (take j rest) h.0.0 in
          subst (λ (o : Outcome). Has (length fs) o) (sym cut) (reporting_all-has (length fs) (chunk_marks c) _ (chunks-has d m fs starts cs j h.1 less))
    ])

-- ---- within a container

-- the open containers of an item, within these containers
abbrev Prefix : Spelling → Type 0
Prefix s = (d : ℕ) (fs : List Frame) (t : ℕ) → IsSpelled s → depth s + length fs ≤ d → t < length (spell s) → Has (length fs + open_after t s) (run d (at_item fs) (take t (spell s)))

abbrev Prefixes : Spellings → Type 0
Prefixes no_spellings = Unit {0}
Prefixes (a_spelling s ss) = Prefix s × Prefixes ss

none-more : (k : ℕ) (o : Outcome) → Has k o → Has (k + 0) o
none-more k o h = let e : k ≡ k + 0 = omega arith in subst (λ (n : ℕ). Has n o) e h

members-has : (d : ℕ) (fs : List Frame) (ending : List ℕ) (l : Leads fs) → ((t : ℕ) → t < length ending → Has (suc (length fs)) (run d (l.here no_spellings) (take t ending))) → (ss : Spellings) → Prefixes ss → AreSpelled ss → depth_all ss + suc (length fs) ≤ d
    → (t from : ℕ) → from ≤ t → t - from < length (spell_all ss ++ ending) → Has (suc (length fs) + open_in t from ss) (run d (l.here ss) (take (t - from) (spell_all ss ++ ending)))
members-has d fs ending l last no_spellings f h b t from k less = none-more (suc (length fs)) _ (last (t - from) less)
members-has d fs ending l last (a_spelling s ss) f h b t from k less =
    let rest = spell_all ss ++ ending in
    let all : (spell s ++ spell_all ss) ++ ending ≡ spell s ++ rest = append_assoc (spell s) (spell_all ss) ending in
    let sizes : length ((spell s ++ spell_all ss) ++ ending) ≡ length (spell s) + length rest = ap length all ∙ length-append (spell s) rest in
    subst (λ (xs : List ℕ). Has (suc (length fs) + open_in t from (a_spelling s ss)) (run d (l.here (a_spelling s ss)) (take (t - from) xs))) (sym all)
    (subst (λ (q : State). Has (suc (length fs) + open_in t from (a_spelling s ss)) (run d q (take (t - from) (spell s ++ rest)))) (sym (l.begins s ss))
    (elim (cases_lt (t - from) (length (spell s))) [
      | inl i ↦ rw (lt-ltb (t - from) (length (spell s)) i)
          (subst (λ (xs : List ℕ). Has (suc (length fs) + open_after (t - from) s) (run d (at_item (l.expected ss ∷ fs)) xs)) (sym (take-append-le (t - from) (spell s) rest (omega arith)))
          (f.0 d (l.expected ss ∷ fs) (t - from) h.0 (omega arith) i))
      | inr i ↦
          let j = from + length (spell s) in
          let same : t - from - length (spell s) ≡ t - j = omega arith in
          let fewer : t - j < length rest = omega (arith, sizes) in
          let deep : depth_all ss + suc (length fs) ≤ d = omega arith in
          let cut = ap (run d (at_item (l.expected ss ∷ fs))) (take-following (t - from) (spell s) rest i)
          ∙ forward d s (l.expected ss ∷ fs) (take (t - from - length (spell s)) rest) h.0 (omega arith)
          ∙ ap (λ q. reporting_all (trace s) (run d q (take (t - from - length (spell s)) rest))) (l.closes ss)
          ∙ ap (λ n. reporting_all (trace s) (run d (l.here ss) (take n rest))) same in
          rw (le-ltb (t - from) (length (spell s)) i)
          (subst (λ (o : Outcome). Has (suc (length fs) + open_in t j ss) o) (sym cut)
          (reporting_all-has (suc (length fs) + open_in t j ss) (trace s) _ (members-has d fs ending l last ss f.1 h.1 deep t j (omega arith) fewer)))
    ]))

-- a head, and what is within
container-has : (d : ℕ) (fs : List Frame) (hd xs all : List ℕ) (m : Mark) (u : State) (inner t : ℕ) → (t < length hd → Has (length fs) (run d (at_item fs) (take t hd)))
    → ((more : List ℕ) → run d (at_item fs) (hd ++ more) ≡ reporting m (run d u more))
    → (length hd ≤ t → t - length hd < length xs → Has (suc (length fs) + inner) (run d u (take (t - length hd) xs)))
    → all ≡ hd ++ xs → t < length all → Has (length fs + if_open t (length hd) (length all) inner) (run d (at_item fs) (take t all))
container-has d fs hd xs all m u inner t heads taken within e b = elim (cases_lt t (length hd)) [
  | inl k ↦
      let cut : take t all ≡ take t hd = ap (take t) e ∙ take-append-le t hd xs (omega arith) in
      rw (lt-leb (length hd) t k) (subst (λ (ys : List ℕ). Has (length fs + 0) (run d (at_item fs) ys)) (sym cut) (none-more (length fs) _ (heads k)))
  | inr k ↦
      let sizes : length all ≡ length hd + length xs = ap length e ∙ length-append hd xs in
      let cut : run d (at_item fs) (take t all) ≡ reporting m (run d u (take (t - length hd) xs)) = ap (run d (at_item fs)) (ap (take t) e ∙ take-following t hd xs k) ∙ taken (take (t - length hd) xs) in
      let one : suc (length fs) + inner ≡ length fs + suc inner = omega arith in
      rw (le-leb (length hd) t k, lt-ltb t (length all) b)
      (subst (λ (o : Outcome). Has (length fs + suc inner) o) (sym cut)
      (subst (λ (n : ℕ). Has n (reporting m (run d u (take (t - length hd) xs)))) one
      (reporting-has (suc (length fs) + inner) m _ (within k (omega (arith, sizes))))))
]

first-has : (d : ℕ) (q : State) (fs : List Frame) (c t : ℕ) → length (stack q) ≡ length fs → t < length (c ∷ []) → Has (length fs) (run d q (take t (c ∷ [])))
first-has d q fs c zero e h = e
first-has d q fs c (suc t) e h = absurd (omega arith)

-- ---- any item

simple-has : (d : ℕ) (fs : List Frame) (n t : ℕ) → IsSimple n → t < length (head Simple (shortest n) n) → Has (length fs) (run d (at_item fs) (take t (head Simple (shortest n) n)))
simple-has d fs n zero s h = refl
simple-has d fs n (suc t) s h = elim (cases_lt n 24) [
  | inl l ↦
      let e : shortest n ≡ Direct = rw (lt-ltb n 24 l) in
      let one : length (head Simple (shortest n) n) ≡ 1 = ap (λ w. length (head Simple w n)) e in
      absurd (omega (arith, one))
  | inr l ↦
      let e : shortest n ≡ One = rw (le-ltb n 24 l, lt-ltb n (2 ^ 8) s.0) in
      let two : length (head Simple (shortest n) n) ≡ 2 = ap (λ w. length (head Simple w n)) e in
      let last : t ≡ 0 = omega (arith, two) in
      subst (λ (w : Width). Has (length fs) (run d (at_item fs) (take (suc t) (head Simple w n)))) (sym e)
      (subst (λ (k : ℕ). Has (length fs) (run d (at_item fs) (take (suc k) (head Simple One n)))) (sym last) refl)
]

indefinite_string-has : (d : ℕ) (fs : List Frame) (m : Major) (cs : List Chunk) (first t : ℕ) → Starts d (in_chunks m fs) true m fs → ((more : List ℕ) → run d (at_item fs) (first ∷ more) ≡ reporting (a_head m Indefinite 0) (run d (in_chunks m fs) more))
    → AllByRecursion IsChunk cs → t < length (first ∷ (flat_map (chunk_bytes m) cs ++ 0xff ∷ [])) → Has (length fs) (run d (at_item fs) (take t (first ∷ (flat_map (chunk_bytes m) cs ++ 0xff ∷ []))))
indefinite_string-has d fs m cs first zero starts taken h l = refl
indefinite_string-has d fs m cs first (suc t) starts taken h l =
    let rest = flat_map (chunk_bytes m) cs ++ 0xff ∷ [] in
    let less : t < length rest = omega arith in
    subst (λ (o : Outcome). Has (length fs) o) (sym (taken (take t rest))) (reporting-has (length fs) (a_head m Indefinite 0) _ (chunks-has d m fs starts cs t h less))

counted-has : (d : ℕ) (fs : List Frame) (m : Major) (w : Width) (n : ℕ) (ss : Spellings) (all : List ℕ) (t : ℕ) → ((k : ℕ) → tail m k ≡ numbered_tail m k) → has_space d fs m ≡ true → Holds w n
    → after false m n fs ≡ expect (spellings_count ss) fs → Prefixes ss → AreSpelled ss → depth_all ss + suc (length fs) ≤ d → all ≡ head m w n ++ (spell_all ss ++ []) → t < length all
    → Has (length fs + if_open t (length (head m w n)) (length all) (open_in t (length (head m w n)) ss)) (run d (at_item fs) (take t all))
counted-has d fs m w n ss all t plain space h leads f hs b e l =
    let starts = item_starts d m fs plain space in
    container-has d fs (head m w n) (spell_all ss ++ []) all (a_head m w n) (expect (spellings_count ss) fs) (open_in t (length (head m w n)) ss) t
    (λ k. head-has d (at_item fs) false m fs refl starts w n t h k)
    (λ more. head-taken d (at_item fs) false m fs starts w n more h ∙ ap (λ q. reporting (a_head m w n) (run d q more)) leads)
    (λ k less. members-has d fs [] (counted-leads fs) (λ j none. absurd (omega (arith, none))) ss f hs b t (length (head m w n)) k less)
    e l

mutual
  prefix : (s : Spelling) → Prefix s
  prefix (unsigned w n) = λ d fs t h b l. none-more (length fs) _ (head-has d (at_item fs) false Unsigned fs refl (item_starts d Unsigned fs (λ k. refl) refl) w n t h l)
  prefix (negative w n) = λ d fs t h b l. none-more (length fs) _ (head-has d (at_item fs) false Negative fs refl (item_starts d Negative fs (λ k. refl) refl) w n t h l)
  prefix (bytes w payload) = λ d fs t h b l. none-more (length fs) _ (string-has d (at_item fs) false Bytes fs refl (item_starts d Bytes fs (λ k. refl) refl) (λ n. refl) w payload t h.0 l)
  prefix (text w payload) = λ d fs t h b l. none-more (length fs) _ (string-has d (at_item fs) false Text fs refl (item_starts d Text fs (λ k. refl) refl) (λ n. refl) w payload t h.0 l)
  prefix (byte_chunks cs) = λ d fs t h b l. none-more (length fs) _ (indefinite_string-has d fs Bytes cs 0x5f t (chunk_starts d Bytes fs (λ k. refl) refl) (λ more. refl) h l)
  prefix (text_chunks cs) = λ d fs t h b l. none-more (length fs) _ (indefinite_string-has d fs Text cs 0x7f t (chunk_starts d Text fs (λ k. refl) refl) (λ more. refl) h l)
  prefix (array Indefinite ss) = λ d fs t h b l.
      container-has d fs (0x9f ∷ []) (spell_all ss ++ 0xff ∷ []) (spell (array Indefinite ss)) (a_head Array Indefinite 0) (at_item (indefinite_array ∷ fs)) (open_in t 1 ss) t
      (λ k. first-has d (at_item fs) fs 0x9f t refl k)
      (λ more. step d (at_item fs) 0x9f (reports (a_head Array Indefinite 0) (at_item (indefinite_array ∷ fs))) more
      (ap (λ b. cond b (reports (a_head Array Indefinite 0) (at_item (indefinite_array ∷ fs))) (refuses (initial_reason 0x9f))) (space-above d fs (depth_all ss) b)))
      (λ k less. members-has d fs (0xff ∷ []) (array-leads fs) (λ j one. first-has d (at_item (indefinite_array ∷ fs)) (indefinite_array ∷ fs) 0xff j refl one) ss (prefixes ss) h.1 (one-down (depth_all ss) (length fs) d b) t 1 k less)
      refl l
  prefix (array w ss) = λ d fs t h b l.
      counted-has d fs Array w (spellings_count ss) ss (spell (array w ss)) t (λ k. refl) (space-above d fs (depth_all ss) b) h.0 refl (prefixes ss) h.1 (one-down (depth_all ss) (length fs) d b)
      (append_assoc (head Array w (spellings_count ss)) (spell_all ss) []) l
  prefix (a_map Indefinite es) = λ d fs t h b l.
      let deep = members-depth es in
      subst (λ (n : ℕ). Has (length fs + if_open t 1 (length (spell (a_map Indefinite es))) n) (run d (at_item fs) (take t (spell (a_map Indefinite es))))) (members-open t 1 es)
      (container-has d fs (0xbf ∷ []) (spell_all (members es) ++ 0xff ∷ []) (spell (a_map Indefinite es)) (a_head Map Indefinite 0) (at_item (indefinite_map (is_odd (spellings_count (members es))) ∷ fs)) (open_in t 1 (members es)) t
      (λ k. first-has d (at_item fs) fs 0xbf t refl k)
      (λ more. step d (at_item fs) 0xbf (reports (a_head Map Indefinite 0) (at_item (indefinite_map false ∷ fs))) more
      (ap (λ b. cond b (reports (a_head Map Indefinite 0) (at_item (indefinite_map false ∷ fs))) (refuses (initial_reason 0xbf))) (space-above d fs (depth_entries es) b))
      ∙ ap (λ expected. reporting (a_head Map Indefinite 0) (run d (at_item (indefinite_map expected ∷ fs)) more)) (sym (map-even es)))
      (λ k less. members-has d fs (0xff ∷ []) (map-leads fs) (λ j one. first-has d (at_item (indefinite_map false ∷ fs)) (indefinite_map false ∷ fs) 0xff j refl one) (members es) (prefixes-entries es) (members-spelled es h.1) (omega (arith, deep, one-down (depth_entries es) (length fs) d b)) t 1 k less)
      (ap (λ xs. 0xbf ∷ (xs ++ 0xff ∷ [])) (sym (members-bytes es))) l)
  prefix (a_map w es) = λ d fs t h b l.
      let deep = members-depth es in
      let hd = head Map w (entries_count es) in
      subst (λ (n : ℕ). Has (length fs + if_open t (length hd) (length (spell (a_map w es))) n) (run d (at_item fs) (take t (spell (a_map w es))))) (members-open t (length hd) es)
      (counted-has d fs Map w (entries_count es) (members es) (spell (a_map w es)) t (λ k. refl) (space-above d fs (depth_entries es) b) h.0 (ap (λ n. expect n fs) (sym (members-count es)))
      (prefixes-entries es) (members-spelled es h.1) (omega (arith, deep, one-down (depth_entries es) (length fs) d b))
      (append_assoc hd (spell_entries es) [] ∙ ap (λ xs. hd ++ (xs ++ [])) (sym (members-bytes es))) l)
  prefix (tag w n s) = λ d fs t h b l.
      let hd = head Tag w n in
      let starts = item_starts d Tag fs (λ k. refl) (space-above d fs (depth s) b) in
      container-has d fs hd (spell s) (spell (tag w n s)) (a_head Tag w n) (at_item (counted 0 ∷ fs)) (open_after (t - length hd) s) t
      (λ k. head-has d (at_item fs) false Tag fs refl starts w n t h.0 k)
      (λ more. head-taken d (at_item fs) false Tag fs starts w n more h.0)
      (λ k less. prefix s d (counted 0 ∷ fs) (t - length hd) h.1 (one-down (depth s) (length fs) d b) less)
      refl l
  prefix (simple n) = λ d fs t h b l. none-more (length fs) _ (simple-has d fs n t h l)

  prefixes : (ss : Spellings) → Prefixes ss
  prefixes no_spellings = tt
  prefixes (a_spelling s ss) = (prefix s, prefixes ss)

  prefixes-entries : (es : SpelledEntries) → Prefixes (members es)
  prefixes-entries no_entries = tt
  prefixes-entries (entry k v es) = (prefix k, (prefix v, prefixes-entries es))

-- ---- after an item nothing of it is open

pub over-none : (t hd all inner : ℕ) → all ≤ t → if_open t hd all inner ≡ 0
over-none t hd all inner h = rw (le-ltb t all h) (both (nat_le hd t))
  where
    both : (b : Bool) → cond (b && false) (suc inner) 0 ≡ 0
    both true = refl
    both false = refl

after-none : (t : ℕ) (s : Spelling) → length (spell s) ≤ t → open_after t s ≡ 0
after-none t (array w ss) h = over-none t _ _ _ h
after-none t (a_map w es) h = over-none t _ _ _ h
after-none t (tag w n s) h = over-none t _ _ _ h
after-none t _ h = refl

-- the open containers of each item that starts with these bytes are those on the stack
pub opens : (d : ℕ) (s : Spelling) (p rest : List ℕ) (q : State) (ms : List Mark) → IsItem d s (p ++ rest) → run d start p ≡ reached q ms → length (stack q) ≡ open_after (length p) s
opens d s p [] q ms i e =
    let whole : spell s ≡ p = i.bytes_are ∙ append-nil p in
    let all = sym (item-done d s p (record { spelled = i.spelled; within = i.within; bytes_are = whole })) ∙ e in
    let same : done ≡ q = cc in
    let size = ap length whole in
    ap (λ u. length (stack u)) (sym same) ∙ sym (after-none (length p) s (omega (arith, size)))
opens d s p (c ∷ cs) q ms i e =
    let size : length (spell s) ≡ length p + suc (length cs) = ap length i.bytes_are ∙ length-append p (c ∷ cs) in
    let cut : take (length p) (spell s) ≡ p = ap (take (length p)) i.bytes_are ∙ take-append_seam p (c ∷ cs) in
    let deep : depth s + 0 ≤ d = omega (arith, i.within) in
    let has = prefix s d [] (length p) i.spelled deep (omega arith) in
    let here : Has (0 + open_after (length p) s) (reached q ms) = subst (λ (o : Outcome). Has (0 + open_after (length p) s) o) (ap (run d start) cut ∙ e) has in
    let none : 0 + open_after (length p) s ≡ open_after (length p) s = omega arith in
    here ∙ none
