-- The events of an item follow one another, report its trace, and no two pieces are neighbours.
use Rattle.std.proofs.Common.{◌≡◌, ℕ, suc, ◌+◌, ◌<◌, ◌^◌, Bool, true, false, cond, nat_lt, List, [], ◌∷◌, ◌++◌, length, replicate, flat_map, Some, None, refl, sym, ap, ap₂, ◌∙◌, subst, inl, inr, arith, append_assoc, append-nil, length-append}
use Rattle.std.{proofs.lemmas.Bool.cond_both, proofs.lemmas.Grind.flat_map-append, specs.List.AllByRecursion}
use Rattle.cbor_head.specs.Prelude.{Holds, head, shortest, Chunk, IsChunk, Spelling, Spellings, SpelledEntries, unsigned, negative, bytes, text, byte_chunks, text_chunks, array, a_map, tag, simple, no_spellings, a_spelling, no_entries, entry, spellings_count, entries_count, chunk_bytes, spell, spell_all, spell_entries, break_of, IsSpelled, AreSpelled, AreEntriesSpelled}
use Rattle.cbor_head.specs.declared.major.Major.TheVariants as majors
use Rattle.cbor_head.specs.declared.event.EventKind.TheVariants.{Unsigned, Negative, Simple, Bytes, Text, Chunk as ChunkHead, Array, Map, Tag, End}
use Rattle.cbor_head.specs.declared.{major.Major.Major, width.Width.Width, width.Width.TheVariants.Indefinite, event.Event.Event, event.EventKind.EventKind}
use Rattle.theory_automaton.specs.Trace.{Mark, a_head, a_chunk, a_byte, a_break, size, total, payload_marks, chunk_marks, opener, break_marks, trace, trace_all, trace_entries}
use Rattle.theory_automaton.specs.Marks.{marks_of, IsProper, IsDefinite}
use Rattle.theory_automaton.specs.Event.{event, count_at, payload_events, chunks_events, break_events, events, events_in, events_in_entries, marks_in, event_size, IsRow}
use Rattle.theory_automaton.proofs.Joining.{IsSingle, IsFresh, AreApart}
use Rattle.theory_automaton.proofs.Tiling.{head-size}

pub total-append : (ms ns : List Mark) → total (ms ++ ns) ≡ total ms + total ns
total-append [] ns = omega arith
total-append (m ∷ ms) ns = let e = total-append ms ns in omega (arith, e)

pub row-append : (at : ℕ) (es fs : List Event) → IsRow at es → IsRow (at + total (marks_in es)) fs → IsRow at (es ++ fs)
row-append at [] fs h k = let e : at + 0 ≡ at = omega arith in subst (λ (p : ℕ). IsRow p fs) e k
row-append at (e ∷ es) fs h k =
    let same : at + total (marks_in (e ∷ es)) ≡ at + event_size e + total (marks_in es) = omega (arith, total-append (marks_of e.width e.kind) (marks_in es)) in
    (h.0, h.1, row-append (at + event_size e) es fs h.2 (subst (λ (p : ℕ). IsRow p fs) same k))

apart-append : (es fs : List Event) → AreApart es → AreApart fs → IsFresh fs → AreApart (es ++ fs)
apart-append [] fs h k f = k
apart-append (e ∷ []) fs h k f = (inr f, k)
apart-append (e ∷ g ∷ es) fs h k f = (h.0, apart-append (g ∷ es) fs h.1 k f)

fresh-append : (es fs : List Event) → IsFresh es → IsFresh fs → IsFresh (es ++ fs)
fresh-append [] fs h k = k
fresh-append (e ∷ es) fs h k = h

-- events from an offset on, with their marks and their bytes
pub record Row (at : ℕ) (es : List Event) (ms : List Mark) (n : ℕ) : Type 0 where
  pub row : IsRow at es
  pub apart : AreApart es
  pub fresh : IsFresh es
  pub marks : marks_in es ≡ ms
  pub bytes : total ms ≡ n

none : (at : ℕ) → Row at [] [] 0
none at = record { row = tt; apart = tt; fresh = tt; marks = refl; bytes = refl }

append : (at n k : ℕ) (es fs : List Event) (ms ns : List Mark) → Row at es ms n → Row (at + n) fs ns k → Row at (es ++ fs) (ms ++ ns) (n + k)
append at n k es fs ms ns h i =
    let same : at + n ≡ at + total (marks_in es) = ap (λ j. at + j) (sym h.bytes ∙ ap total (sym h.marks)) in
    let first = h.bytes in
    let second = i.bytes in
    record {
      row = row-append at es fs h.row (subst (λ (p : ℕ). IsRow p fs) same i.row);
      apart = apart-append es fs h.apart i.apart i.fresh;
      fresh = fresh-append es fs h.fresh i.fresh;
      marks = flat_map-append (λ e. marks_of e.width e.kind) es fs ∙ ap₂ ◌++◌ h.marks i.marks;
      bytes = omega (arith, total-append ms ns, first, second);
    }

sized : (at n k : ℕ) (es : List Event) (ms : List Mark) → n ≡ k → Row at es ms n → Row at es ms k
sized at n k es ms e h = subst (λ (j : ℕ). Row at es ms j) e h

marked : (at n : ℕ) (es : List Event) (ms ns : List Mark) → ms ≡ ns → Row at es ms n → Row at es ns n
marked at n es ms ns e h = subst (λ (xs : List Mark). Row at es xs n) e h

one : (at : ℕ) (w : Width) (kind : EventKind) (m : Mark) (n : ℕ) → IsSingle kind → IsProper w kind → marks_of w kind ≡ m ∷ [] → size m ≡ n → Row at (event at w kind ∷ []) (m ∷ []) n
one at w kind m n s p e l = record {
  row = (refl, p, tt);
  apart = (inl s, tt);
  fresh = s;
  marks = append-nil (marks_of w kind) ∙ e;
  bytes = omega (arith, l);
}

pub definite : (w : Width) (n : ℕ) → Holds w n → IsDefinite w
definite Indefinite n h = absurd h
definite _ n h = tt

-- the head of an array or map, of any width
array-head : (at : ℕ) (w : Width) (n : ℕ) → Row at (event at w (Array (count_at w n)) ∷ []) (opener majors.Array w n ∷ []) (length (head majors.Array w n))
array-head at Indefinite n = one at Indefinite (Array None) (a_head majors.Array Indefinite 0) _ tt refl refl refl
array-head at w n = one at w (Array (Some n)) (a_head majors.Array w n) _ tt tt refl refl

map-head : (at : ℕ) (w : Width) (n : ℕ) → Row at (event at w (Map (count_at w n)) ∷ []) (opener majors.Map w n ∷ []) (length (head majors.Map w n))
map-head at Indefinite n = one at Indefinite (Map None) (a_head majors.Map Indefinite 0) _ tt refl refl refl
map-head at w n = one at w (Map (Some n)) (a_head majors.Map w n) _ tt tt refl refl

end-row : (at : ℕ) (w : Width) → Row at (break_events at w) (break_marks w) (length (break_of w))
end-row at Indefinite = one at Indefinite End a_break 1 tt refl refl refl
end-row at _ = none at

-- ---- strings

payload-total : (bs : List ℕ) → total (payload_marks bs) ≡ length bs
payload-total [] = refl
payload-total (b ∷ bs) = let e = payload-total bs in omega (arith, e)

bytes-marks : (bs : List ℕ) → replicate (length bs) a_byte ≡ payload_marks bs
bytes-marks [] = refl
bytes-marks (b ∷ bs) = ap (λ ms. a_byte ∷ ms) (bytes-marks bs)

string-row : (at : ℕ) (w : Width) (kind : EventKind) (m : Mark) (n : ℕ) (payload : List ℕ) → IsSingle kind → IsProper w kind → marks_of w kind ≡ m ∷ [] → size m ≡ n
    → Row at (event at w kind ∷ payload_events (at + n) payload) (m ∷ payload_marks payload) (n + length payload)
string-row at w kind m n [] s p e l = sized at n (n + 0) _ _ (omega arith) (one at w kind m n s p e l)
string-row at w kind m n (b ∷ bs) s p e l =
    let more = payload-total (b ∷ bs) in
    let to : at + n ≡ at + total (marks_of w kind) = omega (arith, ap total e, l) in
    let some : 0 < suc (length bs) = omega arith in
    record {
      row = (refl, p, (to, (refl, some), tt));
      apart = (inl s, (inr tt, tt));
      fresh = s;
      marks = ap₂ ◌++◌ e (append-nil (replicate (suc (length bs)) a_byte) ∙ bytes-marks (b ∷ bs));
      bytes = omega (arith, more, l);
    }

chunk-row : (at : ℕ) (major : Major) (c : Chunk) → IsChunk c
    → Row at (event at c.width (ChunkHead (length c.payload)) ∷ payload_events (at + length (head major c.width (length c.payload))) c.payload) (chunk_marks c) (length (chunk_bytes major c))
chunk-row at major c h =
    let n = length c.payload in
    let bytes = length (head major c.width n) in
    sized at (bytes + length c.payload) (length (chunk_bytes major c)) _ _ (sym (length-append (head major c.width n) c.payload))
    (string-row at c.width (ChunkHead n) (a_chunk c.width n) bytes c.payload tt (definite c.width n h.0) refl (sym (head-size major c.width n)))

chunks-row : (at : ℕ) (major : Major) (cs : List Chunk) → AllByRecursion IsChunk cs → Row at (chunks_events at major cs) (flat_map chunk_marks cs) (length (flat_map (chunk_bytes major) cs))
chunks-row at major [] h = none at
chunks-row at major (c ∷ cs) h =
    sized at (length (chunk_bytes major c) + length (flat_map (chunk_bytes major) cs)) _ _ _ (sym (length-append (chunk_bytes major c) (flat_map (chunk_bytes major) cs)))
    (append at _ _ _ _ _ _ (chunk-row at major c h.0) (chunks-row (at + length (chunk_bytes major c)) major cs h.1))

-- an indefinite string, whose opener is one byte
indefinite_string-row : (at : ℕ) (major : Major) (kind : EventKind) (m : Mark) (first : ℕ) (cs : List Chunk) → IsSingle kind → IsProper Indefinite kind → marks_of Indefinite kind ≡ m ∷ [] → size m ≡ 1 → AllByRecursion IsChunk cs
    → Row at (event at Indefinite kind ∷ (chunks_events (at + 1) major cs ++ event (at + 1 + length (flat_map (chunk_bytes major) cs)) Indefinite End ∷ [])) (m ∷ (flat_map chunk_marks cs ++ a_break ∷ []))
    (length (first ∷ (flat_map (chunk_bytes major) cs ++ 0xff ∷ [])))
indefinite_string-row at major kind m first cs s p e l h =
    let k = length (flat_map (chunk_bytes major) cs) in
    sized at (1 + (k + 1)) _ _ _ (omega (arith, length-append (flat_map (chunk_bytes major) cs) (0xff ∷ [])))
    (append at 1 (k + 1) _ _ _ _ (one at Indefinite kind m 1 s p e l)
    (append (at + 1) k 1 _ _ _ _ (chunks-row (at + 1) major cs h) (one (at + 1 + k) Indefinite End a_break 1 tt refl refl refl)))

-- ---- items

integer : (at : ℕ) (major : Major) (w : Width) (n : ℕ) (kind : EventKind) → IsSingle kind → IsProper w kind → marks_of w kind ≡ a_head major w n ∷ [] → Row at (event at w kind ∷ []) (a_head major w n ∷ []) (length (head major w n))
integer at major w n kind s p e = one at w kind (a_head major w n) _ s p e (sym (head-size major w n))

simple-width : (n : ℕ) → IsDefinite (shortest n)
simple-width n = chosen (nat_lt n 24) _ _ (λ a. tt) (λ a. chosen (nat_lt n (2 ^ 8)) _ _ (λ b. tt) (λ b. chosen (nat_lt n (2 ^ 16)) _ _ (λ c. tt) (λ c. chosen (nat_lt n (2 ^ 32)) _ _ (λ e. tt) (λ e. tt))))
  where
    chosen : (b : Bool) (v w : Width) → (b ≡ true → IsDefinite v) → (b ≡ false → IsDefinite w) → IsDefinite (cond b v w)
    chosen b v w f g = cond_both b v w IsDefinite f g

-- a head, what is within, and a break if there is one
container-row : (at : ℕ) (w : Width) (hd xs : List ℕ) (es fs : List Event) (ms ns : List Mark) → Row at es ms (length hd) → Row (at + length hd) fs ns (length xs)
    → Row at (es ++ (fs ++ break_events (at + length hd + length xs) w)) (ms ++ (ns ++ break_marks w)) (length ((hd ++ xs) ++ break_of w))
container-row at w hd xs es fs ms ns h i =
    let n = length xs + length (break_of w) in
    sized at (length hd + n) _ _ _ (omega (arith, length-append (hd ++ xs) (break_of w), length-append hd xs))
    (append at (length hd) n _ _ _ _ h (append (at + length hd) (length xs) (length (break_of w)) _ _ _ _ i (end-row (at + length hd + length xs) w)))

mutual
  pub events-row : (at : ℕ) (s : Spelling) → IsSpelled s → Row at (events at s) (trace s) (length (spell s))
  events-row at (unsigned w n) h = integer at majors.Unsigned w n (Unsigned n) tt (definite w n h) refl
  events-row at (negative w n) h = integer at majors.Negative w n (Negative n) tt (definite w n h) refl
  events-row at (bytes w payload) h =
      let n = length payload in
      sized at (length (head majors.Bytes w n) + n) _ _ _ (sym (length-append (head majors.Bytes w n) payload))
      (string-row at w (Bytes (Some n)) (a_head majors.Bytes w n) _ payload tt (definite w n h.0) refl (sym (head-size majors.Bytes w n)))
  events-row at (text w payload) h =
      let n = length payload in
      sized at (length (head majors.Text w n) + n) _ _ _ (sym (length-append (head majors.Text w n) payload))
      (string-row at w (Text (Some n)) (a_head majors.Text w n) _ payload tt (definite w n h.0) refl (sym (head-size majors.Text w n)))
  events-row at (byte_chunks cs) h = indefinite_string-row at majors.Bytes (Bytes None) (a_head majors.Bytes Indefinite 0) 0x5f cs tt refl refl refl h
  events-row at (text_chunks cs) h = indefinite_string-row at majors.Text (Text None) (a_head majors.Text Indefinite 0) 0x7f cs tt refl refl refl h
  events-row at (array w ss) h =
      let hd = head majors.Array w (spellings_count ss) in
      container-row at w hd (spell_all ss) _ _ _ _ (array-head at w (spellings_count ss)) (members-row (at + length hd) ss h.1)
  events-row at (a_map w es) h =
      let hd = head majors.Map w (entries_count es) in
      container-row at w hd (spell_entries es) _ _ _ _ (map-head at w (entries_count es)) (entries-row (at + length hd) es h.1)
  events-row at (tag w n s) h =
      let hd = head majors.Tag w n in
      sized at (length hd + length (spell s)) _ _ _ (sym (length-append hd (spell s)))
      (append at (length hd) (length (spell s)) _ _ _ _ (integer at majors.Tag w n (Tag n) tt (definite w n h.0) refl) (events-row (at + length hd) s h.1))
  events-row at (simple n) h = integer at majors.Simple (shortest n) n (Simple n) tt (simple-width n) refl

  members-row : (at : ℕ) (ss : Spellings) → AreSpelled ss → Row at (events_in at ss) (trace_all ss) (length (spell_all ss))
  members-row at no_spellings h = none at
  members-row at (a_spelling s ss) h =
      sized at (length (spell s) + length (spell_all ss)) _ _ _ (sym (length-append (spell s) (spell_all ss)))
      (append at (length (spell s)) (length (spell_all ss)) _ _ _ _ (events-row at s h.0) (members-row (at + length (spell s)) ss h.1))

  entries-row : (at : ℕ) (es : SpelledEntries) → AreEntriesSpelled es → Row at (events_in_entries at es) (trace_entries es) (length (spell_entries es))
  entries-row at no_entries h = none at
  entries-row at (entry k v es) h =
      let a = length (spell k) in
      let b = length (spell v) in
      let c = length (spell_entries es) in
      let all : a + (b + c) ≡ length ((spell k ++ spell v) ++ spell_entries es) = omega (arith, length-append (spell k ++ spell v) (spell_entries es), length-append (spell k) (spell v)) in
      marked at _ _ _ _ (sym (append_assoc (trace k) (trace v) (trace_entries es)))
      (sized at (a + (b + c)) _ _ _ all
      (append at a (b + c) _ _ _ _ (events-row at k h.0) (append (at + a) b c _ _ _ _ (events-row (at + a) v h.1) (entries-row (at + a + b) es h.2))))
