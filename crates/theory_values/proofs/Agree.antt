-- Items that begin with the same bytes have the same complaints within these bytes.
use Rattle.std.proofs.Common.{ℕ, suc, ◌+◌, ◌≡◌, ◌<◌, ◌≤◌, ◌⊎◌, Bool, true, false, List, [], ◌∷◌, ◌++◌, length, refl, sym, ap, ◌∙◌, arith, subst, flat_map, inl, inr, length-append, append_assoc, append-nil}
use Rattle.std.specs.List.{AllByRecursion}
use Rattle.cbor_head.specs.Prelude.{head, Chunk, Spelling, Spellings, SpelledEntries, unsigned, negative, bytes, text, byte_chunks, text_chunks, array, a_map, tag, simple, no_spellings, a_spelling, no_entries, entry, spell, spell_all, spell_entries, spellings_count, entries_count, IsSpelled, AreSpelled, AreEntriesSpelled, IsChunk, chunk_bytes, break_of, IsItem, Rules, Complaint, OfHead, OfIndefinite, OfCount, OfString, OfChunks, OfKey, ComplainsBy, ComplainsInBy, ComplainsInEntriesBy, Complains}
use Rattle.cbor_head.specs.declared.major.Major.TheVariants.{Unsigned, Negative, Bytes, Text, Array, Map, Tag}
use Rattle.cbor_head.specs.declared.{major.Major.Major, width.Width.Width, width.Width.TheVariants.Direct, width.Width.TheVariants.Indefinite}
use Rattle.cbor_head.proofs.HeadLaws.{reported}
use Rattle.theory_values.proofs.Alike.{Both, Past, past, past_length, prefix_both, recut, enter, enter_same, whole, past_item, not_break, not_closed}
use Rattle.theory_values.proofs.Ends.{head_later, chunks_later, payload_end, key_end, key_later, later_by, later_in_by, later_entries_by}
use Rattle.theory_values.proofs.Parts.{body, as_unsigned, as_negative, as_bytes, as_text, as_byte_chunks, as_text_chunks, as_array, as_map, as_tag}
use Rattle.theory_values.proofs.ReadLaws.{unique}
-- what is cited with it
pub use Rattle.theory_values.proofs.Alike.{split_prefix}
pub use Rattle.theory_values.proofs.Ends.{head_end, count_later, payload_end, string_later, chunks_later, key_end, later, later_in, later_entries}
pub use Rattle.theory_values.proofs.Parts.{major, width, count, body, head_of, parts}

-- ---- numbers and strings

agree_bytes : (K : ℕ → List Spelling → Spelling → Complaint → Type 0) (w : Width) (q : List ℕ) (t : Spelling) → IsSpelled (bytes w q) → IsSpelled t → (p : List ℕ) → Both (spell (bytes w q)) (spell t) p → (r : Rules) (at : ℕ) (c : Complaint) → c.end ≤ at + length p → ComplainsBy r K at (bytes w q) c → ComplainsBy r K at t c
agree_bytes K w q t i j p both r at c l h =
    let first = head_later r at Bytes w (length q) c h in
    let e = enter (bytes w q) t i j p both (omega arith) in
    let v = as_bytes t w (length q) j i.0 e.same in
    subst (λ (t : Spelling). ComplainsBy r K at t c) (sym v.1) (subst (λ (n : ℕ). OfHead r at Bytes w n c) v.2 h)

agree_text : (K : ℕ → List Spelling → Spelling → Complaint → Type 0) (w : Width) (q : List ℕ) (t : Spelling) → IsSpelled (text w q) → IsSpelled t → (p : List ℕ) → Both (spell (text w q)) (spell t) p → (r : Rules) (at : ℕ) (c : Complaint) → c.end ≤ at + length p → ComplainsBy r K at (text w q) c → ComplainsBy r K at t c
agree_text K w q t i j p both r at c l (inl h) =
    let first = head_later r at Text w (length q) c h in
    let e = enter (text w q) t i j p both (omega arith) in
    let v = as_text t w (length q) j i.0 e.same in
    subst (λ (t : Spelling). ComplainsBy r K at t c) (sym v.1) (inl (subst (λ (n : ℕ). OfHead r at Text w n c) v.2 h))
agree_text K w q t i j p both r at c l (inr h) =
    let end = payload_end r (at + length (head Text w (length q))) q c h in
    let same = whole (text w q) t i j p both (omega (arith, length-append (head Text w (length q)) q)) in
    subst (λ (t : Spelling). ComplainsBy r K at t c) same (inr h)

-- ---- chunks

-- a chunk as an item
abbrev item : Bool → Chunk → Spelling
item true k = text k.width k.payload
item false k = bytes k.width k.payload

abbrev kind : Bool → Major
kind true = Text
kind false = Bytes

item_spelled : (b : Bool) (k : Chunk) → IsChunk k → IsSpelled (item b k)
item_spelled true k h = h
item_spelled false k h = h

item_bytes : (b : Bool) (k : Chunk) → spell (item b k) ≡ chunk_bytes (kind b) k
item_bytes true k = refl
item_bytes false k = refl

abbrev chunk_of : Spelling → Chunk
chunk_of (bytes w q) = record { width = w; payload = q }
chunk_of (text w q) = record { width = w; payload = q }
chunk_of _ = record { width = Direct; payload = [] }

item_back : (b : Bool) (k : Chunk) → chunk_of (item b k) ≡ k
item_back true k = refl
item_back false k = refl

item_complains : (b : Bool) (k l : Chunk) → IsChunk k → IsChunk l → (p : List ℕ) → Both (chunk_bytes (kind b) k) (chunk_bytes (kind b) l) p → (r : Rules) (at : ℕ) (c : Complaint) → c.end ≤ at + length p
    → OfString r at (kind b) k.width k.payload c → OfString r at (kind b) l.width l.payload c
item_complains true k l i j p both r at c m h = agree_text (OfKey r.keys) k.width k.payload (text l.width l.payload) i j p both r at c m h
item_complains false k l i j p both r at c m h = agree_bytes (OfKey r.keys) k.width k.payload (bytes l.width l.payload) i j p both r at c m h

one_chunk : (b : Bool) (k l : Chunk) → IsChunk k → IsChunk l → (x y : List ℕ) → chunk_bytes (kind b) k ++ x ≡ chunk_bytes (kind b) l ++ y → (k ≡ l) × (x ≡ y)
one_chunk b k l i j x y e =
    let f : spell (item b k) ++ x ≡ spell (item b l) ++ y = ap (λ (q : List ℕ). q ++ x) (item_bytes b k) ∙ e ∙ ap (λ (q : List ℕ). q ++ y) (sym (item_bytes b l)) in
    let u = unique (item b k) (item b l) (item_spelled b k i) (item_spelled b l j) x y f in
    (sym (item_back b k) ∙ ap chunk_of u.0 ∙ item_back b l, u.1)

abbrev flat : Bool → List Chunk → List ℕ
flat b ks = flat_map (chunk_bytes (kind b)) ks

agree_chunks : (b : Bool) (ks ls : List Chunk) → AllByRecursion IsChunk ks → AllByRecursion IsChunk ls → (p : List ℕ) → Both (flat b ks ++ (0xff ∷ [])) (flat b ls ++ (0xff ∷ [])) p → (r : Rules) (at : ℕ) (c : Complaint) → c.end ≤ at + length p → OfChunks r at (kind b) ks c → OfChunks r at (kind b) ls c
agree_chunks b [] ls i j p both r at c m h = absurd h
agree_chunks b (k ∷ ks) [] i j p both r at c m h =
    let some = chunks_later r at (kind b) (k ∷ ks) c h in
    let rest = flat b ks ++ (0xff ∷ []) in
    let e = append_assoc (chunk_bytes (kind b) k) (flat b ks) (0xff ∷ []) ∙ ap (λ (q : List ℕ). q ++ rest) (sym (item_bytes b k)) in
    absurd (not_break (item b k) (item_spelled b k i.0) rest [] p (recut p e refl both) (omega arith))
agree_chunks b (k ∷ ks) (l ∷ ls) i j p both r at c m (inl h) =
    let b1 = recut p (append_assoc (chunk_bytes (kind b) k) (flat b ks) (0xff ∷ [])) (append_assoc (chunk_bytes (kind b) l) (flat b ls) (0xff ∷ [])) both in
    inl (item_complains b k l i.0 j.0 p (prefix_both (chunk_bytes (kind b) k) (flat b ks ++ (0xff ∷ [])) (chunk_bytes (kind b) l) (flat b ls ++ (0xff ∷ [])) p b1) r at c m h)
agree_chunks b (k ∷ ks) (l ∷ ls) i j p both r at c m (inr h) =
    let b1 = recut p (append_assoc (chunk_bytes (kind b) k) (flat b ks) (0xff ∷ [])) (append_assoc (chunk_bytes (kind b) l) (flat b ls) (0xff ∷ [])) both in
    let end = chunks_later r (at + length (chunk_bytes (kind b) k)) (kind b) ks c h in
    let q = past (chunk_bytes (kind b) k) (flat b ks ++ (0xff ∷ [])) (chunk_bytes (kind b) l) (flat b ls ++ (0xff ∷ [])) p (k ≡ l) b1 (omega arith) (one_chunk b k l i.0 j.0) in
    let len : length p ≡ length (chunk_bytes (kind b) k) + length q.k = ap length q.is ∙ length-append (chunk_bytes (kind b) k) q.k in
    let more = agree_chunks b ks ls i.1 j.1 q.k q.both r (at + length (chunk_bytes (kind b) k)) c (omega arith) h in
    inr (subst (λ (o : Chunk). OfChunks r (at + length (chunk_bytes (kind b) o)) (kind b) ls c) q.same more)

agree_chunked : (b : Bool) (cs ds : List Chunk) → AllByRecursion IsChunk cs → AllByRecursion IsChunk ds → (r : Rules) (at : ℕ) (p : List ℕ) (c : Complaint)
    → Past (head (kind b) Indefinite 0) (flat b cs ++ (0xff ∷ [])) (flat b ds ++ (0xff ∷ [])) p (Unit {0}) → c.end ≤ at + length p
    → OfIndefinite r at c ⊎ OfChunks r (at + 1) (kind b) cs c → OfIndefinite r at c ⊎ OfChunks r (at + 1) (kind b) ds c
agree_chunked b cs ds i j r at p c q m (inl h) = inl h
agree_chunked b cs ds i j r at p c q m (inr h) =
    let len : length p ≡ 1 + length q.k = ap length q.is ∙ length-append (head (kind b) Indefinite 0) q.k in
    inr (agree_chunks b cs ds i j q.k q.both r (at + 1) c (omega arith) h)

-- ---- arrays, maps and tags

as_count : (r : Rules) (at : ℕ) (m : Major) (w : Width) (n i : ℕ) (c : Complaint) → reported w n ≡ reported w i → OfCount r at m w n c → OfCount r at m w i c
as_count r at m Indefinite n i c e h = h
as_count r at m w n i c e h = subst (λ (n : ℕ). OfHead r at m w n c) e h

pub same_length : (m : Major) (w : Width) (n i : ℕ) → length (head m w n) ≡ length (head m w i)
same_length m Direct n i = refl
same_length m _ n i = refl

pub reported_less : (w : Width) (n i : ℕ) → reported w (suc n) ≡ reported w (suc i) → reported w n ≡ reported w i
reported_less Indefinite n i e = refl
reported_less _ n i e = omega arith

pub reported_none : (w : Width) (n : ℕ) → reported w (suc n) ≡ reported w 0 → w ≡ Indefinite
reported_none Indefinite n e = refl
reported_none _ n e = absurd (omega arith)

either_part : {A B C D : Type 0} → (A → C) → (B → D) → A ⊎ B → C ⊎ D
either_part f g (inl a) = inl (f a)
either_part f g (inr b) = inr (g b)

-- a key, a value, the other pairs and the end
pub pairs_assoc : (a b c d : List ℕ) → a ++ b ++ c ++ d ≡ a ++ (b ++ (c ++ d))
pairs_assoc a b c d = append_assoc (a ++ b) c d ∙ append_assoc a b (c ++ d)

-- what is asked of a key: its complaints end after it begins, and are those of each key with the same bytes before they end
module _ (K : ℕ → List Spelling → Spelling → Complaint → Type 0) (key : (at : ℕ) (before : List Spelling) (k : Spelling) (c : Complaint) → K at before k c → at < c.end)
    (same : (k m : Spelling) → IsSpelled k → IsSpelled m → (p : List ℕ) → Both (spell k) (spell m) p → (at : ℕ) (before : List Spelling) (c : Complaint) → c.end ≤ at + length p → K at before k c → K at before m c) where
  mutual
    pub agree : (s t : Spelling) → IsSpelled s → IsSpelled t → (p : List ℕ) → Both (spell s) (spell t) p → (r : Rules) (at : ℕ) (c : Complaint) → c.end ≤ at + length p → ComplainsBy r K at s c → ComplainsBy r K at t c
    agree (unsigned w n) t i j p both r at c l h =
        let first = head_later r at Unsigned w n c h in
        let e = enter (unsigned w n) t i j p both (omega arith) in
        subst (λ (t : Spelling). ComplainsBy r K at t c) (sym (as_unsigned t w n j i e.same)) h
    agree (negative w n) t i j p both r at c l h =
        let first = head_later r at Negative w n c h in
        let e = enter (negative w n) t i j p both (omega arith) in
        subst (λ (t : Spelling). ComplainsBy r K at t c) (sym (as_negative t w n j i e.same)) h
    agree (bytes w q) t i j p both r at c l h = agree_bytes K w q t i j p both r at c l h
    agree (text w q) t i j p both r at c l h = agree_text K w q t i j p both r at c l h
    agree (byte_chunks cs) t i j p both r at c l h =
        let first = later_by K key (byte_chunks cs) r at c h in
        let e = enter (byte_chunks cs) t i j p both (omega arith) in
        let v = as_byte_chunks t j e.same in
        subst (λ (t : Spelling). ComplainsBy r K at t c) (sym v.1) (agree_chunked false cs v.0 i (subst IsSpelled v.1 j) r at p c (enter_same (byte_chunks cs) t (byte_chunks v.0) i j v.1 p both (omega arith)) l h)
    agree (text_chunks cs) t i j p both r at c l h =
        let first = later_by K key (text_chunks cs) r at c h in
        let e = enter (text_chunks cs) t i j p both (omega arith) in
        let v = as_text_chunks t j e.same in
        subst (λ (t : Spelling). ComplainsBy r K at t c) (sym v.1) (agree_chunked true cs v.0 i (subst IsSpelled v.1 j) r at p c (enter_same (text_chunks cs) t (text_chunks v.0) i j v.1 p both (omega arith)) l h)
    agree (array w ss) t i j p both r at c l h =
        let first = later_by K key (array w ss) r at c h in
        let e = enter (array w ss) t i j p both (omega arith) in
        let v = as_array t w (spellings_count ss) e.same in
        let q = enter_same (array w ss) t (array w v.0) i j v.1 p both (omega arith) in
        let len = past_length (head Array w (spellings_count ss)) (body (array w ss)) (body (array w v.0)) p (Unit {0}) q in
        let k : IsSpelled (array w v.0) = subst IsSpelled v.1 j in
        subst (λ (t : Spelling). ComplainsBy r K at t c) (sym v.1) (either_part (as_count r at Array w (spellings_count ss) (spellings_count v.0) c v.2)
        (λ (m : ComplainsInBy r K (at + length (head Array w (spellings_count ss))) ss c).
        subst (λ (n : ℕ). ComplainsInBy r K (at + n) v.0 c) (same_length Array w (spellings_count ss) (spellings_count v.0))
        (agree_all ss v.0 i.1 k.1 w v.2 q.k q.both r (at + length (head Array w (spellings_count ss))) c (omega arith) m)) h)
    agree (a_map w es) t i j p both r at c l h =
        let first = later_by K key (a_map w es) r at c h in
        let e = enter (a_map w es) t i j p both (omega arith) in
        let v = as_map t w (entries_count es) e.same in
        let q = enter_same (a_map w es) t (a_map w v.0) i j v.1 p both (omega arith) in
        let len = past_length (head Map w (entries_count es)) (body (a_map w es)) (body (a_map w v.0)) p (Unit {0}) q in
        let k : IsSpelled (a_map w v.0) = subst IsSpelled v.1 j in
        subst (λ (t : Spelling). ComplainsBy r K at t c) (sym v.1) (either_part (as_count r at Map w (entries_count es) (entries_count v.0) c v.2)
        (λ (m : ComplainsInEntriesBy r K (at + length (head Map w (entries_count es))) [] es c).
        subst (λ (n : ℕ). ComplainsInEntriesBy r K (at + n) [] v.0 c) (same_length Map w (entries_count es) (entries_count v.0))
        (agree_entries es v.0 [] i.1 k.1 w v.2 q.k q.both r (at + length (head Map w (entries_count es))) c (omega arith) m)) h)
    agree (tag w n s) t i j p both r at c l h =
        let first = later_by K key (tag w n s) r at c h in
        let e = enter (tag w n s) t i j p both (omega arith) in
        let v = as_tag t w n j i.0 e.same in
        let q = enter_same (tag w n s) t (tag w n v.0) i j v.1 p both (omega arith) in
        let len = past_length (head Tag w n) (spell s) (spell v.0) p (Unit {0}) q in
        let k : IsSpelled (tag w n v.0) = subst IsSpelled v.1 j in
        subst (λ (t : Spelling). ComplainsBy r K at t c) (sym v.1) (either_part (λ (m : OfHead r at Tag w n c). m)
        (λ (m : ComplainsBy r K (at + length (head Tag w n)) s c). agree s v.0 i.1 k.1 q.k q.both r (at + length (head Tag w n)) c (omega arith) m) h)
    agree (simple n) t i j p both r at c l h = absurd h

    pub agree_all : (ss ts : Spellings) → AreSpelled ss → AreSpelled ts → (w : Width) → reported w (spellings_count ss) ≡ reported w (spellings_count ts) → (p : List ℕ) → Both (spell_all ss ++ break_of w) (spell_all ts ++ break_of w) p → (r : Rules) (at : ℕ) (c : Complaint) → c.end ≤ at + length p → ComplainsInBy r K at ss c → ComplainsInBy r K at ts c
    agree_all no_spellings ts i j w n p both r at c l h = absurd h
    agree_all (a_spelling s ss) no_spellings i j w n p both r at c l h =
        let some = later_in_by K key (a_spelling s ss) r at c h in
        absurd (not_closed s i.0 w (reported_none w (spellings_count ss) n) (spell_all ss ++ break_of w) p (recut p (append_assoc (spell s) (spell_all ss) (break_of w)) refl both) (omega arith))
    agree_all (a_spelling s ss) (a_spelling t ts) i j w n p both r at c l (inl h) =
        let b = recut p (append_assoc (spell s) (spell_all ss) (break_of w)) (append_assoc (spell t) (spell_all ts) (break_of w)) both in
        inl (agree s t i.0 j.0 p (prefix_both (spell s) (spell_all ss ++ break_of w) (spell t) (spell_all ts ++ break_of w) p b) r at c l h)
    agree_all (a_spelling s ss) (a_spelling t ts) i j w n p both r at c l (inr h) =
        let b = recut p (append_assoc (spell s) (spell_all ss) (break_of w)) (append_assoc (spell t) (spell_all ts) (break_of w)) both in
        let end = later_in_by K key ss r (at + length (spell s)) c h in
        let q = past_item s t i.0 j.0 (spell_all ss ++ break_of w) (spell_all ts ++ break_of w) p b (omega arith) in
        let len = past_length (spell s) (spell_all ss ++ break_of w) (spell_all ts ++ break_of w) p (s ≡ t) q in
        inr (subst (λ (o : Spelling). ComplainsInBy r K (at + length (spell o)) ts c) q.same (agree_all ss ts i.1 j.1 w (reported_less w (spellings_count ss) (spellings_count ts) n) q.k q.both r (at + length (spell s)) c (omega arith) h))

    pub agree_entries : (es fs : SpelledEntries) (before : List Spelling) → AreEntriesSpelled es → AreEntriesSpelled fs → (w : Width) → reported w (entries_count es) ≡ reported w (entries_count fs) → (p : List ℕ) → Both (spell_entries es ++ break_of w) (spell_entries fs ++ break_of w) p → (r : Rules) (at : ℕ) (c : Complaint) → c.end ≤ at + length p → ComplainsInEntriesBy r K at before es c → ComplainsInEntriesBy r K at before fs c
    agree_entries no_entries fs before i j w n p both r at c l h = absurd h
    agree_entries (entry k v es) no_entries before i j w n p both r at c l h =
        let some = later_entries_by K key (entry k v es) before r at c h in
        absurd (not_closed k i.0 w (reported_none w (entries_count es) n) (spell v ++ (spell_entries es ++ break_of w)) p (recut p (pairs_assoc (spell k) (spell v) (spell_entries es) (break_of w)) refl both) (omega arith))
    agree_entries (entry k v es) (entry m o fs) before i j w n p both r at c l (inl h) =
        let b = recut p (pairs_assoc (spell k) (spell v) (spell_entries es) (break_of w)) (pairs_assoc (spell m) (spell o) (spell_entries fs) (break_of w)) both in
        inl (agree k m i.0 j.0 p (prefix_both (spell k) (spell v ++ (spell_entries es ++ break_of w)) (spell m) (spell o ++ (spell_entries fs ++ break_of w)) p b) r at c l h)
    agree_entries (entry k v es) (entry m o fs) before i j w n p both r at c l (inr (inl h)) =
        let b = recut p (pairs_assoc (spell k) (spell v) (spell_entries es) (break_of w)) (pairs_assoc (spell m) (spell o) (spell_entries fs) (break_of w)) both in
        inr (inl (same k m i.0 j.0 p (prefix_both (spell k) (spell v ++ (spell_entries es ++ break_of w)) (spell m) (spell o ++ (spell_entries fs ++ break_of w)) p b) at before c l h))
    agree_entries (entry k v es) (entry m o fs) before i j w n p both r at c l (inr (inr (inl h))) =
        let b = recut p (pairs_assoc (spell k) (spell v) (spell_entries es) (break_of w)) (pairs_assoc (spell m) (spell o) (spell_entries fs) (break_of w)) both in
        let end = later_by K key v r (at + length (spell k)) c h in
        let q = past_item k m i.0 j.0 (spell v ++ (spell_entries es ++ break_of w)) (spell o ++ (spell_entries fs ++ break_of w)) p b (omega arith) in
        let len = past_length (spell k) (spell v ++ (spell_entries es ++ break_of w)) (spell o ++ (spell_entries fs ++ break_of w)) p (k ≡ m) q in
        let f = prefix_both (spell v) (spell_entries es ++ break_of w) (spell o) (spell_entries fs ++ break_of w) q.k q.both in
        inr (inr (inl (subst (λ (k : Spelling). ComplainsBy r K (at + length (spell k)) o c) q.same (agree v o i.1 j.1 q.k f r (at + length (spell k)) c (omega arith) h))))
    agree_entries (entry k v es) (entry m o fs) before i j w n p both r at c l (inr (inr (inr h))) =
        let b = recut p (pairs_assoc (spell k) (spell v) (spell_entries es) (break_of w)) (pairs_assoc (spell m) (spell o) (spell_entries fs) (break_of w)) both in
        let end = later_entries_by K key es (k ∷ before) r (at + length (spell k) + length (spell v)) c h in
        let q = past_item k m i.0 j.0 (spell v ++ (spell_entries es ++ break_of w)) (spell o ++ (spell_entries fs ++ break_of w)) p b (omega arith) in
        let len = past_length (spell k) (spell v ++ (spell_entries es ++ break_of w)) (spell o ++ (spell_entries fs ++ break_of w)) p (k ≡ m) q in
        let q2 = past_item v o i.1 j.1 (spell_entries es ++ break_of w) (spell_entries fs ++ break_of w) q.k q.both (omega arith) in
        let len2 = past_length (spell v) (spell_entries es ++ break_of w) (spell_entries fs ++ break_of w) q.k (v ≡ o) q2 in
        let more = agree_entries es fs (k ∷ before) i.2 j.2 w (reported_less w (entries_count es) (entries_count fs) n) q2.k q2.both r (at + length (spell k) + length (spell v)) c (omega arith) h in
        inr (inr (inr (subst (λ (k : Spelling). ComplainsInEntriesBy r K (at + length (spell k) + length (spell o)) (k ∷ before) fs c) q.same
        (subst (λ (v : Spelling). ComplainsInEntriesBy r K (at + length (spell k) + length (spell v)) (k ∷ before) fs c) q2.same more))))

  -- Two items that start with p have the same complaints within p.
  pub same_by : (d : ℕ) (s t : Spelling) (p a b : List ℕ) → IsItem d s (p ++ a) → IsItem d t (p ++ b) → (r : Rules) (c : Complaint) → c.end ≤ length p → ComplainsBy r K 0 s c → ComplainsBy r K 0 t c
  same_by d s t p a b i j r c l h =
      agree s t i.spelled j.spelled p (record { x = []; y = []; u = a; v = b; left = append-nil (spell s) ∙ i.bytes_are; right = append-nil (spell t) ∙ j.bytes_are }) r 0 c (omega arith) h

pub same_complaints : (d : ℕ) (s t : Spelling) (p a b : List ℕ) → IsItem d s (p ++ a) → IsItem d t (p ++ b) → (r : Rules) (c : Complaint) → c.end ≤ length p → Complains r 0 s c → Complains r 0 t c
same_complaints d s t p a b i j r =
    same_by (OfKey r.keys) (key_later r.keys)
    (λ k m x y q both at before c l h. subst (λ (k : Spelling). OfKey r.keys at before k c) (whole k m x y q both (omega (arith, key_end r.keys at before k c h, l))) h)
    d s t p a b i j r
