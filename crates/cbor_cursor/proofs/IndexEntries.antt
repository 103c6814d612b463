-- The entries of a table are items, and lead to one another.
use Rattle.std.proofs.Common.{◌≡◌, ℕ, zero, suc, ◌+◌, ◌-◌, ◌<◌, List, [], ◌∷◌, ◌++◌, length, drop, Some, refl, sym, ap, ◌∙◌, subst, arith, append_assoc, append-nil, length-append, length-drop, add-zero}
use Rattle.std.{specs.Prelude.MatchOption, specs.Prelude.slice_get, proofs.Math.Seq.drop-append_seam, proofs.lemmas.List.drop-drop}
use Rattle.cbor_head.specs.Value as values
use Rattle.cbor_head.specs.Value.{Value, Values, Entries, IsInRange, AreInRange, AreEntriesInRange, IsValid, AreValid, AreEntriesValid}
use Rattle.cbor_head.specs.Prelude.{canonical, head, Spelling, Spellings, SpelledEntries, unsigned, negative, bytes, text, byte_chunks, text_chunks, array, a_map, tag, simple, no_spellings, a_spelling, no_entries, entry, spell, spell_all, spellings_count}
use Rattle.cbor_head.specs.declared.order.KeyOrder.{KeyOrder}
use Rattle.theory_values.proofs.Normal.{normal, normal_all, normal_entries, by_put, spell-normal}
use Rattle.theory_values.proofs.ReadLaws.{length_head}
use Rattle.cbor_cursor.specs.Index.{major_in, width_in, number_in, head_size, items_count, listed, all_listed, placed}
use Rattle.cbor_cursor.specs.inner.Definite.{IsDefinite, AreDefinite, AreEntriesDefinite}
use Rattle.cbor_cursor.proofs.IndexParts.{members_in, payload_in, head_in, spell_parts, length_parts, members_is, count_parts, length-all_listed, listed_parts}
use Rattle.cbor_cursor.specs.Offsets.{IsItemAt, IsWithin, offsets_of}
use Rattle.cbor_cursor.specs.{Items.BeginsWith, WellFormed.members_of, declared.placed.PlacedItem.PlacedItem}
use Rattle.cbor_cursor.proofs.{IndexClosed.within, IndexClosed.first_entry, Definite.flat, HeadsAt.same_head, SpelledItems.a_head, SpelledItems.canonical_head}

-- ---- encodings whose parts are all canonical bytes

-- its bytes are the canonical bytes of a valid value
pub record IsOwn (o : KeyOrder) (s : Spelling) : Type 0 where
  pub value : Value
  pub range : IsInRange value
  pub valid : IsValid value
  pub bytes_are : spell s ≡ canonical o value

-- and so are those of each item in it
abbrev mutual
  pub AllOwn : KeyOrder → Spelling → Type 0
  AllOwn o (array w ss) = IsOwn o (array w ss) × AreAllOwn o ss
  AllOwn o (a_map w es) = IsOwn o (a_map w es) × PairsAllOwn o es
  AllOwn o (tag w n s) = IsOwn o (tag w n s) × AllOwn o s
  AllOwn o s = IsOwn o s

  pub AreAllOwn : KeyOrder → Spellings → Type 0
  AreAllOwn o no_spellings = Unit {0}
  AreAllOwn o (a_spelling s ss) = AllOwn o s × AreAllOwn o ss

  pub PairsAllOwn : KeyOrder → SpelledEntries → Type 0
  PairsAllOwn o no_entries = Unit {0}
  PairsAllOwn o (entry k v es) = AllOwn o k × AllOwn o v × PairsAllOwn o es

own : (o : KeyOrder) (v : Value) → IsInRange v → IsValid v → IsOwn o (normal o v)
own o v h g = record { value = v; range = h; valid = g; bytes_are = spell-normal o v }

mutual
  pub all_own : (o : KeyOrder) (v : Value) → IsInRange v → IsValid v → AllOwn o (normal o v)
  all_own o (values.unsigned n) h g = own o (values.unsigned n) h g
  all_own o (values.negative n) h g = own o (values.negative n) h g
  all_own o (values.bytes s) h g = own o (values.bytes s) h g
  all_own o (values.text s) h g = own o (values.text s) h g
  all_own o (values.array vs) h g = (own o (values.array vs) h g, members_own o vs h.1 g)
  all_own o (values.map es) h g = (own o (values.map es) h g, pairs_own o es h.1 g.0)
  all_own o (values.tag n v) h g = (own o (values.tag n v) h g, all_own o v h.1 g)
  all_own o (values.simple n) h g = own o (values.simple n) h g

  members_own : (o : KeyOrder) (vs : Values) → AreInRange vs → AreValid vs → AreAllOwn o (normal_all o vs)
  members_own o values.no_values h g = tt
  members_own o (values.a_value v vs) h g = (all_own o v h.0 g.0, members_own o vs h.1 g.1)

  pairs_own : (o : KeyOrder) (es : Entries) → AreEntriesInRange es → AreEntriesValid es → PairsAllOwn o (normal_entries o es)
  pairs_own o values.no_entries h g = tt
  pairs_own o (values.entry k v es) h g =
      let p = all_own o k h.0 g.0 in
      let q = all_own o v h.1 g.1 in
      by_put o (normal o k) (normal o v) (λ fs put. PairsAllOwn o fs → PairsAllOwn o put) (λ a. (p, q, tt)) (λ k' v' fs a. (p, q, a)) (λ k' v' fs put ih a. (a.0, a.1, ih a.2)) (normal_entries o es) (pairs_own o es h.2 g.2)

-- ---- entries

-- the first of them begins at this offset
abbrev pub StartsAt : ℕ → List PlacedItem → Type 0
StartsAt offset [] = ⊥
StartsAt offset (x ∷ xs) = x.offset ≡ offset

-- the same, or none is left and the bytes end at this offset
abbrev pub GoesOnAt : ℕ → ℕ → List PlacedItem → Type 0
GoesOnAt total offset [] = offset ≡ total
GoesOnAt total offset (x ∷ xs) = x.offset ≡ offset

-- what follows bytes within some bytes
pub after_bytes : (all : List ℕ) (p : ℕ) (xs tail : List ℕ) → drop p all ≡ xs ++ tail → drop (p + length xs) all ≡ tail
after_bytes all p xs tail e = sym (drop-drop (length xs) p all) ∙ ap (drop (length xs)) e ∙ drop-append_seam xs tail

module _ (o : KeyOrder) (all : List ℕ) where
  pub record IsEntry (x : PlacedItem) (later : List PlacedItem) : Type 0 where
    pub value : Value
    pub rest : List ℕ
    pub item : IsItemAt o all value rest (offsets_of x)
    pub bounds : IsWithin all (offsets_of x)
    pub some : 0 < x.entries
    pub first : 0 < members_of x.kind x.number → StartsAt x.content later
    pub next : GoesOnAt (length all) x.end (drop (x.entries - 1) later)

  abbrev pub AreEntries : List PlacedItem → Type 0
  AreEntries [] = Unit {0}
  AreEntries (x ∷ xs) = IsEntry x xs × AreEntries xs

  item_of : (s : Spelling) (p : ℕ) (tail : List ℕ) (i : IsOwn o s) → IsDefinite s → drop p all ≡ spell s ++ tail → IsItemAt o all i.value tail (offsets_of (placed p s))
  item_of s p tail i d e =
      let inside = (payload_in s ++ spell_all (members_in s)) ++ tail in
      let split : drop p all ≡ head (major_in s) (width_in s) (number_in s) ++ inside =
      e ∙ ap (λ (l : List ℕ). l ++ tail) (spell_parts s d) ∙ append_assoc (head (major_in s) (width_in s) (number_in s)) (payload_in s ++ spell_all (members_in s)) tail in
      let b : BeginsWith o (drop p all) i.value tail = record { range = i.range; valid = i.valid; begins = e ∙ ap (λ (l : List ℕ). l ++ tail) i.bytes_are } in
      let h = same_head (drop p all) _ _ _ _ _ _ (a_head (major_in s) (width_in s) (number_in s) (drop p all) inside (head_in s d) split) (canonical_head o i.value (drop p all) tail b) in
      record {
        starts = b;
        head = record { kind_is = h.0; argument_is = h.1; content_is = after_bytes all p (head (major_in s) (width_in s) (number_in s)) inside split ∙ h.2 };
        ends = after_bytes all p (spell s) tail e;
      }

  bounds_of : (s : Spelling) (p : ℕ) (tail : List ℕ) → IsDefinite s → drop p all ≡ spell s ++ tail → IsWithin all (offsets_of (placed p s))
  bounds_of s p tail d e =
      let some = length_head (major_in s) (width_in s) (number_in s) in
      let parts = length_parts s d in record {
        starts = omega (arith, some);
        content = omega (arith, parts);
        ends = omega (arith, some, parts, ap length e, length-drop p all, length-append (spell s) tail);
      }

  -- where the items directly inside begin
  inside_at : (s : Spelling) (p : ℕ) (tail : List ℕ) → IsDefinite s → drop p all ≡ spell s ++ tail → drop (p + head_size s + length (payload_in s)) all ≡ spell_all (members_in s) ++ tail
  inside_at s p tail d e =
      let hd = head (major_in s) (width_in s) (number_in s) in
      let split : drop p all ≡ hd ++ (payload_in s ++ (spell_all (members_in s) ++ tail)) =
      e ∙ ap (λ (l : List ℕ). l ++ tail) (spell_parts s d) ∙ append_assoc hd (payload_in s ++ spell_all (members_in s)) tail ∙ ap (λ (l : List ℕ). hd ++ l) (append_assoc (payload_in s) (spell_all (members_in s)) tail) in
      after_bytes all (p + head_size s) (payload_in s) (spell_all (members_in s) ++ tail) (after_bytes all p hd (payload_in s ++ (spell_all (members_in s) ++ tail)) split)

  -- a container has no payload
  no_payload : (s : Spelling) → 0 < spellings_count (members_in s) → length (payload_in s) ≡ 0
  no_payload (bytes w s) l = absurd (omega (arith, l))
  no_payload (text w s) l = absurd (omega (arith, l))
  no_payload _ l = refl

  first_at : (s : Spelling) (p : ℕ) (rest : List PlacedItem) → 0 < spellings_count (members_in s) → StartsAt (p + head_size s) (within p s ++ rest)
  first_at s p rest l = go (members_in s) l (omega (arith, no_payload s l))
    where
      go : (ms : Spellings) → 0 < spellings_count ms → p + head_size s + length (payload_in s) ≡ p + head_size s → StartsAt (p + head_size s) (all_listed placed (p + head_size s + length (payload_in s)) ms ++ rest)
      go no_spellings l e = absurd (omega (arith, l))
      go (a_spelling t ts) l e = subst (StartsAt (p + head_size s)) (sym (first_entry (p + head_size s + length (payload_in s)) t ts rest)) e

  node : (s : Spelling) (p : ℕ) (tail : List ℕ) (rest : List PlacedItem) → IsDefinite s → IsOwn o s → drop p all ≡ spell s ++ tail → GoesOnAt (length all) (p + length (spell s)) rest
      → AreEntries (within p s ++ rest) → AreEntries (listed placed p s ++ rest)
  node s p tail rest d i e n a =
      let count : items_count s - 1 ≡ length (within p s) = omega (arith, count_parts s, length-all_listed placed (p + head_size s + length (payload_in s)) (members_in s)) in
      let later : drop (items_count s - 1) (within p s ++ rest) ≡ rest = ap (λ (k : ℕ). drop k (within p s ++ rest)) count ∙ drop-append_seam (within p s) rest in
      subst AreEntries (ap (λ (l : List PlacedItem). l ++ rest) (sym (listed_parts placed p s))) (
        record {
          value = i.value;
          rest = tail;
          item = item_of s p tail i d e;
          bounds = bounds_of s p tail d e;
          some = omega (arith, count_parts s);
          first = λ l. first_at s p rest (omega (arith, l, members_is s));
          next = subst (GoesOnAt (length all) (p + length (spell s))) (sym later) n;
        },
        a,
      )

  goes_to : (s : Spelling) (p : ℕ) (rest : List PlacedItem) → GoesOnAt (length all) p (listed placed p s ++ rest)
  goes_to s p rest = subst (GoesOnAt (length all) p) (ap (λ (l : List PlacedItem). l ++ rest) (sym (listed_parts placed p s))) refl

  goes_on : (ss : Spellings) (p q : ℕ) (rest : List PlacedItem) → q ≡ p + length (spell_all ss) → GoesOnAt (length all) q rest → GoesOnAt (length all) p (all_listed placed p ss ++ rest)
  goes_on no_spellings p q rest e n = subst (λ (k : ℕ). GoesOnAt (length all) k rest) (e ∙ add-zero p) n
  goes_on (a_spelling s ss) p q rest e n = subst (GoesOnAt (length all) p) (sym (first_entry p s ss rest)) refl

  mutual
    pub entries : (s : Spelling) (p : ℕ) (tail : List ℕ) (rest : List PlacedItem) → IsDefinite s → AllOwn o s → drop p all ≡ spell s ++ tail → GoesOnAt (length all) (p + length (spell s)) rest → AreEntries rest → AreEntries (listed placed p s ++ rest)
    entries (array w ss) p tail rest d i e n a =
        node (array w ss) p tail rest d i.0 e n (all_entries ss _ tail rest _ d.1 i.1 (inside_at (array w ss) p tail d e) (omega (arith, length_parts (array w ss) d)) n a)
    entries (a_map w es) p tail rest d i e n a =
        node (a_map w es) p tail rest d i.0 e n (pair_entries es _ tail rest _ d.1 i.1 (inside_at (a_map w es) p tail d e) (omega (arith, length_parts (a_map w es) d)) n a)
    entries (tag w m s) p tail rest d i e n a =
        let q = p + head_size (tag w m s) + 0 in
        node (tag w m s) p tail rest d i.0 e n (
        subst (λ (l : List PlacedItem). AreEntries (l ++ rest)) (sym (append-nil (listed placed q s))) (
        entries s q tail rest d.1 i.1 (inside_at (tag w m s) p tail d e ∙ ap (λ (l : List ℕ). l ++ tail) (append-nil (spell s)))
        (subst (λ (k : ℕ). GoesOnAt (length all) k rest) (omega (arith, length-append (head (major_in (tag w m s)) w m) (spell s))) n) a))
    entries (unsigned w m) p tail rest d i e n a = node (unsigned w m) p tail rest d i e n a
    entries (negative w m) p tail rest d i e n a = node (negative w m) p tail rest d i e n a
    entries (bytes w s) p tail rest d i e n a = node (bytes w s) p tail rest d i e n a
    entries (text w s) p tail rest d i e n a = node (text w s) p tail rest d i e n a
    entries (byte_chunks cs) p tail rest d i e n a = absurd d
    entries (text_chunks cs) p tail rest d i e n a = absurd d
    entries (simple m) p tail rest d i e n a = node (simple m) p tail rest d i e n a

    all_entries : (ss : Spellings) (p : ℕ) (tail : List ℕ) (rest : List PlacedItem) (end : ℕ) → AreDefinite ss → AreAllOwn o ss → drop p all ≡ spell_all ss ++ tail → end ≡ p + length (spell_all ss) → GoesOnAt (length all) end rest → AreEntries rest
        → AreEntries (all_listed placed p ss ++ rest)
    all_entries no_spellings p tail rest end d i e z n a = a
    all_entries (a_spelling s ss) p tail rest end d i e z n a =
        let q = p + length (spell s) in
        let last : end ≡ q + length (spell_all ss) = omega (arith, z, length-append (spell s) (spell_all ss)) in
        let here : drop p all ≡ spell s ++ (spell_all ss ++ tail) = e ∙ append_assoc (spell s) (spell_all ss) tail in
        subst AreEntries (sym (append_assoc (listed placed p s) (all_listed placed q ss) rest)) (
        entries s p (spell_all ss ++ tail) (all_listed placed q ss ++ rest) d.0 i.0 here (goes_on ss q end rest last n)
        (all_entries ss q tail rest end d.1 i.1 (after_bytes all p (spell s) (spell_all ss ++ tail) here) last n a))

    pair_entries : (es : SpelledEntries) (p : ℕ) (tail : List ℕ) (rest : List PlacedItem) (end : ℕ) → AreEntriesDefinite es → PairsAllOwn o es → drop p all ≡ spell_all (flat es) ++ tail → end ≡ p + length (spell_all (flat es)) → GoesOnAt (length all) end rest
        → AreEntries rest → AreEntries (all_listed placed p (flat es) ++ rest)
    pair_entries no_entries p tail rest end d i e z n a = a
    pair_entries (entry k v es) p tail rest end d i e z n a =
        let q = p + length (spell k) in
        let r = q + length (spell v) in
        let es' = spell_all (flat es) in
        let last : end ≡ r + length es' = omega (arith, z, length-append (spell k) (spell v ++ es'), length-append (spell v) es') in
        let here : drop p all ≡ spell k ++ (spell v ++ (es' ++ tail)) = e ∙ append_assoc (spell k) (spell v ++ es') tail ∙ ap (λ (l : List ℕ). spell k ++ l) (append_assoc (spell v) es' tail) in
        let there = after_bytes all p (spell k) (spell v ++ (es' ++ tail)) here in
        let later = all_listed placed r (flat es) ++ rest in
        let order : (listed placed p k ++ (listed placed q v ++ all_listed placed r (flat es))) ++ rest ≡ listed placed p k ++ (listed placed q v ++ later) =
        append_assoc (listed placed p k) (listed placed q v ++ all_listed placed r (flat es)) rest ∙ ap (λ (l : List PlacedItem). listed placed p k ++ l) (append_assoc (listed placed q v) (all_listed placed r (flat es)) rest) in
        let on : GoesOnAt (length all) r later = goes_on (flat es) r end rest last n in
        subst AreEntries (sym order) (
        entries k p (spell v ++ (es' ++ tail)) (listed placed q v ++ later) d.0 i.0 here (goes_to v q later)
        (entries v q (es' ++ tail) later d.1 i.1 there on
        (pair_entries es r tail rest end d.2 i.2 (after_bytes all q (spell v) (es' ++ tail) there) last n a)))

  -- ---- by their indices

  pub entry_at : (xs : List PlacedItem) (i : ℕ) (x : PlacedItem) → AreEntries xs → slice_get xs i ≡ Some x → IsEntry x (drop (suc i) xs)
  entry_at [] i x a e = absurd (cc e)
  entry_at (y ∷ ys) zero x a e = subst (λ (z : PlacedItem). IsEntry z ys) (cc e) a.0
  entry_at (y ∷ ys) (suc i) x a e = entry_at ys i x a.1 e

pub starts_at : (xs : List PlacedItem) (offset i : ℕ) → StartsAt offset (drop i xs) → (y : PlacedItem) × (slice_get xs i ≡ Some y) × (y.offset ≡ offset)
starts_at [] offset zero h = absurd h
starts_at [] offset (suc i) h = absurd h
starts_at (x ∷ xs) offset zero h = (x, refl, h)
starts_at (x ∷ xs) offset (suc i) h = starts_at xs offset i h

pub goes_on_at : (xs : List PlacedItem) (total offset i : ℕ) → GoesOnAt total offset (drop i xs) → MatchOption (slice_get xs i) (offset ≡ total) (λ y. y.offset ≡ offset)
goes_on_at [] total offset zero h = h
goes_on_at [] total offset (suc i) h = h
goes_on_at (x ∷ xs) total offset zero h = h
goes_on_at (x ∷ xs) total offset (suc i) h = goes_on_at xs total offset i h
