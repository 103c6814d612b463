-- The table while the heads are placed.
use Rattle.std.proofs.Common.{◌≡◌, ℕ, ◌+◌, ◌<◌, ◌≤◌, List, [], ◌∷◌, ◌++◌, length, take, drop, sym, ap, ◌∙◌, arith, append_assoc, append-nil, length-append, length-drop, set}
use Rattle.std.proofs.{Math.Seq.drop-append_seam, lemmas.List.take_more_set, lemmas.List.drop-drop}
use Rattle.cbor_head.specs.Prelude.{head, major_number, Spelling, Spellings, no_spellings, a_spelling, spell, spell_all, spellings_count}
use Rattle.cbor_cursor.specs.Index.{major_in, width_in, number_in, head_size, items_count, all_count, all_listed}
use Rattle.cbor_cursor.specs.WellFormed.{BeginsWithHead, payload_of, members_of}
use Rattle.cbor_cursor.specs.inner.Indexing.{opened_item, opened_at, opened_table}
use Rattle.cbor_cursor.proofs.Definite.{joined, definite-joined, count-joined, spell-joined}
use Rattle.cbor_cursor.proofs.IndexParts.{members_in, payload_in, definite_members, head_in, spell_parts, length_parts, payload_is, members_is, count_parts, all_count-joined, listed_parts, all_listed-joined}
use Rattle.cbor_cursor.specs.{inner.Definite.IsDefinite, inner.Definite.AreDefinite, declared.placed.PlacedItem.PlacedItem}
use Rattle.cbor_cursor.proofs.SpelledItems.{count_fits, a_head}

-- the items that are still missing, and their table after the entries so far
pub record AreStillExpected (s : Spelling) (bytes : List ℕ) (items : List PlacedItem) (offset count : ℕ) : Type 0 where
  pub expected : Spellings
  pub definite : AreDefinite expected
  pub bytes_are : drop offset bytes ≡ spell_all expected
  pub entries : count + all_count expected ≡ items_count s
  pub table : items_count s ≤ length items → take count items ++ all_listed opened_at offset expected ≡ opened_table 0 s

pub at_first : (s : Spelling) (bytes : List ℕ) (items : List PlacedItem) → IsDefinite s → bytes ≡ spell s → AreStillExpected s bytes items 0 0
at_first s bytes items h e = record {
  expected = a_spelling s no_spellings;
  definite = (h, tt);
  bytes_are = e ∙ sym (append-nil (spell s));
  entries = omega arith;
  table = λ _. append-nil _;
}

pub at_last : (s : Spelling) (bytes : List ℕ) (items : List PlacedItem) (offset count : ℕ) → length bytes ≤ offset → AreStillExpected s bytes items offset count
    → (count ≡ items_count s) × (count ≤ length items → take count items ≡ opened_table 0 s)
at_last s bytes items offset count l d = go d.expected (omega (arith, ap length d.bytes_are, length-drop offset bytes, l, count_fits d.expected)) d.entries d.table
  where
    go : (ss : Spellings) → spellings_count ss ≤ 0 → count + all_count ss ≡ items_count s
        → (items_count s ≤ length items → take count items ++ all_listed opened_at offset ss ≡ opened_table 0 s)
        → (count ≡ items_count s) × (count ≤ length items → take count items ≡ opened_table 0 s)
    go no_spellings n e t = (omega (arith, e), λ r. sym (append-nil (take count items)) ∙ t (omega (arith, e, r)))
    go (a_spelling x xs) n e t = absurd (omega (arith, n))

-- the next of them, in parts
pub record IsNext (s : Spelling) (bytes : List ℕ) (items : List PlacedItem) (offset count : ℕ) : Type 0 where
  pub first : Spelling
  pub others : Spellings
  pub definite : IsDefinite first
  pub all_definite : AreDefinite others
  pub bytes_are : drop offset bytes ≡ head (major_in first) (width_in first) (number_in first) ++ (payload_in first ++ spell_all (joined (members_in first) others))
  pub entries : count + (items_count first + all_count others) ≡ items_count s
  pub table : items_count s ≤ length items
      → take count items ++ (opened_at offset first ∷ all_listed opened_at (offset + head_size first + length (payload_in first)) (joined (members_in first) others)) ≡ opened_table 0 s

pub next_expected : (s : Spelling) (bytes : List ℕ) (items : List PlacedItem) (offset count : ℕ) → offset < length bytes → AreStillExpected s bytes items offset count → IsNext s bytes items offset count
next_expected s bytes items offset count l d = go d.expected d.definite d.bytes_are d.entries d.table
  where
    go : (ss : Spellings) → AreDefinite ss → drop offset bytes ≡ spell_all ss → count + all_count ss ≡ items_count s
        → (items_count s ≤ length items → take count items ++ all_listed opened_at offset ss ≡ opened_table 0 s)
        → IsNext s bytes items offset count
    go no_spellings h b e t = absurd (omega (arith, l, length-drop offset bytes, ap length b))
    go (a_spelling x xs) h b e t =
        let ms = members_in x in
        let prefix = head (major_in x) (width_in x) (number_in x) in
        let q = offset + head_size x + length (payload_in x) in
        let end : q + length (spell_all ms) ≡ offset + length (spell x) = omega (arith, length_parts x h.0) in
        record {
          first = x;
          others = xs;
          definite = h.0;
          all_definite = h.1;
          bytes_are = b ∙ ap (λ (y : List ℕ). y ++ spell_all xs) (spell_parts x h.0) ∙ append_assoc prefix (payload_in x ++ spell_all ms) (spell_all xs)
              ∙ ap (λ (y : List ℕ). prefix ++ y) (append_assoc (payload_in x) (spell_all ms) (spell_all xs) ∙ ap (λ (y : List ℕ). payload_in x ++ y) (sym (spell-joined ms xs)));
          entries = e;
          table = λ r.
              ap (λ (y : List PlacedItem). take count items ++ (opened_at offset x ∷ y)) (all_listed-joined opened_at q ms xs ∙ ap (λ (z : ℕ). all_listed opened_at q ms ++ all_listed opened_at z xs) end)
              ∙ ap (λ (y : List PlacedItem). take count items ++ (y ++ all_listed opened_at (offset + length (spell x)) xs)) (sym (listed_parts opened_at offset x))
              ∙ t r;
        }

pub next_head : (s : Spelling) (bytes : List ℕ) (items : List PlacedItem) (offset count : ℕ) (i : IsNext s bytes items offset count)
    → BeginsWithHead (drop offset bytes) (major_number (major_in i.first)) (number_in i.first) (payload_in i.first ++ spell_all (joined (members_in i.first) i.others))
next_head s bytes items offset count i = a_head (major_in i.first) (width_in i.first) (number_in i.first) (drop offset bytes) _ (head_in i.first i.definite) i.bytes_are

module _ (s : Spelling) (bytes : List ℕ) (items : List PlacedItem) (offset count : ℕ) (i : IsNext s bytes items offset count) (within : offset ≤ length bytes) where
  abbrev following : Spellings
  following = joined (members_in i.first) i.others

  -- where the head ends
  pub content_is : (content : ℕ) → content ≤ length bytes → drop content bytes ≡ payload_in i.first ++ spell_all following → content ≡ offset + head_size i.first
  content_is content l e =
      omega (
        arith,
        within,
        l,
        length-drop offset bytes,
        length-drop content bytes,
        ap length e,
        ap length i.bytes_are,
        length-append (head (major_in i.first) (width_in i.first) (number_in i.first)) (payload_in i.first ++ spell_all following),
      )

  module _ (content : ℕ) (l : content ≤ length bytes) (e : drop content bytes ≡ payload_in i.first ++ spell_all following) where
    payload_size : payload_of (major_number (major_in i.first)) (number_in i.first) ≡ length (payload_in i.first)
    payload_size = payload_is i.first i.definite

    members_count : members_of (major_number (major_in i.first)) (number_in i.first) ≡ spellings_count (members_in i.first)
    members_count = members_is i.first

    -- there is space for what is expected
    pub space : content + payload_of (major_number (major_in i.first)) (number_in i.first) + members_of (major_number (major_in i.first)) (number_in i.first) ≤ length bytes
    space =
        omega (
          arith,
          payload_size,
          members_count,
          l,
          length-drop content bytes,
          ap length e,
          length-append (payload_in i.first) (spell_all following),
          count_fits following,
          count-joined (members_in i.first) i.others,
        )

    pub then_expected : (end members : ℕ) (new : List PlacedItem) → end ≡ content + payload_of (major_number (major_in i.first)) (number_in i.first)
        → members ≡ members_of (major_number (major_in i.first)) (number_in i.first) → length new ≡ length items
        → (count < length items → new ≡ set items count (opened_item (major_number (major_in i.first)) (number_in i.first) offset content end members))
        → AreStillExpected s bytes new end (count + 1)
    then_expected end members new at m len written =
        let size : end ≡ content + length (payload_in i.first) = at ∙ ap (λ (k : ℕ). content + k) payload_size in
        let here : content ≡ offset + head_size i.first = content_is content l e in
        record {
          expected = following;
          definite = definite-joined (members_in i.first) i.others (definite_members i.first i.definite) i.all_definite;
          bytes_are = ap (λ (k : ℕ). drop k bytes) size ∙ sym (drop-drop (length (payload_in i.first)) content bytes) ∙ ap (drop (length (payload_in i.first))) e ∙ drop-append_seam (payload_in i.first) (spell_all following);
          entries = omega (arith, i.entries, count_parts i.first, all_count-joined (members_in i.first) i.others);
          table = λ r.
              let space' : items_count s ≤ length items = omega (arith, r, len) in
              let in' : count < length items = omega (arith, space', i.entries, count_parts i.first) in
              let x : opened_item (major_number (major_in i.first)) (number_in i.first) offset content end members ≡ opened_at offset i.first =
              ap (λ (k : ℕ). opened_item (major_number (major_in i.first)) (number_in i.first) offset content end k) m
              ∙ ap (λ (k : ℕ). opened_item (major_number (major_in i.first)) (number_in i.first) offset content k (members_of (major_number (major_in i.first)) (number_in i.first))) at
              ∙ ap (λ (k : ℕ). opened_item (major_number (major_in i.first)) (number_in i.first) offset k (k + payload_of (major_number (major_in i.first)) (number_in i.first)) (members_of (major_number (major_in i.first)) (number_in i.first))) here in
              let q : end ≡ offset + head_size i.first + length (payload_in i.first) = size ∙ ap (λ (k : ℕ). k + length (payload_in i.first)) here in
              ap (λ (xs : List PlacedItem). take (count + 1) xs ++ all_listed opened_at end following) (written in' ∙ ap (set items count) x)
              ∙ ap (λ (xs : List PlacedItem). xs ++ all_listed opened_at end following) (take_more_set items count (opened_at offset i.first) in')
              ∙ append_assoc (take count items) (opened_at offset i.first ∷ []) (all_listed opened_at end following)
              ∙ ap (λ (k : ℕ). take count items ++ (opened_at offset i.first ∷ all_listed opened_at k following)) q
              ∙ i.table space';
        }
