-- Each entry of a table gets the end of its item.
use Rattle.std.proofs.Common.{◌≡◌, ℕ, suc, ◌+◌, ◌≤◌, ◌==◌, if◌then◌else◌, Bool, List, [], ◌∷◌, ◌++◌, length, take, drop, refl, sym, ap, ◌∙◌, arith, append_assoc, append-nil, length-append, add-zero}
use Rattle.std.proofs.Math.{Seq.drop-append_seam, Seq.take-append_seam, Dec.eqb-suc-zero}
use Rattle.cbor_head.specs.Prelude.{major_number, Spelling, Spellings, SpelledEntries, unsigned, negative, bytes, text, byte_chunks, text_chunks, array, a_map, tag, simple, no_spellings, a_spelling, no_entries, entry, spell, spell_all, spellings_count}
use Rattle.cbor_cursor.specs.Index.{major_in, number_in, head_size, items_count, all_count, listed, all_listed, placed}
use Rattle.cbor_cursor.specs.inner.Definite.{IsDefinite, AreDefinite, AreEntriesDefinite}
use Rattle.cbor_cursor.specs.inner.Indexing.{opened_item, opened_at, end_of, entries_in, closed_item, closed}
use Rattle.cbor_cursor.proofs.IndexParts.{members_in, payload_in, length_parts, payload_is, members_is, count_parts, length-listed, length-all_listed, listed_parts}
use Rattle.cbor_cursor.{specs.WellFormed.members_of, specs.declared.placed.PlacedItem.PlacedItem, proofs.Definite.flat, proofs.IndexWalk.closed_is}

-- ---- over the entries of some items

-- after all entries of an item
after_item : (p : ℕ) (s : Spelling) (rest : List PlacedItem) → drop (items_count s) (listed placed p s ++ rest) ≡ rest
after_item p s rest = ap (λ (n : ℕ). drop n (listed placed p s ++ rest)) (sym (length-listed placed p s)) ∙ drop-append_seam (listed placed p s) rest

abbrev pub within : ℕ → Spelling → List PlacedItem
within p s = all_listed placed (p + head_size s + length (payload_in s)) (members_in s)

pub first_entry : (p : ℕ) (s : Spelling) (ss : Spellings) (rest : List PlacedItem)
    → all_listed placed p (a_spelling s ss) ++ rest ≡ placed p s ∷ (within p s ++ (all_listed placed (p + length (spell s)) ss ++ rest))
first_entry p s ss rest =
    let q = p + length (spell s) in
    append_assoc (listed placed p s) (all_listed placed q ss) rest ∙ ap (λ (l : List PlacedItem). l ++ (all_listed placed q ss ++ rest)) (listed_parts placed p s)

after_entries : (p : ℕ) (s : Spelling) (rest : List PlacedItem) → drop (items_count s) (placed p s ∷ (within p s ++ rest)) ≡ rest
after_entries p s rest = ap (λ (l : List PlacedItem). drop (items_count s) (l ++ rest)) (sym (listed_parts placed p s)) ∙ after_item p s rest

pub ends : (s : Spelling) (ss : Spellings) (p e : ℕ) (rest : List PlacedItem)
    → end_of (suc (spellings_count ss)) e (all_listed placed p (a_spelling s ss) ++ rest) ≡ p + length (spell s ++ spell_all ss)
ends s ss p e rest =
    let q = p + length (spell s) in
    ap (end_of (suc (spellings_count ss)) e) (first_entry p s ss rest)
    ∙ ap (end_of (spellings_count ss) q) (after_entries p s (all_listed placed q ss ++ rest))
    ∙ more ss q ∙ omega (arith, length-append (spell s) (spell_all ss))
  where
    more : (ts : Spellings) (q : ℕ) → end_of (spellings_count ts) q (all_listed placed q ts ++ rest) ≡ q + length (spell_all ts)
    more no_spellings q = sym (add-zero q)
    more (a_spelling t ts) q =
        let r = q + length (spell t) in
        ap (end_of (suc (spellings_count ts)) q) (first_entry q t ts rest)
        ∙ ap (end_of (spellings_count ts) r) (after_entries q t (all_listed placed r ts ++ rest))
        ∙ more ts r ∙ omega (arith, length-append (spell t) (spell_all ts))

pub counts : (ss : Spellings) (p : ℕ) (rest : List PlacedItem) → entries_in (spellings_count ss) (all_listed placed p ss ++ rest) ≡ all_count ss
counts no_spellings p rest = refl
counts (a_spelling s ss) p rest =
    let q = p + length (spell s) in
    ap (entries_in (suc (spellings_count ss))) (first_entry p s ss rest)
    ∙ ap (λ (l : List PlacedItem). items_count s + entries_in (spellings_count ss) l) (after_entries p s (all_listed placed q ss ++ rest))
    ∙ ap (λ (n : ℕ). items_count s + n) (counts ss q rest)

-- ---- one entry

abbrev ended : PlacedItem → List PlacedItem → PlacedItem
ended x xs = if x.entries == 0 then closed_item x xs else x

opened_more : {A : Type 0} (kind number offset content end n : ℕ) (f : PlacedItem → A)
    → f (opened_item kind number offset content end (suc n)) ≡ f record { number = number; offset = offset; content = content; end = suc n; kind = kind; entries = 0 }
opened_more kind number offset content end n f =
    ap (λ (b : Bool). f (if b then record { number = number; offset = offset; content = content; end = end; kind = kind; entries = 1 } else record { number = number; offset = offset; content = content; end = suc n; kind = kind; entries = 0 })) (eqb-suc-zero n)

ended_parts : (kind number offset content end total p : ℕ) (ms : Spellings) (rest : List PlacedItem) → end ≡ p → total ≡ p + length (spell_all ms)
    → ended (opened_item kind number offset content end (spellings_count ms)) (all_listed placed p ms ++ rest)
    ≡ record { number = number; offset = offset; content = content; end = total; kind = kind; entries = 1 + all_count ms }
ended_parts kind number offset content end total p no_spellings rest e t =
    ap (λ (n : ℕ). record { number = number; offset = offset; content = content; end = n; kind = kind; entries = 1 }) (e ∙ sym (add-zero p) ∙ sym t)
ended_parts kind number offset content end total p (a_spelling s ss) rest e t =
    let x : PlacedItem = record { number = number; offset = offset; content = content; end = suc (spellings_count ss); kind = kind; entries = 0 } in
    let n = all_count (a_spelling s ss) in
    let space : n ≤ length (all_listed placed p (a_spelling s ss) ++ rest) =
    omega (arith, length-append (all_listed placed p (a_spelling s ss)) rest, length-all_listed placed p (a_spelling s ss)) in
    let more : n + 1 ≡ 1 + n = omega arith in
    opened_more kind number offset content end (spellings_count ss) (λ (y : PlacedItem). ended y (all_listed placed p (a_spelling s ss) ++ rest))
    ∙ sym (closed_is x (all_listed placed p (a_spelling s ss) ++ rest) total n (ends s ss p content rest ∙ sym t) (counts (a_spelling s ss) p rest) space)
    ∙ ap (λ (k : ℕ). record { number = number; offset = offset; content = content; end = total; kind = kind; entries = k }) more

pub ended_item : (s : Spelling) (p : ℕ) (rest : List PlacedItem) → IsDefinite s → ended (opened_at p s) (within p s ++ rest) ≡ placed p s
ended_item s p rest h =
    let kind = major_number (major_in s) in
    let content = p + head_size s in
    let q = content + length (payload_in s) in
    ap (λ (n : ℕ). ended (opened_item kind (number_in s) p content (content + n) (members_of kind (number_in s))) (within p s ++ rest)) (payload_is s h)
    ∙ ap (λ (n : ℕ). ended (opened_item kind (number_in s) p content q n) (within p s ++ rest)) (members_is s)
    ∙ ended_parts kind (number_in s) p content q (p + length (spell s)) q (members_in s) rest refl (omega (arith, length_parts s h))
    ∙ ap (λ (n : ℕ). record { number = number_in s; offset = p; content = content; end = p + length (spell s); kind = kind; entries = n }) (sym (count_parts s))

-- ---- all entries

closed_node : (s : Spelling) (p : ℕ) (rest : List PlacedItem) → IsDefinite s
    → closed (all_listed opened_at (p + head_size s + length (payload_in s)) (members_in s) ++ rest) ≡ within p s ++ closed rest
    → closed (listed opened_at p s ++ rest) ≡ listed placed p s ++ closed rest
closed_node s p rest h following =
    ap (λ (l : List PlacedItem). closed (l ++ rest)) (listed_parts opened_at p s)
    ∙ ap (λ (l : List PlacedItem). ended (opened_at p s) l ∷ l) following
    ∙ ap (λ (x : PlacedItem). x ∷ (within p s ++ closed rest)) (ended_item s p (closed rest) h)
    ∙ ap (λ (l : List PlacedItem). l ++ closed rest) (sym (listed_parts placed p s))

mutual
  pub closed-listed : (s : Spelling) (p : ℕ) (rest : List PlacedItem) → IsDefinite s → closed (listed opened_at p s ++ rest) ≡ listed placed p s ++ closed rest
  closed-listed (array w ss) p rest h = closed_node (array w ss) p rest h (closed-all_listed ss _ rest h.1)
  closed-listed (a_map w es) p rest h = closed_node (a_map w es) p rest h (closed-flat es _ rest h.1)
  closed-listed (tag w n s) p rest h =
      closed_node (tag w n s) p rest h
      (ap (λ (l : List PlacedItem). closed (l ++ rest)) (append-nil _) ∙ closed-listed s _ rest h.1 ∙ ap (λ (l : List PlacedItem). l ++ closed rest) (sym (append-nil _)))
  closed-listed (unsigned w n) p rest h = closed_node (unsigned w n) p rest h refl
  closed-listed (negative w n) p rest h = closed_node (negative w n) p rest h refl
  closed-listed (bytes w s) p rest h = closed_node (bytes w s) p rest h refl
  closed-listed (text w s) p rest h = closed_node (text w s) p rest h refl
  closed-listed (byte_chunks cs) p rest h = absurd h
  closed-listed (text_chunks cs) p rest h = absurd h
  closed-listed (simple n) p rest h = closed_node (simple n) p rest h refl

  closed-all_listed : (ss : Spellings) (p : ℕ) (rest : List PlacedItem) → AreDefinite ss → closed (all_listed opened_at p ss ++ rest) ≡ all_listed placed p ss ++ closed rest
  closed-all_listed no_spellings p rest h = refl
  closed-all_listed (a_spelling s ss) p rest h =
      let q = p + length (spell s) in
      ap closed (append_assoc (listed opened_at p s) (all_listed opened_at q ss) rest)
      ∙ closed-listed s p (all_listed opened_at q ss ++ rest) h.0
      ∙ ap (λ (l : List PlacedItem). listed placed p s ++ l) (closed-all_listed ss q rest h.1)
      ∙ sym (append_assoc (listed placed p s) (all_listed placed q ss) (closed rest))

  closed-flat : (es : SpelledEntries) (p : ℕ) (rest : List PlacedItem) → AreEntriesDefinite es → closed (all_listed opened_at p (flat es) ++ rest) ≡ all_listed placed p (flat es) ++ closed rest
  closed-flat no_entries p rest h = refl
  closed-flat (entry k v es) p rest h =
      let q = p + length (spell k) in
      let r = q + length (spell v) in
      ap closed (append_assoc (listed opened_at p k) (listed opened_at q v ++ all_listed opened_at r (flat es)) rest)
      ∙ closed-listed k p ((listed opened_at q v ++ all_listed opened_at r (flat es)) ++ rest) h.0
      ∙ ap (λ (l : List PlacedItem). listed placed p k ++ closed l) (append_assoc (listed opened_at q v) (all_listed opened_at r (flat es)) rest)
      ∙ ap (λ (l : List PlacedItem). listed placed p k ++ l) (closed-listed v q (all_listed opened_at r (flat es) ++ rest) h.1)
      ∙ ap (λ (l : List PlacedItem). listed placed p k ++ (listed placed q v ++ l)) (closed-flat es r rest h.2)
      ∙ ap (λ (l : List PlacedItem). listed placed p k ++ l) (sym (append_assoc (listed placed q v) (all_listed placed r (flat es)) (closed rest)))
      ∙ sym (append_assoc (listed placed p k) (listed placed q v ++ all_listed placed r (flat es)) (closed rest))

-- the table of a whole item
pub closed_table : (s : Spelling) → IsDefinite s → closed (listed opened_at 0 s) ≡ listed placed 0 s
closed_table s h = ap closed (sym (append-nil _)) ∙ closed-listed s 0 [] h ∙ append-nil _

pub filled : (s : Spelling) (n : ℕ) (opened new rest : List PlacedItem) → IsDefinite s → n ≡ items_count s → opened ≡ listed opened_at 0 s → new ≡ closed opened → take n (new ++ rest) ≡ listed placed 0 s
filled s n opened new rest h k o e =
    let all : new ≡ listed placed 0 s = e ∙ ap closed o ∙ closed_table s h in
    let size : n ≡ length (listed placed 0 s) = k ∙ sym (length-listed placed 0 s) in
    ap (λ (xs : List PlacedItem). take n (xs ++ rest)) all ∙ ap (λ (m : ℕ). take m (listed placed 0 s ++ rest)) size ∙ take-append_seam (listed placed 0 s) rest
