-- An encoding of definite lengths is an item, and so are canonical bytes.
use Rattle.std.proofs.Common.{◌≡◌, ◌⊎◌, ℕ, suc, ◌*◌, ◌^◌, ◌<◌, ◌≤◌, nat_lt, if◌then◌else◌, List, [], ◌++◌, length, lt-ltb, inl, inr, refl, sym, ap, ◌∙◌, subst, arith, append_assoc, append-nil, length-append}
use Rattle.std.proofs.Math.Seq.{drop-append_seam}
use Rattle.cbor_head.specs.Head.{Holds, IsHead, head, major_number, shortest}
use Rattle.cbor_head.specs.Spelling.{Spelling, Spellings, SpelledEntries, unsigned, negative, bytes, text, byte_chunks, text_chunks, array, a_map, tag, simple, no_spellings, a_spelling, no_entries, entry, spell, spell_all, spell_entries, spellings_count, entries_count, break_of}
use Rattle.cbor_head.specs.declared.major.Major.TheVariants as majors
use Rattle.cbor_head.specs.declared.width.Width.TheVariants.{Direct, One, Two, Four, Eight, Indefinite}
use Rattle.cbor_head.specs.{Value.Value, declared.major.Major.Major, declared.width.Width.Width, declared.order.KeyOrder.KeyOrder}
use Rattle.theory_values.proofs.Normal.{normal, spell-normal, Holds-shortest}
use Rattle.theory_values.proofs.ReadLaws.{length_spell}
use Rattle.cbor_cursor.specs.{Items.BeginsWith, Items.major_of, Items.argument_of, Items.content_of, inner.Definite.IsDefinite, inner.Definite.AreDefinite, inner.Definite.AreEntriesDefinite}
use Rattle.cbor_cursor.specs.WellFormed.{BeginsWithHead, BeginsWithItem, BeginsWithItems, item, none, more}
use Rattle.cbor_cursor.proofs.{Definite.definite, ItemHeads.head_of, ItemHeads.from_head}

-- no more items than bytes
pub count_fits : (ss : Spellings) → spellings_count ss ≤ length (spell_all ss)
count_fits no_spellings = omega arith
count_fits (a_spelling s ss) = omega (arith, count_fits ss, length_spell s, length-append (spell s) (spell_all ss))

-- ---- heads

either_side : (n : ℕ) → (n < 24) ⊎ (24 ≤ n)
either_side n = grind arith

-- a shortest head of two bytes has no argument below 24
two_bytes : (n : ℕ) → shortest n ≡ One → 24 ≤ n
two_bytes n e = elim (either_side n) [ inl l ↦ absurd (cc (sym (direct l) ∙ e)) | inr g ↦ g ]
  where
    direct : n < 24 → shortest n ≡ Direct
    direct l = ap (λ b. if b then Direct else if nat_lt n (2 ^ 8) then One else if nat_lt n (2 ^ 16) then Two else if nat_lt n (2 ^ 32) then Four else Eight) (lt-ltb n 24 l)

other_head : (m : Major) (w : Width) (n : ℕ) (xs content : List ℕ) → (major_number m ≡ 7 → ⊥) → Holds w n → xs ≡ head m w n ++ content → BeginsWithHead xs (major_number m) n content
other_head m w n xs content o h e = record { major = m; width = w; holds = h; kind_is = refl; simple = λ k. absurd (o k); bytes_are = e }

pub a_head : (m : Major) (w : Width) (n : ℕ) (xs content : List ℕ) → IsHead m w n → xs ≡ head m w n ++ content → BeginsWithHead xs (major_number m) n content
a_head majors.Simple w n xs content h e = record {
  major = majors.Simple;
  width = w;
  holds = subst (λ (v : Width). Holds v n) (sym h.1) (Holds-shortest n (omega (arith, h.0.0)));
  kind_is = refl;
  simple = λ _ one. h.0.1 (two_bytes n (sym h.1 ∙ one));
  bytes_are = e;
}
a_head majors.Unsigned w n xs content h e = other_head majors.Unsigned w n xs content (λ k. omega (arith, k)) h e
a_head majors.Negative w n xs content h e = other_head majors.Negative w n xs content (λ k. omega (arith, k)) h e
a_head majors.Bytes w n xs content h e = other_head majors.Bytes w n xs content (λ k. omega (arith, k)) h e
a_head majors.Text w n xs content h e = other_head majors.Text w n xs content (λ k. omega (arith, k)) h e
a_head majors.Array w n xs content h e = other_head majors.Array w n xs content (λ k. omega (arith, k)) h e
a_head majors.Map w n xs content h e = other_head majors.Map w n xs content (λ k. omega (arith, k)) h e
a_head majors.Tag w n xs content h e = other_head majors.Tag w n xs content (λ k. omega (arith, k)) h e

-- ---- items

no_break : (w : Width) (n : ℕ) → Holds w n → break_of w ≡ []
no_break Indefinite n h = absurd h
no_break _ n h = refl

without_break : (m : Major) (w : Width) (n : ℕ) (xs rest : List ℕ) → Holds w n → (head m w n ++ xs ++ break_of w) ++ rest ≡ head m w n ++ (xs ++ rest)
without_break m w n xs rest h =
    ap (λ (l : List ℕ). (head m w n ++ xs ++ l) ++ rest) (no_break w n h)
    ∙ ap (λ (l : List ℕ). l ++ rest) (append-nil (head m w n ++ xs))
    ∙ append_assoc (head m w n) xs rest

split : (k v : Spelling) (es : SpelledEntries) (rest : List ℕ) → spell_entries (entry k v es) ++ rest ≡ spell k ++ (spell v ++ (spell_entries es ++ rest))
split k v es rest = append_assoc (spell k ++ spell v) (spell_entries es) rest ∙ append_assoc (spell k) (spell v) (spell_entries es ++ rest)

mutual
  pub spelled_item : (s : Spelling) (rest : List ℕ) → IsDefinite s → BeginsWithItem (spell s ++ rest) rest
  spelled_item (unsigned w n) rest h = item _ rest 0 n rest (a_head majors.Unsigned w n _ rest h refl) (omega arith) (none 0 rest rest refl refl)
  spelled_item (negative w n) rest h = item _ rest 1 n rest (a_head majors.Negative w n _ rest h refl) (omega arith) (none 0 rest rest refl refl)
  spelled_item (bytes w s) rest h =
      item _ rest 2 (length s) (s ++ rest) (a_head majors.Bytes w (length s) _ (s ++ rest) h (append_assoc (head majors.Bytes w (length s)) s rest))
      (omega (arith, length-append s rest)) (none 0 _ rest refl (drop-append_seam s rest))
  spelled_item (text w s) rest h =
      item _ rest 3 (length s) (s ++ rest) (a_head majors.Text w (length s) _ (s ++ rest) h (append_assoc (head majors.Text w (length s)) s rest))
      (omega (arith, length-append s rest)) (none 0 _ rest refl (drop-append_seam s rest))
  spelled_item (byte_chunks cs) rest h = absurd h
  spelled_item (text_chunks cs) rest h = absurd h
  spelled_item (array w ss) rest h =
      item _ rest 4 (spellings_count ss) (spell_all ss ++ rest) (a_head majors.Array w (spellings_count ss) _ (spell_all ss ++ rest) h.0 (without_break majors.Array w (spellings_count ss) (spell_all ss) rest h.0))
      (omega arith) (spelled_items ss rest h.1)
  spelled_item (a_map w es) rest h =
      item _ rest 5 (entries_count es) (spell_entries es ++ rest) (a_head majors.Map w (entries_count es) _ (spell_entries es ++ rest) h.0 (without_break majors.Map w (entries_count es) (spell_entries es) rest h.0))
      (omega arith) (spelled_pairs es rest h.1)
  spelled_item (tag w n s) rest h =
      item _ rest 6 n (spell s ++ rest) (a_head majors.Tag w n _ (spell s ++ rest) h.0 (append_assoc (head majors.Tag w n) (spell s) rest))
      (omega arith) (more 1 0 _ rest rest refl (spelled_item s rest h.1) (none 0 rest rest refl refl))
  spelled_item (simple n) rest h = item _ rest 7 n rest (a_head majors.Simple (shortest n) n _ rest (h, refl) refl) (omega arith) (none 0 rest rest refl refl)

  pub spelled_items : (ss : Spellings) (rest : List ℕ) → AreDefinite ss → BeginsWithItems (spellings_count ss) (spell_all ss ++ rest) rest
  spelled_items no_spellings rest h = none 0 rest rest refl refl
  spelled_items (a_spelling s ss) rest h =
      more _ (spellings_count ss) _ (spell_all ss ++ rest) rest refl
      (subst (λ (xs : List ℕ). BeginsWithItem xs (spell_all ss ++ rest)) (sym (append_assoc (spell s) (spell_all ss) rest)) (spelled_item s (spell_all ss ++ rest) h.0)) (spelled_items ss rest h.1)

  spelled_pairs : (es : SpelledEntries) (rest : List ℕ) → AreEntriesDefinite es → BeginsWithItems (2 * entries_count es) (spell_entries es ++ rest) rest
  spelled_pairs no_entries rest h = none 0 rest rest refl refl
  spelled_pairs (entry k v es) rest h =
      let later = spell_entries es ++ rest in
      more _ (suc (2 * entries_count es)) (spell_entries (entry k v es) ++ rest) (spell v ++ later) rest (omega arith)
      (subst (λ (xs : List ℕ). BeginsWithItem xs (spell v ++ later)) (sym (split k v es rest)) (spelled_item k (spell v ++ later) h.0))
      (more _ (2 * entries_count es) _ later rest refl (spelled_item v later h.1) (spelled_pairs es rest h.2))

-- canonical bytes are an item
pub canonical_item : (o : KeyOrder) (v : Value) (xs rest : List ℕ) → BeginsWith o xs v rest → BeginsWithItem xs rest
canonical_item o v xs rest b =
    subst (λ (ys : List ℕ). BeginsWithItem ys rest) (sym (b.begins ∙ ap (λ (l : List ℕ). l ++ rest) (sym (spell-normal o v)))) (spelled_item (normal o v) rest (definite o v b.range))

pub later_item : (o : KeyOrder) (v : Value) (xs ys rest : List ℕ) → ys ≡ xs → BeginsWith o xs v rest → BeginsWithItem ys rest
later_item o v xs ys rest e b = subst (λ (zs : List ℕ). BeginsWithItem zs rest) (sym e) (canonical_item o v xs rest b)

-- and begin with its head
pub canonical_head : (o : KeyOrder) (v : Value) (xs rest : List ℕ) → BeginsWith o xs v rest → BeginsWithHead xs (major_number (major_of v)) (argument_of v) (content_of o v ++ rest)
canonical_head o v xs rest b = a_head (major_of v) (shortest (argument_of v)) (argument_of v) xs (content_of o v ++ rest) (head_of v b.range) (from_head o v xs rest b)
