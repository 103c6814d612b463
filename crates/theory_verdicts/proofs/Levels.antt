-- What is complete in the open containers, and grows by an item.
use Rattle.std.proofs.Common.{◌≡◌, ℕ, suc, ◌+◌, ◌≤◌, ◌⊎◌, List, [], ◌∷◌, ◌++◌, length, refl, sym, ◌∙◌, subst, inl, inr, arith, length-append}
use Rattle.cbor_head.specs.Prelude.{Holds, head, Value, HasEntry, HasDistinctKeys, Same, Chunk, Spelling, Spellings, SpelledEntries, text, byte_chunks, text_chunks, array, a_map, tag, simple, no_spellings, a_spelling, no_entries, entry, spell, spell_all, spell_entries, spellings_count, entries_count, chunk_bytes, break_of, AreSpelled, AreEntriesSpelled, depth_all, depth_entries, value_of, entries_of, plain, Complaint, OfChunks, Complains, IsRepeated}
use Rattle.cbor_head.specs.declared.major.Major.TheVariants as majors
use Rattle.cbor_head.specs.declared.{major.Major.Major, width.Width.Width}
use Rattle.theory_values.specs.MemberComplaints.{ComplainsIn, ComplainsInEntries}
use Rattle.theory_verdicts.specs.Levels.{IsClean, IsTaken, AreTaken, ArePairsTaken, IsOpened, Level, a_member, a_key, some_member, some_key, tagged}
use Rattle.theory_verdicts.proofs.Loops.{array_bytes-more, array_bytes-whole, map_bytes-more, map_bytes-whole}
use Rattle.theory_verdicts.{specs.Frame.with_all, specs.Frame.with_entries, proofs.Members.closes, proofs.Frames.count_with, proofs.Frames.entries_with}
use Rattle.theory_verdicts.{proofs.Items.is-definite, specs.Judged.Never}
pub use Rattle.theory_values.proofs.PlainRules.{no_count as no-count}

-- ---- complaints, at any offset of an item

chunks-move : (m : Major) (ks : List Chunk) (at to : ℕ) (c : Complaint) → OfChunks plain at m ks c → (e : Complaint) × OfChunks plain to m ks e
chunks-move m [] at to c h = absurd h
chunks-move m (k ∷ ks) at to c (inr h) = let r = chunks-move m ks (at + length (chunk_bytes m k)) (to + length (chunk_bytes m k)) c h in (r.0, inr r.1)
chunks-move majors.Text (k ∷ ks) at to c (inl (inl h)) = absurd (cc h.0)
chunks-move majors.Text (k ∷ ks) at to c (inl (inr h)) = (_, inl (inr (h.0, h.1, refl)))
chunks-move _ (k ∷ ks) at to c (inl h) = absurd (cc h.0)

mutual
  moves : (s : Spelling) (at to : ℕ) (c : Complaint) → Complains plain at s c → (e : Complaint) × Complains plain to s e
  moves (text w q) at to c (inl h) = absurd (cc h.0)
  moves (text w q) at to c (inr h) = (_, inr (h.0, h.1, refl))
  moves (byte_chunks ks) at to c (inl h) = absurd (cc h.0)
  moves (byte_chunks ks) at to c (inr h) = let r = chunks-move majors.Bytes ks (at + 1) (to + 1) c h in (r.0, inr r.1)
  moves (text_chunks ks) at to c (inl h) = absurd (cc h.0)
  moves (text_chunks ks) at to c (inr h) = let r = chunks-move majors.Text ks (at + 1) (to + 1) c h in (r.0, inr r.1)
  moves (array w ss) at to c (inl h) = absurd (no-count at majors.Array w (spellings_count ss) c h)
  moves (array w ss) at to c (inr h) = let r = moves-in ss _ (to + length (head majors.Array w (spellings_count ss))) c h in (r.0, inr r.1)
  moves (a_map w es) at to c (inl h) = absurd (no-count at majors.Map w (entries_count es) c h)
  moves (a_map w es) at to c (inr h) = let r = moves-entries es [] _ (to + length (head majors.Map w (entries_count es))) c h in (r.0, inr r.1)
  moves (tag w n s) at to c (inl h) = absurd (cc h.0)
  moves (tag w n s) at to c (inr h) = let r = moves s _ (to + length (head majors.Tag w n)) c h in (r.0, inr r.1)
  moves (simple n) at to c h = absurd h
  moves _ at to c h = absurd (cc h.0)

  moves-in : (ss : Spellings) (at to : ℕ) (c : Complaint) → ComplainsIn plain at ss c → (e : Complaint) × ComplainsIn plain to ss e
  moves-in no_spellings at to c h = absurd h
  moves-in (a_spelling s ss) at to c (inl h) = let r = moves s at to c h in (r.0, inl r.1)
  moves-in (a_spelling s ss) at to c (inr h) = let r = moves-in ss _ (to + length (spell s)) c h in (r.0, inr r.1)

  moves-entries : (es : SpelledEntries) (before : List Spelling) (at to : ℕ) (c : Complaint) → ComplainsInEntries plain at before es c → (e : Complaint) × ComplainsInEntries plain to before es e
  moves-entries no_entries before at to c h = absurd h
  moves-entries (entry k v es) before at to c (inl h) = let r = moves k at to c h in (r.0, inl r.1)
  moves-entries (entry k v es) before at to c (inr (inl h)) = (_, inr (inl (h.0, refl)))
  moves-entries (entry k v es) before at to c (inr (inr (inl h))) = let r = moves v _ (to + length (spell k)) c h in (r.0, inr (inr (inl r.1)))
  moves-entries (entry k v es) before at to c (inr (inr (inr h))) = let r = moves-entries es (k ∷ before) _ (to + length (spell k) + length (spell v)) c h in (r.0, inr (inr (inr r.1)))

-- an item without complaint at its offset has none at any other
pub clean-anywhere : (s : Spelling) (at : ℕ) → Never (Complains plain at s) → IsClean s
clean-anywhere s at f to c h = let r = moves s to at c h in f r.0 r.1

-- ---- members

pub spelled-all : (d : ℕ) (ss : Spellings) → AreTaken d ss → AreSpelled ss
spelled-all d no_spellings h = tt
spelled-all d (a_spelling s ss) h = (h.0.spelled, spelled-all d ss h.1)

pub within-all : (d : ℕ) (ss : Spellings) → AreTaken d ss → depth_all ss ≤ d
within-all d no_spellings h = omega arith
within-all d (a_spelling s ss) h = omega (arith, h.0.within, within-all d ss h.1)

pub clean-all : (d : ℕ) (ss : Spellings) (at : ℕ) → AreTaken d ss → Never (ComplainsIn plain at ss)
clean-all d no_spellings at h c x = x
clean-all d (a_spelling s ss) at h c (inl x) = h.0.clean at c x
clean-all d (a_spelling s ss) at h c (inr x) = clean-all d ss _ h.1 c x

pub taken-more : (d : ℕ) (ss : Spellings) (s : Spelling) → AreTaken d ss → IsTaken d s → AreTaken d (with_all ss (a_spelling s no_spellings))
taken-more d no_spellings s h i = (i, tt)
taken-more d (a_spelling x ss) s h i = (h.0, taken-more d ss s h.1 i)

pub count-more : (ss : Spellings) (s : Spelling) → spellings_count (with_all ss (a_spelling s no_spellings)) ≡ suc (spellings_count ss)
count-more ss s = omega (arith, count_with ss (a_spelling s no_spellings))

-- ---- pairs

pub pairs-spelled : (d : ℕ) (es : SpelledEntries) → ArePairsTaken d es → AreEntriesSpelled es
pairs-spelled d no_entries h = tt
pairs-spelled d (entry k v es) h = (h.0.spelled, h.1.spelled, pairs-spelled d es h.2)

pub pairs-within : (d : ℕ) (es : SpelledEntries) → ArePairsTaken d es → depth_entries es ≤ d
pairs-within d no_entries h = omega arith
pairs-within d (entry k v es) h = omega (arith, h.0.within, h.1.within, pairs-within d es h.2)

pub pairs-more : (d : ℕ) (es : SpelledEntries) (k v : Spelling) → ArePairsTaken d es → IsTaken d k → IsTaken d v → ArePairsTaken d (with_entries es (entry k v no_entries))
pairs-more d no_entries k v h i j = (i, j, tt)
pairs-more d (entry x y es) k v h i j = (h.0, h.1, pairs-more d es k v h.2 i j)

pub pair-count-more : (es : SpelledEntries) (k v : Spelling) → entries_count (with_entries es (entry k v no_entries)) ≡ suc (entries_count es)
pair-count-more es k v = omega (arith, entries_with es (entry k v no_entries))

-- b is one of these
abbrev pub Among : Spelling → List Spelling → Type 0
Among b [] = ⊥
Among b (x ∷ xs) = (x ≡ b) ⊎ Among b xs

among : (ks : List Spelling) (k : Spelling) → IsRepeated ks k → (b : Spelling) × Among b ks × Same (value_of b) (value_of k)
among [] k h = absurd h
among (b ∷ bs) k (inl h) = (b, inl refl, h)
among (b ∷ bs) k (inr h) = let r = among bs k h in (r.0, inr r.1, r.2)

-- no key of these is the same as one before, or another
pub pairs-clean : (d : ℕ) (es : SpelledEntries) (before : List Spelling) (at : ℕ) → ArePairsTaken d es → HasDistinctKeys (entries_of es)
    → ((b : Spelling) → Among b before → (k v : Value) → HasEntry (entries_of es) k v → Same (value_of b) k → ⊥) → Never (ComplainsInEntries plain at before es)
pairs-clean d no_entries before at h g apart c x = x
pairs-clean d (entry k v es) before at h g apart c (inl x) = h.0.clean at c x
pairs-clean d (entry k v es) before at h g apart c (inr (inl x)) = let r = among before k x.0 in apart r.0 r.1 (value_of k) (value_of v) (inl (refl, refl)) r.2
pairs-clean d (entry k v es) before at h g apart c (inr (inr (inl x))) = h.1.clean _ c x
pairs-clean d (entry k v es) before at h g apart c (inr (inr (inr x))) =
    pairs-clean d es (k ∷ before) _ h.2 g.1
    (λ b m l w e s. elim m [
      | inl same ↦ g.0 l w e (subst (λ (y : Spelling). Same (value_of y) l) (sym same) s)
      | inr among ↦ apart b among l w (inr e) s
    ])
    c x

-- ---- the bytes of a level

-- a definite array that is complete
pub array-spelled : (w : Width) (n : ℕ) (done : Spellings) (s : Spelling) → Holds w n → spellings_count done + 1 ≡ n
    → (head majors.Array w n ++ spell_all done) ++ spell s ≡ spell (array w (with_all done (a_spelling s no_spellings)))
array-spelled w n done s holds count =
    sym (array_bytes-more w n done s) ∙ sym (array_bytes-whole w n (with_all done (a_spelling s no_spellings)) (closes w (is-definite w n holds)) (omega (arith, count, count-more done s)))

pub map-spelled : (w : Width) (n : ℕ) (done : SpelledEntries) (k s : Spelling) → Holds w n → entries_count done + 1 ≡ n
    → ((head majors.Map w n ++ spell_entries done) ++ spell k) ++ spell s ≡ spell (a_map w (with_entries done (entry k s no_entries)))
map-spelled w n done k s holds count =
    sym (map_bytes-more w n done k s) ∙ sym (map_bytes-whole w n (with_entries done (entry k s no_entries)) (closes w (is-definite w n holds)) (omega (arith, count, pair-count-more done k s)))

-- the pairs are no longer than the map
pub pairs-shorter : (w : Width) (es : SpelledEntries) → length (spell_entries es) ≤ length (spell (a_map w es))
pairs-shorter w es =
    omega (arith, length-append (head majors.Map w (entries_count es) ++ spell_entries es) (break_of w), length-append (head majors.Map w (entries_count es)) (spell_entries es))

-- ---- containers before their first item

-- what holds of each container before its first item
pub of-opened : (P : Major → ℕ → Level → Type 0) → ((w : Width) (left n : ℕ) → P majors.Array n (a_member w left no_spellings)) → ((n : ℕ) → P majors.Array n (some_member no_spellings)) → ((w : Width) (left n : ℕ) → P majors.Map n (a_key w left no_entries)) → ((n : ℕ) → P majors.Map n (some_key no_entries))
    → ((w : Width) (n : ℕ) → P majors.Tag n (tagged w n)) → (m : Major) (n : ℕ) (l : Level) → IsOpened m n l → P m n l
of-opened P members indefinite_members pairs indefinite_pairs content majors.Array n l (inl (w, left, e)) = subst (P majors.Array n) (sym e) (members w left n)
of-opened P members indefinite_members pairs indefinite_pairs content majors.Array n l (inr e) = subst (P majors.Array n) (sym e) (indefinite_members n)
of-opened P members indefinite_members pairs indefinite_pairs content majors.Map n l (inl (w, left, e)) = subst (P majors.Map n) (sym e) (pairs w left n)
of-opened P members indefinite_members pairs indefinite_pairs content majors.Map n l (inr e) = subst (P majors.Map n) (sym e) (indefinite_pairs n)
of-opened P members indefinite_members pairs indefinite_pairs content majors.Tag n l (w, e) = subst (P majors.Tag n) (sym e) (content w n)
of-opened P members indefinite_members pairs indefinite_pairs content _ n l o = absurd o
