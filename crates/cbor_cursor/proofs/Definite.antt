-- The encoding that `normal` returns has definite lengths; lists of encodings one after another.
use Rattle.std.proofs.Common.{◌≡◌, ℕ, ◌+◌, ◌*◌, ◌^◌, ◌<◌, List, ◌++◌, length, refl, sym, ap, ◌∙◌, subst, arith, append_assoc}
use Rattle.cbor_head.specs.Value as value
use Rattle.cbor_head.specs.Prelude.{Holds, shortest, Value, Values, Entries, IsInRange, AreInRange, AreEntriesInRange, Spellings, SpelledEntries, no_spellings, a_spelling, no_entries, entry, spell, spell_all, spell_entries, spellings_count, entries_count}
use Rattle.cbor_head.specs.declared.order.KeyOrder.{KeyOrder}
use Rattle.theory_values.proofs.Normal.{normal, normal_all, normal_entries, by_put, spellings_count-normal, entries_count-normal, Holds-shortest}
use Rattle.cbor_cursor.specs.inner.Definite.{IsDefinite, AreDefinite, AreEntriesDefinite}

held : (n m : ℕ) → m ≡ n → n < 2 ^ 64 → Holds (shortest n) m
held n m e h = subst (Holds (shortest n)) (sym e) (Holds-shortest n h)

mutual
  pub definite : (o : KeyOrder) (v : Value) → IsInRange v → IsDefinite (normal o v)
  definite o (value.unsigned n) h = Holds-shortest n h
  definite o (value.negative n) h = Holds-shortest n h
  definite o (value.bytes s) h = Holds-shortest (length s) h.0
  definite o (value.text s) h = Holds-shortest (length s) h.0
  definite o (value.array vs) h = (held _ _ (spellings_count-normal o vs) h.0, definite-all o vs h.1)
  definite o (value.map es) h = (held _ _ (entries_count-normal o es) h.0, definite-entries o es h.1)
  definite o (value.tag n v) h = (Holds-shortest n h.0, definite o v h.1)
  definite o (value.simple n) h = h

  definite-all : (o : KeyOrder) (vs : Values) → AreInRange vs → AreDefinite (normal_all o vs)
  definite-all o value.no_values h = tt
  definite-all o (value.a_value v vs) h = (definite o v h.0, definite-all o vs h.1)

  definite-entries : (o : KeyOrder) (es : Entries) → AreEntriesInRange es → AreEntriesDefinite (normal_entries o es)
  definite-entries o value.no_entries h = tt
  definite-entries o (value.entry k v es) h =
      let p = definite o k h.0 in
      let q = definite o v h.1 in
      by_put o (normal o k) (normal o v) (λ fs put. AreEntriesDefinite fs → AreEntriesDefinite put) (λ a. (p, q, tt)) (λ k' v' fs a. (p, q, a)) (λ k' v' fs put ih a. (a.0, a.1, ih a.2)) (normal_entries o es) (definite-entries o es h.2)

-- ---- one list after another

abbrev pub joined : Spellings → Spellings → Spellings
joined no_spellings ts = ts
joined (a_spelling s ss) ts = a_spelling s (joined ss ts)

pub definite-joined : (ss ts : Spellings) → AreDefinite ss → AreDefinite ts → AreDefinite (joined ss ts)
definite-joined no_spellings ts h g = g
definite-joined (a_spelling s ss) ts h g = (h.0, definite-joined ss ts h.1 g)

pub count-joined : (ss ts : Spellings) → spellings_count (joined ss ts) ≡ spellings_count ss + spellings_count ts
count-joined no_spellings ts = omega arith
count-joined (a_spelling s ss) ts = omega (arith, count-joined ss ts)

pub spell-joined : (ss ts : Spellings) → spell_all (joined ss ts) ≡ spell_all ss ++ spell_all ts
spell-joined no_spellings ts = refl
spell-joined (a_spelling s ss) ts = ap (λ (l : List ℕ). spell s ++ l) (spell-joined ss ts) ∙ sym (append_assoc (spell s) (spell_all ss) (spell_all ts))

-- keys and values, in their order
abbrev pub flat : SpelledEntries → Spellings
flat no_entries = no_spellings
flat (entry k v es) = a_spelling k (a_spelling v (flat es))

pub definite-flat : (es : SpelledEntries) → AreEntriesDefinite es → AreDefinite (flat es)
definite-flat no_entries h = tt
definite-flat (entry k v es) h = (h.0, (h.1, definite-flat es h.2))

pub count-flat : (es : SpelledEntries) → spellings_count (flat es) ≡ 2 * entries_count es
count-flat no_entries = refl
count-flat (entry k v es) = omega (arith, count-flat es)

pub spell-flat : (es : SpelledEntries) → spell_all (flat es) ≡ spell_entries es
spell-flat no_entries = refl
spell-flat (entry k v es) = sym (append_assoc (spell k) (spell v) (spell_all (flat es))) ∙ ap (λ (l : List ℕ). spell k ++ spell v ++ l) (spell-flat es)
