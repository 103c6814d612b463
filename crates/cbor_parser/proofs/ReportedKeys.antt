-- The first key of a map that is the same as an earlier one, with what comes before it.
use Rattle.std.proofs.Common.{◌≡◌, ℕ, zero, suc, ◌+◌, ◌-◌, ◌<◌, ◌≤◌, List, [], ◌∷◌, ◌++◌, length, map, get_or, refl, sym, ap, ◌∙◌, subst, inl, inr, arith, append_assoc, append-nil, length-append}
use Rattle.std.proofs.{lemmas.Bool.cases_lt, Math.ListN.get_or-append, Math.Seq.get_or-append_seam}
use Rattle.cbor_head.specs.Prelude.{Pair, canonical, canonical_entries, Holds, head, Spelling, SpelledEntries, a_map, no_entries, entry, spell, spell_entries, entries_count, break_of, HoldsOrIndefinite, value_of, entries_of}
use Rattle.cbor_head.specs.declared.major.Major.TheVariants as majors
use Rattle.cbor_head.specs.declared.{order.KeyOrder.KeyOrder, width.Width.Width, width.Width.TheVariants.Indefinite}
use Rattle.cbor_builder.specs.Built.{HasKey, keys_so_far, IsFirstRepeat, AreAllDifferent}
use Rattle.theory_verdicts.specs.Levels.{IsTaken, ArePairsTaken, Level, a_key, a_value, some_key, some_value, level_bytes, IsLevel}
use Rattle.theory_verdicts.{specs.Given.level_open, proofs.Heads.open_or}
use Rattle.cbor_parser.specs.{Sink.IsKeyAfter, inner.OpenContainer.opener}

-- ---- canonical keys

abbrev keys : KeyOrder → SpelledEntries → List (List ℕ)
keys o es = map (λ (p : Pair). p.key) (canonical_entries o (entries_of es))

keys_count : (o : KeyOrder) (es : SpelledEntries) → length (keys o es) ≡ entries_count es
keys_count o no_entries = refl
keys_count o (entry k v es) = ap suc (keys_count o es)

has_key : (ps : List Pair) (j : ℕ) (k : List ℕ) → j < length (map (λ (p : Pair). p.key) ps) → get_or (map (λ (p : Pair). p.key) ps) j [] ≡ k → HasKey ps k
has_key [] j k h e = absurd (omega (arith, h))
has_key (p ∷ ps) zero k h e = inl e
has_key (p ∷ ps) (suc j) k h e = inr (has_key ps j k (omega (arith, h)) e)

-- what is first the same as an earlier one is held among those before it, and of these no two are the same
module _ (o : KeyOrder) (before : SpelledEntries) (x : List ℕ) (more : List (List ℕ)) (first : IsFirstRepeat (keys o before ++ x ∷ more) (entries_count before)) where
  earlier : (j : ℕ) → j < entries_count before → get_or (keys o before ++ x ∷ more) j [] ≡ get_or (keys o before) j []
  earlier j h = get_or-append (keys o before) (x ∷ more) [] j (omega (arith, h, keys_count o before))

  here : get_or (keys o before ++ x ∷ more) (entries_count before) [] ≡ x
  here = ap (λ (n : ℕ). get_or (keys o before ++ x ∷ more) n []) (sym (keys_count o before)) ∙ get_or-append_seam (keys o before) x more []

  is_held : HasKey (canonical_entries o (entries_of before)) x
  is_held =
      let r = first.0 in
      has_key (canonical_entries o (entries_of before)) r.0 x (omega (arith, r.1, keys_count o before)) (sym (earlier r.0 r.1) ∙ r.3 ∙ here)

  are_apart : AreAllDifferent (keys o before)
  are_apart i r =
      let low : i < entries_count before = omega (arith, r.2, keys_count o before) in
      let less : r.0 < entries_count before = omega (arith, r.1, low) in
      first.1 i low (r.0, r.1, omega (arith, low, length-append (keys o before) (x ∷ more), keys_count o before), earlier r.0 less ∙ r.3 ∙ sym (earlier i low))

-- ---- pairs, split at one of them

record PairAt (o : KeyOrder) (d : ℕ) (es : SpelledEntries) (n : ℕ) : Type 0 where
  before : SpelledEntries
  key : Spelling
  value : Spelling
  after : SpelledEntries
  count : entries_count before ≡ n
  total : entries_count es ≡ suc n + entries_count after
  before_taken : ArePairsTaken d before
  key_taken : IsTaken d key
  keys_are : keys o es ≡ keys o before ++ canonical o (value_of key) ∷ keys o after
  bytes_are : spell_entries es ≡ spell_entries before ++ (spell key ++ (spell value ++ spell_entries after))

pair_at : (o : KeyOrder) (d : ℕ) (es : SpelledEntries) (n : ℕ) → ArePairsTaken d es → n < entries_count es → PairAt o d es n
pair_at o d no_entries n h l = absurd (omega (arith, l))
pair_at o d (entry k v es) zero h l = record {
  before = no_entries;
  key = k;
  value = v;
  after = es;
  count = refl;
  total = omega arith;
  before_taken = tt;
  key_taken = h.0;
  keys_are = refl;
  bytes_are = append_assoc (spell k) (spell v) (spell_entries es);
}
pair_at o d (entry k v es) (suc n) h l =
    let r = pair_at o d es n h.2 (omega (arith, l)) in
    let rest = spell r.key ++ (spell r.value ++ spell_entries r.after) in
    record {
      before = entry k v r.before;
      key = r.key;
      value = r.value;
      after = r.after;
      count = ap suc r.count;
      total = omega (arith, r.total);
      before_taken = (h.0, h.1, r.before_taken);
      key_taken = r.key_taken;
      keys_are = ap (λ (ks : List (List ℕ)). canonical o (value_of k) ∷ ks) r.keys_are;
      bytes_are = ap (λ (x : List ℕ). (spell k ++ spell v) ++ x) r.bytes_are ∙ sym (append_assoc (spell k ++ spell v) (spell_entries r.before) rest);
    }

-- ---- a map

-- A map begins so and has these bytes. After n of its pairs comes the first key that is the same as an earlier one.
pub record IsKeyIn (o : KeyOrder) (d : ℕ) (opening bytes : List ℕ) (pair : ℕ) : Type 0 where
  pub level : Level
  pub es : SpelledEntries
  pub key : Spelling
  pub is_after : IsKeyAfter level es
  pub count : entries_count es ≡ pair
  pub begins : opener level ≡ opening
  pub holds : IsLevel d level
  pub taken : IsTaken d key
  pub held : HasKey (canonical_entries o (entries_of es)) (canonical o (value_of key))
  pub apart : AreAllDifferent (keys_so_far (level_open o level))
  pub more : List ℕ
  pub bytes_are : bytes ≡ level_bytes level ++ (spell key ++ more)

-- a map that begins so, with a key expected after these pairs
record IsExpectedAfter (o : KeyOrder) (d : ℕ) (opening : List ℕ) (es : SpelledEntries) : Type 0 where
  level : Level
  is_after : IsKeyAfter level es
  begins : opener level ≡ opening
  holds : IsLevel d level
  keys_are : keys_so_far (level_open o level) ≡ keys o es
  bytes_are : level_bytes level ≡ opening ++ spell_entries es

expected_in : (o : KeyOrder) (d : ℕ) (w : Width) (n : ℕ) → HoldsOrIndefinite w n → (es : SpelledEntries) → entries_count es < n → ArePairsTaken d es → IsExpectedAfter o d (head majors.Map w n) es
expected_in o d Indefinite n h es l taken = record { level = some_key es; is_after = refl; begins = refl; holds = taken; keys_are = refl; bytes_are = refl }
expected_in o d w n h es l taken =
    let left = n - suc (entries_count es) in
    let count : entries_count es + suc left ≡ n = omega (arith, l) in
    record {
      level = a_key w left es;
      is_after = refl;
      begins = ap (head majors.Map w) count;
      holds = (subst (Holds w) (sym count) h, taken);
      keys_are = refl;
      bytes_are = ap (λ (m : ℕ). head majors.Map w m ++ spell_entries es) count;
    }

module _ (o : KeyOrder) (d : ℕ) (w : Width) (n : ℕ) (holds : HoldsOrIndefinite w n) where
  -- after these pairs
  key_after : (before : SpelledEntries) (key : Spelling) (others : List (List ℕ)) (more bytes : List ℕ) → entries_count before < n → ArePairsTaken d before → IsTaken d key
      → IsFirstRepeat (keys o before ++ canonical o (value_of key) ∷ others) (entries_count before) → bytes ≡ (head majors.Map w n ++ spell_entries before) ++ (spell key ++ more)
      → IsKeyIn o d (head majors.Map w n) bytes (entries_count before)
  key_after before key others more bytes l taken i first e =
      let expected = expected_in o d w n holds before l taken in
      record {
        level = expected.level;
        es = before;
        key = key;
        is_after = expected.is_after;
        count = refl;
        begins = expected.begins;
        holds = expected.holds;
        taken = i;
        held = is_held o before (canonical o (value_of key)) others first;
        apart = subst AreAllDifferent (sym expected.keys_are) (are_apart o before (canonical o (value_of key)) others first);
        more = more;
        bytes_are = e ∙ ap (λ (x : List ℕ). x ++ (spell key ++ more)) (sym expected.bytes_are);
      }

  -- of these pairs
  key_among : (es : SpelledEntries) (pair : ℕ) (others : List (List ℕ)) (tail : List ℕ) → entries_count es ≤ n → ArePairsTaken d es → pair < entries_count es → IsFirstRepeat (keys o es ++ others) pair
      → IsKeyIn o d (head majors.Map w n) ((head majors.Map w n ++ spell_entries es) ++ tail) pair
  key_among es pair others tail l taken low first =
      let r = pair_at o d es pair taken low in
      let h = head majors.Map w n in
      let count = r.count in
      let ck = canonical o (value_of r.key) in
      let all : keys o es ++ others ≡ keys o r.before ++ ck ∷ (keys o r.after ++ others) = ap (λ (ks : List (List ℕ)). ks ++ others) r.keys_are ∙ append_assoc (keys o r.before) (ck ∷ keys o r.after) others in
      let following = spell r.value ++ spell_entries r.after in
      let bytes : (h ++ spell_entries es) ++ tail ≡ (h ++ spell_entries r.before) ++ (spell r.key ++ (following ++ tail)) =
      ap (λ (x : List ℕ). (h ++ x) ++ tail) r.bytes_are
      ∙ ap (λ (x : List ℕ). x ++ tail) (sym (append_assoc h (spell_entries r.before) (spell r.key ++ following)))
      ∙ append_assoc (h ++ spell_entries r.before) (spell r.key ++ following) tail
      ∙ ap (λ (x : List ℕ). (h ++ spell_entries r.before) ++ x) (append_assoc (spell r.key) following tail) in
      subst (IsKeyIn o d h ((h ++ spell_entries es) ++ tail)) count
      (key_after r.before r.key (keys o r.after ++ others) (following ++ tail) _ (omega (arith, r.total, count, l)) r.before_taken r.key_taken
      (subst (λ (m : ℕ). IsFirstRepeat (keys o r.before ++ ck ∷ (keys o r.after ++ others)) m) (sym count) (subst (λ (ks : List (List ℕ)). IsFirstRepeat ks pair) all first)) bytes)

  -- of these pairs alone
  key_of_pairs : (es : SpelledEntries) (pair : ℕ) (tail : List ℕ) → entries_count es ≤ n → ArePairsTaken d es → IsFirstRepeat (keys o es) pair → IsKeyIn o d (head majors.Map w n) ((head majors.Map w n ++ spell_entries es) ++ tail) pair
  key_of_pairs es pair tail l taken first =
      key_among es pair [] tail l taken (omega (arith, first.0.2, keys_count o es)) (subst (λ (ks : List (List ℕ)). IsFirstRepeat ks pair) (sym (append-nil (keys o es))) first)

  -- of these and one that waits for its value
  key_or_waiting : (es : SpelledEntries) (k : Spelling) (pair : ℕ) → entries_count es < n → ArePairsTaken d es → IsTaken d k → IsFirstRepeat (keys o es ++ canonical o (value_of k) ∷ []) pair
      → IsKeyIn o d (head majors.Map w n) ((head majors.Map w n ++ spell_entries es) ++ spell k) pair
  key_or_waiting es k pair l taken i first = elim (cases_lt pair (entries_count es)) [
    | inl low ↦ key_among es pair (canonical o (value_of k) ∷ []) (spell k) (omega (arith, l)) taken low first
    | inr high ↦
        let h = head majors.Map w n in
        let is : entries_count es ≡ pair = omega (arith, high, first.0.2, length-append (keys o es) (canonical o (value_of k) ∷ []), keys_count o es) in
        subst (IsKeyIn o d h ((h ++ spell_entries es) ++ spell k)) is
        (key_after es k [] [] _ l taken i (subst (IsFirstRepeat (keys o es ++ canonical o (value_of k) ∷ [])) (sym is) first) (ap (λ (x : List ℕ). (h ++ spell_entries es) ++ x) (sym (append-nil (spell k)))))
  ]

no_first : (pair : ℕ) → IsFirstRepeat [] pair → ⊥
no_first pair h = omega (arith, h.0.2)

-- of an open container, which is a map
pub key_in_level : (o : KeyOrder) (d : ℕ) (l : Level) (pair : ℕ) → IsLevel d l → IsFirstRepeat (keys_so_far (level_open o l)) pair → IsKeyIn o d (opener l) (level_bytes l) pair
key_in_level o d (a_key w left done) pair h first =
    let n = entries_count done + suc left in
    subst (λ (x : List ℕ). IsKeyIn o d (head majors.Map w n) x pair) (append-nil (head majors.Map w n ++ spell_entries done)) (key_of_pairs o d w n (open_or w n h.0) done pair [] (omega arith) h.1 first)
key_in_level o d (some_key done) pair h first =
    subst (λ (x : List ℕ). IsKeyIn o d (head majors.Map Indefinite 0) x pair) (append-nil (head majors.Map Indefinite 0 ++ spell_entries done)) (key_of_pairs o d Indefinite (entries_count done) tt done pair [] (omega arith) h first)
key_in_level o d (a_value w left done k) pair h first =
    let n = entries_count done + suc left in
    key_or_waiting o d w n (open_or w n h.0) done k pair (omega arith) h.1 h.2 first
key_in_level o d (some_value done k) pair h first = key_or_waiting o d Indefinite (suc (entries_count done)) tt done k pair (omega arith) h.0 h.1 first
key_in_level o d _ pair h first = absurd (no_first pair first)

-- of a map of which all was given
pub key_in_map : (o : KeyOrder) (d : ℕ) (w : Width) (es : SpelledEntries) (pair : ℕ) → HoldsOrIndefinite w (entries_count es) → ArePairsTaken d es → IsFirstRepeat (keys o es) pair → IsKeyIn o d (head majors.Map w (entries_count es)) (spell (a_map w es)) pair
key_in_map o d w es pair holds taken first = key_of_pairs o d w (entries_count es) holds es pair (break_of w) (omega arith) taken first
