-- The normal spelling of a value has its canonical bytes.
use Rattle.std.proofs.Common.{◌≡◌, ℕ, suc, ◌^◌, ◌<◌, Bool, true, false, List, [], ◌∷◌, ◌++◌, length, refl, sym, ap, ◌∙◌, subst, append-nil, flat_map, if◌then◌else◌, nat_lt}
use Rattle.std.proofs.lemmas.Bool.{cond_both}
use Rattle.cbor_head.specs.Value as value
use Rattle.cbor_head.specs.Prelude.{Holds, shortest, shortest_head, head, Value, Values, Entries, values_count, IsInRange, AreInRange, AreEntriesInRange, Spelling, Spellings, SpelledEntries, unsigned, negative, bytes, text, array, a_map, tag, simple, no_spellings, a_spelling, no_entries, entry, spell, spell_all, spell_entries, spellings_count, entries_count, break_of, IsSpelled, AreSpelled, AreEntriesSpelled, HoldsOrIndefinite, key_lt, Pair, put, in_order, canonical, canonical_all, canonical_entries}
use Rattle.cbor_head.specs.declared.major.Major.TheVariants.{Unsigned, Array, Map, Tag}
use Rattle.cbor_head.specs.declared.{order.KeyOrder.KeyOrder, width.Width.Width, width.Width.TheVariants.Eight}
use Rattle.cbor_head.proofs.Least.{least}
use Rattle.theory_values.proofs.Induction.{AllOf, AllIn, AllIn-every, by_cases}
use Rattle.theory_values.{proofs.ReadLaws.holds_or_open, specs.Pairs.pair_bytes}

abbrev pub put_entry : KeyOrder → Spelling → Spelling → SpelledEntries → SpelledEntries
put_entry o k v no_entries = entry k v no_entries
put_entry o k v (entry k' v' es) = if key_lt o (spell k) (spell k') then entry k v (entry k' v' es) else entry k' v' (put_entry o k v es)

-- the spelling with shortest heads, no indefinite form and each map's keys in order
abbrev mutual
  pub normal : KeyOrder → Value → Spelling
  normal o (value.unsigned n) = unsigned (shortest n) n
  normal o (value.negative n) = negative (shortest n) n
  normal o (value.bytes s) = bytes (shortest (length s)) s
  normal o (value.text s) = text (shortest (length s)) s
  normal o (value.array vs) = array (shortest (values_count vs)) (normal_all o vs)
  normal o (value.map es) = a_map (shortest (value.entries_count es)) (normal_entries o es)
  normal o (value.tag n v) = tag (shortest n) n (normal o v)
  normal o (value.simple n) = simple n

  pub normal_all : KeyOrder → Values → Spellings
  normal_all o value.no_values = no_spellings
  normal_all o (value.a_value v vs) = a_spelling (normal o v) (normal_all o vs)

  pub normal_entries : KeyOrder → Entries → SpelledEntries
  normal_entries o value.no_entries = no_entries
  normal_entries o (value.entry k v es) = put_entry o (normal o k) (normal o v) (normal_entries o es)

abbrev pub pairs : SpelledEntries → List Pair
pairs no_entries = []
pairs (entry k v es) = record { key = spell k; value = spell v } ∷ pairs es

-- what holds of each key and value
abbrev pub AllSpelled : (Spelling → Type 0) → SpelledEntries → Type 0
AllSpelled P no_entries = Unit {0}
AllSpelled P (entry k v es) = P k × P v × AllSpelled P es

-- inserted into pairs es: before the first that it comes before, after the others
pub by_put : (o : KeyOrder) (k v : Spelling) (P : SpelledEntries → SpelledEntries → Type 0) → P no_entries (entry k v no_entries) → ((k' v' : Spelling) (es : SpelledEntries) → P (entry k' v' es) (entry k v (entry k' v' es)))
    → ((k' v' : Spelling) (es put : SpelledEntries) → P es put → P (entry k' v' es) (entry k' v' put)) → (es : SpelledEntries) → P es (put_entry o k v es)
by_put o k v P none here there no_entries = none
by_put o k v P none here there (entry k' v' es) =
    elim (key_lt o (spell k) (spell k')) as (λ b. P (entry k' v' es) (if b then entry k v (entry k' v' es) else entry k' v' (put_entry o k v es))) [
      | true ↦ here k' v' es
      | false ↦ there k' v' es (put_entry o k v es) (by_put o k v P none here there es)
    ]

pub put_entry-all : (P : Spelling → Type 0) (o : KeyOrder) (k v : Spelling) (es : SpelledEntries) → P k → P v → AllSpelled P es → AllSpelled P (put_entry o k v es)
put_entry-all P o k v es p q a = by_put o k v (λ es put. AllSpelled P es → AllSpelled P put) (λ a. (p, q, tt)) (λ k' v' es a. (p, q, a)) (λ k' v' es put ih a. (a.0, a.1, ih a.2)) es a

pairs-put_entry : (o : KeyOrder) (k v : Spelling) (es : SpelledEntries) → pairs (put_entry o k v es) ≡ put o (record { key = spell k; value = spell v }) (pairs es)
pairs-put_entry o k v no_entries = refl
pairs-put_entry o k v (entry k' v' es) =
    let p : Pair = record { key = spell k; value = spell v } in
    let p' : Pair = record { key = spell k'; value = spell v' } in
    elim (key_lt o (spell k) (spell k')) as (λ b. pairs (if b then entry k v (entry k' v' es) else entry k' v' (put_entry o k v es)) ≡ (if b then p ∷ p' ∷ pairs es else p' ∷ put o p (pairs es))) [
      | true ↦ refl
      | false ↦ λ i. p' ∷ pairs-put_entry o k v es i
    ]

pub spell_entries-pairs : (es : SpelledEntries) → spell_entries es ≡ flat_map pair_bytes (pairs es)
spell_entries-pairs no_entries = refl
spell_entries-pairs (entry k v es) = ap (λ (l : List ℕ). spell k ++ spell v ++ l) (spell_entries-pairs es)

entries_count-put_entry : (o : KeyOrder) (k v : Spelling) (es : SpelledEntries) → entries_count (put_entry o k v es) ≡ suc (entries_count es)
entries_count-put_entry o k v es = by_put o k v (λ es put. entries_count put ≡ suc (entries_count es)) refl (λ k' v' es. refl) (λ k' v' es put ih. ap suc ih) es

pub entries_count-normal : (o : KeyOrder) (es : Entries) → entries_count (normal_entries o es) ≡ value.entries_count es
entries_count-normal o value.no_entries = refl
entries_count-normal o (value.entry k v es) = entries_count-put_entry o (normal o k) (normal o v) (normal_entries o es) ∙ ap suc (entries_count-normal o es)

pub spellings_count-normal : (o : KeyOrder) (vs : Values) → spellings_count (normal_all o vs) ≡ values_count vs
spellings_count-normal o value.no_values = refl
spellings_count-normal o (value.a_value v vs) = ap suc (spellings_count-normal o vs)

-- a shortest head is definite
pub break_of-shortest : (n : ℕ) → break_of (shortest n) ≡ []
break_of-shortest n = chosen (nat_lt n 24) _ _ refl (chosen (nat_lt n (2 ^ 8)) _ _ refl (chosen (nat_lt n (2 ^ 16)) _ _ refl (chosen (nat_lt n (2 ^ 32)) _ _ refl refl)))
  where
    chosen : (b : Bool) (v w : Width) → break_of v ≡ [] → break_of w ≡ [] → break_of (if b then v else w) ≡ []
    chosen b v w f g = cond_both b v w (λ x. break_of x ≡ []) (λ e. f) (λ e. g)

pub Holds-shortest : (n : ℕ) → n < 2 ^ 64 → Holds (shortest n) n
Holds-shortest n h = (least Unsigned Eight n h).0

-- ---- the bytes

abbrev Spells : KeyOrder → Value → Type 0
Spells o v = spell (normal o v) ≡ canonical o v

pairs_spelled : (o : KeyOrder) (es : Entries) → AllIn (Spells o) es → pairs (normal_entries o es) ≡ in_order o (canonical_entries o es)
pairs_spelled o value.no_entries a = refl
pairs_spelled o (value.entry k v es) a =
    let ke = a.0 in let ve = a.1 in let rest = pairs_spelled o es a.2 in
    pairs-put_entry o (normal o k) (normal o v) (normal_entries o es) ∙ (λ i. put o (record { key = ke i; value = ve i }) (rest i))

spell_all-normal : (o : KeyOrder) (vs : Values) → AllOf (Spells o) vs → spell_all (normal_all o vs) ≡ canonical_all o vs
spell_all-normal o value.no_values a = refl
spell_all-normal o (value.a_value v vs) a = let e = a.0 in let r = spell_all-normal o vs a.1 in λ i. e i ++ r i

pub spell-normal : (o : KeyOrder) (v : Value) → spell (normal o v) ≡ canonical o v
spell-normal o = by_cases {P = Spells o} (record {
  at_unsigned = λ n. refl;
  at_negative = λ n. refl;
  at_bytes = λ s. refl;
  at_text = λ s. refl;
  at_array = λ vs a.
      let w = shortest (values_count vs) in
      let c = spellings_count-normal o vs in
      let r = spell_all-normal o vs a in
      let z = break_of-shortest (values_count vs) in
      (λ i. (head Array w (c i) ++ r i) ++ z i) ∙ append-nil _;
  at_map = λ es a.
      let w = shortest (value.entries_count es) in
      let c = entries_count-normal o es in
      let r : spell_entries (normal_entries o es) ≡ flat_map pair_bytes (in_order o (canonical_entries o es))
      = spell_entries-pairs (normal_entries o es) ∙ ap (flat_map pair_bytes) (pairs_spelled o es a) in
      let z = break_of-shortest (value.entries_count es) in
      (λ i. (head Map w (c i) ++ r i) ++ z i) ∙ append-nil _;
  at_tag = λ n v p. ap (λ (l : List ℕ). shortest_head Tag n ++ l) p;
  at_simple = λ n. refl;
})

pub pairs-normal : (o : KeyOrder) (es : Entries) → pairs (normal_entries o es) ≡ in_order o (canonical_entries o es)
pairs-normal o es = pairs_spelled o es (AllIn-every (Spells o) (spell-normal o) es)

-- ---- the form

abbrev Forms : KeyOrder → Value → Type 0
Forms o v = IsInRange v → IsSpelled (normal o v)

spelled_all : (o : KeyOrder) (vs : Values) → AllOf (Forms o) vs → AreInRange vs → AreSpelled (normal_all o vs)
spelled_all o value.no_values a h = tt
spelled_all o (value.a_value v vs) a h = (a.0 h.0, spelled_all o vs a.1 h.1)

all_spelled : (es : SpelledEntries) → AllSpelled IsSpelled es → AreEntriesSpelled es
all_spelled no_entries a = tt
all_spelled (entry k v es) a = (a.0, a.1, all_spelled es a.2)

spelled_entries : (o : KeyOrder) (es : Entries) → AllIn (Forms o) es → AreEntriesInRange es → AllSpelled IsSpelled (normal_entries o es)
spelled_entries o value.no_entries a h = tt
spelled_entries o (value.entry k v es) a h = put_entry-all IsSpelled o (normal o k) (normal o v) (normal_entries o es) (a.0 h.0) (a.1 h.1) (spelled_entries o es a.2 h.2)

-- the count in a shortest head is the spelling's
pub count_held : (n m : ℕ) → m ≡ n → n < 2 ^ 64 → HoldsOrIndefinite (shortest n) m
count_held n m e h = subst (HoldsOrIndefinite (shortest n)) (sym e) (holds_or_open (shortest n) n (Holds-shortest n h))

pub IsSpelled-normal : (o : KeyOrder) (v : Value) → IsInRange v → IsSpelled (normal o v)
IsSpelled-normal o = by_cases {P = Forms o} (record {
  at_unsigned = λ n h. Holds-shortest n h;
  at_negative = λ n h. Holds-shortest n h;
  at_bytes = λ s h. (Holds-shortest (length s) h.0, h.1);
  at_text = λ s h. (Holds-shortest (length s) h.0, h.1);
  at_array = λ vs a h. (count_held _ _ (spellings_count-normal o vs) h.0, spelled_all o vs a h.1);
  at_map = λ es a h. (count_held _ _ (entries_count-normal o es) h.0, all_spelled (normal_entries o es) (spelled_entries o es a h.1));
  at_tag = λ n v p h. (Holds-shortest n h.0, p h.1);
  at_simple = λ n h. h;
})
