-- The headline's clauses on what `canonicalise` returns, from what the verdict is.
use Rattle.std.proofs.Common.{ℕ, ◌^◌, ◌≡◌, ◌≢◌, ◌≤◌, ◌↔◌, List, [], ◌++◌, length, take, refl, sym, ap, ◌∙◌, arith, subst, inl, inr, append-nil, take_all}
use Rattle.std.proofs.lemmas.Bool.{cases_lt}
use Rattle.cbor_head.specs.Prelude.{Bounds, Same, IsInRange, IsValid, HasBasicKeys, Spelling, spell, value_of, depth, IsItem, canonical, Rules, plain, accepted, IsVerdict}
use Rattle.cbor_head.specs.Value as value
use Rattle.cbor_head.specs.declared.{keys.Keys.TheVariants.IntegersAndTexts, order.KeyOrder.KeyOrder, reason.Reason.TheVariants.Memory, reason.Refusal.Refusal}
use Rattle.theory_values.proofs.BasicKeys.{has_basic_keys, none_of_kinds, basic_same}
use Rattle.theory_values.proofs.Sound.{IsSound as IsSoundValue, sound}
use Rattle.theory_values.proofs.{Accepted.accepts_exactly, ReadLaws.one_list, Depth.depth-value_of, Keys.same_exactly}
use Rattle.theory_values.proofs.{Theorems.canonical_spelled, Theorems.canonical_again, PlainRules.none_plainly}
use Rattle.theory_verdicts.proofs.{Accepted.item_within_limit, Valid.in_range_of, Valid.valid_of}
use Rattle.cbor_reader.specs.Headline.{IsValidItem, HasResult, HasNoResult}
use Rattle.cbor_reader.{specs.Canonicalise.IsCanonicalOf, specs.Canonicalise.IsRefusal, proofs.OneResult.only_memory}

-- ---- an item at the start

pub prefix_range : (limits : Bounds) (r : Rules) (input : List ℕ) (s : Spelling) → limits.bytes ≤ 2 ^ 62 → IsVerdict limits r input (accepted s) → IsInRange (value_of s)
prefix_range limits r input s m v =
    let h = (accepts_exactly limits r input s).0 v in
    in_range_of s h.1.0 (omega (arith, m, item_within_limit limits r input s v))

pub prefix_depth : (limits : Bounds) (r : Rules) (input : List ℕ) (s : Spelling) → IsVerdict limits r input (accepted s) → value.depth (value_of s) ≤ limits.depth
prefix_depth limits r input s v = let h = (accepts_exactly limits r input s).0 v in omega (arith, h.1.1, depth-value_of s)

pub prefix_valid : (limits : Bounds) (input : List ℕ) (s : Spelling) → IsVerdict limits plain input (accepted s) → IsValid (value_of s)
prefix_valid limits input s v = let h = (accepts_exactly limits plain input s).0 v in valid_of s 0 (λ c x. h.2 c (inl x))

pub prefix_keys : (limits : Bounds) (input : List ℕ) (s : Spelling) → limits.keys ≡ IntegersAndTexts → IsVerdict limits plain input (accepted s) → HasBasicKeys (value_of s)
prefix_keys limits input s basic v = let h = (accepts_exactly limits plain input s).0 v in has_basic_keys s 0 (λ c x. h.2 c (inr (refl, basic, x)))

-- ---- an item that is the whole input

pub valid_item : (limits : Bounds) (input : List ℕ) (s : Spelling) → IsVerdict limits plain input (accepted s) → spell s ≡ input → IsValidItem limits input s
valid_item limits input s v e =
    let h = (accepts_exactly limits plain input s).0 v in
    record {
      well_formed = record { spelled = h.1.0; within = h.1.1; bytes_are = e };
      valid = h.2;
      fits = subst (λ (b : List ℕ). length b ≤ limits.bytes) e (item_within_limit limits plain input s v);
    }

pub valid_item_accepted : (limits : Bounds) (input : List ℕ) (s : Spelling) → IsValidItem limits input s → IsVerdict limits plain input (accepted s)
valid_item_accepted limits input s i =
    let whole : spell s ++ [] ≡ take limits.bytes input = append-nil (spell s) ∙ i.well_formed.bytes_are ∙ sym (take_all limits.bytes input i.fits) in
    (accepts_exactly limits plain input s).1 ([], (i.well_formed.spelled, i.well_formed.within, whole), i.valid)

pub valid_item_exactly : (limits : Bounds) (input : List ℕ) (s : Spelling) → IsValidItem limits input s ↔ (IsVerdict limits plain input (accepted s) × (spell s ≡ input))
valid_item_exactly limits input s = ((λ i. (valid_item_accepted limits input s i, i.well_formed.bytes_are)), (λ h. valid_item limits input s h.0 h.1))

pub valid_item_value : (limits : Bounds) (input : List ℕ) (s : Spelling) → limits.bytes ≤ 2 ^ 62 → IsValidItem limits input s → IsInRange (value_of s) × IsValid (value_of s) × (value.depth (value_of s) ≤ limits.depth)
valid_item_value limits input s m i =
    let v = valid_item_accepted limits input s i in
    (prefix_range limits plain input s m v, prefix_valid limits input s v, prefix_depth limits plain input s v)

-- ---- the result

pub results_exactly : (limits : Bounds) (o : KeyOrder) (input out : List ℕ)
    → IsCanonicalOf limits o input out ↔ HasResult limits o input out
results_exactly limits o input out = (
  (λ a. (a.item, valid_item limits input a.item a.verdict a.whole, a.canonical_bytes, a.fits)),
  (λ h. record { item = h.0; verdict = valid_item_accepted limits input h.0 h.1; whole = h.1.well_formed.bytes_are; canonical_bytes = h.2; fits = h.3 }),
)

pub accepts_valid_items : (limits : Bounds) (o : KeyOrder) (input : List ℕ)
    → ((out : List ℕ) × IsCanonicalOf limits o input out) ↔ ((s : Spelling) × IsValidItem limits input s × (length (canonical o (value_of s)) ≤ limits.bytes))
accepts_valid_items limits o input = (
  (λ (out, a). (a.item, valid_item limits input a.item a.verdict a.whole, subst (λ (b : List ℕ). length b ≤ limits.bytes) a.canonical_bytes a.fits)),
  (λ (s, i, l). (canonical o (value_of s), (results_exactly limits o input (canonical o (value_of s))).1 (s, i, refl, l))),
)

-- a valid item is refused only because its canonical bytes are too long, or for memory
pub refused_too_long : (limits : Bounds) (o : KeyOrder) (input : List ℕ) (f : Refusal)
    → IsRefusal limits o input f → f.reason ≢ Memory → HasNoResult limits o input
refused_too_long limits o input f r h s i =
    elim (cases_lt limits.bytes (length (canonical o (value_of s)))) [
      | inl l ↦ l
      | inr l ↦ absurd (h (only_memory limits o input (canonical o (value_of s)) f ((results_exactly limits o input (canonical o (value_of s))).1 (s, i, refl, l)) r))
    ]

-- the item is the only one that the input is
returned_item : (limits : Bounds) (o : KeyOrder) (input out : List ℕ) (s : Spelling) (a : IsCanonicalOf limits o input out) → IsItem limits.depth s input → a.item ≡ s
returned_item limits o input out s a i =
    one_list a.item s (valid_item limits input a.item a.verdict a.whole).well_formed.spelled i.spelled (a.whole ∙ sym i.bytes_are)

returned_bytes : (limits : Bounds) (o : KeyOrder) (input out : List ℕ) (s : Spelling) → IsCanonicalOf limits o input out → IsItem limits.depth s input → out ≡ canonical o (value_of s)
returned_bytes limits o input out s a i = a.canonical_bytes ∙ ap (λ (t : Spelling). canonical o (value_of t)) (returned_item limits o input out s a i)

returned_value : (limits : Bounds) (o : KeyOrder) (input out : List ℕ) (s : Spelling) → limits.bytes ≤ 2 ^ 62 → IsCanonicalOf limits o input out → IsItem limits.depth s input → IsSoundValue (value_of s)
returned_value limits o input out s m a i =
    let here = sound (value_of a.item) (prefix_range limits plain input a.item m a.verdict) (prefix_valid limits input a.item a.verdict) in
    subst (λ (t : Spelling). IsSoundValue (value_of t)) (returned_item limits o input out s a i) here

pub equal_exactly : (limits others : Bounds) (o : KeyOrder) (x y a b : List ℕ) (s t : Spelling) → limits.bytes ≤ 2 ^ 62 → others.bytes ≤ 2 ^ 62
    → IsCanonicalOf limits o x a → IsItem limits.depth s x → IsCanonicalOf others o y b → IsItem others.depth t y → (a ≡ b) ↔ Same (value_of s) (value_of t)
equal_exactly limits others o x y a b s t f g h i k j =
    let left = returned_bytes limits o x a s h i in
    let right = returned_bytes others o y b t k j in
    let same = same_exactly o (value_of s) (value_of t) (returned_value limits o x a s f h i) (returned_value others o y b t g k j) in
    ((λ q. same.1 (sym left ∙ q ∙ right)), (λ q. left ∙ same.0 q ∙ sym right))

-- a result is its own result
pub again : (limits : Bounds) (o : KeyOrder) (input out : List ℕ) → limits.bytes ≤ 2 ^ 62 → IsCanonicalOf limits o input out → IsCanonicalOf limits o out out
again limits o input out m a =
    let v = value_of a.item in
    let range = prefix_range limits plain input a.item m a.verdict in
    let valid = prefix_valid limits input a.item a.verdict in
    let (s, k) = canonical_spelled o v range valid in
    let w = canonical_again o o v s range valid k.spelled k.bytes_are in
    let within : depth a.item ≤ limits.depth = (valid_item limits input a.item a.verdict a.whole).well_formed.within in
    let i : IsValidItem limits out s = record {
      well_formed = record { spelled = k.spelled; within = omega (arith, within, k.as_deep, depth-value_of a.item); bytes_are = k.bytes_are ∙ sym a.canonical_bytes };
      valid = λ c x. elim x [ inl y ↦ none_plainly o c.end s 0 k.spelled (λ e z l. k.clean 0 e z) c y (omega arith) | inr y ↦ none_of_kinds s (basic_same (value_of s) v k.same (prefix_keys limits input a.item y.1 a.verdict)) 0 c y.2 ];
      fits = a.fits;
    } in
    (results_exactly limits o out out).1 (s, i, a.canonical_bytes ∙ sym w.2, a.fits)
