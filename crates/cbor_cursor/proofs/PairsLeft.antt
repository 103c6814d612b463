-- The pairs of a map that are still to come, in the order of the canonical bytes.
use Rattle.std.proofs.Common.{◌≡◌, ◌⊎◌, ℕ, ◌+◌, ◌-◌, ◌<◌, ◌≤◌, List, [], ◌∷◌, ◌++◌, length, drop, length-append, length-drop, flat_map, IsTrue, refl, sym, ap, ◌∙◌, subst, arith, append_assoc, inl, inr}
use Rattle.std.proofs.lemmas.Grind.{flat_map-append}
use Rattle.cbor_head.specs.Value as value
use Rattle.cbor_head.specs.Prelude.{Value, Entries, HasEntry, AnyEntry, Same, IsInRange, IsValid, Pair, canonical, canonical_entries, in_order, key_lt}
use Rattle.cbor_head.specs.declared.order.KeyOrder.{KeyOrder}
use Rattle.theory_values.proofs.Sound.{IsSound, sound, sound_at}
use Rattle.theory_values.proofs.Sorting.{in_order_in, in_in_order, length-in_order, in_order_rising, rises_at}
use Rattle.theory_values.proofs.Reported.{pair_of, pair_in, in_pair, length-canonical_entries, canonical_injective, distinct_bytes}
use Rattle.theory_values.{specs.Pairs.pair_bytes, specs.Pairs.IsRising, proofs.Members.In, proofs.Agreement.canonical_agrees, proofs.Sameness.any_from}
use Rattle.theory_values.proofs.Orders.{lt_irrefl, lt_trans}
use Rattle.cbor_cursor.specs.{Items.BeginsWith, Items.HasNoKey, inner.Pairs.ArePairsOf, Offsets.HasNoKeyBytes}

-- the pairs still to come, their number, and what follows them; all earlier pairs have another key than this one
pub record ArePairs (o : KeyOrder) (es : Entries) (key : List ℕ) (left : ℕ) (bytes following : List ℕ) : Type 0 where
  pub sound : IsSound (value.map es)
  pub before : List Pair
  pub pairs : List Pair
  pub split : in_order o (canonical_entries o es) ≡ before ++ pairs
  pub count_is : length pairs ≡ left
  pub bytes_are : bytes ≡ flat_map pair_bytes pairs ++ following
  pub rising : IsRising o pairs
  pub within : (p : Pair) → In p pairs → In p (canonical_entries o es)
  pub others : (k v : Value) → HasEntry es k v → (canonical o k ≡ key → ⊥) ⊎ In (pair_of o k v) pairs

-- all of them
pub all_pairs : (o : KeyOrder) (es : Entries) (key : List ℕ) (left : ℕ) (bytes following : List ℕ) → ArePairsOf o es left bytes following → ArePairs o es key left bytes following
all_pairs o es key left bytes following a = record {
  sound = sound (value.map es) a.range a.valid;
  before = [];
  pairs = in_order o (canonical_entries o es);
  split = refl;
  count_is = length-in_order o (canonical_entries o es) ∙ length-canonical_entries o es ∙ sym a.count_is;
  bytes_are = a.bytes_are;
  rising = in_order_rising o (canonical_entries o es) (distinct_bytes o es a.range.1 a.valid.1);
  within = in_order_in o (canonical_entries o es);
  others = λ k v h. inr (in_in_order o (canonical_entries o es) (pair_of o k v) (pair_in o es k v h));
}

-- the next of them
pub record IsNextPair (o : KeyOrder) (es : Entries) (key : List ℕ) (left : ℕ) (bytes following : List ℕ) : Type 0 where
  pub k : Value
  pub v : Value
  pub has : HasEntry es k v
  pub before : List Pair
  pub after : List Pair
  pub split : in_order o (canonical_entries o es) ≡ before ++ pair_of o k v ∷ after
  pub after_key : List ℕ
  pub rest : List ℕ
  pub rest_is : rest ≡ flat_map pair_bytes after ++ following
  pub key_is : BeginsWith o bytes k after_key
  pub value_is : BeginsWith o after_key v rest
  pub more : (canonical o k ≡ key → ⊥) → ArePairs o es key (left - 1) rest following
  -- if it comes after the key, no pair has the key
  pub none : IsTrue (key_lt o key (canonical o k)) → HasNoKeyBytes o es key

pub next_pair : (o : KeyOrder) (es : Entries) (key : List ℕ) (left : ℕ) (bytes following : List ℕ) → 0 < left → ArePairs o es key left bytes following → IsNextPair o es key left bytes following
next_pair o es key left bytes following l a = go a.pairs a.split a.count_is a.bytes_are a.rising a.within a.others
  where
    go : (ps : List Pair) → in_order o (canonical_entries o es) ≡ a.before ++ ps → length ps ≡ left → bytes ≡ flat_map pair_bytes ps ++ following → IsRising o ps → ((p : Pair) → In p ps → In p (canonical_entries o es)) → ((k v : Value) → HasEntry es k v → (canonical o k ≡ key → ⊥) ⊎ In (pair_of o k v) ps) → IsNextPair o es key left bytes following
    go [] s n e r w t = absurd (omega (arith, n, l))
    go (p ∷ ps) s n e r w t =
        let q = in_pair o es p (w p (inl refl)) in
        let k = q.0 in
        let v = q.1 in
        let both = sound_at es k v a.sound.range.1 a.sound.valid.0 q.2 in
        let rest = flat_map pair_bytes ps ++ following in
        let first : p.key ≡ canonical o k = ap (λ (r : Pair). r.key) q.3 in
        record {
          k = k;
          v = v;
          has = q.2;
          before = a.before;
          after = ps;
          split = s ∙ ap (λ (x : Pair). a.before ++ x ∷ ps) q.3;
          after_key = canonical o v ++ rest;
          rest = rest;
          rest_is = refl;
          key_is = record { range = both.0.range; valid = both.0.valid; begins = e ∙ ap (λ (r : Pair). ((r.key ++ r.value) ++ flat_map pair_bytes ps) ++ following) q.3 ∙ ap (λ (x : List ℕ). x ++ following) (append_assoc (canonical o k) (canonical o v) (flat_map pair_bytes ps)) ∙ append_assoc (canonical o k) (canonical o v ++ flat_map pair_bytes ps) following ∙ ap (λ (x : List ℕ). canonical o k ++ x) (append_assoc (canonical o v) (flat_map pair_bytes ps) following) };
          value_is = record { range = both.1.range; valid = both.1.valid; begins = refl };
          more = λ other. record {
            sound = a.sound;
            before = a.before ++ p ∷ [];
            pairs = ps;
            split = s ∙ sym (append_assoc a.before (p ∷ []) ps);
            count_is = omega (arith, n);
            bytes_are = refl;
            rising = r.1;
            within = λ p' m. w p' (inr m);
            others = λ k' v' h. elim (t k' v' h) [ inl x ↦ inl x | inr (inl same) ↦ inl (λ f. other (sym (ap (λ (r : Pair). r.key) (same ∙ q.3)) ∙ f)) | inr (inr m) ↦ inr m ];
          };
          none = λ later k' v' h same. elim (t k' v' h) [
            | inl other ↦ other same
            | inr (inl at) ↦ lt_irrefl o key (subst (λ (x : List ℕ). IsTrue (key_lt o key x)) (sym first ∙ sym (ap (λ (r : Pair). r.key) at) ∙ same) later)
            | inr (inr m) ↦ lt_irrefl o key (lt_trans o key p.key key (subst (λ (x : List ℕ). IsTrue (key_lt o key x)) (sym first) later) (subst (λ (x : List ℕ). IsTrue (key_lt o p.key x)) same (rises_at o p ps r (pair_of o k' v') m)))
          ];
        }

-- a key of the same bytes is the same key
pub found_key : (o : KeyOrder) (es : Entries) (k l v : Value) (V : Value → Type 0) → IsSound (value.map es) → IsInRange k → HasEntry es l v → canonical o l ≡ canonical o k → V v → AnyEntry (Same k) V es
found_key o es k l v V s h m e f = any_from (Same k) V es l v m (canonical_injective o k l h (sound_at es l v s.range.1 s.valid.0 m).0.range (sym e)) f

-- no key of the same bytes, no same key
pub no_key : (o : KeyOrder) (es : Entries) (k : Value) → IsSound (value.map es) → IsInRange k → IsValid k → HasNoKeyBytes o es (canonical o k) → HasNoKey es k
no_key o es k s h g none = λ l v m same.
    none l v m (sym (canonical_agrees o k l (sound k h g) (sound_at es l v s.range.1 s.valid.0 m).0 same))

-- none are left
pub no_pair : (o : KeyOrder) (es : Entries) (key : List ℕ) (left : ℕ) (bytes following : List ℕ) → left ≡ 0 → ArePairs o es key left bytes following → HasNoKeyBytes o es key
no_pair o es key left bytes following z a = λ l v m. elim (a.others l v m) [ inl other ↦ other | inr i ↦ λ same. none a.pairs (a.count_is ∙ z) (pair_of o l v) i ]
  where
    none : (ps : List Pair) → length ps ≡ 0 → (p : Pair) → In p ps → ⊥
    none [] n p m = m
    none (q ∷ ps) n p m = absurd (cc n)

-- where the value of a pair begins
pub value_offset : (ps before after : List Pair) (key value bytes rest : List ℕ) (start at : ℕ) → start ≤ length bytes → at ≤ length bytes → drop start bytes ≡ flat_map pair_bytes ps ++ rest
    → ps ≡ before ++ (record { key = key; value = value }) ∷ after → drop at bytes ≡ value ++ (flat_map pair_bytes after ++ rest) → at ≡ start + length (flat_map pair_bytes before) + length key
value_offset ps before after key value bytes rest start at l m e s f =
    let pair : Pair = record { key = key; value = value } in
    let all : drop start bytes ≡ (flat_map pair_bytes before ++ (key ++ value) ++ flat_map pair_bytes after) ++ rest = e ∙ ap (λ (qs : List Pair). flat_map pair_bytes qs ++ rest) s ∙ ap (λ (xs : List ℕ). xs ++ rest) (flat_map-append pair_bytes before (pair ∷ after) ∙ sym (append_assoc (flat_map pair_bytes before) (key ++ value) (flat_map pair_bytes after))) in
    omega (
      arith,
      l,
      m,
      ap length all,
      ap length f,
      length-drop start bytes,
      length-drop at bytes,
      length-append (flat_map pair_bytes before ++ (key ++ value) ++ flat_map pair_bytes after) rest,
      length-append (flat_map pair_bytes before ++ (key ++ value)) (flat_map pair_bytes after),
      length-append (flat_map pair_bytes before) (key ++ value),
      length-append key value,
      length-append value (flat_map pair_bytes after ++ rest),
      length-append (flat_map pair_bytes after) rest,
    )
