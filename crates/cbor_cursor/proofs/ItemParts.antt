-- Members of arrays and pairs of maps, cut out of canonical bytes.
use Rattle.std.proofs.Common.{◌≡◌, ℕ, zero, suc, ◌-◌, ◌<◌, ◌≤◌, List, [], ◌++◌, refl, sym, ap, ap₂, ◌∙◌, subst, arith, append_assoc, append-nil, Some, None}
use Rattle.std.proofs.Common.{flat_map}
use Rattle.cbor_head.specs.Value as value
use Rattle.cbor_head.specs.Prelude.{Value, Values, Entries, IsInRange, AreInRange, AreEntriesInRange, IsValid, AreValid, AreEntriesValid, canonical, canonical_all, canonical_entries, major_number}
use Rattle.cbor_head.specs.declared.order.KeyOrder.{KeyOrder}
use Rattle.theory_values.specs.{Pairs.pair_bytes, Lookup.member_at}
use Rattle.cbor_cursor.specs.Items.{BeginsWith, major_of, argument_of, content_of}
use Rattle.cbor_cursor.specs.Decoded.{decoded, encoded, members_in, pairs_in}
use Rattle.cbor_cursor.specs.inner.Canonical.{IsCanonical, encoded_items, AreCanonical, AreCanonicalPairs}
use Rattle.cbor_cursor.proofs.ItemHeads.{is_array, is_map, is_tag}
use Rattle.cbor_cursor.proofs.NormalValues.{IsNormal, whole_normal, part, AreNormal, parts, all_normal, ArePairsNormal, ArePairParts, pair_parts, all_pairs_normal, in_byte_order, map_pairs_normal}
use Rattle.cbor_cursor.specs.WellFormed.{BeginsWithItems, none, more}
use Rattle.cbor_cursor.{specs.inner.Firsts.IsFirstMember, specs.inner.Firsts.IsFirstPair, specs.inner.Pairs.ArePairsOf, proofs.SpelledItems.canonical_item}

-- ---- the first of several

pub record IsFirst (o : KeyOrder) (xs : List ℕ) (n : ℕ) : Type 0 where
  pub v : Value
  pub vs : Values
  pub begins : BeginsWith o xs v (canonical_all o vs)
  pub finish : (item rest : List ℕ) → item ≡ canonical o v → rest ≡ canonical_all o vs → IsFirstMember o xs n item rest

pub first : (o : KeyOrder) (xs : List ℕ) (n : ℕ) → (n ≡ 0 → ⊥) → AreCanonical (encoded_items o xs n) → IsFirst o xs n
first o xs n nz a = go (members_in (encoded_items o xs n)) refl a.range a.valid a.count_is a.bytes_are (all_normal (encoded_items o xs n) a)
  where
    go : (ws : Values) → members_in (encoded_items o xs n) ≡ ws → AreInRange ws → AreValid ws → value.values_count ws ≡ n → xs ≡ canonical_all o ws → AreNormal o ws → IsFirst o xs n
    go value.no_values e h g c b m = absurd (nz (sym c))
    go (value.a_value v vs) e h g c b m = record {
      v = v;
      vs = vs;
      begins = record { range = h.0; valid = g.0; begins = b };
      finish = λ item rest i r. (
          let nv : IsNormal o v = cc m in
          let nvs : AreNormal o vs = cc m in
          let count : n - 1 ≡ value.values_count vs = omega (arith, c) in
          let p = part o v item h.0 g.0 nv i in
          let q = parts o vs rest (n - 1) h.1 g.1 nvs count r in
          record { item_is = p.canonical_is; rest_are = q.canonical_are; values_are = e ∙ ap₂ value.a_value (sym p.value_is) (sym q.values_are) });
    }

pub record IsFirstOfPairs (o : KeyOrder) (xs : List ℕ) (n : ℕ) : Type 0 where
  pub k : Value
  pub v : Value
  pub es : Entries
  pub after_key : List ℕ
  pub key_begins : BeginsWith o xs k after_key
  pub value_begins : BeginsWith o after_key v (flat_map pair_bytes (canonical_entries o es))
  pub finish : (key item rest : List ℕ) → key ≡ canonical o k → item ≡ canonical o v → rest ≡ flat_map pair_bytes (canonical_entries o es) → IsFirstPair o xs n key item rest

pub first_pair : (o : KeyOrder) (xs : List ℕ) (n : ℕ) → (n ≡ 0 → ⊥) → AreCanonicalPairs (encoded_items o xs n) → IsFirstOfPairs o xs n
first_pair o xs n nz a = go (pairs_in (encoded_items o xs n)) refl a.range a.valid a.count_is a.bytes_are (all_pairs_normal (encoded_items o xs n) a)
  where
    go : (fs : Entries) → pairs_in (encoded_items o xs n) ≡ fs → AreEntriesInRange fs → AreEntriesValid fs → value.entries_count fs ≡ n → xs ≡ flat_map pair_bytes (canonical_entries o fs) → ArePairsNormal o fs → IsFirstOfPairs o xs n
    go value.no_entries e h g c b m = absurd (nz (sym c))
    go (value.entry k v es) e h g c b m = record {
      k = k;
      v = v;
      es = es;
      after_key = canonical o v ++ flat_map pair_bytes (canonical_entries o es);
      key_begins = record { range = h.0; valid = g.0; begins = b ∙ append_assoc (canonical o k) (canonical o v) (flat_map pair_bytes (canonical_entries o es)) };
      value_begins = record { range = h.1; valid = g.1; begins = refl };
      finish = λ key item rest i j r. (
          let nk : IsNormal o k = cc m in
          let nv : IsNormal o v = cc m in
          let nes : ArePairsNormal o es = cc m in
          let count : n - 1 ≡ value.entries_count es = omega (arith, c) in
          let p = part o k key h.0 g.0 nk i in
          let q = part o v item h.1 g.1 nv j in
          let r = pair_parts o es rest (n - 1) h.2 g.2 nes count r in
          let s = sym p.value_is in
          let t = sym q.value_is in
          let u = sym r.pairs_are in
          record { key_is = p.canonical_is; value_is = q.canonical_is; rest_are = r.canonical_are; pairs_are = e ∙ (λ i. value.entry (s i) (t i) (u i)) });
    }

-- ---- a member by its index

pub record IsAtIndex (o : KeyOrder) (vs : Values) (i : ℕ) : Type 0 where
  pub v : Value
  pub rest : List ℕ
  pub is : member_at vs i ≡ Some v
  pub range : IsInRange v
  pub valid : IsValid v
  pub normal_is : IsNormal o v
  pub before : BeginsWithItems i (canonical_all o vs) (canonical o v ++ rest)

pub at_index : (o : KeyOrder) (vs : Values) (i : ℕ) → AreInRange vs → AreValid vs → AreNormal o vs → i < value.values_count vs → IsAtIndex o vs i
at_index o value.no_values i h g m l = absurd (omega (arith, l))
at_index o (value.a_value v vs) zero h g m l = record {
  v = v;
  rest = canonical_all o vs;
  is = refl;
  range = h.0;
  valid = g.0;
  normal_is = cc m;
  before = none 0 _ _ refl refl;
}
at_index o (value.a_value v vs) (suc i) h g m l =
    let r = at_index o vs i h.1 g.1 (cc m) (omega (arith, l)) in
    record {
      v = r.v;
      rest = r.rest;
      is = r.is;
      range = r.range;
      valid = r.valid;
      normal_is = r.normal_is;
      before = more (suc i) i _ (canonical_all o vs) _ refl (canonical_item o v _ (canonical_all o vs) (record { range = h.0; valid = g.0; begins = refl })) r.before;
    }

pub no_member_at : (vs : Values) (i : ℕ) → value.values_count vs ≤ i → member_at vs i ≡ None
no_member_at value.no_values i l = refl
no_member_at (value.a_value v vs) zero l = absurd (omega (arith, l))
no_member_at (value.a_value v vs) (suc i) l = no_member_at vs i (omega (arith, l))

-- ---- what follows the head of a container

pub record IsArrayContent (o : KeyOrder) (bytes content : List ℕ) (count : ℕ) : Type 0 where
  pub vs : Values
  pub is : decoded bytes ≡ value.array vs
  pub range : AreInRange vs
  pub valid : AreValid vs
  pub normal_are : AreNormal o vs
  pub count_is : count ≡ value.values_count vs
  pub bytes_are : content ≡ canonical_all o vs

pub array_content : (o : KeyOrder) (bytes content : List ℕ) (count : ℕ) → IsCanonical (encoded o bytes) → major_number (major_of (decoded bytes)) ≡ 4 → content ≡ content_of o (decoded bytes) → count ≡ argument_of (decoded bytes) → IsArrayContent o bytes content count
array_content o bytes content count i k c n =
    let m = is_array (decoded bytes) k in
    let w = subst (IsNormal o) m.1 (whole_normal (encoded o bytes) i) in
    record {
      vs = m.0;
      is = m.1;
      range = (subst IsInRange m.1 i.range).1;
      valid = subst IsValid m.1 i.valid;
      normal_are = cc w;
      count_is = n ∙ ap argument_of m.1;
      bytes_are = c ∙ ap (content_of o) m.1;
    }

pub record IsMapContent (o : KeyOrder) (bytes content : List ℕ) (count : ℕ) : Type 0 where
  pub es : Entries
  pub is : decoded bytes ≡ value.map es
  pub normal_is : IsNormal o (value.map es)
  pub pairs : ArePairsOf o es count content []

pub map_content : (o : KeyOrder) (bytes content : List ℕ) (count : ℕ) → IsCanonical (encoded o bytes) → major_number (major_of (decoded bytes)) ≡ 5 → content ≡ content_of o (decoded bytes) → count ≡ argument_of (decoded bytes) → IsMapContent o bytes content count
map_content o bytes content count i k c n =
    let m = is_map (decoded bytes) k in
    record {
      es = m.0;
      is = m.1;
      normal_is = subst (IsNormal o) m.1 (whole_normal (encoded o bytes) i);
      pairs = record {
        range = subst IsInRange m.1 i.range;
        valid = subst IsValid m.1 i.valid;
        count_is = n ∙ ap argument_of m.1;
        bytes_are = c ∙ ap (content_of o) m.1 ∙ sym (append-nil _);
      };
    }

pub record IsTagContent (o : KeyOrder) (bytes content : List ℕ) (number : ℕ) : Type 0 where
  pub is : decoded bytes ≡ value.tag number (decoded content)
  pub canonical_is : IsCanonical (encoded o content)

pub tag_content : (o : KeyOrder) (bytes content : List ℕ) (number : ℕ) → IsCanonical (encoded o bytes) → major_number (major_of (decoded bytes)) ≡ 6 → content ≡ content_of o (decoded bytes) → number ≡ argument_of (decoded bytes) → IsTagContent o bytes content number
tag_content o bytes content number i k c n =
    let m = is_tag (decoded bytes) k in
    let w = subst (IsNormal o) m.2 (whole_normal (encoded o bytes) i) in
    let p = part o m.1 content (subst IsInRange m.2 i.range).1 (subst IsValid m.2 i.valid) (cc w) (c ∙ ap (content_of o) m.2) in
    record { is = m.2 ∙ ap₂ value.tag (sym (n ∙ ap argument_of m.2)) (sym p.value_is); canonical_is = p.canonical_is }

pub map_parts : (o : KeyOrder) (bytes content : List ℕ) (count : ℕ) (m : IsMapContent o bytes content count) → ArePairParts o m.es content count
map_parts o bytes content count m =
    pair_parts o m.es content count m.pairs.range.1 m.pairs.valid.0 (map_pairs_normal o m.es m.pairs.range.1 m.pairs.valid.0 m.normal_is) m.pairs.count_is
    (m.pairs.bytes_are ∙ append-nil _ ∙ ap (flat_map pair_bytes) (in_byte_order o m.es m.pairs.range.1 m.pairs.valid.0 m.normal_is))
