-- A walk over a node that makes canonical bytes, step by step.
use Rattle.std.proofs.Common.{◌≡◌, ◌↔◌, ℕ, suc, ◌+◌, ◌<◌, ◌^◌, List, [], ◌∷◌, ◌++◌, append_assoc, append-nil, length, map, refl, sym, ap, ◌∙◌, subst, arith, flat_map, Option, Some, None, Ok, is_some, true, false}
use Rattle.cbor_head.specs.declared.major.Major.TheVariants as Major
use Rattle.cbor_head.specs.Value as value
use Rattle.cbor_head.specs.Prelude.{Pair, canonical, canonical_all, canonical_entries, in_order, shortest_head, Value, values_count, IsInRange, AreInRange, AreEntriesInRange, IsValid, AreValid, AreEntriesValid}
use Rattle.cbor_head.specs.declared.order.KeyOrder.{KeyOrder}
use Rattle.theory_values.specs.Parts.{Open, an_array, a_map, pair, with_member, closed, close, give, HasNoRepeats}
use Rattle.theory_values.{specs.Pairs.pair_bytes, specs.Pairs.AreKeysValid, proofs.Keys.distinct_exactly, proofs.Sound.valid_apart}
use Rattle.theory_values.{proofs.Reported.length-canonical_entries, specs.Lists.values_of}
use Rattle.cbor_builder.specs.Built.{Built, HasDistinctKeysSoFar, LeavesIfDistinct}
use Rattle.cbor_builder.specs.declared.repeat.Repeat.{Repeat}
use Rattle.cbor_item.specs.inner.Walk.{IsBegun, with_all, TakesAll, AreAllValid, LeadsAround, Leads, AreSoundAround, AreSound, size, size_all, size_entries, weight, Opens}
use Rattle.cbor_item.specs.{Nodes.entries_in, Nodes.values_in, inner.Rest.flat}

-- ---- what becomes of an open part

array_given : (o : KeyOrder) (vs : List Value) (n : ℕ) (bs : List ℕ) → with_all o vs (an_array n bs) ≡ an_array (n + length vs) (bs ++ canonical_all o (values_of vs))
array_given o [] n bs =
    let count : n ≡ n + 0 = omega arith in
    let none = sym (append-nil bs) in (λ i. an_array (count i) (none i))
array_given o (v ∷ vs) n bs =
    let count : suc n + length vs ≡ n + suc (length vs) = omega arith in
    let same = append_assoc bs (canonical o v) (canonical_all o (values_of vs)) in
    array_given o vs (suc n) (bs ++ canonical o v) ∙ (λ i. an_array (count i) (same i))

array_takes : (o : KeyOrder) (vs : List Value) (n : ℕ) (bs : List ℕ) → AreInRange (values_of vs) → n + length vs < 2 ^ 64 → TakesAll o vs (an_array n bs)
array_takes o [] n bs r l = tt
array_takes o (v ∷ vs) n bs r l = (omega (arith, l), r.0, array_takes o vs (suc n) (bs ++ canonical o v) r.1 (omega (arith, l)))

all_valid : (vs : List Value) → AreAllValid vs ↔ AreValid (values_of vs)
all_valid [] = ((λ h. tt), (λ h. tt))
all_valid (v ∷ vs) = let more = all_valid vs in ((λ h. (h.0, more.0 h.1)), (λ h. (h.0, more.1 h.1)))

pub weight-all : (vs : List Value) → size_all (values_of vs) ≡ weight vs
weight-all [] = refl
weight-all (v ∷ vs) = ap (λ (n : ℕ). size v + n) (weight-all vs)

-- ---- into a node

module _ {N : Type 0} (see : N → Value) where
  map_given : (o : KeyOrder) (ps : List (N × N)) (acc : List Pair) → with_all o (flat see ps) (a_map acc) ≡ a_map (acc ++ canonical_entries o (entries_in see ps))
  map_given o [] acc = ap a_map (sym (append-nil acc))
  map_given o (p ∷ ps) acc =
      let here = pair (canonical o (see p.0)) (canonical o (see p.1)) in
      map_given o ps (acc ++ here ∷ []) ∙ ap a_map (append_assoc acc (here ∷ []) (canonical_entries o (entries_in see ps)))

  map_takes : (o : KeyOrder) (ps : List (N × N)) (acc : List Pair) → AreEntriesInRange (entries_in see ps) → TakesAll o (flat see ps) (a_map acc)
  map_takes o [] acc r = tt
  map_takes o (p ∷ ps) acc r =
      (tt, r.0, (tt, r.1, map_takes o ps (acc ++ pair (canonical o (see p.0)) (canonical o (see p.1)) ∷ []) r.2))

  flat_valid : (ps : List (N × N)) → AreAllValid (flat see ps) ↔ AreEntriesValid (entries_in see ps)
  flat_valid [] = ((λ h. tt), (λ h. tt))
  flat_valid (p ∷ ps) = let more = flat_valid ps in ((λ h. (h.0, h.1.0, more.0 h.1.1)), (λ h. (h.0, (h.1, more.1 h.2))))

  pub weight-flat : (ps : List (N × N)) → size_entries (entries_in see ps) ≡ weight (flat see ps)
  weight-flat [] = refl
  weight-flat (p ∷ ps) = ap (λ (n : ℕ). size (see p.0) + (size (see p.1) + n)) (weight-flat ps)

  -- an array with these members
  pub opens_array : (o : KeyOrder) (v : Value) (ns : List N) → value.array (values_in see ns) ≡ v → IsInRange v → Opens o v (an_array 0 []) (map see ns)
  opens_array o v ns is h =
      let vs = map see ns in
      let r = subst IsInRange (sym is) h in
      let count : values_count (values_of vs) ≡ 0 + length vs = counted vs in
      let all = array_given o vs 0 [] in
      record {
        takes = array_takes o vs 0 [] r.1 (omega (arith, count, r.0));
        bytes = ap (closed o) all ∙ ap (λ (n : ℕ). shortest_head Major.Array n ++ canonical_all o (values_of vs)) (sym count) ∙ ap (canonical o) is;
        smaller = ap size (sym is) ∙ ap (λ (n : ℕ). suc (suc n)) (weight-all vs);
        valid = coe 1 0 (i. IsValid (sym is i) ↔ (AreAllValid vs × HasNoRepeats (all i))) ((λ g. ((all_valid vs).1 g, tt)), (λ g. (all_valid vs).0 g.0));
      }
    where
      counted : (vs : List Value) → values_count (values_of vs) ≡ 0 + length vs
      counted [] = refl
      counted (v ∷ vs) = let more = counted vs in omega (arith, more)

  -- a map with these pairs
  pub opens_map : (o : KeyOrder) (v : Value) (ps : List (N × N)) → value.map (entries_in see ps) ≡ v → IsInRange v → Opens o v (a_map []) (flat see ps)
  opens_map o v ps is h =
      let es = entries_in see ps in
      let r = subst IsInRange (sym is) h in
      let all = map_given o ps [] in
      let exactly = λ (k : AreKeysValid es). distinct_exactly o es r.1 k in
      record {
        takes = map_takes o ps [] r.1;
        bytes = ap (closed o) all ∙ ap (λ (n : ℕ). shortest_head Major.Map n ++ flat_map pair_bytes (in_order o (canonical_entries o es))) (length-canonical_entries o es) ∙ ap (canonical o) is;
        smaller = ap size (sym is) ∙ ap (λ (n : ℕ). suc (suc n)) (weight-flat ps);
        valid = coe 1 0 (i. IsValid (sym is i) ↔ (AreAllValid (flat see ps) × HasNoRepeats (all i))) (
          (λ g. ((flat_valid ps).1 g.0, (exactly ((valid_apart es).0 g.0).0).0 g.1)),
          (λ g. let e = (flat_valid ps).0 g.0 in (e, (exactly ((valid_apart es).0 e).0).1 g.1)),
        );
      }

-- ---- along the walk

pub leads_begun : (o : KeyOrder) (w v : Value) (vs us : List Value) (vss : List (List Value)) (c : Open) (os : List Open) → Opens o v c us → Leads o w ((v ∷ vs) ∷ vss) os
    → Leads o w (us ∷ vs ∷ vss) (c ∷ os)
leads_begun o w v vs us vss c [] b h = absurd h
leads_begun o w v vs us vss c (d ∷ os) b h =
    (b.takes, subst (λ (bs : List ℕ). TakesAll o vs (with_member bs d) × LeadsAround o w (with_all o vs (with_member bs d)) vss os) (sym b.bytes) (h.0.2, h.1))

pub sound_begun : (o : KeyOrder) (P : Type 0) (w v : Value) (vs us : List Value) (vss : List (List Value)) (c : Open) (os : List Open) → Opens o v c us → Leads o w ((v ∷ vs) ∷ vss) os
    → (AreSound o ((v ∷ vs) ∷ vss) os ↔ P) → AreSound o (us ∷ vs ∷ vss) (c ∷ os) ↔ P
sound_begun o P w v vs us vss c [] b l h = absurd l
sound_begun o P w v vs us vss c (d ∷ os) b l h =
    let Around = λ (bs : List ℕ). AreSoundAround o (with_all o vs (with_member bs d)) vss os in (
      (λ s. h.0 ((b.valid.1 (s.0, s.1.0), s.1.1), subst Around b.bytes s.1.2)),
      (λ p. let s = h.1 p in let g = b.valid.0 s.0.0 in (g.0, (g.1, s.0.1, subst Around (sym b.bytes) s.1))),
    )

pub leads_given : (o : KeyOrder) (w v : Value) (vs : List Value) (vss : List (List Value)) (os : List Open) → Leads o w ((v ∷ vs) ∷ vss) os → Leads o w (vs ∷ vss) (give (canonical o v) os)
leads_given o w v vs vss [] h = absurd h
leads_given o w v vs vss (d ∷ os) h = (h.0.2, h.1)

pub sound_given : (o : KeyOrder) (P : Type 0) (w v : Value) (vs : List Value) (vss : List (List Value)) (os : List Open) → IsValid v → Leads o w ((v ∷ vs) ∷ vss) os
    → (AreSound o ((v ∷ vs) ∷ vss) os ↔ P) → AreSound o (vs ∷ vss) (give (canonical o v) os) ↔ P
sound_given o P w v vs vss [] valid l h = absurd l
sound_given o P w v vs vss (d ∷ os) valid l h = ((λ s. h.0 ((valid, s.0), s.1)), (λ p. let s = h.1 p in (s.0.1, s.1)))

pub leads_ended : (o : KeyOrder) (w : Value) (vs : List Value) (vss : List (List Value)) (os : List Open) → Leads o w ([] ∷ vs ∷ vss) os → Leads o w (vs ∷ vss) (close o os)
leads_ended o w vs vss [] h = absurd h
leads_ended o w vs vss (c ∷ []) h = absurd h.1
leads_ended o w vs vss (c ∷ d ∷ os) h = h.1

pub sound_ended : (o : KeyOrder) (P : Type 0) (w : Value) (vs : List Value) (vss : List (List Value)) (os : List Open) → HasDistinctKeysSoFar os → Leads o w ([] ∷ vs ∷ vss) os
    → (AreSound o ([] ∷ vs ∷ vss) os ↔ P) → AreSound o (vs ∷ vss) (close o os) ↔ P
sound_ended o P w vs vss [] distinct l h = absurd l
sound_ended o P w vs vss (c ∷ []) distinct l h = absurd l.1
sound_ended o P w vs vss (c ∷ d ∷ os) distinct l h = ((λ s. h.0 (tt, (distinct, s.0, s.1))), (λ p. let s = h.1 p in (s.1.1, s.1.2)))

pub distinct_if_sound : (o : KeyOrder) (w : Value) (vs : List Value) (vss : List (List Value)) (os : List Open) → Leads o w ([] ∷ vs ∷ vss) os → AreSound o ([] ∷ vs ∷ vss) os → HasDistinctKeysSoFar os
distinct_if_sound o w vs vss [] l s = absurd l
distinct_if_sound o w vs vss (c ∷ []) l s = absurd l.1
distinct_if_sound o w vs vss (c ∷ d ∷ os) l s = s.1.0

-- ---- what is known at each step

-- about the order, and about what is open and what remains
pub record Walks (o : KeyOrder) (w : Value) (vss : List (List Value)) (b : Built) : Type 0 where
  pub order : b.order ≡ o
  pub leads : Leads o w vss b.open_levels
  pub sound : AreSound o vss b.open_levels ↔ IsValid w

-- one more was given
pub walks_given : (o : KeyOrder) (w v : Value) (vs : List Value) (vss : List (List Value)) (a b : Built) → Walks o w ((v ∷ vs) ∷ vss) a → b.order ≡ a.order → IsBegun a.order v a.open_levels b.open_levels None → Walks o w (vs ∷ vss) b
walks_given o w v vs vss a b k same begun =
    let given : b.open_levels ≡ give (canonical o v) a.open_levels = begun.0 ∙ ap (λ p. give (canonical p v) a.open_levels) k.order in
    record {
      order = same ∙ k.order;
      leads = coe 1 0 (k. Leads o w (vs ∷ vss) (given k)) (leads_given o w v vs vss a.open_levels k.leads);
      sound = coe 1 0 (k. AreSound o (vs ∷ vss) (given k) ↔ IsValid w) (sound_given o (IsValid w) w v vs vss a.open_levels begun.1 k.leads k.sound);
    }

-- one more was begun
pub walks_begun : (o : KeyOrder) (w v : Value) (vs us : List Value) (vss : List (List Value)) (a b : Built) → Walks o w ((v ∷ vs) ∷ vss) a → b.order ≡ a.order → IsBegun a.order v a.open_levels b.open_levels (Some us) → Walks o w (us ∷ vs ∷ vss) b
walks_begun o w v vs us vss a b k same begun =
    let opens = subst (λ p. Opens p v begun.0 us) k.order begun.2 in
    record {
      order = same ∙ k.order;
      leads = coe 1 0 (k. Leads o w (us ∷ vs ∷ vss) (begun.1 k)) (leads_begun o w v vs us vss begun.0 a.open_levels opens k.leads);
      sound = coe 1 0 (k. AreSound o (us ∷ vs ∷ vss) (begun.1 k) ↔ IsValid w) (sound_begun o (IsValid w) w v vs us vss begun.0 a.open_levels opens k.leads k.sound);
    }

-- one has ended
pub walks_ended : {E : Type 0} (o : KeyOrder) (w : Value) (vs : List Value) (vss : List (List Value)) (a b : Built) (r : Option Repeat) → is_some r ≡ false → Walks o w ([] ∷ vs ∷ vss) a
    → LeavesIfDistinct {E = E} (Ok r) a b (close a.order a.open_levels) → Walks o w (vs ∷ vss) b
walks_ended o w vs vss a b r none k e =
    let ended : b.open_levels ≡ close o a.open_levels = ap (λ (c : Built). c.open_levels) (e.ended none) ∙ ap (λ p. close p a.open_levels) k.order in
    record {
      order = e.order ∙ k.order;
      leads = coe 1 0 (k. Leads o w (vs ∷ vss) (ended k)) (leads_ended o w vs vss a.open_levels k.leads);
      sound = coe 1 0 (k. AreSound o (vs ∷ vss) (ended k) ↔ IsValid w) (sound_ended o (IsValid w) w vs vss a.open_levels (e.distinct.0 none) k.leads k.sound);
    }

-- its keys were not distinct
pub not_valid : {E : Type 0} (o : KeyOrder) (w : Value) (vs : List Value) (vss : List (List Value)) (a b : Built) (r : Option Repeat) (os : List Open) → is_some r ≡ true → Walks o w ([] ∷ vs ∷ vss) a
    → LeavesIfDistinct {E = E} (Ok r) a b os → IsValid w → ⊥
not_valid o w vs vss a b r os some k e valid =
    let none : is_some r ≡ false = e.distinct.1 (distinct_if_sound o w vs vss a.open_levels k.leads (k.sound.1 valid)) in
    absurd (cc)
