-- What is stored of an item for its keys alone, part by part.
use Rattle.std.proofs.Common.{◌≡◌, ℕ, zero, suc, ◌-◌, ◌^◌, ◌<◌, ◌≤◌, Bool, true, false, List, [], ◌∷◌, ◌++◌, length, refl, sym, ap, ◌∙◌, subst, inl, inr, arith, ◌||◌, ◌≢◌, ◌⊎◌, if◌then◌else◌, length-append}
use Rattle.std.{specs.List.AllByRecursion, proofs.lemmas.Bool.false≢true}
use Rattle.cbor_head.specs.Prelude.{Pair, canonical, Spelling, no_spellings, a_spelling, no_entries, entry, spell, value_of}
use Rattle.cbor_head.specs.declared.major.Major.TheVariants as majors
use Rattle.cbor_head.specs.declared.order.KeyOrder.{KeyOrder}
use Rattle.theory_values.specs.Parts.{IsInContainer, Open, plain, a_map, a_key, pair, with_member, closed, give, close, HasNoRepeats}
use Rattle.theory_values.{proofs.ReadLaws.length_head, specs.Pairs.HasDistinctBytes}
use Rattle.cbor_builder.specs.Built.{HasDistinctKeysSoFar, CanHold, TakesPart, around}
use Rattle.theory_verdicts.specs.Given.{level_open, opens, IsFull}
use Rattle.theory_verdicts.specs.Levels as levels
use Rattle.theory_verdicts.specs.Levels.{IsTaken, Level, a_member, a_value, some_member, some_key, some_value, tagged, AreLevels, level_bytes, bytes_before, item_expected, item_full, settle}
use Rattle.theory_verdicts.{proofs.Given.settled, specs.Frame.with_all, specs.Frame.with_entries}
use Rattle.cbor_parser.specs.Sink.{takes_key, key_expected, is_map}
use Rattle.cbor_parser.proofs.CanonGiven.{opens-take}
use Rattle.cbor_reader.specs.inner.KeyBytes.{is_open_map, in_key, bare_pairs, bare, kept, kept_all, one_more, inside, is_kept, after_item, with_item, KeepsAt}

-- ---- the keys of a map

bare-more : (ps : List Pair) (k b : List ℕ) → bare_pairs (ps ++ pair k b ∷ []) ≡ bare_pairs ps ++ pair k [] ∷ []
bare-more [] k b = refl
bare-more (p ∷ ps) k b = ap (λ (qs : List Pair). pair p.key [] ∷ qs) (bare-more ps k b)

others-differ : (k : List ℕ) (ps : List Pair) → AllByRecursion (λ q. q.key ≢ k) (bare_pairs ps) → AllByRecursion (λ q. q.key ≢ k) ps
others-differ k [] h = tt
others-differ k (p ∷ ps) h = (h.0, others-differ k ps h.1)

bare-distinct : (ps : List Pair) → HasDistinctBytes (bare_pairs ps) → HasDistinctBytes ps
bare-distinct [] h = tt
bare-distinct (p ∷ ps) h = (others-differ p.key ps h.0, bare-distinct ps h.1)

-- ---- the position of an item

map-key : (o : KeyOrder) (l : Level) → takes_key l ≡ is_open_map (level_open o l)
map-key o (a_member w left done) = refl
map-key o _ = refl

-- by how many containers are open of a key, and whether one is expected
pub in_key-is : (ls : List Level) → in_key ls ≡ is_kept (inside ls) (key_expected ls)
in_key-is [] = refl
in_key-is (l ∷ ls) = one (takes_key l) (in_key ls)
  where
    one : (a t : Bool) → (a || t) ≡ is_kept (one_more t (inside ls)) a
    one true true = refl
    one false true = refl
    one _ _ = refl

-- ---- an item is complete

kept-more : (t : Bool) (n : ℕ) (b : List ℕ) (c : Open) (os : List Open) → with_item (one_more t n) (is_open_map c) b (kept t c os) ≡ kept t (with_member b c) os
kept-more false n b (a_key ps k) os = ap (λ (qs : List Pair). a_map qs ∷ os) (sym (bare-more ps k b))
kept-more _ n b _ os = refl

abbrev pub innermost : List Open → Open
innermost [] = plain []
innermost (c ∷ os) = c

module _ (o : KeyOrder) where
  -- it has more members
  expected : (c : Open) (l : Level) (ls : List Level) → c ∷ opens o ls ≡ level_open o l ∷ opens o ls → KeepsAt o (kept (in_key ls) c (kept_all o ls)) (one_more (in_key ls) (inside ls)) (item_expected (l ∷ ls))
  expected c l ls e = (ap (λ (os : List Open). kept (in_key ls) (innermost os) (kept_all o ls)) e, refl)

  -- or none
  full : (d : ℕ) (c : Open) (s : Spelling) (ls : List Level) → is_open_map c ≡ is_map s → (x : Open) × IsFull o d x s × (c ∷ opens o ls ≡ x ∷ opens o ls)
      → KeepsAt o (kept (in_key ls) c (kept_all o ls)) (one_more (in_key ls) (inside ls)) (item_full ls s)
  full d c s ls like (x, h, e) = (d, c, subst (λ (y : Open). IsFull o d y s) (sym (ap innermost e)) h, like, refl, refl)

  member-kept : (d : ℕ) (l : Level) (ls : List Level) (s : Spelling) → AreLevels d (l ∷ ls) → IsTaken (d - suc (length ls)) s → length (bytes_before (l ∷ ls) ++ spell s) < 2 ^ 64
      → KeepsAt o (kept (in_key ls) (with_member (canonical o (value_of s)) (level_open o l)) (kept_all o ls)) (one_more (in_key ls) (inside ls)) (settle (l ∷ ls) s)
  member-kept d (a_member w zero done) ls s h i short = full _ _ _ ls refl (settled o d (a_member w zero done ∷ ls) s h i short).3
  member-kept d (a_member w (suc left) done) ls s h i short = expected _ (a_member w left (with_all done (a_spelling s no_spellings))) ls (settled o d (a_member w (suc left) done ∷ ls) s h i short).3
  member-kept d (some_member done) ls s h i short = expected _ (some_member (with_all done (a_spelling s no_spellings))) ls (settled o d (some_member done ∷ ls) s h i short).3
  member-kept d (levels.a_key w left done) ls s h i short = expected _ (a_value w left done s) ls (settled o d (levels.a_key w left done ∷ ls) s h i short).3
  member-kept d (some_key done) ls s h i short = expected _ (some_value done s) ls (settled o d (some_key done ∷ ls) s h i short).3
  member-kept d (a_value w zero done k) ls s h i short = full _ _ _ ls refl (settled o d (a_value w zero done k ∷ ls) s h i short).3
  member-kept d (a_value w (suc left) done k) ls s h i short = expected _ (levels.a_key w left (with_entries done (entry k s no_entries))) ls (settled o d (a_value w (suc left) done k ∷ ls) s h i short).3
  member-kept d (some_value done k) ls s h i short = expected _ (some_key (with_entries done (entry k s no_entries))) ls (settled o d (some_value done k ∷ ls) s h i short).3
  member-kept d (tagged w n) ls s h i short = full _ _ _ ls refl (settled o d (tagged w n ∷ ls) s h i short).3

  pub item-kept : (d : ℕ) (ls : List Level) (s : Spelling) → AreLevels d ls → IsTaken (d - length ls) s → length (bytes_before ls ++ spell s) < 2 ^ 64
      → KeepsAt o (with_item (inside ls) (key_expected ls) (canonical o (value_of s)) (kept_all o ls)) (inside ls) (settle ls s)
  item-kept d [] s h i short = tt
  item-kept d (l ∷ ls) s h i short =
      let b = canonical o (value_of s) in
      let n = one_more (in_key ls) (inside ls) in
      let same = ap (λ (k : Bool). with_item n k b (kept (in_key ls) (level_open o l) (kept_all o ls))) (map-key o l) ∙ kept-more (in_key ls) (inside ls) b (level_open o l) (kept_all o ls) in
      subst (λ (os : List Open). KeepsAt o os n (settle (l ∷ ls) s)) (sym same) (member-kept d l ls s h i short)

-- ---- a part may begin

bare-takes : (c : Open) (os : List Open) → TakesPart os → TakesPart (bare c os)
bare-takes (a_map ps) os h = tt
bare-takes (a_key ps k) os h = tt
bare-takes _ os h = h

kept-takes : (t : Bool) (c : Open) (os : List Open) → CanHold c → TakesPart os → TakesPart (kept t c os)
kept-takes true c os holds h = holds
kept-takes false c os holds h = bare-takes c os h

pub takes-part : (o : KeyOrder) (d : ℕ) (ls : List Level) → AreLevels d ls → length (bytes_before ls) < 2 ^ 63 → TakesPart (kept_all o ls)
takes-part o d [] h short = tt
takes-part o d (l ∷ ls) h short =
    kept-takes (in_key ls) (level_open o l) (kept_all o ls) (opens-take o d (l ∷ ls) h short) (takes-part o d ls h.2 (omega (arith, short, length-append (bytes_before ls) (level_bytes l))))

map-takes : (t : Bool) (n : ℕ) (b : List ℕ) (c : Open) (os : List Open) → one_more t n ≡ 0 → is_kept (one_more t n) (is_open_map c) ≡ true → TakesPart (give b (kept t c os))
map-takes true n b c os none e = absurd (omega (arith, none))
map-takes false n b (a_map ps) os none e = tt
map-takes false n b _ os none e = absurd (false≢true e)

-- the value of a key
pub value-takes : (o : KeyOrder) (ls : List Level) (b : List ℕ) → inside ls ≡ 0 → is_kept (inside ls) (key_expected ls) ≡ true → TakesPart (give b (kept_all o ls))
value-takes o [] b none e = absurd (false≢true e)
value-takes o (l ∷ ls) b none e =
    map-takes (in_key ls) (inside ls) b (level_open o l) (kept_all o ls) none (sym (ap (is_kept (one_more (in_key ls) (inside ls))) (map-key o l)) ∙ e)

-- ---- no more containers are open of a key than there are bytes

level-some : (l : Level) → 1 ≤ length (level_bytes l)
level-some (tagged w n) = length_head majors.Tag w n
level-some _ = omega (arith, length_head, length-append {A = ℕ})

one-at-most : (t : Bool) (n : ℕ) → one_more t n ≤ suc n
one-at-most true n = omega arith
one-at-most false n = omega arith

pub inside-few : (ls : List Level) → inside ls ≤ length (bytes_before ls)
inside-few [] = omega arith
inside-few (l ∷ ls) = omega (arith, one-at-most (in_key ls) (inside ls), inside-few ls, level-some l, length-append (bytes_before ls) (level_bytes l))

-- ---- a container ends

abbrev pub Some : List Open → Type 0
Some os = (c : Open) × (cs : List Open) × (os ≡ c ∷ cs)

kept-some : (t : Bool) (c : Open) (os : List Open) → Some os → Some (kept t c os)
kept-some true c os h = (c, os, refl)
kept-some false (a_map ps) os h = (_, os, refl)
kept-some false (a_key ps k) os h = (_, os, refl)
kept-some false _ os h = h

pub some-kept : (o : KeyOrder) (ls : List Level) → Some (kept_all o ls)
some-kept o [] = (plain [], [], refl)
some-kept o (l ∷ ls) = kept-some (in_key ls) (level_open o l) (kept_all o ls) (some-kept o ls)

within-some : (c : Open) (os : List Open) → ((other : Open) (cs : List Open) → IsInContainer (c ∷ other ∷ cs)) → Some os → IsInContainer (c ∷ os)
within-some c os inner (x, xs, e) = subst (λ (cs : List Open). IsInContainer (c ∷ cs)) (sym e) (inner x xs)

kept-ends : (t : Bool) (n : ℕ) (c : Open) (os : List Open) → ((other : Open) (cs : List Open) → IsInContainer (c ∷ other ∷ cs)) → Some os → (0 < one_more t n) ⊎ (is_open_map c ≡ true) → IsInContainer (kept t c os)
kept-ends true n c os inner some h = within-some c os inner some
kept-ends false n c os inner some (inl h) = absurd (omega (arith, h))
kept-ends false n (a_map ps) os inner some (inr e) = within-some (a_map (bare_pairs ps)) os (λ other cs. tt) some
kept-ends false n _ os inner some (inr e) = absurd (false≢true e)

pub may-end : (o : KeyOrder) (c : Open) (ls : List Level) → ((other : Open) (cs : List Open) → IsInContainer (c ∷ other ∷ cs)) → (0 < one_more (in_key ls) (inside ls)) ⊎ (is_open_map c ≡ true)
    → IsInContainer (kept (in_key ls) c (kept_all o ls))
may-end o c ls inner h = kept-ends (in_key ls) (inside ls) c (kept_all o ls) inner (some-kept o ls) h

-- after its end, in containers of which n are open within a key
pub record IsAfter (o : KeyOrder) (n : ℕ) (k : Bool) (c : Open) (os new : List Open) (m : ℕ) : Type 0 where
  pub differ : HasNoRepeats c
  pub holds : new ≡ with_item n k (closed o c) os
  pub count : m ≡ n

outside : (n : ℕ) (k : Bool) (b : List ℕ) (os : List Open) → false ≡ is_kept n k → (os ≡ with_item n k b os) × (0 ≡ n)
outside zero false b os e = (refl, refl)
outside _ _ b os e = absurd (false≢true e)

-- a map in no key is given up
pub map-ended : (o : KeyOrder) (t : Bool) (n : ℕ) (k : Bool) (c : Open) (os : List Open) → t ≡ is_kept n k → one_more t n ≡ 0 → is_open_map c ≡ true → HasDistinctKeysSoFar (kept t c os)
    → IsAfter o n k c os (around (kept t c os)) 0
map-ended o true n k c os is none e h = absurd (omega (arith, none))
map-ended o false n k (a_map ps) os is none e h = let out = outside n k (closed o (a_map ps)) os is in record { differ = bare-distinct ps h; holds = out.0; count = out.1 }
map-ended o false n k _ os is none e h = absurd (false≢true e)

-- of an array or a tag outside of keys nothing is stored
pub other-ended : (o : KeyOrder) (t : Bool) (n : ℕ) (k : Bool) (c : Open) (os : List Open) → t ≡ is_kept n k → one_more t n ≡ 0 → is_open_map c ≡ false → IsInContainer (c ∷ plain [] ∷ [])
    → IsAfter o n k c os (kept t c os) 0
other-ended o true n k c os is none e h = absurd (omega (arith, none))
other-ended o false n k (a_map ps) os is none e h = absurd (false≢true (sym e))
other-ended o false n k (a_key ps q) os is none e h = absurd h
other-ended o false n k c os is none e h = let out = outside n k (closed o c) os is in record { differ = tt; holds = out.0; count = out.1 }

-- one in a key is a member of what is around it, or the key
pub inner-ended : (o : KeyOrder) (t : Bool) (n m : ℕ) (k : Bool) (c : Open) (os : List Open) → t ≡ is_kept n k → suc m ≡ one_more t n → HasDistinctKeysSoFar (kept t c os)
    → IsAfter o n k c os (after_item m (close o (kept t c os))) m
inner-ended o false n m k c os is some h = absurd (omega (arith, some))
inner-ended o true n m k c os is some h =
    let same : m ≡ n = omega (arith, some) in
    record {
      differ = h;
      holds = ap (λ (x : ℕ). after_item x (give (closed o c) os)) same ∙ ap (λ (x : Bool). if x then after_item n (give (closed o c) os) else os) is;
      count = same;
    }

-- so its value may follow, where it is one
pub inner-takes : (o : KeyOrder) (c : Open) (ls : List Level) (m : ℕ) → suc m ≡ one_more (in_key ls) (inside ls) → m ≡ 0 → TakesPart (close o (kept (in_key ls) c (kept_all o ls)))
inner-takes o c ls m some none = go (in_key ls) refl (some)
  where
    go : (t : Bool) → in_key ls ≡ t → suc m ≡ one_more t (inside ls) → TakesPart (close o (kept t c (kept_all o ls)))
    go false e h = absurd (omega (arith, h))
    go true e h = value-takes o ls (closed o c) (omega (arith, h, none)) (sym (in_key-is ls) ∙ e)
