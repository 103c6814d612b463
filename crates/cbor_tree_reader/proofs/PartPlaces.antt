-- What a part of an item is, and which containers are open after it.
use Rattle.std.proofs.Common.{◌≡◌, ◌≢◌, ℕ, zero, suc, ◌+◌, ◌-◌, ◌^◌, ◌<◌, Bool, true, false, Option, Some, List, [], ◌∷◌, ◌++◌, length, map, slice_get, refl, sym, ap, ◌∙◌, subst, arith, append_assoc, append-nil, length-append}
use Rattle.std.proofs.lemmas.List.{length-map}
use Rattle.cbor_head.specs.Prelude.{Holds, head, shortest_head, canonical, Bounds, Value, Spelling, array, a_map, no_spellings, no_entries, spell_all, spell_entries, spellings_count, plain}
use Rattle.cbor_head.specs.declared.major.Major.TheVariants as majors
use Rattle.cbor_head.specs.declared.event.EventKind.TheVariants as kinds
use Rattle.cbor_head.specs.declared.{event.EventKind.EventKind, major.Major.Major, order.KeyOrder.KeyOrder, width.Width.Width}
use Rattle.cbor_head.specs.declared.width.Width.TheVariants.{Indefinite}
use Rattle.theory_values.specs.Parts.{Open, an_array, a_map as an_open_map, opened}
use Rattle.theory_automaton.specs.{Marks.mark_of, Trace.Mark, Trace.a_head}
use Rattle.cbor_machine.specs.NextEvent.{ItemEventsView}
use Rattle.cbor_builder.specs.Built.{IsContainer, IsLeaf}
use Rattle.cbor_item.specs.OpenValues as trees
use Rattle.cbor_item.specs.OpenValues.{OpenValue}
use Rattle.theory_verdicts.specs.Place.{Container, Place, at_item, expect, Ends, IsTaking}
use Rattle.theory_verdicts.specs.Levels.{Level, a_member, a_key, some_member, some_key, tagged, frame, AreLevels, bytes_before, ParseState, item_expected, item_full}
use Rattle.theory_verdicts.specs.Reading.{string_major, IsBegun, ReadsItem, string_value}
use Rattle.theory_verdicts.proofs.Scalars.{reads-unsigned, reads-negative, reads-simple}
use Rattle.theory_verdicts.{proofs.Items.is-definite, specs.Given.opens, specs.Given.AgreesAt, proofs.Members.closes, proofs.Heads.open_or}
use Rattle.theory_verdicts.proofs.{Given.full-array, Given.full-map, Loops.array_bytes-whole, Loops.map_bytes-whole, Steps.fault_of}
use Rattle.cbor_tree_reader.specs.inner.TreeItems.{HaveBegun, HaveBegunIn, HasItsPlace}
use Rattle.cbor_tree_reader.specs.inner.PlainParts.{IsCome, leaf_value, IsLeafMajor}
use Rattle.cbor_tree_reader.specs.TreeValues.{level_values, values_at, IsFullRight}

-- ---- strings

pub string-canonical : (o : KeyOrder) (text : Bool) (content : List ℕ) → shortest_head (string_major text) (length content) ++ content ≡ canonical o (string_value text content)
string-canonical o true content = refl
string-canonical o false content = refl

-- ---- heads

-- a head alone has no complaint of the plain rules
pub come-begun : (b : Bounds) (fs : List Container) (t x : List ℕ) (e : ItemEventsView) (w : Width) (kind other : EventKind) → kind ≡ other → other ≢ kinds.End → IsCome b fs t x e w kind → IsBegun plain b fs t x e w other
come-begun b fs t x e w kind other same item i =
    let j = subst (IsCome b fs t x e w) same i in
    record { next = j.next; taking = j.taking; item = item; clean = λ c h. cc (fault_of (at_item fs) (mark_of w other) plain (length t) c h).1.0; proper = j.proper; at = j.at }

-- ---- parts

pub leaf-canonical : (o : KeyOrder) (m : Major) (k : ℕ) → IsLeafMajor m k → shortest_head m k ≡ canonical o (leaf_value m k)
leaf-canonical o majors.Unsigned k h = refl
leaf-canonical o majors.Negative k h = refl
leaf-canonical o majors.Simple k h = refl
leaf-canonical o _ k h = absurd h.0

-- this of the value of an item of one head, by its mark
abbrev pub OfLeaf : (Value → Type 0) → Mark → Type 0
OfLeaf P (a_head m w k) = IsLeaf m → P (leaf_value m k)
OfLeaf P _ = ⊥ → Unit {0}

module _ (b : Bounds) (fs : List Container) (t x : List ℕ) (e : ItemEventsView) (w : Width) where
  pub leaf-read : (from : Option (List ℕ)) (kind : EventKind) → IsCome b fs t x e w kind → OfLeaf (ReadsItem plain b fs t x from from e) (mark_of w kind)
  leaf-read from (kinds.Unsigned n) i = λ l. reads-unsigned plain b fs t x e w n from (come-begun b fs t x e w _ _ refl (λ g. cc g) i)
  leaf-read from (kinds.Negative n) i = λ l. reads-negative plain b fs t x e w n from (come-begun b fs t x e w _ _ refl (λ g. cc g) i)
  leaf-read from (kinds.Simple n) i = λ l. reads-simple plain b fs t x e w n from (come-begun b fs t x e w _ _ refl (λ g. cc g) i)
  leaf-read from _ i = λ l. absurd l

-- ---- where a part leads

pub agrees-as : (o : KeyOrder) (d : ℕ) (x : ParseState) (t u : List ℕ) (q p : Place) (os ps : List Open) (h k : ℕ) → t ≡ u → q ≡ p → os ≡ ps → h ≡ k → AgreesAt o d t q os h x → AgreesAt o d u p ps k x
agrees-as o d x t u q p os ps h k e f g j s =
    subst (λ (n : ℕ). AgreesAt o d u p ps n x) j (subst (λ (y : List Open). AgreesAt o d u p y h x) g (subst (λ (y : Place). AgreesAt o d u y os h x) f (subst (λ (y : List ℕ). AgreesAt o d y q os h x) e s)))

pub record IsPlaced (o : KeyOrder) (d : ℕ) (t : List ℕ) (q : Place) (os : List Open) (height : ℕ) (xs : List ℕ) (vs : List OpenValue) : Type 0 where
  pub open_levels : ParseState
  pub agrees : AgreesAt o d t q os height open_levels
  pub begun : HaveBegunIn xs open_levels
  pub place : HasItsPlace xs open_levels
  pub right : IsFullRight open_levels
  pub values : vs ≡ values_at open_levels

-- an item is full
full-here : (o : KeyOrder) (d : ℕ) (ls : List Level) (s : Spelling) (t : List ℕ) (q : Place) (os : List Open) (h : ℕ) (xs : List ℕ) (vs : List OpenValue) → AgreesAt o d t q os h (item_full ls s) → HaveBegun xs ls
    → slice_get xs (length ls) ≡ Some (length (bytes_before ls)) → IsFullRight (item_full ls s) → vs ≡ values_at (item_full ls s) → IsPlaced o d t q os h xs vs
full-here o d ls s t q os h xs vs agrees begun place right values = record { open_levels = item_full ls s; agrees = agrees; begun = begun; place = place; right = right; values = values }

module _ (o : KeyOrder) (b : Bounds) (ls : List Level) (levels : AreLevels b.depth ls) (xs : List ℕ) (begun : HaveBegun xs ls) (here : slice_get xs (length ls) ≡ Some (length (bytes_before ls))) where
  abbrev fs : List Container
  fs = map frame ls

  space-for : length fs < b.depth → length ls < b.depth
  space-for r = omega (arith, r, length-map ls frame)

  -- a container opens in which an item is expected
  expected-here : (l : Level) (x : List ℕ) (next : Place) (os : List Open) (vs : List OpenValue) → AreLevels b.depth (l ∷ ls) → bytes_before ls ++ x ≡ bytes_before (l ∷ ls) → next ≡ at_item (map frame (l ∷ ls)) → os ≡ opens o (l ∷ ls)
      → HasItsPlace xs (item_expected (l ∷ ls)) → vs ≡ values_at (item_expected (l ∷ ls)) → IsPlaced o b.depth (bytes_before ls ++ x) next os (suc (length ls)) xs vs
  expected-here l x next os vs inner bytes follows are place values =
      record { open_levels = item_expected (l ∷ ls); agrees = (inner, bytes, follows, are, refl); begun = (here, begun); place = place; right = tt; values = values }

  array-begins : (k : ℕ) (w : Width) (next : Place) → Holds w k → length fs < b.depth → next ≡ expect k fs → IsPlaced o b.depth (bytes_before ls ++ head majors.Array w k) next (an_array 0 [] ∷ opens o ls) (suc (length ls)) xs (trees.an_array [] ∷ level_values ls)
  array-begins zero w next holds space follows =
      full-here o b.depth ls (array w no_spellings) _ next _ _ xs _
      (levels, ap (λ (x : List ℕ). bytes_before ls ++ x) (sym (append-nil (head majors.Array w 0)) ∙ sym (array_bytes-whole w 0 no_spellings (closes w (is-definite w 0 holds)) refl)), follows, (_, full-array o (b.depth - length ls) 0 w no_spellings 0 [] refl refl tt (open_or w 0 holds) (omega (arith, space-for space)), refl), refl)
      begun here tt refl
  array-begins (suc left) w next holds space follows =
      let count : suc left ≡ 0 + suc left = omega arith in
      expected-here (a_member w left no_spellings) (head majors.Array w (suc left)) next _ _ (space-for space, (subst (Holds w) count holds, tt), levels)
      (ap (λ (x : List ℕ). bytes_before ls ++ x) (ap (head majors.Array w) count ∙ sym (append-nil (head majors.Array w (0 + suc left))))) follows refl tt refl

  map-begins : (k : ℕ) (w : Width) (next : Place) → Holds w k → length fs < b.depth → next ≡ expect (k + k) fs → IsPlaced o b.depth (bytes_before ls ++ head majors.Map w k) next (an_open_map [] ∷ opens o ls) (suc (length ls)) xs (trees.a_map [] ∷ level_values ls)
  map-begins zero w next holds space follows =
      full-here o b.depth ls (a_map w no_entries) _ next _ _ xs _
      (levels, ap (λ (x : List ℕ). bytes_before ls ++ x) (sym (append-nil (head majors.Map w 0)) ∙ sym (map_bytes-whole w 0 no_entries (closes w (is-definite w 0 holds)) refl)), follows, (_, full-map o (b.depth - length ls) 0 w no_entries [] refl tt (open_or w 0 holds) (omega (arith, space-for space)) (omega arith), refl), refl)
      begun here tt refl
  map-begins (suc left) w next holds space follows =
      let count : suc left ≡ 0 + suc left = omega arith in
      let two : suc left + suc left ≡ suc (suc (left + left)) = omega arith in
      expected-here (a_key w left no_entries) (head majors.Map w (suc left)) next _ _ (space-for space, (subst (Holds w) count holds, tt), levels)
      (ap (λ (x : List ℕ). bytes_before ls ++ x) (ap (head majors.Map w) count ∙ sym (append-nil (head majors.Map w (0 + suc left))))) (follows ∙ ap (λ (x : ℕ). expect x fs) two) refl tt refl

  -- a container begins
  pub opens-by : (m : Major) (w : Width) (k : ℕ) (x : List ℕ) (next : Place) → IsContainer m → IsTaking b.depth (at_item fs) (a_head m w k) x next → IsPlaced o b.depth (bytes_before ls ++ x) next (opened m k ∷ opens o ls) (suc (length ls)) xs (trees.opened m k ∷ level_values ls)
  opens-by majors.Array Indefinite k x next c h = expected-here (some_member no_spellings) x next _ _ (space-for h.2.0, tt, levels) (ap (λ (y : List ℕ). bytes_before ls ++ y) (h.1 ∙ sym (append-nil (head majors.Array Indefinite 0)))) h.2.1 refl tt refl
  opens-by majors.Map Indefinite k x next c h = expected-here (some_key no_entries) x next _ _ (space-for h.2.0, tt, levels) (ap (λ (y : List ℕ). bytes_before ls ++ y) (h.1 ∙ sym (append-nil (head majors.Map Indefinite 0)))) h.2.1 refl tt refl
  opens-by majors.Tag Indefinite k x next c h = absurd h.2
  opens-by majors.Array w k x next c h =
      subst (λ (y : List ℕ). IsPlaced o b.depth (bytes_before ls ++ y) next (an_array 0 [] ∷ opens o ls) (suc (length ls)) xs (trees.an_array [] ∷ level_values ls)) (sym h.0) (array-begins k w next h.1 h.2.0 h.2.1)
  opens-by majors.Map w k x next c h =
      subst (λ (y : List ℕ). IsPlaced o b.depth (bytes_before ls ++ y) next (an_open_map [] ∷ opens o ls) (suc (length ls)) xs (trees.a_map [] ∷ level_values ls)) (sym h.0) (map-begins k w next h.1 h.2.0 h.2.1)
  opens-by majors.Tag w k x next c h =
      expected-here (tagged w k) x next _ _ (space-for h.2.0, h.1, levels) (ap (λ (y : List ℕ). bytes_before ls ++ y) h.0) h.2.1 refl tt refl
  opens-by _ w k x next c h = absurd c

-- the break
pub breaks : (o : KeyOrder) (b : Bounds) (ls : List Level) (next : Place) (xs : List ℕ) → AreLevels b.depth ls → HaveBegun xs ls → length (bytes_before ls) < 2 ^ 63 → Ends (map frame ls) next
    → IsPlaced o b.depth (bytes_before ls ++ 0xff ∷ []) next (opens o ls) (length ls) xs (level_values ls)
breaks o b (some_member done ∷ ms) next xs h begun s x =
    full-here o b.depth ms (array Indefinite done) _ next _ _ xs _
    (h.2, append_assoc (bytes_before ms) (head majors.Array Indefinite 0 ++ spell_all done) (0xff ∷ []), x, (_, full-array o (b.depth - length ms) (b.depth - suc (length ms)) Indefinite done (spellings_count done) _ refl refl h.1 tt (omega (arith, h.0)), refl), refl)
    begun.1 begun.0 tt refl
breaks o b (some_key done ∷ ms) next xs h begun s x =
    full-here o b.depth ms (a_map Indefinite done) _ next _ _ xs _
    (h.2, append_assoc (bytes_before ms) (head majors.Map Indefinite 0 ++ spell_entries done) (0xff ∷ []), x, (_, full-map o (b.depth - length ms) (b.depth - suc (length ms)) Indefinite done _ refl h.1 tt (omega (arith, h.0)) (omega (arith, s, length-append (bytes_before ms) (head majors.Map Indefinite 0 ++ spell_entries done), length-append (head majors.Map Indefinite 0) (spell_entries done))), refl), refl)
    begun.1 begun.0 tt refl
breaks o b _ next xs h begun s x = absurd x
