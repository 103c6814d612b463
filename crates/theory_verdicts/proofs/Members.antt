-- The loops of a reader over an array's members and over a map's pairs.
use Rattle.std.proofs.Common.{◌≡◌, ◌≢◌, ℕ, suc, ◌+◌, ◌-◌, ◌<◌, Option, Some, None, List, [], ◌∷◌, ◌++◌, length, refl, sym, ap, ◌∙◌, subst, arith, append-nil, false}
use Rattle.cbor_head.specs.Prelude.{head, Bounds, Values, Entries, Spellings, array, no_spellings, spell, spellings_count, break_of, HoldsOrIndefinite, values_of, Spelling, SpelledEntries, a_map, no_entries, entries_count, entries_of, Rules, OfCount}
use Rattle.cbor_head.specs.Value as value
use Rattle.cbor_head.specs.declared.major.Major.TheVariants as majors
use Rattle.cbor_head.specs.declared.event.EventKind.TheVariants as kinds
use Rattle.cbor_head.specs.declared.width.Width.{Width, TheVariants.Indefinite}
use Rattle.theory_automaton.specs.{Trace.a_head, Marks.count_of}
use Rattle.cbor_machine.specs.NextEvent.{ItemEventsView}
use Rattle.theory_verdicts.specs.Place.{Container, indefinite_array, Place, at_item, close, expect, IsTaking, indefinite_map}
use Rattle.theory_verdicts.specs.Reading.{IsAt, Extends, IsBegun, ReadsItem}
use Rattle.theory_verdicts.specs.SoFar.{IsArraySoFar, array_bytes, IsMapSoFar, map_bytes}
use Rattle.theory_verdicts.proofs.Items.{definite, proper-definite, extends-none}
use Rattle.theory_verdicts.{specs.Judged.Never, proofs.Judged.array_whole, proofs.Judged.map_whole, proofs.Heads.open_or}
use Rattle.theory_verdicts.{proofs.Loops.array_bytes-whole, proofs.Loops.map_bytes-whole, proofs.Scalars.at-as, specs.Frame.keys_onto}

-- how many members are left, where that is known
abbrev pub IsLeft : Width → ℕ → ℕ → Option ℕ → Type 0
IsLeft w n done (Some left) = (w ≢ Indefinite) × (done + left ≡ n)
IsLeft w n done None = w ≡ Indefinite

abbrev pub members_expected : Option ℕ → List Container → Place
members_expected (Some left) fs = expect left fs
members_expected None fs = at_item (indefinite_array ∷ fs)

pub any_open : (w : Width) (n : ℕ) → w ≡ Indefinite → HoldsOrIndefinite w n
any_open w n e = subst (λ (v : Width). HoldsOrIndefinite v n) (sym e) tt

-- The members so far of an array that follows t, of which x was read when from was left; n are left.
pub record IsReadingArray (r : Rules) (b : Bounds) (fs : List Container) (t x : List ℕ) (w : Width) (n : ℕ) (left : Option ℕ) (vs : Values) (from now : Option (List ℕ)) (e : ItemEventsView) : Type 0 where
  pub done : Spellings
  pub so_far : IsArraySoFar r (length t) (b.depth - suc (length fs)) w n done
  pub taken : Extends x (array_bytes w n done) from now
  pub at : IsAt b e (t ++ array_bytes w n done) (members_expected left fs)
  pub counts : IsLeft w n (spellings_count done) left
  pub values : values_of done ≡ vs
  pub space : length fs < b.depth

-- ---- the head

array-begun : (r : Rules) (b : Bounds) (fs : List Container) (t x : List ℕ) (w : Width) (count : Option ℕ) (from : Option (List ℕ)) (e : ItemEventsView) → (i : IsBegun r b fs t x e w (kinds.Array count)) → x ≡ head majors.Array w (count_of count)
    → HoldsOrIndefinite w (count_of count) → IsLeft w (count_of count) 0 count → i.next ≡ members_expected count fs → length fs < b.depth → Never (OfCount r (length t) majors.Array w (count_of count)) → IsReadingArray r b fs t x w (count_of count) count value.no_values from from e
array-begun r b fs t x w count from e i is holds counts follows space clean =
    let n = count_of count in
    let bytes_are : x ≡ array_bytes w n no_spellings = is ∙ sym (append-nil (head majors.Array w n)) in
    record {
      done = no_spellings;
      so_far = record { holds = holds; spelled = tt; within = omega arith; head_clean = clean; clean = λ c h. h };
      taken = subst (λ (y : List ℕ). Extends x y from from) bytes_are (extends-none x from);
      at = at-as b e (t ++ x) (t ++ array_bytes w n no_spellings) i.next (members_expected count fs) (ap (λ (y : List ℕ). t ++ y) bytes_are) follows i.at;
      counts = counts;
      values = refl;
      space = space;
    }

pub starts-array : (r : Rules) (b : Bounds) (fs : List Container) (t x : List ℕ) (w : Width) (count : Option ℕ) (from : Option (List ℕ)) (e : ItemEventsView)
    → IsBegun r b fs t x e w (kinds.Array count) → IsReadingArray r b fs t x w (count_of count) count value.no_values from from e
starts-array r b fs t x w (Some n) from e i =
    let f = definite b.depth fs majors.Array w n x i.next (proper-definite w i.proper) i.taking in
    array-begun r b fs t x w (Some n) from e i f.bytes_are (open_or w n f.holds) (proper-definite w i.proper, omega arith) f.follows.1 f.follows.0 i.clean
starts-array r b fs t x w None from e i =
    let taking = subst (λ (v : Width). IsTaking b.depth (at_item fs) (a_head majors.Array v 0) x i.next) i.proper i.taking in
    array-begun r b fs t x w None from e i (taking.1 ∙ ap (λ (v : Width). head majors.Array v 0) (sym i.proper)) (any_open w 0 i.proper) i.proper taking.2.1 taking.2.0 i.clean

-- ---- the members

pub closes : (w : Width) → w ≢ Indefinite → break_of w ≡ []
closes Indefinite f = absurd (f refl)
closes _ f = refl

module _ (r : Rules) (b : Bounds) (fs : List Container) (t x : List ℕ) (w : Width) (n : ℕ) (left : Option ℕ) (vs : Values) (from mid : Option (List ℕ)) (e : ItemEventsView)
    (a : IsReadingArray r b fs t x w n left vs from mid e) where
  -- no member is left
  pub array-whole : left ≡ Some 0 → ReadsItem r b fs t x from mid e (value.array vs)
  array-whole none =
      let counts : (w ≢ Indefinite) × (spellings_count a.done + 0 ≡ n) = subst (IsLeft w n (spellings_count a.done)) none a.counts in
      let same : spellings_count a.done ≡ n = omega (arith, counts.1) in
      let whole = array_whole w a.done r (length t) (b.depth - suc (length fs)) (subst (λ (k : ℕ). IsArraySoFar r (length t) (b.depth - suc (length fs)) w k a.done) (sym same) a.so_far) in
      let bytes_are : array_bytes w n a.done ≡ spell (array w a.done) = sym (array_bytes-whole w n a.done (closes w counts.0) same) in
      record {
        item = array w a.done;
        spelled = whole.0;
        within = omega (arith, whole.1, a.space);
        clean = whole.2;
        taken = subst (λ (u : List ℕ). Extends x u from mid) bytes_are a.taken;
        value = ap value.array a.values;
        at = at-as b e (t ++ array_bytes w n a.done) (t ++ spell (array w a.done)) (members_expected left fs) (close fs) (ap (λ (u : List ℕ). t ++ u) bytes_are) (ap (λ (l : Option ℕ). members_expected l fs) none) a.at;
      }

-- ---- maps

-- how many pairs were read, if n are left
abbrev pub pairs_expected : Option ℕ → List Container → Place
pairs_expected (Some left) fs = expect (left + left) fs
pairs_expected None fs = at_item (indefinite_map false ∷ fs)

-- The pairs so far of a map that follows t, of which x was read when from was left; n are left.
pub record IsReadingMap (r : Rules) (b : Bounds) (fs : List Container) (t x : List ℕ) (w : Width) (n : ℕ) (left : Option ℕ) (es : Entries) (from now : Option (List ℕ)) (e : ItemEventsView) : Type 0 where
  pub done : SpelledEntries
  pub so_far : IsMapSoFar r (length t) (b.depth - suc (length fs)) w n done
  pub taken : Extends x (map_bytes w n done) from now
  pub at : IsAt b e (t ++ map_bytes w n done) (pairs_expected left fs)
  pub counts : IsLeft w n (entries_count done) left
  pub values : entries_of done ≡ es
  pub space : length fs < b.depth

-- ---- the head

map-begun : (r : Rules) (b : Bounds) (fs : List Container) (t x : List ℕ) (w : Width) (count : Option ℕ) (from : Option (List ℕ)) (e : ItemEventsView) → (i : IsBegun r b fs t x e w (kinds.Map count)) → x ≡ head majors.Map w (count_of count)
    → HoldsOrIndefinite w (count_of count) → IsLeft w (count_of count) 0 count → i.next ≡ pairs_expected count fs → length fs < b.depth → Never (OfCount r (length t) majors.Map w (count_of count)) → IsReadingMap r b fs t x w (count_of count) count value.no_entries from from e
map-begun r b fs t x w count from e i is holds counts follows space clean =
    let n = count_of count in
    let bytes_are : x ≡ map_bytes w n no_entries = is ∙ sym (append-nil (head majors.Map w n)) in
    record {
      done = no_entries;
      so_far = record { holds = holds; spelled = tt; within = omega arith; head_clean = clean; clean = λ c h. h };
      taken = subst (λ (y : List ℕ). Extends x y from from) bytes_are (extends-none x from);
      at = at-as b e (t ++ x) (t ++ map_bytes w n no_entries) i.next (pairs_expected count fs) (ap (λ (y : List ℕ). t ++ y) bytes_are) follows i.at;
      counts = counts;
      values = refl;
      space = space;
    }

pub starts-map : (r : Rules) (b : Bounds) (fs : List Container) (t x : List ℕ) (w : Width) (count : Option ℕ) (from : Option (List ℕ)) (e : ItemEventsView)
    → IsBegun r b fs t x e w (kinds.Map count) → IsReadingMap r b fs t x w (count_of count) count value.no_entries from from e
starts-map r b fs t x w (Some n) from e i =
    let f = definite b.depth fs majors.Map w n x i.next (proper-definite w i.proper) i.taking in
    map-begun r b fs t x w (Some n) from e i f.bytes_are (open_or w n f.holds) (proper-definite w i.proper, omega arith) f.follows.1 f.follows.0 i.clean
starts-map r b fs t x w None from e i =
    let taking = subst (λ (v : Width). IsTaking b.depth (at_item fs) (a_head majors.Map v 0) x i.next) i.proper i.taking in
    map-begun r b fs t x w None from e i (taking.1 ∙ ap (λ (v : Width). head majors.Map v 0) (sym i.proper)) (any_open w 0 i.proper) i.proper taking.2.1 taking.2.0 i.clean

-- ---- the pairs

module _ (r : Rules) (b : Bounds) (fs : List Container) (t x : List ℕ) (w : Width) (n : ℕ) (left : Option ℕ) (es : Entries) (from mid : Option (List ℕ)) (e : ItemEventsView)
    (a : IsReadingMap r b fs t x w n left es from mid e) where
  -- no pair is left
  pub map-whole : left ≡ Some 0 → ReadsItem r b fs t x from mid e (value.map es)
  map-whole none =
      let counts : (w ≢ Indefinite) × (entries_count a.done + 0 ≡ n) = subst (IsLeft w n (entries_count a.done)) none a.counts in
      let same : entries_count a.done ≡ n = omega (arith, counts.1) in
      let whole = map_whole w a.done r (length t) (b.depth - suc (length fs)) (subst (λ (k : ℕ). IsMapSoFar r (length t) (b.depth - suc (length fs)) w k a.done) (sym same) a.so_far) in
      let bytes_are : map_bytes w n a.done ≡ spell (a_map w a.done) = sym (map_bytes-whole w n a.done (closes w counts.0) same) in
      record {
        item = a_map w a.done;
        spelled = whole.0;
        within = omega (arith, whole.1, a.space);
        clean = whole.2;
        taken = subst (λ (u : List ℕ). Extends x u from mid) bytes_are a.taken;
        value = ap value.map a.values;
        at = at-as b e (t ++ map_bytes w n a.done) (t ++ spell (a_map w a.done)) (pairs_expected left fs) (close fs) (ap (λ (u : List ℕ). t ++ u) bytes_are) (ap (λ (l : Option ℕ). pairs_expected l fs) none) a.at;
      }

-- with what is known of no keys
pub starts-with : (r : Rules) (b : Bounds) (fs : List Container) (t x : List ℕ) (w : Width) (n : ℕ) (from : Option (List ℕ)) (e : ItemEventsView) → IsBegun r b fs t x e w (kinds.Map (Some n)) → (P : List Spelling → Type 0) → P []
    → (h : IsReadingMap r b fs t x w n (Some n) value.no_entries from from e) × P (keys_onto [] h.done)
unfolding starts-map map-begun
starts-with r b fs t x w n from e i P k = (starts-map r b fs t x w (Some n) from e i, k)
