-- A valid item, part by part, given to a sink: the position of the walk after what a sink took.
use Rattle.std.proofs.Common.{◌≡◌, ℕ, Bool, true, suc, ◌+◌, ◌-◌, ◌^◌, ◌<◌, ◌≤◌, List, [], ◌∷◌, ◌++◌, length, take, refl, sym, ap, ap₂, ◌∙◌, subst, arith, inl, inr, append_assoc, append-nil, length-append}
use Rattle.cbor_head.specs.Prelude.{plain, Holds, head, Bounds, Spelling, array, a_map, no_spellings, no_entries, spell, Value}
use Rattle.cbor_head.specs.declared.major.Major.TheVariants as majors
use Rattle.cbor_head.specs.declared.major.Major.{Major}
use Rattle.theory_values.proofs.{Accepted.accepts_exactly, ReadLaws.length_spell}
use Rattle.theory_verdicts.specs.Levels.{IsTaken, Level, a_member, some_member, some_key, level_bytes, bytes_before, ParseState, item_expected, settle}
use Rattle.theory_verdicts.{specs.Kinds.KeepsToKinds, proofs.Members.closes, proofs.Decisions.whole_beside, proofs.Heads.open_or, proofs.Items.is-definite}
use Rattle.theory_verdicts.proofs.{Levels.clean-anywhere, Levels.no-count, Loops.array_bytes-whole, Loops.map_bytes-whole}
use Rattle.cbor_parser.specs.Sink.{takes_key, key_expected, Completes, IsItemExpected, Gives, Opens, Reported, AgreesAsFull, IsKeyless, IsKnownValid, IsGivenPrefix}
use Rattle.cbor_parser.specs.inner.Parser.{BeginsTaken, IsExpected, HasEnded, IsFull, IsBuilt, IsExpectedFor}
use Rattle.cbor_parser.specs.inner.OpenContainer.{counted, opener, bytes_after_head, cell_of, cells_of}
use Rattle.cbor_parser.specs.inner.Parts.{IsHead, IsOpener, Counts}
use Rattle.cbor_parser.specs.inner.OpenContainer.{Cell}
use Rattle.cbor_parser.specs.inner.Rules as rules
use Rattle.cbor_parser.proofs.GivenItems.{IsScalar, opener-whole, as-used}
use Rattle.cbor_parser.specs.{Expected.awaits, declared.container.Expected.Expected}
use Rattle.cbor_parser.specs.declared.container.Expected.TheVariants.{Item, Key}

-- ---- how many are open

pub cells-count : (n : ℕ) (ls : List Level) → length (cells_of n ls) ≡ suc (length ls)
cells-count n [] = refl
cells-count n (l ∷ ls) = ap suc (cells-count n ls)

-- the innermost, and those around it
pub cell-is : (n : ℕ) {c : Cell} {cs : List Cell} (l : Level) (ls : List Level) → c ∷ cs ≡ cells_of n (l ∷ ls) → c ≡ cell_of (bytes_after_head n ls l) l
cell-is n l ls e = cc

pub cells-are : (n : ℕ) {c : Cell} {cs : List Cell} (l : Level) (ls : List Level) → c ∷ cs ≡ cells_of n (l ∷ ls) → cs ≡ cells_of n ls
cells-are n l ls e = cc

-- a key is expected in the innermost one
cell-awaits : (following : ℕ) (l : Level) → awaits (cell_of following l).expected ≡ takes_key l
cell-awaits following (a_member w left done) = refl
cell-awaits following _ = refl

pub key-awaited : (n : ℕ) (ls : List Level) (top : Cell) (outer : List Cell) → top ∷ outer ≡ cells_of n ls → awaits top.expected ≡ key_expected ls
key-awaited n [] top outer e = let same : top ≡ counted Item 0 0 = cc in ap (λ (x : Cell). awaits x.expected) same
key-awaited n (l ∷ ls) top outer e = ap (λ (x : Cell). awaits x.expected) (cell-is n l ls e) ∙ cell-awaits (bytes_after_head n ls l) l

-- an input whose item is known to be valid
pub known-begins : (limits : Bounds) (bytes input : List ℕ) (d : ℕ) → d ≡ limits.depth → input ≡ take limits.bytes bytes → IsKnownValid limits bytes → BeginsTaken d input
known-begins limits bytes input d e f (size, h) =
    let (rest, (spelled, within, prefix), none) = (accepts_exactly limits plain bytes h.item).0 h.verdict in
    (h.item, rest, record { spelled = spelled; within = omega (arith, within, e); clean = clean-anywhere h.item 0 (λ c x. none c (inl x)) }, f ∙ sym prefix)

module _ (S : Type 0) (agrees : S → S → ParseState → Type 0) (trusts : Bool) where
  pub expected-item : (top : Cell) (g : S) (rest : List ℕ) (t : Bool) → t ≡ awaits top.expected → IsExpectedFor S agrees trusts top g rest → IsItemExpected S agrees t g
  expected-item top g rest t e (d, outer, (start, input, s)) =
      (start, d, s.ls, record { levels = s.levels; short = omega (arith, s.small, ap length s.bytes, length-append (bytes_before s.ls) rest) }, (s.given, e ∙ key-awaited (length input) s.ls top outer s.cells))

  -- before the first part
  pub starts : (g : S) (d : ℕ) (input : List ℕ) → agrees g g (item_expected []) → length input < 2 ^ 63 → (trusts ≡ true → BeginsTaken d input) → IsExpected S agrees trusts g d input (counted Item 0 0 ∷ []) g input
  starts g d input fresh small known = record { ls = []; levels = tt; cells = refl; given = fresh; bytes = refl; small = small; known = known }

  -- the whole
  pub prefix-given : (start g : S) (b : Bounds) (input rest : List ℕ) (size : ℕ) → (h : IsBuilt S agrees trusts start b.depth (take b.bytes input) g rest) → KeepsToKinds b plain (spell h.item) → size ≡ length (take b.bytes input) - length rest
      → IsGivenPrefix (agrees start g) b input size
  prefix-given start g b input rest size h keeps e = record {
    read = record {
      item = h.item;
      verdict = (accepts_exactly b plain input h.item).1 (
        rest,
        (h.taken.spelled, h.taken.within, sym h.bytes),
        whole_beside b plain h.item (record { spelled = h.taken.spelled; within = h.taken.within; bytes_are = refl }) keeps (h.taken.clean 0),
      );
      size = omega (arith, e, ap length h.bytes, length-append (spell h.item) rest);
    };
    whole = h.given;
  }

  module _ (start : S) (d : ℕ) (input : List ℕ) where
    -- there is one level less than cells
    pub height-is : (cs : List Cell) (g : S) (rest : List ℕ) (s : IsExpected S agrees trusts start d input cs g rest) → length cs ≡ suc (length s.ls)
    height-is cs g rest s = ap length s.cells ∙ cells-count (length input) s.ls

    module _ (cs : List Cell) (g : S) (rest : List ℕ) (s : IsExpected S agrees trusts start d input cs g rest) where
      -- an item is taken, of which this is known
      taken-so : (P : List Level → Spelling → Type 0) (item : Spelling) (following : List ℕ) → IsTaken (d - length s.ls) item → rest ≡ spell item ++ following → P s.ls item → (length following < length rest) × IsFull S agrees trusts P d input cs following
      taken-so P item following i e given = (
        omega (arith, ap length e, length-append (spell item) following, length_spell item),
        record {
          ls = s.ls;
          item = item;
          levels = s.levels;
          spelled = i.spelled;
          within = i.within;
          cells = s.cells;
          given = given;
          bytes = s.bytes ∙ ap (λ (x : List ℕ). bytes_before s.ls ++ x) e ∙ sym (append_assoc (bytes_before s.ls) (spell item) following);
          small = s.small;
          known = s.known;
        },
      )

      pub completes : (item : Spelling) (following : List ℕ) → IsTaken (d - length s.ls) item → rest ≡ spell item ++ following → Completes d s.ls item
      completes item following i e =
          record {
            levels = s.levels;
            taken = i;
            short = omega (arith, s.small, ap length s.bytes, ap length e, length-append (bytes_before s.ls) rest, length-append (spell item) following, length-append (bytes_before s.ls) (spell item));
          }

      -- one that the sink may be given in several parts
      pub scalar-settles : (following : List ℕ) (v : Value) (new : S) (used : ℕ) → used + length following ≡ length rest → (i : IsScalar rest following v) → (Completes d s.ls i.item → agrees start new (settle s.ls i.item))
          → (0 < used) × (used ≤ length rest) × HasEnded S agrees trusts start d input cs new (rules.following used rest)
      scalar-settles following v new used u i settles =
          let taken = i.taken (d - length s.ls) in
          as-used (HasEnded S agrees trusts start d input cs new) rest (spell i.item) following used i.is u (taken-so _ i.item following taken i.is (taken.clean, settles (completes i.item following taken i.is)))

      pub scalar-ends : (following : List ℕ) (v : Value) (new : S) (used : ℕ) → used + length following ≡ length rest → (k : Bool) → k ≡ key_expected s.ls → IsScalar rest following v → Gives S agrees k v g new
          → (0 < used) × (used ≤ length rest) × HasEnded S agrees trusts start d input cs new (rules.following used rest)
      scalar-ends following v new used u k reported i gives = scalar-settles following v new used u i (λ c. gives start d s.ls i.item (s.given, reported) c i.value_is)

      -- a container opens
      pub opened : (m : Major) (n : ℕ) (c : Cell) (following : List ℕ) (new : S) (t : Bool) → t ≡ key_expected s.ls → length s.ls < d → IsOpener m n c rest following → Opens S agrees t m n g new
          → (0 < length rest - length following) × (length rest - length following ≤ length rest) × IsExpected S agrees trusts start d input (c ∷ cs) new (rules.following (length rest - length following) rest)
      opened m n c following new t reported space k opens =
          let size = length-append (level_bytes k.level) following in
          let place : length following ≡ bytes_after_head (length input) s.ls k.level =
          omega (arith, ap length s.bytes, ap length k.is, size, length-append (bytes_before s.ls) rest, length-append (bytes_before s.ls) (opener k.level), ap length (opener-whole m n k.level k.opened)) in
          as-used (IsExpected S agrees trusts start d input (c ∷ cs) new) rest (level_bytes k.level) following (length rest - length following) k.is (omega (arith, ap length k.is, size)) (
            omega (arith, k.some, ap length k.is, size),
            record {
              ls = k.level ∷ s.ls;
              levels = (space, k.fresh (d - suc (length s.ls)), s.levels);
              cells = ap₂ (λ (x : Cell) (xs : List Cell). x ∷ xs) (k.cell ∙ ap (λ (b : ℕ). cell_of b k.level) place) s.cells;
              given = opens start s.ls k.level (s.given, reported) k.opened;
              bytes = s.bytes ∙ ap (λ (x : List ℕ). bytes_before s.ls ++ x) k.is ∙ sym (append_assoc (bytes_before s.ls) (level_bytes k.level) following);
              small = s.small;
              known = s.known;
            },
          )

      -- one that is empty
      pub empty-ends : (m : Major) (expected : Expected) (n : ℕ) (following : List ℕ) (new : S) (t : Bool) → t ≡ key_expected s.ls → length s.ls < d → Counts m expected → n ≡ 0 → IsHead m n rest following → Opens S agrees t m 0 g new
          → (length following < length rest) × IsFull S agrees trusts (λ ls s. AgreesAsFull S (Reported S agrees (awaits expected)) d start new ls s × IsKeyless s) d input cs following
      empty-ends majors.Array Item n following new t reported space k none h opens =
          let w = h.width in
          let holds : Holds w 0 = subst (Holds w) none h.holds in
          let whole : spell (array w no_spellings) ≡ head majors.Array w n = array_bytes-whole w 0 no_spellings (closes w (is-definite w 0 holds)) refl ∙ append-nil (head majors.Array w 0) ∙ ap (head majors.Array w) (sym none) in
          taken-so _ (array w no_spellings) following
          (record { spelled = (open_or w 0 holds, tt); within = omega (arith, space); clean = λ at c x. elim x [ inl y ↦ no-count at majors.Array w 0 c y | inr y ↦ y ] })
          (h.is ∙ ap (λ (x : List ℕ). x ++ following) (sym whole)) (inr (some_member no_spellings, refl, (space, tt, s.levels), (opens start s.ls (some_member no_spellings) (s.given, reported) (inr refl), refl)), tt)
      empty-ends majors.Map Key n following new t reported space k none h opens =
          let w = h.width in
          let holds : Holds w 0 = subst (Holds w) none h.holds in
          let whole : spell (a_map w no_entries) ≡ head majors.Map w n = map_bytes-whole w 0 no_entries (closes w (is-definite w 0 holds)) refl ∙ append-nil (head majors.Map w 0) ∙ ap (head majors.Map w) (sym none) in
          taken-so _ (a_map w no_entries) following
          (record { spelled = (open_or w 0 holds, tt); within = omega (arith, space); clean = λ at c x. elim x [ inl y ↦ no-count at majors.Map w 0 c y | inr y ↦ y ] })
          (h.is ∙ ap (λ (x : List ℕ). x ++ following) (sym whole)) (inr (some_key no_entries, refl, (space, tt, s.levels), (opens start s.ls (some_key no_entries) (s.given, reported) (inr refl), refl)), tt)
      empty-ends _ _ n following new t reported space k none h opens = absurd k
