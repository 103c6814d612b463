use Rattle.std.proofs.Common.{◌≡◌, ◌+◌, ◌*◌, ◌/◌, ◌%◌, ◌<◌, ◌≤◌, ℕ, Bool, true, false, List, length, get_or, ap, inl, inr, arith, refl}
use Rattle.cbor_head.specs.{Prelude.major_number, declared.major.Major.TheVariants.Tag, declared.major.Major.TheVariants.Simple}
use Rattle.theory_verdicts.specs.Reading.{string_major}
use Rattle.cbor_parser.proofs.GivenItems.{head-here, simple-here, tag-opens}
use Rattle.cbor_parser.proofs.parser.Parser.take_part.Goals as goal
use Rattle.cbor_parser.specs.inner.Parts.{IsHead, IsOpener, IsWholePayload}
use Rattle.cbor_parser.proofs.Beginnings.{cut-left, string-left, simple-left, float-left, container-left}
use Rattle.cbor_parser.proofs.parser.Parser.take_part.Goals.{in-3-1, in_default-kind+else-is_other_key-2+in-3-1, After-counted-opened, Else-number-lt-FIRST_SIMPLE_IN_TWO_BYTES, In-Some-read_argument, then-low-gt24-via-then-low-gt24, then-low-gt24-via-else-low-gt24+then-number-lt-FIRST_SIMPLE_IN_TWO_BYTES}
use Rattle.cbor_parser.specs.{Stack.around, inner.Begins.NothingBegins, inner.OpenContainer.Cell}

tag_opener : (g : _) (c : After-counted-opened g) → IsOpener Tag c.in-Some-read_argument.head.number c.counted-opened.result c.args.rest.now c.in-Some-read_argument.head.rest.now
tag_opener g c =
    let h = c.in-Some-read_argument.head in
    tag-opens h.number c.counted-opened.result c.args.rest.now h.rest.now c.counted-opened.ensures
    (head-here Tag c.in-Some.first.now c.in-Some.following.now h.rest.now h.width h.number c.in-Some-read_argument.ensures.spelled (omega (arith, c.in-6.is)) (λ e. cc e) c.args.rest.now c.in-Some.ensures.cases.0)

simple_head : (g : _) (c : Else-number-lt-FIRST_SIMPLE_IN_TWO_BYTES g) → IsHead Simple c.in-Some-read_argument.head.number c.args.rest.now c.in-Some-read_argument.head.rest.now
simple_head g c =
    let h = c.in-Some-read_argument.head in
    let first = c.in-Some.first.now in
    let e = c.in-Some-read_argument.ensures in
    let high : 32 * 7 + first % 32 ≡ first = omega (arith, c.in_default-2, c.type_inv.rest 0, ap (λ (x : List ℕ). get_or x 0 0) c.in-Some.ensures.cases.0) in
    let wide : first % 32 ≡ 24 → (32 ≤ h.number) × (h.number < 256) = λ f. (elim c.if-number-lt-FIRST_SIMPLE_IN_TWO_BYTES.either [ inl x ↦ x.1 | inr x ↦ absurd (x f) ], e.byte f) in
    let proper = simple-here (first % 32) c.in-Some.following.now h.width h.number h.rest.now e.spelled c.if-low-gt24.false e.direct wide in
    head-here Simple first c.in-Some.following.now h.rest.now h.width h.number e.spelled high (λ f. proper) c.args.rest.now c.in-Some.ensures.cases.0

pub open-requires : goal.open-requires
open-requires g c = λ n. ((refl, tt), (tt, (c.requires.cells, (tag_opener g (goal.at.open-requires g c).After-counted-opened, c.requires.expected))))

pub give_leaf-requires : goal.give_leaf-requires
give_leaf-requires g c = λ n. ((refl, tt), (tt, (simple_head g (goal.at.give_leaf-requires g c).Else-number-lt-FIRST_SIMPLE_IN_TWO_BYTES, (c.args.depth, around Cell c.args.stack.now c.args.cells.now, c.requires.expected))))

-- ---- what is left

pub returns-then-low-gt27-clause-untaken : goal.returns-then-low-gt27-clause-untaken
returns-then-low-gt27-clause-untaken g c = λ e. c.take_indefinite.ensures.untaken e c.if-low-gt27.true c.args.keys

pub returns-in_default-read_argument-clause-untaken : goal.returns-in_default-read_argument-clause-untaken
returns-in_default-read_argument-clause-untaken g c = λ e.
    let none = c.in_default-read_argument.ensures in
    let low : c.in-Some.first.now % 32 < 28 = omega (arith, c.if-low-gt27.false) in
    inr (λ here allowed b. cut-left c.in-Some.first.now c.in-Some.following.now c.args.rest.now c.in-Some.ensures.cases.0 (none.long refl) low (none.cut refl low) here b)

-- a string
module _ (g : _) (c : In-Some-read_argument g) (t : Bool) (high : c.in-Some.first.now / 32 ≡ major_number (string_major t)) where
  left-string : (IsWholePayload t c.in-Some-read_argument.head.number c.in-Some-read_argument.head.rest.now → ⊥) → NothingBegins c.args.rest.now
  left-string none =
      string-left c.in-Some.first.now c.in-Some.following.now c.args.rest.now c.in-Some.ensures.cases.0 c.in-Some-read_argument.head.width c.in-Some-read_argument.head.number c.in-Some-read_argument.head.rest.now c.in-Some-read_argument.ensures.spelled (omega (arith, c.if-low-gt27.false)) t high none

pub returns-in-3-clause-untaken : goal.returns-in-3-clause-untaken
returns-in-3-clause-untaken g c = λ e. inr (λ here allowed. left-string g (goal.at.returns-in-3-clause-untaken g c).In-Some-read_argument true (elim c.in-3-1.branch [ in-3-1 w ↦ omega arith | in_default-kind+else-is_other_key-2+in-3-1 w ↦ omega arith ]) (c.take_string-in-3.ensures.untaken e) here)

pub returns-in-2-clause-untaken : goal.returns-in-2-clause-untaken
returns-in-2-clause-untaken g c = λ e. inr (λ here allowed. left-string g (goal.at.returns-in-2-clause-untaken g c).In-Some-read_argument false c.in-2.is (c.take_string.ensures.untaken e) here)

-- a container
pub returns-in-4-clause-untaken : goal.returns-in-4-clause-untaken
returns-in-4-clause-untaken g c = λ e.
    let k = c.take_counted.new in
    container-left c.in-Some.first.now c.in-Some.following.now c.args.rest.now c.in-Some.ensures.cases.0 c.args.keys c.args.depth k.stack.top k.stack.height (length k.cells) (omega (arith, c.in-4.is)) (omega (arith, c.in-4.is)) (c.take_counted.ensures.untaken e)

pub returns-in-5-clause-untaken : goal.returns-in-5-clause-untaken
returns-in-5-clause-untaken g c = λ e.
    let k = c.take_counted-in-5.new in
    container-left c.in-Some.first.now c.in-Some.following.now c.args.rest.now c.in-Some.ensures.cases.0 c.args.keys c.args.depth k.stack.top k.stack.height (length k.cells) (omega (arith, c.in-5.is)) (omega (arith, c.in-5.is)) (c.take_counted-in-5.ensures.untaken e)

pub returns-in-6-clause-untaken : goal.returns-in-6-clause-untaken
returns-in-6-clause-untaken g c = λ e.
    let k = c.open.new in
    container-left c.in-Some.first.now c.in-Some.following.now c.args.rest.now c.in-Some.ensures.cases.0 c.args.keys c.args.depth k.stack.top k.stack.height (length k.cells) (omega (arith, c.in-6.is)) (omega (arith, c.in-6.is)) (c.open.ensures.untaken e)

pub returns-then-low-gt24-clause-untaken : goal.returns-then-low-gt24-clause-untaken
returns-then-low-gt24-clause-untaken g c = λ e. inr (λ here allowed b.
    let first = c.in-Some.first.now in
    let low : first % 32 < 28 = omega (arith, c.if-low-gt27.false) in
    let high : 224 ≤ first = omega (arith, c.in_default-2, c.type_inv.rest 0, ap (λ (x : List ℕ). get_or x 0 0) c.in-Some.ensures.cases.0) in
    elim c.then-low-gt24.branch [
      | then-low-gt24-via-then-low-gt24 w ↦ float-left first c.in-Some.following.now c.args.rest.now c.in-Some.ensures.cases.0 high w.if-low-gt24.true low here b
      | then-low-gt24-via-else-low-gt24+then-number-lt-FIRST_SIMPLE_IN_TWO_BYTES w ↦ let h = w.if-number-lt-FIRST_SIMPLE_IN_TWO_BYTES.true in simple-left first c.in-Some.following.now c.args.rest.now c.in-Some.ensures.cases.0 c.in-Some-read_argument.head.width c.in-Some-read_argument.head.number c.in-Some-read_argument.head.rest.now c.in-Some-read_argument.ensures.spelled low high h.0 h.1 here b
    ])
