use Rattle.std.proofs.Common.{◌≡◌, ◌⊎◌, ℕ, ◌+◌, ◌-◌, ◌%◌, ◌<◌, ◌≤◌, true, List, [], ◌∷◌, length, take, get_or, refl, sym, ap, ◌∙◌, subst, inl, inr, arith, length-take-le}
use Rattle.std.proofs.lemmas.{Bool.cases_lt, Bool.false≢true, List.nil_from_length}
use Rattle.cbor_head.specs.Prelude.{AreBytes, shortest}
use Rattle.theory_values.proofs.KeyByteLists.{are_bytes}
use Rattle.theory_verdicts.proofs.RefusedHere.{cut_here, no_simple_here, long_here}
use Rattle.theory_verdicts.specs.PathKinds.{IsFitPrefix, IsOtherPrefix}
use Rattle.cbor_parser.specs.declared.item_start.ItemStart.TheVariants as starts
use Rattle.cbor_parser.proofs.AnyItem.{any_leaf, a_tag, an_array, a_map, an_empty, a_text, some_bytes}
use Rattle.cbor_parser.proofs.Faults.{texts_asked, kinds_asked, heads_asked, quiet_head, fault_same, cut_off, fault_initial_byte_error, fault_of_kind, fault_of, string_fault, indefinite_fault}
use Rattle.cbor_parser.proofs.item_start.item_start.Goals as goal
use Rattle.cbor_parser.proofs.item_start.item_start.Goals.{After-initial_byte_error, Joined-else-here-2, Joined-else-first-2, Joined-else-is_strict, Then-first-lt128}
use Rattle.cbor_parser.proofs.item_start.item_start.Goals.{else-first-via-then-first+else-here, else-first-via-else-first, else-here-2-via-then-here-2+else-begins_other_kind, else-here-2-via-else-here-2}
use Rattle.cbor_parser.proofs.item_start.item_start.Goals.{else-first-2-via-then-first-2+else-head-lt-FIRST_SIMPLE_IN_TWO_BYTES, else-first-2-via-else-first-2, else-is_strict-via-then-is_strict+else-not-is_shortest, else-is_strict-via-else-is_strict, then-first-lt64-via-then-first-lt64, then-first-lt64-via-else-first-lt64+then-first-ge224}
use Rattle.cbor_parser.specs.{Strings.IsStringHead, declared.container.Expected.TheVariants.Item, declared.container.Expected.TheVariants.Key}
use Rattle.cbor_parser.proofs.AnyRefusals.{returned}

-- a break is there only if none is allowed
no_break : (c : After-initial_byte_error) → c.in-Some.first.now ≡ 0xff → c.args.here.may_break ≡ true → ⊥
no_break c e m = elim c.else-first.branch [ else-first-via-then-first+else-here w ↦ false≢true (sym w.if-here.false ∙ m) | else-first-via-else-first w ↦ w.if-first.false e ]

-- a key is of the kinds that are allowed
fit : (c : Joined-else-here-2) → c.args.here.is_key ≡ true → IsFitPrefix (c.in-Some.first.now ∷ c.in-Some.following.now)
fit c e = elim c.else-here-2.branch [
  | else-here-2-via-then-here-2+else-begins_other_kind w ↦ subst IsFitPrefix c.in-Some.ensures.cases.0 (w.begins_other_kind.ensures.fits w.if-begins_other_kind.false)
  | else-here-2-via-else-here-2 w ↦ absurd (false≢true (sym w.if-here-2.false ∙ e))
]

-- a simple value in two bytes is one
wide : (c : Joined-else-first-2) → c.in-Some.first.now ≡ 0xf8 → 32 ≤ c.in-Some-read_argument.head.number
wide c e = elim c.else-first-2.branch [ else-first-2-via-then-first-2+else-head-lt-FIRST_SIMPLE_IN_TWO_BYTES w ↦ w.if-head-lt-FIRST_SIMPLE_IN_TWO_BYTES.false | else-first-2-via-else-first-2 w ↦ absurd (w.if-first-2.false e) ]

-- the head is the shortest, if that is required
short : (c : Joined-else-is_strict) → c.args.is_strict ≡ true → c.in-Some-read_argument.head.width ≡ shortest c.in-Some-read_argument.head.number
short c e = elim c.else-is_strict.branch [
  | else-is_strict-via-then-is_strict+else-not-is_shortest w ↦ w.is_shortest.ensures.0 w.if-not-is_shortest.false
  | else-is_strict-via-else-is_strict w ↦ absurd (false≢true (sym w.if-is_strict.false ∙ e))
]

pub returns-in_default-clause-refused : goal.returns-in_default-clause-refused
returns-in_default-clause-refused c = λ r rules.
    let a = c.args in
    let none : a.rest.now ≡ [] = nil_from_length a.rest.now c.in_default.ensures.cases in
    fault_same r a.rest.now [] a.at a.here _ c.refusal_at.result none c.refusal_at.ensures (cut_off r a.at (a.at + length a.rest.now) a.here (ap (λ (x : List ℕ). a.at + length x) none))

pub returns-in-Some-initial_byte_error-clause-refused : goal.returns-in-Some-initial_byte_error-clause-refused
returns-in-Some-initial_byte_error-clause-refused c = λ r rules.
    let a = c.args in
    let at = goal.at.returns-in-Some-initial_byte_error-clause-refused c in
    fault_same r a.rest.now (c.in-Some.first.now ∷ c.in-Some.following.now) a.at a.here _ c.refusal_at-in-Some-initial_byte_error.result c.in-Some.ensures.cases.0 c.refusal_at-in-Some-initial_byte_error.ensures
    (fault_initial_byte_error r c.in-Some.first.now c.in-Some.following.now a.at a.here (no_break at.After-initial_byte_error) c.in-Some-initial_byte_error.reason c.in-Some-initial_byte_error.ensures)

pub returns-then-begins_other_kind-clause-refused : goal.returns-then-begins_other_kind-clause-refused
returns-then-begins_other_kind-clause-refused c = λ r rules.
    let a = c.args in
    let at = goal.at.returns-then-begins_other_kind-clause-refused c in
    let split = c.in-Some.ensures.cases.0 in
    let other = subst IsOtherPrefix split (c.begins_other_kind.ensures.other c.if-begins_other_kind.true) in
    fault_same r a.rest.now (c.in-Some.first.now ∷ c.in-Some.following.now) a.at a.here _ c.refusal_at-then-begins_other_kind.result split c.refusal_at-then-begins_other_kind.ensures
    (fault_of_kind r c.in-Some.first.now c.in-Some.following.now a.at a.here (no_break at.After-initial_byte_error) (kinds_asked a.is_strict r rules) c.in_default-initial_byte_error.ensures c.if-here-2.true other)

pub returns-then-low-eq31-clause-refused : goal.returns-then-low-eq31-clause-refused
returns-then-low-eq31-clause-refused c =
    let a = c.args in
    let at = goal.at.returns-then-low-eq31-clause-refused c in
    indefinite_fault a.is_strict a.rest.now c.in-Some.first.now c.in-Some.following.now a.at a.here c.in-Some.ensures.cases.0 (no_break at.After-initial_byte_error) (fit at.Joined-else-here-2) c.in_default-initial_byte_error.ensures c.if-low-eq31.true c.indefinite_start.result c.indefinite_start.ensures

pub returns-in_default-read_argument-clause-refused : goal.returns-in_default-read_argument-clause-refused
returns-in_default-read_argument-clause-refused c = λ r rules.
    let a = c.args in
    let at = goal.at.returns-in_default-read_argument-clause-refused c in
    let split = c.in-Some.ensures.cases.0 in
    let placed = c.in_default-initial_byte_error.ensures in
    let low : c.in-Some.first.now % 32 < 28 = elim placed.low [ inl l ↦ l | inr l ↦ absurd (c.if-low-eq31.false l.0) ] in
    let none = c.in_default-read_argument.ensures in
    fault_same r a.rest.now (c.in-Some.first.now ∷ c.in-Some.following.now) a.at a.here _ c.refusal_at-in_default-read_argument.result split c.refusal_at-in_default-read_argument.ensures
    (fault_of r c.in-Some.first.now c.in-Some.following.now a.at a.here (no_break at.After-initial_byte_error) _ (fit at.Joined-else-here-2)
    (cut_here r a.here.space c.in-Some.first.now c.in-Some.following.now a.at (none.long refl) low placed.no_float placed.fits (none.cut refl low) (a.at + length a.rest.now) (ap (λ (x : List ℕ). a.at + length x) split)))

pub returns-then-head-lt-FIRST_SIMPLE_IN_TWO_BYTES-clause-refused : goal.returns-then-head-lt-FIRST_SIMPLE_IN_TWO_BYTES-clause-refused
returns-then-head-lt-FIRST_SIMPLE_IN_TWO_BYTES-clause-refused c = λ r rules.
    let a = c.args in
    let at = goal.at.returns-then-head-lt-FIRST_SIMPLE_IN_TWO_BYTES-clause-refused c in
    let h = c.in-Some-read_argument.head in
    fault_same r a.rest.now (c.in-Some.first.now ∷ c.in-Some.following.now) a.at a.here _ c.refusal_at-then-head-lt-FIRST_SIMPLE_IN_TWO_BYTES.result c.in-Some.ensures.cases.0 c.refusal_at-then-head-lt-FIRST_SIMPLE_IN_TWO_BYTES.ensures
    (fault_of r c.in-Some.first.now c.in-Some.following.now a.at a.here (no_break at.After-initial_byte_error) _ (fit at.Joined-else-here-2)
    (no_simple_here r a.here.space c.in-Some.first.now c.in-Some.following.now a.at h.width h.number h.rest.now c.in-Some-read_argument.ensures.spelled c.if-first-2.true c.if-head-lt-FIRST_SIMPLE_IN_TWO_BYTES.true))

pub returns-then-not-is_shortest-clause-refused : goal.returns-then-not-is_shortest-clause-refused
returns-then-not-is_shortest-clause-refused c = λ r rules.
    let a = c.args in
    let at = goal.at.returns-then-not-is_shortest-clause-refused c in
    let split = c.in-Some.ensures.cases.0 in
    let h = c.in-Some-read_argument.head in
    let placed = c.in_default-initial_byte_error.ensures in
    fault_same r a.rest.now (c.in-Some.first.now ∷ c.in-Some.following.now) a.at a.here _ c.refusal_at-then-not-is_shortest.result split c.refusal_at-then-not-is_shortest.ensures
    (fault_of r c.in-Some.first.now c.in-Some.following.now a.at a.here (no_break at.After-initial_byte_error) _ (fit at.Joined-else-here-2)
    (long_here r a.here.space c.in-Some.first.now c.in-Some.following.now a.at h.width h.number h.rest.now c.in-Some-read_argument.ensures.spelled (heads_asked a.is_strict r rules c.if-is_strict.true) placed.no_float (wide at.Joined-else-first-2) placed.fits
    (λ e. false≢true (sym c.if-not-is_shortest.true ∙ c.is_shortest.ensures.1 e)) (length a.rest.now - length h.rest.now) (ap (λ (x : List ℕ). length x - length h.rest.now) split) c.in-Some-read_argument.ensures.fewer))

pub returns-then-first-lt64-clause-taken : goal.returns-then-first-lt64-clause-taken
returns-then-first-lt64-clause-taken c = λ strict unbroken.
    let a = c.args in
    let at = goal.at.returns-then-first-lt64-clause-taken c in
    let split = c.in-Some.ensures.cases.0 in
    let h = c.in-Some-read_argument.head in
    let e = c.in-Some-read_argument.ensures in
    let used = length a.rest.now - length h.rest.now in
    let kind : (c.in-Some.first.now < 64) ⊎ (224 ≤ c.in-Some.first.now) =
    elim c.then-first-lt64.branch [ then-first-lt64-via-then-first-lt64 w ↦ inl w.if-first-lt64.true | then-first-lt64-via-else-first-lt64+then-first-ge224 w ↦ inr w.if-first-ge224.true ] in
    returned a.here.space a.rest.now (c.in-Some.first.now ∷ c.in-Some.following.now) (starts.Leaf used) (starts.Leaf used) split refl
    (any_leaf a.here.space c.in-Some.first.now c.in-Some.following.now h.width h.number h.rest.now e.spelled e.fewer (short at.Joined-else-is_strict strict) used (ap (λ (x : List ℕ). length x - length h.rest.now) split) c.in_default-initial_byte_error.ensures
    (wide at.Joined-else-first-2) kind)

-- the string whose head is there
string_head : (c : Then-first-lt128) → IsStringHead c.args.rest.now c.in-Some-read_argument.head
string_head c =
    let low : 64 ≤ c.in-Some.first.now = c.if-first-lt64.false in
    record {
      first = c.in-Some.first.now;
      following = c.in-Some.following.now;
      is = c.in-Some.ensures.cases.0;
      low = low;
      high = c.if-first-lt128.true;
      argument = c.in-Some-read_argument.ensures.spelled;
      fewer = c.in-Some-read_argument.ensures.fewer;
    }

pub string_refusal-requires-clause-head : goal.string_refusal-requires-clause-head
string_refusal-requires-clause-head c = string_head (goal.at.string_refusal-requires-clause-head c).Then-first-lt128

pub returns-in-Some-string_refusal-clause-refused : goal.returns-in-Some-string_refusal-clause-refused
returns-in-Some-string_refusal-clause-refused c = λ r rules.
    let a = c.args in
    let at = goal.at.returns-in-Some-string_refusal-clause-refused c in
    let h = c.in-Some-read_argument.head in
    string_fault r c.in-Some.first.now c.in-Some.following.now a.at a.here (no_break at.After-initial_byte_error) a.rest.now c.in-Some.ensures.cases.0 (fit at.Joined-else-here-2) (texts_asked a.is_strict r rules) h
    (quiet_head a.is_strict r rules h.width h.number (short at.Joined-else-is_strict)) (string_head at.Then-first-lt128) c.in-Some-string_refusal.refusal c.in-Some-string_refusal.ensures

pub returns-in-None-clause-taken : goal.returns-in-None-clause-taken
returns-in-None-clause-taken c = λ strict unbroken.
    let rest = c.args.rest.now in
    let first = c.in-Some.first.now in
    let following = c.in-Some.following.now in
    let split = c.in-Some.ensures.cases.0 in
    let h = c.in-Some-read_argument.head in
    let e = c.in-Some-read_argument.ensures in
    let shortest = short (goal.at.returns-in-None-clause-taken c).Joined-else-is_strict strict in
    let whole = c.in-None.ensures in
    let used = length rest - length h.rest.now in
    let u = ap (λ (x : List ℕ). length x - length h.rest.now) split in
    let space = c.args.here.space in
    let all : AreBytes (first ∷ following) = subst AreBytes split (are_bytes rest (λ i. omega (arith, c.type_inv.rest i))) in
    let size : used + length (take h.number h.rest.now) ≡ used + h.number = ap (λ (n : ℕ). used + n) (length-take-le h.number h.rest.now whole.inside) in
    returned space rest (first ∷ following) (starts.Leaf (used + h.number)) (starts.Leaf (used + length (take h.number h.rest.now))) split (ap starts.Leaf (sym size))
    (elim (cases_lt first 96) [
      | inl k ↦ some_bytes space first following h.width h.number h.rest.now e.spelled e.fewer shortest used u whole.inside all c.if-first-lt64.false k
      | inr k ↦
          let text : 96 ≤ get_or rest 0 0 = omega (arith, k, ap (λ (x : List ℕ). get_or x 0 0) split) in
          a_text space first following h.width h.number h.rest.now e.spelled e.fewer shortest used u whole.inside all k c.if-first-lt128.true (whole.utf8 text)
    ])

pub returns-clause-taken : goal.returns-clause-taken
returns-clause-taken c = λ strict unbroken.
    let split = c.in-Some.ensures.cases.0 in
    let rest = c.args.rest.now in
    let first = c.in-Some.first.now in
    let following = c.in-Some.following.now in
    let h = c.in-Some-read_argument.head in
    let e = c.in-Some-read_argument.ensures in
    let used = length rest - length h.rest.now in
    let u = ap (λ (x : List ℕ). length x - length h.rest.now) split in
    let low : 128 ≤ first = c.if-first-lt128.false in
    let high : first < 224 = c.if-first-ge224.false in
    let space : c.args.here.space ≡ true = c.in_default-initial_byte_error.ensures.fits low high in
    let shortest = short (goal.at.returns-clause-taken c).Joined-else-is_strict strict in
    let o = c.container_start.ensures in
    let result = c.container_start.result in
    let outcome = returned c.args.here.space rest (first ∷ following) result in
    elim (cases_lt first 192) [
      | inr k ↦ outcome (starts.Opens Item 0 used) split (o.tag k) (a_tag c.args.here.space first following h.width h.number h.rest.now e.spelled e.fewer shortest used u space k high)
      | inl k ↦ elim (cases_lt 0 h.number) [
        | inr z ↦
            let none : h.number ≡ 0 = omega (arith, z) in
            outcome (starts.Leaf used) split (o.none k none) (an_empty c.args.here.space first following h.width h.number h.rest.now e.spelled e.fewer shortest used u space low k none)
        | inl z ↦ elim (cases_lt first 160) [
          | inl j ↦ outcome (starts.Opens Item (h.number - 1) used) split (o.array j z) (an_array c.args.here.space first following h.width h.number h.rest.now e.spelled e.fewer shortest used u space low j z)
          | inr j ↦ outcome (starts.Opens Key (h.number - 1) used) split (o.map j k z) (a_map c.args.here.space first following h.width h.number h.rest.now e.spelled e.fewer shortest used u space j k z)
        ]
      ]
    ]
