use Rattle.std.proofs.Common.{◌≡◌, ◌⊎◌, ◌*◌, ◌<◌, ◌≤◌, ℕ, refl, ap, arith, inl, inr, drop, length-drop}
use Rattle.std.proofs.lemmas.List.{drop-drop}
use Rattle.cbor_cursor.proofs.skip.step_after.Goals as goal
use Rattle.cbor_cursor.{specs.WellFormed.payload_of, specs.WellFormed.members_of, proofs.ItemsAt.by_parts, proofs.ItemsAt.no_space}

-- ---- what is inside, by the major type

no_payload : (kind n : ℕ) → (kind < 2) ⊎ (3 < kind) → payload_of kind n ≡ 0
no_payload kind n h = grind arith

string_payload : (kind n : ℕ) → 2 ≤ kind → kind < 4 → payload_of kind n ≡ n
string_payload kind n l m = grind arith

no_members : (kind n : ℕ) → (kind < 4) ⊎ (6 < kind) → members_of kind n ≡ 0
no_members kind n h = grind arith

-- ---- the goals

pub returns-then-head-lt2-clause-item : goal.returns-then-head-lt2-clause-item
returns-then-head-lt2-clause-item c = λ start h rest.
    by_parts start rest _ c.args.head.argument (drop c.args.head.content c.args.bytes.now) 0 0 _ (no_payload c.args.head.kind c.args.head.argument (inl c.if-head-lt2.true)) (no_members c.args.head.kind c.args.head.argument (inl (omega (arith, c.if-head-lt2.true)))) (omega arith) refl h

pub returns-then-number-space-clause-item : goal.returns-then-number-space-clause-item
returns-then-number-space-clause-item c = λ start h.
    no_space start _ c.args.head.argument (drop c.args.head.content c.args.bytes.now) h (omega (arith, string_payload c.args.head.kind c.args.head.argument (omega (arith, c.if-head-lt2.false)) c.if-head-lt4.true, length-drop c.args.head.content c.args.bytes.now, c.if-number-space.true))

pub returns-then-head-lt4-clause-item : goal.returns-then-head-lt4-clause-item
returns-then-head-lt4-clause-item c = λ start h rest.
    by_parts start rest _ c.args.head.argument (drop c.args.head.content c.args.bytes.now) c.args.head.argument 0 _ (string_payload _ _ (omega (arith, c.if-head-lt2.false)) c.if-head-lt4.true) (no_members c.args.head.kind c.args.head.argument (inl c.if-head-lt4.true))
    (omega (arith, c.if-number-space.false, length-drop c.args.head.content c.args.bytes.now)) (drop-drop c.args.head.argument c.args.head.content c.args.bytes.now) h

pub returns-then-number-space-2-clause-item : goal.returns-then-number-space-2-clause-item
returns-then-number-space-2-clause-item c = λ start h.
    no_space start _ c.args.head.argument (drop c.args.head.content c.args.bytes.now) h (omega (arith, ap (λ (k : ℕ). members_of k c.args.head.argument) c.if-head-eq4.true, length-drop c.args.head.content c.args.bytes.now, c.if-number-space-2.true))

pub returns-then-head-eq4-clause-item : goal.returns-then-head-eq4-clause-item
returns-then-head-eq4-clause-item c = λ start h rest.
    by_parts start rest _ c.args.head.argument (drop c.args.head.content c.args.bytes.now) 0 c.args.head.argument _ (ap (λ (k : ℕ). payload_of k c.args.head.argument) c.if-head-eq4.true) (ap (λ (k : ℕ). members_of k c.args.head.argument) c.if-head-eq4.true) (omega arith) refl h

pub returns-then-number-space-3-clause-item : goal.returns-then-number-space-3-clause-item
returns-then-number-space-3-clause-item c = λ start h.
    no_space start _ c.args.head.argument (drop c.args.head.content c.args.bytes.now) h (omega (arith, ap (λ (k : ℕ). members_of k c.args.head.argument) c.if-head-eq5.true, length-drop c.args.head.content c.args.bytes.now, c.if-number-space-3.true))

pub returns-then-head-eq5-clause-item : goal.returns-then-head-eq5-clause-item
returns-then-head-eq5-clause-item c = λ start h rest.
    by_parts start rest _ c.args.head.argument (drop c.args.head.content c.args.bytes.now) 0 (2 * c.args.head.argument) _ (ap (λ (k : ℕ). payload_of k c.args.head.argument) c.if-head-eq5.true) (ap (λ (k : ℕ). members_of k c.args.head.argument) c.if-head-eq5.true) (omega arith) refl h

pub returns-then-head-eq6-clause-item : goal.returns-then-head-eq6-clause-item
returns-then-head-eq6-clause-item c = λ start h rest.
    by_parts start rest _ c.args.head.argument (drop c.args.head.content c.args.bytes.now) 0 1 _ (ap (λ (k : ℕ). payload_of k c.args.head.argument) c.if-head-eq6.true) (ap (λ (k : ℕ). members_of k c.args.head.argument) c.if-head-eq6.true) (omega arith) refl h

pub returns-clause-item : goal.returns-clause-item
returns-clause-item c = λ start h rest.
    let high : 6 < c.args.head.kind = omega (arith, c.if-head-lt4.false, c.if-head-eq4.false, c.if-head-eq5.false, c.if-head-eq6.false) in
    by_parts start rest _ c.args.head.argument (drop c.args.head.content c.args.bytes.now) 0 0 _ (no_payload c.args.head.kind c.args.head.argument (inr (omega (arith, high)))) (no_members c.args.head.kind c.args.head.argument (inr high)) (omega arith) refl h
