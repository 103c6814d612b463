use Rattle.std.proofs.Common.{◌+◌, ◌-◌, ◌/◌, ◌%◌, ◌<◌, ◌≤◌, ◌≡◌, List, ℕ, length, take, drop, get_or, refl, sym, ap, arith, subst, inl, inr}
use Rattle.std.proofs.lemmas.List.{drop_more, take_rest}
use Rattle.cbor_head.specs.{Head.head, Argument.IsArgument, declared.width.Width.Width}
use Rattle.cbor_cursor.proofs.HeadsAt.{IsRead, is_read, a_head_of, none_at_end}
use Rattle.cbor_cursor.proofs.heads.definite_head.Goals as goal
use Rattle.cbor_cursor.{specs.WellFormed.BeginsWithHead, proofs.Slices.offset_of}

-- the first byte, and those after it
read_at : (bytes : List ℕ) (offset kind argument : ℕ) (content : List ℕ) → offset < length bytes → BeginsWithHead (drop offset bytes) kind argument content → IsRead (get_or bytes offset 0) (drop (offset + 1) bytes) kind argument content
read_at bytes offset kind argument content l b = is_read _ _ kind argument content (subst (λ (xs : List ℕ). BeginsWithHead xs kind argument content) (drop_more bytes offset 0 l) b)

argument_at : (bytes : List ℕ) (offset : ℕ) (w : Width) (n : ℕ) (x : List ℕ) → IsArgument (get_or bytes offset 0 % 32) (take (length bytes - (offset + 1)) (drop (offset + 1) bytes)) w n x → IsArgument (get_or bytes offset 0 % 32) (drop (offset + 1) bytes) w n x
argument_at bytes offset w n x a = subst (λ (l : List ℕ). IsArgument (get_or bytes offset 0 % 32) l w n x) (take_rest bytes (offset + 1)) a

pub returns-then-offset-bytes-clause-head : goal.returns-then-offset-bytes-clause-head
returns-then-offset-bytes-clause-head c = λ kind argument content b. none_at_end c.args.bytes.now c.args.offset kind argument content c.if-offset-bytes.true b

pub returns-in_err-argument-clause-head : goal.returns-in_err-argument-clause-head
returns-in_err-argument-clause-head c = rw c.from_residual.ensures (λ kind argument content b.
    let bytes = c.args.bytes.now in
    let r = read_at bytes c.args.offset kind argument content (omega (arith, c.if-offset-bytes.false)) b in
    omega (arith, r.space (c.in_err-argument.ensures.long refl), ap length (take_rest bytes (c.args.offset + 1)), c.in_err-argument.ensures.cut refl r.low))

pub returns-then-argument-lt-FIRST_SIMPLE_IN_TWO_BYTES-clause-head : goal.returns-then-argument-lt-FIRST_SIMPLE_IN_TWO_BYTES-clause-head
returns-then-argument-lt-FIRST_SIMPLE_IN_TWO_BYTES-clause-head c = λ kind argument content b.
    let bytes = c.args.bytes.now in
    let a = c.in_ok-argument.argument in
    let r = read_at bytes c.args.offset kind argument content (omega (arith, c.if-offset-bytes.false)) b in
    let same = r.only a.width a.number a.rest.now (argument_at bytes c.args.offset a.width a.number a.rest.now c.in_ok-argument.ensures.spelled) in
    omega (arith, r.simple c.if-first.true, same.0, c.if-argument-lt-FIRST_SIMPLE_IN_TWO_BYTES.true)

pub returns-clause-head : goal.returns-clause-head
returns-clause-head c =
    let bytes = c.args.bytes.now in
    let p = c.args.offset in
    let first = get_or bytes p 0 in
    let a = c.in_ok-argument.argument in
    let simple : first ≡ 248 → 32 ≤ a.number = λ e. elim c.else-first.either [ inl both ↦ both.1 | inr other ↦ absurd (other e) ] in
    let b = a_head_of first (drop (p + 1) bytes) a.width a.number a.rest.now (omega (arith, c.type_inv.bytes p)) (argument_at bytes p a.width a.number a.rest.now c.in_ok-argument.ensures.spelled) simple in
    let here = subst (λ (xs : List ℕ). BeginsWithHead xs (first / 32) a.number a.rest.now) (sym (drop_more bytes p 0 (omega (arith, c.if-offset-bytes.false)))) b in
    subst (BeginsWithHead (drop p bytes) (first / 32) a.number) (sym (offset_of bytes p (head here.major here.width a.number) a.rest.now a.rest.now here.bytes_are refl)) here
