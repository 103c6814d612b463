use Rattle.std.proofs.Common.{◌≡◌, ◌∙◌, ◌<◌, ◌≤◌, ◌+◌, ◌-◌, ◌%◌, ℕ, suc, List, length, get_or, take, drop, w64, sym, ap, subst, arith, take_all}
use Rattle.std.specs.Int.{from_be_bytes}
use Rattle.cbor_parser.proofs.ShortHeads.{IsLeast, IsSize, shortest-head}
use Rattle.cbor_parser.proofs.fast_item.head_size.Goals as goal
use Rattle.cbor_parser.{specs.inner.Leaves.IsShortestHead, proofs.ShortLeaves.one-byte-head}

pub returns-then-low-lt24 : goal.returns-then-low-lt24
returns-then-low-lt24 c = λ some. (c.requires.0, c.requires.1, one-byte-head (c.args.first % 32) c.requires.0 c.if-low-lt24.true)

pub returns-else-from_be_bytes-least : goal.returns-else-from_be_bytes-least
returns-else-from_be_bytes-least c = λ some.
    let low = c.args.first % 32 in
    let following = c.requires.0 in
    let is = c.requires.1 in
    let all : (i : ℕ) → get_or following i 0 < 256 = λ i. subst (λ (x : List ℕ). get_or x (suc i) 0 < 256) is (omega (arith, c.type_inv.rest (suc i))) in
    let tail : take (length c.args.rest.now - 1) (drop 1 c.args.rest.now) ≡ following = ap (λ (x : List ℕ). take (length x - 1) (drop 1 x)) is ∙ take_all (suc (length following) - 1) following (omega arith) in
    let found = c.in-Some.ensures.cases in
    let least : IsLeast low c.least.result = record { one = c.least.ensures.one; two = c.least.ensures.two; four = c.least.ensures.four; eight = c.least.ensures.eight } in
    let size : IsSize low c.argument_bytes.result =
    record {
      one = λ e. c.argument_bytes.ensures.one (omega (arith, e));
      two = λ e. c.argument_bytes.ensures.two (omega (arith, e));
      four = λ e. c.argument_bytes.ensures.four (omega (arith, e));
      eight = λ e. c.argument_bytes.ensures.eight (omega (arith, e));
    } in
    let word : c.least.result ≤ from_be_bytes w64 c.in-Some.chunk.now = omega (arith, c.if-from_be_bytes-least.false, c.from_be_bytes.ensures) in (
      following,
      is,
      subst (λ k. IsShortestHead low following (1 + k)) (sym c.from.ensures)
          (shortest-head low c.least.result c.argument_bytes.result following c.in-Some.chunk.now (found.same ∙ ap (take 8) tail) (subst (λ (x : List ℕ). 8 ≤ length x) tail found.enough) all least size c.if-low-lt24.false c.if-low-gt27.false
          word),
    )
