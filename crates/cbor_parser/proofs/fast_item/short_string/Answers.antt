use Rattle.std.proofs.Common.{◌≡◌, ◌+◌, ◌%◌, ◌<◌, ◌≤◌, ◌∷◌, ℕ, suc, List, length, get_or, sym, ap, subst, arith}
use Rattle.cbor_parser.proofs.fast_item.short_string.Goals as goal
use Rattle.cbor_parser.{specs.inner.Items.IsShortString, proofs.ShortLeaves.one-byte-string, proofs.ShortLeaves.two-byte-string}
use Rattle.cbor_parser.proofs.fast_item.short_string.Goals.{then-low-lt24, else-low-lt24+then-low-eq24+then-rest-gt1+then-rest-ge24}

pub returns : goal.returns
returns c =
    let first = c.args.first in
    let b = c.args.rest.now in
    let following = c.requires.0 in
    let is : b ≡ first ∷ following = c.requires.1 in
    let q = c.if-low-lt24.payload in
    let inside : q.1 ≤ length b = c.if-end-rest.false in
    elim c.if-low-lt24.branch [
      | then-low-lt24 w ↦
          let end : q.1 ≡ 1 + first % 32 = omega (arith, ap (λ p. p.1) w.payload-is, w.from.ensures) in
          subst (λ (k : ℕ). IsShortString first b k q.1) (sym (ap (λ p. p.0) w.payload-is)) (one-byte-string first following b q.1 is w.if-low-lt24.true end inside)
      | else-low-lt24+then-low-eq24+then-rest-gt1+then-rest-ge24 w ↦
          let n = get_or b 1 0 in
          let end : q.1 ≡ 2 + n = omega (arith, ap (λ p. p.1) w.payload-is, w.from-then-rest-ge24.ensures) in
          let some : 1 ≤ length following = omega (arith, w.if-rest-gt1.true, ap length is) in
          let all : (i : ℕ) → get_or (first ∷ following) i 0 < 256 = subst (λ (x : List ℕ). (i : ℕ) → get_or x i 0 < 256) is (λ i. omega (arith, c.type_inv.rest i)) in
          subst (λ (k : ℕ). IsShortString first b k q.1) (sym (ap (λ p. p.0) w.payload-is))
          (two-byte-string first n following b q.1 is w.if-low-eq24.true some (λ i. all (suc i)) (ap (λ (x : List ℕ). get_or x 1 0) is) w.if-rest-ge24.true end inside)
    ]
