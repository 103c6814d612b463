-- An argument of a saved machine.
use Rattle.std.proofs.Common.{ℕ, ◌+◌, ◌*◌, ◌^◌, ◌<◌, ◌≤◌, lit<, mul_comm, arith}
use Rattle.std.proofs.Math.Nat.{mul-le-mul_left, pow-le-pow_right}

-- nine bytes of an argument are too many
pub no-space : (argument left : ℕ) → 8 ≤ left → (argument + 1) * 256 ^ (left + 1) ≤ 2 ^ 64 → ⊥
no-space argument left many fits =
    let nine : 9 ≤ left + 1 = omega arith in
    let one : 1 ≤ argument + 1 = omega arith in
    let some : 0 < 256 = lit< tt in
    let least : 256 ^ 9 ≤ 256 ^ (left + 1) = pow-le-pow_right some {i = 9} {j = left + 1} nine in
    let most : 256 ^ (left + 1) * 1 ≤ 256 ^ (left + 1) * (argument + 1) = mul-le-mul_left (256 ^ (left + 1)) one in
    omega (arith, least, most, fits, mul_comm (argument + 1) (256 ^ (left + 1)))
