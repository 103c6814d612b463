use Rattle.std.proofs.Common.{ℕ, ◌+◌, ◌*◌, ◌<◌, ◌≤◌, arith}
use Rattle.std.proofs.lemmas.Nat.{mul-le}
use Rattle.cbor_item.proofs.dropping.drop_deep.Goals as goal
use Rattle.cbor_item.specs.declared.item.Item.{the_lemmas}

fewer : (a b m n : ℕ) → a + b < m + n → (a + b) * (a + b) + a < (m + n) * (m + n) + m
fewer a b m n h =
    let squares : (a + b + 1) * (a + b + 1) ≤ (m + n) * (m + n) = mul-le (a + b + 1) (a + b + 1) (m + n) (m + n) (omega arith) (omega arith) in
    grind arith

pub items-smaller : goal.items-smaller
items-smaller c = grind (arith, fewer, the_lemmas)
