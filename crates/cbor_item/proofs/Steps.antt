-- A slice of a list, one step of a loop at a time.
use Rattle.std.proofs.Common.{◌≡◌, ℕ, suc, ◌+◌, ◌-◌, ◌<◌, ◌≤◌, List, ◌∷◌, length, take, drop, get_or, slice_range, ap, ◌∙◌, arith}
use Rattle.cbor_builder.proofs.ByIndex.{at_read}

pub range_step : {X : Type 0} (xs : List X) (i to : ℕ) (x : X) → i < to → to ≤ length xs → x ≡ get_or xs i x → slice_range xs i to ≡ x ∷ slice_range xs (i + 1) to
range_step xs i to x l h is =
    let more : to - i ≡ suc (to - (i + 1)) = omega arith in
    ap (λ n. take n (drop i xs)) more ∙ ap (take (suc (to - (i + 1)))) (at_read xs i x (omega arith) is)
