-- Only the input is read.
use Rattle.std.proofs.Common.{ℕ, ◌+◌, ◌≤◌, arith, ◌≡◌, List, length, take, ap, ◌∙◌, length-take, length-append}
use Rattle.cbor_head.specs.Prelude.{Rules, Bounds, Spelling, spell, accepted, IsVerdict}
use Rattle.theory_verdicts.specs.Readers.{IsRead}

-- no more than the input is read
pub read_within : (limits : Bounds) (r : Rules) (input : List ℕ) (size : ℕ) → IsRead limits r input size → size ≤ length input
read_within limits r input size h =
    let longest = h.verdict.longest in
    let splits : length (take limits.bytes input) ≡ length h.verdict.p + length longest.rest = ap length longest.splits ∙ length-append h.verdict.p longest.rest in
    let all : length (spell h.item) ≡ length h.verdict.p = ap length (all_read limits r input h.item h.verdict) in
    omega (arith, h.size, splits, all, length-take limits.bytes input)
  where
    all_read : (limits : Bounds) (r : Rules) (input : List ℕ) (s : Spelling) (v : IsVerdict limits r input (accepted s)) → spell s ≡ v.p
    all_read limits r input s v = ap spell v.decides.0 ∙ v.decides.1
