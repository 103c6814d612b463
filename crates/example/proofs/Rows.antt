-- Rows of records, and one more.
use Rattle.std.proofs.Common.{ℕ, ℤ, pos, negsuc, ◌≤ℤ◌, ◌-◌, ◌^◌, ◌≤◌, ◌≡◌, ◌≢◌, inr, Option, Some, None, List, [], ◌∷◌, ◌++◌, length, take, drop, sym, ap, ◌∙◌, subst, arith, length-drop, length-append, length-take}
use Rattle.std.{specs.Option.MatchOption, proofs.Math.Seq.take-length}
use Rattle.cbor_head.specs.Prelude.{plain, Bounds, spell, Value}
use Rattle.cbor_head.specs.Value.{text}
use Rattle.theory_values.{proofs.Accepted.accepts_exactly, proofs.ReadLaws.length_spell, specs.Lookup.HasValueAt, specs.Lookup.integer}
use Rattle.theory_verdicts.specs.Readers.{IsReadAs}
use Rattle.example.specs.Fields.{HasInteger, HasNoInteger, HasIntegers, AreRows}

-- what is read at a key
pub integer_found : (key : List ℕ) (v w : Value) (found : Option ℤ) → HasValueAt v (text key) w
    → MatchOption found ((z : ℤ) → negsuc (2 ^ 63 - 1) ≤ℤ z → z ≤ℤ pos (2 ^ 63 - 1) → w ≢ integer z) (λ z. w ≡ integer z)
    → MatchOption found (HasNoInteger key v) (HasInteger key v)
integer_found key v w None at none = inr (w, at, none)
integer_found key v w (Some z) at is = subst (HasValueAt v (text key)) is at

-- an item has a byte, and no more than the input
pub count_within : (limits : Bounds) (input : List ℕ) (v : Value) (count : ℕ) → IsReadAs limits plain input v count → (1 ≤ count) × (count ≤ length input)
count_within limits input v count read =
    let s = read.read.item in
    let prefix = (accepts_exactly limits plain input s).0 read.read.verdict in
    let whole = ap length prefix.1.2 in
    (omega (arith, read.read.size, length_spell s), omega (arith, read.read.size, whole, length-append (spell s) prefix.0, length-take limits.bytes input))

-- what follows the first `size` bytes, in the form of a slice's range
pub following : (size : ℕ) (rest : List ℕ) → take (length rest - size) (drop size rest) ≡ drop size rest
following size rest = ap (λ (n : ℕ). take n (drop size rest)) (sym (length-drop size rest)) ∙ take-length (drop size rest)

pub one_more : (limits : Bounds) (first second input : List ℕ) (rows : List (ℤ × ℤ)) (rest : List ℕ) → AreRows limits first second input rows rest
    → (v : Value) (count : ℕ) (row : ℤ × ℤ) → IsReadAs limits plain rest v count → HasIntegers first second v row
    → AreRows limits first second input (rows ++ row ∷ []) (drop count rest)
one_more limits first second input [] rest is v count row read has =
    (v, count, subst (λ (b : List ℕ). IsReadAs limits plain b v count) (sym is) read, has, ap (drop count) is)
one_more limits first second input (r ∷ rs) rest (w, n, before, both, following) v count row read has =
    (w, n, before, both, one_more limits first second (drop n input) rs rest following v count row read has)
