-- The integers at two keys of each record, for records one after another (RFC 8742).
use Rattle.std.specs.Prelude.{ℕ, ℤ, pos, negsuc, ◌≤ℤ◌, ◌-◌, ◌^◌, ◌<◌, ◌≡◌, ◌≢◌, ◌⊎◌, List, [], ◌∷◌, length, drop}
use Rattle.cbor_head.specs.Prelude.{plain, Bounds, Value}
use Rattle.cbor_head.specs.Value.{text}
use Rattle.theory_values.specs.Lookup.{HasValueAt, integer}
use Rattle.theory_verdicts.specs.Readers.{IsReadAs, IsUnread}
use Rattle.example.specs.declared.fields.FieldsError.TheVariants as faults
use Rattle.example.specs.declared.fields.FieldsError.{FieldsError}

-- the record is a map whose value at this text is this integer
abbrev pub HasInteger : List ℕ → Value → ℤ → Type 0
HasInteger key v z = HasValueAt v (text key) (integer z)

-- it has no value there, or a value that is no integer of an i64
abbrev pub HasNoInteger : List ℕ → Value → Type 0
HasNoInteger key v =
    ((w : Value) → HasValueAt v (text key) w → ⊥)
    ⊎ ((w : Value) × HasValueAt v (text key) w × ((z : ℤ) → negsuc (2 ^ 63 - 1) ≤ℤ z → z ≤ℤ pos (2 ^ 63 - 1) → w ≢ integer z))

-- it has these integers at both keys
abbrev pub HasIntegers : List ℕ → List ℕ → Value → (ℤ × ℤ) → Type 0
HasIntegers first second v row = HasInteger first v row.0 × HasInteger second v row.1

-- the input starts with records, with a row for each in their order, and rest follows them
abbrev pub AreRows : Bounds → List ℕ → List ℕ → List ℕ → List (ℤ × ℤ) → List ℕ → Type 0
AreRows limits first second input [] rest = input ≡ rest
AreRows limits first second input (row ∷ rows) rest =
    (v : Value) × (count : ℕ) × IsReadAs limits plain input v count × HasIntegers first second v row × AreRows limits first second (drop count input) rows rest

-- why the first record of the input gives no row
abbrev pub HasNoRow : Bounds → List ℕ → List ℕ → List ℕ → FieldsError → Type 0
HasNoRow limits first second input (faults.Refused f) = IsUnread limits plain input f
HasNoRow limits first second input faults.NoInteger =
    (v : Value) × (count : ℕ) × IsReadAs limits plain input v count × (HasNoInteger first v ⊎ HasNoInteger second v)
HasNoRow limits first second input faults.Memory = Unit {0}

-- after records with both integers comes one that gives no row
pub record StopsAt (limits : Bounds) (first second input : List ℕ) (fault : FieldsError) : Type 0 where
  pub rows : List (ℤ × ℤ)
  pub rest : List ℕ
  pub before : AreRows limits first second input rows rest
  pub begun : 0 < length rest
  pub why : HasNoRow limits first second rest fault
