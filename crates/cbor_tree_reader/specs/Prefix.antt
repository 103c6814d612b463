-- What a read of the item at the start of an input means.
use Rattle.std.specs.Prelude.{ℕ, ◌≤◌, List, Option, IfSome}
use Rattle.cbor_head.specs.Prelude.{Rules, Bounds, Value, IsInRange, IsValid}
use Rattle.cbor_head.specs.{Value.depth, declared.limits.TheConstants.MAX_DEPTH}
use Rattle.theory_verdicts.specs.Readers.{IsReadAs, Loses}
use Rattle.cbor_tree_reader.specs.Size.{size}

-- the value has canonical bytes, and is no deeper than any item that is read
pub record HasCanonicalBytes (v : Value) : Type 0 where
  pub depth : depth v ≤ MAX_DEPTH
  pub in_range : IsInRange v
  pub valid : IsValid v

-- An item was read by these rules, by any reader: its value and size, and what was consumed.
pub record IsPrefixRead (r : Rules) (b : Bounds) (from to : Option (List ℕ)) (v : Value) (count : ℕ) : Type 0 where
  pub read : IfSome from (λ input. IsReadAs b r input v count)
  pub taken : Loses count from to
  pub bounded : size v ≤ count
  pub sound : HasCanonicalBytes v
