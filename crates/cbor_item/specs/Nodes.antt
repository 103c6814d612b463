-- The value of a node, from the values of the nodes that it holds.
use Rattle.std.specs.Prelude.{List, map}
use Rattle.cbor_head.specs.Value as value
use Rattle.cbor_head.specs.Prelude.{Value, Values, Entries}
use Rattle.cbor_head.specs.Head.{IsSimple}
use Rattle.theory_values.specs.Lists.{values_of, entries_of}
use Rattle.cbor_item.specs.declared.node.NodeKind.TheVariants as kinds
use Rattle.cbor_item.specs.declared.node.NodeKind.{NodeKind}

module _ {N : Type 0} (see : N → Value) where
  -- the values of members, and of pairs
  abbrev pub values_in : List N → Values
  values_in ns = values_of (map see ns)

  abbrev pub entries_in : List (N × N) → Entries
  entries_in ps = entries_of (map (λ (p : N × N). (see p.0, see p.1)) ps)

  -- the value of one level
  abbrev pub value_of : NodeKind N → Value
  value_of (kinds.Unsigned n) = value.unsigned n
  value_of (kinds.Negative n) = value.negative n
  value_of (kinds.Bytes b) = value.bytes b.now
  value_of (kinds.Text s) = value.text s.now
  value_of (kinds.Array ns) = value.array (values_in ns.now)
  value_of (kinds.Map ps) = value.map (entries_in ps.now)
  value_of (kinds.Tag n c) = value.tag n (see c.now)
  value_of (kinds.Simple n) = value.simple n

-- the number of a simple value exists (RFC 8949, section 3.3)
abbrev pub HasSimpleNumber : {N : Type 0} → NodeKind N → Type 0
HasSimpleNumber (kinds.Simple n) = IsSimple n
HasSimpleNumber _ = Unit {0}
