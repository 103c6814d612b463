-- The encodings whose bytes are the canonical ones of a value.
use Rattle.std.specs.Prelude.{ℕ, ◌≡◌}
use Rattle.cbor_head.specs.Value as value
use Rattle.cbor_head.specs.Prelude.{Value, Same, Spelling, spell, value_of, depth, IsSpelled, canonical, strict, Complaint, Complains}
use Rattle.cbor_head.specs.declared.order.KeyOrder.{KeyOrder}

-- it has no complaint of the rules of deterministic encoding, at any offset (RFC 8949, section 4.2)
abbrev pub IsClean : KeyOrder → Spelling → Type 0
IsClean o s = (at : ℕ) (c : Complaint) → Complains (strict o) at s c → ⊥

-- the encoding has v's canonical bytes, v's value and depth, and no complaint
pub record IsCanonicalSpelling (o : KeyOrder) (v : Value) (s : Spelling) : Type 0 where
  pub spelled : IsSpelled s
  pub bytes_are : spell s ≡ canonical o v
  pub same : Same v (value_of s)
  pub as_deep : depth s ≡ value.depth v
  pub clean : IsClean o s
