-- An item in its canonical bytes at the start of some bytes (RFC 8949, section 4.2), and its head.
use Rattle.std.specs.Prelude.{ℕ, ◌≡◌, ◌++◌, List, [], length, drop, flat_map}
use Rattle.cbor_head.specs.Value as value
use Rattle.cbor_head.specs.Prelude.{Value, Entries, HasEntry, Same, IsInRange, IsValid, Pair, in_order, canonical, canonical_all, canonical_entries, values_count, major_number}
use Rattle.cbor_head.specs.declared.major.Major.TheVariants.{Unsigned, Negative, Bytes, Text, Array, Map, Tag, Simple}
use Rattle.cbor_head.specs.declared.{order.KeyOrder.KeyOrder, major.Major.Major}

-- the bytes begin with the canonical bytes of this value, a valid one, and this follows them
pub record BeginsWith (o : KeyOrder) (bytes : List ℕ) (v : Value) (rest : List ℕ) : Type 0 where
  pub range : IsInRange v
  pub valid : IsValid v
  pub begins : bytes ≡ canonical o v ++ rest

-- the major type of a value
abbrev pub major_of : Value → Major
major_of (value.unsigned n) = Unsigned
major_of (value.negative n) = Negative
major_of (value.bytes s) = Bytes
major_of (value.text s) = Text
major_of (value.array vs) = Array
major_of (value.map es) = Map
major_of (value.tag n v) = Tag
major_of (value.simple n) = Simple

-- the argument of its head: its number, or how many bytes, members or pairs it has
abbrev pub argument_of : Value → ℕ
argument_of (value.unsigned n) = n
argument_of (value.negative n) = n
argument_of (value.bytes s) = length s
argument_of (value.text s) = length s
argument_of (value.array vs) = values_count vs
argument_of (value.map es) = value.entries_count es
argument_of (value.tag n v) = n
argument_of (value.simple n) = n

-- what follows its head in its canonical bytes
abbrev pub content_of : KeyOrder → Value → List ℕ
content_of o (value.unsigned n) = []
content_of o (value.negative n) = []
content_of o (value.bytes s) = s
content_of o (value.text s) = s
content_of o (value.array vs) = canonical_all o vs
content_of o (value.map es) = flat_map (λ (p : Pair). p.key ++ p.value) (in_order o (canonical_entries o es))
content_of o (value.tag n v) = canonical o v
content_of o (value.simple n) = []

-- the major type and the argument of a value, and the offset of its content, which the rest follows
pub record IsHeadOf (o : KeyOrder) (bytes : List ℕ) (v : Value) (rest : List ℕ) (kind argument content : ℕ) : Type 0 where
  pub kind_is : kind ≡ major_number (major_of v)
  pub argument_is : argument ≡ argument_of v
  pub content_is : drop content bytes ≡ content_of o v ++ rest

-- no pair has the same key
abbrev pub HasNoKey : Entries → Value → Type 0
HasNoKey es k = (l v : Value) → HasEntry es l v → Same k l → ⊥
