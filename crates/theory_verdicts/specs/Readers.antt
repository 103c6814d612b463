-- What the readers return for the item at the start of an input (RFC 8949, sections 3, 4.2 and 5.3.1).
use Rattle.std.specs.Prelude.{ℕ, ◌≡◌, ◌≤◌, List, length, take, drop, Option, Some, IfSome, ◌++◌}
use Rattle.cbor_head.specs.Prelude.{Bounds, Value, IsInRange, IsValid, HasBasicKeys, Spelling, spell, value_of, IsLongestBeginning, Rules, refusal, accepted, refused, IsVerdict, canonical}
use Rattle.cbor_head.specs.declared.reason.Reason.TheVariants.{Truncated, Read, Memory}
use Rattle.cbor_head.specs.{Value.depth, declared.reason.Refusal.Refusal, declared.keys.Keys.TheVariants.IntegersAndTexts, declared.order.KeyOrder.KeyOrder}
use Rattle.theory_verdicts.specs.Refusals.{IsFreeBefore}

-- the input begins with an item of this size that is accepted
pub record IsRead (limits : Bounds) (r : Rules) (input : List ℕ) (count : ℕ) : Type 0 where
  pub item : Spelling
  pub verdict : IsVerdict limits r input (accepted item)
  pub size : count ≡ length (spell item)

-- the same, and this is the item's value
pub record IsReadAs (limits : Bounds) (r : Rules) (input : List ℕ) (v : Value) (count : ℕ) : Type 0 where
  pub read : IsRead limits r input count
  pub value : v ≡ value_of read.item

-- The refusal of an input: the verdict, or a failure of the reader or of memory before it.
pub data IsUnread (limits : Bounds) (r : Rules) (input : List ℕ) (f : Refusal) : Type 0 where
  of_verdict : IsVerdict limits r input (refused f) → IsUnread limits r input f
  -- the reader failed within an item without complaint: the verdict on the bytes consumed, as a whole input, is
  -- Truncated
  of_reader : f ≡ refusal Read f.read f.read → IsVerdict limits r (take f.read input) (refused (refusal Truncated f.read f.read)) → IsUnread limits r input f
  -- memory was refused at some point of the longest beginning; no complaint ends before that point
  of_memory : (p : List ℕ) → IsLongestBeginning limits.depth (take limits.bytes input) p → f.read ≤ length p → f ≡ refusal Memory f.read f.read
      → IsFreeBefore limits r p f.read → IsUnread limits r input f

-- for a slice, refused memory is reported at the start, however much was read
abbrev pub ReportsMemoryAtStart : Refusal → Type 0
ReportsMemoryAtStart f = f.reason ≡ Memory → f ≡ refusal Memory 0 0

-- the first n of the bytes that a reader held were consumed
abbrev pub Loses : ℕ → Option (List ℕ) → Option (List ℕ) → Type 0
Loses k old new = IfSome old (λ input. (new ≡ Some (drop k input)) × (k ≤ length input))

-- ---- canonical bytes

-- the input begins with the canonical bytes of this value, which is valid, both within the limits
pub record BeginsWithCanonical (limits : Bounds) (o : KeyOrder) (input : List ℕ) (v : Value) : Type 0 where
  pub range : IsInRange v
  pub valid : IsValid v
  pub keys : limits.keys ≡ IntegersAndTexts → HasBasicKeys v
  pub within : depth v ≤ limits.depth
  pub fits : length (canonical o v) ≤ limits.bytes
  -- what follows them
  pub rest : List ℕ
  pub begins : canonical o v ++ rest ≡ input

-- the input begins with n bytes that are the canonical bytes of a valid value within the limits
pub record IsCanonicalPrefix (limits : Bounds) (o : KeyOrder) (input : List ℕ) (count : ℕ) : Type 0 where
  pub value : Value
  pub begins : BeginsWithCanonical limits o input value
  pub size : count ≡ length (canonical o value)

-- the input does not begin with the canonical bytes of any such value
abbrev pub HasNoCanonicalPrefix : Bounds → KeyOrder → List ℕ → Type 0
HasNoCanonicalPrefix limits o input = (v : Value) → ¬ BeginsWithCanonical limits o input v
