-- Items without members in their shortest form, at the start of some bytes.
use Rattle.std.specs.Prelude.{ℕ, ◌+◌, ◌-◌, ◌^◌, ◌%◌, ◌≡◌, ◌<◌, ◌≤◌, Bool, true, List, ◌∷◌, ◌++◌, length, drop}
use Rattle.cbor_head.specs.Prelude.{with_argument, shortest, Spelling, IsSpelled, spell, depth, strict, Complaint, Complains, OfKinds}
use Rattle.cbor_head.specs.declared.order.KeyOrder.{KeyOrder}

-- well-formed within the depth, and without complaint, at any offset
pub record IsFine (o : KeyOrder) (d : ℕ) (s : Spelling) : Type 0 where
  pub spelled : IsSpelled s
  pub within : depth s ≤ d
  pub clean : (at : ℕ) (c : Complaint) → Complains (strict o) at s c → ⊥
  -- whichever kinds of keys the limits allow, it has no key of another kind
  pub keyless : (at : ℕ) (c : Complaint) → OfKinds at s c → ⊥

-- one item, followed by the rest
pub record IsItemThen (o : KeyOrder) (d : ℕ) (input rest : List ℕ) : Type 0 where
  pub item : Spelling
  pub fine : IsFine o d item
  pub bytes : input ≡ spell item ++ rest

-- the low five bits of a first byte and the bytes after it encode this argument in its shortest form, and the rest
-- follows
pub record IsShortest (low : ℕ) (following : List ℕ) (n : ℕ) (rest : List ℕ) : Type 0 where
  pub spelled : (first : ℕ) → (first + low) ∷ following ≡ with_argument (shortest n) first n ++ rest
  pub range : n < 2 ^ 64

-- these low bits and the bytes after them encode a head's argument in its shortest form; the head has this size
pub record IsShortestHead (low : ℕ) (following : List ℕ) (size : ℕ) : Type 0 where
  pub some : 0 < size
  pub inside : size - 1 ≤ length following
  pub number : ℕ
  pub shortest : IsShortest low following number (drop (size - 1) following)

-- a head with this first byte, in its shortest form, is at the start and has this size
abbrev pub HasShortestHead : ℕ → ℕ → List ℕ → Type 0
HasShortestHead first size b = (following : List ℕ) × (b ≡ first ∷ following) × IsShortestHead (first % 32) following size

-- the first bytes, this number of them, are an item, within this much space for containers
pub record IsLeaf (space : Bool) (b : List ℕ) (used : ℕ) : Type 0 where
  pub inside : used ≤ length b
  pub item : (o : KeyOrder) (d : ℕ) → (space ≡ true → 0 < d) → IsItemThen o d b (drop used b)
