-- Definitions for the laws of the model: items and complaints at the start of bytes (RFC 8949, sections 3 and 5.3.1).
use Rattle.std.specs.Prelude.{ℕ, ◌≡◌, ◌≤◌, ◌++◌, List, take}
use Rattle.cbor_head.specs.Complaint.{Rules, Complaint, IsComplaint}
use Rattle.cbor_head.specs.Spelling.{Spelling, IsSpelled, IsItem, spell, depth}
use Rattle.cbor_head.specs.Verdict.{Decision, DecidesBy, HasNoneOf, IsFirstOf}
use Rattle.cbor_head.specs.Limits.{Bounds}

-- b begins with the item s, well-formed within the depth, and rest follows it
abbrev pub IsAtStart : ℕ → List ℕ → Spelling → List ℕ → Type 0
IsAtStart d b s rest = IsSpelled s × (depth s ≤ d) × (spell s ++ rest ≡ b)

-- the item s, well-formed within the depth, starts with p
abbrev pub StartsWith : ℕ → Spelling → List ℕ → Type 0
StartsWith d s p = (rest : List ℕ) × IsItem d s (p ++ rest)

-- the first bytes of the input, up to the byte limit, begin with the item s, well-formed within the depth, that has no complaint
abbrev pub IsPrefixWithoutComplaint : Bounds → Rules → List ℕ → Spelling → Type 0
IsPrefixWithoutComplaint limits rules input s = (rest : List ℕ) × IsAtStart limits.depth (take limits.bytes input) s rest × ((c : Complaint) → IsComplaint limits rules s c → ⊥)

-- the first complaint of an item that ends within the first t bytes
abbrev pub IsFirstComplaint : Bounds → Rules → Spelling → ℕ → Complaint → Type 0
IsFirstComplaint limits rules s t c = IsFirstOf (IsComplaint limits rules s) t c

-- no complaint of an item ends within the first t bytes
abbrev pub IsWithout : Bounds → Rules → Spelling → ℕ → Type 0
IsWithout limits rules s t = HasNoneOf (IsComplaint limits rules s) t

-- the verdict that an item starting with p decides, from its complaints
abbrev pub Decides : Bounds → Rules → List ℕ → List ℕ → Spelling → Decision → Type 0
Decides limits rules p following s x = DecidesBy (IsComplaint limits rules) limits p following s x
