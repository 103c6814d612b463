-- Heads by the number of their kind, as C gives it (RFC 8949, section 3).
use Rattle.std.specs.Prelude.{ℕ, ◌≡◌, ◌<◌, List}
use Rattle.cbor_head.specs.Prelude.{IsSimple, IsHead, shortest, shortest_head, major_number}
use Rattle.cbor_head.specs.declared.major.Major.{Major}

-- some head has this kind and this number: of a simple value, one that exists
abbrev pub HasHead : ℕ → ℕ → Type 0
HasHead kind number = (kind < 8) × (kind ≡ 7 → IsSimple number)

-- these are the bytes of the shortest head of this kind and number
pub record IsShortestHead (kind number : ℕ) (bytes : List ℕ) : Type 0 where
  pub major : Major
  pub kind_is : kind ≡ major_number major
  pub is_head : IsHead major (shortest number) number
  pub bytes_are : bytes ≡ shortest_head major number
