-- Heads and items of definite lengths at the start of any bytes, well-formed as in RFC 8949 (section 3 and appendix C). A head may
-- be longer than necessary, text may be invalid UTF-8, keys may be repeated, and a float is an item of major type 7.
use Rattle.std.specs.Prelude.{ℕ, suc, ◌≡◌, ◌*◌, ◌≤◌, ◌==◌, ◌++◌, if◌then◌else◌, List, length, drop}
use Rattle.cbor_head.specs.Prelude.{Holds, head, major_number}
use Rattle.cbor_head.specs.declared.{major.Major.Major, width.Width.Width, width.Width.TheVariants.One}

-- the bytes begin with a definite head of this major type and argument, and this follows it; a simple value of two bytes is at least
-- 32 (section 3.3)
pub record BeginsWithHead (bytes : List ℕ) (kind argument : ℕ) (content : List ℕ) : Type 0 where
  pub major : Major
  pub width : Width
  pub holds : Holds width argument
  pub kind_is : kind ≡ major_number major
  pub simple : kind ≡ 7 → width ≡ One → 32 ≤ argument
  pub bytes_are : bytes ≡ head major width argument ++ content

-- the number of bytes in a string's payload
abbrev pub payload_of : ℕ → ℕ → ℕ
payload_of kind argument = if kind == 2 then argument else if kind == 3 then argument else 0

-- the number of items directly inside an array, a map or a tag
abbrev pub members_of : ℕ → ℕ → ℕ
members_of kind argument = if kind == 4 then argument else if kind == 5 then 2 * argument else if kind == 6 then 1 else 0

mutual
  -- the bytes begin with one item, and the rest follows it: a head, a string's payload, and the items directly inside
  pub data BeginsWithItem : List ℕ → List ℕ → Type 0 where
    item : (bytes rest : List ℕ) (kind argument : ℕ) (content : List ℕ) → BeginsWithHead bytes kind argument content → payload_of kind argument ≤ length content
        → BeginsWithItems (members_of kind argument) (drop (payload_of kind argument) content) rest → BeginsWithItem bytes rest

  -- the bytes begin with n items, one after another, and the rest follows them
  pub data BeginsWithItems : ℕ → List ℕ → List ℕ → Type 0 where
    none : (n : ℕ) (bytes rest : List ℕ) → n ≡ 0 → bytes ≡ rest → BeginsWithItems n bytes rest
    more : (n k : ℕ) (bytes middle rest : List ℕ) → n ≡ suc k → BeginsWithItem bytes middle → BeginsWithItems k middle rest → BeginsWithItems n bytes rest

-- no such head, no such item
abbrev pub HasNoHead : List ℕ → Type 0
HasNoHead bytes = (kind argument : ℕ) (content : List ℕ) → BeginsWithHead bytes kind argument content → ⊥

abbrev pub HasNoItem : List ℕ → Type 0
HasNoItem bytes = (rest : List ℕ) → BeginsWithItem bytes rest → ⊥
