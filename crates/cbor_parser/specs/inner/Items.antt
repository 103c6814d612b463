-- What begins where an item is expected, by the rules of the deterministic encoding.
use Rattle.std.specs.Prelude.{◌≡◌, ℕ, suc, ◌+◌, ◌-◌, ◌^◌, ◌%◌, ◌<◌, ◌≤◌, ◌⊎◌, ◌++◌, Bool, true, false, List, ◌∷◌, length, drop}
use Rattle.cbor_head.specs.declared.major.Major.TheVariants.{Array, Map, Tag}
use Rattle.cbor_head.specs.{Prelude.shortest_head, Prelude.Bounds, declared.keys.Keys.TheVariants.IntegersAndTexts}
use Rattle.theory_verdicts.specs.PathKinds.{IsFitPrefix}
use Rattle.cbor_parser.specs.declared.item_start.ItemStart.TheVariants.{Leaf, Opens, Indefinite, Refused}
use Rattle.cbor_parser.specs.declared.fast_item.FastItem.TheVariants as short
use Rattle.cbor_parser.specs.declared.container.Expected.TheVariants.{Item, Key, Value}
use Rattle.cbor_parser.specs.{inner.Leaves.IsLeaf, inner.Leaves.IsShortest, declared.item_start.ItemStart.ItemStart, declared.fast_item.FastItem.FastItem}
use Rattle.cbor_parser.specs.declared.container.Expected.{Expected}

-- if a key is expected and has these bytes, it is of a kind that the limits allow
abbrev pub IsFit : Bounds → Expected → List ℕ → Type 0
IsFit limits expected b = limits.keys ≡ IntegersAndTexts → expected ≡ Key → IsFitPrefix b

-- ---- an item or a head

-- the head of a container, in which this is expected and this number of members or pairs follow the first; and what
-- follows the head
abbrev pub IsOpener : Expected → ℕ → List ℕ → List ℕ → Type 0
IsOpener Item left b rest = ((suc left < 2 ^ 64) × (b ≡ shortest_head Array (suc left) ++ rest)) ⊎ ((left ≡ 0) × ((n : ℕ) × (n < 2 ^ 64) × (b ≡ shortest_head Tag n ++ rest)))
IsOpener Key left b rest = (suc left < 2 ^ 64) × (b ≡ shortest_head Map (suc left) ++ rest)
IsOpener Value left b rest = ⊥

-- the head has this number of bytes
pub record OpensWith (expected : Expected) (left used : ℕ) (b : List ℕ) : Type 0 where
  pub some : 0 < used
  pub inside : used ≤ length b
  pub opener : IsOpener expected left b (drop used b)

-- and one more container may open
pub record OpensHere (space : Bool) (b : List ℕ) (expected : Expected) (left used : ℕ) : Type 0 where
  pub fits : space ≡ true
  pub opens : OpensWith expected left used b

-- what begins there, by the rules of the deterministic encoding
abbrev pub IsStart : List ℕ → Bool → ItemStart → Type 0
IsStart b space (Leaf used) = (0 < used) × IsLeaf space b used
IsStart b space (Opens expected left used) = OpensHere space b expected left used
IsStart b space Indefinite = ⊥
IsStart b space (Refused f) = Unit {0}

-- an item, or the head of one
abbrev pub IsTaken : ItemStart → Type 0
IsTaken (Leaf used) = Unit {0}
IsTaken (Opens expected left used) = Unit {0}
IsTaken _ = ⊥

-- ---- what the fast functions recognise

-- a string with this first byte is at the start, with its head in its shortest form and its whole payload
pub record IsShortString (first : ℕ) (b : List ℕ) (payload end : ℕ) : Type 0 where
  pub following : List ℕ
  pub is : b ≡ first ∷ following
  pub count : ℕ
  pub rest : List ℕ
  pub head : IsShortest (first % 32) following count rest
  pub fewer : length rest ≤ length following
  pub begins : payload ≡ 1 + (length following - length rest)
  pub size : end ≡ payload + count
  pub inside : end ≤ length b

abbrev pub IsShortPrefix : FastItem → List ℕ → Type 0
IsShortPrefix (short.Item used) b = (0 < used) × IsLeaf false b used
IsShortPrefix (short.Opens expected left used) b = OpensWith expected left used b
IsShortPrefix short.Other b = Unit {0}

-- something is recognised
abbrev pub IsSaid : FastItem → Type 0
IsSaid short.Other = ⊥
IsSaid _ = Unit {0}
