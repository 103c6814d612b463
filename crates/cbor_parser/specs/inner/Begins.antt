-- What may begin where an item is expected, by the rules of any valid item: a break, an item's head, a whole string.
use Rattle.std.specs.Prelude.{◌≡◌, ◌≢◌, ℕ, ◌%◌, ◌<◌, ◌≤◌, ◌⊎◌, Bool, true, false, List, ◌∷◌, length, take, drop, IsUtf8}
use Rattle.cbor_head.specs.{Argument.IsArgument, InitialByte.MayBegin, declared.width.Width.Width, declared.keys.Keys.Keys}
use Rattle.cbor_head.specs.declared.keys.Keys.TheVariants.{IntegersAndTexts}
use Rattle.theory_verdicts.specs.{PathKinds.IsFitPrefix, Reading.string_major}
use Rattle.cbor_parser.specs.declared.{container.Expected.TheVariants.Key, container.Expected.TheVariants.Value, item_start.Here.Here}
use Rattle.cbor_parser.specs.{declared.item_start.ItemStart.ItemStart, declared.item_start.ItemStart.TheVariants.Refused, inner.OpenContainer.Cell}
use Rattle.cbor_parser.specs.inner.Parts.{IsHead}

-- whole chunks of a string of this type, and then a break
pub data AreWholeChunks (t : Bool) : List ℕ → Type 0 where
  at_break : (rest following : List ℕ) → rest ≡ 0xff ∷ following → AreWholeChunks t rest
  a_chunk : (rest : List ℕ) (n : ℕ) (from : List ℕ) → IsHead (string_major t) n rest from → n ≤ length from → (t ≡ true → IsUtf8 (take n from)) → AreWholeChunks t (drop n from) → AreWholeChunks t rest

-- the argument of a head; the payload of a string is complete, and a text's is UTF-8
pub record HasHead (first : ℕ) (following : List ℕ) : Type 0 where
  pub width : Width
  pub number : ℕ
  pub rest : List ℕ
  pub argument : IsArgument (first % 32) following width number rest
  pub inside : 64 ≤ first → first < 128 → number ≤ length rest
  pub utf8 : 96 ≤ first → first < 128 → IsUtf8 (take number rest)
  pub simple : first ≡ 0xf8 → 32 ≤ number

-- an item begins with this byte; a string is whole
pub record BeginsItem (space : Bool) (first : ℕ) (following : List ℕ) : Type 0 where
  pub may : MayBegin first space
  pub head : first % 32 < 28 → HasHead first following
  pub bytes : first ≡ 0x5f → AreWholeChunks false following
  pub text : first ≡ 0x7f → AreWholeChunks true following

-- an item that is allowed there begins, or a break
pub record Begins (here : Here) (rest : List ℕ) : Type 0 where
  pub first : ℕ
  pub following : List ℕ
  pub is : rest ≡ first ∷ following
  pub what : ((first ≡ 0xff) × (here.may_break ≡ true)) ⊎ (BeginsItem here.space first following × (here.is_key ≡ true → IsFitPrefix rest))

-- what begins is not refused
abbrev pub BeginsUnrefused : Here → List ℕ → ItemStart → Type 0
BeginsUnrefused here rest (Refused f) = Unit {0}
BeginsUnrefused here rest _ = Begins here rest

-- neither begins, whatever is allowed
abbrev pub NothingBegins : List ℕ → Type 0
NothingBegins rest = (here : Here) → Begins here rest → ⊥

-- what is allowed in this container, with this number of containers around it
pub record IsAllowed (keys : Keys) (depth : ℕ) (top : Cell) (height : ℕ) (here : Here) : Type 0 where
  pub space : here.space ≡ true → height < depth
  pub key : keys ≡ IntegersAndTexts → top.expected ≡ Key → here.is_key ≡ true
  pub may_break : here.may_break ≡ true → (top.is_indefinite ≡ true) × (top.expected ≢ Value)

-- no more containers may open, or there is no cell for one
abbrev pub IsFull : ℕ → ℕ → ℕ → Type 0
IsFull depth height count = (depth ≤ height) ⊎ ((height < depth) × (count ≤ height))

-- nothing that is allowed begins there; or a container may open, and there is no cell for it
abbrev pub IsLeft : Keys → ℕ → Cell → ℕ → ℕ → List ℕ → Type 0
IsLeft keys depth top height count rest = ((height < depth) × (count ≤ height)) ⊎ ((here : Here) → IsAllowed keys depth top height here → Begins here rest → ⊥)
