-- The walk's cells for the open containers, and how a complete item changes them.
use Rattle.std.specs.Prelude.{◌≡◌, ◌≢◌, ℕ, ◌+◌, ◌≤◌, Bool, true, false, List, [], ◌∷◌, ◌++◌, length, slice_range}
use Rattle.cbor_head.specs.Prelude.{plain, strict, Bounds, key_lt, Spelling, spell, refusal}
use Rattle.cbor_head.specs.declared.reason.Reason.TheVariants as reasons
use Rattle.cbor_head.specs.declared.{order.KeyOrder.KeyOrder, width.Width.TheVariants.Indefinite}
use Rattle.theory_values.specs.KeyPrefix.{prefix_of}
use Rattle.theory_verdicts.specs.LastKey as keys
use Rattle.theory_verdicts.specs.Path as path
use Rattle.theory_verdicts.specs.Path.{level_bytes, bytes_before, AreClean, HasEnded}
use Rattle.theory_verdicts.specs.{Kinds.KeepsToKinds, Stop.HasComplaint}
use Rattle.cbor_parser.specs.declared.container.Expected.TheVariants.{Item, Key, Value}
use Rattle.cbor_parser.specs.declared.{container.Expected.Expected, last_key.LastKey.LastKey, open_container.OpenContainer.OpenContainer}
use Rattle.cbor_parser.specs.inner.OpenContainer.{counted}

-- ---- a cell

abbrev pub StrictCell : Type 0
StrictCell = OpenContainer LastKey

-- the last key of a map whose first key begins there
abbrev pub no_key : ℕ → LastKey
no_key at = record { key = at; last = at; last_end = at; prefix = 0 }

-- the cell of a container that begins, after its head
abbrev pub strict_cell : Expected → ℕ → ℕ → StrictCell
strict_cell expected left at = counted expected left (no_key at)

abbrev pub last_key : List ℕ → LastKey → List ℕ
last_key input k = slice_range input k.last k.last_end

-- the expected key, if it ends there
abbrev pub key_at : List ℕ → LastKey → ℕ → List ℕ
key_at input k at = slice_range input k.key at

-- the number is the prefix of the last key
abbrev pub IsPrefixed : List ℕ → LastKey → Type 0
IsPrefixed input k = k.prefix ≡ prefix_of (last_key input k)

-- this is the last key, and its prefix is right
pub record HoldsKey (input : List ℕ) (k : LastKey) (key : List ℕ) : Type 0 where
  pub is : last_key input k ≡ key
  pub prefixed : IsPrefixed input k

-- the cell of a map in which a key is expected, after this number of bytes
pub record IsKeyExpected (input : List ℕ) (c : StrictCell) (more : ℕ) (key : List ℕ) (at : ℕ) : Type 0 where
  pub expected : c.expected ≡ Key
  pub left : c.left ≡ more
  pub definite : c.is_indefinite ≡ false
  pub begins : c.kept.key ≡ at
  pub holds : HoldsKey input c.kept key

pub record IsValueExpected (input : List ℕ) (c : StrictCell) (more : ℕ) (key : List ℕ) : Type 0 where
  pub expected : c.expected ≡ Value
  pub left : c.left ≡ more
  pub definite : c.is_indefinite ≡ false
  pub holds : HoldsKey input c.kept key

-- the cell of an open container at this position
abbrev pub IsCell : List ℕ → ℕ → path.Level → StrictCell → Type 0
IsCell input at (path.a_member w left done) c = (w ≢ Indefinite) × (c.expected ≡ Item) × (c.left ≡ left) × (c.is_indefinite ≡ false)
IsCell input at (path.tagged w n) c = (c.expected ≡ Item) × (c.left ≡ 0) × (c.is_indefinite ≡ false)
IsCell input at (path.a_key w left done) c = (w ≢ Indefinite) × IsKeyExpected input c left (keys.last_key done) (at + length (level_bytes (path.a_key w left done)))
IsCell input at (path.a_value w left done k) c = (w ≢ Indefinite) × IsValueExpected input c left (spell k)

-- the cells of all open containers, and of the input itself
abbrev pub AreCells : List ℕ → List path.Level → List StrictCell → Type 0
AreCells input [] (c ∷ []) = (c.expected ≡ Item) × (c.left ≡ 0) × (c.is_indefinite ≡ false)
AreCells input (l ∷ ls) (c ∷ cs) = IsCell input (length (bytes_before ls)) l c × AreCells input ls cs
AreCells input _ _ = ⊥

-- ---- the position of the walk

-- an item is expected within these containers, in which nothing has a complaint
pub record AgreesAt (o : KeyOrder) (limits : Bounds) (input : List ℕ) (cs : List StrictCell) (at : ℕ) : Type 0 where
  pub ls : List path.Level
  pub clean : AreClean (strict o) limits.depth ls
  pub keeps : KeepsToKinds limits (strict o) (bytes_before ls)
  pub are : AreCells input ls cs
  pub rest : List ℕ
  pub bytes : input ≡ bytes_before ls ++ rest
  pub here : at ≡ length (bytes_before ls)

-- an item is complete within these containers
pub record HasEndedAt (o : KeyOrder) (limits : Bounds) (input : List ℕ) (cs : List StrictCell) (at : ℕ) : Type 0 where
  pub ls : List path.Level
  pub item : Spelling
  pub ended : HasEnded (strict o) limits.depth ls item
  pub keeps : KeepsToKinds limits (strict o) (bytes_before ls ++ spell item)
  pub are : AreCells input ls cs
  pub rest : List ℕ
  pub bytes : input ≡ (bytes_before ls ++ spell item) ++ rest
  pub here : at ≡ length (bytes_before ls ++ spell item)

-- the input's item is complete
pub record IsWhole (o : KeyOrder) (limits : Bounds) (input : List ℕ) (at : ℕ) : Type 0 where
  pub item : Spelling
  pub ended : HasEnded (strict o) limits.depth [] item
  pub keeps : KeepsToKinds limits (strict o) (spell item)
  pub rest : List ℕ
  pub bytes : input ≡ spell item ++ rest
  pub here : at ≡ length (spell item)

-- the innermost container has ended with the item; or it was the input's item
abbrev pub HasClosed : KeyOrder → Bounds → List ℕ → List StrictCell → ℕ → Type 0
HasClosed o limits input [] at = IsWhole o limits input at
HasClosed o limits input (c ∷ cs) at = HasEndedAt o limits input (c ∷ cs) at

-- the expected key of the map ends there and does not come after the last one, so it is refused; if it has the bytes
-- of the last one, the plain rules refuse it too
pub record OutOfOrder (o : KeyOrder) (limits : Bounds) (input : List ℕ) (k : LastKey) (at : ℕ) : Type 0 where
  pub strictly : HasComplaint (strict o) limits input (refusal reasons.KeyOrder k.key at)
  pub repeated : last_key input k ≡ key_at input k at → HasComplaint plain limits input (refusal reasons.RepeatedKey k.key at)

-- ---- what the calls do

-- the key that was expected ends there; the result is whether it comes after the last one
abbrev pub TakesKey : Bool → KeyOrder → List ℕ → ℕ → LastKey → LastKey → Type 0
TakesKey true o input at old new = HoldsKey input new (key_at input old at) × (IsPrefixed input old → key_lt o (last_key input old) (key_at input old at) ≡ true)
TakesKey false o input at old new = (new ≡ old) × (old.key ≤ at → IsPrefixed input old → key_lt o (last_key input old) (key_at input old at) ≡ false)
