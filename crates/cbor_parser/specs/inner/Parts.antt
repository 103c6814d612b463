-- What is taken from the rest of an input: an item, a head, a break.
use Rattle.std.specs.Prelude.{◌≡◌, ℕ, ◌<◌, ◌≤◌, Bool, true, false, List, ◌∷◌, ◌++◌, length, take, IsUtf8}
use Rattle.cbor_head.specs.Prelude.{Holds, IsSimple, head, shortest, Spelling, spell, IsSpelled, depth}
use Rattle.cbor_head.specs.declared.major.Major.TheVariants.{Array, Map, Simple}
use Rattle.cbor_head.specs.declared.{major.Major.Major, width.Width.Width, width.Width.TheVariants.Indefinite}
use Rattle.theory_verdicts.specs.Levels.{Level, IsLevel, IsOpened, level_bytes}
use Rattle.theory_verdicts.specs.{Kinds.IsOfOneHead, Reading.string_major}
use Rattle.cbor_parser.specs.declared.container.Expected.TheVariants.{Item, Key, Value}
use Rattle.cbor_parser.specs.declared.item_rules.Part.TheVariants as part
use Rattle.cbor_parser.specs.declared.{container.Expected.Expected, item_rules.Part.Part, parser.SinkStop.SinkStop}
use Rattle.cbor_parser.specs.inner.{OpenContainer.cell_of, OpenContainer.Cell, Rules.following}

-- the bytes are a definite head of this type, and those after it
pub record IsHead (m : Major) (n : ℕ) (rest following : List ℕ) : Type 0 where
  pub width : Width
  pub holds : Holds width n
  pub simple : m ≡ Simple → IsSimple n × (width ≡ shortest n)
  pub is : rest ≡ head m width n ++ following

-- the container is of definite length, and this is expected in it first
abbrev pub Counts : Major → Expected → Type 0
Counts Array Item = Unit {0}
Counts Map Key = Unit {0}
Counts m expected = ⊥

-- the bytes are the opener of a container that has items, or may have some, and those after it
pub record IsOpener (m : Major) (n : ℕ) (c : Cell) (rest following : List ℕ) : Type 0 where
  pub level : Level
  pub fresh : (d : ℕ) → IsLevel d level
  pub cell : c ≡ cell_of (length following) level
  pub opened : IsOpened m n level
  pub some : 0 < length (level_bytes level)
  pub is : rest ≡ level_bytes level ++ following

-- a payload of this size is at the start, and is UTF-8 if it is a text's, unless the whole is known to be valid
pub record IsPayload (trusts is_text : Bool) (count size : ℕ) (rest : List ℕ) : Type 0 where
  pub all : size ≡ count
  pub inside : count ≤ length rest
  pub utf8 : trusts ≡ false → is_text ≡ true → IsUtf8 (take count rest)

-- the whole payload is at the start, and is UTF-8 if it is a text's
pub record IsWholePayload (is_text : Bool) (count : ℕ) (rest : List ℕ) : Type 0 where
  pub inside : count ≤ length rest
  pub utf8 : is_text ≡ true → IsUtf8 (take count rest)

-- the opener of a string in chunks, and these bytes after it
abbrev pub chunked_from : Bool → List ℕ → List ℕ
chunked_from is_text following = head (string_major is_text) Indefinite 0 ++ following

-- ---- what is taken from the rest of an input

-- an item of this depth begins with the bytes up to `following`, which are one head or an item without members
pub record HasBegun (d : ℕ) (rest following : List ℕ) : Type 0 where
  pub prefix : List ℕ
  pub is : rest ≡ prefix ++ following
  pub one : IsOfOneHead prefix
  pub item : Spelling
  pub spelled : IsSpelled item
  pub within : depth item ≤ d
  pub more : List ℕ
  pub bytes : spell item ≡ prefix ++ more

-- a break is there, and is allowed
pub record HasBroken (c : Cell) (rest following : List ℕ) : Type 0 where
  pub open_ended : c.is_indefinite ≡ true
  pub no_value : c.expected ≡ Value → ⊥
  pub is : rest ≡ 0xff ∷ following

abbrev pub TakesPrefix : Part SinkStop → ℕ → Cell → List ℕ → Type 0
TakesPrefix (part.Item used) d c rest = HasBegun d rest (following used rest)
TakesPrefix (part.Head used) d c rest = HasBegun d rest (following used rest)
TakesPrefix (part.Break used) d c rest = HasBroken c rest (following used rest)
TakesPrefix _ d c rest = Unit {0}

-- the same within any containers
abbrev pub TakesScalar : Part SinkStop → List ℕ → Type 0
TakesScalar result rest = (d : ℕ) (c : Cell) → TakesPrefix result d c rest

-- an item is taken, or a head
abbrev pub HasTaken : Part SinkStop → Type 0
HasTaken (part.Item used) = Unit {0}
HasTaken (part.Head used) = Unit {0}
HasTaken _ = ⊥
