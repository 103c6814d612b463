-- The parts of an item that was read, by the plain rules.
use Rattle.std.specs.Prelude.{ℕ, ◌≡◌, ◌≢◌, ◌++◌, Bool, true, IsUtf8, List, Option, Result, MatchResult, Vec}
use Rattle.std.specs.Global.{Global}
use Rattle.cbor_head.specs.Prelude.{plain, IsSimple, Bounds, Value}
use Rattle.cbor_head.specs.Value as value
use Rattle.cbor_head.specs.declared.major.Major.TheVariants as majors
use Rattle.cbor_head.specs.declared.event.EventKind.TheVariants as kinds
use Rattle.cbor_head.specs.declared.{event.EventKind.EventKind, major.Major.Major, reason.Refusal.Refusal, width.Width.Width}
use Rattle.theory_automaton.specs.{Marks.mark_of, Marks.IsProper, Trace.a_head}
use Rattle.cbor_machine.specs.NextEvent.{ItemEventsView}
use Rattle.cbor_builder.specs.Built.{IsContainer, IsLeaf}
use Rattle.theory_verdicts.specs.Place.{Container, Place, at_item, IsTaking}
use Rattle.theory_verdicts.specs.Reading.{IsAt, IsBegun, ReadsItem, StopsItem, string_kind, string_value}
use Rattle.cbor_tree_reader.specs.declared.item_part.ItemPart.TheVariants.{Leaf, String, Begin, Break}
use Rattle.cbor_tree_reader.specs.declared.item_part.ItemPart.{ItemPart}

-- an event came where an item was expected within these containers, after t, and its bytes are x
pub record IsCome (b : Bounds) (fs : List Container) (t x : List ℕ) (e : ItemEventsView) (w : Width) (kind : EventKind) : Type 0 where
  pub next : Place
  pub taking : IsTaking b.depth (at_item fs) (mark_of w kind) x next
  pub proper : IsProper w kind
  pub at : IsAt b e (t ++ x) next

pub record HasCome (e : ItemEventsView) (kind : EventKind) : Type 0 where
  pub b : Bounds
  pub fs : List Container
  pub t : List ℕ
  pub x : List ℕ
  pub w : Width
  pub come : IsCome b fs t x e w kind

-- the value of a leaf
abbrev pub leaf_value : Major → ℕ → Value
leaf_value majors.Negative n = value.negative n
leaf_value majors.Simple n = value.simple n
leaf_value _ n = value.unsigned n

abbrev pub IsLeafMajor : Major → ℕ → Type 0
IsLeafMajor m n = IsLeaf m × (m ≡ majors.Simple → IsSimple n)

-- a container of this type and argument begins
abbrev pub Begins : EventKind → Major → ℕ → Type 0
Begins kind m n = IsContainer m × ((w : Width) → mark_of w kind ≡ a_head m w n)

-- a string begins
abbrev pub BeginsString : EventKind → Type 0
BeginsString (kinds.Bytes n) = Unit {0}
BeginsString (kinds.Text n) = Unit {0}
BeginsString _ = ⊥

-- nothing more was read
pub record IsStill (old new : ItemEventsView) (from to : Option (List ℕ)) : Type 0 where
  pub events : new ≡ old
  pub reader : to ≡ from

-- a part that was read
abbrev pub ReadsPart : Bounds → List Container → List ℕ → List ℕ → EventKind → ItemEventsView → ItemEventsView → Option (List ℕ) → Option (List ℕ) → ItemPart → Type 0
ReadsPart b fs t x kind old new from to (Leaf m n) = IsLeafMajor m n × ReadsItem plain b fs t x from to new (leaf_value m n) × (kind ≢ kinds.End)
ReadsPart b fs t x kind old new from to (String is_text content) =
    (is_text ≡ true → IsUtf8 content.items) × ReadsItem plain b fs t x from to new (string_value is_text content.items) × (kind ≢ kinds.End)
ReadsPart b fs t x kind old new from to (Begin m n) = Begins kind m n × IsStill old new from to
ReadsPart b fs t x kind old new from to Break = (kind ≡ kinds.End) × IsStill old new from to

abbrev pub ReturnsPart : ItemEventsView → EventKind → Option (List ℕ) → Option (List ℕ) → ItemEventsView → Result ItemPart Refusal → Type 0
ReturnsPart e kind from to new result =
    (b : Bounds) (fs : List Container) (t x : List ℕ) (w : Width) → IsCome b fs t x e w kind
    → MatchResult result (ReadsPart b fs t x kind e new from to) (λ f. BeginsString kind × StopsItem plain b fs t x from to f)

-- the content of a string whose head was read; it is UTF-8 if the string is a text
abbrev pub ReturnsString : Bool → Option ℕ → ItemEventsView → Option (List ℕ) → Option (List ℕ) → ItemEventsView → Result (Vec ℕ Global) Refusal → Type 0
ReturnsString is_text length e from to new result =
    (b : Bounds) (fs : List Container) (t x : List ℕ) (w : Width) → IsBegun plain b fs t x e w (string_kind is_text length)
    → MatchResult result (λ v. ReadsItem plain b fs t x from to new (string_value is_text v.items) × (is_text ≡ true → IsUtf8 v.items)) (λ f. StopsItem plain b fs t x from to f)
