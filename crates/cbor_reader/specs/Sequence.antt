-- Sequences of items (RFC 8742), and which items calls gave.
use Rattle.std.specs.Prelude.{ℕ, ◌≡◌, ◌≢◌, ◌<◌, ◌≤◌, ◌++◌, Bool, true, false, List, [], length, map, flat_map, Option, Some, Result, Ok, IfSome, IfOk, IfErr}
use Rattle.std.specs.List.{AllByRecursion}
use Rattle.cbor_head.specs.Prelude.{Value, Spelling, IsItem, spell, Rules, Complaint, IsComplaint, Bounds}
use Rattle.cbor_head.specs.declared.reason.{Reason.TheVariants.Read, Reason.TheVariants.Memory, Refusal.Refusal}
use Rattle.theory_verdicts.specs.Readers.{IsReadAs, IsUnread, Loses}

-- ---- sequences

-- the bytes of a sequence: those of its items, joined (section 2)
abbrev pub sequence_bytes : List Spelling → List ℕ
sequence_bytes items = flat_map spell items

-- an item that is accepted: well-formed, without complaint by the rules, and within the limits
pub record IsAccepted (limits : Bounds) (r : Rules) (item : Spelling) : Type 0 where
  pub well_formed : IsItem limits.depth item (spell item)
  pub sound : (c : Complaint) → IsComplaint limits r item c → ⊥
  pub fits : length (spell item) ≤ limits.bytes

-- the input starts with a sequence of accepted items, and rest follows it
pub record StartsWithItems (limits : Bounds) (r : Rules) (input : List ℕ) (items : List Spelling) (rest : List ℕ) : Type 0 where
  pub each : AllByRecursion (IsAccepted limits r) items
  pub bytes : sequence_bytes items ++ rest ≡ input

-- the longest such sequence: any other is a prefix of it
pub record IsLongestSequence (limits : Bounds) (r : Rules) (input : List ℕ) (items : List Spelling) (rest : List ℕ) : Type 0 where
  pub starts : StartsWithItems limits r input items rest
  pub longest : (others : List Spelling) (following : List ℕ) → StartsWithItems limits r input others following → (more : List Spelling) × (others ++ more ≡ items)

-- ---- one call

-- what contracts see of the items of a sequence: the limits on each, and whether no more are read
pub record SequenceItemsView : Type 0 where
  pub limits : Bounds
  pub finished : Bool

-- the reader, and the items that were read from it
pub record SequenceView (R : Type 0) : Type 0 where
  pub reader : R
  pub items : SequenceItemsView

-- P holds of what is given, if something is
abbrev pub IfGiven : {A : Type 0} → Option (Result A Refusal) → (A → Type 0) → Type 0
IfGiven outcome P = IfSome outcome (λ given. IfOk given P)

-- P holds of the refusal, if there is one
abbrev pub IfRefused : {A : Type 0} → Option (Result A Refusal) → (Refusal → Type 0) → Type 0
IfRefused outcome P = IfSome outcome (λ given. IfErr given P)

-- whether a result is the last one: none, or a refusal
abbrev pub is_last : {A : Type 0} → Option (Result A Refusal) → Bool
is_last (Some (Ok given)) = false
is_last _ = true

-- the item at the start of what the reader holds is accepted, with this value, and just its bytes were consumed
pub record IsTaken (r : Rules) (b : Bounds) (from to : Option (List ℕ)) (v : Value) : Type 0 where
  pub count : ℕ
  pub read : IfSome from (λ input. IsReadAs b r input v count)
  pub taken : Loses count from to

-- the input ends before an item's first byte, and the byte limit would allow an item
abbrev pub EndsBefore : ℕ → List ℕ → Type 0
EndsBefore n input = (input ≡ []) × (0 < n)

-- the reader is at the input's end, and nothing was consumed
pub record IsAtEnd (n : ℕ) (from to : Option (List ℕ)) : Type 0 where
  pub ends : IfSome from (EndsBefore n)
  pub taken : Loses 0 from to

-- What the reader holds is refused by its verdict, which is not that the input ended before an item; or a failure of
-- the reader or of memory is reported. As many bytes were consumed as the refusal reports.
pub record IsRefused (r : Rules) (b : Bounds) (from to : Option (List ℕ)) (f : Refusal) : Type 0 where
  pub unread : IfSome from (λ input. IsUnread b r input f)
  pub begun : f.reason ≢ Read → f.reason ≢ Memory → IfSome from (λ input. ¬ EndsBefore b.bytes input)
  pub taken : Loses f.read from to

-- ---- a run of calls

-- an item that a call gave, and the rules that the call reads by
pub record Given : Type 0 where
  pub rules : Rules
  pub item : Spelling

-- an item given by rules
abbrev pub given_by : Rules → Spelling → Given
given_by r s = record { rules = r; item = s }

-- the items that were given
abbrev pub items_of : List Given → List Spelling
items_of given = map (λ g. g.item) given

-- all were given by calls with these rules
abbrev pub AreGivenBy : Rules → List Given → Type 0
AreGivenBy r given = AllByRecursion (λ g. g.rules ≡ r) given

-- What a run of calls means: these items were given from the input that it began with, each accepted by the rules of
-- its call, and the reader holds what follows them.
pub record HasGiven (b : Bounds) (held : Option (List ℕ)) (input : List ℕ) (given : List Given) : Type 0 where
  pub rest : List ℕ
  pub holds : held ≡ Some rest
  pub each : AllByRecursion (λ g. IsAccepted b g.rules g.item) given
  pub bytes : sequence_bytes (items_of given) ++ rest ≡ input
