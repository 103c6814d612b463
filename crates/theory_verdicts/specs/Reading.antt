-- What the readers' own functions return from the events of one item, which may be within others.
use Rattle.std.specs.Prelude.{◌≡◌, ◌≢◌, ℕ, ◌+◌, ◌-◌, ◌<◌, ◌≤◌, ◌⊎◌, ◌++◌, Bool, true, false, List, [], length, Option, Some, None, IfSome, IsTrue, Result, MatchResult, IsUtf8}
use Rattle.std.specs.{Str.Lossy.utf8_valid_len, Io.KnownBytes.Consumes, Io.KnownBytes.IsAtEnd}
use Rattle.cbor_head.specs.Prelude.{Bounds, AreBounds, Value, AreBytes, Spelling, spell, IsSpelled, depth, value_of, shortest, Rules, form, Complaint, OfHead, OfCount, Complains, IsBeginning, refusal, refused, IsVerdict}
use Rattle.cbor_head.specs.Value as value
use Rattle.cbor_head.specs.declared.major.Major.TheVariants as majors
use Rattle.cbor_head.specs.declared.reason.Reason.TheVariants as reasons
use Rattle.cbor_head.specs.declared.reason.Reason.TheVariants.{Truncated, Read, Memory, InvalidText}
use Rattle.cbor_head.specs.declared.event.EventKind.TheVariants as kinds
use Rattle.cbor_head.specs.declared.{major.Major.Major, width.Width.Width, width.Width.TheVariants.Indefinite, reason.Refusal.Refusal, reason.Reason.Reason}
use Rattle.cbor_head.specs.declared.event.{Event.Event, EventKind.EventKind}
use Rattle.theory_automaton.specs.Trace.{Mark, a_head, a_chunk}
use Rattle.theory_automaton.specs.Automaton as automaton
use Rattle.theory_automaton.specs.Automaton.{State, run, reached}
use Rattle.theory_automaton.specs.Marks.{mark_of, IsProper}
use Rattle.cbor_machine.specs.{State.state_of, NextEvent.ItemEventsView, NextEvent.AgreesBetween}
use Rattle.theory_verdicts.specs.Place.{Container, Place, at_item, in_payload, in_chunks, done, close, close_string, payload, IsTaking}
use Rattle.theory_verdicts.specs.{Judged.IsJudged, Readers.IsUnread, Readers.Loses, Refusals.IsReaderReason}

-- ---- a position, in the form of the automaton

abbrev pub state_at : Place → State
state_at (at_item cs) = automaton.at_item cs
state_at (in_payload chunk m n cs) = automaton.in_payload chunk m n cs
state_at (in_chunks m cs) = automaton.in_chunks m cs
state_at done = automaton.done

-- ---- between two events

-- The bytes t were consumed, within these limits, and the events are at this position.
pub record IsAt (b : Bounds) (e : ItemEventsView) (t : List ℕ) (q : Place) : Type 0 where
  pub live : e.refusal ≡ None
  pub limits : AreBounds b
  pub depth : e.machine.depth ≡ b.depth
  pub bytes : e.machine.bytes ≡ b.bytes
  pub marks : List Mark
  pub agrees : AgreesBetween e.machine t marks
  pub state : state_of e.machine.inner.position e.machine.inner.frames ≡ state_at q

-- The bytes x were consumed before, and y now: what the reader lost is the part of y after x.
pub record Extends (x y : List ℕ) (from to : Option (List ℕ)) : Type 0 where
  pub more : List ℕ
  pub consumed : Consumes from to more
  pub are : y ≡ x ++ more

-- The form of the bytes consumed is refused: either whatever follows; or because the input ended there, or the reader failed.
abbrev pub IsFormRefusal : Bounds → List ℕ → Option (List ℕ) → Refusal → Type 0
IsFormRefusal b all to f =
    ((more : List ℕ) → IsVerdict b form (all ++ more) (refused f))
    ⊎ (IsVerdict b form all (refused (refusal Truncated (length all) (length all))) × (f.place ≡ f.read) × ((f.reason ≡ Read) ⊎ ((f.reason ≡ Truncated) × IsAtEnd to)))

-- ---- an item

-- the complaint on the head of an event
abbrev pub OfMark : Rules → ℕ → Place → Mark → Complaint → Type 0
OfMark r at (at_item fs) (a_head m w n) c = OfCount r at m w n c
OfMark r at (in_chunks m fs) (a_chunk w n) c = OfHead r at m w n c
OfMark r at q m c = ⊥

-- The head of an item within these open containers was read: its bytes are x, after t, and it has no complaint.
pub record IsBegun (r : Rules) (b : Bounds) (fs : List Container) (t x : List ℕ) (e : ItemEventsView) (w : Width) (kind : EventKind) : Type 0 where
  pub next : Place
  pub taking : IsTaking b.depth (at_item fs) (mark_of w kind) x next
  pub item : kind ≢ kinds.End
  pub clean : (c : Complaint) → OfMark r (length t) (at_item fs) (mark_of w kind) c → ⊥
  pub proper : IsProper w kind
  pub at : IsAt b e (t ++ x) next

-- An item within these open containers, after t, was read completely and without complaint; x of it was read before the call.
pub record ReadsItem (r : Rules) (b : Bounds) (fs : List Container) (t x : List ℕ) (from to : Option (List ℕ)) (new : ItemEventsView) (v : Value) : Type 0 where
  pub item : Spelling
  pub spelled : IsSpelled item
  pub within : depth item ≤ b.depth - length fs
  pub clean : (c : Complaint) → Complains r (length t) item c → ⊥
  pub taken : Extends x (spell item) from to
  pub value : value_of item ≡ v
  pub at : IsAt b new (t ++ spell item) (close fs)

-- All of these are within the limit, and some item within the depth starts with them.
pub record IsReached (b : Bounds) (all : List ℕ) : Type 0 where
  pub begins : IsBeginning b.depth all
  pub within : length all ≤ b.bytes

-- Why all these bytes are refused: for the complaint of their item; or, if it has none, for what follows its beginning at this
-- offset, which is wrong in form.
abbrev pub IsCause : Bounds → List ℕ → Option (List ℕ) → ℕ → Option Complaint → Refusal → Type 0
IsCause b all to at (Some c) f = (f ≡ refusal c.reason c.place c.end) × (length all ≤ b.bytes)
IsCause b all to at None f = (f.place ≡ at) × IsFormRefusal b all to f

-- the bytes consumed of the item begin with p, which is a beginning and has this complaint first, or none
pub record HasCause (r : Rules) (b : Bounds) (fs : List Container) (t bytes : List ℕ) (to : Option (List ℕ)) (f : Refusal) : Type 0 where
  pub p : List ℕ
  pub last : List ℕ
  pub splits : bytes ≡ p ++ last
  pub found : Option Complaint
  pub judged : IsJudged r (length t) (b.depth - length fs) p found
  pub cause : IsCause b (t ++ bytes) to (length (t ++ p)) found f

-- memory was refused
abbrev pub IsMemory : Refusal → Type 0
IsMemory f = (f.reason ≡ Memory) × (f.place ≡ f.read)

-- The bytes consumed of the item, except for at most the last one, have no complaint, and the item is longer.
pub record IsUndecided (r : Rules) (b : Bounds) (fs : List Container) (t bytes : List ℕ) : Type 0 where
  pub p : List ℕ
  pub last : List ℕ
  pub splits : bytes ≡ p ++ last
  pub byte : length last ≤ 1
  pub judged : IsJudged r (length t) (b.depth - length fs) p None

-- The item is refused, and the refusal's number of bytes is the number consumed.
pub record StopsItem (r : Rules) (b : Bounds) (fs : List Container) (t x : List ℕ) (from to : Option (List ℕ)) (f : Refusal) : Type 0 where
  pub bytes : List ℕ
  pub taken : Extends x bytes from to
  pub read : f.read ≡ length (t ++ bytes)
  pub why : (IsMemory f × IsReached b (t ++ bytes) × IsUndecided r b fs t bytes) ⊎ HasCause r b fs t bytes to f

-- an item has begun
pub record HasBegun (r : Rules) (e : ItemEventsView) (kind : EventKind) : Type 0 where
  pub b : Bounds
  pub fs : List Container
  pub t : List ℕ
  pub x : List ℕ
  pub w : Width
  pub begun : IsBegun r b fs t x e w kind

-- The bytes are refused: for refused memory, or for what is wrong in them.
pub record AreRefused (r : Rules) (b : Bounds) (bytes : List ℕ) (to : Option (List ℕ)) (f : Refusal) : Type 0 where
  pub read : f.read ≡ length bytes
  pub why : (IsMemory f × IsReached b bytes × IsUndecided r b [] [] bytes) ⊎ HasCause r b [] [] bytes to f

-- ---- one event

-- a head or a break is allowed
abbrev pub IsHeadExpected : Place → Type 0
IsHeadExpected (at_item fs) = Unit {0}
IsHeadExpected (in_chunks m fs) = Unit {0}
IsHeadExpected _ = ⊥

-- the next event is reported, without complaint
pub record IsNextHead (r : Rules) (b : Bounds) (q : Place) (t : List ℕ) (e : Event) (from to : Option (List ℕ)) (new : ItemEventsView) : Type 0 where
  pub bytes : List ℕ
  pub consumed : Consumes from to bytes
  pub place : e.place ≡ length t
  pub next : Place
  pub taking : IsTaking b.depth q (mark_of e.width e.kind) bytes next
  pub clean : (c : Complaint) → OfMark r (length t) q (mark_of e.width e.kind) c → ⊥
  pub proper : IsProper e.width e.kind
  pub at : IsAt b new (t ++ bytes) next

-- p is the beginning of a head, and what follows it is refused, whatever comes after; or nothing follows
pub record IsCutHead (b : Bounds) (q : Place) (t bytes : List ℕ) (to : Option (List ℕ)) (f : Refusal) : Type 0 where
  pub p : List ℕ
  pub last : List ℕ
  pub splits : bytes ≡ p ++ last
  pub are_bytes : AreBytes p
  pub begun : State
  pub ran : run b.depth (state_at q) p ≡ reached begun []
  pub place : f.place ≡ length (t ++ p)
  pub refused : IsFormRefusal b (t ++ bytes) to f

-- ---- strings

-- the type of a string
abbrev pub string_major : Bool → Major
string_major true = majors.Text
string_major false = majors.Bytes

abbrev pub string_kind : Bool → Option ℕ → EventKind
string_kind true length = kinds.Text length
string_kind false length = kinds.Bytes length

abbrev pub string_value : Bool → List ℕ → Value
string_value true content = value.text content
string_value false content = value.bytes content

-- a payload of this number of bytes is expected
pub record IsPayloadExpected (e : ItemEventsView) (n : ℕ) : Type 0 where
  pub b : Bounds
  pub chunk : Bool
  pub m : Major
  pub fs : List Container
  pub t : List ℕ
  pub at : IsAt b e t (payload chunk m n fs)

-- the payload was read, and appended to the previous content
pub record ReadsPayload (b : Bounds) (q : Place) (t : List ℕ) (n : ℕ) (old grown : List ℕ) (from to : Option (List ℕ)) (new : ItemEventsView) : Type 0 where
  pub bytes : List ℕ
  pub consumed : Consumes from to bytes
  pub count : length bytes ≡ n
  pub are_bytes : AreBytes bytes
  pub grows : grown ≡ old ++ bytes
  pub at : IsAt b new (t ++ bytes) q

-- a part of the payload was read, and the rest is refused
pub record IsCutPayload (b : Bounds) (t : List ℕ) (n : ℕ) (bytes : List ℕ) (to : Option (List ℕ)) (f : Refusal) : Type 0 where
  pub p : List ℕ
  pub last : List ℕ
  pub splits : bytes ≡ p ++ last
  pub short : length p < n
  pub are_bytes : AreBytes p
  pub place : f.place ≡ length (t ++ p)
  pub refused : IsFormRefusal b (t ++ bytes) to f

-- these bytes are a part of a payload of n bytes, or with their last byte all of it
pub record IsPart (n : ℕ) (bytes : List ℕ) : Type 0 where
  pub p : List ℕ
  pub last : List ℕ
  pub splits : bytes ≡ p ++ last
  pub byte : length last ≤ 1
  pub short : length p < n
  pub are_bytes : AreBytes p

-- the payload is not UTF-8
pub record IsNoText (b : Bounds) (t : List ℕ) (n : ℕ) (bytes : List ℕ) (f : Refusal) : Type 0 where
  pub count : length bytes ≡ n
  pub are_bytes : AreBytes bytes
  pub no_text : ¬ IsUtf8 bytes
  pub is : f ≡ refusal InvalidText (length t + utf8_valid_len bytes) (length t + length bytes)
  pub within : length (t ++ bytes) ≤ b.bytes

pub record StopsPayload (b : Bounds) (t : List ℕ) (n : ℕ) (text : Bool) (from to : Option (List ℕ)) (f : Refusal) : Type 0 where
  pub bytes : List ℕ
  pub consumed : Consumes from to bytes
  pub read : f.read ≡ length (t ++ bytes)
  pub why : (IsMemory f × IsReached b (t ++ bytes) × IsPart n bytes) ⊎ IsCutPayload b t n bytes to f ⊎ ((text ≡ true) × IsNoText b t n bytes f)

abbrev pub ReturnsPayload : Bool → ItemEventsView → ℕ → List ℕ → List ℕ → Option (List ℕ) → Option (List ℕ) → ItemEventsView → Result (Unit {0}) Refusal → Type 0
ReturnsPayload text e n old grown from to new result =
    (b : Bounds) (chunk : Bool) (m : Major) (fs : List Container) (t : List ℕ) → IsAt b e t (payload chunk m n fs)
    → MatchResult result (λ u. (reads : ReadsPayload b (close_string chunk m fs) t n old grown from to new) × (text ≡ true → IsUtf8 reads.bytes)) (λ f. StopsPayload b t n text from to f)

-- ---- heads

-- the complaint of rules that require the shortest heads about a head of this width and argument
abbrev pub IsHeadFault : Width → ℕ → Reason → Type 0
IsHeadFault Indefinite n reason = reason ≡ reasons.Indefinite
IsHeadFault w n reason = (w ≢ shortest n) × (reason ≡ reasons.NotShortest)

-- the same for a mark, if it has a head
abbrev pub IsMarkFault : Mark → Reason → Type 0
IsMarkFault (a_head m w n) reason = IsHeadFault w n reason
IsMarkFault (a_chunk w n) reason = IsHeadFault w n reason
IsMarkFault m reason = ⊥

-- the complaint of the rules about a mark
abbrev pub IsFault : Rules → Mark → Reason → Type 0
IsFault r m reason = IsTrue r.heads × IsMarkFault m reason

-- ---- the whole item

-- The item at the start of an input is refused: what a refusal says of the bytes that the reader held, if they are known, and
-- in any case.
pub record IsPrefixUnread (r : Rules) (b : Bounds) (from to : Option (List ℕ)) (f : Refusal) : Type 0 where
  pub refused : IfSome from (λ input. IsUnread b r input f)
  pub reason : IsReaderReason b r f.reason
  pub taken : Loses f.read from to
