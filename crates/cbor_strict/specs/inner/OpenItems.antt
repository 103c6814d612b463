-- The state of the strict reader between two events: the open containers, what was read of the item in the innermost,
-- and what is stored. Nothing read has a complaint.
use Rattle.std.specs.Prelude.{◌≡◌, ℕ, suc, ◌+◌, ◌-◌, ◌<◌, ◌≤◌, ◌⊎◌, ◌++◌, true, false, List, [], ◌∷◌, length, Option, Result, MatchResult}
use Rattle.cbor_head.specs.Prelude.{Holds, head, AreBytes, Spelling, spell, spellings_count, entries_count, IsSpelled, depth, Rules, strict, Complaint, OfHead, Complains, Bounds}
use Rattle.cbor_head.specs.declared.major.Major.TheVariants as majors
use Rattle.cbor_head.specs.declared.{major.Major.Major, reason.Refusal.Refusal, width.Width.Width, event.Event.Event, event.EventKind.EventKind}
use Rattle.cbor_head.specs.declared.event.EventKind.TheVariants.{Piece}
use Rattle.cbor_text.specs.TextCheck.{HasChecked}
use Rattle.theory_automaton.specs.{Trace.Mark, Trace.a_head, Marks.mark_of, Marks.IsProper}
use Rattle.cbor_machine.specs.NextEvent.{ItemEventsView}
use Rattle.theory_verdicts.specs.Place.{Container, Place, at_item, counted, close, payload, done as at_end, IsTaking}
use Rattle.theory_verdicts.specs.Frame.{Frame, a_member, a_key, a_content, tagged}
use Rattle.theory_verdicts.specs.OpenMaps.{before_all, AreOpen, AreOpenDistinct}
use Rattle.theory_verdicts.specs.Reading.{AreRefused, IsAt, IsBegun, string_major}
use Rattle.cbor_strict.specs.inner.LastKeys.{view_value, from_outside, IsKept}
use Rattle.cbor_strict.specs.declared.open_items.OpenItems.{OpenItems}

-- an open container, in the form in which the events count its members
abbrev pub counted_in : Frame → Container
counted_in (a_member w a b) = counted (spellings_count b)
counted_in (a_key w a v b) = counted (suc (entries_count b + entries_count b))
counted_in (a_content w a k b) = counted (entries_count b + entries_count b)
counted_in (tagged w n) = counted 0

abbrev pub frames_in : List Frame → List Container
frames_in [] = []
frames_in (f ∷ fs) = counted_in f ∷ frames_in fs

-- the bytes before the item in the innermost
abbrev pub bytes_before : List Frame → List ℕ
bytes_before fs = before_all (from_outside fs)

-- these containers are open, and nothing in them has a complaint
pub record AreOpenClean (v : OpenItems) (b : Bounds) (fs : List Frame) : Type 0 where
  pub are : AreOpen (strict v.order) b.depth (from_outside fs)
  pub distinct : AreOpenDistinct (strict v.order) 0 (from_outside fs)

-- an item is expected
pub record IsItemExpected (v : OpenItems) (b : Bounds) (e : ItemEventsView) (t : List ℕ) : Type 0 where
  pub fs : List Frame
  pub around : AreOpenClean v b fs
  pub none : v.left ≡ 0
  pub kept : IsKept (view_value v.keys) fs []
  pub taken : t ≡ bytes_before fs
  pub at : IsAt b e t (at_item (frames_in fs))

-- the payload of a string is expected, of which q was read
pub record IsInString (v : OpenItems) (b : Bounds) (e : ItemEventsView) (t : List ℕ) : Type 0 where
  pub fs : List Frame
  pub around : AreOpenClean v b fs
  pub w : Width
  pub n : ℕ
  pub q : List ℕ
  pub some : 0 < v.left
  pub count : length q + v.left ≡ n
  pub holds : Holds w n
  pub clean : (c : Complaint) → OfHead (strict v.order) (length (bytes_before fs)) (string_major v.is_text) w n c → ⊥
  pub are_bytes : AreBytes q
  pub kept : IsKept (view_value v.keys) fs (head (string_major v.is_text) w n ++ q)
  pub taken : t ≡ bytes_before fs ++ (head (string_major v.is_text) w n ++ q)
  pub at : IsAt b e t (payload false (string_major v.is_text) v.left (frames_in fs))
  pub checked : v.is_text ≡ true → HasChecked v.check q

-- the item is complete
pub record IsOver (v : OpenItems) (b : Bounds) (e : ItemEventsView) (t : List ℕ) : Type 0 where
  pub item : Spelling
  pub spelled : IsSpelled item
  pub within : depth item ≤ b.depth
  pub clean : (c : Complaint) → Complains (strict v.order) 0 item c → ⊥
  pub none : v.left ≡ 0
  pub kept : IsKept (view_value v.keys) [] (spell item)
  pub taken : t ≡ spell item
  pub at : IsAt b e t at_end

abbrev pub Agrees : OpenItems → Bounds → ItemEventsView → List ℕ → Type 0
Agrees v b e t = IsItemExpected v b e t ⊎ IsInString v b e t ⊎ IsOver v b e t

-- the result of a check of these bytes is right
abbrev pub IsRightResult : Rules → OpenItems → Bounds → ItemEventsView → List ℕ → Result (Unit {0}) Refusal → Type 0
IsRightResult r new b e t result = MatchResult result (λ u. Agrees new b e t) (λ f. (to : Option (List ℕ)) → AreRefused r b t to f)

-- an item has ended in the innermost container; the containers that are complete with it are still open
pub record HasEnded (v : OpenItems) (b : Bounds) (e : ItemEventsView) (t : List ℕ) : Type 0 where
  pub fs : List Frame
  pub around : AreOpenClean v b fs
  pub item : Spelling
  pub spelled : IsSpelled item
  pub within : depth item ≤ b.depth - length fs
  pub clean : (c : Complaint) → Complains (strict v.order) (length (bytes_before fs)) item c → ⊥
  pub none : v.left ≡ 0
  pub kept : IsKept (view_value v.keys) fs (spell item)
  pub taken : t ≡ bytes_before fs ++ spell item
  pub at : IsAt b e t (close (frames_in fs))

-- an item has ended, and the counts of the events are known
pub record IsItemEnded (v : OpenItems) (count taken : ℕ) : Type 0 where
  pub b : Bounds
  pub e : ItemEventsView
  pub t : List ℕ
  pub ended : HasEnded v b e t
  pub counted : count ≡ e.machine.open_count
  pub all : taken ≡ e.machine.taken

abbrev pub ReturnsEnd : OpenItems → OpenItems → ℕ → ℕ → Result (Unit {0}) Refusal → Type 0
ReturnsEnd old new count taken result =
    (b : Bounds) (e : ItemEventsView) (t : List ℕ) → HasEnded old b e t → count ≡ e.machine.open_count → taken ≡ e.machine.taken
    → IsRightResult (strict old.order) new b e t result

-- the head of the item that is expected was read: its bytes are x
pub record HasHeadCome (v : OpenItems) (b : Bounds) (event : Event) (t x : List ℕ) (e : ItemEventsView) : Type 0 where
  pub fs : List Frame
  pub around : AreOpenClean v b fs
  pub none : v.left ≡ 0
  pub kept : IsKept (view_value v.keys) fs []
  pub taken : t ≡ bytes_before fs
  pub next : Place
  pub taking : IsTaking b.depth (at_item (frames_in fs)) (mark_of event.width event.kind) x next
  pub proper : IsProper event.width event.kind
  pub place : event.place ≡ length t
  pub at : IsAt b e (t ++ x) next

pub record IsHeadCome (v : OpenItems) (event : Event) (count taken : ℕ) : Type 0 where
  pub b : Bounds
  pub t : List ℕ
  pub x : List ℕ
  pub e : ItemEventsView
  pub come : HasHeadCome v b event t x e
  pub counted : count ≡ e.machine.open_count
  pub all : taken ≡ e.machine.taken

abbrev pub ReturnsHead : OpenItems → OpenItems → Event → ℕ → ℕ → Result (Unit {0}) Refusal → Type 0
ReturnsHead old new event count taken result =
    (b : Bounds) (t x : List ℕ) (e : ItemEventsView) → HasHeadCome old b event t x e → count ≡ e.machine.open_count → taken ≡ e.machine.taken
    → IsRightResult (strict old.order) new b e (t ++ x) result

-- all but the keys is unchanged
pub record IsSameString (old new : OpenItems) : Type 0 where
  pub order : new.order ≡ old.order
  pub left : new.left ≡ old.left

-- an item that ends with this head, if it is definite
abbrev pub IsLeaf : Mark → Type 0
IsLeaf (a_head majors.Bytes w n) = n ≡ 0
IsLeaf (a_head majors.Text w n) = n ≡ 0
IsLeaf (a_head majors.Array w n) = n ≡ 0
IsLeaf (a_head majors.Map w n) = n ≡ 0
IsLeaf (a_head majors.Tag w n) = ⊥
IsLeaf m = Unit {0}

-- a string with bytes, a container with members, or a tag
abbrev pub GoesOn : Major → ℕ → Type 0
GoesOn majors.Unsigned n = ⊥
GoesOn majors.Negative n = ⊥
GoesOn majors.Simple n = ⊥
GoesOn majors.Tag n = Unit {0}
GoesOn m n = 0 < n

-- an array with members, or a tag
abbrev pub IsOther : Mark → Type 0
IsOther (a_head majors.Array w n) = 0 < n
IsOther (a_head majors.Tag w n) = Unit {0}
IsOther m = ⊥

abbrev pub IsMap : Mark → Type 0
IsMap (a_head majors.Map w n) = 0 < n
IsMap m = ⊥

-- its head has no complaint, and is stored if it is in a key
pub record HasBegunIn (v : OpenItems) (b : Bounds) (w : Width) (kind : EventKind) (t x : List ℕ) (e : ItemEventsView) : Type 0 where
  pub fs : List Frame
  pub around : AreOpenClean v b fs
  pub none : v.left ≡ 0
  pub kept : IsKept (view_value v.keys) fs x
  pub taken : t ≡ bytes_before fs
  pub begun : IsBegun (strict v.order) b (frames_in fs) t x e w kind

pub record IsBegunIn (v : OpenItems) (m : Major) (n : ℕ) (count taken : ℕ) : Type 0 where
  pub b : Bounds
  pub w : Width
  pub kind : EventKind
  pub is : mark_of w kind ≡ a_head m w n
  pub t : List ℕ
  pub x : List ℕ
  pub e : ItemEventsView
  pub has : HasBegunIn v b w kind t x e
  pub counted : count ≡ e.machine.open_count
  pub all : taken ≡ e.machine.taken

abbrev pub ReturnsBegun : OpenItems → OpenItems → Major → ℕ → ℕ → ℕ → Result (Unit {0}) Refusal → Type 0
ReturnsBegun old new m n count taken result =
    (b : Bounds) (w : Width) (kind : EventKind) (t x : List ℕ) (e : ItemEventsView) → mark_of w kind ≡ a_head m w n → HasBegunIn old b w kind t x e → count ≡ e.machine.open_count → taken ≡ e.machine.taken
    → IsRightResult (strict old.order) new b e (t ++ x) result

-- a part of the payload was read
pub record HasPartCome (v : OpenItems) (b : Bounds) (old : ItemEventsView) (t x : List ℕ) (e : ItemEventsView) : Type 0 where
  pub expected : IsInString v b old t
  pub some : 0 < length x
  pub fits : length x ≤ v.left
  pub are_bytes : AreBytes x
  pub at : IsAt b e (t ++ x) (payload false (string_major v.is_text) (v.left - length x) (frames_in expected.fs))

pub record IsPartCome (v : OpenItems) (x : List ℕ) (count taken : ℕ) : Type 0 where
  pub b : Bounds
  pub old : ItemEventsView
  pub t : List ℕ
  pub e : ItemEventsView
  pub come : HasPartCome v b old t x e
  pub counted : count ≡ e.machine.open_count
  pub all : taken ≡ e.machine.taken

abbrev pub ReturnsPart : OpenItems → OpenItems → List ℕ → ℕ → ℕ → Result (Unit {0}) Refusal → Type 0
ReturnsPart v new x count taken result =
    (b : Bounds) (old : ItemEventsView) (t : List ℕ) (e : ItemEventsView) → HasPartCome v b old t x e → count ≡ e.machine.open_count → taken ≡ e.machine.taken
    → IsRightResult (strict v.order) new b e (t ++ x) result

-- the first for a part of a payload, the second for another event
abbrev pub by_kind : EventKind → Type 0 → Type 0 → Type 0
by_kind (Piece n) P H = P
by_kind kind P H = H

-- an event was read, with the bytes of its part of a payload, if it is one
abbrev pub IsEventCome : OpenItems → Event → List ℕ → ℕ → ℕ → Type 0
IsEventCome v event piece count taken = by_kind event.kind (IsPartCome v piece count taken) (IsHeadCome v event count taken)

abbrev pub ReturnsEvent : OpenItems → OpenItems → Event → List ℕ → ℕ → ℕ → Result (Unit {0}) Refusal → Type 0
ReturnsEvent old new event piece count taken result = by_kind event.kind (ReturnsPart old new piece count taken result) (ReturnsHead old new event count taken result)
