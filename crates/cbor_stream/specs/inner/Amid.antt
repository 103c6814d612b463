-- Where the strict check is within an event: what came since the last one, and what is stored.
use Rattle.std.specs.Prelude.{◌≡◌, ◌≢◌, ℕ, zero, suc, ◌<◌, ◌≤◌, ◌⊎◌, ◌++◌, ◌&&◌, ◌/◌, IsTrue, Bool, true, false, List, [], ◌∷◌, length, IfSome, Option, None}
use Rattle.cbor_head.specs.Prelude.{Bounds, AreBounds, bounds, with_keys, strict}
use Rattle.cbor_head.specs.declared.{keys.Keys.Keys, keys.Keys.TheVariants.IntegersAndTexts, reason.Reason.TheVariants.Memory, reason.Refusal.Refusal}
use Rattle.theory_values.specs.FirstBytes.{is_basic}
use Rattle.theory_automaton.specs.{Trace.Mark, Marks.marks_of}
use Rattle.cbor_machine.specs.declared.step.Out.TheVariants as outs
use Rattle.cbor_machine.specs.Machine.{Represents, IsComplete, IsGiven}
use Rattle.cbor_machine.specs.{NextEvent.ItemEventsView, NextEvent.AgreesBetween, MachineView.MachineView, declared.step.Out.Out}
use Rattle.theory_verdicts.specs.{Kinds.KeepsToKinds, Kinds.HasBasicPrefix, Readers.IsUnread, Refusals.IsReaderReason}
use Rattle.cbor_strict.specs.{inner.LastKeys.view_value, inner.OpenItems.Agrees, declared.last_keys.Expected.Expected}
use Rattle.cbor_strict.specs.declared.{last_keys.Expected.TheVariants.Member, last_keys.Expected.TheVariants.Key, open_items.OpenItems.OpenItems}
use Rattle.cbor_stream.specs.{Reasons.IsStrictReason, AtOnce.IsAtOnce}

-- ---- whether a key is expected whose kind is judged

abbrev pub last_expected : List Expected → Expected
last_expected [] = Member
last_expected (e ∷ []) = e
last_expected (e ∷ f ∷ es) = last_expected (f ∷ es)

abbrev pub is_key_expected : Expected → Bool
is_key_expected Key = true
is_key_expected _ = false

abbrev pub is_zero : ℕ → Bool
is_zero zero = true
is_zero (suc n) = false

abbrev pub asks_of : Keys → OpenItems → Bool
asks_of IntegersAndTexts v = is_zero v.left && is_key_expected (last_expected (view_value v.keys).levels)
asks_of _ v = false

-- ---- where it is

-- The bytes t were taken, and ms reported. Where the last event ended, this was kept, and no complaint ended; since then
-- came the start of a head that is not complete.
pub record IsAmid (m : MachineView) (v : OpenItems) (b : Bounds) (t : List ℕ) (ms : List Mark) : Type 0 where
  -- the machine where that event ended, and what was taken up to there; it is nowhere stored
  pub began : ItemEventsView
  pub before : List ℕ
  pub since : List ℕ
  pub splits : t ≡ before ++ since
  pub between : AgreesBetween began.machine before ms
  pub led : (u : List ℕ) (ns : List Mark) → Represents began.machine u ns → Represents m (u ++ since) ns
  pub depth : m.depth ≡ began.machine.depth
  pub bytes : m.bytes ≡ began.machine.bytes
  pub agrees : Agrees v b began before
  pub keeps : KeepsToKinds b (strict v.order) before
  -- the kind of a key was judged by its first byte
  pub kind : asks_of b.keys v ≡ true → HasBasicPrefix since

-- within some limits, some bytes led to it
pub record IsSomewhere (m : MachineView) (v : OpenItems) (keys : Keys) : Type 0 where
  pub b : Bounds
  pub asks : b.keys ≡ keys
  pub t : List ℕ
  pub ms : List Mark
  pub amid : IsAmid m v b t ms

-- ---- what is given to the machine

-- the first byte of a key whose kind is judged, alone; or what is no such byte
abbrev pub IsOffered : Bool → Bounds → OpenItems → List ℕ → ℕ → Type 0
IsOffered true b v since used = (since ≡ []) × (asks_of b.keys v ≡ true)
IsOffered false b v since used = asks_of b.keys v ≡ true → (0 < length since) ⊎ (used ≡ 0)

-- what begins an integer or a text, or a break
abbrev pub IsBasicFirst : List ℕ → Type 0
IsBasicFirst [] = Unit {0}
IsBasicFirst (x ∷ xs) = IsTrue (is_basic (x / 32)) ⊎ (x ≡ 0xff)

-- what does not
abbrev pub IsOtherFirst : List ℕ → Type 0
IsOtherFirst [] = ⊥
IsOtherFirst (x ∷ xs) = ¬ IsTrue (is_basic (x / 32)) × (x ≢ 0xff)

-- a byte at this offset was taken, if one was given
abbrev pub IsTaken : Out → ℕ → Type 0
IsTaken (outs.Refused f) place = place < f.place
IsTaken out place = Unit {0}

-- ---- what comes of it

-- the refusal of all that was taken, whatever may follow; ms was reported before it
pub record IsRefusedNow (f : Refusal) (m : MachineView) (v : OpenItems) (b : Bounds) (all : List ℕ) (ms : List Mark) : Type 0 where
  pub read : f.read ≡ length all
  pub at_once : IsAtOnce v.order f m all ms
  pub reason : IsReaderReason b (strict v.order) f.reason
  pub unread : (more : List ℕ) → IsUnread b (strict v.order) (all ++ more) f

-- what a step returns that used bs
abbrev pub IsStepResult : Out → MachineView → OpenItems → Bounds → List ℕ → List ℕ → List Mark → Type 0
IsStepResult outs.More m v b t bs ms = IsAmid m v b (t ++ bs) ms
IsStepResult (outs.Event e) m v b t bs ms = IsGiven e m t bs ms × IsAmid m v b (t ++ bs) (ms ++ marks_of e.width e.kind)
IsStepResult outs.Done m v b t bs ms = (bs ≡ []) × IsComplete m × IsAmid m v b t ms
IsStepResult (outs.Refused f) m v b t bs ms = IsRefusedNow f m v b (t ++ bs) ms

-- ---- what leads from one step to the next

-- what is stored of the items that are open
pub record Inner : Type 0 where
  pub items : OpenItems

-- What holds of the fields between two calls: the bounds on what they took and keep, and, unless they refused, that some
-- bytes led to them.
pub record AreSound (m : MachineView) (v : OpenItems) (keys : Keys) (refusal : Option Refusal) : Type 0 where
  pub somewhere : refusal ≡ None → IsSomewhere m v keys
  pub stopped : IfSome refusal (λ f. (f.read ≡ m.taken) × IsStrictReason v.order f.reason
      × (length (view_value v.keys).spans ≡ 0) × (length (view_value v.keys).bytes ≡ 0))
  pub memory : IfSome refusal (λ f. f.reason ≡ Memory → IsTrue v.memory)
  pub limits : AreBounds (with_keys (bounds m.depth m.bytes) keys)
  pub within : m.open_count ≤ m.depth
  pub limited : m.taken ≤ m.bytes
  pub spans : length (view_value v.keys).spans ≤ m.depth
  pub kept : length (view_value v.keys).bytes ≤ m.taken
