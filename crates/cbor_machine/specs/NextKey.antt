-- What is reported where a key is expected that must be an integer or a text: its kind is judged at its first byte.
use Rattle.std.specs.Prelude.{◌≡◌, ◌≢◌, ℕ, ◌+◌, ◌<◌, ◌⊎◌, ◌/◌, Bool, true, false, IsTrue, List, [], ◌∷◌, length, Option, Some, None, Result, Ok, Err}
use Rattle.std.specs.Io.KnownBytes.{Consumes}
use Rattle.cbor_head.specs.declared.event.EventKind.TheVariants.{Simple, Bytes, Array, Map, Tag}
use Rattle.cbor_head.specs.{Prelude.MayFollow, Prelude.refusal, declared.reason.Reason.Reason, declared.reason.Reason.TheVariants.KeyKind}
use Rattle.cbor_head.specs.declared.{reason.Refusal.Refusal, event.Event.Event, event.EventKind.EventKind}
use Rattle.theory_values.specs.FirstBytes.{is_basic}
use Rattle.theory_automaton.specs.Reasons.{IsEventReason}
use Rattle.cbor_machine.specs.NextEvent.{Call, IsNext, IsNextEvent, IsEnd}
use Rattle.cbor_machine.specs.Machine.{IsComplete}

-- the first event of a key that is an integer or a text, or a break
abbrev pub IsBasicKind : EventKind → Type 0
IsBasicKind (Simple n) = ⊥
IsBasicKind (Bytes n) = ⊥
IsBasicKind (Array n) = ⊥
IsBasicKind (Map n) = ⊥
IsBasicKind (Tag n) = ⊥
IsBasicKind kind = Unit {0}

-- if the refusal is after the first byte, that byte begins an integer or a text
abbrev pub IsAfterBasic : Refusal → Call → Type 0
IsAfterBasic f c = length c.taken < f.place → (first : ℕ) (rest : List ℕ) → c.held ≡ Some (first ∷ rest) → IsTrue (is_basic (first / 32))

-- The first byte of an item that is neither an integer nor a text was read, and no more. Such an item may begin there.
pub record IsOtherKey (f : Refusal) (c : Call) : Type 0 where
  pub unfinished : ¬ IsComplete c.old
  pub byte : ℕ
  pub small : byte < 256
  pub consumed : Consumes c.held c.left (byte ∷ [])
  pub other : ¬ IsTrue (is_basic (byte / 32))
  -- not a break
  pub item : byte ≢ 0xff
  pub follows : MayFollow c.new.depth c.taken byte
  pub is : f ≡ refusal KeyKind (length c.taken) (length c.taken + 1)

-- what is returned if the last event was complete, and a key or a break is expected
abbrev pub IsNextKey : Result (Option Event) Refusal → Call → Type 0
IsNextKey (Ok (Some e)) c = IsNextEvent e c × IsBasicKind e.kind
IsNextKey (Ok None) c = IsEnd c
IsNextKey (Err f) c = (IsNext (Err f) c × IsAfterBasic f c) ⊎ IsOtherKey f c

-- what is returned if the last event was complete, and, if kinds of keys are judged, a key or a break is expected
abbrev pub IsNextOf : Bool → Result (Option Event) Refusal → Call → Type 0
IsNextOf true result c = IsNextKey result c
IsNextOf false result c = IsNext result c

-- what a key is refused for, before it is complete
abbrev pub IsKeyReason : Reason → Type 0
IsKeyReason r = IsEventReason r ⊎ (r ≡ KeyKind)
