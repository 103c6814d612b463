-- What the strict check of bytes that come in parts represents, and what its steps return (RFC 8949, section 4.2).
use Rattle.std.specs.Prelude.{◌≡◌, ℕ, ◌++◌, Bool, List, [], length, Option, None}
use Rattle.cbor_head.specs.Prelude.{Bounds, bounds, with_keys, Spelling, strict}
use Rattle.cbor_head.specs.{Laws.StartsWith, Laws.IsWithout, declared.keys.Keys.Keys, declared.order.KeyOrder.KeyOrder, declared.reason.Refusal.Refusal}
use Rattle.theory_automaton.specs.{Trace.Mark, Trace.total, Marks.marks_of}
use Rattle.cbor_machine.specs.declared.step.Out.TheVariants as outs
use Rattle.cbor_machine.specs.Machine.{Represents, IsComplete, IsGiven}
use Rattle.cbor_machine.specs.{MachineView.MachineView, declared.step.Out.Out}
use Rattle.theory_verdicts.specs.Readers.{IsUnread}
use Rattle.cbor_strict.specs.KeptKeys.{open_maps, key_bytes}
use Rattle.cbor_stream.specs.{AtOnce.IsAtOnce, inner.Amid.Inner, inner.Amid.IsAmid}

-- what contracts see of a strict machine: how far the form was read, what is stored, and why no more is read
pub record StrictMachineView : Type 0 where
  pub machine : MachineView
  pub order : KeyOrder
  -- which kinds of keys are judged
  pub keys : Keys
  -- of how many open maps the last key is stored, and how many bytes are
  pub spans : ℕ
  pub kept : ℕ
  pub refusal : Option Refusal
  -- whether a request for memory was refused for the item
  pub refused : Bool
  -- what leads from one step to the next; no public clause looks into it
  pub inner : Inner

-- the limits on the item
abbrev pub limits_of : StrictMachineView → Bounds
limits_of v = with_keys (bounds v.machine.depth v.machine.bytes) v.keys

-- The bytes t were taken, however they were cut, and ms reported; nothing in t has a complaint.
pub record AgreesAmid (v : StrictMachineView) (t : List ℕ) (ms : List Mark) : Type 0 where
  pub agrees : Represents v.machine t ms
  -- no complaint ends within t, of any item that starts with t
  pub clean : (s : Spelling) → StartsWith v.machine.depth s t → IsWithout (limits_of v) (strict v.order) s (length t)
  -- what is stored is what each such item reports, up to the last event: a span for each open map, and the bytes of keys that
  -- are still to be compared
  pub spans : (s : Spelling) → StartsWith v.machine.depth s t → v.spans ≡ open_maps (total ms) s
  pub kept : (s : Spelling) → StartsWith v.machine.depth s t → v.kept ≡ key_bytes (total ms) s
  pub live : v.refusal ≡ None
  -- the inner state is the one after t
  pub inner : IsAmid v.machine v.inner.items (limits_of v) t ms

-- The refusal of all that was taken: that of each input that begins so. The marks ms were reported before it.
pub record IsStrictlyRefused (f : Refusal) (v : StrictMachineView) (all : List ℕ) (ms : List Mark) : Type 0 where
  pub read : f.read ≡ length all
  -- no event was left out
  pub at_once : IsAtOnce v.order f v.machine all ms
  pub unread : (more : List ℕ) → IsUnread (limits_of v) (strict v.order) (all ++ more) f

-- what a step returns, of a machine that represented t and ms and has now used bs
abbrev pub IsStrictResult : Out → StrictMachineView → List ℕ → List ℕ → List Mark → Type 0
IsStrictResult outs.More v t bs ms = AgreesAmid v (t ++ bs) ms
IsStrictResult (outs.Event e) v t bs ms = IsGiven e v.machine t bs ms × AgreesAmid v (t ++ bs) (ms ++ marks_of e.width e.kind)
IsStrictResult outs.Done v t bs ms = (bs ≡ []) × IsComplete v.machine × AgreesAmid v t ms
IsStrictResult (outs.Refused f) v t bs ms = IsStrictlyRefused f v (t ++ bs) ms

-- no refusal
abbrev pub IsLive : Out → Type 0
IsLive (outs.Refused f) = ⊥
IsLive out = Unit {0}
