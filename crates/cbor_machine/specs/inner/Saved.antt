-- What the numbers of a saved machine mean.
use Rattle.std.specs.Prelude.{ℕ, zero, suc, ◌≡◌, ◌≤◌, Bool, true, false, List, [], ◌∷◌, take, Option, Some, None}
use Rattle.cbor_head.specs.Prelude.{bounds, AreBounds, refusal}
use Rattle.cbor_head.specs.declared.reason.Reason.TheVariants.{TooLong, Reserved, NoIndefinite, Float, BadSimple, StrayBreak, BadChunk, TooDeep}
use Rattle.cbor_head.specs.declared.width.Width.TheVariants as widths
use Rattle.cbor_head.specs.declared.{reason.Refusal.Refusal, width.Width.Width}
use Rattle.cbor_machine.specs.declared.frame.Frame.TheVariants as frames
use Rattle.cbor_machine.specs.declared.opening.ArgumentType.TheVariants as numbered
use Rattle.cbor_machine.specs.declared.position.Position.TheVariants as positions
use Rattle.cbor_machine.specs.{State.IsFit, State.IsSettled, declared.frame.Frame.Frame, declared.opening.ArgumentType.ArgumentType}
use Rattle.cbor_machine.specs.{declared.position.Position.Position, MachineView.MachineView, inner.Machine.IsShown}
use Rattle.cbor_machine.specs.declared.machine.saved.SavedMachine.{SavedMachine}

abbrev pub flag_at : ℕ → Bool
flag_at (suc zero) = true
flag_at _ = false

abbrev pub kind_at : ℕ → ArgumentType
kind_at zero = numbered.Unsigned
kind_at (suc zero) = numbered.Negative
kind_at (suc (suc zero)) = numbered.Bytes
kind_at (suc (suc (suc zero))) = numbered.Text
kind_at (suc (suc (suc (suc zero)))) = numbered.Array
kind_at (suc (suc (suc (suc (suc zero))))) = numbered.Map
kind_at _ = numbered.Tag

abbrev pub width_at : ℕ → Width
width_at zero = widths.Direct
width_at (suc zero) = widths.One
width_at (suc (suc zero)) = widths.Two
width_at (suc (suc (suc zero))) = widths.Four
width_at (suc (suc (suc (suc zero)))) = widths.Eight
width_at _ = widths.Indefinite

abbrev pub frame_by : ℕ → ℕ → Frame
frame_by left zero = frames.Array left
frame_by left (suc zero) = frames.IndefiniteArray
frame_by left (suc (suc zero)) = frames.Map left false
frame_by left (suc (suc (suc zero))) = frames.Map left true
frame_by left (suc (suc (suc (suc zero)))) = frames.IndefiniteMap false
frame_by left (suc (suc (suc (suc (suc zero))))) = frames.IndefiniteMap true
frame_by left _ = frames.Tag

abbrev pub frames_by : List ℕ → List ℕ → List Frame
frames_by [] kinds = []
frames_by (left ∷ lefts) [] = []
frames_by (left ∷ lefts) (kind ∷ kinds) = frame_by left kind ∷ frames_by lefts kinds

-- by the chunk's flag, the type, the width, what is left of the argument, and the number
abbrev pub position_by : Bool → ArgumentType → Width → ℕ → ℕ → ℕ → Position
position_by chunk kind width left number zero = positions.Item
position_by chunk kind width left number (suc zero) = positions.Head chunk kind width left number
position_by chunk kind width left number (suc (suc zero)) = positions.SimpleNumber
position_by chunk kind width left number (suc (suc (suc zero))) = positions.Payload chunk kind number
position_by chunk kind width left number (suc (suc (suc (suc zero)))) = positions.Chunks kind
position_by chunk kind width left number _ = positions.Done

abbrev pub position_in : SavedMachine → Position
position_in s = position_by (flag_at s.chunk) (kind_at s.kind) (width_at s.width) s.left s.number s.position

abbrev pub refusal_by : ℕ → ℕ → ℕ → Option Refusal
refusal_by place read zero = None
refusal_by place read (suc (suc zero)) = Some (refusal TooLong place read)
refusal_by place read (suc (suc (suc zero))) = Some (refusal Reserved place read)
refusal_by place read (suc (suc (suc (suc zero)))) = Some (refusal NoIndefinite place read)
refusal_by place read (suc (suc (suc (suc (suc zero))))) = Some (refusal Float place read)
refusal_by place read (suc (suc (suc (suc (suc (suc zero)))))) = Some (refusal BadSimple place read)
refusal_by place read (suc (suc (suc (suc (suc (suc (suc zero))))))) = Some (refusal StrayBreak place read)
refusal_by place read (suc (suc (suc (suc (suc (suc (suc (suc zero)))))))) = Some (refusal BadChunk place read)
refusal_by place read _ = Some (refusal TooDeep place read)

abbrev pub refusal_in : SavedMachine → Option Refusal
refusal_in s = refusal_by s.place s.taken s.reason

abbrev pub frames_in : SavedMachine → List Frame
frames_in s = frames_by (take s.open s.lefts) (take s.open s.kinds)

-- The numbers are those of this machine, and a machine can have them.
pub record IsHeld (s : SavedMachine) (m : MachineView) : Type 0 where
  pub position : m.inner.position ≡ position_in s
  pub frames : m.inner.frames ≡ frames_in s
  pub refusal : m.refusal ≡ refusal_in s
  pub shown : IsShown m
  pub bounds : AreBounds (bounds s.depth s.bytes)
  pub within : s.open ≤ s.depth
  pub limited : s.taken ≤ s.bytes
  pub fits : IsFit s.depth (frames_in s) (position_in s)
  pub settled : refusal_in s ≡ None → IsSettled (frames_in s) (position_in s) → s.reported ≡ s.taken
