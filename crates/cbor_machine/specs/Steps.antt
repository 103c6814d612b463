-- What a step does with the inner state.
use Rattle.std.specs.Prelude.{◌≡◌, ◌⊎◌, ℕ, ◌+◌, ◌++◌, List, [], ◌∷◌, length, None}
use Rattle.cbor_head.specs.{Prelude.refusal, declared.reason.Reason.TheVariants.TooLong, declared.reason.Refusal.Refusal}
use Rattle.theory_automaton.specs.Automaton as automaton
use Rattle.theory_automaton.specs.Automaton.{run, take_byte, reached}
use Rattle.theory_automaton.specs.{Trace.Mark, Marks.marks_of, Marks.IsProper}
use Rattle.cbor_machine.specs.declared.step.Out.TheVariants as outs
use Rattle.cbor_machine.specs.{State.state_of, State.IsSettled, MachineView.MachineView, Machine.Represents, declared.step.Out.Out}

-- From one state to the next: bs led there, and reported these marks.
pub record Ran (old new : MachineView) (bs : List ℕ) (ns : List Mark) : Type 0 where
  pub ran : run old.depth (state_of old.inner.position old.inner.frames) bs ≡ reached (state_of new.inner.position new.inner.frames) ns
  pub taken : new.taken ≡ old.taken + length bs

-- The last of bs is refused, after the others.
pub record Stopped (old new : MachineView) (bs : List ℕ) (r : Refusal) : Type 0 where
  pub prefix : List ℕ
  pub byte : ℕ
  pub splits : bs ≡ prefix ++ byte ∷ []
  pub ran : run old.depth (state_of old.inner.position old.inner.frames) prefix ≡ reached (state_of new.inner.position new.inner.frames) []
  pub refuses : take_byte old.depth (state_of new.inner.position new.inner.frames) byte ≡ automaton.refuses r.reason
  pub is : r ≡ refusal r.reason (old.taken + length prefix) (old.taken + length prefix + 1)

-- what a step that used bs returns, from one state to the next
abbrev pub IsStep : Out → MachineView → MachineView → List ℕ → Type 0
IsStep outs.More old new bs = Ran old new bs [] × (new.refusal ≡ None) × (new.reported ≡ old.reported)
IsStep (outs.Event e) old new bs =
    Ran old new bs (marks_of e.width e.kind) × (new.refusal ≡ None) × (e.place ≡ old.reported) × (new.reported ≡ new.taken) × IsSettled new.inner.frames new.inner.position × IsProper e.width e.kind
IsStep outs.Done old new bs = (bs ≡ []) × (new ≡ old)
IsStep (outs.Refused r) old new bs =
    (new.reported ≡ old.reported) × ((Ran old new bs [] × (new.taken ≡ new.bytes) × (r ≡ refusal TooLong new.bytes new.bytes)) ⊎ Stopped old new bs r)

-- all of bs was consumed, and some more marks were reported
abbrev pub Goes : MachineView → MachineView → List ℕ → Type 0
Goes old new bs = (t : List ℕ) (ms : List Mark) → Represents old t ms → (ns : List Mark) × Represents new (t ++ bs) (ms ++ ns)
