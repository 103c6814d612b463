-- The open containers, with the innermost one in a field of its own.
use Rattle.std.specs.Prelude.{◌≡◌, ℕ, ◌+◌, ◌≤◌, Bool, true, false, List, [], ◌∷◌, ◌++◌, map, take, drop, length}
use Rattle.cbor_head.specs.Prelude.{initial_reason}
use Rattle.theory_automaton.specs.Automaton as automaton
use Rattle.theory_automaton.specs.{Automaton.indefinite_array, Automaton.indefinite_map, Trace.a_break}
use Rattle.cbor_machine.specs.declared.frame.Frame.TheVariants.{Array, IndefiniteArray, Map, IndefiniteMap, Tag}
use Rattle.cbor_machine.specs.declared.container_stack.Slot.TheVariants.{Item, Content, Key, Value, IndefiniteItem, IndefiniteKey, IndefiniteValue}
use Rattle.cbor_machine.specs.declared.position.Position.TheVariants as positions
use Rattle.cbor_machine.specs.{State.frames_of, State.state_of, declared.frame.Frame.Frame, declared.frame.TheConstants.MOST_OPEN}
use Rattle.cbor_machine.specs.declared.{container_stack.Slot.Slot, container_stack.Level.Level, position.Position.Position}

-- an open container, by what is expected in it and how much follows that
abbrev pub expected_frame : Slot → ℕ → Frame
expected_frame Item n = Array n
expected_frame Content n = Tag
expected_frame Key n = Map n false
expected_frame Value n = Map n true
expected_frame IndefiniteItem n = IndefiniteArray
expected_frame IndefiniteKey n = IndefiniteMap false
expected_frame IndefiniteValue n = IndefiniteMap true

abbrev pub level_frame : Level → Frame
level_frame l = expected_frame l.expected l.left

-- the levels from the two arrays
abbrev pub joined : List Slot → List ℕ → List Level
joined [] ns = []
joined (d ∷ ds) [] = []
joined (d ∷ ds) (n ∷ ns) = record { expected = d; left = n } ∷ joined ds ns

-- all levels, the input itself first
abbrev pub levels : List Level → ℕ → Level → List Frame
levels outer height top = map level_frame (take height outer ++ top ∷ [])

-- the open containers, the innermost last
abbrev pub nested : List Level → ℕ → Level → List Frame
nested outer height top = drop 1 (levels outer height top)

-- the first level is the input itself, with one item expected
pub record IsRooted (outer : List Level) (height : ℕ) (top : Level) : Type 0 where
  pub space : length outer ≡ MOST_OPEN + 1
  pub fits : height ≤ MOST_OPEN
  pub root : levels outer height top ≡ Tag ∷ nested outer height top

-- the same for the two arrays
pub record IsContainerStack (slots : List Slot) (lefts : List ℕ) (height : ℕ) (top : Level) : Type 0 where
  pub slots_space : length slots ≡ MOST_OPEN + 1
  pub lefts_space : length lefts ≡ MOST_OPEN + 1
  pub rooted : IsRooted (joined slots lefts) height top

-- the state after an item in the innermost container, which continues or is full
abbrev pub advanced : Bool → automaton.Frame → List automaton.Frame → automaton.State
advanced true f fs = automaton.at_item (f ∷ fs)
advanced false f fs = automaton.close fs

-- an item is complete in this container, for any containers around it: the container continues as the other, or is full
abbrev pub IsAdvanced : Bool → automaton.Frame → automaton.Frame → Type 0
IsAdvanced goes_on old new = (fs : List automaton.Frame) → automaton.close (old ∷ fs) ≡ advanced goes_on new fs

-- a container of indefinite length in which no value is expected
abbrev pub ends_by_break : automaton.Frame → Bool
ends_by_break indefinite_array = true
ends_by_break (indefinite_map false) = true
ends_by_break f = false

-- where the next byte belongs after an item
abbrev pub position_after : Bool → Position
position_after true = positions.Done
position_after false = positions.Item

-- a break where an item is expected in the first containers leads to this position in the others
abbrev pub IsEnded : List Frame → Position → List Frame → Type 0
IsEnded old position new = (c : ℕ) → automaton.break_at (frames_of old) c ≡ automaton.reports a_break (state_of position new)

-- where an item is expected in these containers, a break is not allowed
abbrev pub IsStrayBreak : List Frame → Type 0
IsStrayBreak fs = (c : ℕ) → automaton.break_at (frames_of fs) c ≡ automaton.refuses (initial_reason c)
