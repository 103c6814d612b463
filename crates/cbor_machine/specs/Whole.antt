-- Events that are consumed from a slice at once.
use Rattle.std.specs.Prelude.{◌≡◌, ℕ, ◌+◌, ◌-◌, ◌/◌, ◌%◌, ◌<◌, ◌≤◌, Bool, true, List, [], ◌∷◌, length, take}
use Rattle.cbor_head.specs.{declared.event.EventKind.EventKind, Prelude.IsSimple, declared.major.Major.Major, declared.width.Width.Width, Argument.IsArgument}
use Rattle.theory_automaton.specs.Automaton.{Frame, State, in_head, after, mark, run, reached, has_space, major_at}
use Rattle.theory_automaton.specs.{Marks.marks_of, Marks.IsProper, Pieces.piece_by}
use Rattle.cbor_machine.specs.declared.token.Token.TheVariants as tokens
use Rattle.cbor_machine.specs.{Token.kind_of, declared.token.Token.Token, declared.whole_event.DefiniteHead.DefiniteHead, declared.whole_event.Whole.Whole}

-- the bytes begin with this head, and an item may have it within these open containers
pub record IsHeadHere (d : ℕ) (fs : List Frame) (xs : List ℕ) (h : DefiniteHead) : Type 0 where
  pub following : List ℕ
  pub rest : List ℕ
  pub is : xs ≡ h.first ∷ following
  pub argument : IsArgument (h.first % 32) following h.width h.number rest
  pub used : h.used ≡ length xs - length rest
  pub small : h.first < 256
  pub space : h.first < 224 → has_space d fs (major_at (h.first / 32)) ≡ true
  pub simple : 224 ≤ h.first → (h.first % 32 ≤ 24) × (h.first % 32 ≡ 24 → 32 ≤ h.number)

-- from one state to another, these bytes are this event
pub record IsEventRun (d : ℕ) (q u : State) (bs : List ℕ) (w : Width) (kind : EventKind) : Type 0 where
  pub ran : run d q bs ≡ reached u (marks_of w kind)
  pub proper : IsProper w kind

-- the number of a simple value exists
abbrev pub IsNumberOf : Token → ℕ → Type 0
IsNumberOf tokens.Simple n = IsSimple n
IsNumberOf token n = Unit {0}

-- The bytes at the start, one more than are left after the next, are this argument of a head that is open.
abbrev pub IsArgumentLeft : ℕ → ℕ → List ℕ → Type 0
IsArgumentLeft left n xs = (d : ℕ) (chunk : Bool) (m : Major) (w : Width) (fs : List Frame) → run d (in_head chunk m w left 0 fs) (take (left + 1) xs) ≡ reached (after chunk m n fs) (mark chunk m w n ∷ [])

-- this number of bytes, at least one, is available
abbrev pub IsPrefix : ℕ → List ℕ → Type 0
IsPrefix n xs = (0 < n) × (n ≤ length xs)

-- from one state to another, what comes before these bytes is this event
abbrev pub ReportsPrefix : ℕ → State → State → List ℕ → Whole → Type 0
ReportsPrefix d q u from w = IsEventRun d q u (take w.used from) w.width (kind_of w.token w.number)

-- an event that is not a piece leaves the last piece unchanged
abbrev pub LeavesPiece : Whole → Type 0
LeavesPiece w = (kept from : List ℕ) → piece_by (kind_of w.token w.number) kept from ≡ kept
