-- The result of a walk over some bytes.
use Rattle.std.specs.Prelude.{◌≡◌, ℕ, ◌++◌, List, [], ◌∷◌}
use Rattle.theory_automaton.specs.Automaton.{State, refuses, take_byte, run, reached}
use Rattle.theory_automaton.specs.Marks.{marks_of, times, IsProper}
use Rattle.theory_automaton.specs.Reasons.{IsFormReason}
use Rattle.cbor_machine.specs.declared.feed.FeedResult.TheVariants.{More, Reported, Refused}
use Rattle.cbor_machine.specs.declared.feed.FeedResult.{FeedResult}

-- the result of bytes that were given to a machine in state q, which is in state t now
abbrev pub IsWalked : FeedResult → ℕ → State → State → List ℕ → Type 0
IsWalked More d q t bs = run d q bs ≡ reached t []
IsWalked (Reported w kind) d q t bs = run d q bs ≡ reached t (marks_of w kind)
IsWalked (Refused r) d q t bs =
    (prefix : List ℕ) × (c : ℕ) × (bs ≡ prefix ++ c ∷ []) × (run d q prefix ≡ reached t []) × (take_byte d t c ≡ refuses r)

abbrev pub IsReported : FeedResult → Type 0
IsReported (Reported w kind) = Unit {0}
IsReported _ = ⊥

abbrev pub IsWalkedProper : FeedResult → Type 0
IsWalkedProper (Reported w kind) = IsProper w kind
IsWalkedProper _ = Unit {0}

abbrev pub IsWalkedReason : FeedResult → Type 0
IsWalkedReason (Refused r) = IsFormReason r
IsWalkedReason _ = Unit {0}

-- the number of marks of the event: the bytes of a piece, 1 for any other event
abbrev pub reported_times : FeedResult → ℕ
reported_times (Reported w kind) = times kind
reported_times _ = 0

abbrev pub IsEnded : FeedResult → Type 0
IsEnded More = ⊥
IsEnded _ = Unit {0}
