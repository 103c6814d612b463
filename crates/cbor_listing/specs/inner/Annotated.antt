-- What holds for an event whose lines are made.
use Rattle.std.specs.Prelude.{ℕ, ◌+◌, ◌-◌, ◌≤◌}
use Rattle.cbor_head.specs.declared.event.EventKind.{EventKind, TheVariants.Piece}
use Rattle.cbor_listing.specs.declared.annotated_line.Context.{Context}

-- a head or a break has few bytes
abbrev pub IsShortHead : EventKind → ℕ → Type 0
IsShortHead (Piece n) size = Unit {0}
IsShortHead kind size = size ≤ 16

-- all bytes of a payload of which none is missing were read
abbrev pub IsHeld : ℕ → Context → Type 0
IsHeld taken context = context.begun + context.size ≤ taken + context.left

-- the same after a piece
abbrev pub IsHeldAfter : EventKind → ℕ → Context → Type 0
IsHeldAfter (Piece n) taken context = context.begun + context.size ≤ taken + (context.left - n)
IsHeldAfter kind taken context = Unit {0}
