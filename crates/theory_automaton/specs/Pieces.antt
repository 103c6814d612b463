-- The bytes of a piece.
use Rattle.std.specs.Prelude.{ℕ, List, take}
use Rattle.cbor_head.specs.declared.event.EventKind.{EventKind, TheVariants.Piece}

-- the length of a piece
abbrev pub kind_size : EventKind → ℕ
kind_size (Piece n) = n
kind_size kind = 0

-- the last piece: that in the buffer after a piece, unchanged after any other event
abbrev pub piece_by : EventKind → List ℕ → List ℕ → List ℕ
piece_by (Piece n) kept buffer = take n buffer
piece_by kind kept buffer = kept
