-- The open containers in a stack and its cells.
use Rattle.std.specs.Prelude.{List, ◌∷◌, take, reverse}
use Rattle.cbor_parser.specs.declared.stack.Stack.{Stack}

-- the containers around the innermost one; the last of them is the input itself
abbrev pub around : (L : Type 0) → Stack L → List L → List L
around L s cells = reverse (take s.height cells)

-- all open containers, the innermost first
abbrev pub open_levels : (L : Type 0) → Stack L → List L → List L
open_levels L s cells = s.top ∷ around L s cells
