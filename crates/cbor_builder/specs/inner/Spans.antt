-- Pairs of maps as spans of the buffer.
use Rattle.std.specs.Prelude.{ℕ, ◌≤◌, List, length, slice_range}
use Rattle.std.specs.List.{AllByRecursion}
use Rattle.cbor_head.specs.Prelude.{Pair}
use Rattle.cbor_builder.specs.declared.span.Span.{Span}

abbrev pub span_pair : List ℕ → Span → Pair
span_pair out s = record { key = slice_range out s.key s.val; value = slice_range out s.val s.end }

-- the key and the value of a pair follow each other
abbrev pub IsWithin : List ℕ → Span → Type 0
IsWithin out s = (s.key ≤ s.val) × (s.val ≤ s.end) × (s.end ≤ length out)

abbrev pub AreWithin : List ℕ → List Span → Type 0
AreWithin out ss = AllByRecursion (IsWithin out) ss

-- the value for an index past the end
abbrev pub no_span : Span
no_span = record { prefix = 0; key = 0; val = 0; end = 0 }
