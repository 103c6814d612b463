-- What a builder's buffer, spans and frames represent.
use Rattle.std.specs.Prelude.{ℕ, suc, Bool, true, IsTrue, ◌≡◌, ◌≢◌, ◌≤◌, ◌<◌, ◌^◌, ◌++◌, List, [], ◌∷◌, length, slice_range, map, take, drop}
use Rattle.cbor_head.specs.declared.major.Major.TheVariants as of_major
use Rattle.cbor_head.specs.{Prelude.Pair, declared.order.KeyOrder.KeyOrder, declared.major.Major.Major, declared.major.Major.TheVariants.Simple}
use Rattle.theory_values.specs.Parts.{Open, plain, an_array, a_map, a_key, a_string}
use Rattle.theory_values.specs.{Pairs.IsRising, KeyPrefix.prefix_of}
use Rattle.cbor_builder.specs.declared.frame.Shape.TheVariants.{Plain, Array, Map, Key, Content}
use Rattle.cbor_builder.specs.{declared.span.Span.Span, inner.Spans.span_pair, inner.Prefix.ArePrefixed, declared.frame.Frame.Frame, declared.frame.Shape.Shape}

-- the frame of the item itself, before any part of it was given
abbrev pub outermost : Frame
outermost = record { from = 0; start = 0; shape = Plain; rises = true }

-- the pairs of the map whose spans begin at an index
abbrev pub pairs_from : List ℕ → List Span → ℕ → List Pair
pairs_from out ss first = map (span_pair out) (drop first ss)

-- the spans follow each other from a to n
abbrev pub Tile : ℕ → List Span → ℕ → Type 0
Tile a [] n = a ≡ n
Tile a (s ∷ ss) n = (s.key ≡ a) × (s.key ≤ s.val) × (s.val ≤ s.end) × Tile s.end ss n

-- what is open, if its bytes end the buffer and its pairs end the spans
abbrev pub shape_open : List ℕ → List Span → ℕ → Shape → Open
shape_open out ss start Plain = plain (drop start out)
shape_open out ss start (Array n) = an_array n (drop start out)
shape_open out ss start (Map first) = a_map (pairs_from out ss first)
shape_open out ss start (Key first at) = a_key (pairs_from out ss first) (drop at out)
shape_open out ss start (Content m) = a_string m (drop start out)

-- the spans of what holds it
abbrev pub outer_spans : List Span → Shape → List Span
outer_spans ss (Map first) = take first ss
outer_spans ss (Key first at) = take first ss
outer_spans ss s = ss

-- what is open, the innermost first: each frame sees the buffer up to where the next one begins
abbrev pub opens : List ℕ → List Span → List Frame → List Open
opens out ss [] = []
opens out ss (f ∷ fs) = shape_open out ss f.start f.shape ∷ opens (take f.from out) (outer_spans ss f.shape) fs

abbrev pub Rises : KeyOrder → List ℕ → List Span → ℕ → Bool → Type 0
Rises o out ss first rises = IsTrue rises → IsRising o (pairs_from out ss first)

-- What a frame requires of the buffer up to its end: the spans of a map tile its content so far, and rise if they are
-- known to rise. The content of any other frame is one piece.
abbrev pub Fits : KeyOrder → List ℕ → List Span → ℕ → ℕ → Bool → Shape → Type 0
Fits o out ss from start rises Plain = start ≡ from
Fits o out ss from start rises (Array n) = n < 2 ^ 64
Fits o out ss from start rises (Map first) = (first ≤ length ss) × Tile start (drop first ss) (length out) × Rises o out ss first rises × ArePrefixed out (drop first ss)
Fits o out ss from start rises (Key first at) =
    (first ≤ length ss) × Tile start (drop first ss) at × (at ≤ length out) × Rises o out ss first rises × ArePrefixed out (drop first ss)
Fits o out ss from start rises (Content m) = m ≢ Simple

-- the invariant
abbrev pub Laid : KeyOrder → List ℕ → List Span → List Frame → Type 0
Laid o out ss [] = out ≡ []
Laid o out ss (f ∷ fs) =
    (f.from ≤ f.start) × (f.start ≤ length out) × Fits o out ss f.from f.start f.rises f.shape × Laid o (take f.from out) (outer_spans ss f.shape) fs

-- a part may be given: no string is open, and the count of an array stays below 2^64
abbrev pub Takes : Shape → Type 0
Takes (Content m) = ⊥
Takes (Array n) = suc n < 2 ^ 64
Takes s = Unit {0}

-- there is a frame around the one that closes, and it accepts one more member
abbrev pub OuterTakes : List Frame → Type 0
OuterTakes [] = ⊥
OuterTakes (f ∷ fs) = Takes f.shape

-- a string is open
abbrev pub IsString : Shape → Type 0
IsString (Content m) = Unit {0}
IsString s = ⊥

-- no key waits for its value
abbrev pub CanClose : Shape → Type 0
CanClose (Key first at) = ⊥
CanClose s = Unit {0}

-- ---- one more member, from at to the end

-- if a key waits for its value, the key comes before it, and the pairs hold the prefixes of their keys
abbrev pub IsReady : List ℕ → List Span → ℕ → Shape → Type 0
IsReady out ss at s = (first key : ℕ) → s ≡ Key first key → (first ≤ length ss) × (key ≤ at) × (at ≤ length out) × ArePrefixed out (drop first ss)

abbrev pub shape_after : ℕ → Shape → Shape
shape_after at (Array n) = Array (suc n)
shape_after at (Map first) = Key first at
shape_after at (Key first key) = Map first
shape_after at s = s

-- the pair that ends the buffer
abbrev pub span : List ℕ → ℕ → ℕ → Span
span out key val = record { prefix = prefix_of (slice_range out key val); key = key; val = val; end = length out }

abbrev pub spans_after : List ℕ → List Span → ℕ → Shape → List Span
spans_after out ss at (Key first key) = ss ++ span out key at ∷ []
spans_after out ss at s = ss

-- if the keys rise now, they rose before, and the new one is above them
abbrev pub KeepsRising : KeyOrder → List ℕ → List Span → ℕ → Shape → Bool → Bool → Type 0
KeepsRising o out ss at (Key first key) was now =
    IsTrue now → IsTrue was × (IsRising o (pairs_from out ss first) → IsRising o (map (span_pair out) (drop first ss ++ span out key at ∷ [])))
KeepsRising o out ss at s was now = now ≡ was

-- ---- what begins

abbrev pub opening_frame : Major → ℕ → ℕ → ℕ → Frame
opening_frame of_major.Array from end spans = record { from = from; start = end; shape = Array 0; rises = true }
opening_frame of_major.Map from end spans = record { from = from; start = end; shape = Map spans; rises = true }
opening_frame of_major.Tag from end spans = record { from = from; start = from; shape = Plain; rises = true }
opening_frame m from end spans = record { from = from; start = end; shape = Content m; rises = true }

-- ---- what a builder's parts represent, and the invariant of these

abbrev pub Agrees : KeyOrder → List ℕ → List Span → List Frame → List Open → Type 0
Agrees o out ss fs os = Laid o out ss fs × (opens out ss fs ≡ os)

-- the innermost is ready for one more member
abbrev pub Completed : KeyOrder → List Span → ℕ → Frame → List ℕ → List Span → Frame → Type 0
Completed o ss at f out ss' f' =
    (f'.from ≡ f.from) × (f'.start ≡ f.start) × (f'.shape ≡ shape_after at f.shape)
    × (ss' ≡ spans_after out ss at f.shape) × KeepsRising o out ss at f.shape f.rises f'.rises
