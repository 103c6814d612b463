-- Which pairs of a map have equal keys, and which one is reported.
use Rattle.std.specs.Prelude.{ℕ, suc, Bool, nat_lt, ◌+◌, ◌^◌, ◌≡◌, ◌≢◌, ◌<◌, ◌≤◌, ◌⊎◌, List, length, Option, Some, None, IfSome, slice_index_or, MatchOption, IsPermutation, min, max}
use Rattle.std.specs.List.{AllByRecursion}
use Rattle.theory_values.specs.Parts.{Open}
use Rattle.cbor_builder.specs.Built.{keys_so_far, open_maps, IsFirstRepeat, AreAllDifferent, AreOpenKeysDifferent, IsRepeatReported}
use Rattle.cbor_builder.specs.{declared.span.Span.Span, inner.Spans.no_span, inner.Prefix.key_of, inner.Prefix.ArePrefixed, inner.Laid.Tile}
use Rattle.cbor_builder.specs.declared.{frame.Shape.Shape, frame.Shape.TheVariants.Map, frame.Shape.TheVariants.Key, repeat.Repeat.Repeat, repeats.Tie.Tie}

abbrev pub nth : List Span → ℕ → Span
nth ss i = slice_index_or ss i no_span

-- where a pair is: twice its middle, which rises from pair to pair, except for pairs of no bytes at one offset
abbrev pub place : Span → ℕ
place s = s.key + s.end

-- it fits a word
abbrev pub HasPlace : Span → Type 0
HasPlace s = place s < 2 ^ 64

abbrev pub ArePlaced : List Span → Type 0
ArePlaced ss = AllByRecursion HasPlace ss

abbrev pub lies_before : ℕ → Span → Bool
lies_before at s = nat_lt (place s) at

-- the second are the spans of pairs in any order, and the first are the same in the order in which they arrived
abbrev pub AreOf : List ℕ → List Span → List Span → Type 0
AreOf out xs ys = (start : ℕ) × (end : ℕ) × Tile start xs end × (end ≤ length out) × ArePrefixed out xs × IsPermutation xs ys

-- equal keys are next to each other
abbrev pub AreGrouped : List ℕ → List Span → Type 0
AreGrouped out ss = (i j k : ℕ) → i ≤ j → j ≤ k → k < length ss → key_of out (nth ss i) ≡ key_of out (nth ss k) → key_of out (nth ss j) ≡ key_of out (nth ss k)

-- no key is equal to the next one
abbrev pub DoNeighboursDiffer : List ℕ → List Span → Type 0
DoNeighboursDiffer out ss = (i : ℕ) → suc i < length ss → key_of out (nth ss i) ≢ key_of out (nth ss (suc i))

-- two with equal keys, by their offsets
abbrev pub IsTie : List ℕ → ℕ → ℕ → Span → Span → Type 0
IsTie out earlier later x y = (key_of out x ≡ key_of out y) × (min (place x) (place y) ≡ earlier) × (max (place x) (place y) ≡ later)

-- two of the first n are a tie
abbrev pub HasTie : List ℕ → List Span → ℕ → ℕ → ℕ → Type 0
HasTie out ss n earlier later = (i : ℕ) × (j : ℕ) × (i < j) × (j < n) × IsTie out earlier later (nth ss i) (nth ss j)

-- it comes no later than another: by the later pair, and if that is the same, by the earlier one
abbrev pub IsUpTo : Tie → ℕ → ℕ → Type 0
IsUpTo t earlier later = (t.later ≤ later) × (t.later ≡ later → t.earlier ≤ earlier)

-- the first tie among the first n
abbrev pub IsFirstTie : List ℕ → List Span → ℕ → Option Tie → Type 0
IsFirstTie out ss n r =
    MatchOption r ((earlier later : ℕ) → HasTie out ss n earlier later → ⊥)
    (λ (t : Tie). HasTie out ss n t.earlier t.later × ((earlier later : ℕ) → HasTie out ss n earlier later → IsUpTo t earlier later))

-- the first of two ties, of which one may be missing
abbrev pub IsFirstOf : Option Tie → Tie → Tie → Type 0
IsFirstOf found tie t =
    ((found ≡ Some t) ⊎ (t ≡ tie)) × IsUpTo t tie.earlier tie.later × IfSome found (λ (f : Tie). IsUpTo t f.earlier f.later)

-- of those of the first n that have this key, the least offset
abbrev pub IsLeastOfKey : List ℕ → List Span → ℕ → List ℕ → ℕ → Type 0
IsLeastOfKey out ss n key least =
    ((i : ℕ) × (i < n) × (key_of out (nth ss i) ≡ key) × (place (nth ss i) ≡ least)) × ((i : ℕ) → i < n → key_of out (nth ss i) ≡ key → least ≤ place (nth ss i))

-- the index of the first span of what is open
abbrev pub first_of : List Span → Shape → ℕ
first_of ss (Map first) = first
first_of ss (Key first at) = first
first_of ss s = length ss

-- the pair that is reported of what is open
abbrev pub ReportsOf : Open → Option ℕ → Type 0
ReportsOf c r = MatchOption r (AreAllDifferent (keys_so_far c)) (IsFirstRepeat (keys_so_far c))

-- 1 for a map, 0 for anything else
abbrev pub maps_of : Shape → ℕ
maps_of (Map first) = 1
maps_of (Key first at) = 1
maps_of s = 0

-- what is reported of a container and its members: the container's own repeated key, or else the one in its members, with this container's
-- maps around it
abbrev pub outward : Option ℕ → Option Repeat → ℕ → Option Repeat
outward (Some pair) within maps = Some (record { outside = 0; pair = pair })
outward None (Some t) maps = Some (record { outside = t.outside + maps; pair = t.pair })
outward None None maps = None

-- What is found so far, if these are still around it: a repeated key of theirs is reported first; otherwise what was found is reported,
-- with their maps around it.
abbrev pub ReportsWithin : List Open → List Open → Option Repeat → Type 0
ReportsWithin whole os found =
    ((outside pair : ℕ) → IsRepeatReported os outside pair → IsRepeatReported whole outside pair)
    × (AreOpenKeysDifferent os → MatchOption found (AreOpenKeysDifferent whole) (λ (t : Repeat). IsRepeatReported whole (t.outside + open_maps os) t.pair))

-- it is within at most this number of maps
abbrev pub IsBelow : Option Repeat → ℕ → Type 0
IsBelow found n = IfSome found (λ (t : Repeat). t.outside ≤ n)

abbrev pub Reports : List Open → Option Repeat → Type 0
Reports os r = MatchOption r (AreOpenKeysDifferent os) (λ (t : Repeat). IsRepeatReported os t.outside t.pair)
