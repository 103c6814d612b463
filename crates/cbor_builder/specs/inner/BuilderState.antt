-- What a builder represents.
use Rattle.std.specs.Prelude.{if◌then◌else◌, Bool, false, ◌≡◌, ◌↔◌, List, [], ◌∷◌, ◌++◌, reverse, take, drop, IsPermutation, IsTrue, Result, OnOk, IfOk}
use Rattle.theory_values.specs.Parts.{Open, HasNoRepeats}
use Rattle.cbor_builder.specs.inner.Laid.{outermost, shape_open, opens, Laid}
use Rattle.cbor_builder.specs.declared.{span.Span.Span, builder.Core.Core, frame.Frame.Frame, frame.Shape.Shape, frame.Shape.TheVariants.Map}

-- what is around the innermost, from within: the outermost last, which is always the same
abbrev pub outers : Core → List Frame
outers c = if c.is_open then reverse c.below.items ++ outermost ∷ [] else []

abbrev pub frames : Core → List Frame
frames c = c.top ∷ outers c

-- if nothing is open, the innermost is the outermost
abbrev pub IsRooted : Core → Type 0
IsRooted c = c.is_open ≡ false → (c.top ≡ outermost) × (c.below.items ≡ [])

abbrev pub open_levels : Core → List Open
open_levels c = opens c.out c.spans.items (frames c)

abbrev pub innermost : Core → Open
innermost c = shape_open c.out c.spans.items c.top.start c.top.shape

abbrev pub IsLaid : Core → Type 0
IsLaid c = Laid c.order c.out c.spans.items (frames c) × IsRooted c

-- it is laid, and these are open
abbrev pub IsLaidWith : Core → List Open → Type 0
IsLaidWith c os = IsLaid c × (open_levels c ≡ os)

-- after a call the order is unchanged, and these are open unless memory ran out
pub record CoreLeaves {A E : Type 0} (r : Result A E) (old new : Core) (os : List Open) : Type 0 where
  pub order : new.order ≡ old.order
  pub laid : OnOk r (IsLaid new)
  pub given : OnOk r (open_levels new ≡ os)

-- ---- while the pairs of a map are compared

-- the spans of the innermost container may be in another order than they arrived in, if it is a map whose next key is expected
abbrev pub IsReordered : List Span → List Span → Shape → Type 0
IsReordered came ss (Map first) = (take first ss ≡ take first came) × IsPermutation (drop first came) (drop first ss)
IsReordered came ss s = ss ≡ came

-- the invariant, for the spans in the order in which they arrived
abbrev pub WasLaid : List Span → Core → Type 0
WasLaid came c = Laid c.order c.out came (frames c) × IsReordered came c.spans.items c.top.shape

abbrev pub came_open_levels : List Span → Core → List Open
came_open_levels came c = opens c.out came (frames c)

-- what is open does not end: its pairs may be in another order, and all else is unchanged
abbrev pub IsLeftOpen : Core → Core → Type 0
IsLeftOpen old new = WasLaid old.spans.items new × (came_open_levels old.spans.items new ≡ open_levels old)

-- after a call that ends the innermost: these are open if no two of its keys are equal, otherwise what was open before
pub record CoreEnds {E : Type 0} (r : Result Bool E) (old new : Core) (os : List Open) : Type 0 where
  pub order : new.order ≡ old.order
  pub distinct : IfOk r (λ distinct. IsTrue distinct ↔ HasNoRepeats (innermost old))
  pub ended : IfOk r (λ distinct. IsTrue distinct → IsLaidWith new os)
  pub left : IfOk r (λ distinct. distinct ≡ false → IsLeftOpen old new)
