-- Spans of the innermost in another order than they arrived in.
use Rattle.std.proofs.Common.{◌≡◌, ℕ, Bool, List, [], ◌∷◌, length, length-drop, length-take, drop, take, refl, sym, ap, ◌∙◌, subst, arith, IsPermutation, IsTrue, ◌↔◌}
use Rattle.std.proofs.lemmas.List.{drop_all, Sorted.IsPermutation-refl, Sorted.length_permutation}
use Rattle.cbor_head.specs.declared.order.KeyOrder.{KeyOrder}
use Rattle.theory_values.specs.Parts.{Open}
use Rattle.cbor_builder.specs.inner.BuilderState.{outers, frames, IsReordered, IsLeftOpen}
use Rattle.cbor_builder.specs.inner.Laid.{shape_open, outer_spans, opens, Fits, Laid}
use Rattle.cbor_builder.specs.{declared.span.Span.Span, Built.IsRepeatedKey, declared.builder.Core.Core, declared.frame.Frame.Frame, declared.frame.Shape.Shape}
use Rattle.cbor_builder.specs.{declared.frame.Shape.TheVariants.Map, declared.frame.Shape.TheVariants.Key, inner.Repeats.first_of, inner.Repeats.AreOf}

pub reordered_refl : (ss : List Span) (s : Shape) → IsReordered ss ss s
reordered_refl ss (Map first) = (refl, IsPermutation-refl (drop first ss))
reordered_refl ss s = refl

pub reordered_outer : (came ss : List Span) (s : Shape) → IsReordered came ss s → outer_spans ss s ≡ outer_spans came s
reordered_outer came ss (Map first) h = h.0
reordered_outer came ss (Key first at) h = ap (take first) h
reordered_outer came ss s h = h

pub reordered_length : (came ss : List Span) (s : Shape) → IsReordered came ss s → length ss ≡ length came
reordered_length came ss (Map first) h =
    omega (arith, length-take first came, length-take first ss, length-drop first came, length-drop first ss, ap length h.0, length_permutation (drop first came) (drop first ss) h.1)
reordered_length came ss s h = ap length h

pub reordered_first : (came ss : List Span) (s : Shape) → IsReordered came ss s → first_of ss s ≡ first_of came s
reordered_first came ss (Map first) h = refl
reordered_first came ss (Key first at) h = refl
reordered_first came ss s h = ap length h

pub reordered_waits : (out : List ℕ) (came ss : List Span) (start : ℕ) (s : Shape) (os : List Open) (t : Bool) → IsReordered came ss s → (IsTrue t ↔ IsRepeatedKey (shape_open out ss start s ∷ os))
    → (IsTrue t ↔ IsRepeatedKey (shape_open out came start s ∷ os))
reordered_waits out came ss start (Key first at) os t h w = subst (λ (ss : List Span). IsTrue t ↔ IsRepeatedKey (shape_open out ss start (Key first at) ∷ os)) h w
reordered_waits out came ss start s os t h w = w

-- the spans of its own pairs
pub reordered_own : (o : KeyOrder) (out : List ℕ) (came ss : List Span) (from start : ℕ) (rises : Bool) (s : Shape) → Fits o out came from start rises s → IsReordered came ss s
    → AreOf out (drop (first_of came s) came) (drop (first_of came s) ss)
reordered_own o out came ss from start rises (Map first) f h = (start, length out, f.1, omega arith, f.3, h.1)
reordered_own o out came ss from start rises (Key first at) f h = (start, at, f.1, f.2, f.4, subst (λ (ss : List Span). IsPermutation (drop first came) (drop first ss)) (sym h) (IsPermutation-refl (drop first came)))
reordered_own o out came ss from start rises s f h =
    let none = drop_all (length came) came (omega arith) in coe 1 0 (i. AreOf out (none i) ((ap (drop (length came)) h ∙ none) i)) (0, 0, refl, omega arith, tt, IsPermutation-refl [])

-- ---- a map that does not end

pub left_open : (s n : Core) → Laid s.order s.out s.spans.items (frames s) → n.order ≡ s.order → n.out ≡ s.out → n.top ≡ s.top → outers n ≡ outers s → IsReordered s.spans.items n.spans.items s.top.shape → IsLeftOpen s n
left_open s n laid order out top around h = (
  (
    coe 1 0 (i. Laid (order i) (out i) s.spans.items (top i ∷ around i)) laid,
    coe 1 0 (i. IsReordered s.spans.items n.spans.items (Frame.shape (top i))) h,
  ),
  λ i. opens (out i) s.spans.items (top i ∷ around i),
)
