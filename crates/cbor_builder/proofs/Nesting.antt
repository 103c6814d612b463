-- What is around the innermost.
use Rattle.std.proofs.Common.{◌≡◌, ◌^◌, ◌≤◌, ℕ, Bool, true, false, List, [], ◌∷◌, ◌++◌, length, length-append, refl, ap, ◌∙◌, subst, arith, if◌then◌else◌, IsTrue, reverse}
use Rattle.std.proofs.lemmas.List.{length-reverse}
use Rattle.cbor_head.specs.declared.order.KeyOrder.{KeyOrder}
use Rattle.cbor_builder.specs.inner.Laid.{outermost, KeepsRising, OuterTakes, shape_after}
use Rattle.cbor_builder.specs.{declared.span.Span.Span, inner.BuilderState.outers, declared.builder.Core.Core, declared.frame.Frame.Frame}

-- a member of the item itself changes nothing in its frame
pub rooted_given : (o : KeyOrder) (out : List ℕ) (ss : List Span) (at : ℕ) (f f' : Frame) (opened : Bool) (below : List Frame) → f'.from ≡ f.from → f'.start ≡ f.start → f'.shape ≡ shape_after at f.shape
    → KeepsRising o out ss at f.shape f.rises f'.rises → (opened ≡ false → (f ≡ outermost) × (below ≡ [])) → opened ≡ false → (f' ≡ outermost) × (below ≡ [])
rooted_given o out ss at f f' opened below from start shape rises r is =
    let e = (r is).0 in
    let a = from ∙ ap (λ (g : Frame). g.from) e in
    let b = start ∙ ap (λ (g : Frame). g.start) e in
    let c = shape ∙ ap (λ (g : Frame). shape_after at g.shape) e in
    let d = subst (λ (g : Frame). KeepsRising o out ss at g.shape g.rises f'.rises) e rises in
    (λ i. record { from = a i; start = b i; shape = c i; rises = d i }, (r is).1)

-- their number fits in memory
pub outers_fit : (c : Core) → length (outers c) ≤ 2 ^ 63
outers_fit c = go c.is_open
  where
    go : (opened : Bool) → length (if opened then reverse c.below.items ++ outermost ∷ [] else []) ≤ 2 ^ 63
    go true = let l = length-append (reverse c.below.items) (outermost ∷ []) in let k = length-reverse c.below.items in omega (arith, l, k, c.below.ok.0, c.below.ok.1, c.below.small)
    go false = omega arith

-- if something is around, it was found
pub found_around : (left : Bool) (fs : List Frame) → OuterTakes fs → (left ≡ false → fs ≡ []) → IsTrue left
found_around true fs h n = refl
found_around false fs h n = absurd (subst OuterTakes (n refl) h)
