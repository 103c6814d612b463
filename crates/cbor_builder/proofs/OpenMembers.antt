-- What a builder represents as it is given members.
use Rattle.std.proofs.Common.{◌≡◌, ℕ, List, [], ◌∷◌, ◌++◌, length, length-take, take, refl, sym, subst, arith, Result, OnOk}
use Rattle.std.{specs.Global.Vec, proofs.lemmas.Result.on_ok_weaker}
use Rattle.cbor_head.specs.declared.order.KeyOrder.{KeyOrder}
use Rattle.theory_values.specs.Parts.{plain, closed, close, give, extended}
use Rattle.cbor_builder.specs.inner.Laid.{shape_open, outer_spans, opens, Takes, IsReady, shape_after, spans_after, KeepsRising, Completed, Agrees, IsString, Laid}
use Rattle.cbor_builder.specs.inner.BuilderState.{IsLaid, IsLaidWith, CoreLeaves, open_levels, frames, outers}
use Rattle.cbor_builder.proofs.Growth.{given, ended, key_ready, lengthened, finished}
use Rattle.cbor_builder.{specs.declared.span.Span.Span, proofs.Nesting.rooted_given, specs.declared.builder.Core.Core, specs.declared.frame.Frame.Frame}

-- ---- one more member

pub member_ready : (s : Core) (out b : List ℕ) (at : ℕ) → IsLaid s → out ≡ s.out ++ b → at ≡ length s.out → IsReady out s.spans.items at s.top.shape
member_ready s out b at laid e ea = key_ready s.order s.out b s.spans.items s.top (outers s) out at laid.0 e ea

pub member_given : {A E : Type 0} (r : Result A E) (s : Core) (out b : List ℕ) (at : ℕ) (f' : Frame) (spans : Vec Span) → IsLaid s → Takes s.top.shape → out ≡ s.out ++ b → at ≡ length s.out
    → f'.from ≡ s.top.from → f'.start ≡ s.top.start → f'.shape ≡ shape_after at s.top.shape → OnOk r (spans.items ≡ spans_after out s.spans.items at s.top.shape)
    → KeepsRising s.order out s.spans.items at s.top.shape s.top.rises f'.rises → CoreLeaves r s (record s { out = out; top = f'; spans = spans }) (give b (open_levels s))
member_given r s out b at f' spans laid takes e ea from start shape made rises =
    record { order = refl; laid = on_ok_weaker r (λ m. (agrees (from, start, shape, m, rises)).0) made; given = on_ok_weaker r (λ m. (agrees (from, start, shape, m, rises)).1) made }
  where
    agrees : Completed s.order s.spans.items at s.top out spans.items f' → IsLaidWith (record s { out = out; top = f'; spans = spans }) (give b (open_levels s))
    agrees c =
        let o = s.order in
        let ss = s.spans.items in
        let f = s.top in
        let g = given o s.out b ss f (outers s) out spans.items f' laid.0 takes e (subst (λ k. Completed o ss k f out spans.items f') ea c) in
        ((g.0, rooted_given o out ss at f f' s.is_open s.below.items from start shape rises laid.1), g.1)

-- ---- nothing open

pub whole_item : (c : Core) → IsLaid c → (bs : List ℕ) → open_levels c ≡ plain bs ∷ [] → c.out ≡ bs
whole_item c laid bs e = finished c.order c.out c.spans.items c.top (outers c) laid.0 bs e

-- ---- what ends

pub member_outer : (o : KeyOrder) (out out' x : List ℕ) (ss ss1 : List Span) (f g : Frame) (fs : List Frame) → Laid o out ss (f ∷ g ∷ fs) → out' ≡ take f.from out ++ x → ss1 ≡ outer_spans ss f.shape
    → IsReady out' ss1 f.from g.shape
member_outer o out out' x ss ss1 f g fs s e es =
    subst (λ (us : List Span). IsReady out' us f.from g.shape) (sym es)
    (key_ready o (take f.from out) x (outer_spans ss f.shape) g fs out' f.from s.3 e (omega (arith, length-take f.from out, s.0, s.1)))

pub member_ended : (o : KeyOrder) (out out' : List ℕ) (ss ss1 : List Span) (f g : Frame) (fs : List Frame) (ss' : List Span) (g' : Frame) → Laid o out ss (f ∷ g ∷ fs) → Takes g.shape
    → out' ≡ take f.from out ++ closed o (shape_open out ss f.start f.shape) → ss1 ≡ outer_spans ss f.shape → Completed o ss1 f.from g out' ss' g'
    → Agrees o out' ss' (g' ∷ fs) (close o (opens out ss (f ∷ g ∷ fs)))
member_ended o out out' ss ss1 f g fs ss' g' s takes e es c = ended o out ss f g fs out' ss' g' s takes e (subst (λ (us : List Span). Completed o us f.from g out' ss' g') es c)

pub member_longer : (s : Core) (out b : List ℕ) → IsLaid s → IsString s.top.shape → out ≡ s.out ++ b → IsLaidWith (record s { out = out }) (extended b (open_levels s))
member_longer s out b laid string e =
    let st = coe 1 0 (i. Agrees s.order (e i) s.spans.items (frames s) (extended b (open_levels s))) (lengthened s.order s.out b s.spans.items s.top (outers s) laid.0 string) in
    ((st.0, laid.1), st.1)
