use Rattle.std.proofs.Common.{List, ◌∷◌, ◌++◌, take, sym, ap, ◌∙◌, subst, rules}
use Rattle.cbor_head.specs.declared.order.KeyOrder.{KeyOrder}
use Rattle.theory_values.{specs.Parts.close, specs.Parts.closed, proofs.Decided.holds}
use Rattle.cbor_builder.specs.inner.Laid.{Laid, OuterTakes, opens, shape_open}
use Rattle.cbor_builder.proofs.builder.Core.end.Goals as goal
use Rattle.cbor_builder.{proofs.OpenMembers.member_ended, proofs.OpenMembers.member_outer, specs.inner.BuilderState.outers, specs.declared.frame.Frame.Frame}
use Rattle.cbor_builder.proofs.{Nesting.rooted_given, Reordered.left_open}

pub returns-in_ok-complete-clause-ends : goal.returns-in_ok-complete-clause-ends
returns-in_ok-complete-clause-ends c =
    let s = c.args.self.now in
    let e = c.in_ok-complete.ensures in
    let k = c.in_ok-close_top.ensures in
    let done = c.if-not-branch.false in
    let n = c.leave.new.self in
    let o = n.order in
    let eo = c.leave.ensures.order ∙ k.order in
    let rev = sym k.around ∙ c.leave.ensures.frames c.if-leave.true in
    let laid : Laid o s.out s.spans.items (s.top ∷ n.top ∷ outers n) = coe 1 0 (i. Laid (eo i) s.out s.spans.items (s.top ∷ sym rev i)) c.requires.laid.0 in
    let bytes = c.leave.ensures.out ∙ k.bytes done ∙ ap (λ (o : KeyOrder). take s.top.from s.out ++ closed o (shape_open s.out s.spans.items s.top.start s.top.shape)) (sym eo) in
    let made = member_ended o s.out n.out s.spans.items n.spans.items s.top n.top (outers n) c.complete.new.spans.items c.complete.new.frame laid
    (subst OuterTakes rev c.requires.takes) bytes (c.leave.ensures.spans ∙ k.spans done) (e.from, e.start, e.shape, e.spans, e.rises) in
    let rooted = rooted_given o n.out n.spans.items s.top.from n.top c.complete.new.frame n.is_open n.below.items e.from e.start e.shape e.rises (c.leave.ensures.rooted c.if-leave.true) in
    record {
      order = eo;
      distinct = holds (k.distinct.0 done);
      ended = λ t. ((made.0, rooted), made.1 ∙ (λ i. close (eo i) (opens s.out s.spans.items (s.top ∷ sym rev i))));
      left = λ e. cc;
    }

pub returns-then-not-branch-clause-ends : goal.returns-then-not-branch-clause-ends
returns-then-not-branch-clause-ends c =
    let k = c.in_ok-close_top.ensures in
    let left = k.left c.if-not-branch.true in
    record { order = k.order; distinct = search rules; ended = λ t. cc; left = λ e. left_open c.args.self.now c.close_top.new.self c.requires.laid.0 k.order left.0 k.top k.around left.1 }

pub complete-requires-clause-ready : goal.complete-requires-clause-ready
complete-requires-clause-ready c =
    let s = c.args.self.now in
    let k = c.in_ok-close_top.ensures in
    let done = c.if-not-branch.false in
    let n = c.leave.new.self in
    let rev = sym k.around ∙ c.leave.ensures.frames c.if-leave.true in
    member_outer s.order s.out n.out (closed s.order (shape_open s.out s.spans.items s.top.start s.top.shape)) s.spans.items n.spans.items s.top n.top (outers n)
    (subst (λ (fs : List Frame). Laid s.order s.out s.spans.items (s.top ∷ fs)) rev c.requires.laid.0) (c.leave.ensures.out ∙ k.bytes done) (c.leave.ensures.spans ∙ k.spans done)
