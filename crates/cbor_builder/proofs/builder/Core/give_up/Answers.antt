use Rattle.std.proofs.Common.{take, sym, ap, ◌∙◌, rules}
use Rattle.theory_values.proofs.Decided.{holds}
use Rattle.cbor_builder.proofs.builder.Core.give_up.Goals as goal
use Rattle.cbor_builder.specs.{inner.BuilderState.outers, inner.Laid.opens, inner.Laid.Laid, declared.frame.Frame.Frame}
use Rattle.cbor_builder.proofs.{Nesting.found_around, Reordered.left_open}

pub returns-clause-ends : goal.returns-clause-ends
returns-clause-ends c =
    let s = c.args.self.now in
    let n = c.give_up_pairs.new.self in
    let e = c.give_up_pairs.ensures in
    let l = c.leave.ensures in
    let t = found_around c.leave.result (outers s) c.requires.takes (λ none. sym e.around ∙ l.none none) in
    let out = l.out ∙ c.cut.ensures ∙ ap (take n.top.from) e.out ∙ ap (λ (g : Frame). take g.from s.out) e.top in
    let frames_are = sym (l.frames t) ∙ e.around in
    let spans = l.spans ∙ e.spans c.if-not-give_up_pairs.false in
    let order = l.order ∙ e.order in
    let laid = coe 1 0 (i. Laid (order i) (out i) (spans i) (frames_are i)) c.requires.laid.0.3 in
    record {
      order = order;
      distinct = holds (e.distinct.0 c.if-not-give_up_pairs.false);
      ended = λ _. ((laid, l.rooted t), λ i. opens (out i) (spans i) (frames_are i));
      left = λ e. cc;
    }

pub returns-then-not-give_up_pairs-clause-ends : goal.returns-then-not-give_up_pairs-clause-ends
returns-then-not-give_up_pairs-clause-ends c =
    let e = c.give_up_pairs.ensures in
    record { order = e.order; distinct = search rules; ended = λ t. cc; left = λ no. left_open c.args.self.now c.give_up_pairs.new.self c.requires.laid.0 e.order e.out e.top e.around (e.left c.if-not-give_up_pairs.true) }
