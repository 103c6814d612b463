use Rattle.std.proofs.Common.{◌∙◌, map, refl, sym, subst, inl, inr}
use Rattle.cbor_head.specs.Prelude.{plain}
use Rattle.cbor_machine.{specs.NextKey.IsKeyReason, proofs.Positions.no-payload}
use Rattle.cbor_builder.specs.Built.{IsKeyExpected}
use Rattle.theory_verdicts.proofs.ItemExpected.{of_reported, of_end, stopped-expected}
use Rattle.theory_verdicts.{specs.Levels.frame, specs.Place.at_item, proofs.ParseState.is-done, proofs.Steps.next-head, proofs.Steps.limits-as}
use Rattle.cbor_tree_reader.proofs.tree_items.TreeItems.next_head.Goals as goal
use Rattle.cbor_tree_reader.proofs.{ExpectedRefusals.expects, PartKinds.expected-opens}

pub next_by_kind-requires : goal.next_by_kind-requires
next_by_kind-requires g c =
    let d = c.requires.expected in
    record { head = λ asked live. no-payload c.args.events.now.machine (map frame d.ls) d.at.agrees.agrees.inner.shown d.at.state }

pub unreachable-requires : goal.unreachable-requires
unreachable-requires g c =
    let s = c.requires in
    let a = s.expected.at in
    let ended = of_end c.asks.result c.in-Ok-None.field-0 _ c.in-Ok-None.field-0-is (c.in-Ok-None.ensures.returned a.live s.t a.marks a.agrees) in
    cc (is-done s.b c.args.events.now s.t (at_item (map frame s.expected.ls)) a ended.complete)

pub returns-in-Ok-Some-clause-expected : goal.returns-in-Ok-Some-clause-expected
returns-in-Ok-Some-clause-expected g c = λ b t d.
    let a = d.at in
    let h = of_reported c.asks.result c.in-Ok-Some.field-0 c.in-Ok-Some.event _ c.in-Ok-Some.field-0-is (c.in-Ok-Some.ensures.returned a.live t a.marks a.agrees) in
    record {
      head = next-head plain b c.args.events.now c.next_by_kind.new.self t (at_item (map frame d.ls)) c.in-Ok-Some.event _ _ tt a h.0 (limits-as _ _ c.next_by_kind.ensures.limits) c.in-Ok-Some.ensures.live (λ reason fault. cc fault.0);
      kind = λ asked is_key. h.1 (c.asks.ensures.1 (d.kinds ∙ asked.1, subst IsKeyExpected (sym d.open_levels) ((expected-opens c.args.self.now.builder.order d.ls).0 is_key)));
    }

pub returns-in-Err-clause-expected : goal.returns-in-Err-clause-expected
returns-in-Err-clause-expected g c = λ b t d.
    let a = d.at in
    (stopped-expected plain b t (map frame d.ls) (expects c.args.self.now b c.args.events.now t d) c.args.events.now c.next_by_kind.new.self _ _ c.asks.result c.in-Err.refusal a (limits-as _ _ c.next_by_kind.ensures.limits) c.in-Err.ensures.refused.1 c.next_by_kind.ensures.limits.taken
    (λ r. let k = c.asks.ensures.0 r in ((refl, sym d.kinds ∙ k.0), (expected-opens c.args.self.now.builder.order d.ls).1 (subst IsKeyExpected d.open_levels k.1)))
    (λ asked is_key. c.asks.ensures.1 (d.kinds ∙ asked.1, subst IsKeyExpected (sym d.open_levels) ((expected-opens c.args.self.now.builder.order d.ls).0 is_key)))
    (c.in-Err.ensures.returned a.live t a.marks a.agrees)).1

pub returns-in-Err-clause-reason : goal.returns-in-Err-clause-reason
returns-in-Err-clause-reason g c = λ e. elim (subst IsKeyReason e c.in-Err.ensures.refused.2) [ inl x ↦ x | inr kind ↦ cc kind ]
