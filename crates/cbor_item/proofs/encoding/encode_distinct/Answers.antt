use Rattle.std.proofs.Common.{◌≡◌, ◌∷◌, ◌∙◌, List, map, reverse, subst, Some, None, sym, ap, option_map}
use Rattle.cbor_head.specs.Prelude.{Value}
use Rattle.theory_values.proofs.Decided.{fails}
use Rattle.cbor_item.proofs.encoding.encode_distinct.Goals as goal
use Rattle.cbor_item.proofs.Walk.{Walks, not_valid, walks_begun, walks_ended, walks_given}
use Rattle.cbor_item.{specs.inner.Rest.left, specs.inner.Walk.IsBegun, proofs.Rests.popped, proofs.Rests.pushed}

pub nodes-preserved-in-Some-2 : goal.nodes-preserved-in-Some-2
nodes-preserved-in-Some-2 g c =
    let see = g.N.Node.value in
    let o = c.args.order in
    let w = see c.args.node.now in
    let v = see c.in-Some.next.now in
    let a = c.nodes.builder in
    let b = c.begin.new.builder in
    let vss = map (left see) (reverse c.nodes.outer.items) in
    let e = c.in_ok-content-in-Some.ensures in
    let k = subst (λ (vs : List Value). Walks o w (vs ∷ vss) a) c.in-Some.ensures c.nodes.invariant.0 in
    let is : option_map (left see) c.in_ok-content-in-Some.field-0 ≡ Some (left see c.in-Some-2.content) = ap (option_map (left see)) c.in-Some-2.is in
    let begun = subst (IsBegun a.order v a.open_levels b.open_levels) is e.begun in
    (subst (λ (vss : List (List Value)). Walks o w vss b) (sym (pushed see _ _ _ _ c.in_ok-push-in-Some.ensures.pushed)) (walks_begun o w v (left see c.in-Some.following) (left see c.in-Some-2.content) vss a b k e.order begun), c.in_ok-push-in-Some.ensures.kept ∙ c.in_ok-content-in-Some.ensures.kept ∙ c.nodes.invariant.1)

pub nodes-preserved-in_default : goal.nodes-preserved-in_default
nodes-preserved-in_default g c =
    let see = g.N.Node.value in
    let o = c.args.order in
    let w = see c.args.node.now in
    let v = see c.in-Some.next.now in
    let a = c.nodes.builder in
    let b = c.begin.new.builder in
    let vss = map (left see) (reverse c.nodes.outer.items) in
    let e = c.in_ok-content-in-Some.ensures in
    let k = subst (λ (vs : List Value). Walks o w (vs ∷ vss) a) c.in-Some.ensures c.nodes.invariant.0 in
    let is : option_map (left see) c.in_ok-content-in-Some.field-0 ≡ None = ap (option_map (left see)) c.in_default.is in
    (walks_given o w v (left see c.in-Some.following) vss a b k e.order (subst (IsBegun a.order v a.open_levels b.open_levels) is e.begun), c.in_ok-content-in-Some.ensures.kept ∙ c.nodes.invariant.1)

pub nodes-preserved : goal.nodes-preserved
nodes-preserved g c =
    let see = g.N.Node.value in
    let o = c.args.order in
    let w = see c.args.node.now in
    let a = c.nodes.builder in
    let s = c.in-Some-pop.following in
    let rs = c.pop.new.self.items in
    let k = subst (λ (vss : List (List Value)). Walks o w vss a) (popped see c.nodes.rest s c.nodes.outer.items rs c.in-None.ensures c.in-Some-pop.ensures.items) c.nodes.invariant.0 in
    (walks_ended o w (left see s) (map (left see) (reverse rs)) a c.end_if_distinct.new.builder c.in_ok-end_if_distinct-in-None.field-0 (sym c.if-is_some.ensures) k c.in_ok-end_if_distinct-in-None.ensures.ends, c.in_ok-end_if_distinct-in-None.ensures.kept ∙ c.nodes.invariant.1)

pub returns-then-is_some-clause-valid : goal.returns-then-is_some-clause-valid
returns-then-is_some-clause-valid g c =
    let see = g.N.Node.value in
    let o = c.args.order in
    let w = see c.args.node.now in
    let a = c.nodes.builder in
    let s = c.in-Some-pop.following in
    let rs = c.pop.new.self.items in
    let k = subst (λ (vss : List (List Value)). Walks o w vss a) (popped see c.nodes.rest s c.nodes.outer.items rs c.in-None.ensures c.in-Some-pop.ensures.items) c.nodes.invariant.0 in
    fails (not_valid o w (left see s) (map (left see) (reverse rs)) a c.end_if_distinct.new.builder c.in_ok-end_if_distinct-in-None.field-0 _ (sym c.if-is_some.ensures) k c.in_ok-end_if_distinct-in-None.ensures.ends)
