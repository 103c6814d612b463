use Rattle.std.proofs.Common.{◌≡◌, ◌∙◌, List, ◌∷◌, Some, ap, refl, map, option_map, subst, reverse}
use Rattle.cbor_head.specs.Prelude.{Value}
use Rattle.cbor_item.proofs.TreeWalk.{Walks, walks_first, walks_begun}
use Rattle.cbor_item.proofs.to_tree.item_of.Goals as goal
use Rattle.cbor_item.{specs.OpenValues.open_levels, specs.inner.Rest.left, specs.inner.TreeWalk.IsBegun, proofs.Rests.pushed}

pub nodes-init : goal.nodes-init
nodes-init g c = (rw (c.new-outer.ensures.items, c.new-builder.ensures.open) (walks_first _ (c.parts_make_the_value.ensures _) c.requires), refl)

pub nodes-preserved-in-Some-2 : goal.nodes-preserved-in-Some-2
nodes-preserved-in-Some-2 g c =
    let see = g.N.Node.value in
    let w = see c.args.node.now in
    let v = see c.in-Some.next.now in
    let os = open_levels c.nodes.builder in
    let vss = map (left see) (reverse c.nodes.outer.items) in
    let k = subst (λ (vs : List Value). Walks w (vs ∷ vss) os) c.in-Some.ensures c.nodes.invariant.0 in
    let is : option_map (left see) c.in_ok-content-in-Some.field-0 ≡ Some (left see c.in-Some-2.content) = ap (option_map (left see)) c.in-Some-2.is in
    let begun = subst (IsBegun v os (open_levels c.begin.new.builder)) is c.in_ok-content-in-Some.ensures.begun in
    (rw (pushed see _ _ _ _ c.in_ok-push-in-Some.ensures.pushed) (walks_begun w v (left see c.in-Some-2.content) (left see c.in-Some.following) vss os _ k begun), c.in_ok-push-in-Some.ensures.kept ∙ c.in_ok-content-in-Some.ensures.kept ∙ c.nodes.invariant.1)
