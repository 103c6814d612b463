use Rattle.std.proofs.Common.{◌≡◌, ◌∙◌, subst, sym, arith}
use Rattle.cbor_item.specs.OpenValues.{Building, close, open_levels}
use Rattle.cbor_item.specs.declared.item.Item.{Item}
use Rattle.cbor_tree_reader.proofs.PartEnds.{ends-next, ends-in-tree, ends-one, ends-all}
use Rattle.cbor_tree_reader.proofs.tree_items.TreeItems.end_full.Goals as goal

pub end-requires-clause-container : goal.end-requires-clause-container
end-requires-clause-container c =
    let r = c.requires in
    let k = c.full.invariant.1 r.b r.e r.t r.ending r.counted in
    (ends-next c.full.self r.b r.e r.t c.full.left k (omega (arith, r.counted, c.full-test.true))).0

pub end-requires-clause-distinct : goal.end-requires-clause-distinct
end-requires-clause-distinct c =
    let r = c.requires in
    let k = c.full.invariant.1 r.b r.e r.t r.ending r.counted in
    (ends-next c.full.self r.b r.e r.t c.full.left k (omega (arith, r.counted, c.full-test.true))).1

pub end-requires-in-full : goal.end-requires-in-full
end-requires-in-full c =
    let r = c.requires in
    let k = c.full.invariant.1 r.b r.e r.t r.ending r.counted in
    record { container = ends-in-tree c.full.self r.b r.e r.t c.full.left k (omega (arith, r.counted, c.full-test.true)) }

pub full-preserved : goal.full-preserved
full-preserved c = (
  c.end_keys.ensures.same.1 ∙ c.full.invariant.0,
  λ b e t h counted.
      let k = c.full.invariant.1 b e t h counted in
      let given = rw (sym c.in_ok-noted.ensures.same) at c.end.ensures.given in
      let closed = rw (sym c.in_ok-noted-2.ensures.same) at c.end-in-full.ensures.closed in
      ends-one c.full.self b e t c.full.left k (omega (arith, counted, c.full-test.true)) _ (c.end_keys.ensures.same.0 ∙ given) c.end_keys.ensures.same.1 c.end_keys.ensures.same.3
      (subst (λ (os : Building Item). open_levels os ≡ close (open_levels c.full.self.tree)) (sym c.end_keys.ensures.same.2) closed) c.end_keys.ensures.sets,
  c.in_ok-noted-2.ensures.kept ∙ c.in_ok-noted.ensures.kept ∙ c.full.invariant.2,
)

pub returns-clause-ends : goal.returns-clause-ends
returns-clause-ends c = λ b e t h counted.
    let k = c.full.invariant.1 b e t h counted in
    ends-all c.full.self b e t c.full.left k (omega (arith, counted, c.full-test.false))
