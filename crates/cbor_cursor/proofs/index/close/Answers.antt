use Rattle.std.proofs.Common.{arith, sym, ◌∙◌, inl, inr, ◌≡◌, ◌≤◌, ◌⊎◌, length}
use Rattle.cbor_cursor.proofs.IndexWalk.{one_end, one_more, none_left, closed_is}
use Rattle.cbor_cursor.proofs.index.close.Goals as goal
use Rattle.cbor_cursor.specs.declared.placed.PlacedItem.{PlacedItem}
use Rattle.cbor_cursor.proofs.index.close.Goals.{then-loop-left-test+else-next-later, else-loop-left-test}

pub loop-left-preserved : goal.loop-left-preserved
loop-left-preserved c =
    let d : PlacedItem = record { number = 0; offset = 0; content = 0; end = 0; kind = 0; entries = 0 } in
    record {
      end = sym (one_end c.loop-left.left c.loop-left.next c.loop-left.end c.args.later.now d c.loop-left-test.true c.if-next-later.true) ∙ c.loop-left.invariant.end;
      next = omega (arith, one_more c.loop-left.left c.loop-left.next c.args.later.now d c.loop-left-test.true c.if-next-later.true, c.loop-left.invariant.next);
    }

pub returns : goal.returns
returns c =
    let over : (c.loop-left.left ≡ 0) ⊎ (length c.args.later.now ≤ c.loop-left.next) =
    elim c.loop-left-test.branch [ then-loop-left-test+else-next-later w ↦ inr (omega (arith, w.if-next-later.false)) | else-loop-left-test w ↦ inl (omega (arith, w.loop-left-test.false)) ] in
    let none = none_left c.loop-left.next c.loop-left.end c.args.later.now c.loop-left.left over in
    closed_is c.args.item c.args.later.now c.loop-left.end c.loop-left.next
    (sym c.loop-left.invariant.end ∙ none.0) (omega (arith, c.loop-left.invariant.next, none.1)) (omega (arith, c.if-next-later-2.false))
