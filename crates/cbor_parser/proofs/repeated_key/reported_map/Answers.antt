use Rattle.std.proofs.Common.{◌∙◌, sym, take, true, false, arith}
use Rattle.cbor_parser.proofs.ReportedCells.{maps_more, reported_at, reported_top, reported_somewhere}
use Rattle.cbor_parser.proofs.repeated_key.reported_map.Goals as goal
use Rattle.cbor_parser.proofs.repeated_key.reported_map.Goals.{then-is_in_map+else-left-eq0, else-is_in_map, else-left-eq0-2-via-then-left-eq0-2+else-is_in_map-2, else-left-eq0-2-via-else-left-eq0-2}

pub returns-then-left-eq0 : goal.returns-then-left-eq0
returns-then-left-eq0 c = λ inner outer reported are in_map count.
    let k = c.args.stack.now in
    reported_at (take k.height c.args.cells.now) k.top inner outer reported c.args.outside are in_map count c.loop-cell.cell-index _ c.loop-cell.left (omega (arith, c.loop-cell-test.true)) (sym c.is_in_map.ensures ∙ c.if-is_in_map.true) c.loop-cell.invariant (omega (arith, c.if-left-eq0.true))

pub loop-cell-preserved : goal.loop-cell-preserved
loop-cell-preserved c =
    let xs = take c.args.stack.now.height c.args.cells.now in
    let before = c.loop-cell.invariant in
    let i = c.loop-cell.cell-index in
    elim c.if-is_in_map.branch [
      | then-is_in_map+else-left-eq0 w ↦
          omega (arith, before, w.left-is, w.if-left-eq0.false, maps_more xs i _ true (omega (arith, c.loop-cell-test.true)) (sym c.is_in_map.ensures ∙ w.if-is_in_map.true))
      | else-is_in_map w ↦ omega (arith, before, w.left-is, maps_more xs i _ false (omega (arith, c.loop-cell-test.true)) (sym c.is_in_map.ensures ∙ w.if-is_in_map.false))
    ]

pub returns-then-is_in_map-2 : goal.returns-then-is_in_map-2
returns-then-is_in_map-2 c = λ inner outer reported are in_map count.
    let k = c.args.stack.now in
    reported_top (take k.height c.args.cells.now) k.top inner outer reported c.args.outside are in_map count c.loop-cell.cell-index c.loop-cell.left (omega (arith, c.loop-cell-test.false)) (sym c.is_in_map-then-left-eq0-2.ensures ∙ c.if-is_in_map-2.true) c.loop-cell.invariant (omega (arith, c.if-left-eq0-2.true))

pub returns-else-left-eq0-2 : goal.returns-else-left-eq0-2
returns-else-left-eq0-2 c = λ inner outer reported are in_map count.
    let k = c.args.stack.now in
    let none = reported_somewhere (take k.height c.args.cells.now) k.top inner outer reported c.args.outside are in_map count c.loop-cell.cell-index c.loop-cell.left (omega (arith, c.loop-cell-test.false)) c.loop-cell.invariant in
    elim c.else-left-eq0-2.branch [
      | else-left-eq0-2-via-then-left-eq0-2+else-is_in_map-2 w ↦ absurd (none (λ e. sym w.is_in_map-then-left-eq0-2.ensures ∙ w.if-is_in_map-2.false))
      | else-left-eq0-2-via-else-left-eq0-2 w ↦ let some = w.if-left-eq0-2.false in absurd (none (λ e. absurd (omega (arith, e, some))))
    ]
