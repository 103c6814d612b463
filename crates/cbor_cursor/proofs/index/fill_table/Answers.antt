use Rattle.std.proofs.Common.{arith, sym, ◌∙◌}
use Rattle.cbor_cursor.proofs.index.fill_table.Goals as goal
use Rattle.cbor_cursor.{specs.Index.placed, proofs.IndexClosed.filled, proofs.IndexOwn.definite_own, proofs.IndexParts.length-listed}

pub open_items-count-requires : goal.open_items-count-requires
open_items-count-requires c =
    let own = c.requires.2 in
    record { item = c.requires.1; definite = definite_own c.requires.0 c.requires.1 c.args.bytes.now own; bytes_are = own.bytes_are }

pub returns-then-count-space-clause-table : goal.returns-then-count-space-clause-table
returns-then-count-space-clause-table c = λ o s own.
    let definite = definite_own o s c.args.bytes.now own in
    let opened = c.open_items-count.ensures.opened s definite own.bytes_are in
    (opened.0 ∙ sym (length-listed placed 0 s), λ r _. filled s c.open_items-count.result _ c.close_items.new.items _ definite opened.0 (opened.1 r) c.close_items.ensures)

pub returns-else-count-space-clause-table : goal.returns-else-count-space-clause-table
returns-else-count-space-clause-table c = λ o s own.
    let opened = c.open_items-count.ensures.opened s (definite_own o s c.args.bytes.now own) own.bytes_are in
    (opened.0 ∙ sym (length-listed placed 0 s), λ r few. absurd (omega (arith, r, few)))
