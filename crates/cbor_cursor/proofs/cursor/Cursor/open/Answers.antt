use Rattle.std.proofs.Common.{sym, ap, ◌∙◌, take}
use Rattle.std.proofs.lemmas.List.{take_at}
use Rattle.cbor_head.specs.Canonical.{canonical}
use Rattle.cbor_cursor.proofs.cursor.Cursor.open.Goals as goal
use Rattle.cbor_cursor.proofs.NormalValues.{part_again}

pub new-requires : goal.new-requires
new-requires c =
    let f = c.in_ok-count.ensures.canonical in
    let cut = ap (take c.in_ok-count.count) (sym f.begins.begins) ∙ take_at (canonical c.args.order f.value) f.begins.rest c.in_ok-count.count (sym f.size) in
    (part_again c.args.order f.value _ f.begins.range f.begins.valid cut).canonical_is
