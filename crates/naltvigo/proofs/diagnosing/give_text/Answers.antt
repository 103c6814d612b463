use Rattle.std.proofs.Common.{length, refl}
use Rattle.cbor_head.specs.Prelude.{spell}
use Rattle.naltvigo.proofs.diagnosing.give_text.Goals as goal

pub diagnostic_prefix-requires : goal.diagnostic_prefix-requires
diagnostic_prefix-requires c =
    let item = c.requires.0 in
    (length (spell item), record { item = item; verdict = ((c.valid_items.ensures.verdict c.args.limits c.args.input.now item).0 c.requires.1).0; size = refl })
