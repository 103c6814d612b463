use Rattle.cbor_parser.proofs.PrefixStops.{reported_at_start}
use Rattle.cbor_reader.proofs.item_check.size_by_keys.Goals as goal

pub returns-in-Err : goal.returns-in-Err
returns-in-Err c =
    let reported = reported_at_start c.args.limits c.args.bytes.now c.in-Err.refusal c.in-Err.ensures.given in
    record { accepted = tt; refused = reported.refused; no_read = reported.no_read; memory = reported.memory }
