use Rattle.std.proofs.Common.{◌≡◌, true, nat_lt, length, lt-ltb, refl}
use Rattle.cbor_listing.proofs.annotated_line.push_payload.Goals as goal

pub returns-then-bytes-gt-MOST_SHOWN : goal.returns-then-bytes-gt-MOST_SHOWN
returns-then-bytes-gt-MOST_SHOWN c =
    let more : nat_lt 512 (length c.args.bytes.now) ≡ true = lt-ltb 512 (length c.args.bytes.now) c.if-bytes-gt-MOST_SHOWN.true in
    rw (more, c.push.ensures.text, c.push_rows.ensures.text) refl
