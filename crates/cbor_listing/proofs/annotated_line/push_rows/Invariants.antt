use Rattle.std.proofs.Common.{◌≡◌, ◌≤◌, ◌*◌}
use Rattle.arrayvec.specs.ArrayVec.{array_vec_len}
use Rattle.cbor_listing.proofs.annotated_line.push_rows.Given as goal
use Rattle.cbor_listing.specs.Annotated.{payload_rows}

abbrev pub invariant-loop-row : goal.invariant-loop-row
invariant-loop-row l = record {
  text : l.rows.items ≡ payload_rows l.row l.at l.level l.is_text l.bytes;
  short : array_vec_len l.rows ≤ 160 * l.row;
}
