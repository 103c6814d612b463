use Rattle.std.proofs.Common.{◌≡◌, ◌+◌, ◌++◌, map, take}
use Rattle.arrayvec.specs.ArrayVec.{array_vec_len}
use Rattle.cbor_listing.proofs.annotated_line.push_visible.Given as goal
use Rattle.cbor_listing.specs.Annotated.{visible}

abbrev pub invariant-loop-byte : goal.invariant-loop-byte
invariant-loop-byte l = record {
  text : l.rows.items ≡ l.fn.rows.items ++ map visible (take l.byte-index l.bytes);
  len : array_vec_len l.rows ≡ array_vec_len l.fn.rows + l.byte-index;
}
