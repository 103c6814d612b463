use Rattle.std.proofs.Common.{ℕ, ◌<◌, slice_index, take}
use Rattle.cborc_files.proofs.hex_text.Digits.push_all.Given as goal
use Rattle.cborc_files.specs.{Digits.SpellsOn, Place.MovesOn, Place.IsOfHexText}

abbrev pub invariant-text : goal.invariant-text
invariant-text l = record {
  spelled : SpellsOn (take l.byte-index l.text) l.fn.self l.self l.fn.bytes.items l.bytes.items;
  place : MovesOn (take l.byte-index l.text) l.fn.self l.self;
  digits : (k : ℕ) → k < l.byte-index → IsOfHexText (slice_index l.text k);
}
