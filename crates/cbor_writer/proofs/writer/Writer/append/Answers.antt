use Rattle.std.proofs.Common.{◌+◌, length, length-append, ◌-◌, ◌≤◌, refl, ◌∙◌, arith}
use borrow.Rule.Slice.PartMut.{put_mid}
use Rattle.cbor_writer.proofs.writer.Writer.append.Goals as goal
use Rattle.cbor_writer.proofs.Appended.{both_written}

pub returns-then-count-buffer : goal.returns-then-count-buffer
returns-then-count-buffer c =
    let xs = c.args.buffer.now in
    let w = c.args.self.now in
    let h = c.args.head.now in
    let b = c.args.bytes.now in
    let long = length-append h b in
    let middle = w.needed + length h in
    let end = middle + length b in
    let fits : end ≤ length xs = omega (arith, c.if-count-buffer.true, c.if-self-buffer.true) in
    record {
      count = omega (arith, long, fits);
      fits = λ _. (
        (λ i. put_mid middle (end - middle) (put_mid w.needed (middle - w.needed) xs (c.copy_from_slice.ensures.after i)) (c.copy_from_slice-then-count-buffer.ensures.after i))
            ∙ both_written xs h b w.needed middle end refl refl fits,
        refl,
      );
      no_space = λ less. absurd (omega (arith, less, long, fits));
    }
