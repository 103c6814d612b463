use Rattle.std.proofs.Common.{◌≡◌, length, arith}
use Rattle.cbor_text.proofs.ascii.is_ascii_prefix.Goals as goal
use Rattle.cbor_text.proofs.AsciiMasks.{mask-ascii, ascii-mask}

pub returns : goal.returns
returns c =
    let long : length c.args.chunk.now ≡ 32 = omega arith in
    (mask-ascii c.args.chunk.now c.args.count long c.requires, ascii-mask c.args.chunk.now c.args.count long c.requires)
