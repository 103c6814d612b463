use Rattle.std.proofs.Common.{◌≡◌, rules, true}
use Rattle.cbor_text.specs.Hidden.{is_hidden}
use Rattle.cborc_files.proofs.visible.VisibleCharacterDisplay.fmt.Goals as goal

pub returns-then-is_hidden-clause-writes : goal.returns-then-is_hidden-clause-writes
returns-then-is_hidden-clause-writes g c plain ok =
    let code : c.from-code.result ≡ c.args.self.now.0 = search rules in
    let hidden : is_hidden c.args.self.now.0 ≡ true = search rules in
    let written = (rw (c.laid_out.ensures, c.in_radix.ensures, code) at c.write.ensures.writes) plain ok in
    rw hidden written
