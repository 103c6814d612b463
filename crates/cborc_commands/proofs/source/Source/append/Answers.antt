use Rattle.std.proofs.Common.{arith, refl}
use Rattle.cborc_commands.proofs.Sources.{read_added, spelled_added, hex_error_part, by_digits}
use Rattle.cborc_commands.proofs.source.Source.append.Goals as goal
use Rattle.cborc_commands.{proofs.Files.holds_there, specs.inner.Sources.IsNoPart}

pub returns-then-not-self-clause-added : goal.returns-then-not-self-clause-added
returns-then-not-self-clause-added g c =
    read_added _ _ _ _ _ _ _ c.requires.some refl _ refl refl c.if-not-self.true c.in_ok-count.ensures.count c.in_ok-count.ensures.read

pub returns-in-Ok-clause-added : goal.returns-in-Ok-clause-added
returns-in-Ok-clause-added g c =
    let read = rw (c.new-text.ensures.items) at c.in_ok-count-2.ensures.read in
    let count = rw (c.new-text.ensures.items) at c.in_ok-count-2.ensures.count in
    spelled_added _ _ _ _ _ _ _ c.requires.some refl _ refl refl c.read_part-2.new.bytes.items (omega (arith, count)) c.if-not-self.false read
    (rw (c.as_slice.ensures.value) at c.in-Ok.ensures.spelled) c.in-Ok.ensures.whole

pub returns-clause-fault : goal.returns-clause-fault
returns-clause-fault g c =
    let read = rw (c.new-text.ensures.items) at c.in_ok-count-2.ensures.read in
    let count = rw (c.new-text.ensures.items) at c.in_ok-count-2.ensures.count in
    by_digits (IsNoPart (g.F.Folder.held c.args.files.now) c.args.path.now c.args.self.now) c.in-Err.fault c.of_digits.result _ c.of_digits.ensures.not_hex c.of_digits.ensures.memory
    (λ e. (
      refl,
      hex_error_part _ _ _ c.args.most _ c.read_part-2.new.bytes.items c.if-not-self.false read (omega (arith, count))
          (rw (c.as_slice.ensures.value) at (c.in-Err.ensures.not_hex e)),
    ))
    (holds_there _ _ _ read.holds)
