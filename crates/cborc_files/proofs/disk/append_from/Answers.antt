use Rattle.std.proofs.Common.{◌≤◌, Result, Ok, Err, IfErr, IsErrAnd, take, drop, arith, length-take}
use Rattle.std.specs.IoError.{error_kind}
use Rattle.cborc_files.proofs.Appended.{one_part, none_lost, cut_by_memory}
use Rattle.cborc_files.proofs.disk.append_from.Goals as goal
use Rattle.cborc_files.proofs.disk.append_from.Goals.{in-Ok+in_ok-extend_from_slice-in-Ok, in-Err}

on_err : {A E : Type 0} (r : Result A E) (P Q : E → Type 0) → IsErrAnd r P → ((error : E) → P error → Q error) → IfErr r Q
on_err (Ok v) P Q h f = tt
on_err (Err error) P Q h f = f error h

pub returns-in_err-extend_from_slice-in-Ok-clause-cut_short : goal.returns-in_err-extend_from_slice-in-Ok-clause-cut_short
returns-in_err-extend_from_slice-in-Ok-clause-cut_short g c =
    let before = g.S.Read.remaining c.args.source.now in
    let now = g.S.Read.remaining c.reads.source in
    let after = g.S.Read.remaining c.read.new.self in
    rw c.in_err-extend_from_slice-in-Ok.ensures.items (on_err c.from_residual.result _ _ c.from_residual.ensures.1 (λ error memory.
    cut_by_memory (error_kind error) c.args.most c.reads.left before now after c.args.bytes.now.items c.reads.bytes.items (take c.in-Ok.count c.read.new.buf) c.reads.invariant c.in-Ok.ensures.bytes.0 memory))

pub reads-preserved : goal.reads-preserved
reads-preserved g c =
    let most = c.args.most in
    let left = c.reads.left in
    let before = g.S.Read.remaining c.args.source.now in
    let now = g.S.Read.remaining c.reads.source in
    let after = g.S.Read.remaining c.read.new.self in
    let old = c.args.bytes.now.items in
    let mid = c.reads.bytes.items in
    elim c.match-read.branch [
      | in-Ok+in_ok-extend_from_slice-in-Ok w ↦
          let count = w.in-Ok.count in
          let buf = c.read.new.buf in
          let rest = drop c.min-wanted.result c.reads.part in
          let within = w.in-Ok.ensures.bound.0 in
          let few : count ≤ left = omega (arith, within, c.read.auto.buf, length-take c.min-wanted.result c.reads.part, c.min-wanted.ensures) in
          rw (w.bytes-is, w.left-is) (one_part most left count before now after old mid w.extend_from_slice.new.self.items buf rest c.reads.invariant w.in_ok-extend_from_slice-in-Ok.ensures.items within few w.in-Ok.ensures.bytes.0)
      | in-Err w ↦ rw (w.bytes-is, w.left-is) (none_lost most left before now after old mid c.reads.invariant w.in-Err.ensures.bytes)
    ]
