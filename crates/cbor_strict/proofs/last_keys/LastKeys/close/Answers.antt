use Rattle.std.proofs.Common.{arith}
use Rattle.cbor_strict.proofs.KeptEnds.{none_shut, one_shut, all_shut}
use Rattle.cbor_strict.proofs.last_keys.LastKeys.close.Goals as goal
use Rattle.cbor_strict.specs.inner.LastKeys.{view_value}

pub loop-self-init : goal.loop-self-init
loop-self-init c = λ fs s h d e. none_shut (view_value c.args.self.now) fs s h d

pub loop-self-smaller : goal.loop-self-smaller
loop-self-smaller c = c.close_one.ensures.fewer (omega (arith, c.len.ensures.value, c.loop-self-test.true))

pub loop-self-preserved : goal.loop-self-preserved
loop-self-preserved c = λ fs s h d e. one_shut (view_value c.loop-self.self) (view_value c.close_one.new.self) fs s c.args.left c.len.result (c.loop-self.invariant fs s h d e) c.len.ensures.value e c.loop-self-test.true c.close_one.ensures.closed

pub returns : goal.returns
returns c = λ fs s h d e. all_shut (view_value c.loop-self.self) fs s c.args.left c.len.result (c.loop-self.invariant fs s h d e) c.len.ensures.value e c.loop-self-test.false
