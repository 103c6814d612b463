use Rattle.cbor_strict.proofs.KeptKeys.{keeps_if_ok, keeps_none, none_open}
use Rattle.cbor_strict.proofs.last_keys.LastKeys.keep.Goals as goal
use Rattle.cbor_strict.specs.inner.LastKeys.{view_value}

pub returns-then-is_inside-clause-kept : goal.returns-then-is_inside-clause-kept
returns-then-is_inside-clause-kept c = λ fs p h. keeps_if_ok c.extend.result (view_value c.args.self.now) fs p c.args.bytes.now c.extend.new.list.items h (c.is_inside.ensures.0 c.if-is_inside.true) c.extend.ensures.extended

pub returns-clause-kept : goal.returns-clause-kept
returns-clause-kept c = λ fs p h. keeps_none (view_value c.args.self.now) fs p c.args.bytes.now h (none_open c.args.self.now.open_keys c.is_inside.result c.is_inside.ensures c.if-is_inside.false)
