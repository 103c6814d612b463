use Rattle.std.proofs.Common.{◌∙◌}
use Rattle.cbor_strict.proofs.last_keys.LastKeys.end_value.Goals as goal
use Rattle.cbor_strict.{specs.inner.LastKeys.view_value, proofs.KeptPairs.value_ends}

pub returns : goal.returns
returns c = λ w a k s l m b fs h.
    value_ends (view_value c.args.self.now) w a k s l m b fs c.in-Some.last.now h (rw c.deref.ensures.value at c.in-Some.ensures.item.1) (view_value c.put.new.self) c.len.result (c.len.ensures ∙ c.args.self.now.bytes.ok.0) c.put.ensures
