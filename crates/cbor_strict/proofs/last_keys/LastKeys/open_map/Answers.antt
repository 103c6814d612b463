use Rattle.std.proofs.Common.{◌∙◌}
use Rattle.cbor_strict.proofs.last_keys.LastKeys.open_map.Goals as goal
use Rattle.cbor_strict.{specs.inner.LastKeys.view_value, proofs.KeptKeys.opens_map}

pub returns-clause-opened : goal.returns-clause-opened
returns-clause-opened c = λ w v b fs p h e. rw c.in_ok-push.ensures.pushed (rw c.push-2.ensures.items (opens_map (view_value c.args.self.now) w v b fs p c.len-here.result h e (c.len-here.ensures ∙ c.args.self.now.bytes.ok.0)))
