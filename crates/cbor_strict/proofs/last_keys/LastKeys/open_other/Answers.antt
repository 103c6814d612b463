use Rattle.cbor_strict.proofs.last_keys.LastKeys.open_other.Goals as goal
use Rattle.cbor_strict.{specs.inner.LastKeys.view_value, proofs.KeptKeys.opens_other}

pub returns : goal.returns
returns c = λ f fs p d h e. rw c.push.ensures.items (opens_other (view_value c.args.self.now) f fs p d h e)
