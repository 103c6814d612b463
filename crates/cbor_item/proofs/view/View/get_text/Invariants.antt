use Rattle.std.proofs.Common.{drop}
use Rattle.cbor_head.specs.Value.{text}
use Rattle.cbor_item.proofs.view.View.get_text.Given as goal
use Rattle.cbor_item.proofs.Lookups.{LeadsAfter}

-- a pair with the key, if there is one, is among the rest
abbrev pub invariant-loop-found : goal.invariant-loop-found
invariant-loop-found l = LeadsAfter (text l.key) l.found-items (drop l.found-index l.found-items)
