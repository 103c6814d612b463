use Rattle.std.proofs.Common.{drop}
use Rattle.theory_values.specs.Lookup.{integer}
use Rattle.cbor_item.proofs.view.View.get_integer.Given as goal
use Rattle.cbor_item.proofs.Lookups.{LeadsAfter}

-- a pair with the key, if there is one, is among the rest
abbrev pub invariant-loop-found : goal.invariant-loop-found
invariant-loop-found l = LeadsAfter (integer l.key) l.found-items (drop l.found-index l.found-items)
