use Rattle.std.proofs.Common.{rules, ap, []}
use Rattle.theory_values.specs.Parts.{an_array, a_map}
use Rattle.cbor_builder.specs.Built.{Built}
use Rattle.cbor_item.proofs.encoding.begin_part.Goals as goal
use Rattle.cbor_item.proofs.Walk.{opens_array, opens_map}

pub returns-in-Array-clause-begun : goal.returns-in-Array-clause-begun
returns-in-Array-clause-begun g c = (
  an_array 0 [],
  ap (λ (b : Built). b.open_levels) c.in_ok-begin-in-Array.ensures.given,
  opens_array g.N.Node.value c.args.builder.now.order _ c.in-Array.members.now c.in-Array.ensures.value c.requires.in_range,
)

pub returns-in-Map-clause-begun : goal.returns-in-Map-clause-begun
returns-in-Map-clause-begun g c = (
  a_map [],
  ap (λ (b : Built). b.open_levels) c.in_ok-begin-in-Map.ensures.given,
  opens_map g.N.Node.value c.args.builder.now.order _ c.in-Map.pairs.now c.in-Map.ensures.value c.requires.in_range,
)

pub returns-in-Tag-clause-begun : goal.returns-in-Tag-clause-begun
returns-in-Tag-clause-begun g c = (_, ap (λ (b : Built). b.open_levels) c.in_ok-begin-in-Tag.ensures.given, search rules)
