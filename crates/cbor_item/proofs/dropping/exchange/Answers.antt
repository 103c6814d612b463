use Rattle.std.proofs.Common.{◌≡◌, suc, Vec, Global, rules, arith}
use Rattle.cbor_item.proofs.dropping.exchange.Goals as goal
use Rattle.cbor_item.specs.{inner.Containers.containers, inner.Containers.containers_in_pairs, declared.item.Item.Item, declared.item.Item.the_lemmas}
use Rattle.cbor_item.specs.declared.item.Item.TheVariants.{Map}

of_map : (v : Vec (Item × Item) Global) → containers (Map v) ≡ suc (containers_in_pairs v.items)
of_map v = search (rules, the_lemmas)

pub returns-in-Map : goal.returns-in-Map
returns-in-Map c = grind (arith, of_map, the_lemmas)
