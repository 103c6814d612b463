use Rattle.std.proofs.Common.{refl, rules}
use Rattle.cbor_head.specs.Value as value
use Rattle.cbor_item.proofs.TreeWalk.{leaf_begun, array_begun, map_begun, tag_begun}
use Rattle.cbor_item.proofs.to_tree.begin.Goals as goal
use Rattle.cbor_item.proofs.to_tree.begin.Goals.{in-Unsigned+in_ok-leaf-in-Unsigned, in-Negative+in_ok-leaf-in-Negative, in-Bytes+in_ok-copy-in-Bytes+in_ok-leaf-in-Bytes, in-Text+in_ok-copy-in-Text+in_ok-leaf-in-Text, in-Simple+in-Some+in_ok-leaf-in-Some}
use Rattle.cbor_item.specs.{declared.item.Item.the_lemmas, OpenValues.open_levels}

pub returns-in-Array-clause-begun : goal.returns-in-Array-clause-begun
returns-in-Array-clause-begun g c = array_begun g.N.Node.value _ c.in-Array.members.now (open_levels c.args.builder.now) _ c.in-Array.ensures.value c.requires.in_range (search rules)

pub returns-in-Map-clause-begun : goal.returns-in-Map-clause-begun
returns-in-Map-clause-begun g c = map_begun g.N.Node.value _ c.in-Map.pairs.now (open_levels c.args.builder.now) _ c.in-Map.ensures.value c.requires.in_range (search rules)

pub returns-in-Tag-clause-begun : goal.returns-in-Tag-clause-begun
returns-in-Tag-clause-begun g c = tag_begun _ (g.N.Node.value c.in-Tag.content.now) c.in-Tag.number (open_levels c.args.builder.now) _ c.in-Tag.ensures.value c.requires.in_range (search rules)

pub returns-clause-begun : goal.returns-clause-begun
returns-clause-begun g c =
    let os = open_levels c.args.builder.now in
    elim c.match-kind.branch [
      | in-Unsigned+in_ok-leaf-in-Unsigned w ↦ leaf_begun _ (value.unsigned w.in-Unsigned.number) os _ w.in-Unsigned.ensures.value refl (search (rules, the_lemmas))
      | in-Negative+in_ok-leaf-in-Negative w ↦ leaf_begun _ (value.negative w.in-Negative.number) os _ w.in-Negative.ensures.value refl (search (rules, the_lemmas))
      | in-Bytes+in_ok-copy-in-Bytes+in_ok-leaf-in-Bytes w ↦ leaf_begun _ (value.bytes w.in-Bytes.content.now) os _ w.in-Bytes.ensures.value refl (search (rules, the_lemmas))
      | in-Text+in_ok-copy-in-Text+in_ok-leaf-in-Text w ↦ leaf_begun _ (value.text w.in-Text.content.now) os _ w.in-Text.ensures.value refl (search (rules, the_lemmas))
      | in-Simple+in-Some+in_ok-leaf-in-Some w ↦ leaf_begun _ (value.simple w.in-Simple.number) os _ w.in-Simple.ensures.value refl (search (rules, the_lemmas))
    ]
