use Rattle.std.proofs.Common.{[], ◌∙◌, subst, sym, arith}
use Rattle.cbor_head.specs.Prelude.{plain, Value}
use Rattle.theory_verdicts.proofs.{RefusedAfter.stopped_prefix, Tops.starts-at}
use Rattle.cbor_tree_reader.proofs.item_reader.read_item_prefix.Goals as goal
use Rattle.cbor_tree_reader.{specs.Prefix.IsPrefixRead, proofs.PlainSteps.expected-first, proofs.PlainSteps.prefix-whole, proofs.TreeValues.whole-in}

pub read_parts-requires : goal.read_parts-requires
read_parts-requires g c = record {
  b = c.args.limits;
  t = [];
  expected = expected-first c.new-items.result c.args.limits c.restart.new.self c.new-items.ensures.built c.new-items.ensures.tree c.new-items.ensures.held (c.new-items.ensures.kinds ∙ c.keys.ensures)
      (starts-at c.args.limits c.restart.new.self (omega arith, omega arith) c.restart.ensures.live (c.restart.ensures.limits.depth ∙ c.requires.0, c.restart.ensures.limits.bytes ∙ c.requires.1) c.restart.ensures.starts);
}

pub into_item-item-requires : goal.into_item-item-requires
into_item-item-requires g c =
    let n = c.in-Ok.ensures.parts c.args.limits [] (expected-first c.new-items.result c.args.limits c.restart.new.self c.new-items.ensures.built c.new-items.ensures.tree c.new-items.ensures.held (c.new-items.ensures.kinds ∙ c.keys.ensures)
    (starts-at c.args.limits c.restart.new.self (omega arith, omega arith) c.restart.ensures.live (c.restart.ensures.limits.depth ∙ c.requires.0, c.restart.ensures.limits.bytes ∙ c.requires.1) c.restart.ensures.starts)) in
    whole-in c.read_parts.new.items.tree n.agrees.item n.agrees.tree

pub returns-in-Ok-clause-prefix : goal.returns-in-Ok-clause-prefix
returns-in-Ok-clause-prefix g c =
    let n = c.in-Ok.ensures.parts c.args.limits [] (expected-first c.new-items.result c.args.limits c.restart.new.self c.new-items.ensures.built c.new-items.ensures.tree c.new-items.ensures.held (c.new-items.ensures.kinds ∙ c.keys.ensures)
    (starts-at c.args.limits c.restart.new.self (omega arith, omega arith) c.restart.ensures.live (c.restart.ensures.limits.depth ∙ c.requires.0, c.restart.ensures.limits.bytes ∙ c.requires.1) c.restart.ensures.starts)) in
    subst (λ (v : Value). IsPrefixRead plain c.args.limits (g.R.Read.remaining c.args.reader.now) (g.R.Read.remaining c.read_parts.new.reader) v c.taken-size.result) (sym (c.into_item-item.ensures n.agrees.item n.agrees.tree))
    (prefix-whole c.read_parts.new.items c.args.limits c.read_parts.new.events _ _ c.taken-size.result (omega arith, omega arith) n c.taken-size.ensures.taken)

pub returns-in-Err-clause-prefix : goal.returns-in-Err-clause-prefix
returns-in-Err-clause-prefix g c =
    stopped_prefix plain c.args.limits c.in-Err.refusal _ _ (c.in-Err.ensures.parts c.args.limits [] (expected-first c.new-items.result c.args.limits c.restart.new.self c.new-items.ensures.built c.new-items.ensures.tree c.new-items.ensures.held (c.new-items.ensures.kinds ∙ c.keys.ensures)
    (starts-at c.args.limits c.restart.new.self (omega arith, omega arith) c.restart.ensures.live (c.restart.ensures.limits.depth ∙ c.requires.0, c.restart.ensures.limits.bytes ∙ c.requires.1) c.restart.ensures.starts)))

pub returns-in-Ok-clause-limits : goal.returns-in-Ok-clause-limits
returns-in-Ok-clause-limits g c =
    let n = c.in-Ok.ensures.parts c.args.limits [] (expected-first c.new-items.result c.args.limits c.restart.new.self c.new-items.ensures.built c.new-items.ensures.tree c.new-items.ensures.held (c.new-items.ensures.kinds ∙ c.keys.ensures)
    (starts-at c.args.limits c.restart.new.self (omega arith, omega arith) c.restart.ensures.live (c.restart.ensures.limits.depth ∙ c.requires.0, c.restart.ensures.limits.bytes ∙ c.requires.1) c.restart.ensures.starts)) in
    (n.agrees.at.depth, n.agrees.at.bytes)
