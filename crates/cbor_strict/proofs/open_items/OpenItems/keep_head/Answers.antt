use Rattle.std.proofs.Common.{[], subst, OnOk}
use Rattle.cbor_head.{specs.Prelude.shortest_head, proofs.Least.one_byte}
use Rattle.cbor_strict.proofs.open_items.OpenItems.keep_head.Goals as goal
use Rattle.cbor_strict.{proofs.KeptKeys.keeps_none, proofs.KeptKeys.none_open, specs.inner.LastKeys.IsKept, specs.inner.LastKeys.view_value}

pub returns-then-not-is_inside-clause-kept : goal.returns-then-not-is_inside-clause-kept
returns-then-not-is_inside-clause-kept c = λ fs h. keeps_none (view_value c.args.self.now.keys) fs [] (shortest_head c.args.major c.args.argument) h (none_open c.args.self.now.keys.open_keys c.is_inside.result c.is_inside.ensures c.if-not-is_inside.true)

pub returns-then-argument-lt24-clause-kept : goal.returns-then-argument-lt24-clause-kept
returns-then-argument-lt24-clause-kept c = λ fs h.
    subst (λ bs. OnOk c.keep.result (IsKept (view_value c.keep.new.self) fs bs)) (one_byte c.args.major c.args.argument c.number.result c.if-argument-lt24.true c.number.ensures.number) (c.keep.ensures.kept fs [] h)
