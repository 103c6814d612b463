use Rattle.std.proofs.Common.{false, List, ℕ, sym, subst, arith, rules, ◌<◌, ◌≤◌}
use Rattle.cbor_parser.proofs.fast_item.fast_item.Goals as goal
use Rattle.cbor_parser.{specs.inner.Leaves.IsLeaf, proofs.ShortLeaves.leaf-integer, proofs.ShortLeaves.leaf-simple}

pub returns-in_default-head_size-2-clause-prefix : goal.returns-in_default-head_size-2-clause-prefix
returns-in_default-head_size-2-clause-prefix c =
    let size = c.head_size-in-0.result in
    let some : 0 < size = search rules in
    let kind : c.args.first < 64 = search rules in
    let h = c.head_size-in-0.ensures some in
    (some, subst (λ (x : List ℕ). IsLeaf false x size) (sym h.1) (leaf-integer false c.args.first h.0 size kind h.2))

pub returns-in_default-2-clause-prefix : goal.returns-in_default-2-clause-prefix
returns-in_default-2-clause-prefix c =
    let some : 0 < 1 = omega arith in
    let kind : 224 ≤ c.args.first = search rules in
    let below : c.args.first < 248 = search rules in
    (some, subst (λ (x : List ℕ). IsLeaf false x 1) (sym c.requires.1) (leaf-simple false c.args.first c.requires.0 kind below))
