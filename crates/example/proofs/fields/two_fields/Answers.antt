use Rattle.std.proofs.Common.{ℕ, ℤ, List, drop, sym, subst}
use Rattle.example.proofs.fields.two_fields.Goals as goal
use Rattle.example.{specs.Fields.AreRows, proofs.Rows.following, proofs.Rows.one_more}

pub records-preserved : goal.records-preserved
records-preserved c =
    let found = c.in_ok-row.ensures.row in
    let rest = c.records.rest.now in
    let AreBefore : List (ℤ × ℤ) → List ℕ → Type 0 = AreRows c.args.limits c.args.first.now c.args.second.now c.args.records.now in
    subst (AreBefore c.push.new.self.items) (sym (following c.in_ok-row.size rest))
    (subst (λ (rows : List (ℤ × ℤ)). AreBefore rows (drop c.in_ok-row.size rest)) (sym c.in-Ok.ensures.items)
    (one_more c.args.limits c.args.first.now c.args.second.now c.args.records.now _ rest c.records.invariant found.0 _ c.in_ok-row.row found.1 found.2))
