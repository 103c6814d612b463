use Rattle.std.proofs.Common.{ℕ, List, [], length, eqb, ◌≡◌, ◌≢◌, true, false, refl, ap, sym, ◌∙◌}
use Rattle.std.proofs.lemmas.{List.nil_from_length, Result.err_from_is_err_and, Bool.not-true, Bool.not-false, Bool.Decides.Decides-eqb}
use Rattle.cborc_commands.proofs.CheckedParts as checked
use Rattle.cborc_commands.proofs.check_parts.size_in_parts.Goals as goal
use Rattle.cborc_commands.proofs.check_parts.size_in_parts.Goals.{in-Done+else-not-is_spent, in-More+else-not-goes_on}
use Rattle.cborc_commands.{proofs.CheckedParts.taken_to, proofs.Files.same_files, proofs.Files.keeps_keeps, specs.Fault.refusal_fault}

-- whether a list of this length is empty
nothing : (n : ℕ) (xs ys : List ℕ) → xs ≡ ys → n ≡ length xs → eqb n 0 ≡ true → ys ≡ []
nothing n xs ys same is none = sym same ∙ nil_from_length xs (sym is ∙ (Decides-eqb n 0).0 none)

something : (n : ℕ) (xs ys : List ℕ) → xs ≡ ys → n ≡ length xs → eqb n 0 ≡ false → ys ≢ []
something n xs ys same is some none = let both : false ≡ true = sym some ∙ (Decides-eqb n 0).1 (is ∙ ap length (same ∙ none)) in cc both

pub parts-init : goal.parts-init
parts-init g c = record {
  checked = λ held kept begun. record {
    taken = [];
    marks = [];
    read = begun;
    agrees = c.new-machine.ensures.starts;
    limits_are = c.new-machine.ensures.limits;
    order_is = c.new-machine.ensures.order;
  };
  keeps = same_files _;
  same = refl;
}

pub returns-in_err-finish-in-Refused-clause-fault : goal.returns-in_err-finish-in-Refused-clause-fault
returns-in_err-finish-in-Refused-clause-fault g c =
    let p = err_from_is_err_and c.from_residual.result c.from_residual.ensures.1 in
    rw (p.1, p.2) (λ held kept begun.
    let before = c.parts.invariant.checked held kept begun in
    let since = keeps_keeps held _ _ kept c.parts.invariant.keeps in
    let within = rw (c.rest.ensures) at c.check-step.ensures.used.0 in
    let says = rw (c.rest.ensures) at (c.check-step.ensures.says before.taken before.marks before.agrees) in
    let a = taken_to held c.args.path.now c.args.options c.args.order c.parts.machine c.check-step.new.self c.parts.parts c.take.new.self before c.check-step.result.used within
    c.take.ensures.rest c.take.ensures.start c.take.ensures.source c.check-step.ensures.limits c.check-step.ensures.order c.check-step.ensures.keys in
    checked.no_rest held c.args.path.now c.args.options c.args.order c.check-step.new.self c.take.new.self _ a _ since _ c.in_err-finish-in-Refused.ensures.fault)

pub returns-in_err-finish-in-Refused-clause-keeps : goal.returns-in_err-finish-in-Refused-clause-keeps
returns-in_err-finish-in-Refused-clause-keeps g c = keeps_keeps _ _ _ c.parts.invariant.keeps c.finish.ensures.keeps

pub returns-in-Refused-clause-fault : goal.returns-in-Refused-clause-fault
returns-in-Refused-clause-fault g c = λ held kept begun.
    let before = c.parts.invariant.checked held kept begun in
    let since = keeps_keeps held _ _ kept c.parts.invariant.keeps in
    let within = rw (c.rest.ensures) at c.check-step.ensures.used.0 in
    let says = rw (c.rest.ensures) at (c.check-step.ensures.says before.taken before.marks before.agrees) in
    let a = taken_to held c.args.path.now c.args.options c.args.order c.parts.machine c.check-step.new.self c.parts.parts c.take.new.self before c.check-step.result.used within
    c.take.ensures.rest c.take.ensures.start c.take.ensures.source c.check-step.ensures.limits c.check-step.ensures.order c.check-step.ensures.keys in
    checked.refused_there held c.args.path.now c.args.options c.args.order c.check-step.new.self c.take.new.self _ a _ since _ says c.in-Refused.refusal c.in-Refused.is c.in_ok-finish-in-Refused.ensures.input _ c.from.ensures

pub returns-in-Refused-clause-keeps : goal.returns-in-Refused-clause-keeps
returns-in-Refused-clause-keeps g c = keeps_keeps _ _ _ c.parts.invariant.keeps c.finish.ensures.keeps

pub returns-in_err-rest-in-Done-clause-fault : goal.returns-in_err-rest-in-Done-clause-fault
returns-in_err-rest-in-Done-clause-fault g c =
    let p = err_from_is_err_and c.from_residual-in_err-rest-in-Done.result c.from_residual-in_err-rest-in-Done.ensures.1 in
    rw (p.1, p.2) (λ held kept begun.
    let before = c.parts.invariant.checked held kept begun in
    let since = keeps_keeps held _ _ kept c.parts.invariant.keeps in
    let within = rw (c.rest.ensures) at c.check-step.ensures.used.0 in
    let says = rw (c.rest.ensures) at (c.check-step.ensures.says before.taken before.marks before.agrees) in
    let a = taken_to held c.args.path.now c.args.options c.args.order c.parts.machine c.check-step.new.self c.parts.parts c.take.new.self before c.check-step.result.used within
    c.take.ensures.rest c.take.ensures.start c.take.ensures.source c.check-step.ensures.limits c.check-step.ensures.order c.check-step.ensures.keys in
    checked.no_rest held c.args.path.now c.args.options c.args.order c.check-step.new.self c.take.new.self _ a _ since _ c.in_err-rest-in-Done.ensures.fault)

pub returns-in_err-rest-in-Done-clause-keeps : goal.returns-in_err-rest-in-Done-clause-keeps
returns-in_err-rest-in-Done-clause-keeps g c = keeps_keeps _ _ _ c.parts.invariant.keeps c.finish-then-not-is_spent.ensures.keeps

pub returns-in_err-size-in-Done-clause-fault : goal.returns-in_err-size-in-Done-clause-fault
returns-in_err-size-in-Done-clause-fault g c =
    let p = err_from_is_err_and c.from_residual-in_err-size-in-Done.result c.from_residual-in_err-size-in-Done.ensures.1 in
    rw (p.1) (λ held kept begun.
    let before = c.parts.invariant.checked held kept begun in
    let since = keeps_keeps held _ _ kept c.parts.invariant.keeps in
    let within = rw (c.rest.ensures) at c.check-step.ensures.used.0 in
    let says = rw (c.rest.ensures) at (c.check-step.ensures.says before.taken before.marks before.agrees) in
    let a = taken_to held c.args.path.now c.args.options c.args.order c.parts.machine c.check-step.new.self c.parts.parts c.take.new.self before c.check-step.result.used within
    c.take.ensures.rest c.take.ensures.start c.take.ensures.source c.check-step.ensures.limits c.check-step.ensures.order c.check-step.ensures.keys in
    let some = something _ _ _ c.in_ok-rest-in-Done.ensures.rest c.in_ok-rest-in-Done.rest.ok.0 (sym c.is_empty.ensures ∙ c.in_err-size-in-Done.ensures.followed.1) in
    checked.followed_there held c.args.path.now c.args.options c.args.order c.check-step.new.self c.take.new.self _ a _ since _ says c.in-Done.is c.in_ok-rest-in-Done.ensures.input some _ c.start-size.ensures.is _ c.in_err-size-in-Done.ensures.followed.0 p.0 p.2)

pub returns-in_err-size-in-Done-clause-keeps : goal.returns-in_err-size-in-Done-clause-keeps
returns-in_err-size-in-Done-clause-keeps g c = keeps_keeps _ _ _ c.parts.invariant.keeps c.finish-then-not-is_spent.ensures.keeps

pub returns-then-not-is_spent-clause-whole : goal.returns-then-not-is_spent-clause-whole
returns-then-not-is_spent-clause-whole g c = λ held kept begun.
    let before = c.parts.invariant.checked held kept begun in
    let since = keeps_keeps held _ _ kept c.parts.invariant.keeps in
    let within = rw (c.rest.ensures) at c.check-step.ensures.used.0 in
    let says = rw (c.rest.ensures) at (c.check-step.ensures.says before.taken before.marks before.agrees) in
    let a = taken_to held c.args.path.now c.args.options c.args.order c.parts.machine c.check-step.new.self c.parts.parts c.take.new.self before c.check-step.result.used within
    c.take.ensures.rest c.take.ensures.start c.take.ensures.source c.check-step.ensures.limits c.check-step.ensures.order c.check-step.ensures.keys in
    let none = nothing _ _ _ c.in_ok-rest-in-Done.ensures.rest c.in_ok-rest-in-Done.rest.ok.0 (sym c.is_empty.ensures ∙ c.in_ok-size-in-Done.ensures.all.1) in
    checked.whole_there held c.args.path.now c.args.options c.args.order c.check-step.new.self c.take.new.self _ a _ since _ says c.in-Done.is c.in_ok-rest-in-Done.ensures.input none (c.is_spent.ensures.no c.if-not-is_spent.true none) _ (c.in_ok-size-in-Done.ensures.all.0 ∙ c.start-size.ensures.is)

pub returns-then-not-is_spent-clause-keeps : goal.returns-then-not-is_spent-clause-keeps
returns-then-not-is_spent-clause-keeps g c = keeps_keeps _ _ _ c.parts.invariant.keeps c.finish-then-not-is_spent.ensures.keeps

pub returns-then-not-goes_on-clause-fault : goal.returns-then-not-goes_on-clause-fault
returns-then-not-goes_on-clause-fault g c = λ held kept begun.
    let before = c.parts.invariant.checked held kept begun in
    let since = keeps_keeps held _ _ kept c.parts.invariant.keeps in
    let within = rw (c.rest.ensures) at c.check-step.ensures.used.0 in
    let says = rw (c.rest.ensures) at (c.check-step.ensures.says before.taken before.marks before.agrees) in
    let a = taken_to held c.args.path.now c.args.options c.args.order c.parts.machine c.check-step.new.self c.parts.parts c.take.new.self before c.check-step.result.used within
    c.take.ensures.rest c.take.ensures.start c.take.ensures.source c.check-step.ensures.limits c.check-step.ensures.order c.check-step.ensures.keys in
    let more = checked.more_is _ _ _ c.in-More.is says in
    let none = checked.none_left c.parts.parts c.take.new.self c.check-step.result.used c.take.ensures.rest (rw (c.rest.ensures) at (c.check-step.ensures.more more.0)) in
    let ended = not-false c.take.new.self.source.ended (sym c.goes_on.ensures ∙ c.if-not-goes_on.true) in
    checked.cut_there held c.args.path.now c.args.options c.args.order c.check-step.new.self c.take.new.self _ a _ since more.1 none ended _ c.taken.ensures.taken _ (c.from-then-not-goes_on.ensures ∙ ap refusal_fault c.at-cut.ensures)

pub parts-smaller : goal.parts-smaller
parts-smaller g c =
    let live : c.take.new.self.source.ended ≡ false = elim c.match-step.branch [
      | in-Done+else-not-is_spent w ↦ w.is_spent.ensures.yes w.if-not-is_spent.false
      | in-More+else-not-goes_on w ↦ not-true c.take.new.self.source.ended (sym w.goes_on.ensures ∙ w.if-not-goes_on.false)
    ] in
    checked.less_left _ _ c.parts.parts c.take.new.self c.read_on.new.self c.check-step.result.used c.take.ensures.rest c.take.ensures.source live c.in_ok-read_on.ensures.read

pub parts-preserved : goal.parts-preserved
parts-preserved g c = record {
  checked = λ held kept begun.
      let before = c.parts.invariant.checked held kept begun in
      let since = keeps_keeps held _ _ kept c.parts.invariant.keeps in
      let within = rw (c.rest.ensures) at c.check-step.ensures.used.0 in
      let says = rw (c.rest.ensures) at (c.check-step.ensures.says before.taken before.marks before.agrees) in
      let a = taken_to held c.args.path.now c.args.options c.args.order c.parts.machine c.check-step.new.self c.parts.parts c.take.new.self before c.check-step.result.used within
      c.take.ensures.rest c.take.ensures.start c.take.ensures.source c.check-step.ensures.limits c.check-step.ensures.order c.check-step.ensures.keys in
      let now : checked.IsCheckedTo held c.args.path.now c.args.options c.args.order c.check-step.new.self c.take.new.self = elim c.match-step.branch [
        | in-Done+else-not-is_spent w ↦ checked.done_checked held c.args.path.now c.args.options c.args.order c.check-step.new.self c.take.new.self _ a _ says w.in-Done.is
        | in-More+else-not-goes_on w ↦ checked.more_checked held c.args.path.now c.args.options c.args.order c.check-step.new.self c.take.new.self _ a (checked.more_is _ _ _ w.in-More.is says).1
      ] in
      checked.next_checked held c.args.path.now c.args.options c.args.order c.check-step.new.self c.take.new.self c.read_on.new.self _ since now c.in_ok-read_on.ensures.read;
  keeps = keeps_keeps _ _ _ c.parts.invariant.keeps c.read_on.ensures.keeps;
  same = c.read_on.ensures.same ∙ c.parts.invariant.same;
}

pub returns-in_err-read_on-clause-fault : goal.returns-in_err-read_on-clause-fault
returns-in_err-read_on-clause-fault g c =
    let p = err_from_is_err_and c.from_residual-in_err-read_on.result c.from_residual-in_err-read_on.ensures.1 in
    rw (p.1, p.2) (λ held kept begun.
    let before = c.parts.invariant.checked held kept begun in
    let since = keeps_keeps held _ _ kept c.parts.invariant.keeps in
    let within = rw (c.rest.ensures) at c.check-step.ensures.used.0 in
    let says = rw (c.rest.ensures) at (c.check-step.ensures.says before.taken before.marks before.agrees) in
    let a = taken_to held c.args.path.now c.args.options c.args.order c.parts.machine c.check-step.new.self c.parts.parts c.take.new.self before c.check-step.result.used within
    c.take.ensures.rest c.take.ensures.start c.take.ensures.source c.check-step.ensures.limits c.check-step.ensures.order c.check-step.ensures.keys in
    checked.no_part_there held c.args.path.now c.args.options c.args.order c.check-step.new.self c.take.new.self _ a _ since _ c.in_err-read_on.ensures.fault)

pub returns-in_err-read_on-clause-keeps : goal.returns-in_err-read_on-clause-keeps
returns-in_err-read_on-clause-keeps g c = keeps_keeps _ _ _ c.parts.invariant.keeps c.read_on.ensures.keeps
