use Rattle.std.proofs.Common.{◌∙◌, arith, sym, refl}
use Rattle.std.proofs.lemmas.{Bool.not-true, Bool.not-false, Result.err_from_is_err_and}
use Rattle.cborc_commands.proofs.Items.{none_taken, not_begun, not_read_on, count_within, read_too, one_more, all_written, stopped_there, stopped_without, taken_less}
use Rattle.cborc_commands.proofs.sequence.write_items.Goals as goal
use Rattle.cborc_commands.proofs.{Files.keeps_keeps, ReadParts.read_less}

pub items-init : goal.items-init
items-init g c = record {
  taken = none_taken _ _ _ _ _ _ c.in_ok-parts.parts c.in_ok-parts.ensures.begins;
  keeps = c.open.ensures.keeps;
  same = c.open.ensures.same;
}

pub returns-then-ends_before-clause-written : goal.returns-then-ends_before-clause-written
returns-then-ends_before-clause-written g c =
    all_written _ _ _ _ _ _ c.items.parts _ _ c.items.invariant.taken (rw c.rest.ensures at (c.ends_before.ensures.yes c.if-ends_before.true))
    (c.is_spent.ensures.no c.if-is_spent.false)

pub overflow_add-count : goal.overflow_add-count
overflow_add-count g c =
    omega (arith, count_within _ _ _ _ _ _ c.items.parts _ _ c.items.invariant.taken, c.start-start.ensures.is, c.start-start.ensures.range)

pub overflow_add-count-in-Err : goal.overflow_add-count-in-Err
overflow_add-count-in-Err g c =
    omega (arith, count_within _ _ _ _ _ _ c.items.parts _ _ c.items.invariant.taken, c.start-start.ensures.is, c.start-start.ensures.range)

pub items-smaller-then-is_spent : goal.items-smaller-then-is_spent
items-smaller-then-is_spent g c = read_less _ _ c.items.parts c.read_on.new.self (c.is_spent.ensures.yes c.if-is_spent.true) c.in_ok-read_on.ensures.read

pub items-smaller-in-Ok-Some : goal.items-smaller-in-Ok-Some
items-smaller-in-Ok-Some g c =
    let reported = rw c.in-Ok-Some.field-0-is at c.in-Ok-Some.ensures.written in
    let written = rw c.rest-in-items.ensures at reported in
    taken_less _ _ c.items.parts c.take.new.self c.in-Ok-Some.size _ _ written c.take.ensures.rest c.take.ensures.source

pub items-smaller : goal.items-smaller
items-smaller g c =
    let reported = rw c.in-Ok-None.field-0-is at c.in-Ok-None.ensures.written in
    let live = not-true c.items.parts.source.ended (sym c.goes_on-goes_on.ensures ∙ reported.0) in
    read_less _ _ c.items.parts c.read_on-in-Ok-None.new.self live c.in_ok-read_on-in-Ok-None.ensures.read

pub items-preserved-then-is_spent : goal.items-preserved-then-is_spent
items-preserved-then-is_spent g c = record {
  taken = read_too _ _ _ _ _ _ c.items.parts _ _ c.items.invariant.taken _ c.read_on.new.self _ refl c.items.invariant.keeps c.in_ok-read_on.ensures.read;
  keeps = keeps_keeps _ _ _ c.items.invariant.keeps c.read_on.ensures.keeps;
  same = c.read_on.ensures.same ∙ c.items.invariant.same;
}

pub items-preserved-in-Ok-Some : goal.items-preserved-in-Ok-Some
items-preserved-in-Ok-Some g c =
    let reported = rw c.in-Ok-Some.field-0-is at c.in-Ok-Some.ensures.written in
    let written = rw (c.rest-in-items.ensures, c.start-start.ensures.is) at reported in
    record {
      taken = one_more _ _ _ _ _ _ c.items.parts _ _ c.items.invariant.taken c.take.new.self _ c.in-Ok-Some.size written c.take.ensures.rest c.take.ensures.start c.take.ensures.source;
      keeps = c.items.invariant.keeps;
      same = c.items.invariant.same;
    }

pub items-preserved : goal.items-preserved
items-preserved g c =
    let reported = rw c.in-Ok-None.field-0-is at c.in-Ok-None.ensures.written in
    record {
      taken = read_too _ _ _ _ _ _ c.items.parts _ _ c.items.invariant.taken _ c.read_on-in-Ok-None.new.self _ reported.1 c.items.invariant.keeps c.in_ok-read_on-in-Ok-None.ensures.read;
      keeps = keeps_keeps _ _ _ c.items.invariant.keeps c.read_on-in-Ok-None.ensures.keeps;
      same = c.read_on-in-Ok-None.ensures.same ∙ c.items.invariant.same;
    }

pub returns-in-Err-clause-stopped : goal.returns-in-Err-clause-stopped
returns-in-Err-clause-stopped g c =
    let begun = rw c.rest.ensures at (c.ends_before.ensures.no c.if-ends_before.false) in
    rw (c.at_item.ensures, c.start-start.ensures.is)
    (stopped_there _ _ _ _ _ _ c.items.parts _ _ c.items.invariant.taken _ begun _ _
    (λ following e. rw (c.rest-in-items.ensures, c.start-start.ensures.is) at (c.in-Err.ensures.stopped following (λ h. e (not-false c.items.parts.source.ended (sym c.goes_on-goes_on.ensures ∙ h)))))
    _ c.items.invariant.keeps c.in_ok-finish-in-Err.ensures.input)

pub returns-in_err-parts-clause-stopped : goal.returns-in_err-parts-clause-stopped
returns-in_err-parts-clause-stopped g c =
    let p = err_from_is_err_and c.from_residual.result c.from_residual.ensures.1 in
    rw (p.1, p.2) (not_begun _ _ _ _ _ _ _ _ c.in_err-parts.ensures.fault)

pub returns-in_err-read_on-clause-stopped : goal.returns-in_err-read_on-clause-stopped
returns-in_err-read_on-clause-stopped g c =
    let p = err_from_is_err_and c.from_residual-in_err-read_on.result c.from_residual-in_err-read_on.ensures.1 in
    rw (p.1, p.2) (not_read_on _ _ _ _ _ _ c.items.parts _ _ c.items.invariant.taken _ _ refl _ _ c.items.invariant.keeps c.in_err-read_on.ensures.fault)

pub returns-in_err-read_on-in-Ok-None-clause-stopped : goal.returns-in_err-read_on-in-Ok-None-clause-stopped
returns-in_err-read_on-in-Ok-None-clause-stopped g c =
    let p = err_from_is_err_and c.from_residual-in_err-read_on-in-Ok-None.result c.from_residual-in_err-read_on-in-Ok-None.ensures.1 in
    let reported = rw c.in-Ok-None.field-0-is at c.in-Ok-None.ensures.written in
    rw (p.1, p.2) (not_read_on _ _ _ _ _ _ c.items.parts _ _ c.items.invariant.taken _ _ reported.1 _ _ c.items.invariant.keeps c.in_err-read_on-in-Ok-None.ensures.fault)

pub returns-in_err-finish-in-Err-clause-stopped : goal.returns-in_err-finish-in-Err-clause-stopped
returns-in_err-finish-in-Err-clause-stopped g c =
    let begun = rw c.rest.ensures at (c.ends_before.ensures.no c.if-ends_before.false) in
    let p = err_from_is_err_and c.from_residual-in_err-finish-in-Err.result c.from_residual-in_err-finish-in-Err.ensures.1 in
    rw (p.1, p.2) (stopped_without _ _ _ _ _ _ c.items.parts _ _ c.items.invariant.taken _ begun _ _
    (λ following e. rw (c.rest-in-items.ensures, c.start-start.ensures.is) at (c.in-Err.ensures.stopped following (λ h. e (not-false c.items.parts.source.ended (sym c.goes_on-goes_on.ensures ∙ h)))))
    _ _ c.items.invariant.keeps c.in_err-finish-in-Err.ensures.fault)
