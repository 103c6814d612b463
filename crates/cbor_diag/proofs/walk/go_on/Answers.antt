use Rattle.std.proofs.Common.{◌++◌, codes, sym, ap, arith, reverse, take}
use Rattle.std.proofs.lemmas.Result.{err_from_is_err_and}
use Rattle.cbor_diag.proofs.Leaving.{prefix-stops, put-stops, goes-on, ends, member-next, members-end, pair-next, pairs-end, value-next}
use Rattle.cbor_diag.proofs.walk.go_on.Goals as goal
use Rattle.cbor_diag.{specs.inner.Layout.gap, specs.inner.Layout.end, specs.inner.Levels.following, specs.inner.Levels.left_of, proofs.Putting.stops-more}

pub returns-in_err-put_gap-in-Some-clause-put : goal.returns-in_err-put_gap-in-Some-clause-put
returns-in_err-put_gap-in-Some-clause-put g c =
    rw ((err_from_is_err_and c.from_residual.result c.from_residual.ensures.1).1) (prefix-stops _ _ c.args.out.now _ (gap c.args.layout c.args.level.indent c.in-Array.first) _ _ (member-next g.N.Node.value c.args.layout c.args.level.indent c.in-Array.first c.args.level.left c.in-Array.left c.in-Some.item.now c.in-Some.left.now (following g.N.Node.value c.args.layout (reverse (take c.args.height.now c.args.cells.now))) c.in-Array.is c.in-Some.ensures.cases.0) c.in_err-put_gap-in-Some.ensures)

pub returns-in_ok-put_gap-in-Some-clause-put : goal.returns-in_ok-put_gap-in-Some-clause-put
returns-in_ok-put_gap-in-Some-clause-put g c =
    goes-on g.N.Node.value c.args.layout _ _ _ _ c.args.out.now c.put_gap.new.out c.go_into.new.out _ (gap c.args.layout c.args.level.indent c.in-Array.first) _ c.go_into.result (member-next g.N.Node.value c.args.layout c.args.level.indent c.in-Array.first c.args.level.left c.in-Array.left c.in-Some.item.now c.in-Some.left.now (following g.N.Node.value c.args.layout (reverse (take c.args.height.now c.args.cells.now))) c.in-Array.is c.in-Some.ensures.cases.0) c.in_ok-put_gap-in-Some.ensures c.go_into.ensures.put

pub returns-in_err-put_end-in-None-clause-put : goal.returns-in_err-put_end-in-None-clause-put
returns-in_err-put_end-in-None-clause-put g c =
    rw ((err_from_is_err_and c.from_residual-in_err-put_end-in-None.result c.from_residual-in_err-put_end-in-None.ensures.1).1) (prefix-stops _ _ c.args.out.now _ (end c.args.layout c.args.level.indent c.in-Array.first) _ _ (members-end g.N.Node.value c.args.layout c.args.level.indent c.in-Array.first c.args.level.left c.in-Array.left (following g.N.Node.value c.args.layout (reverse (take c.args.height.now c.args.cells.now))) c.in-Array.is c.in-None.ensures.cases) c.in_err-put_end-in-None.ensures)

pub returns-in_err-put-in-None-clause-put : goal.returns-in_err-put-in-None-clause-put
returns-in_err-put-in-None-clause-put g c =
    rw ((err_from_is_err_and c.from_residual-in_err-put-in-None.result c.from_residual-in_err-put-in-None.ensures.1).1) (put-stops _ _ _ c.args.out.now c.put_end.new.out _ (end c.args.layout c.args.level.indent c.in-Array.first) _ _ (members-end g.N.Node.value c.args.layout c.args.level.indent c.in-Array.first c.args.level.left c.in-Array.left (following g.N.Node.value c.args.layout (reverse (take c.args.height.now c.args.cells.now))) c.in-Array.is c.in-None.ensures.cases) c.in_ok-put_end-in-None.ensures (stops-more _ _ c.put_end.new.out (codes "]") (following g.N.Node.value c.args.layout (reverse (take c.args.height.now c.args.cells.now))) _ c.in_err-put-in-None.ensures))

pub returns-in_ok-put-in-None-clause-put : goal.returns-in_ok-put-in-None-clause-put
returns-in_ok-put-in-None-clause-put g c =
    ends g.N.Node.value c.args.layout (take c.args.height.now c.args.cells.now) (take c.pop.new.height c.args.cells.now) c.pop.result _ _ _ c.args.out.now c.put_end.new.out c.put.new.self _ (end c.args.layout c.args.level.indent c.in-Array.first) (codes "]") c.pop.ensures.items c.pop.ensures.variant.1 (members-end g.N.Node.value c.args.layout c.args.level.indent c.in-Array.first c.args.level.left c.in-Array.left (following g.N.Node.value c.args.layout (reverse (take c.args.height.now c.args.cells.now))) c.in-Array.is c.in-None.ensures.cases) (omega arith) c.in_ok-put_end-in-None.ensures c.in_ok-put-in-None.ensures

pub returns-in_err-put_gap-in-Some-split_first-clause-put : goal.returns-in_err-put_gap-in-Some-split_first-clause-put
returns-in_err-put_gap-in-Some-split_first-clause-put g c =
    rw ((err_from_is_err_and c.from_residual-in_err-put_gap-in-Some-split_first.result c.from_residual-in_err-put_gap-in-Some-split_first.ensures.1).1) (prefix-stops _ _ c.args.out.now _ (gap c.args.layout c.args.level.indent c.in-Map.first) _ _ (pair-next g.N.Node.value c.args.layout c.args.level.indent c.in-Map.first c.args.level.left c.in-Map.left c.in-Some-split_first.field-0-0.now c.in-Some-split_first.left.now (following g.N.Node.value c.args.layout (reverse (take c.args.height.now c.args.cells.now))) c.in-Map.is c.in-Some-split_first.ensures.cases.0) c.in_err-put_gap-in-Some-split_first.ensures)

pub returns-in_ok-put_gap-in-Some-split_first-clause-put : goal.returns-in_ok-put_gap-in-Some-split_first-clause-put
returns-in_ok-put_gap-in-Some-split_first-clause-put g c =
    goes-on g.N.Node.value c.args.layout _ _ _ _ c.args.out.now c.put_gap-in-Some-split_first.new.out c.go_into-in-Some-split_first.new.out _ (gap c.args.layout c.args.level.indent c.in-Map.first) _ c.go_into-in-Some-split_first.result (pair-next g.N.Node.value c.args.layout c.args.level.indent c.in-Map.first c.args.level.left c.in-Map.left c.in-Some-split_first.field-0-0.now c.in-Some-split_first.left.now (following g.N.Node.value c.args.layout (reverse (take c.args.height.now c.args.cells.now))) c.in-Map.is c.in-Some-split_first.ensures.cases.0) c.in_ok-put_gap-in-Some-split_first.ensures c.go_into-in-Some-split_first.ensures.put

pub returns-in_err-put_end-in-None-split_first-clause-put : goal.returns-in_err-put_end-in-None-split_first-clause-put
returns-in_err-put_end-in-None-split_first-clause-put g c =
    rw ((err_from_is_err_and c.from_residual-in_err-put_end-in-None-split_first.result c.from_residual-in_err-put_end-in-None-split_first.ensures.1).1) (prefix-stops _ _ c.args.out.now _ (end c.args.layout c.args.level.indent c.in-Map.first) _ _ (pairs-end g.N.Node.value c.args.layout c.args.level.indent c.in-Map.first c.args.level.left c.in-Map.left (following g.N.Node.value c.args.layout (reverse (take c.args.height.now c.args.cells.now))) c.in-Map.is c.in-None-split_first.ensures.cases) c.in_err-put_end-in-None-split_first.ensures)

pub returns-in_err-put-in-None-split_first-clause-put : goal.returns-in_err-put-in-None-split_first-clause-put
returns-in_err-put-in-None-split_first-clause-put g c =
    rw ((err_from_is_err_and c.from_residual-in_err-put-in-None-split_first.result c.from_residual-in_err-put-in-None-split_first.ensures.1).1) (put-stops _ _ _ c.args.out.now c.put_end-in-None-split_first.new.out _ (end c.args.layout c.args.level.indent c.in-Map.first) _ _ (pairs-end g.N.Node.value c.args.layout c.args.level.indent c.in-Map.first c.args.level.left c.in-Map.left (following g.N.Node.value c.args.layout (reverse (take c.args.height.now c.args.cells.now))) c.in-Map.is c.in-None-split_first.ensures.cases) c.in_ok-put_end-in-None-split_first.ensures (stops-more _ _ c.put_end-in-None-split_first.new.out (codes "}") (following g.N.Node.value c.args.layout (reverse (take c.args.height.now c.args.cells.now))) _ c.in_err-put-in-None-split_first.ensures))

pub returns-in_ok-put-in-None-split_first-clause-put : goal.returns-in_ok-put-in-None-split_first-clause-put
returns-in_ok-put-in-None-split_first-clause-put g c =
    ends g.N.Node.value c.args.layout (take c.args.height.now c.args.cells.now) (take c.pop-in-None-split_first.new.height c.args.cells.now) c.pop-in-None-split_first.result _ _ _ c.args.out.now c.put_end-in-None-split_first.new.out c.put-in-None-split_first.new.self _ (end c.args.layout c.args.level.indent c.in-Map.first) (codes "}") c.pop-in-None-split_first.ensures.items c.pop-in-None-split_first.ensures.variant.1 (pairs-end g.N.Node.value c.args.layout c.args.level.indent c.in-Map.first c.args.level.left c.in-Map.left (following g.N.Node.value c.args.layout (reverse (take c.args.height.now c.args.cells.now))) c.in-Map.is c.in-None-split_first.ensures.cases) (omega arith) c.in_ok-put_end-in-None-split_first.ensures c.in_ok-put-in-None-split_first.ensures

pub returns-in_err-put-in-Value-clause-put : goal.returns-in_err-put-in-Value-clause-put
returns-in_err-put-in-Value-clause-put g c =
    rw ((err_from_is_err_and c.from_residual-in_err-put-in-Value.result c.from_residual-in_err-put-in-Value.ensures.1).1) (prefix-stops _ _ c.args.out.now _ (codes ": ") _ _ (value-next g.N.Node.value c.args.layout c.args.level.indent c.args.level.left c.in-Value.value c.in-Value.left (following g.N.Node.value c.args.layout (reverse (take c.args.height.now c.args.cells.now))) c.in-Value.is) c.in_err-put-in-Value.ensures)

pub returns-in_ok-put-in-Value-clause-put : goal.returns-in_ok-put-in-Value-clause-put
returns-in_ok-put-in-Value-clause-put g c =
    goes-on g.N.Node.value c.args.layout _ _ _ _ c.args.out.now c.put-in-Value.new.self c.go_into-in-Value.new.out _ (codes ": ") _ c.go_into-in-Value.result (value-next g.N.Node.value c.args.layout c.args.level.indent c.args.level.left c.in-Value.value c.in-Value.left (following g.N.Node.value c.args.layout (reverse (take c.args.height.now c.args.cells.now))) c.in-Value.is) c.in_ok-put-in-Value.ensures c.go_into-in-Value.ensures.put

pub returns-in_err-put-in-Tag-clause-put : goal.returns-in_err-put-in-Tag-clause-put
returns-in_err-put-in-Tag-clause-put g c =
    rw ((err_from_is_err_and c.from_residual-in_err-put-in-Tag.result c.from_residual-in_err-put-in-Tag.ensures.1).1) (prefix-stops _ _ c.args.out.now _ (codes ")") _ _ (ap (λ x. left_of g.N.Node.value c.args.layout c.args.level.indent x ++ (following g.N.Node.value c.args.layout (reverse (take c.args.height.now c.args.cells.now)))) (sym c.in-Tag.is)) c.in_err-put-in-Tag.ensures)
