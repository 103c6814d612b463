use Rattle.std.proofs.Common.{◌++◌, codes, decimal, length-append, arith}
use Rattle.std.proofs.lemmas.{Result.err_from_is_err_and, Fmt.decimal_nonempty}
use Rattle.cbor_diag.proofs.Putting.{puts-then, puts-stops, stops-more}
use Rattle.cbor_diag.proofs.Leaving.{prefix-stops, prefix-left, leaf-left, array-prefix, map-prefix, tag-prefix}
use Rattle.cbor_diag.proofs.walk.begin.Goals as goal

pub returns-in_ok-put_number-in-Unsigned-clause-put : goal.returns-in_ok-put_number-in-Unsigned-clause-put
returns-in_ok-put_number-in-Unsigned-clause-put g c =
    leaf-left c.args.layout c.args.indent _ _ _ _ c.args.out.now c.put_number.new.out c.in-Unsigned.ensures.value (decimal_nonempty c.in-Unsigned.number (grind arith)) c.in_ok-put_number-in-Unsigned.ensures

pub returns-in_err-put-in-Array-clause-put : goal.returns-in_err-put-in-Array-clause-put
returns-in_err-put-in-Array-clause-put g c = rw ((err_from_is_err_and c.from_residual-in_err-put-in-Array.result c.from_residual-in_err-put-in-Array.ensures.1).1) (prefix-stops _ _ c.args.out.now _ (codes "[") _ _ (array-prefix g.N.Node.value c.args.layout c.args.indent _ c.in-Array.items.now c.in-Array.ensures.value) c.in_err-put-in-Array.ensures)

pub returns-in_err-put-in-Map-clause-put : goal.returns-in_err-put-in-Map-clause-put
returns-in_err-put-in-Map-clause-put g c = rw ((err_from_is_err_and c.from_residual-in_err-put-in-Map.result c.from_residual-in_err-put-in-Map.ensures.1).1) (prefix-stops _ _ c.args.out.now _ (codes "{") _ _ (map-prefix g.N.Node.value c.args.layout c.args.indent _ c.in-Map.pairs.now c.in-Map.ensures.value) c.in_err-put-in-Map.ensures)

pub returns-in_err-put_number-in-Tag-clause-put : goal.returns-in_err-put_number-in-Tag-clause-put
returns-in_err-put_number-in-Tag-clause-put g c =
    rw ((err_from_is_err_and c.from_residual-in_err-put_number-in-Tag.result c.from_residual-in_err-put_number-in-Tag.ensures.1).1) (prefix-stops _ _ c.args.out.now _ (decimal c.in-Tag.number ++ codes "(") _ _ (tag-prefix g.N.Node.value c.args.layout c.args.indent _ c.in-Tag.number c.in-Tag.content.now c.in-Tag.ensures.value) (stops-more _ _ c.args.out.now (decimal c.in-Tag.number) (codes "(") _ c.in_err-put_number-in-Tag.ensures))

pub returns-in_err-put-in-Tag-clause-put : goal.returns-in_err-put-in-Tag-clause-put
returns-in_err-put-in-Tag-clause-put g c =
    rw ((err_from_is_err_and c.from_residual-in_err-put-in-Tag.result c.from_residual-in_err-put-in-Tag.ensures.1).1) (prefix-stops _ _ c.args.out.now _ (decimal c.in-Tag.number ++ codes "(") _ _ (tag-prefix g.N.Node.value c.args.layout c.args.indent _ c.in-Tag.number c.in-Tag.content.now c.in-Tag.ensures.value) (puts-stops _ _ _ c.args.out.now c.put_number-in-Tag.new.out (decimal c.in-Tag.number) (codes "(") _ c.in_ok-put_number-in-Tag.ensures c.in_err-put-in-Tag.ensures))

pub returns-in_ok-put-in-Tag-clause-put : goal.returns-in_ok-put-in-Tag-clause-put
returns-in_ok-put-in-Tag-clause-put g c =
    prefix-left _ _ c.args.out.now c.put-in-Tag.new.self _ (decimal c.in-Tag.number ++ codes "(") _
    (tag-prefix g.N.Node.value c.args.layout c.args.indent _ c.in-Tag.number c.in-Tag.content.now c.in-Tag.ensures.value) (omega (arith, length-append (decimal c.in-Tag.number) (codes "(")))
    (puts-then _ _ _ c.args.out.now c.put_number-in-Tag.new.out c.put-in-Tag.new.self (decimal c.in-Tag.number) (codes "(") c.in_ok-put_number-in-Tag.ensures c.in_ok-put-in-Tag.ensures)
