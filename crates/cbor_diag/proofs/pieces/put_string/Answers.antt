use Rattle.std.proofs.{Common.◌++◌, lemmas.Result.err_from_is_err_and}
use Rattle.cbor_diag.specs.inner.Strings.{opening, content_text, closing}
use Rattle.cbor_diag.proofs.Putting.{stops-more, puts-then, puts-stops, puts-next}
use Rattle.cbor_diag.proofs.pieces.put_string.Goals as goal

pub returns-in_err-put_opening : goal.returns-in_err-put_opening
returns-in_err-put_opening g c =
    let t = c.args.is_text in
    let content = content_text t c.args.content.now in
    rw ((err_from_is_err_and c.from_residual.result c.from_residual.ensures.1).1) (stops-more _ _ c.args.out.now (opening t ++ content) (closing t) _ (stops-more _ _ c.args.out.now (opening t) content _ c.in_err-put_opening.ensures))

pub returns-in_err-put_content : goal.returns-in_err-put_content
returns-in_err-put_content g c =
    let t = c.args.is_text in
    let content = content_text t c.args.content.now in
    rw ((err_from_is_err_and c.from_residual-in_err-put_content.result c.from_residual-in_err-put_content.ensures.1).1) (stops-more _ _ c.args.out.now (opening t ++ content) (closing t) _
    (puts-stops _ _ _ c.args.out.now c.put_opening.new.out (opening t) content _ c.in_ok-put_opening.ensures c.in_err-put_content.ensures))

pub returns : goal.returns
returns g c =
    let t = c.args.is_text in
    let content = content_text t c.args.content.now in
    puts-next _ _ _ c.args.out.now c.put_content.new.out _ (opening t ++ content) (closing t) _
    (puts-then _ _ _ c.args.out.now c.put_opening.new.out c.put_content.new.out (opening t) content c.in_ok-put_opening.ensures c.in_ok-put_content.ensures) c.put_closing.ensures
