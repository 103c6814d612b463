use Rattle.cborc_commands.proofs.listing.write_lines.Goals as goal
use Rattle.cborc_commands.proofs.{Results.if_err, Listings.unlisted, Listings.unannotated}

pub returns-in-Listed-clause-unlisted : goal.returns-in-Listed-clause-unlisted
returns-in-Listed-clause-unlisted g c =
    rw c.in-Listed.is
    (if_err c.listing_from.result _ _
    (λ f h. unlisted c.args.start c.args.limits c.args.bytes.now f (g.W.Write.contents c.args.out.now) (g.W.Write.contents c.listing_from.new.writer) h)
    c.listing_from.ensures.refused)

pub returns-in-Annotated-clause-unlisted : goal.returns-in-Annotated-clause-unlisted
returns-in-Annotated-clause-unlisted g c =
    rw c.in-Annotated.is
    (if_err c.annotated.result _ _
    (λ f h. unannotated c.args.start c.args.limits c.args.bytes.now f (g.W.Write.contents c.args.out.now) (g.W.Write.contents c.annotated.new.writer) h)
    c.annotated.ensures.refused)
