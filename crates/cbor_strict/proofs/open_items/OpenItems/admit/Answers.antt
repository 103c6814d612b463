use Rattle.std.proofs.Common.{sym, subst}
use Rattle.theory_verdicts.proofs.Payloads.{IsPiece}
use Rattle.cbor_strict.specs.inner.OpenItems.{IsPartCome, IsHeadCome, ReturnsPart, ReturnsHead}
use Rattle.cbor_strict.proofs.Admitted.{of_piece, piece_of, of_other, other_of, not_piece}
use Rattle.cbor_strict.proofs.open_items.OpenItems.admit.Goals as goal

pub admit_piece-requires : goal.admit_piece-requires
admit_piece-requires c = piece_of c.args.event.now.kind (IsPartCome c.args.self.now c.args.piece.now c.args.open c.args.taken) (IsHeadCome c.args.self.now c.args.event.now c.args.open c.args.taken) (subst IsPiece (sym c.in-Piece.is) tt) c.requires

pub admit_head-requires : goal.admit_head-requires
admit_head-requires c = other_of c.args.event.now.kind (IsPartCome c.args.self.now c.args.piece.now c.args.open c.args.taken) (IsHeadCome c.args.self.now c.args.event.now c.args.open c.args.taken) (not_piece c.args.event.now.kind c.in_default.not-Piece) c.requires

pub returns-in-Piece-clause-returned : goal.returns-in-Piece-clause-returned
returns-in-Piece-clause-returned c =
    of_piece c.args.event.now.kind (ReturnsPart c.args.self.now c.admit_piece.new.self c.args.piece.now c.args.open c.args.taken c.admit_piece.result) (ReturnsHead c.args.self.now c.admit_piece.new.self c.args.event.now c.args.open c.args.taken c.admit_piece.result) (subst IsPiece (sym c.in-Piece.is) tt) c.admit_piece.ensures.returned

pub returns-clause-returned : goal.returns-clause-returned
returns-clause-returned c =
    of_other c.args.event.now.kind (ReturnsPart c.args.self.now c.admit_head.new.self c.args.piece.now c.args.open c.args.taken c.admit_head.result) (ReturnsHead c.args.self.now c.admit_head.new.self c.args.event.now c.args.open c.args.taken c.admit_head.result) (not_piece c.args.event.now.kind c.in_default.not-Piece) c.admit_head.ensures.returned
