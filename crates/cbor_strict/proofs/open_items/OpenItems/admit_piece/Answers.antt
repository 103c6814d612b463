use Rattle.std.proofs.Common.{◌≡◌, ◌++◌, ◌∙◌, subst, sym, arith}
use Rattle.std.proofs.lemmas.Str.{utf8_valid_len_le}
use Rattle.cbor_head.specs.Prelude.{strict}
use Rattle.cbor_strict.proofs.OpenPieces.{part_no_memory, part_goes_on, part_ends, part_no_text, part_space}
use Rattle.cbor_strict.proofs.open_items.OpenItems.admit_piece.Goals as goal
use Rattle.cbor_strict.specs.inner.OpenItems.{IsRightResult}

pub returns-in-Err-clause-returned : goal.returns-in-Err-clause-returned
returns-in-Err-clause-returned c = λ b old t e h n m to. part_no_memory c.args.self.now b old t c.args.piece.now e h _ c.args.taken to m c.at.ensures

pub returns-then-self-gt0-clause-returned : goal.returns-then-self-gt0-clause-returned
returns-then-self-gt0-clause-returned c = λ b old t e h n m. part_goes_on c.args.self.now b old t c.args.piece.now e h c.take_part.new.self c.keep.new.self c.take_part.ensures.same.0 c.take_part.ensures.same.1 c.take_part.ensures.text c.take_part.ensures.left c.in-Ok.ensures.kept c.if-self-gt0.true c.take_part.ensures.checked

pub end_item-requires : goal.end_item-requires
end_item-requires c =
    let r = c.requires in
    let h = r.come in
    let none : c.take_part.new.self.left ≡ 0 = omega (arith, c.if-self-gt0.false) in
    record {
      b = r.b;
      e = r.e;
      t = _;
      ended = part_ends c.args.self.now r.b r.old r.t c.args.piece.now r.e r.come c.take_part.new.self c.keep.new.self c.take_part.ensures.same.0 c.take_part.ensures.same.1 c.take_part.ensures.text c.take_part.ensures.left c.in-Ok.ensures.kept none (λ y. c.in-Ok-text_end.ensures (h.expected.q ++ c.args.piece.now) (λ y. c.take_part.ensures.checked h.expected.q (sym c.take_part.ensures.text ∙ y) (h.expected.checked (sym c.take_part.ensures.text ∙ y))) (c.take_part.ensures.text ∙ y));
      counted = r.counted;
      all = r.all;
    }

pub returns-in-Ok-text_end-clause-returned : goal.returns-in-Ok-text_end-clause-returned
returns-in-Ok-text_end-clause-returned c = λ b old t e h n m.
    let none : c.take_part.new.self.left ≡ 0 = omega (arith, c.if-self-gt0.false) in
    subst (λ o. IsRightResult (strict o) c.end_item.new.self b e (t ++ c.args.piece.now) c.end_item.result) c.take_part.ensures.same.0
    (c.end_item.ensures.returned b e _ (part_ends c.args.self.now b old t c.args.piece.now e h c.take_part.new.self c.keep.new.self c.take_part.ensures.same.0 c.take_part.ensures.same.1 c.take_part.ensures.text c.take_part.ensures.left c.in-Ok.ensures.kept none (λ y. c.in-Ok-text_end.ensures (h.expected.q ++ c.args.piece.now) (λ y. c.take_part.ensures.checked h.expected.q (sym c.take_part.ensures.text ∙ y) (h.expected.checked (sym c.take_part.ensures.text ∙ y))) (c.take_part.ensures.text ∙ y))) n m)

pub overflow_sub-following : goal.overflow_sub-following
overflow_sub-following c =
    let h = c.requires.come in
    let q = h.expected.q ++ c.args.piece.now in
    let z = c.in-Err-text_end.ensures q (λ y. c.take_part.ensures.checked h.expected.q (sym c.take_part.ensures.text ∙ y) (h.expected.checked (sym c.take_part.ensures.text ∙ y))) in
    let checked = c.take_part.ensures.checked h.expected.q (sym c.take_part.ensures.text ∙ z.0) (h.expected.checked (sym c.take_part.ensures.text ∙ z.0)) in
    omega (arith, z.2, utf8_valid_len_le q, checked.pushed, c.pushed.ensures)

pub returns-in-Err-text_end-clause-returned : goal.returns-in-Err-text_end-clause-returned
returns-in-Err-text_end-clause-returned c = λ b old t e h n m to.
    let none : c.take_part.new.self.left ≡ 0 = omega (arith, c.if-self-gt0.false) in
    let q = h.expected.q ++ c.args.piece.now in
    let z = c.in-Err-text_end.ensures q (λ y. c.take_part.ensures.checked h.expected.q (sym c.take_part.ensures.text ∙ y) (h.expected.checked (sym c.take_part.ensures.text ∙ y))) in
    let checked = c.take_part.ensures.checked h.expected.q (sym c.take_part.ensures.text ∙ z.0) (h.expected.checked (sym c.take_part.ensures.text ∙ z.0)) in
    let space = part_space c.args.self.now b old t c.args.piece.now e h c.args.taken m in
    part_no_text c.args.self.now b old t c.args.piece.now e h c.take_part.new.self c.keep.new.self c.take_part.ensures.same.0 c.take_part.ensures.same.1 c.take_part.ensures.text c.take_part.ensures.left c.in-Ok.ensures.kept _ c.args.taken _ to none (sym c.take_part.ensures.text ∙ z.0) z.1 m (omega (arith, z.2, utf8_valid_len_le q, checked.pushed, c.pushed.ensures, space)) c.new.ensures
