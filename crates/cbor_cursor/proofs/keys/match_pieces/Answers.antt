use Rattle.std.proofs.Common.{◌<◌, ◌++◌, length, refl, sym, ap, arith, length-append}
use Rattle.std.{proofs.lemmas.Cmp.tied_itself, specs.Ordering.is_lt}
use Rattle.cbor_head.specs.{declared.order.KeyOrder.TheVariants.Bytewise, declared.order.KeyOrder.TheVariants.LengthFirst, Prelude.key_cmp}
use Rattle.theory_values.proofs.Orders.{key_cmp_total, tied, lt_irrefl, lt_trans}
use Rattle.cbor_cursor.proofs.keys.match_pieces.Goals as goal
use Rattle.cbor_cursor.proofs.keys.match_pieces.Goals.{then-stored-head-via-then-stored-head, then-stored-head-via-else-stored-head+then-stored-head-2}
use Rattle.cbor_cursor.proofs.LaterKeys.{after_in_both, shorter_first}

pub returns-then-stored-head-clause-after : goal.returns-then-stored-head-clause-after
returns-then-stored-head-clause-after c =
    let long = length-append c.args.head.now c.args.payload.now in
    let shorter : length c.args.stored.now < length (c.args.head.now ++ c.args.payload.now) = elim c.then-stored-head.branch [ then-stored-head-via-then-stored-head w ↦ omega (arith, long, w.if-stored-head.true) | then-stored-head-via-else-stored-head+then-stored-head-2 w ↦ omega (arith, long, w.if-stored-head.false, w.if-stored-head-2.true) ] in
    ((λ e. absurd (cc e)), (λ f. absurd (shorter_first c.args.stored.now (c.args.head.now ++ c.args.payload.now) shorter (f LengthFirst))))

pub returns-in-Less-clause-equal : goal.returns-in-Less-clause-equal
returns-in-Less-clause-equal c =
    ((λ e. absurd (cc e)), (λ same. let t = tied_itself (key_cmp_total Bytewise) (c.args.head.now ++ c.args.payload.now) in let f = ap (λ x. key_cmp Bytewise x (c.args.head.now ++ c.args.payload.now)) same in absurd (cc (c.in-Less.ensures, f, t))))

pub returns-in-Less-clause-after : goal.returns-in-Less-clause-after
returns-in-Less-clause-after c =
    ((λ e. absurd (cc e)), (λ f. absurd (lt_irrefl Bytewise (c.args.head.now ++ c.args.payload.now) (lt_trans Bytewise (c.args.head.now ++ c.args.payload.now) c.args.stored.now (c.args.head.now ++ c.args.payload.now) (f Bytewise) (ap is_lt (sym c.in-Less.ensures))))))

pub returns-in-Equal-clause-equal : goal.returns-in-Equal-clause-equal
returns-in-Equal-clause-equal c = ((λ e. tied Bytewise c.args.stored.now (c.args.head.now ++ c.args.payload.now) (sym c.in-Equal.ensures)), (λ same. refl))

pub returns-in-Equal-clause-after : goal.returns-in-Equal-clause-after
returns-in-Equal-clause-after c =
    ((λ e. absurd (cc e)), (λ f. let same = tied Bytewise c.args.stored.now (c.args.head.now ++ c.args.payload.now) (sym c.in-Equal.ensures) in absurd (lt_irrefl Bytewise (c.args.head.now ++ c.args.payload.now) (rw same at (f Bytewise)))))

pub returns-in-Greater-clause-equal : goal.returns-in-Greater-clause-equal
returns-in-Greater-clause-equal c =
    ((λ e. absurd (cc e)), (λ same. let t = tied_itself (key_cmp_total Bytewise) (c.args.head.now ++ c.args.payload.now) in let f = ap (λ x. key_cmp Bytewise x (c.args.head.now ++ c.args.payload.now)) same in absurd (cc (c.in-Greater.ensures, f, t))))

pub returns-in-Greater-clause-after : goal.returns-in-Greater-clause-after
returns-in-Greater-clause-after c = ((λ e. after_in_both c.args.stored.now (c.args.head.now ++ c.args.payload.now) (omega (arith, length-append c.args.head.now c.args.payload.now, c.if-stored-head.false)) (sym c.in-Greater.ensures)), (λ f. refl))
