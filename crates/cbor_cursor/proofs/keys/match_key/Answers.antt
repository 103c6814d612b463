use Rattle.std.proofs.Common.{◌++◌, ap, arith}
use Rattle.std.{specs.Ordering.is_lt, proofs.lemmas.Cmp.tied_itself}
use Rattle.cbor_head.specs.{declared.order.KeyOrder.TheVariants.Bytewise, Prelude.key_cmp}
use Rattle.theory_values.proofs.Orders.{key_cmp_total, lt_irrefl, lt_trans}
use Rattle.cbor_cursor.proofs.keys.match_key.Goals as goal
use Rattle.cbor_cursor.proofs.LaterKeys.{starts_less}

pub returns-then-stored-first-clause-equal : goal.returns-then-stored-first-clause-equal
returns-then-stored-first-clause-equal c =
    let less = starts_less c.args.stored.now c.args.head.now c.args.payload.now c.requires.stored (omega (arith, c.requires.first, c.if-stored-first.true)) in
    ((λ e. absurd (cc e)), (λ same. let t = tied_itself (key_cmp_total Bytewise) (c.args.head.now ++ c.args.payload.now) in let f = ap (λ x. key_cmp Bytewise x (c.args.head.now ++ c.args.payload.now)) same in absurd (cc (less, f, t))))

pub returns-then-stored-first-clause-after : goal.returns-then-stored-first-clause-after
returns-then-stored-first-clause-after c =
    let less = starts_less c.args.stored.now c.args.head.now c.args.payload.now c.requires.stored (omega (arith, c.requires.first, c.if-stored-first.true)) in
    let key = c.args.head.now ++ c.args.payload.now in
    ((λ e. absurd (cc e)), (λ f. absurd (lt_irrefl Bytewise key (lt_trans Bytewise key c.args.stored.now key (f Bytewise) (ap is_lt less)))))
