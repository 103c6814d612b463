use Rattle.std.proofs.Common.{ℕ, ◌+◌, ◌-◌, ◌∙◌, length, ap₂, inl, inr, arith, length-take-le}
use Rattle.cbor_head.specs.{Prelude.refusal, declared.reason.Reason.TheVariants.InvalidText}
use Rattle.cbor_parser.proofs.item_start.string_refusal.Goals as goal

pub returns-then-head : goal.returns-then-head
returns-then-head c = inl (record { less = c.if-head.true; is = c.refusal_at.ensures })

pub returns-in-Err : goal.returns-in-Err
returns-in-Err c =
    let h = c.args.head in
    let to = c.args.at + (length c.args.rest.now - length h.rest.now) in
    let all = length-take-le h.number h.rest.now c.if-head.false in
    let checked = c.in-Err.ensures.checked in
    inr (record {
      text = c.if-rest-ge96.true;
      inside = c.if-head.false;
      none = checked.0;
      is = c.refusal_at-in-Err.ensures ∙ ap₂ (λ (i j : ℕ). refusal InvalidText (to + i) j) checked.1 (omega (arith, all));
    })
