use Rattle.std.proofs.Common.{◌≡◌, ◌∙◌, true≢false, sym, subst, inr, arith, length, eqb-true}
use Rattle.cbor_strict.proofs.StrictStops.{IsAsked}
use Rattle.cbor_stream.proofs.Offers.{item_nothing, asked_there, asked_here, no_head}
use Rattle.cbor_stream.proofs.next_step.begins_key.Goals as goal

pub returns-clause-asked : goal.returns-clause-asked
returns-clause-asked c = λ b t ms a keys yes.
    let head = c.wants_head.ensures.expected.0 c.if-not-wants_head.false in
    (item_nothing c.args.machine.now c.args.items.now b t ms a head.0, asked_there c.args.machine.now c.args.items.now b t ms a c.asks.result (subst (λ k. IsAsked c.asks.result k c.args.items.now) (sym keys) (record { expected = c.asks.ensures.expected; payload = c.asks.ensures.payload })) yes)

pub returns-clause-other : goal.returns-clause-other
returns-clause-other c = λ b t ms used a keys no within fits asked.
    absurd (true≢false (sym (asked_here c.args.machine.now c.args.items.now b t ms a c.asks.result (subst (λ k. IsAsked c.asks.result k c.args.items.now) (sym keys) (record { expected = c.asks.ensures.expected; payload = c.asks.ensures.payload })) asked) ∙ no))

pub returns-then-is_empty-clause-other : goal.returns-then-is_empty-clause-other
returns-then-is_empty-clause-other c = λ b t ms used a keys no within fits asked.
    let none : length c.args.input.now ≡ 0 = eqb-true (length c.args.input.now) 0 (sym c.is_empty.ensures ∙ c.if-is_empty.true) in
    inr (omega (arith, none, within))

pub returns-then-not-wants_head-clause-other : goal.returns-then-not-wants_head-clause-other
returns-then-not-wants_head-clause-other c = λ b t ms used a keys no within fits.
    no_head c.args.machine.now c.args.items.now b t ms a used (λ h. true≢false (sym (c.wants_head.ensures.expected.1 h) ∙ c.if-not-wants_head.true)) fits
