use Rattle.std.proofs.Common.{◌<◌, inl, inr, length, take, refl, ap, arith, ◌++◌, length-take}
use Rattle.cbor_head.specs.declared.reason.Refusal.{Refusal}
use Rattle.cbor_machine.proofs.NextEvents.{complete-wants, wants-short, prefix-again}
use Rattle.cbor_machine.proofs.NextRefusals.{still-expected, cut-is, cut-here}
use Rattle.cbor_machine.specs.Machine.{wanted}
use Rattle.cbor_events.proofs.part.read_part.Goals as goal
use Rattle.cbor_events.proofs.Parts.{part-read, some-read}

pub returns-in-End-clause-returned : goal.returns-in-End-clause-returned
returns-in-End-clause-returned g c = λ was from kept t ms h r depth.
    let m = c.args.machine.now in
    let wants : 0 < wanted m = omega (arith, c.requires.some, c.requires.wanted) in
    let going = complete-wants m r.agrees.inner.shown wants in (
      still-expected _ _ was m t ms h.agrees r depth going,
      inl (cut-here c.cut.result _ _ r c.in-End.ensures.1 (inr (ap (λ (x : Refusal). x.reason) c.cut.ensures, c.in-End.ensures.2))
          (cut-is _ _ _ _ c.cut.ensures c.taken.ensures.taken) (wants-short m wants) going),
    )

pub returns-in-Failed-clause-returned : goal.returns-in-Failed-clause-returned
returns-in-Failed-clause-returned g c = λ was from kept t ms h r depth.
    let m = c.args.machine.now in
    let wants : 0 < wanted m = omega (arith, c.requires.some, c.requires.wanted) in
    let going = complete-wants m r.agrees.inner.shown wants in (
      still-expected _ _ was m t ms h.agrees r depth going,
      inl (cut-here c.cut-in-Failed.result _ _ r c.in-Failed.ensures.1 (inl (ap (λ (x : Refusal). x.reason) c.cut-in-Failed.ensures))
          (cut-is _ _ _ _ c.cut-in-Failed.ensures c.taken-in-Failed.ensures.taken) (wants-short m wants) going),
    )

pub returns-in-End-clause-limits : goal.returns-in-End-clause-limits
returns-in-End-clause-limits g c = record { depth = refl; bytes = refl; open_count = c.requires.within; taken = omega (arith, c.taken.ensures.taken, c.taken.ensures.within) }

pub returns-in-Failed-clause-limits : goal.returns-in-Failed-clause-limits
returns-in-Failed-clause-limits g c = record { depth = refl; bytes = refl; open_count = c.requires.within; taken = omega (arith, c.taken-in-Failed.ensures.taken, c.taken-in-Failed.ensures.within) }

pub returns-in-Got-clause-returned : goal.returns-in-Got-clause-returned
returns-in-Got-clause-returned g c = λ was from kept t ms h r depth.
    let bs = take c.in-Got.count c.ask.new.buffer in
    let size = length-take c.in-Got.count c.ask.new.buffer in
    let some : 0 < length bs = omega (arith, size, c.in-Got.ensures.0, some-read c.in-Got.count c.args.want c.requires.some c.in-Got.ensures.2, c.requires.space, c.ask.auto.buffer) in
    part-read c.take_read.result from _ _ was c.args.machine.now c.take_read.new.machine kept c.ask.new.buffer t bs ms h r depth c.take_read.ensures.limits.depth c.take_read.ensures.limits.bytes
    c.in-Got.ensures.1 c.below_256.ensures some (omega (arith, size, c.in-Got.ensures.0, c.requires.wanted)) (prefix-again c.in-Got.count c.ask.new.buffer) (c.take_read.ensures.returned (t ++ r.bytes) ms r.agrees)

pub returns-in-Got-clause-lost : goal.returns-in-Got-clause-lost
returns-in-Got-clause-lost g c = λ t ms h.
    let bs = take c.in-Got.count c.ask.new.buffer in
    let size = length-take c.in-Got.count c.ask.new.buffer in
    inl (record {
      bytes = bs;
      some = omega (arith, size, c.in-Got.ensures.0, some-read c.in-Got.count c.args.want c.requires.some c.in-Got.ensures.2, c.requires.space, c.ask.auto.buffer);
      most = omega (arith, size, c.in-Got.ensures.0);
      prefix = prefix-again c.in-Got.count c.ask.new.buffer;
      consumed = c.in-Got.ensures.1;
      are_bytes = c.below_256.ensures;
      taken = c.take_read.ensures.returned t ms h;
    })
