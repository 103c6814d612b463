use Rattle.std.proofs.Common.{◌≡◌, ◌<◌, ◌++◌, sym, ap, subst, inl, arith, length, take, true≢false, length-take, List, ℕ}
use Rattle.cbor_machine.{specs.Machine.IsMore, specs.Machine.IsDone, proofs.Feeding.rest_from, specs.declared.step.Out.Out}
use Rattle.cbor_stream.proofs.Offers.{complete_nothing, since_longer, result_joined, first_part, parts_joined}
use Rattle.cbor_stream.proofs.next_step.next_step.Goals as goal
use Rattle.cbor_stream.specs.inner.Amid.{IsAmid, IsStepResult}

pub offer-requires : goal.offer-requires
offer-requires c = record { somewhere = (c.args.keys, c.requires); first = λ y. absurd (true≢false (sym y)) }

pub returns-then-not-begins_key-clause-returned : goal.returns-then-not-begins_key-clause-returned
returns-then-not-begins_key-clause-returned c = λ b t ms a keys.
    let s = c.offer in
    s.ensures.returned b t ms a (c.begins_key.ensures.other b t ms s.result.used a keys c.if-not-begins_key.true s.ensures.used.0 (omega (arith, s.ensures.used.1, s.ensures.limits.taken, s.ensures.limits.bytes)))

pub offer-first-requires : goal.offer-first-requires
offer-first-requires c = record {
  somewhere = (c.args.keys, c.requires);
  first = λ y.
      let i = c.begins_key.ensures.one c.if-not-begins_key.false in
      (omega (arith, i.0, length-take 1 c.args.input.now), i.1);
}

pub returns-in_default-clause-returned : goal.returns-in_default-clause-returned
returns-in_default-clause-returned c = λ b t ms a keys.
    let s = c.offer-first in
    subst (λ (x : List ℕ). IsStepResult s.result.out s.new.machine s.new.items b t x ms) (first_part s.result.used c.args.input.now s.ensures.used.0)
    (s.ensures.returned b t ms a (c.begins_key.ensures.asked b t ms a keys c.if-not-begins_key.false))

pub offer-rest-requires : goal.offer-rest-requires
offer-rest-requires c =
    let s = c.offer-first in
    let x = c.requires in
    record {
      somewhere = (
        c.args.keys,
        record {
          b = x.b;
          asks = x.asks;
          t = x.t ++ take s.result.used (take 1 c.args.input.now);
          ms = x.ms;
          amid = subst (λ (o : Out). IsStepResult o s.new.machine s.new.items x.b x.t (take s.result.used (take 1 c.args.input.now)) x.ms) c.in-More.is
              (s.ensures.returned x.b x.t x.ms x.amid (c.begins_key.ensures.asked x.b x.t x.ms x.amid x.asks c.if-not-begins_key.false));
        },
      );
      first = λ y. absurd (true≢false (sym y));
    }

pub returns-clause-returned : goal.returns-clause-returned
returns-clause-returned c = λ b t ms a keys.
    let s = c.offer-first in
    let r = c.offer-rest in
    let xs = take s.result.used (take 1 c.args.input.now) in
    let ys = take r.result.used (rest_from 1 c.args.input.now) in
    let i = c.begins_key.ensures.one c.if-not-begins_key.false in
    let more = s.ensures.more (subst IsMore (sym c.in-More.is) tt) in
    let used : s.result.used ≡ 1 = omega (arith, more.0, i.0, length-take 1 c.args.input.now) in
    let some : 0 < length xs = omega (arith, used, i.0, length-take s.result.used (take 1 c.args.input.now), length-take 1 c.args.input.now) in
    let k : IsAmid s.new.machine s.new.items b (t ++ xs) ms =
    subst (λ (o : Out). IsStepResult o s.new.machine s.new.items b t xs ms) c.in-More.is (s.ensures.returned b t ms a (c.begins_key.ensures.asked b t ms a keys c.if-not-begins_key.false)) in
    let longer = since_longer c.args.machine.now s.new.machine c.args.items.now s.new.items b t xs ms a k some in
    let going : IsDone r.result.out → ⊥ = λ d. let none = complete_nothing s.new.machine s.new.items b (t ++ xs) ms k (r.ensures.over d) in omega (arith, longer, ap length none) in
    subst (λ (x : List ℕ). IsStepResult r.result.out r.new.machine r.new.items b t x ms) (parts_joined s.result.used r.result.used c.args.input.now used)
    (result_joined r.result.out r.new.machine r.new.items b t xs ys ms going (r.ensures.returned b (t ++ xs) ms k (λ asked. inl longer)))
