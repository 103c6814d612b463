use Rattle.std.proofs.Common.{arith}
use Rattle.cbor_strict.proofs.KeptEnds.{closes_other, closes_map_in, closes_map_out}
use Rattle.cbor_strict.proofs.last_keys.LastKeys.close_one.Goals as goal
use Rattle.cbor_strict.{specs.inner.LastKeys.view_value, proofs.KeptKeys.none_open}

pub returns-in-Member : goal.returns-in-Member
returns-in-Member c = record { fewer = λ some. omega (arith, c.in-Some.ensures.len); closed = λ f fs s full h. closes_other (view_value c.args.self.now) f fs s c.pop.new.self.items c.in-Some.expected full h c.in-Some.ensures.items c.in-Member.is }

pub returns-then-not-is_inside : goal.returns-then-not-is_inside
returns-then-not-is_inside c =
    let none = none_open c.args.self.now.open_keys c.is_inside.result c.is_inside.ensures c.if-not-is_inside.true in
    record {
      fewer = λ some. omega (arith, c.in-Some.ensures.len);
      closed = λ f fs s full h. rw c.truncate.ensures.items (closes_map_out (view_value c.args.self.now) f fs s c.pop.new.self.items c.in-Some.expected c.pop-2.new.self.items c.in-Some-pop.span full h c.in-Some.ensures.items c.in-Some-pop.ensures.items c.in_default-expected.not-Member none);
    }

pub returns-else-not-is_inside : goal.returns-else-not-is_inside
returns-else-not-is_inside c =
    let some_open = c.is_inside.ensures.0 c.if-not-is_inside.false in
    record {
      fewer = λ some. omega (arith, c.in-Some.ensures.len);
      closed = λ f fs s full h. closes_map_in (view_value c.args.self.now) f fs s c.pop.new.self.items c.in-Some.expected c.pop-2.new.self.items c.in-Some-pop.span full h c.in-Some.ensures.items c.in-Some-pop.ensures.items c.in_default-expected.not-Member some_open;
    }
