use Rattle.std.proofs.Common.{refl}
use Rattle.cbor_head.specs.{Prelude.refusal, declared.reason.Reason.TheVariants.KeyOrder}
use Rattle.cbor_strict.proofs.OpenStates.{Closing, has_closed, few_keys, key_has_ended, closed_member, after_value, after_key, refused_key}
use Rattle.cbor_strict.proofs.open_items.OpenItems.end_item.Goals as goal

pub end_value-requires : goal.end_value-requires
end_value-requires c =
    let r = c.requires in
    let k : Closing c.args.self.now c.close.new.self c.args.open c.args.taken c.expected.result = record { closed = c.close.ensures; some = c.expected.ensures.some; none = c.expected.ensures.none } in
    few_keys _ _ _ _ _ _ _ (has_closed c.args.self.now c.close.new.self c.args.open c.args.taken c.expected.result r.b r.e r.t k r.ended r.counted)

pub end_key-requires : goal.end_key-requires
end_key-requires c =
    let r = c.requires in
    let k : Closing c.args.self.now c.close.new.self c.args.open c.args.taken c.expected.result = record { closed = c.close.ensures; some = c.expected.ensures.some; none = c.expected.ensures.none } in
    key_has_ended c.args.self.now c.close.new.self c.args.open c.args.taken c.expected.result r.b r.e r.t k r.ended r.counted c.in-Key.is

pub overflow_sub-taken : goal.overflow_sub-taken
overflow_sub-taken c =
    let r = c.requires in
    let k : Closing c.args.self.now c.close.new.self c.args.open c.args.taken c.expected.result = record { closed = c.close.ensures; some = c.expected.ensures.some; none = c.expected.ensures.none } in
    (refused_key c.args.self.now c.close.new.self c.args.open c.args.taken c.in-Err.length c.expected.result r.b r.e r.t (refusal KeyOrder 0 0) k r.ended r.counted r.all c.in-Key.is c.in-Err.ensures).0

pub returns-in-Member-clause-returned : goal.returns-in-Member-clause-returned
returns-in-Member-clause-returned c = λ b e t h n m.
    closed_member c.args.self.now _ c.close.new.self c.args.open c.args.taken c.expected.result b e t (record { closed = c.close.ensures; some = c.expected.ensures.some; none = c.expected.ensures.none }) h n c.in-Member.is refl refl refl

pub returns-in-Value-clause-returned : goal.returns-in-Value-clause-returned
returns-in-Value-clause-returned c = λ b e t h n m.
    after_value c.args.self.now _ c.close.new.self c.end_value.new.self c.args.open c.args.taken c.expected.result b e t (record { closed = c.close.ensures; some = c.expected.ensures.some; none = c.expected.ensures.none }) h n c.in-Value.is refl refl refl c.end_value.ensures

pub returns-in-Ok-clause-returned : goal.returns-in-Ok-clause-returned
returns-in-Ok-clause-returned c = λ b e t h n m.
    after_key c.args.self.now _ c.close.new.self c.end_key.new.self c.args.open c.args.taken c.expected.result b e t (record { closed = c.close.ensures; some = c.expected.ensures.some; none = c.expected.ensures.none }) h n c.in-Key.is refl refl refl c.in-Ok.ensures

pub returns-in-Err-clause-returned : goal.returns-in-Err-clause-returned
returns-in-Err-clause-returned c = λ b e t h n m to.
    (refused_key c.args.self.now c.close.new.self c.args.open c.args.taken c.in-Err.length c.expected.result b e t _ (record { closed = c.close.ensures; some = c.expected.ensures.some; none = c.expected.ensures.none }) h n m c.in-Key.is c.in-Err.ensures).1 to c.new.ensures
