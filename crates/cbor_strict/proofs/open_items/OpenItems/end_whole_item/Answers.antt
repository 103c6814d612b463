use Rattle.std.proofs.Common.{refl}
use Rattle.cbor_strict.proofs.OpenStates.{Closing, has_closed, few_keys, after_value}
use Rattle.cbor_strict.proofs.open_items.OpenItems.end_whole_item.Goals as goal
use Rattle.cbor_strict.proofs.WholeItems.{after_whole}

pub end_value-requires : goal.end_value-requires
end_value-requires c =
    let r = c.requires in
    let k : Closing c.args.self.now c.close.new.self c.args.open 0 c.expected.result = record { closed = c.close.ensures; some = c.expected.ensures.some; none = c.expected.ensures.none } in
    few_keys _ _ _ _ _ _ _ (has_closed c.args.self.now c.close.new.self c.args.open 0 c.expected.result r.b r.e r.t k r.ended r.counted)

pub returns-in-Value-clause-agrees : goal.returns-in-Value-clause-agrees
returns-in-Value-clause-agrees c = λ b e t h n.
    after_value c.args.self.now _ c.close.new.self c.end_value.new.self c.args.open 0 c.expected.result b e t (record { closed = c.close.ensures; some = c.expected.ensures.some; none = c.expected.ensures.none }) h n c.in-Value.is refl refl refl c.end_value.ensures

pub returns-in_default : goal.returns-in_default
returns-in_default c = record {
  order = refl;
  agrees = λ b e t h n.
      after_whole c.args.self.now _ c.close.new.self c.args.open c.expected.result b e t (record { closed = c.close.ensures; some = c.expected.ensures.some; none = c.expected.ensures.none }) h n c.requires.outside c.in_default.not-Value refl refl refl;
}
