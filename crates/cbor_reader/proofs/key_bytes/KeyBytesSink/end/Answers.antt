use Rattle.std.proofs.Common.{refl, inr}
use Rattle.cbor_parser.proofs.CanonGiven.{repeats-if}
use Rattle.cbor_reader.proofs.KeysGiven.{in-container, map-ends, ended-other}
use Rattle.cbor_reader.proofs.key_bytes.KeyBytesSink.end.Goals as goal
use Rattle.cbor_reader.proofs.RepeatsReported.{keys-repeat}

pub give_up_if_distinct-requires : goal.give_up_if_distinct-requires
give_up_if_distinct-requires c = record { container = in-container c.args.is_map c.args.self.now c.requires.full (inr c.if-is_map.true) }

pub returns-then-is_map-clause-ends : goal.returns-then-is_map-clause-ends
returns-then-is_map-clause-ends c =
    map-ends c.give_up_if_distinct.result c.args.is_map c.args.self.now c.give_up_if_distinct.new.self c.if-is_map.true c.if-self-eq0.true c.give_up_if_distinct.ensures.distinct c.give_up_if_distinct.ensures.ended

pub returns-then-is_map-clause-repeats : goal.returns-then-is_map-clause-repeats
returns-then-is_map-clause-repeats c =
    repeats-if c.give_up_if_distinct.result _ _ _ (λ repeat h differ. keys-repeat c.args.self.now repeat h differ c.args.is_map (inr c.if-is_map.true)) c.give_up_if_distinct.ensures.distinct c.give_up_if_distinct.ensures.reported

pub returns-then-self-eq0-clause-ends : goal.returns-then-self-eq0-clause-ends
returns-then-self-eq0-clause-ends c = λ yes. ended-other c.args.is_map c.args.self.now c.args.self.now c.if-is_map.false c.if-self-eq0.true refl refl
