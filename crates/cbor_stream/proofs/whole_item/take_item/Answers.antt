use Rattle.std.proofs.Common.{◌++◌, sym, ◌∙◌, arith, take, length-take}
use Rattle.theory_automaton.specs.Trace.{trace}
use Rattle.cbor_strict.proofs.WholeItems.{canonical_item}
use Rattle.cbor_stream.proofs.whole_item.take_item.Goals as goal
use Rattle.cbor_stream.proofs.{Amid.amid_represents, Starts.events_of, WholeItems.whole_ended, WholeItems.amid_whole}

pub slice_bounds-take_item-end : goal.slice_bounds-take_item-end
slice_bounds-take_item-end c =
    let i = canonical_item c.limits_left.result c.args.items.now.order c.args.input.now c.in-Some.count c.in-Some.ensures in
    omega (arith, i.0, length-take c.in-Some.count c.args.input.now)

pub take_item-requires-clause-within : goal.take_item-requires-clause-within
take_item-requires-clause-within c =
    let i = canonical_item c.limits_left.result c.args.items.now.order c.args.input.now c.in-Some.count c.in-Some.ensures in
    let x = c.requires.somewhere in
    let s = amid_represents c.args.machine.now c.args.items.now x.b x.t x.ms x.amid in
    omega (arith, i.1.within, c.limits_left.ensures.bytes, s.limited)

pub end_whole_item-requires : goal.end_whole_item-requires
end_whole_item-requires c =
    let bs = take c.in-Some.count c.args.input.now in
    let i = canonical_item c.limits_left.result c.args.items.now.order c.args.input.now c.in-Some.count c.in-Some.ensures in
    let x = c.requires.somewhere in
    let s = c.take_item.ensures in
    record {
      outside = c.requires.outside;
      b = x.b;
      e = events_of c.take_item.new.self;
      t = x.amid.before ++ bs;
      ended = whole_ended c.args.machine.now c.args.items.now x.b x.t x.ms x.amid c.requires.expected c.requires.outside c.limits_left.result bs i.1 c.limits_left.ensures.depth (c.limits_left.ensures.keys ∙ sym x.asks) c.take_item.new.self s.limits s.agrees;
      counted = c.open.ensures.count;
    }

pub returns-clause-agrees : goal.returns-clause-agrees
returns-clause-agrees c = λ b t ms a keys.
    let m = c.args.machine.now in
    let v = c.args.items.now in
    let new = c.take_item.new.self in
    let limits = c.limits_left.result in
    let bs = take c.in-Some.count c.args.input.now in
    let i = canonical_item limits v.order c.args.input.now c.in-Some.count c.in-Some.ensures in
    let s = c.take_item.ensures in
    let asks = c.limits_left.ensures.keys ∙ sym keys in
    let ended = whole_ended m v b t ms a c.requires.expected c.requires.outside limits bs i.1 c.limits_left.ensures.depth asks new s.limits s.agrees in (
      ms ++ trace i.1.item,
      amid_whole m v b t ms a c.requires.expected c.requires.outside limits bs i.1 c.limits_left.ensures.depth asks new s.limits s.agrees c.end_whole_item.new.self c.end_whole_item.ensures.order
          (c.end_whole_item.ensures.agrees b (events_of new) (a.before ++ bs) ended c.open.ensures.count),
    )
