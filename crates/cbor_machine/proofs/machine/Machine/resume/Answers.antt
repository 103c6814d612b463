use Rattle.std.proofs.Common.{◌≡◌, length, arith, rules, None, length-take}
use Rattle.cbor_machine.proofs.machine.Machine.resume.Goals as goal
use Rattle.cbor_machine.proofs.machine.Machine.resume.Goals.{else-is_none-via-then-is_none+then-saved-3+else-is_settled, else-is_none-via-then-is_none+else-saved-3, else-is_none-via-else-is_none}
use Rattle.cbor_machine.specs.State.{IsFit, IsSettled}

count : (c : goal.After-open_frames) → length c.open_frames.new.container_stack ≡ c.args.saved.now.open
count c = omega (arith, c.open_frames.ensures.count, length-take c.from-open.result c.args.saved.now.lefts)

fits : (c : goal.After-open_frames) → IsFit c.args.saved.now.depth c.open_frames.new.container_stack c.position_of-position.result
fits c = (c.is_fit.ensures c.open_frames.new.container_stack (count c)).0 (search rules)

settled : (c : goal.After-open_frames) → c.refusal_at-refusal.result ≡ None → IsSettled c.open_frames.new.container_stack c.position_of-position.result → c.args.saved.now.reported ≡ c.args.saved.now.taken
settled c none is = elim c.else-is_none.branch [
  | else-is_none-via-then-is_none+then-saved-3+else-is_settled w ↦ cc ((w.is_settled.ensures c.open_frames.new.container_stack (count c)).1 is)
  | else-is_none-via-then-is_none+else-saved-3 w ↦ omega arith
  | else-is_none-via-else-is_none w ↦ let some = rw none at w.if-is_none.ensures in cc some
]

pub invariant_of-self : goal.invariant_of-self
invariant_of-self c =
    let n = count c in
    let f = fits c in
    let s = settled c in
    search rules

pub returns-clause-resumed : goal.returns-clause-resumed
returns-clause-resumed c =
    let n = count c in
    let f = fits c in
    let s = settled c in
    search rules
