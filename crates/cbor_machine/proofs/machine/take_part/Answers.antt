use Rattle.std.proofs.Common.{subst, ◌≡◌, ◌+◌, ◌-◌, take, length, arith, ap, sym, refl, ◌∙◌, inl, inr, length-take}
use Rattle.cbor_head.specs.{Prelude.refusal, declared.reason.Reason.TheVariants.TooLong}
use Rattle.cbor_machine.specs.declared.step.Out.TheVariants as outs
use Rattle.cbor_machine.proofs.MachineStates.{bytes_take, fit-sound, prefix-walked, length-prefix, step-from, stopped, is_returned}
use Rattle.cbor_machine.proofs.Wanting.{goes-within, nothing-refused, wants-more}
use Rattle.cbor_machine.proofs.machine.take_part.Goals as goal
use Rattle.cbor_machine.{specs.State.IsFit, specs.MachineView.MachineView, specs.Steps.Ran, proofs.Positions.not-done, proofs.Reasons.form-machine}

pub returns-in-Reported-clause-walked : goal.returns-in-Reported-clause-walked
returns-in-Reported-clause-walked c = λ live.
    let u = c.walk-used.ensures.used in
    let depth : c.from-depth.result ≡ c.machine.inside.limits.depth = c.from-depth.ensures ∙ c.depth.ensures.depth in
    let walked = rw c.in-Reported.is at (prefix-walked _ _ _ _ _ _ _ _ depth u c.walk-used.ensures.walked) in
    let len = length-prefix c.walk-used.result.0 c.part-end.result c.args.input.now u (omega (arith, c.part-end.ensures)) in
    let live' = ap (λ (m : MachineView). m.refusal) c.machine.view_is ∙ live in
    let ran : Ran _ _ (take c.walk-used.result.0 c.args.input.now) _ = record { ran = walked; taken = ap (λ n. c.machine.inside.taken + n) (sym len.1) } in
    let settled = rw c.in-Reported.is at c.walk-used.ensures.clear in
    step-from (outs.Event (record { place = c.machine.inside.reported; width = c.in-Reported.width; kind = c.in-Reported.kind })) _ _ _ (take c.walk-used.result.0 c.args.input.now) c.machine.view_is (ran, live', refl, refl, settled tt, rw c.in-Reported.is at c.walk-used.ensures.proper)

pub returns-in-Reported-clause-returned : goal.returns-in-Reported-clause-returned
returns-in-Reported-clause-returned c = λ t ms h.
    let u = c.walk-used.ensures.used in
    let len = length-prefix c.walk-used.result.0 c.part-end.result c.args.input.now u (omega (arith, c.part-end.ensures)) in
    let depth : c.from-depth.result ≡ c.machine.inside.limits.depth = c.from-depth.ensures ∙ c.depth.ensures.depth in
    is_returned (outs.Event (record { place = c.machine.inside.reported; width = c.in-Reported.width; kind = c.in-Reported.kind })) _ _ t (take c.walk-used.result.0 c.args.input.now) ms h (bytes_take c.walk-used.result.0 c.args.input.now c.below_256.ensures)
    (λ e. c.in_default-position.not-Done (ap (λ (m : MachineView). m.inner.position) c.machine.view_is ∙ e)) (ap (λ (m : MachineView). m.depth) c.machine.view_is) (fit-sound _ _ (record { open_count = refl; expected = refl; item_expected = refl; in_payload = refl; complete = refl }) c.walk-used.ensures.fits) (omega arith)
    (ap (λ n. c.machine.inside.taken + n) (sym len.1) ∙ ap (λ (m : MachineView). m.taken + length (take c.walk-used.result.0 c.args.input.now)) c.machine.view_is)
    (omega (arith, length-take c.part-end.result c.args.input.now)) (returns-in-Reported-clause-walked c h.live)

pub returns-then-machine-bytes-clause-walked : goal.returns-then-machine-bytes-clause-walked
returns-then-machine-bytes-clause-walked c = λ live.
    let u = c.walk-used.ensures.used in
    let depth : c.from-depth.result ≡ c.machine.inside.limits.depth = c.from-depth.ensures ∙ c.depth.ensures.depth in
    let walked = rw c.in-More.is at (prefix-walked _ _ _ _ _ _ _ _ depth u c.walk-used.ensures.walked) in
    let len = length-prefix c.walk-used.result.0 c.part-end.result c.args.input.now u (omega (arith, c.part-end.ensures)) in
    let live' = ap (λ (m : MachineView). m.refusal) c.machine.view_is ∙ live in
    let ran : Ran _ _ (take c.walk-used.result.0 c.args.input.now) _ = record { ran = walked; taken = ap (λ n. c.machine.inside.taken + n) (sym len.1) } in
    step-from outs.More _ _ _ (take c.walk-used.result.0 c.args.input.now) c.machine.view_is (ran, live', refl)

pub returns-then-machine-bytes-clause-returned : goal.returns-then-machine-bytes-clause-returned
returns-then-machine-bytes-clause-returned c = λ t ms h.
    let u = c.walk-used.ensures.used in
    let len = length-prefix c.walk-used.result.0 c.part-end.result c.args.input.now u (omega (arith, c.part-end.ensures)) in
    let depth : c.from-depth.result ≡ c.machine.inside.limits.depth = c.from-depth.ensures ∙ c.depth.ensures.depth in
    is_returned outs.More _ _ t (take c.walk-used.result.0 c.args.input.now) ms h (bytes_take c.walk-used.result.0 c.args.input.now c.below_256.ensures)
    (λ e. c.in_default-position.not-Done (ap (λ (m : MachineView). m.inner.position) c.machine.view_is ∙ e)) (ap (λ (m : MachineView). m.depth) c.machine.view_is) (fit-sound _ _ (record { open_count = refl; expected = refl; item_expected = refl; in_payload = refl; complete = refl }) c.walk-used.ensures.fits) (omega arith)
    (ap (λ n. c.machine.inside.taken + n) (sym len.1) ∙ ap (λ (m : MachineView). m.taken + length (take c.walk-used.result.0 c.args.input.now)) c.machine.view_is)
    (omega (arith, length-take c.part-end.result c.args.input.now)) (returns-then-machine-bytes-clause-walked c h.live)

pub returns-else-machine-bytes-clause-walked : goal.returns-else-machine-bytes-clause-walked
returns-else-machine-bytes-clause-walked c = λ live.
    let u = c.walk-used.ensures.used in
    let depth : c.from-depth.result ≡ c.machine.inside.limits.depth = c.from-depth.ensures ∙ c.depth.ensures.depth in
    let walked = rw c.in-More.is at (prefix-walked _ _ _ _ _ _ _ _ depth u c.walk-used.ensures.walked) in
    let len = length-prefix c.walk-used.result.0 c.part-end.result c.args.input.now u (omega (arith, c.part-end.ensures)) in
    let live' = ap (λ (m : MachineView). m.refusal) c.machine.view_is ∙ live in
    let ran : Ran _ _ (take c.walk-used.result.0 c.args.input.now) _ = record { ran = walked; taken = ap (λ n. c.machine.inside.taken + n) (sym len.1) } in
    rw c.new-refusal.ensures (step-from (outs.Refused (refusal TooLong c.bytes-bytes.result c.bytes-bytes.result)) _ _ _ (take c.walk-used.result.0 c.args.input.now) c.machine.view_is
    (refl, inl (ran, omega (arith, length-take c.part-end.result c.args.input.now), ap (λ n. refusal TooLong n n) c.bytes-bytes.ensures.bytes)))

pub returns-else-machine-bytes-clause-returned : goal.returns-else-machine-bytes-clause-returned
returns-else-machine-bytes-clause-returned c = λ t ms h.
    let u = c.walk-used.ensures.used in
    let len = length-prefix c.walk-used.result.0 c.part-end.result c.args.input.now u (omega (arith, c.part-end.ensures)) in
    let depth : c.from-depth.result ≡ c.machine.inside.limits.depth = c.from-depth.ensures ∙ c.depth.ensures.depth in
    rw c.new-refusal.ensures (is_returned (outs.Refused (refusal TooLong c.bytes-bytes.result c.bytes-bytes.result)) _ _ t (take c.walk-used.result.0 c.args.input.now) ms h (bytes_take c.walk-used.result.0 c.args.input.now c.below_256.ensures)
    (λ e. c.in_default-position.not-Done (ap (λ (m : MachineView). m.inner.position) c.machine.view_is ∙ e)) (ap (λ (m : MachineView). m.depth) c.machine.view_is) (fit-sound _ _ (record { open_count = refl; expected = refl; item_expected = refl; in_payload = refl; complete = refl }) c.walk-used.ensures.fits) (omega arith)
    (ap (λ n. c.machine.inside.taken + n) (sym len.1) ∙ ap (λ (m : MachineView). m.taken + length (take c.walk-used.result.0 c.args.input.now)) c.machine.view_is)
    (omega (arith, length-take c.part-end.result c.args.input.now)) (rw c.new-refusal.ensures at (returns-else-machine-bytes-clause-walked c h.live)))

pub returns-in-Refused-clause-walked : goal.returns-in-Refused-clause-walked
returns-in-Refused-clause-walked c = λ live.
    let u = c.walk-used.ensures.used in
    let depth : c.from-depth.result ≡ c.machine.inside.limits.depth = c.from-depth.ensures ∙ c.depth.ensures.depth in
    let walked = rw c.in-Refused.is at (prefix-walked _ _ _ _ _ _ _ _ depth u c.walk-used.ensures.walked) in
    let len = length-prefix c.walk-used.result.0 c.part-end.result c.args.input.now u (omega (arith, c.part-end.ensures)) in
    rw c.new-refusal-in-Refused.ensures (step-from (outs.Refused (refusal c.in-Refused.reason (c.machine.inside.taken + c.walk-used.result.0 - 1) (c.machine.inside.taken + c.walk-used.result.0))) _ _ _ (take c.walk-used.result.0 c.args.input.now) c.machine.view_is (refl, inr (stopped _ _ _ _ c.walk-used.result.0 walked len.1 refl)))

pub returns-in-Refused-clause-returned : goal.returns-in-Refused-clause-returned
returns-in-Refused-clause-returned c = λ t ms h.
    let u = c.walk-used.ensures.used in
    let len = length-prefix c.walk-used.result.0 c.part-end.result c.args.input.now u (omega (arith, c.part-end.ensures)) in
    let depth : c.from-depth.result ≡ c.machine.inside.limits.depth = c.from-depth.ensures ∙ c.depth.ensures.depth in
    rw c.new-refusal-in-Refused.ensures (is_returned (outs.Refused (refusal c.in-Refused.reason (c.machine.inside.taken + c.walk-used.result.0 - 1) (c.machine.inside.taken + c.walk-used.result.0))) _ _ t (take c.walk-used.result.0 c.args.input.now) ms h (bytes_take c.walk-used.result.0 c.args.input.now c.below_256.ensures)
    (λ e. c.in_default-position.not-Done (ap (λ (m : MachineView). m.inner.position) c.machine.view_is ∙ e)) (ap (λ (m : MachineView). m.depth) c.machine.view_is) (fit-sound _ _ (record { open_count = refl; expected = refl; item_expected = refl; in_payload = refl; complete = refl }) c.walk-used.ensures.fits) (omega arith)
    (ap (λ n. c.machine.inside.taken + n) (sym len.1) ∙ ap (λ (m : MachineView). m.taken + length (take c.walk-used.result.0 c.args.input.now)) c.machine.view_is)
    (omega (arith, length-take c.part-end.result c.args.input.now)) (rw c.new-refusal-in-Refused.ensures at (returns-in-Refused-clause-walked c h.live)))

pub returns-in-Refused-clause-reason : goal.returns-in-Refused-clause-reason
returns-in-Refused-clause-reason c =
    rw c.new-refusal-in-Refused.ensures (form-machine c.in-Refused.reason ((rw c.in-Refused.is at c.walk-used.ensures.reason) (not-done _ (λ e. c.in_default-position.not-Done e))))

pub invariant_of-machine-in-Refused : goal.invariant_of-machine-in-Refused
invariant_of-machine-in-Refused c =
    let depth : c.from-depth.result ≡ c.machine.inside.limits.depth = c.from-depth.ensures ∙ c.depth.ensures.depth in
    record {
      within = omega (arith, c.walk-used.ensures.within, depth);
      fits = subst (λ d. IsFit d c.walk-used.new.container_stack c.walk-used.new.position) depth c.walk-used.ensures.fits;
      taken = omega (arith, length-take c.part-end.result c.args.input.now, c.walk-used.ensures.used, c.part-end.ensures, c.machine.invariant.taken, c.bytes-bytes.ensures.bytes);
      settled = λ e. absurd (cc);
      stopped = rw c.new-refusal-in-Refused.ensures (
        refl,
        form-machine c.in-Refused.reason ((rw c.in-Refused.is at c.walk-used.ensures.reason) (not-done _ (λ e. c.in_default-position.not-Done e))),
      );
    }

pub returns-then-machine-bytes-clause-expected : goal.returns-then-machine-bytes-clause-expected
returns-then-machine-bytes-clause-expected c = λ _.
    let walked = rw c.in-More.is at c.walk-used.ensures.walked in
    wants-more c.machine.inside.refusal c.machine.inside.limits.bytes (c.machine.inside.taken + c.walk-used.result.0) c.walk-used.new.position (nothing-refused _ c.in_default.not-Some) (omega (arith, c.bytes-bytes.ensures.bytes, c.if-machine-bytes.true))
    (goes-within _ c.machine.inside.position _ c.machine.inside.container_stack _ _ _ (λ e. c.in_default-position.not-Done e) c.walk-used.ensures.fits (c.walk-used.ensures.open c.in-More.is) walked)
