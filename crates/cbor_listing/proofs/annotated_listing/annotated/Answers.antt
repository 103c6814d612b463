use Rattle.std.proofs.Common.{◌-◌, ◌+◌, ◌^◌, ℕ, min, arith, refl, ◌∙◌, ap, ap₂}
use Rattle.cbor_head.specs.{Prelude.refusal, declared.reason.Reason.TheVariants.Write}
use Rattle.cbor_listing.proofs.Annotating.{none-annotated, one-more, event-agrees, all-annotated, annotated-within, unannotated-within, refused-unannotated, refused-within, stopped-unannotated, taken-within, taken-fits}
use Rattle.cbor_listing.specs.Annotated.{context_by, event_rows, level}
use Rattle.cbor_listing.proofs.annotated_listing.annotated.Goals as goal
use Rattle.cbor_listing.proofs.Listed.{takes-more, listing_reason}

pub lines-init : goal.lines-init
lines-init g c =
    let starts = c.new-machine.ensures.starts in (
      c.new-machine.ensures.limits.0,
      c.new-machine.ensures.limits.1,
      rw c.none-context.ensures (none-annotated _ _ _ _ (record { agrees = starts; whole = refl })),
    )

pub lines-preserved : goal.lines-preserved
lines-preserved g c =
    let (depth, bytes, h) = c.lines.invariant in
    let next = rw c.in-Ok-Some.field-0-is at (c.in-Ok-Some.ensures.returned h.t h.marks h.between) in
    let agrees = event-agrees _ _ _ _ _ _ _ _ _ _ _ _ c.in-Ok-Some.event h next in
    let deep = c.level_of-level.ensures ∙ ap (λ (n : ℕ). level n c.lines.context c.in-Ok-Some.event.kind) c.open-opened.ensures.count in
    let text = c.as_slice-text.ensures.value ∙ c.set_rows.ensures ∙ ap (λ (n : ℕ). event_rows c.args.start n c.lines.context c.in-Ok-Some.event c.args.bytes.now) deep in
    let following = c.after-context.ensures
    ∙ ap₂ (λ (n at : ℕ). context_by c.in-Ok-Some.event.kind n at c.lines.context) deep (c.taken-taken.ensures.taken ∙ agrees.size) in (
      c.next_event.ensures.limits.depth ∙ depth,
      c.next_event.ensures.limits.bytes ∙ bytes,
      rw following
          (one-more _ _ _ _ _ _ _ _ _ _ _ _ _ _ c.in-Ok-Some.event h next c.next_event.ensures.limits.depth (rw text at c.in-Ok.ensures) (rw text at c.saturating_add-written.ensures)),
    )

pub lines-smaller : goal.lines-smaller
lines-smaller g c =
    let (depth, bytes, h) = c.lines.invariant in
    let next = rw c.in-Ok-Some.field-0-is at (c.in-Ok-Some.ensures.returned h.t h.marks h.between) in
    let more = takes-more _ _ _ _ _ _ h.t h.marks c.in-Ok-Some.event h.between next in
    omega (arith, more, c.next_event.ensures.limits.bytes)

pub set_rows-requires : goal.set_rows-requires
set_rows-requires g c =
    let (depth, bytes, h) = c.lines.invariant in
    let next = rw c.in-Ok-Some.field-0-is at (c.in-Ok-Some.ensures.returned h.t h.marks h.between) in
    let agrees = event-agrees _ _ _ _ _ _ _ _ _ _ _ _ c.in-Ok-Some.event h next in
    let taken = c.taken-taken.ensures.taken in
    rw taken record {
      range = omega (arith, c.requires, bytes, c.next_event.ensures.limits.bytes, agrees.limited);
      within = agrees.within;
      size = agrees.size;
      short = agrees.short;
      held = agrees.held;
    }

pub returns-in-Ok-None-clause-annotated : goal.returns-in-Ok-None-clause-annotated
returns-in-Ok-None-clause-annotated g c =
    let (depth, bytes, h) = c.lines.invariant in
    let end = rw c.in-Ok-None.field-0-is at (c.in-Ok-None.ensures.returned h.t h.marks h.between) in
    annotated-within _ c.args.limits c.lines.machine c.args.bytes.now _ _ _ depth bytes (all-annotated _ _ _ _ _ _ _ _ _ _ _ _ _ h end c.taken.ensures.taken)

pub returns-in-Ok-None-clause-within : goal.returns-in-Ok-None-clause-within
returns-in-Ok-None-clause-within g c =
    let (depth, bytes, h) = c.lines.invariant in
    let end = rw c.in-Ok-None.field-0-is at (c.in-Ok-None.ensures.returned h.t h.marks h.between) in
    taken-within _ _ _ _ _ _ _ _ _ _ _ _ _ h end c.taken.ensures.taken

pub returns-in-Err-clause-reasons : goal.returns-in-Err-clause-reasons
returns-in-Err-clause-reasons g c =
    listing_reason c.in-Err.refusal.reason c.in-Err.ensures.reason

pub returns-in-Err-clause-refused : goal.returns-in-Err-clause-refused
returns-in-Err-clause-refused g c =
    let (depth, bytes, h) = c.lines.invariant in
    let no = (c.in-Err.ensures.returned h.t h.marks h.between).1 in
    unannotated-within _ c.args.limits c.next_event.new.machine c.args.bytes.now _ _ _ (c.next_event.ensures.limits.depth ∙ depth) (c.next_event.ensures.limits.bytes ∙ bytes)
    (refused-unannotated _ _ _ _ _ _ _ _ _ _ _ _ h c.in-Err.refusal c.next_event.ensures.limits.depth no)

pub returns-in-Err-clause-read : goal.returns-in-Err-clause-read
returns-in-Err-clause-read g c =
    let (depth, bytes, h) = c.lines.invariant in
    let no = (c.in-Err.ensures.returned h.t h.marks h.between).1 in
    refused-within _ _ _ _ _ _ _ _ _ _ _ _ h c.in-Err.refusal no

pub returns-in-Err-write_whole-clause-refused : goal.returns-in-Err-write_whole-clause-refused
returns-in-Err-write_whole-clause-refused g c =
    let (depth, bytes, h) = c.lines.invariant in
    let next = rw c.in-Ok-Some.field-0-is at (c.in-Ok-Some.ensures.returned h.t h.marks h.between) in
    let deep = c.level_of-level.ensures ∙ ap (λ (n : ℕ). level n c.lines.context c.in-Ok-Some.event.kind) c.open-opened.ensures.count in
    let text = c.as_slice-text.ensures.value ∙ c.set_rows.ensures ∙ ap (λ (n : ℕ). event_rows c.args.start n c.lines.context c.in-Ok-Some.event c.args.bytes.now) deep in
    let count = c.in-Err-write_whole.count in
    let stopped = rw text at c.in-Err-write_whole.ensures in
    unannotated-within _ c.args.limits c.next_event.new.machine c.args.bytes.now _ _ _ (c.next_event.ensures.limits.depth ∙ depth) (c.next_event.ensures.limits.bytes ∙ bytes)
    (stopped-unannotated _ _ _ _ _ _ _ _ _ _ count _ _ _ c.in-Ok-Some.event h _ next c.next_event.ensures.limits.depth stopped.0 stopped.1
    (ap (λ n. refusal Write n c.taken-taken.result) c.saturating_add.ensures ∙ ap (λ n. refusal Write (min (c.lines.written + count) (2 ^ 64 - 1)) n) c.taken-taken.ensures.taken))

pub returns-in-Err-write_whole-clause-read : goal.returns-in-Err-write_whole-clause-read
returns-in-Err-write_whole-clause-read g c =
    let (depth, bytes, h) = c.lines.invariant in
    let next = rw c.in-Ok-Some.field-0-is at (c.in-Ok-Some.ensures.returned h.t h.marks h.between) in
    let agrees = event-agrees _ _ _ _ _ _ _ _ _ _ _ _ c.in-Ok-Some.event h next in
    omega (arith, agrees.within, c.taken-taken.ensures.taken)

pub next_event-requires : goal.next_event-requires
next_event-requires g c = taken-fits _ _ _ _ _ _ _ _ c.lines.invariant.2
