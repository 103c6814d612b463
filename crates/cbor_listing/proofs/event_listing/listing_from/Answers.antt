use Rattle.std.proofs.Common.{◌-◌, ◌+◌, ◌^◌, min, arith, ◌∙◌, ap}
use Rattle.cbor_head.specs.{Prelude.refusal, declared.reason.Reason.TheVariants.Write}
use Rattle.cbor_listing.proofs.Listed.{none-listed, one-more, takes-more, place-within, all-listed, all-lost, refused-unlisted, refused-lost, stopped-unlisted, stopped-lost, listed-within, unlisted-within, listing_reason}
use Rattle.cbor_listing.proofs.event_listing.listing_from.Goals as goal

pub returns-in-Err-clause-reasons : goal.returns-in-Err-clause-reasons
returns-in-Err-clause-reasons g c = listing_reason c.in-Err.refusal.reason (c.in-Err.ensures.reason c.lines.invariant.2)

pub lines-init : goal.lines-init
lines-init g c = (c.new-events.ensures.limits.0, c.new-events.ensures.limits.1, c.new-events.ensures.live, none-listed _ _ _ _ c.new-events.ensures.starts)

pub lines-preserved : goal.lines-preserved
lines-preserved g c =
    let (depth, bytes, live, h) = c.lines.invariant in
    let next = rw c.in-Ok-Some.field-0-is at (c.in-Ok-Some.ensures.returned live h.t h.marks h.between) in
    let text = c.as_slice-text.ensures.value ∙ c.line_of-line.ensures in (
      c.next.ensures.limits.depth ∙ depth,
      c.next.ensures.limits.bytes ∙ bytes,
      c.in-Ok-Some.ensures.live,
      one-more _ _ _ _ _ _ _ _ _ _ _ _ _ c.in-Ok-Some.event h next (rw text at c.in-Ok.ensures)
          (rw text at c.saturating_add-written.ensures),
    )

pub lines-smaller : goal.lines-smaller
lines-smaller g c =
    let (depth, bytes, live, h) = c.lines.invariant in
    let next = rw c.in-Ok-Some.field-0-is at (c.in-Ok-Some.ensures.returned live h.t h.marks h.between) in
    let more = takes-more _ _ _ _ _ _ h.t h.marks c.in-Ok-Some.event h.between next in
    omega (arith, more, c.next.ensures.limits.bytes)

pub returns-in-Ok-None-clause-listed : goal.returns-in-Ok-None-clause-listed
returns-in-Ok-None-clause-listed g c =
    let (depth, bytes, live, h) = c.lines.invariant in
    let end = rw c.in-Ok-None.field-0-is at (c.in-Ok-None.ensures.returned live h.t h.marks h.between) in
    listed-within _ c.args.limits c.lines.events.machine _ _ _ _ depth bytes (all-listed _ _ _ _ _ _ _ _ _ _ _ _ h end c.taken-in-Ok-None.ensures.taken)

pub returns-in-Ok-None-clause-taken : goal.returns-in-Ok-None-clause-taken
returns-in-Ok-None-clause-taken g c =
    let (depth, bytes, live, h) = c.lines.invariant in
    let end = rw c.in-Ok-None.field-0-is at (c.in-Ok-None.ensures.returned live h.t h.marks h.between) in
    all-lost _ _ _ _ _ _ _ _ _ _ _ _ h end c.taken-in-Ok-None.ensures.taken

pub returns-in-Err-clause-refused : goal.returns-in-Err-clause-refused
returns-in-Err-clause-refused g c =
    let (depth, bytes, live, h) = c.lines.invariant in
    let no = (c.in-Err.ensures.returned live h.t h.marks h.between).1 in
    unlisted-within _ c.args.limits c.next.new.self.machine _ _ _ _ (c.next.ensures.limits.depth ∙ depth) (c.next.ensures.limits.bytes ∙ bytes) (refused-unlisted _ _ _ _ _ _ _ _ _ _ _ h c.in-Err.refusal no)

pub returns-in-Err-clause-read : goal.returns-in-Err-clause-read
returns-in-Err-clause-read g c =
    let (depth, bytes, live, h) = c.lines.invariant in
    let no = (c.in-Err.ensures.returned live h.t h.marks h.between).1 in
    refused-lost _ _ _ _ _ _ _ _ _ _ _ h c.in-Err.refusal no

pub returns-in-Err-write_whole-clause-refused : goal.returns-in-Err-write_whole-clause-refused
returns-in-Err-write_whole-clause-refused g c =
    let (depth, bytes, live, h) = c.lines.invariant in
    let next = rw c.in-Ok-Some.field-0-is at (c.in-Ok-Some.ensures.returned live h.t h.marks h.between) in
    let text = c.as_slice-text.ensures.value ∙ c.line_of-line.ensures in
    let count = c.in-Err-write_whole.count in
    let stopped = rw text at c.in-Err-write_whole.ensures in
    unlisted-within _ c.args.limits c.next.new.self.machine _ _ _ _ (c.next.ensures.limits.depth ∙ depth) (c.next.ensures.limits.bytes ∙ bytes)
    (stopped-unlisted _ _ _ _ _ _ _ _ _ _ count _ _ c.in-Ok-Some.event h _ next stopped.0 stopped.1
    (ap (λ n. refusal Write n c.taken.result) c.saturating_add.ensures ∙ ap (λ n. refusal Write (min (c.lines.written + count) (2 ^ 64 - 1)) n) c.taken.ensures.taken))

pub returns-in-Err-write_whole-clause-read : goal.returns-in-Err-write_whole-clause-read
returns-in-Err-write_whole-clause-read g c =
    let (depth, bytes, live, h) = c.lines.invariant in
    let next = rw c.in-Ok-Some.field-0-is at (c.in-Ok-Some.ensures.returned live h.t h.marks h.between) in
    stopped-lost _ _ _ _ _ _ _ _ _ _ _ c.in-Ok-Some.event h c.taken.result next c.taken.ensures.taken

pub line_of-line-requires : goal.line_of-line-requires
line_of-line-requires g c =
    let (depth, bytes, live, h) = c.lines.invariant in
    let next = rw c.in-Ok-Some.field-0-is at (c.in-Ok-Some.ensures.returned live h.t h.marks h.between) in
    omega (arith, c.requires, bytes, c.next.ensures.limits.bytes, place-within _ _ _ _ _ _ h.t h.marks c.in-Ok-Some.event h.between next)
