use Rattle.std.proofs.Common.{◌≡◌, ◌++◌, ◌∙◌, ℕ, List, Option, Some, None, Ok, true, refl, subst}
use Rattle.cbor_head.specs.{declared.event.Event.Event, Prelude.plain, Prelude.Bounds}
use Rattle.theory_automaton.specs.{Trace.Mark, Reasons.IsEventReason}
use Rattle.cbor_machine.specs.NextEvent.{ItemEventsView, AgreesBetween, IsNext, call}
use Rattle.cbor_machine.specs.Machine.{KeepsLimits}
use Rattle.theory_verdicts.specs.Reading.{IsAt, IsHeadExpected, IsNextHead}
use Rattle.theory_verdicts.proofs.Steps.{next-head, reported, stops, limits-as, not-ended}
use Rattle.theory_verdicts.proofs.ChunkedStrings.{starts-chunks, stops-chunk-head, chunk-kind, chunks-end, chunk-expected, chunk-next, stops-chunk, chunk-farther}
use Rattle.theory_verdicts.{specs.Reading.string_major, proofs.Steps.farther}
use Rattle.theory_verdicts.{specs.Place.Place, specs.Place.in_chunks, proofs.Leaves.chunks_bytes}
use Rattle.cbor_tree_reader.proofs.strings.read_chunks.Goals as goal

-- a head or a break comes
comes : (b : Bounds) (q : Place) (t : List ℕ) (old new : ItemEventsView) (from to : Option (List ℕ)) (o : Option Event) (ev : Event) → IsHeadExpected q → (a : IsAt b old t q) → KeepsLimits old.machine new.machine → new.refusal ≡ None → o ≡ Some ev
    → (old.refusal ≡ None → (u : List ℕ) (ms : List Mark) → AgreesBetween old.machine u ms → IsNext (Ok o) (call old new from to u ms)) → IsNextHead plain b q t ev from to new
comes b q t old new from to o ev expected a limits live is returned =
    next-head plain b old new t q ev from to expected a (reported b old new t q from to a o ev is (returned a.live t a.marks a.agrees)) (limits-as _ _ limits) live (λ reason fault. cc fault.0)

pub chunks-init : goal.chunks-init
chunks-init g c = (
  λ b fs t x w i. rw c.new-content.ensures.items (starts-chunks plain b fs t x c.args.events.now w c.args.text _ i),
  refl,
)

pub read_chunk-requires : goal.read_chunk-requires
read_chunk-requires g c =
    let s = c.requires in
    let h = c.chunks.invariant.0 s.b s.fs s.t s.x s.w s.begun in
    let n = comes s.b (in_chunks (string_major c.args.text) s.fs) _ _ _ _ _ _ _ tt h.at c.next.ensures.limits c.in-Ok-Some.ensures.live c.in-Ok-Some.field-0-is c.in-Ok-Some.ensures.returned in
    record { b = s.b; chunk = true; m = string_major c.args.text; fs = s.fs; t = _; at = chunk-expected plain s.b s.fs s.t s.x c.args.text c.chunks.content.items _ _ c.chunks.events h c.in-Ok-Some.event _ c.next.new.self n c.in-Chunk.count c.in-Chunk.is }

pub chunks-smaller : goal.chunks-smaller
chunks-smaller g c =
    let s = c.requires in
    let h = c.chunks.invariant.0 s.b s.fs s.t s.x s.w s.begun in
    let n = comes s.b (in_chunks (string_major c.args.text) s.fs) _ _ _ _ _ _ _ tt h.at c.next.ensures.limits c.in-Ok-Some.ensures.live c.in-Ok-Some.field-0-is c.in-Ok-Some.ensures.returned in
    let expected = chunk-expected plain s.b s.fs s.t s.x c.args.text c.chunks.content.items _ _ c.chunks.events h c.in-Ok-Some.event _ c.next.new.self n c.in-Chunk.count c.in-Chunk.is in
    let reads = (c.in-Ok.ensures.payload s.b true (string_major c.args.text) s.fs _ expected).0 in
    farther s.b c.chunks.events c.read_chunk.new.events _ _ _ _ h.at reads.at
    (chunk-farther plain s.b s.fs s.t s.x c.args.text c.chunks.content.items _ _ c.chunks.events h c.in-Ok-Some.event _ c.next.new.self n c.in-Chunk.count c.in-Chunk.is reads.bytes)

pub chunks-preserved : goal.chunks-preserved
chunks-preserved g c = (
  λ b fs t x w i.
      let h = c.chunks.invariant.0 b fs t x w i in
      let n = comes b (in_chunks (string_major c.args.text) fs) _ _ _ _ _ _ _ tt h.at c.next.ensures.limits c.in-Ok-Some.ensures.live c.in-Ok-Some.field-0-is c.in-Ok-Some.ensures.returned in
      let expected = chunk-expected plain b fs t x c.args.text c.chunks.content.items _ _ c.chunks.events h c.in-Ok-Some.event _ c.next.new.self n c.in-Chunk.count c.in-Chunk.is in
      let reads = c.in-Ok.ensures.payload b true (string_major c.args.text) fs _ expected in
      chunk-next plain b fs t x c.args.text c.chunks.content.items _ _ c.chunks.events h c.in-Ok-Some.event _ c.next.new.self n c.in-Chunk.count c.in-Chunk.is c.read_chunk.new.into.items _ c.read_chunk.new.events reads.0 reads.1,
  c.in-Ok.ensures.kept ∙ c.chunks.invariant.1,
)

pub returns-in-Err-read_chunk-clause-string : goal.returns-in-Err-read_chunk-clause-string
returns-in-Err-read_chunk-clause-string g c = λ b fs t x w i.
    let h = c.chunks.invariant.0 b fs t x w i in
    let n = comes b (in_chunks (string_major c.args.text) fs) _ _ _ _ _ _ _ tt h.at c.next.ensures.limits c.in-Ok-Some.ensures.live c.in-Ok-Some.field-0-is c.in-Ok-Some.ensures.returned in
    let expected = chunk-expected plain b fs t x c.args.text c.chunks.content.items _ _ c.chunks.events h c.in-Ok-Some.event _ c.next.new.self n c.in-Chunk.count c.in-Chunk.is in
    stops-chunk plain b fs t x c.args.text c.chunks.content.items _ _ c.chunks.events h c.in-Ok-Some.event _ c.next.new.self n c.in-Chunk.count c.in-Chunk.is refl _ c.in-Err-read_chunk.refusal
    (c.in-Err-read_chunk.ensures.payload b true (string_major c.args.text) fs _ expected)

pub returns-in-End-clause-string : goal.returns-in-End-clause-string
returns-in-End-clause-string g c = λ b fs t x w i.
    let h = c.chunks.invariant.0 b fs t x w i in
    let n = comes b (in_chunks (string_major c.args.text) fs) _ _ _ _ _ _ _ tt h.at c.next.ensures.limits c.in-Ok-Some.ensures.live c.in-Ok-Some.field-0-is c.in-Ok-Some.ensures.returned in
    chunks-end plain b fs t x c.args.text c.chunks.content.items _ _ c.chunks.events h c.in-Ok-Some.event _ c.next.new.self n c.in-End.is

pub unreachable-requires : goal.unreachable-requires
unreachable-requires g c =
    let s = c.requires in
    let h = c.chunks.invariant.0 s.b s.fs s.t s.x s.w s.begun in
    not-ended s.b c.chunks.events c.next.new.self (s.t ++ chunks_bytes (string_major c.args.text) h.done) (in_chunks (string_major c.args.text) s.fs) _ _ h.at c.in-Ok-None.field-0 c.in-Ok-None.field-0-is (λ e. cc e) (c.in-Ok-None.ensures.returned h.at.live _ h.at.marks h.at.agrees)

pub unreachable-requires-in_default : goal.unreachable-requires-in_default
unreachable-requires-in_default g c =
    let s = c.requires in
    let h = c.chunks.invariant.0 s.b s.fs s.t s.x s.w s.begun in
    let n = comes s.b (in_chunks (string_major c.args.text) s.fs) _ _ _ _ _ _ _ tt h.at c.next.ensures.limits c.in-Ok-Some.ensures.live c.in-Ok-Some.field-0-is c.in-Ok-Some.ensures.returned in
    chunk-kind plain s.b s.fs s.t s.x c.args.text c.chunks.content.items _ _ c.chunks.events h c.in-Ok-Some.event _ c.next.new.self n c.in_default.not-Chunk c.in_default.not-End

pub returns-in-Err-clause-string : goal.returns-in-Err-clause-string
returns-in-Err-clause-string g c = λ b fs t x w i.
    let h = c.chunks.invariant.0 b fs t x w i in
    stops-chunk-head plain b fs t x c.args.text c.chunks.content.items _ _ c.chunks.events h _ c.in-Err.refusal
    (stops b c.chunks.events c.next.new.self (t ++ chunks_bytes (string_major c.args.text) h.done) (in_chunks (string_major c.args.text) fs) _ _ c.in-Err.refusal h.at (limits-as _ _ c.next.ensures.limits) (c.in-Err.ensures.returned h.at.live _ h.at.marks h.at.agrees).1)

pub returns-in-Err-clause-memory : goal.returns-in-Err-clause-memory
returns-in-Err-clause-memory g c = λ e.
    let s = c.requires in
    let h = c.chunks.invariant.0 s.b s.fs s.t s.x s.w s.begun in
    absurd (subst IsEventReason e (c.in-Err.ensures.reason h.at.live))
