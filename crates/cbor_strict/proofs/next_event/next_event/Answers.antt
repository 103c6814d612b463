use Rattle.std.proofs.Common.{◌∙◌, inl, inr}
use Rattle.theory_verdicts.proofs.{Steps.limits-as, ItemExpected.of_reported}
use Rattle.cbor_strict.proofs.StrictStops.{stopped_there, no_payload, at_once_there}
use Rattle.cbor_strict.proofs.Admitted.{event_come, event_admitted, event_refused}
use Rattle.cbor_strict.proofs.next_event.next_event.Goals as goal
use Rattle.cbor_strict.proofs.StrictReading.{by_event, small_piece, agrees_span}
use Rattle.cbor_strict.proofs.StrictSteps.{end_reported, live_of}

pub next_by_kind-requires : goal.next_by_kind-requires
next_by_kind-requires g c =
    let r = c.requires in
    record { head = λ asked live. no_payload c.args.items.now r.b c.args.events.now r.t c.asks-is_asked.result c.args.keys (record { expected = c.asks-is_asked.ensures.expected; payload = c.asks-is_asked.ensures.payload }) r.agrees asked }

pub returns-in-Ok-None-clause-returned : goal.returns-in-Ok-None-clause-returned
returns-in-Ok-None-clause-returned g c = λ b t same s keeps.
    end_reported _ b _ _ t _ _ (limits-as _ _ c.next_by_kind.ensures.limits) c.in-Ok-None.ensures.live c.asks-is_asked.result c.in-Ok-None.field-0 c.in-Ok-None.ensures.returned c.in-Ok-None.field-0-is s keeps

pub returns-in-Err-clause-returned : goal.returns-in-Err-clause-returned
returns-in-Err-clause-returned g c = λ b t same s keeps.
    stopped_there c.args.items.now b c.args.events.now c.next_by_kind.new.self t (g.R.Read.remaining c.args.reader.now) (g.R.Read.remaining c.next_by_kind.new.reader) c.in-Err.refusal c.asks-is_asked.result c.args.keys (limits-as _ _ c.next_by_kind.ensures.limits)
    c.in-Err.ensures.refused.2 c.in-Err.ensures.refused.1 c.next_by_kind.ensures.limits.taken (record { expected = c.asks-is_asked.ensures.expected; payload = c.asks-is_asked.ensures.payload }) same s keeps c.in-Err.ensures.returned

pub admit-requires : goal.admit-requires
admit-requires g c =
    let r = c.requires in
    event_come c.args.items.now r.b c.args.events.now c.next_by_kind.new.self r.t _ _ (limits-as _ _ c.next_by_kind.ensures.limits) c.in-Ok-Some.ensures.live c.asks-is_asked.result c.in-Ok-Some.field-0 c.in-Ok-Some.ensures.returned c.in-Ok-Some.event c.in-Ok-Some.field-0-is c.piece.result.now (λ y. c.piece.ensures.piece) _ _
    c.open-open.ensures.count c.taken-taken.ensures.taken r.agrees

pub returns-in-Ok-clause-returned : goal.returns-in-Ok-clause-returned
returns-in-Ok-clause-returned g c = λ b t same s keeps.
    event_admitted c.args.items.now b c.args.events.now c.next_by_kind.new.self t _ _ (limits-as _ _ c.next_by_kind.ensures.limits) c.in-Ok-Some.ensures.live c.asks-is_asked.result c.in-Ok-Some.field-0 c.in-Ok-Some.ensures.returned c.in-Ok-Some.event c.in-Ok-Some.field-0-is c.piece.result.now (λ y. c.piece.ensures.piece) _ _
    c.open-open.ensures.count c.taken-taken.ensures.taken s c.admit.new.self c.args.keys same (record { expected = c.asks-is_asked.ensures.expected; payload = c.asks-is_asked.ensures.payload }) c.in-Ok.ensures.order keeps tt c.in-Ok.ensures.returned

pub returns-in-Err-admit-clause-returned : goal.returns-in-Err-admit-clause-returned
returns-in-Err-admit-clause-returned g c = λ b t same s keeps.
    event_refused c.args.items.now b c.args.events.now c.next_by_kind.new.self t _ _ (limits-as _ _ c.next_by_kind.ensures.limits) c.in-Ok-Some.ensures.live c.asks-is_asked.result c.in-Ok-Some.field-0 c.in-Ok-Some.ensures.returned c.in-Ok-Some.event c.in-Ok-Some.field-0-is c.piece.result.now (λ y. c.piece.ensures.piece) _ _
    c.open-open.ensures.count c.taken-taken.ensures.taken s c.admit.new.self c.args.keys same (record { expected = c.asks-is_asked.ensures.expected; payload = c.asks-is_asked.ensures.payload }) c.in-Err-admit.ensures.order keeps c.in-Err-admit.refusal c.in-Err-admit.ensures.returned

pub returns-in-Err-clause-at_once : goal.returns-in-Err-clause-at_once
returns-in-Err-clause-at_once g c = λ t ms st.
    let r = c.requires in
    at_once_there c.asks-is_asked.result c.args.items.now.order _ c.in-Err.refusal c.args.events.now c.next_by_kind.new.self _ _ t ms (c.in-Err.ensures.returned (live_of c.args.items.now r.b c.args.events.now r.t r.agrees) t ms st)

pub returns-in-Err-admit-clause-at_once : goal.returns-in-Err-admit-clause-at_once
returns-in-Err-admit-clause-at_once g c = λ t ms st.
    let r = c.requires in
    let n = (of_reported c.asks-is_asked.result c.in-Ok-Some.field-0 c.in-Ok-Some.event _ c.in-Ok-Some.field-0-is (c.in-Ok-Some.ensures.returned (live_of c.args.items.now r.b c.args.events.now r.t r.agrees) t ms st)).0 in
    by_event c.args.items.now.order _ c.in-Err-admit.refusal c.in-Ok-Some.event _ n (small_piece c.in-Ok-Some.event _ _ n c.piece.ensures.piece c.piece.ensures.within)
    (c.in-Err-admit.ensures.read ∙ c.taken-taken.ensures.taken) c.in-Err-admit.ensures.against
    (λ is. elim (c.in-Err-admit.ensures.needed is) [ inl some ↦ inl (agrees_span c.args.items.now r.b c.args.events.now r.t r.agrees some) | inr h ↦ inr h ])
