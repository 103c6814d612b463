-- An event that was read, by any reader, is reported or refused.
use Rattle.std.proofs.Common.{◌≡◌, ℕ, ◌<◌, ◌⊎◌, Bool, Option, Some, None, Ok, Err, List, [], ◌++◌, length, refl, sym, subst, ◌∙◌, inl, inr}
use Rattle.std.specs.Io.KnownBytes.{Consumes}
use Rattle.cbor_head.specs.{Prelude.Bounds, Prelude.strict, declared.keys.Keys.Keys, declared.order.KeyOrder.KeyOrder, declared.reason.Refusal.Refusal}
use Rattle.cbor_head.specs.declared.event.{EventKind.TheVariants.Piece, Event.Event, EventKind.EventKind}
use Rattle.theory_automaton.specs.Trace.{Mark}
use Rattle.cbor_machine.specs.NextEvent.{ItemEventsView, AgreesBetween, call}
use Rattle.cbor_machine.specs.{Machine.IsComplete, NextKey.IsNextOf}
use Rattle.theory_verdicts.{specs.Kinds.KeepsToKinds, specs.RefusedAfter.IsRefusedAfter, proofs.Payloads.IsPiece}
use Rattle.theory_verdicts.proofs.{Steps.SameLimits, Steps.at-reached, RefusedAfter.stopped_after}
use Rattle.cbor_strict.specs.inner.OpenItems.{Agrees, HasPartCome, IsPartCome, IsHeadCome, by_kind, IsEventCome, ReturnsEvent, ReturnsPart, ReturnsHead}
use Rattle.cbor_strict.proofs.StrictSteps.{HeadReported, PieceReported, head_reported, piece_reported, head_keeps, piece_keeps}
use Rattle.cbor_strict.{specs.declared.open_items.OpenItems.OpenItems, specs.inner.StrictEvents.GoesOn, proofs.StrictStops.IsAsked}

-- ---- a part of a payload, or another event

pub piece_or : (kind : EventKind) → IsPiece kind ⊎ (IsPiece kind → ⊥)
piece_or (Piece n) = inl tt
piece_or _ = inr (λ h. h)

pub not_piece : (kind : EventKind) → ((n : ℕ) → kind ≡ Piece n → ⊥) → IsPiece kind → ⊥
not_piece (Piece n) other h = other n refl
not_piece _ other h = h

pub of_piece : (kind : EventKind) (P H : Type 0) → IsPiece kind → P → by_kind kind P H
of_piece (Piece n) P H i p = p
of_piece _ P H i p = absurd i

pub piece_of : (kind : EventKind) (P H : Type 0) → IsPiece kind → by_kind kind P H → P
piece_of (Piece n) P H i p = p
piece_of _ P H i p = absurd i

pub of_other : (kind : EventKind) (P H : Type 0) → (IsPiece kind → ⊥) → H → by_kind kind P H
of_other (Piece n) P H i h = absurd (i tt)
of_other _ P H i h = h

pub other_of : (kind : EventKind) (P H : Type 0) → (IsPiece kind → ⊥) → by_kind kind P H → H
other_of (Piece n) P H i h = absurd (i tt)
other_of _ P H i h = h

-- ---- the event

module _ (v : OpenItems) (b : Bounds) (e after : ItemEventsView) (t : List ℕ) (from to : Option (List ℕ)) (same : SameLimits e.machine after.machine) (live : after.refusal ≡ None) (asked : Bool) (o : Option Event)
    (returned : e.refusal ≡ None → (u : List ℕ) (ms : List Mark) → AgreesBetween e.machine u ms → IsNextOf asked (Ok o) (call e after from to u ms))
    (ev : Event) (is : o ≡ Some ev) (piece : List ℕ) (piece_is : IsPiece ev.kind → piece ≡ after.piece) (count taken : ℕ) (counted : count ≡ after.machine.open_count) (all : taken ≡ after.machine.taken) (s : Agrees v b e t) where
  part : IsPiece ev.kind → PieceReported v b e after t from to same live asked o returned ev after.piece
  part y = piece_reported v b e after t from to same live asked o returned ev is s y

  head_of : (IsPiece ev.kind → ⊥) → HeadReported v b e after t from to same live asked o returned ev
  head_of y = head_reported v b e after t from to same live asked o returned ev is s y

  part_come : (y : IsPiece ev.kind) → HasPartCome v b e t piece after
  part_come y = subst (λ (x : List ℕ). HasPartCome v b e t x after) (sym (piece_is y)) (part y).come

  -- it may be admitted
  pub event_come : IsEventCome v ev piece count taken
  event_come = elim (piece_or ev.kind) [
    | inl y ↦ of_piece ev.kind (IsPartCome v piece count taken) (IsHeadCome v ev count taken) y (record { b = b; old = e; t = t; e = after; come = part_come y; counted = counted; all = all })
    | inr y ↦ of_other ev.kind (IsPartCome v piece count taken) (IsHeadCome v ev count taken) y (record { b = b; t = t; x = (head_of y).next.bytes; e = after; come = (head_of y).come; counted = counted; all = all })
  ]

  module _ (new : OpenItems) (keys : Keys) (same_keys : b.keys ≡ keys) (asks : IsAsked asked keys v) (order : new.order ≡ v.order) (keeps : KeepsToKinds b (strict v.order) t) where
    keeps_head : (y : IsPiece ev.kind → ⊥) → KeepsToKinds b (strict v.order) (t ++ (head_of y).next.bytes)
    keeps_head y =
        let k = head_of y in
        head_keeps v b ev t k.next.bytes after k.come keeps (λ kinds expected. k.basic ((asks.expected k.come.fs [] k.come.kept k.come.none).1 (sym same_keys ∙ kinds.1, expected)))

    keeps_part : (y : IsPiece ev.kind) → KeepsToKinds b (strict v.order) (t ++ piece)
    keeps_part y = piece_keeps v b e t piece after (part_come y) keeps

    part_on : (u : Unit {0}) → IsPiece ev.kind → ReturnsPart v new piece count taken (Ok u) → GoesOn new b e after t from to ev
    part_on u y a =
        let k = part y in
        let here : piece ≡ k.next.bytes = piece_is y ∙ sym k.bytes_are in
        record {
          marks = k.marks;
          between = k.between;
          next = k.next;
          some = subst (λ (x : List ℕ). 0 < length x) (sym k.bytes_are) k.some;
          agrees = subst (λ (x : List ℕ). Agrees new b after (t ++ x)) here (a b e t after (part_come y) counted all);
          keeps = subst (λ (x : List ℕ). KeepsToKinds b (strict new.order) (t ++ x)) here (subst (λ (o : KeyOrder). KeepsToKinds b (strict o) (t ++ piece)) (sym order) (keeps_part y));
        }

    head_on : (u : Unit {0}) → (IsPiece ev.kind → ⊥) → ReturnsHead v new ev count taken (Ok u) → GoesOn new b e after t from to ev
    head_on u y a =
        let k = head_of y in
        record {
          marks = k.marks;
          between = k.between;
          next = k.next;
          some = k.some;
          agrees = a b t k.next.bytes after k.come counted all;
          keeps = subst (λ (o : KeyOrder). KeepsToKinds b (strict o) (t ++ k.next.bytes)) (sym order) (keeps_head y);
        }

    -- nothing has a complaint
    pub event_admitted : (u : Unit {0}) → ReturnsEvent v new ev piece count taken (Ok u) → GoesOn new b e after t from to ev
    event_admitted u a = elim (piece_or ev.kind) [
      | inl y ↦ part_on u y (piece_of ev.kind (ReturnsPart v new piece count taken (Ok u)) (ReturnsHead v new ev count taken (Ok u)) y a)
      | inr y ↦ head_on u y (other_of ev.kind (ReturnsPart v new piece count taken (Ok u)) (ReturnsHead v new ev count taken (Ok u)) y a)
    ]

    part_refused : (f : Refusal) → IsPiece ev.kind → ReturnsPart v new piece count taken (Err f) → ¬ IsComplete e.machine × IsRefusedAfter (strict v.order) b t from to f
    part_refused f y a =
        let k = part y in
        let come = part_come y in (
          k.next.unfinished,
          stopped_after (strict v.order) b t from to f piece (subst (Consumes from to) (k.bytes_are ∙ sym (piece_is y)) k.next.consumed) (at-reached b after _ _ come.at).begins (keeps_part y) (a b e t after come counted all to),
        )

    head_refused : (f : Refusal) → (IsPiece ev.kind → ⊥) → ReturnsHead v new ev count taken (Err f) → ¬ IsComplete e.machine × IsRefusedAfter (strict v.order) b t from to f
    head_refused f y a =
        let k = head_of y in (
          k.next.unfinished,
          stopped_after (strict v.order) b t from to f k.next.bytes k.next.consumed (at-reached b after _ _ k.come.at).begins (keeps_head y) (a b t k.next.bytes after k.come counted all to),
        )

    -- a complaint ends with it, or memory was refused
    pub event_refused : (f : Refusal) → ReturnsEvent v new ev piece count taken (Err f) → ¬ IsComplete e.machine × IsRefusedAfter (strict v.order) b t from to f
    event_refused f a = elim (piece_or ev.kind) [
      | inl y ↦ part_refused f y (piece_of ev.kind (ReturnsPart v new piece count taken (Err f)) (ReturnsHead v new ev count taken (Err f)) y a)
      | inr y ↦ head_refused f y (other_of ev.kind (ReturnsPart v new piece count taken (Err f)) (ReturnsHead v new ev count taken (Err f)) y a)
    ]
