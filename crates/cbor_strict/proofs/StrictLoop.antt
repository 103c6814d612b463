-- The strict reader's events, one after another, until the item is complete or refused.
use Rattle.std.proofs.Common.{◌≡◌, ℕ, false, ◌-◌, ◌<◌, Option, Some, None, List, [], ◌++◌, length, refl, sym, ap, ◌∙◌, subst, inl, inr, arith, append-nil, length-append}
use Rattle.std.{specs.Option.IfSome, specs.Io.KnownBytes.Consumes, proofs.KnownBytes.Consumes-nil, proofs.KnownBytes.Consumes-trans}
use Rattle.cbor_head.specs.Prelude.{Bounds, spell, value_of, strict, Complains}
use Rattle.cbor_head.specs.declared.major.Major.TheVariants as majors
use Rattle.cbor_head.specs.declared.width.Width.TheVariants.{Direct, One, Two, Four, Eight, Indefinite}
use Rattle.cbor_head.specs.declared.event.EventKind.TheVariants as kinds
use Rattle.cbor_head.specs.declared.{major.Major.Major, order.KeyOrder.KeyOrder, reason.Refusal.Refusal, width.Width.Width, event.Event.Event}
use Rattle.cbor_head.specs.declared.event.EventKind.{EventKind}
use Rattle.theory_values.proofs.ReadLaws.{length_head}
use Rattle.theory_automaton.specs.Bytes.{IsHeadBytes, IsChunkHead, IsEventBytes, last_type}
use Rattle.theory_automaton.specs.{Trace.Mark, Marks.count_of, Marks.marks_of}
use Rattle.cbor_machine.specs.{Machine.KeepsLimits, Machine.IsComplete, NextEvent.ItemEventsView}
use Rattle.theory_verdicts.specs.{Judged.Never, Kinds.KeepsToKinds, Reading.string_major, Place.done as at_end, Reading.IsPrefixUnread, Reading.ReadsItem, Readers.IsRead, Readers.Loses}
use Rattle.theory_verdicts.proofs.Tops.{loses, known, item-read}
use Rattle.theory_verdicts.{specs.Refusals.IsReaderReason, proofs.Payloads.IsPayload, proofs.Scalars.at-as}
use Rattle.theory_verdicts.proofs.RefusedAfter.{stopped_from, stopped_prefix}
use Rattle.cbor_strict.specs.StrictReader.{StrictEventsView, AgreesStrictly, IsNextClean, IsCleanEnd, IsStrictRefusal, limits_of, strict_call}
use Rattle.cbor_strict.specs.inner.OpenItems.{IsOver, Agrees, frames_in}
use Rattle.cbor_strict.{specs.declared.open_items.OpenItems.OpenItems, specs.inner.StrictEvents.bounds_of, proofs.StrictReading.same_bounds}
use Rattle.cbor_strict.proofs.StrictSteps.{not_over, payload_so}

-- ---- an event has a byte at least

head_some : (m : Major) (w : Width) (n : ℕ) (bs : List ℕ) → IsHeadBytes m w n bs → 0 < length bs
head_some m Direct n bs h = omega (arith, ap length h.1, length_head m Direct n)
head_some m One n bs h = omega (arith, ap length h.1, length_head m One n)
head_some m Two n bs h = omega (arith, ap length h.1, length_head m Two n)
head_some m Four n bs h = omega (arith, ap length h.1, length_head m Four n)
head_some m Eight n bs h = omega (arith, ap length h.1, length_head m Eight n)
head_some m Indefinite n bs h = omega (arith, ap length h.1, length_head m Indefinite 0)

chunk_some : (type : Option Major) (w : Width) (n : ℕ) (bs : List ℕ) → IsChunkHead type w n bs → 0 < length bs
chunk_some (Some m) w n bs h = omega (arith, ap length h.1, length_head m w n)
chunk_some None w n bs h = absurd h

event_some : (reported : List Mark) (w : Width) (kind : EventKind) (bs : List ℕ) → IsEventBytes reported w kind bs → 0 < length bs
event_some reported w (kinds.Unsigned n) bs h = head_some majors.Unsigned w n bs h.1
event_some reported w (kinds.Negative n) bs h = head_some majors.Negative w n bs h.1
event_some reported w (kinds.Simple n) bs h = head_some majors.Simple w n bs h.1
event_some reported w (kinds.Bytes n) bs h = head_some majors.Bytes w (count_of n) bs h.1
event_some reported w (kinds.Text n) bs h = head_some majors.Text w (count_of n) bs h.1
event_some reported w (kinds.Array n) bs h = head_some majors.Array w (count_of n) bs h.1
event_some reported w (kinds.Map n) bs h = head_some majors.Map w (count_of n) bs h.1
event_some reported w (kinds.Tag n) bs h = head_some majors.Tag w n bs h.1
event_some reported w (kinds.Chunk n) bs h = chunk_some (last_type None reported) w n bs h.1
event_some reported w (kinds.Piece n) bs h = omega (arith, h.0.1, h.1)
event_some reported w kinds.End bs h = omega (arith, ap length h.1)

-- ---- from one event to the next

-- the events that were reported are those of what was read
pub record IsRunning (o : KeyOrder) (b : Bounds) (v : StrictEventsView) (from now : Option (List ℕ)) : Type 0 where
  pub t : List ℕ
  pub marks : List Mark
  pub consumed : Consumes from now t
  pub agrees : AgreesStrictly v t marks
  pub order : v.order ≡ o
  pub limits : limits_of v ≡ b
  pub granted : v.refused ≡ false

pub runs_first : (o : KeyOrder) (b : Bounds) (v : StrictEventsView) (from : Option (List ℕ)) → AgreesStrictly v [] [] → v.order ≡ o → limits_of v ≡ b → v.refused ≡ false → IsRunning o b v from from
runs_first o b v from agrees order limits granted = record { t = []; marks = []; consumed = Consumes-nil from; agrees = agrees; order = order; limits = limits; granted = granted }

-- where nothing more is reported the item is complete
over : (v : OpenItems) (b : Bounds) (e : ItemEventsView) (t : List ℕ) → Agrees v b e t → IsComplete e.machine → IsOver v b e t
over v b e t (inl h) c = absurd (not_over b e t _ h.at (λ g. cc g) c)
over v b e t (inr (inl h)) c = absurd (not_over b e t _ h.at (λ g. subst IsPayload g (payload_so (string_major v.is_text) v.left (frames_in h.fs) h.some)) c)
over v b e t (inr (inr h)) c = h

module _ (o : KeyOrder) (b : Bounds) (v new : StrictEventsView) (from now to : Option (List ℕ)) (h : IsRunning o b v from now) where
  pub runs_limits : KeepsLimits v.machine new.machine → new.keys ≡ v.keys → limits_of new ≡ b
  runs_limits limits keys = ap (bounds_of new.machine) keys ∙ sym (same_bounds v.machine new.machine v.keys limits) ∙ h.limits

  pub runs_on : (ev : Event) → IsNextClean ev (strict_call v new now to h.t h.marks) → KeepsLimits v.machine new.machine → new.order ≡ v.order → new.keys ≡ v.keys → new.refused ≡ v.refused → IsRunning o b new from to
  runs_on ev n limits order keys granted = record {
    t = h.t ++ n.event.bytes;
    marks = h.marks ++ marks_of ev.width ev.kind;
    consumed = Consumes-trans from now to h.t n.event.bytes h.consumed n.event.consumed;
    agrees = n.agrees;
    order = order ∙ h.order;
    limits = runs_limits limits keys;
    granted = granted ∙ h.granted;
  }

  pub runs_farther : (ev : Event) → IsNextClean ev (strict_call v new now to h.t h.marks) → KeepsLimits v.machine new.machine → new.machine.bytes - new.machine.taken < v.machine.bytes - v.machine.taken
  runs_farther ev n limits =
      omega (arith, h.agrees.between.agrees.taken, n.agrees.between.agrees.taken, n.agrees.between.agrees.limited, limits.bytes, event_some h.marks ev.width ev.kind n.event.bytes n.event.are, length-append h.t n.event.bytes)

  -- the whole item is read
  pub runs_out : (count : ℕ) → IsCleanEnd (strict_call v new now to h.t h.marks) → KeepsLimits v.machine new.machine → count ≡ new.machine.taken → IfSome from (λ input. IsRead b (strict o) input count) × Loses count from to
  runs_out count n limits c =
      let w = h.agrees.inner in
      let bb = limits_of v in
      let end = over v.inner.items bb v.inner.events h.t w.agrees (subst IsComplete (sym w.machine_is) n.end.complete) in
      let all : count ≡ length h.t = c ∙ n.agrees.between.agrees.taken in
      let lost : Consumes from to h.t = subst (Consumes from to) (append-nil h.t) (Consumes-trans from now to h.t [] h.consumed n.end.consumed) in
      let reads : ReadsItem (strict v.order) bb [] [] [] from to v.inner.events (value_of end.item) = record {
        item = end.item;
        spelled = end.spelled;
        within = omega (arith, end.within);
        clean = subst (λ (p : KeyOrder). Never (Complains (strict p) 0 end.item)) w.order_is end.clean;
        taken = record { more = spell end.item; consumed = subst (Consumes from to) end.taken lost; are = refl };
        value = refl;
        at = at-as bb v.inner.events h.t (spell end.item) at_end at_end end.taken refl end.at;
      } in
      let keeps = subst (KeepsToKinds bb (strict v.order)) end.taken w.keeps in
      let read : IfSome from (λ input. IsRead bb (strict v.order) input count) =
      known from (λ input. IsRead bb (strict v.order) input count) (λ input k. subst (IsRead bb (strict v.order) input) (sym (all ∙ ap length end.taken)) (item-read (strict v.order) bb input from to k v.inner.events (value_of end.item) reads keeps).read) in (
        subst (λ (x : Bounds). IfSome from (λ input. IsRead x (strict o) input count)) h.limits (subst (λ (p : KeyOrder). IfSome from (λ input. IsRead bb (strict p) input count)) h.order read),
        loses h.t count from to all (record { more = h.t; consumed = lost; are = refl }),
      )

  -- it is refused
  pub runs_stop : (f : Refusal) → IsStrictRefusal f (strict_call v new now to h.t h.marks) → IsReaderReason (limits_of v) (strict v.order) f.reason → IsPrefixUnread (strict o) b from to f
  runs_stop f n reason =
      let following = stopped_from (strict v.order) (limits_of v) f [] h.t from now to h.consumed (record { bytes = n.bytes; consumed = n.consumed; read = n.read; reason = reason; unread = n.verdict }) in
      subst (λ (x : Bounds). IsPrefixUnread (strict o) x from to f) h.limits (subst (λ (p : KeyOrder). IsPrefixUnread (strict p) (limits_of v) from to f) h.order (stopped_prefix (strict v.order) (limits_of v) f from to following))
