-- Where an item is expected, by any rules: which head comes, and why none does. Its kind may be judged.
use Rattle.std.proofs.Common.{◌≡◌, ◌≢◌, ℕ, ◌-◌, ◌≤◌, ◌⊎◌, Bool, true, false, true≢false, Option, Some, None, List, ◌++◌, length, refl, sym, ap, ◌∙◌, subst, inl, inr, arith, Ok, Err}
use Rattle.cbor_head.specs.Prelude.{Bounds, Rules, Complaint, MayFollow}
use Rattle.cbor_head.specs.declared.major.Major.TheVariants as majors
use Rattle.cbor_head.specs.declared.event.EventKind.TheVariants as kinds
use Rattle.cbor_head.specs.declared.{width.Width.Width, reason.Refusal.Refusal, event.Event.Event, event.EventKind.EventKind}
use Rattle.theory_automaton.specs.{Marks.mark_of, Marks.count_of, Trace.a_break}
use Rattle.cbor_machine.specs.NextEvent.{ItemEventsView, Call, IsNext, IsNextEvent, IsEnd, call}
use Rattle.cbor_machine.specs.NextKey.{IsBasicKind, IsAfterBasic, IsOtherKey, IsNextOf}
use Rattle.cbor_machine.specs.Machine.{IsComplete}
use Rattle.theory_verdicts.specs.Kinds.{AsksForKinds, KeepsToKinds, HasBasicPrefix}
use Rattle.theory_verdicts.specs.Place.{Container, Place, at_item, IsTaking}
use Rattle.theory_verdicts.proofs.KindBytes.{Begins, basic_mark, mark_begins, keeps_expected}
use Rattle.theory_verdicts.proofs.RefusedAfter.{basic_first, stopped_within, stopped_other}
use Rattle.theory_verdicts.specs.{Frame.Frame, Judged.IsJudged, Reading.IsAt, RefusedAfter.IsRefusedAfter}
use Rattle.theory_verdicts.proofs.{Steps.SameLimits, Steps.stops, KindFrames.IsAround}

-- ---- what was returned

pub of_reported : (asked : Bool) (o : Option Event) (event : Event) (c : Call) → o ≡ Some event → IsNextOf asked (Ok o) c → IsNextEvent event c × (asked ≡ true → IsBasicKind event.kind)
of_reported asked o event c is h = go asked (subst (λ (x : Option Event). IsNextOf asked (Ok x) c) is h)
  where
    go : (asked : Bool) → IsNextOf asked (Ok (Some event)) c → IsNextEvent event c × (asked ≡ true → IsBasicKind event.kind)
    go true n = (n.0, λ a. n.1)
    go false n = (n, λ a. absurd (true≢false (sym a)))

pub of_end : (asked : Bool) (o : Option Event) (c : Call) → o ≡ None → IsNextOf asked (Ok o) c → IsEnd c
of_end asked o c is h = go asked (subst (λ (x : Option Event). IsNextOf asked (Ok x) c) is h)
  where
    go : (asked : Bool) → IsNextOf asked (Ok None) c → IsEnd c
    go true n = n
    go false n = n

pub of_refused : (asked : Bool) (f : Refusal) (c : Call) → IsNextOf asked (Err f) c → (IsNext (Err f) c × (asked ≡ true → IsAfterBasic f c)) ⊎ ((asked ≡ true) × IsOtherKey f c)
of_refused true f c (inl h) = inl (h.0, λ a. h.1)
of_refused true f c (inr h) = inr (refl, h)
of_refused false f c h = inl (h, λ a. absurd (true≢false (sym a)))

-- ---- the first byte of a head

module _ (d : ℕ) (cs : List Container) where
  pub basic-event : (w : Width) (kind : EventKind) (x : List ℕ) (next : Place) → IsTaking d (at_item cs) (mark_of w kind) x next → kind ≢ kinds.End → IsBasicKind kind → HasBasicPrefix x
  basic-event w (kinds.Unsigned n) x next h item i = basic_mark d cs majors.Unsigned w n x next h refl
  basic-event w (kinds.Negative n) x next h item i = basic_mark d cs majors.Negative w n x next h refl
  basic-event w (kinds.Text n) x next h item i = basic_mark d cs majors.Text w (count_of n) x next h refl
  basic-event w (kinds.Chunk n) x next h item i = absurd h
  basic-event w (kinds.Piece n) x next h item i = absurd h
  basic-event w kinds.End x next h item i = absurd (item refl)
  basic-event w _ x next h item i = absurd i

pub no-break : (w : Width) (kind : EventKind) → kind ≢ kinds.End → mark_of w kind ≡ a_break → ⊥
no-break w kinds.End item e = item refl
no-break w _ item e = cc e

-- ---- where an item is expected

-- An item is expected within these containers, after t; it is a key, or not. Nothing in t has a complaint.
pub record ExpectsItem (r : Rules) (b : Bounds) (t : List ℕ) (cs : List Container) (Key : Type 0) : Type 0 where
  pub left : ℕ
  pub fs : List Frame
  pub around : IsAround b.depth left fs t Key
  pub space : b.depth - length cs ≡ left
  -- what is found of the item is found of the whole
  pub lift : (p : List ℕ) (found : Option Complaint) → IsJudged r (length t) (b.depth - length cs) p found → IsJudged r 0 (b.depth - 0) (t ++ p) found
  pub keeps : KeepsToKinds b r t

module _ {Key : Type 0} (r : Rules) (b : Bounds) (t : List ℕ) (cs : List Container) (x : ExpectsItem r b t cs Key) where
  -- no key of another kind begins in a head that came
  pub head-keeps : (w : Width) (kind : EventKind) (bytes : List ℕ) (next : Place) → IsTaking b.depth (at_item cs) (mark_of w kind) bytes next → kind ≢ kinds.End → (AsksForKinds b r → Key → IsBasicKind kind) → KeepsToKinds b r (t ++ bytes)
  head-keeps w kind bytes next taking item basic =
      let m = mark_begins b.depth cs (mark_of w kind) bytes next taking (no-break w kind item) in
      keeps_expected b r x.around bytes (subst (λ (n : ℕ). Begins n bytes) x.space m.0) m.1 (λ asked key. basic-event b.depth cs w kind bytes next taking item (basic asked key)) x.keeps

  -- no head comes
  pub stopped-expected : (e new : ItemEventsView) (from to : Option (List ℕ)) (asked : Bool) (f : Refusal) → (at : IsAt b e t (at_item cs)) → SameLimits e.machine new.machine → new.machine.taken ≡ f.read → new.machine.taken ≤ new.machine.bytes
      → (asked ≡ true → AsksForKinds b r × Key) → (AsksForKinds b r → Key → asked ≡ true) → IsNextOf asked (Err f) (call e new from to t at.marks) → ¬ IsComplete e.machine × IsRefusedAfter r b t from to f
  stopped-expected e new from to asked f at same all most so only h =
      let lifted : (p : List ℕ) → IsJudged r (length t) (b.depth - length cs) p None → IsJudged r 0 (b.depth - 0) (t ++ p) None = λ p j. x.lift p None j in
      elim (of_refused asked f (call e new from to t at.marks) h) [
        | inr k ↦
            let d = so k.0 in (
              k.1.unfinished,
              stopped_other r b t from to f cs x.around x.space lifted x.keeps e k.1.byte at d.0 d.1 (subst (λ (n : ℕ). MayFollow n t k.1.byte) (same.depth ∙ at.depth) k.1.follows) k.1.item k.1.other k.1.consumed
                  (omega (arith, all, most, ap (λ (y : Refusal). y.read) k.1.is, same.bytes, at.bytes)) k.1.is,
            )
        | inl n ↦
            let s = stops b e new t (at_item cs) from to f at same n.0.1 in (
              n.0.0,
              stopped_within r b t from to f cs x.around x.space lifted x.keeps s.bytes s.consumed s.read s.cut
                  (λ asks key rest is. basic_first t s.cut.p s.cut.last from to s.bytes rest f.place (n.1 (only asks key)) s.cut.place s.cut.splits s.consumed is),
            )
      ]
