-- From one event to the next, by the strict rules.
use Rattle.std.proofs.Common.{◌≡◌, ◌≢◌, ℕ, zero, suc, ◌<◌, Bool, true, false, Option, Some, None, List, [], ◌++◌, length, refl, sym, ap, ◌∙◌, subst, inl, inr, arith, append_assoc, length-append, Ok}
use Rattle.cbor_head.specs.Prelude.{head, Bounds, AreBytes, strict}
use Rattle.cbor_head.specs.declared.event.EventKind.TheVariants as kinds
use Rattle.cbor_head.specs.declared.{major.Major.Major, event.Event.Event, event.EventKind.EventKind}
use Rattle.theory_values.proofs.ByteLists.{bytes_join}
use Rattle.theory_automaton.specs.{Trace.Mark, Marks.marks_of, Marks.mark_of}
use Rattle.cbor_machine.specs.NextEvent.{ItemEventsView, AgreesBetween, IsNextEvent, call, IsKept as IsPieceKept}
use Rattle.cbor_machine.specs.{Machine.IsComplete, NextKey.IsBasicKind, NextKey.IsNextOf}
use Rattle.theory_verdicts.specs.Place.{Container, Place, at_item, payload, done, IsTaking}
use Rattle.theory_verdicts.specs.Kinds.{AsksForKinds, KeepsToKinds, IsKeyExpected}
use Rattle.theory_verdicts.proofs.Payloads.{IsPiece, IsPayload, none-come, part-fits, part-comes, piece-expected}
use Rattle.theory_verdicts.proofs.Steps.{SameLimits, next-at, head-taken, same-place}
use Rattle.theory_verdicts.proofs.ItemExpected.{of_reported, of_end, head-keeps}
use Rattle.theory_verdicts.{specs.Reading.IsAt, specs.Reading.string_major, proofs.Items.taking-some, proofs.Scalars.at-as}
use Rattle.theory_verdicts.proofs.ParseState.{is-complete, is-done}
use Rattle.cbor_strict.specs.inner.OpenItems.{frames_in, bytes_before, Agrees, HasHeadCome, HasPartCome}
use Rattle.cbor_strict.{proofs.StrictKinds.keeps_string, specs.declared.open_items.OpenItems.OpenItems, specs.inner.StrictEvents.HasCome}
use Rattle.cbor_strict.{specs.inner.LastKeys.from_outside, proofs.OpenBegins.no_break, proofs.OpenBegins.expects}

-- ---- what an event can be

piece_bytes : (kind : EventKind) → IsPiece kind → (kept piece bytes : List ℕ) → IsPieceKept kind kept piece bytes → piece ≡ bytes
piece_bytes (kinds.Piece n) h kept piece bytes k = k
piece_bytes _ h kept piece bytes k = absurd h

pub payload_so : (m : Major) (n : ℕ) (fs : List Container) → 0 < n → IsPayload (payload false m n fs)
payload_so m zero fs l = absurd (omega (arith, l))
payload_so m (suc n) fs l = tt

pub not_over : (b : Bounds) (e : ItemEventsView) (t : List ℕ) (q : Place) → IsAt b e t q → (q ≡ done → ⊥) → IsComplete e.machine → ⊥
not_over b e t q a f c = f (is-done b e t q a c)

module _ (v : OpenItems) (b : Bounds) (e new : ItemEventsView) (t : List ℕ) (from to : Option (List ℕ)) (same : SameLimits e.machine new.machine) (live : new.refusal ≡ None) (asked : Bool) (o : Option Event)
    (returned : e.refusal ≡ None → (u : List ℕ) (ms : List Mark) → AgreesBetween e.machine u ms → IsNextOf asked (Ok o) (call e new from to u ms)) where
  -- an event that is no part of a payload
  pub record HeadReported (ev : Event) : Type 0 where
    pub marks : List Mark
    pub between : AgreesBetween e.machine t marks
    pub next : IsNextEvent ev (call e new from to t marks)
    pub some : 0 < length next.bytes
    pub come : HasHeadCome v b ev t next.bytes new
    pub basic : asked ≡ true → IsBasicKind ev.kind

  pub head_reported : (ev : Event) → o ≡ Some ev → Agrees v b e t → (IsPiece ev.kind → ⊥) → HeadReported ev
  head_reported ev is (inl h) none =
      let (n, basic) = of_reported asked o ev _ is (returned h.at.live t h.at.marks h.at.agrees) in
      let taking = head-taken b e new t (at_item (frames_in h.fs)) ev from to tt h.at n same in
      record {
        marks = h.at.marks;
        between = h.at.agrees;
        next = n;
        basic = basic;
        some = taking-some b.depth (frames_in h.fs) (mark_of ev.width ev.kind) n.bytes _ taking;
        come = record {
          fs = h.fs;
          around = h.around;
          none = h.none;
          kept = h.kept;
          taken = h.taken;
          next = _;
          taking = taking;
          proper = n.are.0;
          place = n.place;
          at = next-at b e new t (t ++ n.bytes) (at_item (frames_in h.fs)) (h.at.marks ++ marks_of ev.width ev.kind) h.at same live n.agrees;
        };
      }
  head_reported ev is (inr (inl h)) none =
      let n = (of_reported asked o ev _ is (returned h.at.live t h.at.marks h.at.agrees)).0 in
      absurd (none (piece-expected b e t _ ev.kind h.at (payload_so (string_major v.is_text) v.left (frames_in h.fs) h.some) n.expected))
  head_reported ev is (inr (inr h)) none = absurd ((of_reported asked o ev _ is (returned h.at.live t h.at.marks h.at.agrees)).0.unfinished (is-complete b e t h.at))

  -- a part of a payload
  pub record PieceReported (ev : Event) (piece : List ℕ) : Type 0 where
    pub marks : List Mark
    pub between : AgreesBetween e.machine t marks
    pub next : IsNextEvent ev (call e new from to t marks)
    pub bytes_are : next.bytes ≡ piece
    pub some : 0 < length piece
    pub come : HasPartCome v b e t piece new

  pub piece_reported : (ev : Event) → o ≡ Some ev → Agrees v b e t → IsPiece ev.kind → PieceReported ev new.piece
  piece_reported ev is (inl h) piece =
      let n = (of_reported asked o ev _ is (returned h.at.live t h.at.marks h.at.agrees)).0 in
      absurd (no_piece ev.kind piece _ _ (head-taken b e new t (at_item (frames_in h.fs)) ev from to tt h.at n same))
    where
      no_piece : (kind : EventKind) → IsPiece kind → (bs : List ℕ) (q : Place) → IsTaking b.depth (at_item (frames_in h.fs)) (mark_of ev.width kind) bs q → ⊥
      no_piece (kinds.Piece k) piece bs q taking = taking
      no_piece _ piece bs q taking = piece
  piece_reported ev is (inr (inr h)) piece = absurd ((of_reported asked o ev _ is (returned h.at.live t h.at.marks h.at.agrees)).0.unfinished (is-complete b e t h.at))
  piece_reported ev is (inr (inl h)) piece =
      let m = string_major v.is_text in
      let k = none-come b false m (frames_in h.fs) t v.left [] from e h.at in
      let n = (of_reported asked o ev _ is (returned h.at.live (t ++ k.p) k.at.marks k.at.agrees)).0 in
      let fits = part-fits b false m (frames_in h.fs) t v.left [] [] from from e v.left k h.some ev to new same n in
      let more = part-comes b false m (frames_in h.fs) t v.left [] [] from from e v.left k h.some ev to new same n new.piece live refl in
      let it : more.p ≡ new.piece = sym more.grows in
      let here = (of_reported asked o ev _ is (returned h.at.live t h.at.marks h.at.agrees)).0 in
      record {
        marks = h.at.marks;
        between = h.at.agrees;
        next = here;
        bytes_are = sym (piece_bytes ev.kind piece e.piece new.piece here.bytes here.piece_is);
        some = fits.0;
        come = record {
          expected = h;
          some = fits.0;
          fits = fits.1;
          are_bytes = subst AreBytes it more.are_bytes;
          at = at-as b new (t ++ more.p) (t ++ new.piece) _ _ (ap (λ (y : List ℕ). t ++ y) it) refl more.at;
        };
      }

  -- nothing more
  pub end_reported : o ≡ None → Agrees v b e t → KeepsToKinds b (strict v.order) t → HasCome v b e new t from to
  end_reported is (inl h) keeps = absurd (not_over b e t _ h.at (λ g. cc g) (of_end asked o _ is (returned h.at.live t h.at.marks h.at.agrees)).complete)
  end_reported is (inr (inl h)) keeps = absurd (not_over b e t _ h.at (λ g. subst IsPayload g (payload_so (string_major v.is_text) v.left (frames_in h.fs) h.some)) (of_end asked o _ is (returned h.at.live t h.at.marks h.at.agrees)).complete)
  end_reported is (inr (inr h)) keeps =
      let n = of_end asked o _ is (returned h.at.live t h.at.marks h.at.agrees) in
      let a = next-at b e new t t done h.at.marks h.at same live n.agrees in
      record { marks = h.at.marks; between = h.at.agrees; end = n; keeps = keeps; over = record { item = h.item; spelled = h.spelled; within = h.within; clean = h.clean; none = h.none; kept = h.kept; taken = h.taken; at = at-as b new t t _ done refl (same-place b new e t _ done a h.at) a } }

-- ---- no key of another kind begins in it

pub head_keeps : (v : OpenItems) (b : Bounds) (ev : Event) (t x : List ℕ) (e : ItemEventsView) (h : HasHeadCome v b ev t x e) → KeepsToKinds b (strict v.order) t → (AsksForKinds b (strict v.order) → IsKeyExpected (from_outside h.fs) → IsBasicKind ev.kind)
    → KeepsToKinds b (strict v.order) (t ++ x)
head_keeps v b ev t x e h keeps basic =
    let item : ev.kind ≢ kinds.End = λ i. no_break h.fs h.next (subst (λ (k : EventKind). IsTaking b.depth (at_item (frames_in h.fs)) (mark_of ev.width k) x h.next) i h.taking).1 in
    head-keeps (strict v.order) b t (frames_in h.fs) (expects v b t h.fs h.around h.taken keeps) ev.width ev.kind x h.next h.taking item basic

pub piece_keeps : (v : OpenItems) (b : Bounds) (old : ItemEventsView) (t x : List ℕ) (e : ItemEventsView) → HasPartCome v b old t x e → KeepsToKinds b (strict v.order) t → KeepsToKinds b (strict v.order) (t ++ x)
piece_keeps v b old t x e h keeps =
    let d = h.expected in
    let are = d.around.are in
    let hd = head (string_major v.is_text) d.w d.n in
    let y = bytes_before d.fs in
    let there : t ++ x ≡ y ++ (hd ++ (d.q ++ x)) = ap (λ (z : List ℕ). z ++ x) d.taken ∙ append_assoc y (hd ++ d.q) x ∙ ap (λ (z : List ℕ). y ++ z) (append_assoc hd d.q x) in
    subst (KeepsToKinds b (strict v.order)) (sym there)
    (keeps_string b (strict v.order) (from_outside d.fs) are.left are.levels are.path v.is_text d.w d.n d.q x d.holds (bytes_join d.q x d.are_bytes h.are_bytes) (omega (arith, d.count, h.fits, length-append d.q x))
    (subst (KeepsToKinds b (strict v.order)) d.taken keeps))

pub live_of : (v : OpenItems) (b : Bounds) (e : ItemEventsView) (t : List ℕ) → Agrees v b e t → e.refusal ≡ None
live_of v b e t (inl h) = h.at.live
live_of v b e t (inr (inl h)) = h.at.live
live_of v b e t (inr (inr h)) = h.at.live
