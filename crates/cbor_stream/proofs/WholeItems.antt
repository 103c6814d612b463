-- An item that is consumed at once: where it is expected, and what is represented after it.
use Rattle.std.proofs.Common.{◌≡◌, ℕ, zero, suc, ◌+◌, ◌-◌, ◌<◌, ◌≤◌, true, false, List, [], ◌++◌, length, refl, sym, ap, ◌∙◌, subst, inl, inr, arith, append-nil}
use Rattle.cbor_head.specs.Prelude.{Bounds, depth, strict}
use Rattle.cbor_head.specs.{declared.major.Major.Major, declared.order.KeyOrder.KeyOrder, Spelling.Spelling, Spelling.IsItem}
use Rattle.theory_automaton.specs.Automaton as automaton
use Rattle.theory_automaton.specs.Automaton.{State, run, reached}
use Rattle.theory_automaton.specs.Trace.{Mark, trace}
use Rattle.cbor_machine.specs.{State.state_of, State.frames_of, MachineView.MachineView, Machine.Represents, Machine.KeepsLimits, NextEvent.AgreesBetween}
use Rattle.cbor_machine.proofs.{WholeItems.item-run, WholeItems.item-state, NextEvents.run-rest, Frames.length_frames}
use Rattle.theory_verdicts.specs.Place.{Container, close, payload}
use Rattle.theory_verdicts.{specs.Reading.state_at, specs.Reading.string_major, specs.Kinds.KeepsToKinds, proofs.Places.close-at, proofs.Scalars.at-as}
use Rattle.cbor_strict.specs.inner.OpenItems.{frames_in, IsItemExpected, HasEnded, Agrees}
use Rattle.cbor_strict.proofs.WholeItems.{IsCanonicalItem, item_ended, item_keeps}
use Rattle.cbor_strict.{specs.inner.LastKeys.view_value, specs.declared.open_items.OpenItems.OpenItems, proofs.OpenEnds.frames_length}
use Rattle.cbor_stream.{specs.inner.Amid.IsAmid, proofs.Amid.amid_represents, proofs.Amid.silent, proofs.Offers.item_nothing, proofs.Starts.events_of}

payload_no_item : (m : Major) (n : ℕ) (cs : List Container) (fs : List automaton.Frame) → 0 < n → state_at (payload false m n cs) ≡ automaton.at_item fs → ⊥
payload_no_item m zero cs fs l e = absurd (omega (arith, l))
payload_no_item m (suc n) cs fs l e = cc e

module _ (m : MachineView) (v : OpenItems) (b : Bounds) (t : List ℕ) (ms : List Mark) (a : IsAmid m v b t ms) (expected : m.item_expected ≡ true) where
  all : t ≡ a.before
  all = a.splits ∙ ap (λ (x : List ℕ). a.before ++ x) (item_nothing m v b t ms a expected) ∙ append-nil a.before

  abbrev began : State
  began = state_of a.began.machine.inner.position a.began.machine.inner.frames

  abbrev now : State
  now = state_of m.inner.position m.inner.frames

  same : began ≡ automaton.at_item (frames_of m.inner.frames)
  same =
      let s = amid_represents m v b t ms a in
      let still : reached began [] ≡ reached now [] = subst (λ (x : List ℕ). run a.began.machine.depth began x ≡ reached now []) (item_nothing m v b t ms a expected) (silent m v b t ms a) in
      let is : began ≡ now = cc still in
      is ∙ item-state m.inner.position m.inner.frames (sym s.inner.shown.item_expected ∙ expected)

  pub item_here : IsItemExpected v b a.began a.before
  item_here = elim a.agrees [
    | inl h ↦ h
    | inr (inl h) ↦ absurd (payload_no_item (string_major v.is_text) v.left (frames_in h.fs) (frames_of m.inner.frames) h.some (sym h.at.state ∙ same))
    | inr (inr h) ↦ absurd (let two : automaton.done ≡ automaton.at_item (frames_of m.inner.frames) = sym h.at.state ∙ same in cc two)
  ]

  -- the same containers
  around : frames_of m.inner.frames ≡ frames_in item_here.fs
  around = let two : automaton.at_item (frames_of m.inner.frames) ≡ automaton.at_item (frames_in item_here.fs) = sym same ∙ item_here.at.state in cc two

  pub item_space : m.depth - m.open_count ≡ b.depth - length item_here.fs
  item_space =
      let s = amid_represents m v b t ms a in
      omega (arith, a.depth, item_here.at.depth, s.inner.shown.open_count, length_frames m.inner.frames, ap length around, frames_length item_here.fs)

  -- some canonical bytes that the input begins with
  module _ (outside : (view_value v.keys).open_keys ≡ 0) (limits : Bounds) (bs : List ℕ) (i : IsCanonicalItem limits v.order bs) (deep : limits.depth ≡ m.depth - m.open_count) (asks : limits.keys ≡ b.keys) (new : MachineView) (keeps : KeepsLimits m new)
      (agrees : (t : List ℕ) (ms : List Mark) (s : Spelling) → Represents m t ms → IsItem (m.depth - m.open_count) s bs → AgreesBetween new (t ++ bs) (ms ++ trace s)) where
    between : AgreesBetween new (t ++ bs) (ms ++ trace i.item)
    between = agrees t ms i.item (amid_represents m v b t ms a) (subst (λ (d : ℕ). IsItem d i.item bs) deep i.is)

    abbrev after : State
    after = state_of new.inner.position new.inner.frames

    leads : after ≡ automaton.close (frames_in item_here.fs)
    leads =
        let s = amid_represents m v b t ms a in
        let fs = frames_in item_here.fs in
        let here : now ≡ automaton.at_item fs = item-state m.inner.position m.inner.frames (sym s.inner.shown.item_expected ∙ expected) ∙ ap automaton.at_item around in
        let space : depth i.item + length fs ≤ m.depth = omega (arith, i.is.within, deep, s.bounded, s.inner.shown.open_count, length_frames m.inner.frames, ap length around) in
        let rest : run m.depth now bs ≡ reached after (trace i.item) = run-rest m.depth t bs now after ms (trace i.item) s.inner.ran (ap (λ (d : ℕ). run d automaton.start (t ++ bs)) (sym keeps.depth) ∙ between.agrees.inner.ran) in
        let whole : run m.depth now bs ≡ reached (automaton.close fs) (trace i.item) =
        ap (λ (q : State). run m.depth q bs) here ∙ ap (run m.depth (automaton.at_item fs)) (sym i.is.bytes_are) ∙ item-run m.depth fs i.item i.is.spelled space in
        let two : reached after (trace i.item) ≡ reached (automaton.close fs) (trace i.item) = sym rest ∙ whole in
        cc two

    joined : t ++ bs ≡ a.before ++ bs
    joined = ap (λ (x : List ℕ). x ++ bs) all

    pub whole_ended : HasEnded v b (events_of new) (a.before ++ bs)
    whole_ended =
        let h = item_here in
        item_ended v b a.began a.before h outside limits bs i (deep ∙ item_space) (events_of new)
        (at-as b (events_of new) (t ++ bs) (a.before ++ bs) (close (frames_in h.fs)) (close (frames_in h.fs)) joined refl (record {
          live = refl;
          limits = h.at.limits;
          depth = keeps.depth ∙ a.depth ∙ h.at.depth;
          bytes = keeps.bytes ∙ a.bytes ∙ h.at.bytes;
          marks = ms ++ trace i.item;
          agrees = between;
          state = leads ∙ close-at (frames_in h.fs);
        }))

    pub amid_whole : (w : OpenItems) → w.order ≡ v.order → Agrees w b (events_of new) (a.before ++ bs) → IsAmid new w b (t ++ bs) (ms ++ trace i.item)
    amid_whole w order there = record {
      began = events_of new;
      before = t ++ bs;
      since = [];
      splits = sym (append-nil (t ++ bs));
      between = between;
      led = λ u ns h. subst (λ (x : List ℕ). Represents new x ns) (sym (append-nil u)) h;
      depth = refl;
      bytes = refl;
      agrees = subst (Agrees w b (events_of new)) (sym joined) there;
      keeps = subst (λ (o : KeyOrder). KeepsToKinds b (strict o) (t ++ bs)) (sym order)
          (subst (KeepsToKinds b (strict v.order)) (sym joined) (item_keeps v b a.began a.before item_here outside limits bs i (deep ∙ item_space) asks a.keeps));
      kind = λ y. tt;
    }
