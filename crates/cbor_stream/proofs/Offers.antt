-- What is given to the machine: the first byte of a key whose kind is judged alone, or what is no such byte.
use Rattle.std.proofs.Common.{◌≡◌, ℕ, ◌+◌, ◌-◌, ◌<◌, ◌≤◌, ◌⊎◌, Bool, true, false, true≢false, Option, List, [], ◌∷◌, ◌++◌, length, take, drop, min, refl, sym, ap, ◌∙◌, subst, inl, inr, arith, append_assoc, length-append, length-take, take-take}
use Rattle.std.proofs.lemmas.Bool.{cases_lt}
use Rattle.cbor_head.specs.{declared.event.Event.Event, Prelude.Bounds, Prelude.spell, declared.keys.Keys.Keys, declared.reason.Refusal.Refusal}
use Rattle.theory_automaton.specs.Automaton as automaton
use Rattle.theory_automaton.specs.{Automaton.reached, Trace.Mark, Trace.total, Marks.marks_of, Bytes.IsEventBytes}
use Rattle.theory_automaton.proofs.Taking.{IsClear}
use Rattle.cbor_machine.specs.State.{state_of, is_at_item, wanted_at}
use Rattle.cbor_machine.specs.declared.frame.Frame as frames
use Rattle.cbor_machine.specs.declared.step.Out.TheVariants as outs
use Rattle.cbor_machine.specs.Machine.{Represents, IsComplete, IsGiven, IsDone, wanted, wanted_within}
use Rattle.cbor_machine.specs.{declared.position.Position.TheVariants.Item, declared.position.Position.TheVariants.Done, NextEvent.ItemEventsView}
use Rattle.cbor_machine.{specs.MachineView.MachineView, specs.declared.position.Position.Position, specs.declared.step.Out.Out, proofs.Positions.position-done}
use Rattle.cbor_machine.proofs.Feeding.{rest_from, split-rest}
use Rattle.cbor_strict.specs.{inner.OpenItems.frames_in, inner.OpenItems.Agrees, declared.open_items.OpenItems.OpenItems}
use Rattle.cbor_strict.proofs.StrictStops.{IsAsked}
use Rattle.cbor_stream.specs.inner.Amid.{IsAmid, IsOffered, IsBasicFirst, IsRefusedNow, IsStepResult, asks_of}
use Rattle.cbor_stream.proofs.Amid.{amid_represents, silent, nothing_since}
use Rattle.cbor_stream.proofs.{KeyKinds.HasStart, Asking.asked_so}

-- ---- one byte

-- it, and what is known of it
pub record IsOne (xs : List ℕ) : Type 0 where
  pub byte : ℕ
  pub alone : xs ≡ byte ∷ []

pub one_of : (xs : List ℕ) → length xs ≡ 1 → IsOne xs
one_of [] l = absurd (omega (arith, l))
one_of (x ∷ []) l = record { byte = x; alone = refl }
one_of (x ∷ y ∷ xs) l = absurd (omega (arith, l))

pub all_of_one : (used : ℕ) (xs : List ℕ) → length xs ≡ 1 → used ≡ 1 → take used xs ≡ xs
all_of_one used [] l e = absurd (omega (arith, l))
all_of_one used (x ∷ []) l e = ap (λ (n : ℕ). take n (x ∷ [])) e
all_of_one used (x ∷ y ∷ xs) l e = absurd (omega (arith, l))

pub start_of : (Taken : Type 0) (is_key : Bool) (b : Bounds) (v : OpenItems) (since input : List ℕ) (used : ℕ) → IsOffered is_key b v since used → (is_key ≡ true → (length input ≡ 1) × (used ≡ 1)) → (is_key ≡ true → Taken → IsBasicFirst input)
    → HasStart Taken (asks_of b.keys v) since (take used input)
start_of Taken true b v since input used offered one basic = λ y.
    let i = one refl in
    let x = one_of input i.0 in
    inr (inr (record { none = offered.0; byte = x.byte; alone = all_of_one used input i.0 i.1 ∙ x.alone; basic = λ k. subst IsBasicFirst x.alone (basic refl k) }))
start_of Taken false b v since input used offered one basic = λ y. elim (offered y) [ inl l ↦ inl l | inr z ↦ inr (inl (ap (λ (n : ℕ). take n input) z)) ]

-- ---- whether it is asked for

agree : (v : OpenItems) (b : Bounds) (e : ItemEventsView) (t : List ℕ) (keys : Keys) (x y : Bool) → IsAsked x keys v → IsAsked y keys v → Agrees v b e t → x ≡ true → y ≡ true
agree v b e t keys x y ax ay (inl h) k = (ay.expected h.fs [] h.kept h.none).1 ((ax.expected h.fs [] h.kept h.none).0 k)
agree v b e t keys x y ax ay (inr (inl h)) k = absurd (true≢false (sym k ∙ ax.payload h.some))
agree v b e t keys x y ax ay (inr (inr h)) k = absurd ((ax.expected [] (spell h.item) h.kept h.none).0 k).1

at_item_clear : (position : Position) (fs : List frames.Frame) → is_at_item position ≡ true → IsClear (state_of position fs)
at_item_clear Item fs e = tt
at_item_clear _ fs e = absurd (cc e)

item_position : (position : Position) (fs : List frames.Frame) (cs : List automaton.Frame) → state_of position fs ≡ automaton.at_item cs → position ≡ Item
item_position Item fs cs e = refl
item_position _ fs cs e = absurd (cc e)

module _ (m : MachineView) (v : OpenItems) (b : Bounds) (t : List ℕ) (ms : List Mark) (a : IsAmid m v b t ms) where
  pub item_nothing : m.item_expected ≡ true → a.since ≡ []
  item_nothing e =
      let shown = (amid_represents m v b t ms a).inner.shown in
      nothing_since m v b t ms a (at_item_clear m.inner.position m.inner.frames (sym shown.item_expected ∙ e))

  -- nothing came where it is complete
  pub complete_nothing : IsComplete m → a.since ≡ []
  complete_nothing c =
      let shown = (amid_represents m v b t ms a).inner.shown in
      let at_end : m.inner.position ≡ Done = position-done m.inner.position (sym shown.complete ∙ c.0) in
      nothing_since m v b t ms a (subst (λ (p : Position). IsClear (state_of p m.inner.frames)) (sym at_end) tt)

  pub asked_there : (x : Bool) → IsAsked x b.keys v → x ≡ true → asks_of b.keys v ≡ true
  asked_there x h e = agree v b a.began a.before b.keys x (asks_of b.keys v) h (asked_so b.keys v) a.agrees e

  pub asked_here : (x : Bool) → IsAsked x b.keys v → asks_of b.keys v ≡ true → x ≡ true
  asked_here x h e = agree v b a.began a.before b.keys (asks_of b.keys v) x (asked_so b.keys v) h a.agrees e

  -- a key is expected, and nothing of it came: its head is
  head_expected : asks_of b.keys v ≡ true → a.since ≡ [] → m.inner.position ≡ Item
  head_expected asked none = go a.agrees
    where
      same : reached (state_of a.began.machine.inner.position a.began.machine.inner.frames) [] ≡ reached (state_of m.inner.position m.inner.frames) []
      same = subst (λ (x : List ℕ). automaton.run a.began.machine.depth (state_of a.began.machine.inner.position a.began.machine.inner.frames) x ≡ reached (state_of m.inner.position m.inner.frames) []) none (silent m v b t ms a)

      go : Agrees v b a.began a.before → m.inner.position ≡ Item
      go (inl h) =
          let states : state_of a.began.machine.inner.position a.began.machine.inner.frames ≡ state_of m.inner.position m.inner.frames = cc same in
          item_position m.inner.position m.inner.frames (frames_in h.fs) (sym states ∙ h.at.state)
      go (inr (inl h)) = absurd (true≢false (sym asked ∙ (asked_so b.keys v).payload h.some))
      go (inr (inr h)) = absurd (((asked_so b.keys v).expected [] (spell h.item) h.kept h.none).0 asked).1

  -- no byte is taken there if the machine expects no head
  pub no_head : (used : ℕ) → ((m.item_expected ≡ true) × (0 < wanted m) → ⊥) → m.taken + used ≤ m.bytes → IsOffered false b v a.since used
  no_head used not fits asked = go (a.since) refl
    where
      go : (xs : List ℕ) → a.since ≡ xs → (0 < length a.since) ⊎ (used ≡ 0)
      go (x ∷ xs) e = inl (omega (arith, ap length e))
      go [] e =
          let s = amid_represents m v b t ms a in
          let item = head_expected asked e in
          let expected : m.expected ≡ 1 = s.inner.shown.expected ∙ ap wanted_at item in
          let wants : wanted m ≡ min (m.bytes - m.taken) m.expected = ap (λ (r : Option Refusal). wanted_within r (min (m.bytes - m.taken) m.expected)) s.live in
          elim (cases_lt m.taken (m.taken + used)) [
            | inl l ↦ absurd (not (s.inner.shown.item_expected ∙ ap is_at_item item, omega (arith, wants, expected, l, fits)))
            | inr l ↦ inr (omega (arith, l))
          ]

-- ---- one after another

given_joined : (e : Event) (m : MachineView) (t xs ys : List ℕ) (ms : List Mark) → IsGiven e m (t ++ xs) ys ms → IsGiven e m t (xs ++ ys) ms
given_joined e m t xs ys ms g =
    let same = append_assoc t xs ys in
    record {
      agrees = subst (λ (x : List ℕ). Represents m x (ms ++ marks_of e.width e.kind)) same g.agrees;
      place = g.place;
      ends = subst (λ (x : List ℕ). total (ms ++ marks_of e.width e.kind) ≡ length x) same g.ends;
      bytes = subst (λ (x : List ℕ). IsEventBytes ms e.width e.kind (drop e.place x)) same g.bytes;
    }

pub result_joined : (out : Out) (m : MachineView) (v : OpenItems) (b : Bounds) (t xs ys : List ℕ) (ms : List Mark) → (IsDone out → ⊥) → IsStepResult out m v b (t ++ xs) ys ms → IsStepResult out m v b t (xs ++ ys) ms
result_joined outs.More m v b t xs ys ms going h = subst (λ (x : List ℕ). IsAmid m v b x ms) (append_assoc t xs ys) h
result_joined (outs.Event e) m v b t xs ys ms going h = (given_joined e m t xs ys ms h.0, subst (λ (x : List ℕ). IsAmid m v b x (ms ++ marks_of e.width e.kind)) (append_assoc t xs ys) h.1)
result_joined outs.Done m v b t xs ys ms going h = absurd (going tt)
result_joined (outs.Refused f) m v b t xs ys ms going h = subst (λ (x : List ℕ). IsRefusedNow f m v b x ms) (append_assoc t xs ys) h

-- what came since the last event, as each that says so has it
pub since_longer : (m n : MachineView) (v w : OpenItems) (b : Bounds) (t xs : List ℕ) (ms : List Mark) (a : IsAmid m v b t ms) (c : IsAmid n w b (t ++ xs) ms) → 0 < length xs → 0 < length c.since
since_longer m n v w b t xs ms a c some =
    omega (arith, some, ap length a.splits, ap length c.splits, length-append a.before a.since, length-append c.before c.since, length-append t xs, a.between.whole, c.between.whole)

pub first_part : (u : ℕ) (xs : List ℕ) → u ≤ length (take 1 xs) → take u (take 1 xs) ≡ take u xs
first_part u xs h = take-take u 1 xs (omega (arith, h, length-take 1 xs))

pub parts_joined : (u w : ℕ) (xs : List ℕ) → u ≡ 1 → take u (take 1 xs) ++ take w (rest_from 1 xs) ≡ take (u + w) xs
parts_joined u w xs e =
    ap (λ (n : ℕ). take n (take 1 xs) ++ take w (rest_from 1 xs)) e ∙ ap (λ (y : List ℕ). y ++ take w (rest_from 1 xs)) (take-take 1 1 xs (omega arith)) ∙ split-rest 1 w xs ∙ ap (λ (n : ℕ). take (n + w) xs) (sym e)
