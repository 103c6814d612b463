-- The kind of a key, by its first byte, wherever the bytes are cut.
use Rattle.std.proofs.Common.{◌≡◌, ℕ, ◌/◌, ◌<◌, ◌⊎◌, Bool, true, Some, List, [], ◌∷◌, ◌++◌, length, sym, ap, ◌∙◌, subst, inl, inr, arith, append-nil, append_assoc, length-append, IsTrue}
use Rattle.cbor_head.specs.{declared.event.EventKind.EventKind, Prelude.Bounds, Prelude.AreBytes, declared.width.Width.Width, declared.reason.Refusal.Refusal}
use Rattle.theory_values.specs.FirstBytes.{is_basic}
use Rattle.theory_automaton.{specs.Automaton.run, specs.Automaton.reached, specs.Trace.Mark, specs.Bytes.IsEventBytes, proofs.Events.no-silent-break}
use Rattle.cbor_machine.specs.declared.step.Out.TheVariants as outs
use Rattle.cbor_machine.specs.{State.state_of, Steps.Ran, Steps.IsStep, MachineView.MachineView, NextEvent.AgreesBetween, NextKey.IsBasicKind}
use Rattle.cbor_machine.proofs.NextEvents.{whole-clear}
use Rattle.cbor_events.proofs.Keys.{basic-kind}
use Rattle.theory_verdicts.specs.Kinds.{HasBasicPrefix}
use Rattle.cbor_strict.specs.declared.open_items.OpenItems.{OpenItems}
use Rattle.cbor_stream.specs.inner.Amid.{IsAmid, asks_of}

-- ---- how what is taken begins

-- the first byte of a key; if it was taken, it is that of an integer, of a text, or a break
pub record IsFirst (Taken : Type 0) (since bs : List ℕ) : Type 0 where
  pub none : since ≡ []
  pub byte : ℕ
  pub alone : bs ≡ byte ∷ []
  pub basic : Taken → IsTrue (is_basic (byte / 32)) ⊎ (byte ≡ 0xff)

-- where the kind of a key is judged, it was, or is now
abbrev pub HasStart : Type 0 → Bool → List ℕ → List ℕ → Type 0
HasStart Taken asked since bs = asked ≡ true → (0 < length since) ⊎ (bs ≡ []) ⊎ IsFirst Taken since bs

prefix_so : (Taken : Type 0) (since bs : List ℕ) → (IsFirst Taken since bs → Taken) → HasBasicPrefix since → (0 < length since) ⊎ (bs ≡ []) ⊎ IsFirst Taken since bs → ((f : IsFirst Taken since bs) → f.byte ≡ 0xff → ⊥) → HasBasicPrefix (since ++ bs)
prefix_so Taken (y ∷ ys) bs taken basic start item = basic
prefix_so Taken [] bs taken basic (inl l) item = absurd (omega (arith, l))
prefix_so Taken [] bs taken basic (inr (inl e)) item = subst HasBasicPrefix (sym e) tt
prefix_so Taken [] bs taken basic (inr (inr f)) item = subst HasBasicPrefix (sym f.alone) (elim (f.basic (taken f)) [ inl y ↦ y | inr y ↦ absurd (item f y) ])

first_of : (xs more : List ℕ) (first : ℕ) (rest : List ℕ) → HasBasicPrefix xs → 0 < length xs → xs ++ more ≡ first ∷ rest → IsTrue (is_basic (first / 32))
first_of [] more first rest basic some e = absurd (omega (arith, some))
first_of (x ∷ xs) more first rest basic some e = let same : x ≡ first = cc e in subst (λ (n : ℕ). IsTrue (is_basic (n / 32))) same basic

-- an event that begins so
pub kind_so : (ns : List Mark) (w : Width) (kind : EventKind) (since bs : List ℕ) → AreBytes (since ++ bs) → IsEventBytes ns w kind (since ++ bs) → 0 < length bs → HasBasicPrefix since → (0 < length since) ⊎ (bs ≡ []) ⊎ IsFirst (Unit {0}) since bs → IsBasicKind kind
kind_so ns w kind (y ∷ ys) bs are is some basic start = basic-kind ns w kind y (ys ++ bs) are.0 is (inl basic)
kind_so ns w kind [] bs are is some basic (inl l) = absurd (omega (arith, l))
kind_so ns w kind [] bs are is some basic (inr (inl e)) = absurd (omega (arith, some, ap length e))
kind_so ns w kind [] bs are is some basic (inr (inr f)) = basic-kind ns w kind f.byte [] (subst AreBytes f.alone are).0 (subst (IsEventBytes ns w kind) f.alone is) (f.basic tt)

-- ---- of a machine

module _ (m new : MachineView) (v : OpenItems) (b : Bounds) (t bs : List ℕ) (ms : List Mark) (a : IsAmid m v b t ms) where
  -- a break that is taken leads to an event
  item_so : (Taken : Type 0) (u : List ℕ) (ns : List Mark) → AgreesBetween a.began.machine u ns → Ran m new bs [] → (f : IsFirst Taken a.since bs) → f.byte ≡ 0xff → ⊥
  item_so Taken u ns h ran f e =
      let q = state_of m.inner.position m.inner.frames in
      let s = a.led u ns h.agrees in
      let whole = h.whole ∙ ap length (sym (append-nil u) ∙ ap (λ (x : List ℕ). u ++ x) (sym f.none)) in
      no-silent-break m.depth q (state_of new.inner.position new.inner.frames) (whole-clear m.depth (u ++ a.since) q ns s.inner.ran whole)
      (subst (λ (x : List ℕ). run m.depth q x ≡ reached (state_of new.inner.position new.inner.frames) []) (f.alone ∙ ap (λ (n : ℕ). n ∷ []) e) ran.ran)

  -- more is needed
  pub kind_goes_on : Ran m new bs [] → HasStart (Unit {0}) (asks_of b.keys v) a.since bs → asks_of b.keys v ≡ true → HasBasicPrefix (a.since ++ bs)
  kind_goes_on ran start asked = prefix_so (Unit {0}) a.since bs (λ f. tt) (a.kind asked) (start asked) (item_so (Unit {0}) a.before ms a.between ran)

  -- it is refused
  pub after_so : (f : Refusal) → IsStep (outs.Refused f) m new bs → HasStart (m.taken < f.place) (asks_of b.keys v) a.since bs → asks_of b.keys v ≡ true → (u : List ℕ) (ns : List Mark) → AgreesBetween a.began.machine u ns → (more : List ℕ)
      → length u < f.place → (first : ℕ) (rest : List ℕ) → Some (a.since ++ (bs ++ more)) ≡ Some (first ∷ rest) → IsTrue (is_basic (first / 32))
  after_so f step start asked u ns h more following first rest e =
      let taken = (a.led u ns h.agrees).taken in
      let size = length-append u a.since in
      let both = length-append a.since bs in
      let some : 0 < length (a.since ++ bs) = elim step.1 [
        | inl x ↦ omega (arith, following, ap (λ (y : Refusal). y.place) x.2, x.1, x.0.taken, taken, size, both)
        | inr x ↦ omega (arith, ap length x.splits, length-append x.prefix (x.byte ∷ []), both)
      ] in
      let item : (k : IsFirst (m.taken < f.place) a.since bs) → k.byte ≡ 0xff → ⊥ = λ k y. elim step.1 [
        | inl x ↦ item_so (m.taken < f.place) u ns h x.0 k y
        | inr x ↦ omega (arith, following, ap (λ (z : Refusal). z.place) x.is, ap length x.splits, length-append x.prefix (x.byte ∷ []), ap length k.alone, ap length k.none, taken, size)
      ] in
      let whole : a.since ++ (bs ++ more) ≡ first ∷ rest = cc e in
      let was : IsFirst (m.taken < f.place) a.since bs → m.taken < f.place = λ k. omega (arith, following, taken, size, ap length k.none) in
      first_of (a.since ++ bs) more first rest (prefix_so (m.taken < f.place) a.since bs was (a.kind asked) (start asked) item) some (append_assoc a.since bs more ∙ whole)
