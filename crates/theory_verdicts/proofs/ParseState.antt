-- Between two events: how many containers are open, and that few bytes are taken.
use Rattle.std.proofs.Common.{◌≡◌, ◌↔◌, ℕ, zero, ◌^◌, ◌<◌, ◌≤◌, List, ◌∷◌, length, refl, sym, ap, ◌∙◌, arith}
use Rattle.cbor_head.specs.Prelude.{Bounds}
use Rattle.theory_automaton.specs.Automaton as automaton
use Rattle.theory_automaton.proofs.Opens.{opens as opens-stack}
use Rattle.theory_automaton.specs.{Trace.Mark, Automaton.State, Automaton.reached}
use Rattle.cbor_machine.specs.declared.frame.Frame as frames
use Rattle.cbor_machine.specs.declared.position.Position.TheVariants as positions
use Rattle.cbor_machine.specs.{State.state_of, declared.position.Position.Position, MachineView.MachineView, NextEvent.ItemEventsView, NextEvent.AgreesBetween}
use Rattle.cbor_machine.{specs.Machine.IsComplete, proofs.Positions.position-done}
use Rattle.theory_verdicts.specs.Place.{Container, counted, Place, close, done, open_at}
use Rattle.theory_verdicts.{specs.Reading.state_at, specs.Reading.IsAt, proofs.Places.open-frames, proofs.Places.one-place}

pub fewer-open : (fs : List Container) → length (open_at (close fs)) ≤ length fs
fewer-open (counted zero ∷ fs) = omega (arith, fewer-open fs)
fewer-open _ = omega arith

-- few bytes are taken
pub short-at : (b : Bounds) (e : ItemEventsView) (t : List ℕ) (q : Place) → IsAt b e t q → length t < 2 ^ 64
short-at b e t q a = omega (arith, a.agrees.agrees.taken, a.agrees.agrees.limited, a.bytes, a.limits.1)

-- ---- after the whole item

pub done_position : (position : Position) (fr : List frames.Frame) → state_of position fr ≡ automaton.done → position ≡ positions.Done
done_position positions.Done fr e = refl
done_position _ fr e = absurd (cc e)

-- if the inner state is known, as many containers are open as the automaton has frames, and none after the whole item
module _ (m : MachineView) (t : List ℕ) (ms : List Mark) (q : Place) (s : AgreesBetween m t ms) (state : state_of m.inner.position m.inner.frames ≡ state_at q) where
  pub open-there : m.open_count ≡ length (open_at q)
  open-there =
      let begins = s.agrees.beginning in
      s.agrees.counted begins.0 begins.1 begins.2
      ∙ sym (opens-stack m.depth begins.0 t begins.1 (state_at q) ms begins.2 (s.agrees.inner.ran ∙ ap (λ (u : State). reached u ms) state)) ∙ open-frames q

  pub complete-there : IsComplete m ↔ (q ≡ done)
  complete-there = (
    (λ c. one-place q done (sym state ∙ ap (λ (p : Position). state_of p m.inner.frames) (position-done m.inner.position (sym s.agrees.inner.shown.complete ∙ c.0)))),
    (λ e. (rw (done_position m.inner.position m.inner.frames (state ∙ ap state_at e)) at s.agrees.inner.shown.complete, s.agrees.live)),
  )

pub open-is : (b : Bounds) (e : ItemEventsView) (t : List ℕ) (q : Place) → IsAt b e t q → e.machine.open_count ≡ length (open_at q)
open-is b e t q a = open-there e.machine t a.marks q a.agrees a.state

pub is-complete : (b : Bounds) (e : ItemEventsView) (t : List ℕ) → IsAt b e t done → IsComplete e.machine
is-complete b e t a = (complete-there e.machine t a.marks done a.agrees a.state).1 refl

pub is-done : (b : Bounds) (e : ItemEventsView) (t : List ℕ) (q : Place) → IsAt b e t q → IsComplete e.machine → q ≡ done
is-done b e t q a = (complete-there e.machine t a.marks q a.agrees a.state).0
