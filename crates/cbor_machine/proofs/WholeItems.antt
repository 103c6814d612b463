-- A whole item at once.
use Rattle.std.proofs.Common.{◌≡◌, ℕ, ◌+◌, ◌-◌, ◌≤◌, true, List, [], ◌++◌, length, refl, sym, ap, ◌∙◌, arith, append-nil, length-append}
use Rattle.cbor_head.specs.Prelude.{AreBytes, Spelling, spell, IsSpelled, depth, IsItem}
use Rattle.theory_values.proofs.ByteLists.{bytes_join}
use Rattle.theory_automaton.specs.Automaton as automaton
use Rattle.theory_automaton.specs.Automaton.{State, start, close, run, reached}
use Rattle.theory_automaton.specs.{Trace.Mark, Trace.trace, Trace.total}
use Rattle.theory_automaton.proofs.{Forward.forward, Beginnings.reporting_all-reached, Runs.run-on, Runs.tiles, Events.clear-pending, Events.pending}
use Rattle.cbor_machine.specs.State.{state_of, frames_of, is_at_item, IsSettled}
use Rattle.cbor_machine.proofs.MachineStates.{IsSound, meant, settled-clear}
use Rattle.cbor_machine.specs.{Machine.Represents, NextEvent.AgreesBetween, declared.position.Position.TheVariants.Item, MachineView.MachineView}
use Rattle.cbor_machine.{specs.declared.frame.Frame.Frame, specs.declared.position.Position.Position, proofs.Frames.length_frames}

-- the bytes of an item lead to the state after it
pub item-run : (d : ℕ) (fs : List automaton.Frame) (s : Spelling) → IsSpelled s → depth s + length fs ≤ d → run d (automaton.at_item fs) (spell s) ≡ reached (close fs) (trace s)
item-run d fs s h l =
    ap (run d (automaton.at_item fs)) (sym (append-nil (spell s))) ∙ forward d s fs [] h l
    ∙ reporting_all-reached (trace s) [] (close fs) ∙ ap (reached (close fs)) (append-nil (trace s))

pub item-state : (position : Position) (fs : List Frame) → is_at_item position ≡ true → state_of position fs ≡ automaton.at_item (frames_of fs)
item-state Item fs e = refl
item-state _ fs e = absurd (cc e)

-- what a machine represents after an item
pub item-agrees : (old new : MachineView) (t bs : List ℕ) (ms : List Mark) (s : Spelling) → Represents old t ms → IsItem (old.depth - old.open_count) s bs → AreBytes bs → old.item_expected ≡ true
    → new.depth ≡ old.depth → state_of new.inner.position new.inner.frames ≡ close (frames_of old.inner.frames) → IsSettled new.inner.frames new.inner.position → IsSound new → new.open_count ≤ new.depth
    → new.taken ≡ old.taken + length bs → new.taken ≤ new.bytes → new.reported ≡ new.taken → new.refusal ≡ old.refusal → AgreesBetween new (t ++ bs) (ms ++ trace s)
item-agrees old new t bs ms s h i are expected deep state settled sound bounded taken limited reported refusal =
    let q = state_of old.inner.position old.inner.frames in
    let u = state_of new.inner.position new.inner.frames in
    let at : q ≡ automaton.at_item (frames_of old.inner.frames) = item-state old.inner.position old.inner.frames (sym h.inner.shown.item_expected ∙ expected) in
    let space : depth s + length (frames_of old.inner.frames) ≤ old.depth = omega (arith, i.within, h.bounded, h.inner.shown.open_count, length_frames old.inner.frames) in
    let step : run old.depth q bs ≡ reached u (trace s) =
    ap (λ (x : State). run old.depth x bs) at ∙ ap (run old.depth (automaton.at_item (frames_of old.inner.frames))) (sym i.bytes_are)
    ∙ item-run old.depth (frames_of old.inner.frames) s i.spelled space ∙ ap (λ (x : State). reached x (trace s)) (sym state) in
    let ran : run new.depth start (t ++ bs) ≡ reached u (ms ++ trace s) = ap (λ (d : ℕ). run d start (t ++ bs)) deep ∙ run-on old.depth t bs q u ms (trace s) h.inner.ran step in
    let all : new.taken ≡ length (t ++ bs) = taken ∙ ap (λ (n : ℕ). n + length bs) h.taken ∙ sym (length-append t bs) in
    let whole : total (ms ++ trace s) ≡ length (t ++ bs) =
    (let tiled = tiles new.depth (t ++ bs) start u (ms ++ trace s) tt ran in
    let clear = (clear-pending u (settled-clear new.inner.position new.inner.frames settled)).0 in
    let nothing : pending start ≡ 0 = refl in
    omega (arith, tiled, clear, nothing)) in
    record {
      agrees = meant new (t ++ bs) (ms ++ trace s) (bytes_join t bs h.are_bytes are) ran sound bounded all limited (reported ∙ all ∙ sym whole) (refusal ∙ h.live);
      whole = whole;
    }
