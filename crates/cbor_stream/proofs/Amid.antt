-- Where a step begins: what came since the last event, as what a reader of events has read.
use Rattle.std.proofs.Common.{◌≡◌, ℕ, Some, List, [], ◌++◌, refl, sym, ap, ◌∙◌, subst, arith, append-nil}
use Rattle.std.proofs.lemmas.List.{nil_from_length}
use Rattle.cbor_head.specs.Prelude.{Bounds, AreBytes}
use Rattle.theory_values.proofs.ByteLists.{bytes_back}
use Rattle.theory_automaton.specs.Automaton.{State, start, run, reached}
use Rattle.theory_automaton.{specs.Trace.Mark, proofs.Taking.IsClear, proofs.Runs.tiles, proofs.Events.clear-pending}
use Rattle.cbor_machine.specs.{State.state_of, NextEvent.AgreesBetween, MachineView.MachineView, Machine.Represents, Calls.HasRead}
use Rattle.cbor_machine.proofs.NextEvents.{whole-clear, run-rest}
use Rattle.cbor_strict.specs.declared.open_items.OpenItems.{OpenItems}
use Rattle.cbor_stream.specs.inner.Amid.{IsAmid}

module _ (m : MachineView) (v : OpenItems) (b : Bounds) (t : List ℕ) (ms : List Mark) (a : IsAmid m v b t ms) where
  -- the machine represents all that was taken
  pub amid_represents : Represents m t ms
  amid_represents = subst (λ (x : List ℕ). Represents m x ms) (sym a.splits) (a.led a.before ms a.between.agrees)

  pub amid_bytes : AreBytes a.since
  amid_bytes = bytes_back a.before a.since (subst AreBytes a.splits amid_represents.are_bytes)

  -- what a reader that held all of it would have read
  abbrev pub has_read : (held : List ℕ) (u : List ℕ) (ns : List Mark) → AgreesBetween a.began.machine u ns → HasRead (Some (a.since ++ held)) (Some held) m u ns
  has_read held u ns h = record { bytes = a.since; consumed = refl; agrees = a.led u ns h.agrees }

  abbrev d : ℕ
  d = a.began.machine.depth

  abbrev q : State
  q = state_of a.began.machine.inner.position a.began.machine.inner.frames

  abbrev u : State
  u = state_of m.inner.position m.inner.frames

  -- it reported nothing
  pub silent : run d q a.since ≡ reached u []
  silent =
      let there = (a.led a.before ms a.between.agrees).inner.ran in
      run-rest d a.before a.since q u ms [] a.between.agrees.inner.ran
      (subst (λ (n : ℕ). run n start (a.before ++ a.since) ≡ reached u ms) a.depth there ∙ ap (reached u) (sym (append-nil ms)))

  pub began_clear : IsClear q
  began_clear = whole-clear d a.before q ms a.between.agrees.inner.ran a.between.whole

  -- where a head is to begin nothing came
  pub nothing_since : IsClear u → a.since ≡ []
  nothing_since clear =
      let from = clear-pending q began_clear in
      let to = clear-pending u clear in
      nil_from_length a.since (omega (arith, tiles d a.since q u [] from.1 silent, from.0, to.0))
