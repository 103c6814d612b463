use Rattle.std.proofs.Common.{◌++◌, ◌∙◌, refl, subst}
use Rattle.cbor_head.specs.Prelude.{plain}
use Rattle.theory_verdicts.proofs.RefusedAfter.{stopped_from}
use Rattle.cbor_tree_reader.proofs.PlainSteps.{takes-none, takes-on, takes-farther, takes-all}
use Rattle.cbor_tree_reader.proofs.item_reader.read_parts.Goals as goal
use Rattle.cbor_tree_reader.specs.inner.ItemPrefix.{TakesNext}

pub parts-init : goal.parts-init
parts-init g c = (
  λ b t d. takes-none c.args.items.now b c.args.events.now t _ d,
  refl,
)

pub next_part-requires : goal.next_part-requires
next_part-requires g c =
    let s = c.requires in
    let h = c.parts.invariant.0 s.b s.t s.expected in
    record { b = s.b; t = s.t ++ h.bytes; expected = h.expected }

pub parts-smaller : goal.parts-smaller
parts-smaller g c =
    let s = c.requires in
    let h = c.parts.invariant.0 s.b s.t s.expected in
    takes-farther c.parts.items c.next_part.new.items s.b c.parts.events c.next_part.new.events s.t _ _ _ h
    (subst (λ m. TakesNext m c.next_part.new.items s.b c.next_part.new.events (s.t ++ h.bytes) (g.R.Read.remaining c.parts.reader) (g.R.Read.remaining c.next_part.new.reader)) c.in-Ok-true.field-0-test (c.in-Ok-true.ensures.part s.b (s.t ++ h.bytes) h.expected))

pub parts-preserved : goal.parts-preserved
parts-preserved g c = (
  λ b t d.
      let h = c.parts.invariant.0 b t d in
      takes-on c.parts.items c.next_part.new.items b c.parts.events c.next_part.new.events t _ _ _ h
      (subst (λ m. TakesNext m c.next_part.new.items b c.next_part.new.events (t ++ h.bytes) (g.R.Read.remaining c.parts.reader) (g.R.Read.remaining c.next_part.new.reader)) c.in-Ok-true.field-0-test (c.in-Ok-true.ensures.part b (t ++ h.bytes) h.expected)),
  c.in-Ok-true.ensures.kept ∙ c.parts.invariant.1,
)

pub returns-in-Ok-false-clause-parts : goal.returns-in-Ok-false-clause-parts
returns-in-Ok-false-clause-parts g c = λ b t d.
    let h = c.parts.invariant.0 b t d in
    takes-all c.parts.items c.next_part.new.items b c.parts.events c.next_part.new.events t _ _ _ h
    (subst (λ m. TakesNext m c.next_part.new.items b c.next_part.new.events (t ++ h.bytes) (g.R.Read.remaining c.parts.reader) (g.R.Read.remaining c.next_part.new.reader)) c.in-Ok-false.field-0-test (c.in-Ok-false.ensures.part b (t ++ h.bytes) h.expected))

pub returns-in-Err-clause-parts : goal.returns-in-Err-clause-parts
returns-in-Err-clause-parts g c = λ b t d.
    let h = c.parts.invariant.0 b t d in
    stopped_from plain b c.in-Err.refusal t h.bytes _ _ _ h.consumed (c.in-Err.ensures.part b (t ++ h.bytes) h.expected)
