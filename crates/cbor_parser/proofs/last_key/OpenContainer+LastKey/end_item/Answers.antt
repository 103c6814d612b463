use Rattle.std.proofs.Common.{◌≡◌, Bool, Some, None, ◌∙◌, sym, ap, subst}
use Rattle.cbor_parser.proofs.CellSteps.{item_goes, value_goes, key_goes, item_ends, value_ends, key_goes_on, key_out_of_order}
use Rattle.cbor_parser.proofs.last_key.OpenContainer+LastKey.end_item.Goals as goal
use Rattle.cbor_parser.proofs.last_key.OpenContainer+LastKey.end_item.Goals.{in-Key+else-not-take_key, in-Value, in-Item}
use Rattle.cbor_parser.specs.inner.{OpenContainer.after, Cells.StrictCell, Cells.TakesKey}

pub returns-then-not-take_key : goal.returns-then-not-take_key
returns-then-not-take_key c = λ limits cs h.
    let a = c.args in
    key_out_of_order a.order limits a.input.now a.at a.self.now (record a.self.now { kept = c.take_key.new.self }) cs c.in-Key.is (subst (λ (b : Bool). TakesKey b a.order a.input.now a.at a.self.now.kept c.take_key.new.self) c.if-not-take_key.true c.take_key.ensures) h

pub returns-then-advance : goal.returns-then-advance
returns-then-advance c = λ limits cs h.
    let a = c.args in
    let new = c.advance.new.self in
    let more : after c.match-self.self ≡ Some new = c.advance.ensures.more c.if-advance.true in
    elim c.match-self.branch [
      | in-Key+else-not-take_key w ↦ key_goes a.order limits a.input.now a.at a.self.now new cs h w.take_key.new.self w.in-Key.is
          (subst (λ (b : Bool). TakesKey b a.order a.input.now a.at a.self.now.kept w.take_key.new.self) w.if-not-take_key.false w.take_key.ensures) (ap (λ (x : StrictCell). after x) (sym w.self-is) ∙ more)
      | in-Value w ↦ value_goes a.order limits a.input.now a.at a.self.now new cs h w.in-Value.is (ap (λ (x : StrictCell). after x) (sym w.self-is) ∙ more)
      | in-Item w ↦ item_goes a.order limits a.input.now a.at a.self.now new cs h w.in-Item.is (ap (λ (x : StrictCell). after x) (sym w.self-is) ∙ more)
    ]

pub returns-else-advance : goal.returns-else-advance
returns-else-advance c = λ limits cs h.
    let a = c.args in
    let none : after c.match-self.self ≡ None = c.advance.ensures.full c.if-advance.false in
    elim c.match-self.branch [
      | in-Key+else-not-take_key w ↦ absurd (key_goes_on a.order limits a.input.now a.at a.self.now cs h w.take_key.new.self w.in-Key.is (ap (λ (x : StrictCell). after x) (sym w.self-is) ∙ none))
      | in-Value w ↦ value_ends a.order limits a.input.now a.at a.self.now cs h _ w.in-Value.is (ap (λ (x : StrictCell). after x) (sym w.self-is) ∙ none)
      | in-Item w ↦ item_ends a.order limits a.input.now a.at a.self.now cs h w.in-Item.is (ap (λ (x : StrictCell). after x) (sym w.self-is) ∙ none)
    ]
