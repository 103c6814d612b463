use Rattle.std.proofs.Common.{◌≡◌, ◌∙◌, ◌++◌, ◌+◌, ◌-◌, ℕ, nat_lt, List, ◌∷◌, length, refl, sym, ap, subst}
use Rattle.std.proofs.lemmas.List.{take_rest}
use Rattle.cbor_head.specs.Prelude.{strict, AreBytes}
use Rattle.theory_verdicts.{specs.Path.bytes_before, specs.Stop.IsStopped, proofs.RefusedHere.no_break}
use Rattle.cbor_parser.proofs.Taking.{always, key_asked, place_for, whole_is}
use Rattle.cbor_parser.proofs.strict_rules.StrictRules.take_any.Goals as goal
use Rattle.cbor_parser.{proofs.StrictPlaces.item_taken, proofs.StrictPlaces.head_taken, specs.inner.Cells.StrictCell, specs.inner.Cells.strict_cell}
use Rattle.cbor_parser.specs.{inner.Items.IsFit, inner.Leaves.IsLeaf, inner.StrictRules.Expect, inner.Rules.following, Stack.around, Stack.open_levels}

pub returns-in-Leaf-clause-takes : goal.returns-in-Leaf-clause-takes
returns-in-Leaf-clause-takes c = λ first input h.
    let a = c.args in
    let k = a.stack.now in
    let others = around StrictCell k a.cells.now in
    let used = c.in-Leaf.used in
    let taken = c.in-Leaf.ensures.taken refl refl in
    let leaf : IsLeaf (nat_lt k.height c.from.result) a.rest.now used = taken.1 in
    let place = place_for first.order a.limits c.from.result input k a.cells.now _ h.1 c.requires.cells (sym (c.from.ensures ∙ c.depth.ensures.depth)) in
    let fit : IsFit a.limits k.top.expected a.rest.now = λ kinds expected. c.in-Leaf.ensures.fits tt (always c.is_asked.result (λ none. c.is_asked.ensures.none none (c.keys.ensures ∙ kinds) expected)) in (
      taken.0,
      leaf.inside,
      item_taken first a.self.now a.limits input k.top others a.rest.now h used taken.0 leaf.inside _ (take_rest a.rest.now used) (nat_lt k.height c.from.result) leaf place.fits fit,
    )

pub returns-else-stack-cells-clause-takes : goal.returns-else-stack-cells-clause-takes
returns-else-stack-cells-clause-takes c = λ first input h.
    let a = c.args in
    let k = a.stack.now in
    let others = around StrictCell k a.cells.now in
    let used = c.in-Opens.used in
    let here = c.in-Opens.ensures.taken refl refl in
    let opens = here.opens in
    let place = place_for first.order a.limits c.from.result input k a.cells.now _ h.1 c.requires.cells (sym (c.from.ensures ∙ c.depth.ensures.depth)) in
    let fit : IsFit a.limits k.top.expected a.rest.now = λ kinds expected. c.in-Opens.ensures.fits tt (always c.is_asked.result (λ none. c.is_asked.ensures.none none (c.keys.ensures ∙ kinds) expected)) in
    let at = ap (λ (x : List ℕ). strict_cell c.in-Opens.expected c.in-Opens.left ((length x - length a.rest.now) + used) ∷ open_levels StrictCell k a.cells.now) (sym h.0.its) in (
      opens.some,
      opens.inside,
      subst (λ (x : List StrictCell). Expect first a.self.now a.limits input x (following used a.rest.now)) (at ∙ sym (c.push.ensures.levels ∙ ap (λ (l : StrictCell). l ∷ open_levels StrictCell k a.cells.now) c.strict_cell.ensures))
          (head_taken first a.self.now a.limits input k.top others a.rest.now h used opens.some opens.inside _ (take_rest a.rest.now used) c.in-Opens.expected c.in-Opens.left opens (place.fits here.fits) fit),
    )

pub returns-in-Refused-clause-takes : goal.returns-in-Refused-clause-takes
returns-in-Refused-clause-takes c = λ first input h.
    let a = c.args in
    let k = a.stack.now in
    let cells = a.cells.now in
    let o = first.order in
    let at = length input - length a.rest.now in
    let s = h.1 in
    let whole : input ≡ bytes_before s.ls ++ a.rest.now = whole_is o a.limits input (open_levels StrictCell k cells) at s ∙ ap (λ (x : List ℕ). bytes_before s.ls ++ x) (sym h.0.is) in
    let same : length a.self.now.input.now - length a.rest.now ≡ at = ap (λ (x : List ℕ). length x - length a.rest.now) h.0.its in
    subst (λ (x : List ℕ). IsStopped (strict o) a.limits x c.in-Refused.refusal) (sym whole)
    (c.in-Refused.ensures.refused (strict o) (o, refl) a.limits s.ls s.clean (λ b. absurd (no_break o a.limits.depth s.ls s.clean b)) s.keeps
    (key_asked o a.limits input k.top (around StrictCell k cells) at s c.is_asked.result (λ e. let b = c.is_asked.ensures.both e in (sym c.keys.ensures ∙ b.0, b.1)) (λ e kinds expected. c.is_asked.ensures.none e (c.keys.ensures ∙ kinds) expected))
    (let p = place_for o a.limits c.from.result input k cells at s c.requires.cells (sym (c.from.ensures ∙ c.depth.ensures.depth)) in record { here = same ∙ p.here; fits = p.fits; full = p.full })
    (subst AreBytes whole h.0.are))
