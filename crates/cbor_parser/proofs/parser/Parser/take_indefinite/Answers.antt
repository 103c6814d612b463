use Rattle.std.proofs.Common.{◌≡◌, ℕ, [], ◌∷◌, length, sym, ap, ◌∙◌, subst, arith, refl}
use Rattle.cbor_parser.proofs.parser.Parser.take_indefinite.Goals as goal
use Rattle.cbor_parser.proofs.GivenItems.{array-opens, map-opens, as-used, follows}
use Rattle.cbor_parser.specs.{inner.Parser.IsExpected, inner.Parser.HasFilled, inner.Parts.HasBroken, inner.OpenContainer.Cell, Stack.around, Stack.open_levels}
use Rattle.cbor_parser.proofs.{Beginnings.container-left, GivenEnds.break-ends, parser.Parser.take_indefinite.Goals.Then-may_break}

pub open-requires : goal.open-requires
open-requires g c =
    let a = c.args in
    let opens = array-opens c.indefinite.result a.rest.now a.following.now (c.requires.begins ∙ ap (λ (x : ℕ). x ∷ a.following.now) c.in-159.is) c.indefinite.ensures in
    λ n. ((refl, tt), (tt, (c.requires.cells, (opens, c.requires.expected))))

pub open-requires-in-191 : goal.open-requires-in-191
open-requires-in-191 g c =
    let a = c.args in
    let opens = map-opens c.indefinite-in-191.result a.rest.now a.following.now (c.requires.begins ∙ ap (λ (x : ℕ). x ∷ a.following.now) c.in-191.is) c.indefinite-in-191.ensures in
    λ n. ((refl, tt), (tt, (c.requires.cells, (opens, c.requires.expected))))

-- it is a break
is-break : (g : _) (c : Then-may_break g) → c.args.rest.now ≡ 0xff ∷ c.args.following.now
is-break g c = c.requires.begins ∙ ap (λ (x : ℕ). x ∷ c.args.following.now) c.in-255.is

pub returns-in-255-clause-takes : goal.returns-in-255-clause-takes
returns-in-255-clause-takes g c = λ start input expected.
    let a = c.args in
    let S = g.row.S.Denot in
    let K = g.S.Sink in
    let k = a.stack.now in
    let cs = open_levels Cell k a.cells.now in
    let may = c.may_break.ensures.only c.if-may_break.true in
    let is = is-break g (goal.at.returns-in-255-clause-takes g c).Then-may_break in
    let size : length a.rest.now ≡ length (0xff ∷ a.following.now) = ap length is in
    as-used (HasFilled S K.agrees K.trusts start a.depth input cs a.self.now.sink) a.rest.now (0xff ∷ []) a.following.now 1 is (omega (arith, size))
    (omega (arith, size), break-ends _ _ _ _ _ _ k.top (around Cell k a.cells.now) _ a.following.now (subst (IsExpected S K.agrees K.trusts start a.depth input cs a.self.now.sink) is expected) may.0 may.1)

pub returns-in-255-clause-prefix : goal.returns-in-255-clause-prefix
returns-in-255-clause-prefix g c =
    let a = c.args in
    let may = c.may_break.ensures.only c.if-may_break.true in
    let is = is-break g (goal.at.returns-in-255-clause-prefix g c).Then-may_break in
    subst (HasBroken a.stack.now.top a.rest.now) (sym (follows a.rest.now (0xff ∷ []) a.following.now 1 is (omega (arith, ap length is)))) (record { open_ended = may.0; no_value = may.1; is = is })

pub returns-in-159-clause-untaken : goal.returns-in-159-clause-untaken
returns-in-159-clause-untaken g c = λ e low keys.
    container-left c.args.first c.args.following.now c.args.rest.now c.requires.begins keys c.args.depth c.open.new.stack.top c.open.new.stack.height (length c.open.new.cells) (omega (arith, c.in-159.is)) (omega (arith, c.in-159.is)) (c.open.ensures.untaken e)

pub returns-in-191-clause-untaken : goal.returns-in-191-clause-untaken
returns-in-191-clause-untaken g c = λ e low keys.
    container-left c.args.first c.args.following.now c.args.rest.now c.requires.begins keys c.args.depth c.open-in-191.new.stack.top c.open-in-191.new.stack.height (length c.open-in-191.new.cells) (omega (arith, c.in-191.is)) (omega (arith, c.in-191.is)) (c.open-in-191.ensures.untaken e)
