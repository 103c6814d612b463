use Rattle.std.proofs.Common.{◌≡◌, List, ltb-true, Bool, true, false, ◌∙◌, ℕ, length, nat_lt, refl, sym, ap, subst, arith, inl, inr}
use Rattle.cbor_head.specs.{Prelude.plain, declared.reason.Refusal.Refusal}
use Rattle.theory_values.proofs.ByteLists.{are_bytes}
use Rattle.theory_verdicts.specs.{Stop.IsReportedAs, Levels.bytes_before}
use Rattle.cbor_parser.specs.declared.walk.WalkStop.TheVariants as walks
use Rattle.cbor_parser.proofs.parser.ParserItemRules.error.Goals as goal
use Rattle.cbor_parser.proofs.parser.ParserItemRules.error.Goals.{Joined-stop, In-Repeated, In_default, in-Untaken, in-Stopped+in-Broken}
use Rattle.cbor_parser.proofs.ParserRules.{left-there, of-repeat, StopsBefore, Stopped, came, repeats}
use Rattle.cbor_parser.specs.inner.Begins.{Begins, BeginsUnrefused, IsAllowed}
use Rattle.cbor_parser.specs.declared.item_start.ItemStart.TheVariants as starts
use Rattle.cbor_parser.specs.{declared.item_start.Here.Here, declared.item_start.ItemStart.ItemStart, Sink.AreKeysDistinct, declared.stack.Stack.Stack}
use Rattle.cbor_parser.{specs.inner.Kept.KeepsBefore, specs.inner.Parser.HasCome, proofs.KnownKeys.known-distinct, specs.declared.parser.Parser.Parser}
use Rattle.cbor_parser.{specs.Stack.open_levels, specs.inner.Repeated.IsKeyReportedIn, specs.inner.OpenContainer.Cell, proofs.GivenStops.stopped-there}
use Rattle.cbor_parser.proofs.ReportedStops.{reported_where_expected, reported_at_end}

stops : (g : _) (c : Joined-stop g) → StopsBefore c.args.stop c.match-stop.rest
stops g c = elim c.match-stop.branch [
  | in-Untaken w ↦ subst (StopsBefore c.args.stop) (sym w.rest-is) (inl w.in-Untaken.is)
  | in-Stopped+in-Broken w ↦ subst (StopsBefore c.args.stop) (sym w.rest-is) (inr (w.in-Stopped.is ∙ ap (walks.Stopped w.in-Stopped.rest) w.in-Broken.is))
]

reported : (g : _) (c : In-Repeated g) (first : Parser g.row.S.Denot) → Stopped g.row.S.Denot g.S.Sink.agrees g.S.Sink.trusts g.S.Sink.holds g.S.Sink.refused first c.args.self.now c.args.limits c.args.input.now (open_levels Cell c.args.stack.now c.args.cells.now) (length c.args.cells.now) c.args.stop
    → IsKeyReportedIn c.args.limits c.args.input.now (open_levels Cell c.args.stack.now c.args.cells.now) c.args.self.now.repeat
reported g c first h =
    let a = c.args in
    let cs = open_levels Cell a.stack.now a.cells.now in
    let S = g.S.Sink in
    let v = repeats g.row.S.Denot S.agrees S.trusts S.holds S.refused first a.self.now a.limits a.input.now cs (length a.cells.now) a.stop c.in-Stopped.rest (c.in-Stopped.is ∙ ap (walks.Stopped c.in-Stopped.rest) c.in-Repeated.is) h in
    reported_at_end a.limits a.input.now c.requires.within g.row.S.Denot S.agrees S.trusts S.holds first.sink a.self.now.sink cs c.in-Stopped.rest.now a.self.now.repeat v.1 v.0

pub repeated-requires-clause-reported : goal.repeated-requires-clause-reported
repeated-requires-clause-reported g c = let (first, h) = c.requires.stopped in (c.args.limits, c.args.input.now, reported g (goal.at.repeated-requires-clause-reported g c).In-Repeated first h)

pub returns-in-Repeated : goal.returns-in-Repeated
returns-in-Repeated g c = λ first h. of-repeat _ c.args.limits c.args.input.now _ (c.repeated.ensures c.args.limits c.args.input.now (reported g (goal.at.returns-in-Repeated g c).In-Repeated first h))

pub repeated-requires-in-Some-clause-reported : goal.repeated-requires-in-Some-clause-reported
repeated-requires-in-Some-clause-reported g c =
    let a = c.args in
    let cs = open_levels Cell a.stack.now a.cells.now in
    let S = g.S.Sink in
    let (first, h) = c.requires.stopped in
    let come = came g.row.S.Denot S.agrees S.trusts S.holds S.refused first a.self.now a.limits a.input.now cs (length a.cells.now) a.stop c.match-stop.rest (stops g (goal.at.repeated-requires-in-Some-clause-reported g c).Joined-stop) h in
    (a.limits, a.input.now, reported_where_expected a.limits a.input.now c.requires.within g.row.S.Denot S.agrees S.trusts S.holds first.sink a.self.now.sink cs c.match-stop.rest.now c.in-Some.repeat come.1 come.0 c.in-Some.ensures.found)

pub returns-in-Some : goal.returns-in-Some
returns-in-Some g c = λ first h.
    let a = c.args in
    let cs = open_levels Cell a.stack.now a.cells.now in
    let S = g.S.Sink in
    let come = came g.row.S.Denot S.agrees S.trusts S.holds S.refused first a.self.now a.limits a.input.now cs (length a.cells.now) a.stop c.match-stop.rest (stops g (goal.at.returns-in-Some g c).Joined-stop) h in
    of-repeat _ a.limits a.input.now _ (c.repeated-in-Some.ensures a.limits a.input.now (reported_where_expected a.limits a.input.now c.requires.within g.row.S.Denot S.agrees S.trusts S.holds first.sink a.self.now.sink cs c.match-stop.rest.now c.in-Some.repeat come.1 come.0 c.in-Some.ensures.found))

module _ (g : _) (c : In_default g) (first : Parser g.row.S.Denot) where
  abbrev k : Stack Cell
  k = c.args.stack.now

  abbrev Came : Type 0
  Came = HasCome g.row.S.Denot g.S.Sink.agrees g.S.Sink.trusts g.S.Sink.holds first.sink c.args.limits.depth c.args.input.now (open_levels Cell k c.args.cells.now) c.args.self.now.sink c.match-stop.rest.now

  -- no open map has two keys that are the same
  distinct : (come : Came) → KeepsBefore c.args.limits.depth c.args.limits.keys c.args.input.now c.match-stop.rest.now → AreKeysDistinct come.ls
  distinct come keeps = go g.S.Sink.trusts refl
    where
      go : (t : Bool) → g.S.Sink.trusts ≡ t → AreKeysDistinct come.ls
      go false e = c.in_default.ensures.none refl e first.sink come.ls come.given
      go true e = known-distinct c.args.limits c.args.input.now c.requires.within (come.known e) come.ls c.match-stop.rest.now come.levels come.bytes (keeps (bytes_before come.ls) come.bytes)

pub returns : goal.returns
returns g c = λ first h. inl (λ bytes within.
    let a = c.args in
    let k = a.stack.now in
    let S = g.S.Sink in
    let asked = c.is_asked.ensures in
    let at = goal.at.returns g c in
    let come = came g.row.S.Denot S.agrees S.trusts S.holds S.refused first a.self.now a.limits a.input.now (open_levels Cell k a.cells.now) (length a.cells.now) a.stop c.match-stop.rest (stops g at.Joined-stop) h in
    let is_returned = subst (λ (n : ℕ). IsReportedAs n a.input.now c.in-Refused.refusal c.truncated_or_too_long.result) c.bytes.ensures.bytes c.truncated_or_too_long.ensures in
    stopped-there g.row.S.Denot S.agrees S.trusts S.holds first.sink a.limits bytes a.input.now within (are_bytes a.input.now (λ i. omega (arith, c.type_inv.input i))) k a.cells.now c.requires.cells a.self.now.sink c.match-stop.rest.now come.0 come.1
    _ _ c.in-Refused.refusal c.truncated_or_too_long.result (distinct g at.In_default first come.0 come.1) refl (ap (nat_lt k.height) (c.from.ensures ∙ c.depth.ensures.depth))
    (record { both = λ e. let both = asked.both e in (sym c.keys.ensures ∙ both.0, both.1); none = λ e these expected. asked.none e (c.keys.ensures ∙ these) expected }) c.may_break.ensures.may (c.in-Refused.ensures.refused plain refl) is_returned)

-- what is left there is refused
pub unreachable-requires : goal.unreachable-requires
unreachable-requires g c =
    let a = c.args in
    let k = a.stack.now in
    let S = g.S.Sink in
    let asked = c.is_asked.ensures in
    let (first, h) = c.requires.stopped in
    let allowed : IsAllowed a.limits.keys a.limits.depth k.top k.height _ = record {
      space = λ e. omega (arith, ltb-true k.height c.from.result e, c.from.ensures, c.depth.ensures.depth);
      key = λ kinds key. asked-if _ (asked.none) (c.keys.ensures ∙ kinds) key;
      may_break = c.may_break.ensures.only;
    } in
    left-there g.row.S.Denot S.agrees S.trusts S.holds S.refused first a.self.now a.limits a.input.now k a.cells.now c.requires.cells a.stop c.match-stop.rest (stops g (goal.at.unreachable-requires g c).Joined-stop) c.requires.left h _ allowed
    (unrefused _ c.match-stop.rest.now c.item_start.result c.item_start.ensures.begins c.in_default-item_start.not-Refused)
  where
    asked-if : {P Q : Type 0} (b : Bool) → (b ≡ false → P → Q → ⊥) → P → Q → b ≡ true
    asked-if true h p q = refl
    asked-if false h p q = absurd (h refl p q)

    unrefused : (here : Here) (rest : List ℕ) (start : ItemStart) → BeginsUnrefused here rest start → ((f : Refusal) → start ≡ starts.Refused f → ⊥) → Begins here rest
    unrefused here rest (starts.Refused f) b none = absurd (none f refl)
    unrefused here rest _ b none = b
