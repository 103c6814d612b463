use Rattle.std.proofs.Common.{◌≡◌, ◌∙◌, ◌-◌, ◌^◌, ◌≤◌, List, ◌∷◌, [], ℕ, take, length, inl, inr, refl, ap, sym, subst, arith, length-take}
use Rattle.cbor_head.specs.Prelude.{plain, Bounds, spell}
use Rattle.cbor_head.specs.declared.reason.{Reason.TheVariants.Memory, Refusal.Refusal}
use Rattle.theory_verdicts.proofs.Reasons.{never-memory}
use Rattle.cbor_parser.proofs.parser.Parser.parse_item.Goals as goal
use Rattle.cbor_parser.proofs.GivenParts.{known-begins, prefix-given, starts}
use Rattle.cbor_parser.specs.declared.parser.ParseError.TheVariants as errors
use Rattle.cbor_parser.specs.inner.Parser.{IsStopWithin, IsBuilt, IsExpected}
use Rattle.cbor_parser.{specs.inner.Kept.KeepsBefore, specs.inner.OpenContainer.Cell, proofs.GivenKinds.starts-kept}

pub parse-requires : goal.parse-requires
parse-requires g c = λ n.
    let a = c.args in
    let most = c.bytes.ensures.most in
    let input = c.within-input.result.now in
    let small : length input ≤ 2 ^ 62 = omega (arith, most, ap length c.within-input.ensures, length-take c.bytes.result a.bytes.now) in
    let expected = starts g.row.S.Denot g.S.Sink.agrees g.S.Sink.trusts a.self.now.sink a.limits.depth input c.requires.fresh (omega (arith, small))
    (λ t. known-begins a.limits a.bytes.now input a.limits.depth refl (c.within-input.ensures ∙ ap (λ (n : ℕ). take n a.bytes.now) c.bytes.ensures.bytes) (c.requires.known t)) in (
      (refl, tt),
      (
        (subst (λ (x : Cell). IsExpected g.row.S.Denot g.S.Sink.agrees g.S.Sink.trusts a.self.now.sink a.limits.depth input (x ∷ []) a.self.now.sink input) (sym c.counted-outermost.ensures) expected, starts-kept a.limits.depth input a.limits.keys),
        (small, omega arith),
      ),
    )

pub returns-in-Ok-clause-given : goal.returns-in-Ok-clause-given
returns-in-Ok-clause-given g c =
    let limits = c.args.limits in
    let following = c.in-Ok.following.now in
    let sink = c.parse.new.rules.sink in
    let input : c.within-input.result.now ≡ take limits.bytes c.args.bytes.now = c.within-input.ensures ∙ ap (λ (n : ℕ). take n c.args.bytes.now) c.bytes.ensures.bytes in
    let passed = c.in-Ok.ensures in
    let h = subst (λ (x : List ℕ). IsBuilt g.row.S.Denot g.S.Sink.agrees g.S.Sink.trusts c.args.self.now.sink limits.depth x sink following) input passed.0 in
    let keeps = subst (λ (x : List ℕ). KeepsBefore limits.depth limits.keys x following) input passed.1 (spell h.item) h.bytes in
    prefix-given _ _ _ _ _ limits c.args.bytes.now following _ h keeps (ap (λ (x : List ℕ). length x - length following) input)

-- no rule has memory as its reason
not-for-memory : (limits : Bounds) (input bytes : List ℕ) (f : Refusal) (lacked : Type 0) → input ≡ take limits.bytes bytes → IsStopWithin lacked limits input (errors.Refused f) → f.reason ≡ Memory → lacked
not-for-memory limits input bytes f lacked within (inl v) e = absurd (never-memory limits plain bytes f (v bytes within) e)
not-for-memory limits input bytes f lacked within (inr x) e = x.1

pub returns-in-Err-Refused-clause-memory : goal.returns-in-Err-Refused-clause-memory
returns-in-Err-Refused-clause-memory g c =
    not-for-memory c.args.limits c.within-input.result.now c.args.bytes.now c.in-Err-Refused.refusal (g.S.Sink.refused c.parse.new.rules.sink) (c.within-input.ensures ∙ ap (λ (n : ℕ). take n c.args.bytes.now) c.bytes.ensures.bytes)
    (subst (IsStopWithin (g.S.Sink.refused c.parse.new.rules.sink) c.args.limits c.within-input.result.now) c.in-Err-Refused.field-0-is c.in-Err-Refused.ensures)

pub returns-in-Err-Repeated-clause-memory : goal.returns-in-Err-Repeated-clause-memory
returns-in-Err-Repeated-clause-memory g c = λ e.
    absurd (never-memory c.args.limits plain c.args.bytes.now c.repeated_key.result (c.repeated_key.ensures c.args.bytes.now (c.within-input.ensures ∙ ap (λ (n : ℕ). take n c.args.bytes.now) c.bytes.ensures.bytes)) e)
