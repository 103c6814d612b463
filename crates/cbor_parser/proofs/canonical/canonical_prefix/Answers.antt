use Rattle.std.proofs.Common.{◌≡◌, List, ℕ, take, sym, ap, ◌∙◌, subst, arith, length, length-take}
use Rattle.cbor_head.specs.Prelude.{strict}
use Rattle.theory_verdicts.{specs.Stop.IsRefused, specs.Stop.IsReportedAs, proofs.PathVerdict.accepts}
use Rattle.cbor_parser.proofs.canonical.canonical_prefix.Goals as goal
use Rattle.cbor_parser.{specs.inner.Cells.IsWhole, proofs.CanonicalStops.not_canonical}

pub whole_prefix-requires : goal.whole_prefix-requires
whole_prefix-requires c = omega (arith, c.bytes.ensures.most, ap length c.within-input.ensures, length-take c.bytes.result c.args.bytes.now)

pub returns-in-Ok : goal.returns-in-Ok
returns-in-Ok c =
    let o = c.args.order in
    let limits = c.args.limits in
    let input : c.within-input.result.now ≡ take limits.bytes c.args.bytes.now = c.within-input.ensures ∙ ap (λ n. take n c.args.bytes.now) c.bytes.ensures.bytes in
    let w : IsWhole o limits c.within-input.result.now c.in-Ok.count = c.in-Ok.ensures.whole in
    record { item = w.item; verdict = accepts (strict o) limits c.args.bytes.now w.item w.rest w.ended w.keeps (sym input ∙ w.bytes); size = w.here }

pub returns-in-Err : goal.returns-in-Err
returns-in-Err c =
    let o = c.args.order in
    let limits = c.args.limits in
    let input : c.within-input.result.now ≡ take limits.bytes c.args.bytes.now = c.within-input.ensures ∙ ap (λ n. take n c.args.bytes.now) c.bytes.ensures.bytes in
    let f = c.in-Err.refusal in
    let g = c.truncated_or_too_long.result in
    not_canonical o limits c.args.bytes.now f (subst (λ (xs : List ℕ). IsRefused o limits xs f) input c.in-Err.ensures.refused) g
    (subst (λ m. IsReportedAs m (take limits.bytes c.args.bytes.now) f g) c.bytes-in-Err.ensures.bytes
    (subst (λ (xs : List ℕ). IsReportedAs c.bytes-in-Err.result xs f g) input c.truncated_or_too_long.ensures))
