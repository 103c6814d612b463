use Rattle.std.proofs.Common.{◌≢◌, subst, IfErr, IfSome}
use Rattle.cbor_head.specs.{Prelude.Bounds, declared.reason.Reason.TheVariants.Read, declared.reason.Reason.TheVariants.Memory}
use Rattle.theory_verdicts.specs.Readers.{HasNoCanonicalPrefix}
use Rattle.cbor_strict.proofs.strict_reader.read_strict_in.Goals as goal

pub returns-clause-no_canonical : goal.returns-clause-no_canonical
returns-clause-no_canonical g c =
    let s = c.read_strict_by-result in
    subst (λ (b : Bounds). IfErr s.result (λ f. f.reason ≢ Read → f.reason ≢ Memory → IfSome (g.R.Read.remaining c.args.reader.now) (HasNoCanonicalPrefix b c.args.order))) c.new-events.ensures.limits s.ensures.no_canonical
