use Rattle.std.proofs.Common.{◌≡◌, ◌∙◌, sym, ap, arith}
use Rattle.std.{specs.Cow.cow_slice_items, proofs.lemmas.Result.err_from_is_err_and}
use Rattle.cbor_head.specs.declared.reason.{Reason.TheVariants.CanonicalTooLong, Reason.TheVariants.Memory, Refusal.Refusal}
use Rattle.cbor_reader.proofs.canonicaliser.canonical_bytes_in.Goals as goal
use Rattle.cbor_reader.{proofs.OneResult.only_memory, specs.Canonicalise.of_item, proofs.WholeItems.becomes, proofs.WholeItems.grows_too_long}

pub returns-in_err-canonical-clause-outcome : goal.returns-in_err-canonical-clause-outcome
returns-in_err-canonical-clause-outcome c =
    let p = err_from_is_err_and c.from_residual.result c.from_residual.ensures.1 in
    rw (p.1, p.2) (of_item c.in_err-canonical.ensures.refused)

pub returns-then-len-bytes-clause-outcome : goal.returns-then-len-bytes-clause-outcome
returns-then-len-bytes-clause-outcome c =
    grows_too_long c.args.limits c.args.order c.args.bytes.now (cow_slice_items c.in_ok-canonical.canonical) c.at.result c.in_ok-canonical.ensures.encoded
    (omega (arith, c.if-len-bytes.true, c.bytes.ensures.bytes, c.len.ensures)) c.at.ensures

too_long : CanonicalTooLong ≡ Memory → ⊥
too_long e = cc e

-- what is within the limit itself has no canonical bytes past it
pub returns-then-len-bytes-clause-own : goal.returns-then-len-bytes-clause-own
returns-then-len-bytes-clause-own c = λ own.
    let is = grows_too_long c.args.limits c.args.order c.args.bytes.now (cow_slice_items c.in_ok-canonical.canonical) c.at.result c.in_ok-canonical.ensures.encoded
    (omega (arith, c.if-len-bytes.true, c.bytes.ensures.bytes, c.len.ensures)) c.at.ensures in
    absurd (too_long (sym (ap (λ (f : Refusal). f.reason) c.at.ensures) ∙ only_memory c.args.limits c.args.order c.args.bytes.now c.args.bytes.now c.at.result own is))

pub returns-clause-outcome : goal.returns-clause-outcome
returns-clause-outcome c =
    becomes c.args.limits c.args.order c.args.bytes.now (cow_slice_items c.in_ok-canonical.canonical) c.in_ok-canonical.ensures.encoded
    (omega (arith, c.if-len-bytes.false, c.bytes.ensures.bytes, c.len.ensures))
