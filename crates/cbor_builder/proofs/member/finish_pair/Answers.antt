use Rattle.std.proofs.Common.{◌≤◌, length, sym, subst}
use Rattle.cbor_builder.proofs.member.finish_pair.Goals as goal

pub is_above-frame-requires-clause-first : goal.is_above-frame-requires-clause-first
is_above-frame-requires-clause-first c = subst (λ ss. c.args.first ≤ length ss) (sym c.as_slice.ensures.value) c.requires.first
