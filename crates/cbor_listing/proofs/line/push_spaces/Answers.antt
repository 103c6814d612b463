use Rattle.std.proofs.{Common.arith, Common.ℕ, lemmas.List.take-replicate}
use Rattle.cbor_listing.proofs.line.push_spaces.Goals as goal

pub returns-clause-text : goal.returns-clause-text
returns-clause-text g c = rw (← take-replicate {X = ℕ} c.args.count 64 32 (omega arith)) c.push.ensures.text
