use Rattle.std.proofs.Common.{ap, ◌∙◌, ℕ, Some}
use Rattle.cbor_head.{specs.Read.prefix, specs.declared.width.Width.TheVariants.Indefinite, proofs.HeadBack.read_head-back}
use Rattle.cbor_head.proofs.HeadLaws.{read_head-head, reported_holds}
use Rattle.theory_values.proofs.spelling_laws.heads_are_read_back.Goals as goal
use Rattle.theory_values.proofs.{ReadBack.by_place, ReadLaws.holds_or_open}

pub returns-clause-definite : goal.returns-clause-definite
returns-clause-definite c = λ m w n x h. read_head-head m w n x (holds_or_open w n h) ∙ ap (λ (k : ℕ). Some (prefix m w k x)) (reported_holds w n h)

pub returns-clause-opener : goal.returns-clause-opener
returns-clause-opener c = λ m n x. read_head-head m Indefinite n x tt

pub returns-clause-only : goal.returns-clause-only
returns-clause-only c = λ b f small e. let k = read_head-back b f (by_place b small) e in (k.holds, k.bytes_are)
