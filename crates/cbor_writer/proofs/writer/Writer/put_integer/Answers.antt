use Rattle.std.proofs.Common.{◌≡◌, ◌-◌, ◌∙◌, ap, subst, ℤ, pos, negsuc, true, arith, w64, to_z, of_z}
use Rattle.std.{proofs.Math.IntN.nat_abs, specs.Int.Signed.lt_z, proofs.lemmas.Int.to_z-of_z}
use Rattle.cbor_head.specs.declared.major.Major.TheVariants.{Negative}
use Rattle.cbor_writer.specs.Parts.{Part, a_head, an_integer}
use Rattle.cbor_writer.proofs.writer.Writer.put_integer.Goals as goal
use Rattle.cbor_writer.specs.Writing.{Puts}

negative_head : (z : ℤ) → lt_z z (pos 0) ≡ true → a_head Negative (nat_abs z - 1) ≡ an_integer z
negative_head (pos n) h = grind arith
negative_head (negsuc n) h = ap (a_head Negative) (omega arith)

pub returns-then-number-lt0 : goal.returns-then-number-lt0
returns-then-number-lt0 c =
    let same : to_z w64 (of_z w64 c.args.number) ≡ c.args.number = to_z-of_z w64 c.args.number c.ranges.number in
    let below : lt_z c.args.number (pos 0) ≡ true = subst (λ (z : ℤ). lt_z z (pos 0) ≡ true) same c.if-number-lt0.true in
    let size : c.unsigned_abs.result ≡ nat_abs c.args.number = c.unsigned_abs.ensures.value ∙ ap nat_abs same in
    let part : a_head Negative (c.unsigned_abs.result - 1) ≡ an_integer c.args.number = ap (λ n. a_head Negative (n - 1)) size ∙ negative_head c.args.number below in
    subst (λ (p : Part). Puts p c.args.buffer.now c.put_head.new.buffer c.args.self.now c.put_head.new.self) part c.put_head.ensures
