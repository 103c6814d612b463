use Rattle.std.proofs.Common.{List, ℕ, ◌++◌, take, ap, ◌∙◌, take-take}
use Rattle.std.proofs.lemmas.Result.{on_ok_weaker}
use Rattle.cbor_builder.proofs.output_buffer.OutputBuffer.extend_prefix.Goals as goal

pub returns-in-Some-clause-appended : goal.returns-in-Some-clause-appended
returns-in-Some-clause-appended c =
    on_ok_weaker c.extend_block.result (λ e. e ∙ ap (λ (xs : List ℕ). c.args.self.now ++ xs)
    (ap (λ (xs : List ℕ). take c.args.count xs) c.in-Some.ensures.cases.same ∙ take-take c.args.count 32 c.args.prefix.now c.if-count-le-BLOCK.true)) c.extend_block.ensures.appended
