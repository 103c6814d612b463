use Rattle.std.proofs.Common.{◌≡◌, ◌≢◌, List, ap, rules, subst}
use Rattle.clap.specs.{Words.Text, Words.kind_of, declared.error.kind.ErrorKind.TheVariants.OutOfMemory}
use Rattle.cborc_words.specs.Words.{parsed_words, texts_of, AskFor, HasFault}
use Rattle.cborc_commands.proofs.Files.{same_files}
use Rattle.cborc_program.proofs.program.run.Goals as goal
use Rattle.cborc_program.{specs.Run.task_run, proofs.Ends.ends}

pub returns-in-Ok-clause-leaves : goal.returns-in-Ok-clause-leaves
returns-in-Ok-clause-leaves g c =
    let same : c.as_slice.result.now ≡ c.args.words.items = search rules in
    task_run c.in-Ok.task (subst (λ (words : List Text). AskFor (parsed_words words) c.in-Ok.task) (ap texts_of same) c.in-Ok.ensures.ok) c.perform_task.ensures.performed

pub returns-clause-leaves : goal.returns-clause-leaves
returns-clause-leaves g c =
    let same : c.as_slice.result.now ≡ c.args.words.items = search rules in
    let kind = kind_of c.in-Err.error in
    let fault = subst (λ (words : List Text). kind ≢ OutOfMemory → HasFault (parsed_words words) kind) (ap texts_of same) c.in-Err.ensures.err in
    ends _ _ c.explain_words-ended.result c.flushed.result _ _ _ _ _ _ fault c.explain_words-ended.ensures.ends c.flushed.ensures.end (same_files _)
    c.flushed.ensures.keeps c.end.ensures
