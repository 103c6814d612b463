use Rattle.std.proofs.Common.{◌≡◌, ◌≢◌, List, refl, rules, subst, sym}
use Rattle.clap.{proofs.TakesLemmas.passed_up, specs.Words.Text, specs.Words.kind_of, specs.declared.error.kind.ErrorKind.TheVariants.OutOfMemory}
use Rattle.cborc_words.proofs.Asked.{asked, gives, of_clap, of_missing, of_no_byte_count, of_two_verbosities, of_two_streams}
use Rattle.cborc_words.proofs.command_line.parse.Goals as goal
use Rattle.cborc_words.specs.Words.{AskFor, HasFault}

pub returns-in_err-matches-clause-err : goal.returns-in_err-matches-clause-err
returns-in_err-matches-clause-err c =
    let app = c.in_ok-command.ensures in
    let kind = kind_of c.in_err-matches.field-0.0 in
    passed_up c.from_residual-in_err-matches.result c.in_err-matches.field-0.0 _ c.from_residual-in_err-matches.ensures.1
    (subst (λ (words : List Text). kind ≢ OutOfMemory → HasFault words kind) c.parsed_words.ensures
    (of_clap _ app.grammar _ c.in_err-matches.field-0.0 (c.in_err-matches.ensures.kinds app.free)))

pub returns-then-has_no_byte_count-clause-err : goal.returns-then-has_no_byte_count-clause-err
returns-then-has_no_byte_count-clause-err c known =
    let app = c.in_ok-command.ensures in
    let parsed = c.in_ok-matches.ensures in
    subst (λ (words : List Text). HasFault words (kind_of c.in_ok-error.field-0)) c.parsed_words.ensures
    (of_no_byte_count _ app.grammar app.simple _ _ _ parsed.ok.2 (parsed.kinds app.free) (c.if-has_no_byte_count.ensures.yes refl) c.in_ok-error.ensures.kind)

pub returns-in_default-clause-err : goal.returns-in_default-clause-err
returns-in_default-clause-err c known =
    let app = c.in_ok-command.ensures in
    let parsed = c.in_ok-matches.ensures in
    subst (λ (words : List Text). HasFault words (kind_of c.in_ok-error-2.field-0)) c.parsed_words.ensures
    (of_missing _ app.grammar app.simple _ _ _ parsed.ok.2 (parsed.kinds app.free) (c.if-has_no_byte_count.ensures.no refl) c.in_default.ensures.some
    c.in_ok-error-2.ensures.kind)

pub returns-then-has_two_verbosities-clause-err : goal.returns-then-has_two_verbosities-clause-err
returns-then-has_two_verbosities-clause-err c known =
    let app = c.in_ok-command.ensures in
    let parsed = c.in_ok-matches.ensures in
    subst (λ (words : List Text). HasFault words (kind_of c.in_ok-error-3.field-0)) c.parsed_words.ensures
    (of_two_verbosities _ app.grammar app.simple _ _ _ parsed.ok.2 (parsed.kinds app.free) (c.if-has_two_verbosities.ensures.yes refl) c.in_ok-error-3.ensures.kind)

pub returns-then-reads_stream_twice-clause-err : goal.returns-then-reads_stream_twice-clause-err
returns-then-reads_stream_twice-clause-err c known =
    let same : c.in-Some.task.files.items ≡ c.in_ok-files.files.items = search rules in
    let app = c.in_ok-command.ensures in
    let parsed = c.in_ok-matches.ensures in
    subst (λ (words : List Text). HasFault words (kind_of c.in_ok-error-4.field-0)) c.parsed_words.ensures
    (of_two_streams _ app.grammar app.simple _ _ c.in-Some.task _ parsed.ok.2 (parsed.kinds app.free) c.in-Some.ensures.value (gives _ c.in-Some.task c.in_ok-files.files.items c.in_ok-files.ensures same)
    (sym c.if-reads_stream_twice.ensures) c.in_ok-error-4.ensures.kind)

pub returns-clause-ok : goal.returns-clause-ok
returns-clause-ok c =
    let same : c.in-Some.task.files.items ≡ c.in_ok-files.files.items = search rules in
    let app = c.in_ok-command.ensures in
    let parsed = c.in_ok-matches.ensures in
    subst (λ (words : List Text). AskFor words c.in-Some.task) c.parsed_words.ensures
    (asked _ app.grammar app.simple _ _ c.in-Some.task parsed.ok.2 (parsed.kinds app.free) c.in-Some.ensures.value (gives _ c.in-Some.task c.in_ok-files.files.items c.in_ok-files.ensures same) (c.if-has_two_verbosities.ensures.no refl)
    (sym c.if-reads_stream_twice.ensures))
