use Rattle.naltvigo.proofs.checker.naltvigo_checker_free_raw.Goals as goal

pub into_machine-requires : goal.into_machine-requires
into_machine-requires c = rw c.replace.ensures.value c.requires.held
