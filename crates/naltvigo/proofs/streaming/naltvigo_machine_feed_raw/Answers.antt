use Rattle.std.proofs.Common.{sym}
use Rattle.naltvigo.proofs.streaming.naltvigo_machine_feed_raw.Goals as goal

pub returns-clause-streams : goal.returns-clause-streams
returns-clause-streams c = λ _ m h.
    (c.take_events-taken.new.machine, c.save_into.ensures.holds, rw (sym (c.resume.ensures.held m h).1) c.take_events-taken.ensures.reports)
