use Rattle.cborc_files.proofs.hex_text.Digits.finish.Goals as goal
use Rattle.cborc_files.proofs.Spelled.{all_spelled, one_alone}

pub returns-in-None-clause-whole : goal.returns-in-None-clause-whole
returns-in-None-clause-whole c = rw (← c.self.view_is, c.in-None.is) (all_spelled _ _)

pub returns-in-Some-clause-not_hex : goal.returns-in-Some-clause-not_hex
returns-in-Some-clause-not_hex c text spelled h = one_alone _ _ _ text spelled (rw (← c.self.view_is, c.in-Some.is) at h)
