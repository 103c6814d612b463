use Rattle.std.proofs.Common.{sym, ◌∙◌}
use Rattle.cborc_files.proofs.Spelled.{white, waits, no_digit, completes}
use Rattle.cborc_files.proofs.hex_text.Digits.take.Goals as goal

pub returns-then-is_white-clause-goes_on : goal.returns-then-is_white-clause-goes_on
returns-then-is_white-clause-goes_on c = white _ _ c.args.byte c.if-is_white.ensures

pub returns-in_default-clause-not_hex : goal.returns-in_default-clause-not_hex
returns-in_default-clause-not_hex c e = no_digit _ c.args.byte c.if-is_white.ensures (sym c.digit_value.ensures.value ∙ c.in_default.is)

pub returns-in-None-clause-goes_on : goal.returns-in-None-clause-goes_on
returns-in-None-clause-goes_on c =
    rw (← c.self.view_is, c.in-None.is)
    (waits _ _ _ c.args.byte c.in-Some.value c.if-is_white.ensures (sym c.digit_value.ensures.value ∙ c.in-Some.is))

pub returns-in-Ok-clause-goes_on : goal.returns-in-Ok-clause-goes_on
returns-in-Ok-clause-goes_on c =
    rw (← c.self.view_is, c.in-Some-high.is)
    (completes _ _ _ c.args.byte c.in-Some.value c.if-is_white.ensures (sym c.digit_value.ensures.value ∙ c.in-Some.is) c.in-Some-high.high _ c.in-Ok.ensures.items)
