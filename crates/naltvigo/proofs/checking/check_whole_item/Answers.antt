use Rattle.std.proofs.lemmas.Bool.{false≢true}
use Rattle.cbor_reader.specs.WholeItem.{unread, trailing}
use Rattle.naltvigo.proofs.checking.check_whole_item.Goals as goal
use Rattle.naltvigo.proofs.WholeInputs.{is-whole}

pub returns-in-Ok-clause-refused : goal.returns-in-Ok-clause-refused
returns-in-Ok-clause-refused c =
    trailing c.in-Ok.size c.in-Ok.ensures.accepted c.if-size-input.true c.trailing.ensures

pub returns-in-Ok-clause-not_accepted : goal.returns-in-Ok-clause-not_accepted
returns-in-Ok-clause-not_accepted c =
    λ h w. h
    (c.items_and_their_refusals.ensures.either _ c.args.input.now _ w
    (trailing c.in-Ok.size c.in-Ok.ensures.accepted c.if-size-input.true c.trailing.ensures))

pub returns-in-Ok-2-clause-accepted : goal.returns-in-Ok-2-clause-accepted
returns-in-Ok-2-clause-accepted c =
    is-whole c.args.limits c.args.input.now c.in-Ok.size c.in-Ok.ensures.accepted c.if-size-input.false
    (c.valid_items.ensures.verdict c.args.limits c.args.input.now)

pub returns-in-Err-clause-refused : goal.returns-in-Err-clause-refused
returns-in-Err-clause-refused c = unread c.in-Err.ensures.refused c.in-Err.ensures.no_read

pub returns-in-Err-clause-not_accepted : goal.returns-in-Err-clause-not_accepted
returns-in-Err-clause-not_accepted c =
    λ h w. h (c.items_and_their_refusals.ensures.either _ c.args.input.now _ w (unread c.in-Err.ensures.refused c.in-Err.ensures.no_read))

pub returns-in-Err-clause-own : goal.returns-in-Err-clause-own
returns-in-Err-clause-own c = λ v begins. absurd (false≢true (c.in-Err.ensures.own v begins))
