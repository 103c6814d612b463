use Rattle.std.proofs.Common.{subst, IfSome}
use Rattle.cbor_head.specs.Prelude.{strict}
use Rattle.theory_verdicts.specs.Readers.{IsUnread}
use Rattle.cbor_reader.proofs.sequence_items.SequenceItems.next_strict.Goals as goal
use Rattle.cbor_reader.proofs.Sequences.{at_end, refused_as}

pub returns-in-Err-clause-end : goal.returns-in-Err-clause-end
returns-in-Err-clause-end g c =
    let unread = subst (λ b. IfSome (g.R.Read.remaining c.args.reader.now) (λ input. IsUnread b (strict c.args.order) input c.in-Err.refusal)) (c.self.invariant c.if-self.false).2 c.in-Err.ensures.refused in
    rw (← c.self.view_is) (λ none live. at_end (strict c.args.order) c.self.inside.limits _ _ c.in-Err.refusal unread c.in-Err.ensures.read (c.last.ensures.end none))

pub returns-in-Err-clause-refused : goal.returns-in-Err-clause-refused
returns-in-Err-clause-refused g c =
    let unread = subst (λ b. IfSome (g.R.Read.remaining c.args.reader.now) (λ input. IsUnread b (strict c.args.order) input c.in-Err.refusal)) (c.self.invariant c.if-self.false).2 c.in-Err.ensures.refused in
    rw (← c.self.view_is) (refused_as (strict c.args.order) c.self.inside.limits c.last.result _ _ c.in-Err.refusal unread c.in-Err.ensures.read c.last.ensures.refused)
