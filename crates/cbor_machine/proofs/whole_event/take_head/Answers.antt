use Rattle.std.proofs.Common.{ℕ, ◌∙◌, take, ap, sym, subst}
use Rattle.theory_automaton.specs.Automaton.{at_item, has_space}
use Rattle.cbor_machine.proofs.whole_event.take_head.Goals as goal
use Rattle.cbor_machine.specs.{State.frames_of, State.state_of, Whole.IsEventRun, Token.kind_of, declared.token.Token.TheVariants.Simple}
use Rattle.cbor_machine.proofs.WholeHeads.{numbered-run, simple-run}

pub returns-then-head-ge224-clause-reported : goal.returns-then-head-ge224-clause-reported
returns-then-head-ge224-clause-reported c = λ from h.
    let high = c.if-head-ge224.true in
    let head = c.args.head in
    subst (λ (k : ℕ). IsEventRun c.args.depth (at_item (frames_of c.args.container_stack.now)) (state_of c.finish.new.position c.finish.new.container_stack) (take k from) head.width (kind_of Simple head.number)) (sym h.used)
    (simple-run c.args.depth (frames_of c.args.container_stack.now) from head.first h.following head.width head.number h.rest _ h.is h.argument h.small high (h.simple high).0 (h.simple high).1 c.finish.ensures.state)

pub enter-requires-clause-space : goal.enter-requires-clause-space
enter-requires-clause-space c = ap (has_space c.args.depth (frames_of c.args.container_stack.now)) c.numbered_at-kind.ensures ∙ c.requires.space c.if-head-ge224.false

pub returns-clause-reported : goal.returns-clause-reported
returns-clause-reported c = λ from h.
    let head = c.args.head in
    subst (λ (k : ℕ). IsEventRun c.args.depth (at_item (frames_of c.args.container_stack.now)) (state_of c.enter.new.position c.enter.new.container_stack) (take k from) head.width (kind_of c.reported_of.result head.number)) (sym h.used)
    (numbered-run c.args.depth (frames_of c.args.container_stack.now) from head.first h.following head.width head.number h.rest c.numbered_at-kind.result _ _ h.is h.argument h.small c.numbered_at-kind.ensures
    (ap (has_space c.args.depth (frames_of c.args.container_stack.now)) c.numbered_at-kind.ensures ∙ c.requires.space c.if-head-ge224.false) c.enter.ensures.state (c.reported_of.ensures.marks _ _) (c.reported_of.ensures.proper _ _))

pub returns-clause-proper : goal.returns-clause-proper
returns-clause-proper c = c.reported_of.ensures.proper c.args.head.width c.args.head.number
