use Rattle.cbor_machine.proofs.whole_event.whole_head.Goals as goal

pub take_head-token-requires-clause-space : goal.take_head-token-requires-clause-space
take_head-token-requires-clause-space c = c.in_ok-head.ensures.here.space

pub returns-clause-reported : goal.returns-clause-reported
returns-clause-reported c = c.take_head-token.ensures.reported c.args.rest.now c.in_ok-head.ensures.here

pub returns-clause-number : goal.returns-clause-number
returns-clause-number c = c.take_head-token.ensures.number c.in_ok-head.ensures.simple
