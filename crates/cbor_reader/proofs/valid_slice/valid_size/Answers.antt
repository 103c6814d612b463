use Rattle.cbor_parser.proofs.PrefixStops.{reported_at_start}
use Rattle.cbor_reader.proofs.valid_slice.valid_size.Goals as goal

pub returns-clause-refused : goal.returns-clause-refused
returns-clause-refused c = (reported_at_start c.args.limits c.args.bytes.now c.in-Err.refusal c.in-Err.ensures.given).refused

pub returns-clause-no_read : goal.returns-clause-no_read
returns-clause-no_read c = (reported_at_start c.args.limits c.args.bytes.now c.in-Err.refusal c.in-Err.ensures.given).no_read

pub returns-clause-memory : goal.returns-clause-memory
returns-clause-memory c = (reported_at_start c.args.limits c.args.bytes.now c.in-Err.refusal c.in-Err.ensures.given).memory
