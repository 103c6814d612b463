use Rattle.std.proofs.Common.{ap, subst, false, IfSome}
use Rattle.std.specs.Option.{is_some}
use Rattle.cbor_parser.specs.Sink.{Repeats}
use Rattle.cbor_reader.proofs.ViewGiven.{keys-end, views-end, ended, repeats}
use Rattle.cbor_reader.proofs.view_sink.ViewSinkSink.end.Goals as goal
use Rattle.cbor_reader.specs.{inner.KeyBytes.keys_agree, declared.key_bytes.KeyBytes.KeyBytes}

pub end-requires : goal.end-requires
end-requires c = record { full = keys-end c.args.is_map c.args.self.now c.requires.full }

pub end-requires-2 : goal.end-requires-2
end-requires-2 c = record { container = views-end c.args.is_map c.args.self.now c.requires.full }

pub returns-in-Some-clause-repeats : goal.returns-in-Some-clause-repeats
returns-in-Some-clause-repeats c =
    let old = c.args.self.now in
    repeats c.args.is_map old c.in-Some.repeat (subst (λ reported. IfSome reported (Repeats KeyBytes keys_agree false c.args.is_map old.keys)) c.in-Some.is c.in_ok-repeat.ensures.repeats)

pub returns-clause-ends : goal.returns-clause-ends
returns-clause-ends c = λ yes.
    let old = c.args.self.now in
    ended c.args.is_map old (record { keys = c.end.new.self; views = c.end-2.new.self; joined = old.joined }) (c.in_ok-repeat.ensures.ends (ap is_some c.in_default.is)) c.in_ok-end.ensures.closed
