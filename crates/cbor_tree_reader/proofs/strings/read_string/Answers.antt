use Rattle.std.proofs.Common.{ℕ, ◌++◌, false, refl, subst, Option}
use Rattle.cbor_head.specs.Prelude.{plain}
use Rattle.theory_verdicts.specs.Reading.{string_major, string_kind, IsBegun}
use Rattle.theory_verdicts.proofs.WholeStrings.{string-expected, reads-string, stops-string}
use Rattle.cbor_tree_reader.proofs.strings.read_string.Goals as goal

pub returns-in-None-clause-string : goal.returns-in-None-clause-string
returns-in-None-clause-string g c = λ b fs t x w i. c.read_chunks.ensures.string b fs t x w (subst (λ (o : Option ℕ). IsBegun plain b fs t x c.args.events.now w (string_kind c.args.text o)) c.in-None.is i)

pub returns-in-Ok-clause-string : goal.returns-in-Ok-clause-string
returns-in-Ok-clause-string g c = λ b fs t x w i.
    let j = subst (λ (o : Option ℕ). IsBegun plain b fs t x c.args.events.now w (string_kind c.args.text o)) c.in-Some.is i in
    let expected = string-expected plain b fs t x c.args.events.now w c.args.text c.in-Some.count j in
    let reads = rw c.new-content.ensures.items at (c.in-Ok.ensures.payload b false (string_major c.args.text) fs (t ++ x) expected) in
    reads-string plain b fs t x c.args.events.now w c.args.text c.in-Some.count j c.read_chunk.new.into.items _ _ c.read_chunk.new.events reads.0 reads.1

pub returns-in-Err-clause-string : goal.returns-in-Err-clause-string
returns-in-Err-clause-string g c = λ b fs t x w i.
    let j = subst (λ (o : Option ℕ). IsBegun plain b fs t x c.args.events.now w (string_kind c.args.text o)) c.in-Some.is i in
    let expected = string-expected plain b fs t x c.args.events.now w c.args.text c.in-Some.count j in
    stops-string plain b fs t x c.args.events.now w c.args.text c.in-Some.count j refl _ _ c.in-Err.refusal (c.in-Err.ensures.payload b false (string_major c.args.text) fs (t ++ x) expected)
