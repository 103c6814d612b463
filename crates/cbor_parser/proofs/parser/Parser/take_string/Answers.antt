use Rattle.std.proofs.Common.{◌≡◌, ◌∙◌, ◌+◌, ◌-◌, false, ◌∷◌, length, take, drop, arith, refl, length-drop}
use Rattle.theory_values.proofs.ByteLists.{are_bytes}
use Rattle.theory_verdicts.specs.Reading.{string_major, string_value}
use Rattle.cbor_parser.proofs.GivenParts.{expected-item, key-awaited, scalar-ends}
use Rattle.cbor_parser.proofs.GivenItems.{IsScalar, scalar-string, head-shorter}
use Rattle.cbor_parser.proofs.parser.Parser.take_string.Goals as goal
use Rattle.cbor_parser.{specs.inner.Parts.IsPayload, proofs.GivenKinds.begun-so, proofs.GivenKinds.scalar-begun}
use Rattle.cbor_parser.proofs.{KnownTexts.known-string, KnownTexts.sized, parser.Parser.take_string.Goals.In-Some}

payload : (g : _) (c : In-Some g) → IsPayload false c.args.is_text c.args.count c.in-Some.size c.args.following.now
payload g c =
    known-string g.row.S.Denot g.S.Sink.agrees g.S.Sink.trusts c.args.is_text c.args.top.now c.args.self.now.sink c.args.count c.in-Some.size c.args.rest.now c.args.following.now c.requires.head c.requires.expected (are_bytes c.args.following.now (λ i. omega (arith, c.type_inv.following i))) c.in-Some.ensures

scalar : (g : _) (c : In-Some g) → IsScalar c.args.rest.now (drop c.in-Some.size c.args.following.now) (string_value c.args.is_text (take c.in-Some.size c.args.following.now))
scalar g c = scalar-string c.args.is_text c.args.count c.in-Some.size c.args.rest.now c.args.following.now c.requires.head (payload g c) (are_bytes c.args.following.now (λ i. omega (arith, c.type_inv.following i)))

-- the number of bytes
used : (g : _) (c : In-Some g) → length c.args.rest.now - length c.args.following.now + c.in-Some.size + length (drop c.in-Some.size c.args.following.now) ≡ length c.args.rest.now
used g c =
    let within = (sized c.args.is_text c.args.count c.in-Some.size c.args.following.now (payload g c)).0 in
    omega (arith, within, length-drop c.in-Some.size c.args.following.now, head-shorter (string_major c.args.is_text) c.args.count c.args.rest.now c.args.following.now c.requires.head)

pub string-requires : goal.string-requires
string-requires g c =
    let (within, utf8) = sized c.args.is_text c.args.count c.in-Some.size c.args.following.now (payload g (goal.at.string-requires g c).In-Some) in
    λ n. ((refl, tt), (within, (utf8, expected-item g.row.S.Denot g.S.Sink.agrees g.S.Sink.trusts c.args.top.now c.args.self.now.sink c.args.rest.now c.is_key-is_key.result c.is_key-is_key.ensures c.requires.expected)))

pub returns-in-Ok-clause-takes : goal.returns-in-Ok-clause-takes
returns-in-Ok-clause-takes g c = λ d outer start input expected.
    let at = (goal.at.returns-in-Ok-clause-takes g c).In-Some in
    scalar-ends _ _ _ start d input (c.args.top.now ∷ outer) _ c.args.rest.now expected _ _ c.string.new.self _ (used g at) c.is_key-is_key.result (c.is_key-is_key.ensures ∙ key-awaited (length input) expected.ls c.args.top.now outer expected.cells) (scalar g at) c.in-Ok.ensures.given

pub returns-in-Ok-clause-prefix : goal.returns-in-Ok-clause-prefix
returns-in-Ok-clause-prefix g c = λ d o.
    let at = (goal.at.returns-in-Ok-clause-prefix g c).In-Some in
    begun-so d c.args.rest.now _ _ (used g at) (scalar-begun _ d c.args.rest.now _ (scalar g at))
