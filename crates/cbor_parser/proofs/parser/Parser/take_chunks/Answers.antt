use Rattle.std.proofs.Common.{◌≡◌, ◌+◌, ◌-◌, ℕ, ◌∙◌, false, List, ◌∷◌, length, drop, inr, refl, ap, sym, subst, arith, length-append}
use Rattle.std.proofs.lemmas.List.{nil_from_length, take_rest}
use Rattle.cbor_head.specs.Prelude.{chunks_joined, spell}
use Rattle.theory_values.proofs.ByteLists.{are_bytes}
use Rattle.theory_verdicts.specs.Reading.{string_major, string_value}
use Rattle.cbor_parser.proofs.GivenParts.{expected-item, key-awaited, scalar-settles}
use Rattle.cbor_parser.proofs.Beginnings.{no-chunks-left, no-chunk-begins, next-chunks, chunks-left}
use Rattle.cbor_parser.proofs.Chunked.{AreChunks, no-chunks, chunk-expected, one-more, all-chunks}
use Rattle.cbor_parser.proofs.parser.Parser.take_chunks.Goals as goal
use Rattle.cbor_parser.proofs.parser.Parser.take_chunks.Goals.{After-begin_string, After-is_key-is_key, In-Some-payload_size, Then-first}
use Rattle.cbor_parser.specs.inner.{Begins.AreWholeChunks, Begins.NothingBegins, OpenContainer.Cell, Parser.IsExpected, Parser.HasCome}
use Rattle.cbor_parser.{specs.inner.Parts.IsHead, specs.inner.Parts.IsPayload, specs.Sink.IsItemExpected, proofs.GivenItems.IsScalar}
use Rattle.cbor_parser.proofs.{GivenKinds.scalar-begun, GivenKinds.begun-so, KnownTexts.known-chunk, KnownTexts.sized}

expected : (g : _) (c : After-is_key-is_key g) → IsItemExpected g.row.S.Denot g.S.Sink.agrees c.is_key-is_key.result c.args.self.now.sink
expected g c = expected-item g.row.S.Denot g.S.Sink.agrees g.S.Sink.trusts c.args.top.now c.args.self.now.sink c.args.start.now c.is_key-is_key.result c.is_key-is_key.ensures c.requires.expected

head : (g : _) (c : In-Some-payload_size g) → IsHead (string_major c.args.is_text) c.in-Some-chunk_head.head.number c.chunks.rest.now c.in-Some-chunk_head.head.rest.now
head g c = subst (λ (x : List ℕ). IsHead (string_major c.args.is_text) c.in-Some-chunk_head.head.number x c.in-Some-chunk_head.head.rest.now) (sym c.in-Some.ensures.cases.0) c.in-Some-chunk_head.ensures.some

payload : (g : _) (c : In-Some-payload_size g) → IsPayload false c.args.is_text c.in-Some-chunk_head.head.number c.in-Some-payload_size.size c.in-Some-chunk_head.head.rest.now
payload g c = known-chunk g.row.S.Denot g.S.Sink.agrees g.S.Sink.trusts c.args.is_text c.args.top.now c.args.self.now.sink _ _ c.args.start.now c.chunks.rest.now c.requires.expected c.chunks.invariant.chunks.read _ (head g c) c.in-Some-payload_size.ensures

-- at a break
whole : (g : _) (c : Then-first g) → IsScalar c.args.start.now c.in-Some.following.now (string_value c.args.is_text (chunks_joined c.chunks.invariant.chunks.read.done))
whole g c =
    all-chunks g.row.S.Denot g.S.Sink.agrees g.S.Sink.holds c.is_key-is_key.result c.args.is_text c.args.start.now c.args.self.now.sink c.chunks.rest.now c.chunks.self.sink c.chunks.invariant.chunks c.in-Some.following.now
    (c.in-Some.ensures.cases.0 ∙ ap (λ (x : ℕ). x ∷ c.in-Some.following.now) c.if-first.true)

used : (g : _) (c : Then-first g) → length c.args.start.now - length c.in-Some.following.now + length c.in-Some.following.now ≡ length c.args.start.now
used g c = let i = whole g c in omega (arith, ap length i.is, length-append (spell i.item) c.in-Some.following.now)

pub begin_string-requires : goal.begin_string-requires
begin_string-requires g c = λ k. ((refl, tt), expected g (goal.at.begin_string-requires g c).After-is_key-is_key)

pub end_string-requires : goal.end_string-requires
end_string-requires g c = λ k. ((refl, tt), chunk-expected _ g.S.Sink.agrees g.S.Sink.holds c.is_key-is_key.result c.args.is_text c.args.start.now c.args.self.now.sink c.chunks.rest.now c.chunks.self.sink c.chunks.invariant.chunks (expected g (goal.at.end_string-requires g c).After-is_key-is_key))

pub chunk-requires : goal.chunk-requires
chunk-requires g c =
    let (within, utf8) = sized c.args.is_text _ c.in-Some-payload_size.size c.in-Some-chunk_head.head.rest.now (payload g (goal.at.chunk-requires g c).In-Some-payload_size) in
    λ n. ((refl, tt), (within, (utf8, chunk-expected g.row.S.Denot g.S.Sink.agrees g.S.Sink.holds c.is_key-is_key.result c.args.is_text c.args.start.now c.args.self.now.sink c.chunks.rest.now c.chunks.self.sink c.chunks.invariant.chunks (expected g (goal.at.chunk-requires g c).After-is_key-is_key))))

pub chunks-preserved : goal.chunks-preserved
chunks-preserved g c =
    let at = (goal.at.chunks-preserved g c).In-Some-payload_size in
    record {
      chunks = subst (λ (x : List ℕ). AreChunks g.row.S.Denot g.S.Sink.agrees g.S.Sink.holds c.is_key-is_key.result c.args.is_text c.args.start.now x c.args.self.now.sink c.chunk.new.self) (sym (take_rest c.in-Some-chunk_head.head.rest.now c.in-Some-payload_size.size))
          (one-more _ _ _ c.is_key-is_key.result c.args.is_text _ _ c.chunks.rest.now c.chunks.self.sink c.chunks.invariant.chunks _ _ _ c.chunk.new.self (head g at) (payload g at) c.in-Ok-chunk.ensures.given);
      whole = λ h. subst (AreWholeChunks c.args.is_text) (sym (take_rest c.in-Some-chunk_head.head.rest.now c.in-Some-payload_size.size))
          (subst (λ (n : ℕ). AreWholeChunks c.args.is_text (drop n c.in-Some-chunk_head.head.rest.now)) (sym (payload g at).all) (next-chunks c.args.is_text c.chunks.rest.now _ _ (head g at) (c.chunks.invariant.whole h)).1);
    }

pub returns-in-Ok-end_string-clause-takes : goal.returns-in-Ok-end_string-clause-takes
returns-in-Ok-end_string-clause-takes g c = λ d outer start input expected.
    let reported = c.is_key-is_key.ensures ∙ key-awaited (length input) expected.ls c.args.top.now outer expected.cells in
    let s = c.chunks.invariant.chunks in
    let all = whole g (goal.at.returns-in-Ok-end_string-clause-takes g c).Then-first in
    scalar-settles _ _ _ start d input (c.args.top.now ∷ outer) _ _ expected c.in-Some.following.now _ c.end_string.new.self _ (used g (goal.at.returns-in-Ok-end_string-clause-takes g c).Then-first) all
    (λ k. c.in-Ok-end_string.ensures.given start d expected.ls (chunks_joined s.read.done) all.item (s.given start expected.ls (expected.given, reported)) reported k all.value_is)

pub chunks-init : goal.chunks-init
chunks-init g c = record {
  chunks = no-chunks g.row.S.Denot g.S.Sink.agrees g.S.Sink.holds c.is_key-is_key.result c.args.is_text c.args.start.now c.args.self.now.sink c.args.following.now c.begin_string.new.self c.requires.opener (are_bytes c.args.following.now (λ i. omega (arith, c.type_inv.following i))) c.in-Ok.ensures.given;
  whole = λ h. h;
}

pub returns-in-Ok-end_string-clause-prefix : goal.returns-in-Ok-end_string-clause-prefix
returns-in-Ok-end_string-clause-prefix g c = λ d o.
    let at = (goal.at.returns-in-Ok-end_string-clause-prefix g c).Then-first in
    begun-so d c.args.start.now _ _ (used g at) (scalar-begun _ d _ _ (whole g at))

-- the string is not whole
module _ (g : _) (c : After-begin_string g) (rest : List ℕ) (now : g.row.S.Denot) (s : AreChunks g.row.S.Denot g.S.Sink.agrees g.S.Sink.holds c.is_key-is_key.result c.args.is_text c.args.start.now rest c.args.self.now.sink now) where
  broken : (AreWholeChunks c.args.is_text c.args.following.now → ⊥) → (d : ℕ) (outer : List Cell) (start : g.row.S.Denot) (input : List ℕ) → IsExpected g.row.S.Denot g.S.Sink.agrees g.S.Sink.trusts start d input (c.args.top.now ∷ outer) c.args.self.now.sink c.args.start.now
      → HasCome g.row.S.Denot g.S.Sink.agrees g.S.Sink.trusts g.S.Sink.holds start d input (c.args.top.now ∷ outer) now c.args.start.now × NothingBegins c.args.start.now
  broken none d outer start input expected =
      let reported = c.is_key-is_key.ensures ∙ key-awaited (length input) expected.ls c.args.top.now outer expected.cells in (
        record {
          ls = expected.ls;
          levels = expected.levels;
          cells = expected.cells;
          given = inr (c.args.is_text, chunks_joined s.read.done, s.given start expected.ls (expected.given, reported));
          bytes = expected.bytes;
          small = expected.small;
          known = expected.known;
        },
        chunks-left _ c.args.following.now c.args.start.now c.requires.opener c.args.is_text refl none,
      )

pub returns-in_default-split_first-clause-takes : goal.returns-in_default-split_first-clause-takes
returns-in_default-split_first-clause-takes g c =
    let i = c.chunks.invariant in
    broken g (goal.at.returns-in_default-split_first-clause-takes g c).After-begin_string c.chunks.rest.now c.chunks.self.sink i.chunks
    (λ whole. no-chunks-left c.args.is_text c.chunks.rest.now (nil_from_length c.chunks.rest.now c.in_default-split_first.ensures.cases) (i.whole whole))

pub returns-in_default-chunk_head-clause-takes : goal.returns-in_default-chunk_head-clause-takes
returns-in_default-chunk_head-clause-takes g c =
    let i = c.chunks.invariant in
    broken g (goal.at.returns-in_default-chunk_head-clause-takes g c).After-begin_string c.chunks.rest.now c.chunks.self.sink i.chunks
    (λ whole. no-chunk-begins c.args.is_text c.chunks.rest.now c.in-Some.first.now c.in-Some.following.now c.in-Some.ensures.cases.0 c.if-first.false (c.in_default-chunk_head.ensures.none refl) (i.whole whole))

pub returns-in_default-payload_size-clause-takes : goal.returns-in_default-payload_size-clause-takes
returns-in_default-payload_size-clause-takes g c =
    let i = c.chunks.invariant in
    let head = subst (λ (x : List ℕ). IsHead (string_major c.args.is_text) c.in-Some-chunk_head.head.number x c.in-Some-chunk_head.head.rest.now) (sym c.in-Some.ensures.cases.0) c.in-Some-chunk_head.ensures.some in
    broken g (goal.at.returns-in_default-payload_size-clause-takes g c).After-begin_string c.chunks.rest.now c.chunks.self.sink i.chunks
    (λ whole. c.in_default-payload_size.ensures (next-chunks c.args.is_text c.chunks.rest.now _ _ head (i.whole whole)).0)
