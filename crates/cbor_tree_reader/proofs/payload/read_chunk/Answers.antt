use Rattle.std.proofs.Common.{◌≡◌, ◌+◌, ◌-◌, length, take, drop, ap, ◌∙◌, arith, true≢false, sym}
use Rattle.std.{proofs.lemmas.List.take_rest, specs.Str.Lossy.utf8_valid_len}
use Rattle.cbor_head.specs.{Prelude.refusal, declared.reason.Reason.TheVariants.InvalidText}
use Rattle.theory_verdicts.proofs.Payloads.{payload-stops, grown-length, chunk-is-text, chunk-no-text}
use Rattle.cbor_tree_reader.proofs.payload.read_chunk.Goals as goal

-- the part from there to the end
pub returns-in-Err-clause-payload : goal.returns-in-Err-clause-payload
returns-in-Err-clause-payload g c = λ b chunk m fs t a. payload-stops b t c.args.count c.args.text _ _ c.in-Err.refusal (c.in-Err.ensures.payload b chunk m fs t a)

pub returns-then-not-text-clause-payload : goal.returns-then-not-text-clause-payload
returns-then-not-text-clause-payload g c = λ b chunk m fs t a. ((c.in-Ok.ensures.payload b chunk m fs t a).0, λ e. absurd (true≢false (sym e ∙ c.if-not-text.true)))

pub slice_bounds-check_text-count : goal.slice_bounds-check_text-count
slice_bounds-check_text-count g c =
    let s = c.requires in
    let grown = grown-length s.b _ s.t c.args.count c.args.into.now.items c.read_payload.new.into.items _ _ c.read_payload.new.events (c.in-Ok.ensures.payload s.b s.chunk s.m s.fs s.t s.at).0 in
    let old : c.len-from.result ≡ length c.args.into.now.items = c.len-from.ensures ∙ c.args.into.now.ok.0 in
    omega (arith, grown, old, ap length c.deref.ensures.value)

pub slice_bounds-check_text-start : goal.slice_bounds-check_text-start
slice_bounds-check_text-start g c = slice_bounds-check_text-count g c

pub returns-in-Ok-check_text-clause-payload : goal.returns-in-Ok-check_text-clause-payload
returns-in-Ok-check_text-clause-payload g c = λ b chunk m fs t a.
    let reads = (c.in-Ok.ensures.payload b chunk m fs t a).0 in
    let old : c.len-from.result ≡ length c.args.into.now.items = c.len-from.ensures ∙ c.args.into.now.ok.0 in (
      reads,
      λ e. chunk-is-text b _ t c.args.count c.args.into.now.items c.read_payload.new.into.items _ _ c.read_payload.new.events reads (take (length c.deref.result.now - c.len-from.result) (drop c.len-from.result c.deref.result.now))
          (take_rest c.deref.result.now c.len-from.result ∙ ap (λ n. drop n c.deref.result.now) old ∙ ap (drop (length c.args.into.now.items)) c.deref.ensures.value) c.in-Ok-check_text.ensures.checked,
    )

pub returns-in-Err-check_text-clause-payload : goal.returns-in-Err-check_text-clause-payload
returns-in-Err-check_text-clause-payload g c = λ b chunk m fs t a.
    let reads = (c.in-Ok.ensures.payload b chunk m fs t a).0 in
    let old : c.len-from.result ≡ length c.args.into.now.items = c.len-from.ensures ∙ c.args.into.now.ok.0 in
    let place : c.taken-place.result ≡ length t = c.taken-place.ensures.taken ∙ a.agrees.agrees.taken in
    let xs = take (length c.deref.result.now - c.len-from.result) (drop c.len-from.result c.deref.result.now) in
    chunk-no-text b _ t c.args.count c.args.into.now.items c.read_payload.new.into.items _ _ c.read_payload.new.events reads xs c.args.text _
    (take_rest c.deref.result.now c.len-from.result ∙ ap (λ n. drop n c.deref.result.now) old ∙ ap (drop (length c.args.into.now.items)) c.deref.ensures.value) c.in-Err-check_text.ensures.checked.0 c.if-not-text.false
    (c.new.ensures ∙ ap (λ n. refusal InvalidText (n + c.in-Err-check_text.valid) c.taken.result) place ∙ ap (λ n. refusal InvalidText (length t + n) c.taken.result) c.in-Err-check_text.ensures.checked.1
    ∙ ap (refusal InvalidText (length t + utf8_valid_len xs)) c.taken.ensures.taken)
