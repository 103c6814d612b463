use Rattle.std.proofs.Common.{ℕ, ◌∷◌, ◌∙◌, ◌+◌, Bool, length, refl, sym, ap, subst, arith}
use Rattle.std.proofs.lemmas.List.{nil_from_length, take_rest}
use Rattle.cbor_head.specs.Prelude.{major_number}
use Rattle.theory_values.proofs.ByteLists.{are_bytes}
use Rattle.theory_verdicts.proofs.RefusedChunks.{AreChunksRead, chunks_end_here, chunk_head_cut_here, no_chunk_here}
use Rattle.theory_verdicts.specs.Reading.{string_major}
use Rattle.cbor_parser.proofs.ChunkStops.{chunk_fault_here, chunk-head, chunk-text, text-chunk}
use Rattle.cbor_parser.proofs.chunk_refusal.chunks_fault.Goals as goal
use Rattle.cbor_parser.proofs.chunk_refusal.chunks_fault.Goals.{then-is_text, else-is_text, then-first-kind-via-then-first-kind, then-first-kind-via-else-first-kind+then-low-gt27}
use Rattle.cbor_parser.specs.inner.Begins.{AreWholeChunks, at_break, a_chunk}
use Rattle.cbor_parser.{specs.inner.Parts.chunked_from, proofs.Chunked.none-read, proofs.Chunked.one-read}

pub chunks-init : goal.chunks-init
chunks-init c = record {
  read = (none-read c.args.is_text c.args.following.now (are_bytes c.args.following.now (λ i. omega (arith, c.type_inv.following i)))).0;
  whole = λ h. h;
  kind = elim c.if-is_text.branch [
    | then-is_text w ↦ w.kind-is ∙ ap (λ (t : Bool). major_number (string_major t)) (sym w.if-is_text.true)
    | else-is_text w ↦ w.kind-is ∙ ap (λ (t : Bool). major_number (string_major t)) (sym w.if-is_text.false)
  ];
}

pub returns-in_default : goal.returns-in_default
returns-in_default c = λ space.
    let a = c.args in
    chunks_end_here a.is_text (chunked_from a.is_text a.following.now) c.chunks.rest.now c.chunks.invariant.read space a.at (a.at + 1 + length a.following.now) (omega arith) c.refusal_at.result c.refusal_at.ensures (nil_from_length c.chunks.rest.now c.in_default.ensures.cases)

pub returns-then-first : goal.returns-then-first
returns-then-first c = c.chunks.invariant.whole (at_break c.chunks.rest.now c.in-Some.following.now (c.in-Some.ensures.cases.0 ∙ ap (λ (x : ℕ). x ∷ c.in-Some.following.now) c.if-first.true))

pub returns-then-first-kind : goal.returns-then-first-kind
returns-then-first-kind c = λ space.
    let a = c.args in
    let s = c.chunks.invariant in
    no_chunk_here a.is_text (chunked_from a.is_text a.following.now) c.chunks.rest.now s.read space a.at (a.at + 1 + length a.following.now) (omega arith) c.refusal_at-then-first-kind.result c.in-Some.first.now c.in-Some.following.now c.in-Some.ensures.cases.0
    c.refusal_at-then-first-kind.ensures c.if-first.false (λ e. elim c.then-first-kind.branch [
      | then-first-kind-via-then-first-kind w ↦ absurd (w.if-first-kind.true (e ∙ sym s.kind))
      | then-first-kind-via-else-first-kind+then-low-gt27 w ↦ w.if-low-gt27.true
    ])

pub returns-in_default-read_argument : goal.returns-in_default-read_argument
returns-in_default-read_argument c = λ space.
    let a = c.args in
    let s = c.chunks.invariant in
    let low = c.if-low-gt27.false in
    let none = c.in_default-read_argument.ensures in
    chunk_head_cut_here a.is_text (chunked_from a.is_text a.following.now) c.chunks.rest.now s.read space a.at (a.at + 1 + length a.following.now) (omega arith) c.refusal_at-in_default-read_argument.result c.in-Some.first.now c.in-Some.following.now c.in-Some.ensures.cases.0
    c.refusal_at-in_default-read_argument.ensures (c.if-first-kind.false ∙ s.kind) (none.long refl) (omega (arith, low)) (none.cut refl (omega (arith, low)))

pub returns-in-Some-string_refusal : goal.returns-in-Some-string_refusal
returns-in-Some-string_refusal c =
    let t = c.args.is_text in
    let s = c.chunks.invariant in
    let rest = c.chunks.rest.now in
    let first = c.in-Some.first.now in
    let following = c.in-Some.following.now in
    let split = c.in-Some.ensures.cases.0 in
    let high = c.if-first-kind.false ∙ s.kind in
    let h = c.in-Some-read_argument.head in
    chunk_fault_here t c.args.following.now rest s.read c.args.at c.in-Some-string_refusal.refusal h (chunk-head t rest first following split high h c.in-Some-read_argument.ensures.spelled) (text-chunk t rest first following split high) c.in-Some-string_refusal.ensures

pub chunks-preserved : goal.chunks-preserved
chunks-preserved c =
    let t = c.args.is_text in
    let s = c.chunks.invariant in
    let rest = c.chunks.rest.now in
    let first = c.in-Some.first.now in
    let following = c.in-Some.following.now in
    let split = c.in-Some.ensures.cases.0 in
    let high = c.if-first-kind.false ∙ s.kind in
    let h = c.in-Some-read_argument.head in
    let found = c.in_default-string_refusal.ensures in
    record {
      read = subst (AreChunksRead t (chunked_from t c.args.following.now)) (sym (take_rest h.rest.now h.number))
          (one-read t (chunked_from t c.args.following.now) rest s.read h.number h.rest.now (chunk-head t rest first following split high h c.in-Some-read_argument.ensures.spelled) found.inside (λ e. found.utf8 (chunk-text t rest first following split high e))).0;
      whole = λ more. s.whole (a_chunk rest h.number h.rest.now (chunk-head t rest first following split high h c.in-Some-read_argument.ensures.spelled) found.inside (λ e. found.utf8 (chunk-text t rest first following split high e)) (subst (AreWholeChunks t) (take_rest h.rest.now h.number) more));
      kind = s.kind;
    }
