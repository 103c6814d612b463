-- What a walk finds at fault with a chunk, as with a string.
use Rattle.std.proofs.Common.{◌≡◌, ℕ, ◌+◌, ◌-◌, ◌/◌, ◌%◌, ◌≤◌, Bool, true, false, List, ◌∷◌, length, get_or, refl, ap, ◌∙◌, inl, inr, arith, length-append}
use Rattle.cbor_head.specs.{Prelude.major_number, Prelude.refusal, declared.major.Major.TheVariants.Simple, declared.reason.Reason.TheVariants.Truncated}
use Rattle.cbor_head.specs.{declared.reason.Refusal.Refusal, Argument.IsArgument, declared.argument.Argument.Argument}
use Rattle.theory_verdicts.proofs.RefusedChunks.{AreChunksRead, chunk_cut_here, no_text_chunk_here}
use Rattle.theory_verdicts.{specs.Reading.string_major, proofs.Leaves.chunks_bytes}
use Rattle.cbor_parser.specs.{Strings.IsStringFault, inner.Faults.AreChunksRefused, inner.Parts.IsHead, inner.Parts.chunked_from}
use Rattle.cbor_parser.proofs.GivenItems.{head-here}

pub chunk_fault_here : (t : Bool) (following rest : List ℕ) (s : AreChunksRead t (chunked_from t following) rest) (at : ℕ) (f : Refusal) (h : Argument) → IsHead (string_major t) h.number rest h.rest.now → (96 ≤ get_or rest 0 0 → t ≡ true)
    → IsStringFault rest h (at + 1 + length following - length rest) f → AreChunksRefused (chunked_from t following) at f
chunk_fault_here t following rest s at f h head text (inl x) = λ space.
    let end : at + 1 + length following - length rest + length rest ≡ at + 1 + length following = omega (arith, ap length s.bytes, length-append (chunks_bytes (string_major t) s.done) rest) in
    chunk_cut_here t (chunked_from t following) rest s space at (at + 1 + length following) (omega arith) f head.width h.number h.rest.now head.is head.holds (x.is ∙ ap (λ (n : ℕ). refusal Truncated n n) end) x.less
chunk_fault_here t following rest s at f h head text (inr x) = λ space.
    no_text_chunk_here t (chunked_from t following) rest s space at (at + 1 + length following) (omega arith) f head.width h.number h.rest.now head.is head.holds x.is (text x.text) x.inside x.none

-- ---- a chunk by its first byte

module _ (t : Bool) (rest : List ℕ) (first : ℕ) (more : List ℕ) (is : rest ≡ first ∷ more) (high : first / 32 ≡ major_number (string_major t)) where
  no-simple : (t : Bool) → string_major t ≡ Simple → ⊥
  no-simple true e = cc e
  no-simple false e = cc e

  pub chunk-head : (h : Argument) → IsArgument (first % 32) more h.width h.number h.rest.now → IsHead (string_major t) h.number rest h.rest.now
  chunk-head h a = head-here (string_major t) first more h.rest.now h.width h.number a (omega (arith, high)) (λ e. absurd (no-simple t e)) rest is

  pub chunk-text : t ≡ true → 96 ≤ get_or rest 0 0
  chunk-text e = let text : first / 32 ≡ 3 = high ∙ ap (λ (u : Bool). major_number (string_major u)) e in omega (arith, text, ap (λ (xs : List ℕ). get_or xs 0 0) is)

  pub text-chunk : 96 ≤ get_or rest 0 0 → t ≡ true
  text-chunk l = go t high
    where
      go : (u : Bool) → first / 32 ≡ major_number (string_major u) → u ≡ true
      go true e = refl
      go false e = absurd (omega (arith, l, e, ap (λ (xs : List ℕ). get_or xs 0 0) is))
