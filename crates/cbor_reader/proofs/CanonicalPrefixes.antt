-- What a check for canonical bytes returns for a valid item.
use Rattle.std.proofs.Common.{ℕ, ◌≤◌, ◌≢◌, List, length, take, refl, sym, ap, ◌∙◌, arith, length-append}
use Rattle.std.proofs.Math.Seq.{take-append_seam}
use Rattle.cbor_head.specs.Prelude.{canonical, strict, Bounds, value_of}
use Rattle.cbor_head.specs.declared.reason.Reason.TheVariants as reasons
use Rattle.cbor_head.specs.declared.{order.KeyOrder.KeyOrder, reason.Reason.Reason}
use Rattle.theory_values.{proofs.PlainVerdicts.accepted_plainly, specs.StrictReasons.IsStrictReason}
use Rattle.theory_verdicts.{proofs.CanonicalPrefixes.strict_bytes, proofs.CanonicalPrefixes.strict_value, specs.Readers.IsRead, specs.Readers.IsCanonicalPrefix}
use Rattle.cbor_reader.specs.BuiltPrefix.{IsBuiltPrefix}

module _ (limits : Bounds) (o : KeyOrder) (input : List ℕ) where
  pub canonical_built : (count : ℕ) → IsRead limits (strict o) input count → IsBuiltPrefix limits o input (take count input) count
  canonical_built count r =
      let bytes_are = strict_bytes limits o input r.item r.verdict in
      let prefix = strict_value limits o input r.item r.verdict in
      record {
        read = record { item = r.item; verdict = accepted_plainly limits o input r.item r.verdict; size = r.size };
        canonical_is = ap (λ (n : ℕ). take n input) (r.size ∙ ap length bytes_are) ∙ ap (take (length (canonical o (value_of r.item)))) (sym prefix.begins)
            ∙ take-append_seam (canonical o (value_of r.item)) prefix.rest;
      }

  pub prefix_within : (count : ℕ) → IsCanonicalPrefix limits o input count → count ≤ length input
  prefix_within count h = omega (arith, h.size, ap length h.begins.begins, length-append (canonical o h.value) h.begins.rest)

-- what is refused for another reason is refused whatever the form
pub not-strict : (r : Reason) → r ≢ reasons.NotShortest → r ≢ reasons.Indefinite → r ≢ reasons.KeyOrder → ¬ IsStrictReason r
not-strict reasons.NotShortest no-head no-length no-order = λ _. no-head refl
not-strict reasons.Indefinite no-head no-length no-order = λ _. no-length refl
not-strict reasons.KeyOrder no-head no-length no-order = λ _. no-order refl
not-strict _ no-head no-length no-order = λ h. h
