-- Why an input does not begin with a canonical item, from what the walk over it reports.
use Rattle.std.proofs.Common.{◌≡◌, ◌≢◌, ℕ, List, take, refl, inl, inr, sym, ◌∙◌, subst}
use Rattle.cbor_head.specs.Prelude.{plain, strict, Bounds, IsVerdict, refused, refusal}
use Rattle.cbor_head.specs.declared.order.KeyOrder as orders
use Rattle.cbor_head.specs.declared.reason.{Reason.Reason, Reason.TheVariants.Truncated, Reason.TheVariants.RepeatedKey, Refusal.Refusal}
use Rattle.theory_values.proofs.PlainVerdicts.{refused_plainly}
use Rattle.theory_verdicts.specs.Stop.{RepeatsKey, IsStopped, IsRefused, IsReportedAs}
use Rattle.theory_verdicts.proofs.{Reasons.never-given, PathVerdict.complaint_stops, PathVerdict.stopped}
use Rattle.cbor_parser.specs.NotCanonical.{strict_reason, IsNotCanonical}

same_reason : (r : Reason) → r ≢ RepeatedKey → strict_reason r ≡ r
same_reason RepeatedKey apart = absurd (apart refl)
same_reason _ apart = refl

module _ (o : orders.KeyOrder) (limits : Bounds) (input : List ℕ) where
  -- ---- the verdict

  stop_reported : (f : Refusal) → IsStopped (strict o) limits (take limits.bytes input) f → (g : Refusal) → IsReportedAs limits.bytes (take limits.bytes input) f g → IsNotCanonical limits o input g
  stop_reported f h g a =
      let v = stopped (strict o) limits input f h g a in
      let other : g.reason ≢ RepeatedKey = never-given limits (strict o) input g RepeatedKey (λ x. x) (λ x. cc x) (λ e. cc e) v in
      record {
        strictly = subst (λ (r : Reason). IsVerdict limits (strict o) input (refused (refusal r g.place g.read))) (sym (same_reason g.reason other)) v;
        plainly = λ apart. refused_plainly limits o input g apart v;
      }

  repeat_reported : (f : Refusal) → RepeatsKey o limits (take limits.bytes input) f → IsNotCanonical limits o input f
  repeat_reported f h = record {
    strictly = subst (λ (r : Reason). IsVerdict limits (strict o) input (refused (refusal (strict_reason r) f.place f.read))) (sym h.is) (complaint_stops (strict o) limits input _ h.strictly);
    plainly = λ apart. complaint_stops plain limits input f h.plainly;
  }

  -- this is the result for an input, within n bytes
  pub not_canonical : (f : Refusal) → IsRefused o limits (take limits.bytes input) f → (g : Refusal) → IsReportedAs limits.bytes (take limits.bytes input) f g → IsNotCanonical limits o input g
  not_canonical f (inl h) g a = stop_reported f h g a
  not_canonical f (inr h) g a =
      let no_end : f.reason ≡ Truncated → ⊥ = λ e. (let same : RepeatedKey ≡ Truncated = sym h.is ∙ e in cc same) in
      subst (IsNotCanonical limits o input) (sym (a.same (λ e. absurd (no_end e)))) (repeat_reported f h)
