-- What the refusal reports where a walk over the item at the start of an input stops.
use Rattle.std.proofs.Common.{◌≢◌, ℕ, List, take, refl, sym, ap, subst, inl, inr, arith}
use Rattle.cbor_head.specs.{Prelude.plain, Prelude.Bounds, declared.reason.Reason.Reason, declared.reason.Reason.TheVariants.Read}
use Rattle.cbor_head.specs.declared.reason.Refusal.{Refusal}
use Rattle.theory_verdicts.specs.Readers.{IsUnread, of_verdict, of_memory, ReportsMemoryAtStart}
use Rattle.theory_verdicts.proofs.Reasons.{never-read, never-memory, verdict-reason}
use Rattle.theory_verdicts.{specs.Refusals.IsReaderReason, proofs.SpelledBytes.longest_always}
use Rattle.cbor_parser.specs.ParsedItem.{IsStop}

pub record IsReportedAtStart (limits : Bounds) (input : List ℕ) (f : Refusal) : Type 0 where
  pub refused : IsUnread limits plain input f
  pub reason : IsReaderReason limits plain f.reason
  pub no_read : f.reason ≢ Read
  pub memory : ReportsMemoryAtStart f

pub reported_at_start : (limits : Bounds) (input : List ℕ) (f : Refusal) → IsStop limits input f → IsReportedAtStart limits input f
reported_at_start limits input f (inl v) = record {
  refused = of_verdict v;
  reason = elim (verdict-reason limits plain input f v) [ inl h ↦ inl h | inr h ↦ inr (inl h) ];
  no_read = never-read limits plain input f v;
  memory = λ e. absurd (never-memory limits plain input f v e);
}
reported_at_start limits input f (inr is) =
    let (p, longest) = longest_always limits.depth (take limits.bytes input) in
    let because = ap (λ (g : Refusal). g.reason) is in record {
      refused = subst (IsUnread limits plain input) (sym is) (of_memory p longest (omega arith) refl (λ s c starts complains. omega arith));
      reason = subst (IsReaderReason limits plain) (sym because) (inr (inr (inr refl)));
      no_read = subst (λ (r : Reason). r ≢ Read) (sym because) (λ e. cc e);
      memory = λ e. is;
    }
