use Rattle.std.proofs.{Common.arith, lemmas.Bool.false≢true, lemmas.Grind.common_steps}
use Rattle.cbor_head.specs.Prelude.{plain, Bounds, IsVerdict, refused}
use Rattle.cbor_head.specs.declared.reason.Refusal.{Refusal}
use Rattle.theory_verdicts.proofs.Accepted.{verdict_only}
use Rattle.naltvigo.proofs.sequence.check_next_item.Goals as goal
use Rattle.naltvigo.{proofs.Given.given-reported, proofs.OwnInputs.begins-at, specs.Settings.item_limits}

pub returns-in-Err-clause-checked : goal.returns-in-Err-clause-checked
returns-in-Err-clause-checked c = record {
  accepted = grind (arith, common_steps);
  own = λ v begins. absurd (false≢true (c.in-Err.ensures.own v
      (begins-at c.in-Some.limits (item_limits c.args.keys c.args.depth c.args.bytes) c.in-Some.ensures.value.0 c.args.input.now v begins)));
  refused = λ e.
      given-reported (λ (b : Bounds) (f : Refusal). IsVerdict b plain c.args.input.now (refused f)) c.in-Some.ensures.value.0
      record {
        why = c.in-Err.reason;
        holds = verdict_only c.in-Some.limits plain c.args.input.now c.in-Err.reason c.in-Err.ensures.refused c.in-Err.ensures.no_read (c.report.ensures.refused e);
        not_memory = c.report.ensures.refused e;
        reported = c.report.ensures.reported;
      };
  no_memory = grind (arith, common_steps);
  bad_limits = grind (arith, common_steps);
  in_range = grind (arith, common_steps);
  statuses = grind (arith, common_steps);
  no_count = grind (arith, common_steps);
  unreported = grind (arith, common_steps);
}
