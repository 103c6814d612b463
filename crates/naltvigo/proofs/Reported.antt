-- Events that a machine gives, one after another.
use Rattle.std.proofs.Common.{◌≡◌, ◌⊎◌, ◌++◌, ◌∷◌, ◌∙◌, ℕ, List, [], refl, inl, inr, subst}
use Rattle.cbor_head.specs.declared.event.Event.{Event}
use Rattle.cbor_machine.specs.declared.step.Out.TheVariants as outs
use Rattle.cbor_machine.specs.{Machine.KeepsLimits, MachineView.MachineView, declared.step.Out.Out}
use Rattle.naltvigo.specs.Streaming.{AreReportedEvents, Gives, HasReturned, IsReportedEnd, IsReportedEvent, ReportsOn, none, one_more}
use Rattle.naltvigo.specs.declared.{status.NaltvigoRefusal.NaltvigoRefusal, streaming.NaltvigoEvent.NaltvigoEvent}

-- what holds between two steps
pub record HasGiven (old new : MachineView) (bs : List ℕ) (events : List NaltvigoEvent) : Type 0 where
  pub limits : KeepsLimits old new ⊎ (new ≡ old)
  pub given : List Event
  pub reported : AreReportedEvents given events
  pub gives : Gives old new bs given

keeps_on : (old mid new : MachineView) → KeepsLimits old mid ⊎ (mid ≡ old) → KeepsLimits mid new → KeepsLimits old new
keeps_on old mid new (inl k) h = record { depth = h.depth ∙ k.depth; bytes = h.bytes ∙ k.bytes; open_count = h.open_count; taken = h.taken }
keeps_on old mid new (inr e) h = subst (λ (m : MachineView). KeepsLimits m new) e h

reported_on : (es : List Event) (cs : List NaltvigoEvent) (e : Event) (c : NaltvigoEvent) → AreReportedEvents es cs → IsReportedEvent e c → AreReportedEvents (es ++ e ∷ []) (cs ++ c ∷ [])
reported_on [] [] e c reported is = (is, tt)
reported_on (x ∷ es) (y ∷ cs) e c reported is = (reported.0, reported_on es cs e c reported.1 is)
reported_on _ _ e c reported is = elim reported [ ]

pub nothing_given : (m : MachineView) → HasGiven m m [] []
nothing_given m = record { limits = inr refl; given = []; reported = tt; gives = none }

pub one_given : (old mid new : MachineView) (bs last : List ℕ) (cs : List NaltvigoEvent) (e : Event) (c : NaltvigoEvent) → HasGiven old mid bs cs → KeepsLimits mid new
    → HasReturned (outs.Event e) mid new last → IsReportedEvent e c → HasGiven old new (bs ++ last) (cs ++ c ∷ [])
one_given old mid new bs last cs e c so_far keeps is_returned is = record {
  limits = inl (keeps_on old mid new so_far.limits keeps);
  given = so_far.given ++ e ∷ [];
  reported = reported_on so_far.given cs e c so_far.reported is;
  gives = one_more mid new bs last so_far.given e so_far.gives is_returned;
}

pub no_further : (old mid new : MachineView) (bs last : List ℕ) (status : ℕ) (cs : List NaltvigoEvent) (r : NaltvigoRefusal) (out : Out) → HasGiven old mid bs cs
    → KeepsLimits mid new → IsReportedEnd out new status r → HasReturned out mid new last → ReportsOn old new (bs ++ last) status cs r
no_further old mid new bs last status cs r out so_far keeps is is_returned = record {
  limits = inl (keeps_on old mid new so_far.limits keeps);
  given = so_far.given;
  reported = so_far.reported;
  mid = mid;
  prefix = bs;
  last = last;
  splits = refl;
  gives = so_far.gives;
  ends = inr (out, is, is_returned);
}
