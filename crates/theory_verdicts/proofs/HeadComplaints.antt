-- A complaint of the rules about a head comes before all others about its item.
use Rattle.std.proofs.Common.{◌≡◌, ◌≢◌, ℕ, ◌+◌, ◌≤◌, Some, length, refl, IsTrue}
use Rattle.cbor_head.specs.Prelude.{Rules, plain, complaint, OfHead, Holds, head, shortest}
use Rattle.cbor_head.specs.declared.reason.Reason.TheVariants.{NotShortest, Indefinite as IndefiniteReason}
use Rattle.cbor_head.specs.declared.{major.Major.Major, width.Width.Width, width.Width.TheVariants.Indefinite}
use Rattle.theory_automaton.proofs.Taking.{IsNumbered}
use Rattle.theory_verdicts.proofs.Heads.{takes, headed, IsOpener, opened, head_judged}
use Rattle.theory_verdicts.{specs.Judged.IsJudged, specs.Judged.Never, proofs.Items.is-definite, proofs.Items.head-count}

-- longer than it need be
pub not_shortest : (r : Rules) → IsTrue r.heads → (at d : ℕ) (m : Major) (w : Width) (n : ℕ) → IsNumbered m → Holds w n → takes m ≤ d → w ≢ shortest n
    → IsJudged r at d (head m w n) (Some (complaint (at + length (head m w n)) at NotShortest))
not_shortest r heads at d m w n i h l long = head_judged r at d m w n _ (headed d m w n i h l) (head-count r at m w n (complaint (at + length (head m w n)) at NotShortest) (is-definite w n h) (heads, long, refl))

-- otherwise it has no complaint
pub shortest_clean : (r : Rules) (at : ℕ) (m : Major) (w : Width) (n : ℕ) → w ≡ shortest n → Never (OfHead r at m w n)
shortest_clean r at m w n e c h = h.1 e

-- the plain rules require nothing of heads
pub heads_free : (at : ℕ) (m : Major) (w : Width) (n : ℕ) → Never (OfHead plain at m w n)
heads_free at m w n c h = cc h.0

-- ---- an opener without length

pub indefinite_length : (r : Rules) → IsTrue r.heads → (at d : ℕ) (m : Major) → IsOpener m d → IsJudged r at d (head m Indefinite 0) (Some (complaint (at + 1) at IndefiniteReason))
indefinite_length r heads at d m i = head_judged r at d m Indefinite 0 (complaint (at + 1) at IndefiniteReason) (opened d m 0 i) (heads, refl)
