-- What is found of an item is found of the open containers around it, where nothing before it has a complaint.
use Rattle.std.proofs.Common.{ℕ, suc, ◌+◌, ◌≡◌, Option, List, [], ◌∷◌, ◌++◌, length, sym, arith, subst, inl, inr, length-append, append_assoc}
use Rattle.cbor_head.specs.Prelude.{Rules, Complaint}
use Rattle.theory_verdicts.specs.OpenMaps.{before_all, ArePath, AreClosedClean, AreOpenDistinct}
use Rattle.theory_verdicts.{specs.Frame.Frame, specs.Frame.before, specs.Judged.IsJudged, proofs.Judged.judged_in, proofs.OpenKeys.prefix_apart}

-- ---- all containers

-- of one container more around them
around : (f : Frame) (fs : List Frame) (r : Rules) (at d : ℕ) (p : List ℕ) (found : Option Complaint) → IsJudged r at (suc (length fs + d)) (before f ++ (before_all fs ++ p)) found
    → IsJudged r at (length (f ∷ fs) + d) (before_all (f ∷ fs) ++ p) found
around f fs r at d p found j =
    let level : suc (length fs + d) ≡ suc (length fs) + d = omega arith in
    subst (λ (k : ℕ). IsJudged r at k ((before f ++ before_all fs) ++ p) found) level
    (subst (λ (u : List ℕ). IsJudged r at (suc (length fs + d)) u found) (sym (append_assoc (before f) (before_all fs) p)) j)

-- Where no open map has one, what is found of the item is found of the whole.
pub judged_within : (fs : List Frame) (r : Rules) (at to d : ℕ) (p : List ℕ) (found : Option Complaint) → to ≡ at + length (before_all fs) → ArePath d fs → AreClosedClean r at fs → AreOpenDistinct r at fs
    → IsJudged r to d p found → IsJudged r at (length fs + d) (before_all fs ++ p) found
judged_within [] r at to d p found e h clean none j =
    let here : to ≡ at = omega (arith, e) in
    let level : d ≡ 0 + d = omega arith in
    subst (λ (k : ℕ). IsJudged r at k p found) level (subst (λ (k : ℕ). IsJudged r k d p found) here j)
judged_within (f ∷ fs) r at to d p found e h clean none j =
    let next = at + length (before f) in
    let deeper = judged_within fs r next to d p found (omega (arith, e, length-append (before f) (before_all fs))) h.2 clean.1 none.1 j in
    around f fs r at d p found (judged_in f r at (length fs + d) h.0 h.1 (λ c g. elim (prefix_apart f r at c g) [ inl x ↦ clean.0 c x | inr x ↦ none.0 c x ]) (before_all fs ++ p) found deeper)
