-- What is accepted: exactly an item at the start of the input, without complaint.
use Rattle.std.proofs.Common.{ℕ, ◌↔◌, List, [], ◌++◌, length, take, refl, sym, ap, ◌∙◌, subst, arith, append-nil}
use Rattle.cbor_head.specs.Prelude.{Rules, Complaint, IsComplaint, Bounds, Spelling, spell, IsVerdict, accepted}
use Rattle.cbor_head.specs.Laws.{IsAtStart, IsPrefixWithoutComplaint}
use Rattle.theory_values.proofs.{Complaints.complaint_within, Verdicts.whole_longest}

sound : (limits : Bounds) (r : Rules) (input : List ℕ) (s : Spelling) → IsVerdict limits r input (accepted s) → IsPrefixWithoutComplaint limits r input s
sound limits r input s v =
    let (same, whole, without) = v.decides in
    let at_start : IsAtStart limits.depth (take limits.bytes input) v.item v.longest.rest = (v.starts.spelled, v.starts.within, ap (λ (p : List ℕ). p ++ v.longest.rest) whole ∙ sym v.longest.splits) in
    let none : (c : Complaint) → IsComplaint limits r v.item c → ⊥ = λ c k. without c k (omega (arith, ap length whole, complaint_within limits r v.item c k)) in
    subst (IsPrefixWithoutComplaint limits r input) (sym same) (v.longest.rest, at_start, none)

accepts : (limits : Bounds) (r : Rules) (input : List ℕ) (s : Spelling) → IsPrefixWithoutComplaint limits r input s → IsVerdict limits r input (accepted s)
accepts limits r input s (rest, h, none) = record {
  p = spell s;
  longest = whole_longest limits.depth s (take limits.bytes input) rest (record { spelled = h.0; within = h.1; bytes_are = refl }) (sym h.2);
  item = s;
  rest = [];
  starts = record { spelled = h.0; within = h.1; bytes_are = sym (append-nil (spell s)) };
  decides = (refl, refl, λ c k l. none c k);
}

pub accepts_exactly : (limits : Bounds) (r : Rules) (input : List ℕ) (s : Spelling) → IsVerdict limits r input (accepted s) ↔ IsPrefixWithoutComplaint limits r input s
accepts_exactly limits r input s = (sound limits r input s, accepts limits r input s)
