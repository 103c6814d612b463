-- What is found of the item that is expected is reported of the whole input.
use Rattle.std.proofs.Common.{◌≡◌, ℕ, ◌+◌, ◌-◌, ◌<◌, Option, Some, None, List, [], ◌∷◌, ◌++◌, length, refl, sym, ap, ◌∙◌, subst, append_assoc, append-nil}
use Rattle.cbor_head.specs.Prelude.{Rules, Complaint, Bounds, AreBytes, refusal}
use Rattle.cbor_head.specs.declared.reason.Reason.{Reason, TheVariants.Truncated}
use Rattle.theory_values.proofs.ByteLists.{bytes_prefix, bytes_back}
use Rattle.theory_automaton.specs.Automaton.{State, at_item, refuses, take_byte, run, reached}
use Rattle.theory_automaton.{specs.Trace.Mark, proofs.Refusals.IsUnfinished, proofs.Refusals.refuses-rightly, proofs.Runs.run-on}
use Rattle.theory_verdicts.specs.Path.{Level, bytes_before, AreClean}
use Rattle.theory_verdicts.specs.Stop.{HasComplaint, HasBadByte, EndsWithin}
use Rattle.theory_verdicts.{specs.Judged.IsJudged, specs.Kinds.KeepsToKinds, specs.Kinds.IsOfOneHead, proofs.KindBytes.judged_begins, specs.PathKinds.KeepsHere}
use Rattle.theory_verdicts.proofs.{PathForm.containers, PathForm.path_run, PathKinds.keeps_begun, PathLevels.judged_path}

-- x is what was read of the item, of one head or of an item without members, and y follows
module _ (r : Rules) (limits : Bounds) (ls : List Level) (clean : AreClean r limits.depth ls) (b x y : List ℕ) (splits : b ≡ bytes_before ls ++ (x ++ y)) (kept : KeepsHere limits r ls x) (one : IsOfOneHead x) where
  prefix : b ≡ (bytes_before ls ++ x) ++ y
  prefix = splits ∙ sym (append_assoc (bytes_before ls) x y)

  keeps : (found : Option Complaint) → IsJudged r (length (bytes_before ls)) (limits.depth - length ls) x found → KeepsToKinds limits r (bytes_before ls ++ x)
  keeps found j = keeps_begun limits r ls clean x (judged_begins r (length (bytes_before ls)) (limits.depth - length ls) x found j) one kept

  pub complaint_here : (c : Complaint) → IsJudged r (length (bytes_before ls)) (limits.depth - length ls) x (Some c) → HasComplaint r limits b (refusal c.reason c.place c.end)
  complaint_here c j = record { p = bytes_before ls ++ x; rest = y; splits = prefix; complaint = c; judged = judged_path r limits.depth ls clean x (Some c) j; keeps = keeps (Some c) j; is = refl }

  module _ (j : IsJudged r (length (bytes_before ls)) (limits.depth - length ls) x None) where
    pub end_here : y ≡ [] → EndsWithin r limits b (refusal Truncated (length b) (length b))
    end_here none =
        let all : bytes_before ls ++ x ≡ b = sym (append-nil (bytes_before ls ++ x)) ∙ ap (λ (z : List ℕ). (bytes_before ls ++ x) ++ z) (sym none) ∙ sym prefix in
        record { judged = subst (λ (z : List ℕ). IsJudged r 0 limits.depth z None) all (judged_path r limits.depth ls clean x None j); keeps = subst (KeepsToKinds limits r) all (keeps None j); is = refl }

    pub bad_byte_here : (byte : ℕ) (rest : List ℕ) (q : State) (ms : List Mark) (reason : Reason) → y ≡ byte ∷ rest → AreBytes b → run limits.depth (at_item (containers ls)) x ≡ reached q ms → IsUnfinished q
        → take_byte limits.depth q byte ≡ refuses reason → HasBadByte r limits b (refusal reason (length (bytes_before ls ++ x)) (length (bytes_before ls ++ x) + 1))
    bad_byte_here byte rest q ms reason e are leads unfinished refused =
        let p = bytes_before ls ++ x in
        let is : b ≡ p ++ byte ∷ rest = prefix ∙ ap (λ (z : List ℕ). p ++ z) e in
        let all : AreBytes (p ++ byte ∷ rest) = subst AreBytes is are in
        let small : byte < 256 = (bytes_back p (byte ∷ rest) all).0 in
        let path = path_run r limits.depth ls clean in
        let whole = run-on limits.depth (bytes_before ls) x (at_item (containers ls)) q path.0 ms path.1 leads in
        let why = refuses-rightly limits.depth p q _ byte reason (bytes_prefix p (byte ∷ rest) all) small whole unfinished refused in
        record { p = p; byte = byte; rest = rest; splits = is; judged = judged_path r limits.depth ls clean x None j; keeps = keeps None j; cannot_follow = why.0; reason = why.1; is = refl }
