-- Whether what follows some bytes may change the verdict on their first item.
use Rattle.std.proofs.Common.{ℕ, ◌-◌, ◌<◌, ◌≤◌, ◌≡◌, ◌≢◌, ◌∙◌, inr, true, false, eqb, List, [], ◌++◌, length, take, drop, Some, refl, sym, ap, subst, arith, append_assoc, append-nil, length-append, length-drop, take-append-drop, take_all}
use Rattle.std.proofs.{lemmas.Bool.Decides.Decides-eqb, Math.Seq.drop-append_seam, KnownBytes.Consumes-nil}
use Rattle.cbor_head.specs.Prelude.{Rules, form, Bounds, bounds, Spelling, IsItem, spell, IsComplaint, refusal, refused, IsVerdict}
use Rattle.cbor_head.specs.declared.reason.Reason.TheVariants as reasons
use Rattle.cbor_head.specs.declared.{reason.Refusal.Refusal, event.Event.Event}
use Rattle.theory_values.proofs.{Beginnings.item_decides, KindsUnasked.form_beside}
use Rattle.theory_automaton.{proofs.Runs.take-following, specs.Trace.Mark, specs.Marks.marks_of, specs.Reasons.IsMachineReason}
use Rattle.cbor_machine.specs.Machine.{Represents, IsComplete, IsGiven, IsRefused, KeepsLimits, wanted}
use Rattle.cbor_machine.{specs.MachineView.MachineView, specs.NextEvent.IsCut, specs.NextEvent.machine_call, proofs.Form.never, proofs.Form.refusal-verdict}
use Rattle.cbor_machine.proofs.{NextEvents.complete-wants, NextRefusals.cut-here}
use Rattle.theory_verdicts.specs.Readers as readers
use Rattle.theory_verdicts.proofs.Accepted.{one_item, one_refusal, not_both}
use Rattle.theory_verdicts.specs.Readers.{IsRead, IsUnread}
use Rattle.cborc_commands.{specs.inner.Decided.IsDecided, proofs.Within.read_within}

module _ (rules : Rules) (limits : Bounds) (bytes : List ℕ) where
  pub decided_of_item : (size : ℕ) → IsRead limits rules bytes size → eqb size (length bytes) ≡ false → IsDecided rules limits bytes
  decided_of_item size h differs = record {
    within = λ f v. absurd (not_both limits rules bytes h.item f h.verdict v);
    longer = λ s v.
        let same : s ≡ h.item = one_item limits rules bytes s h.item v h.verdict in
        omega (arith, ap (λ (t : Spelling). length (spell t)) same, h.size, apart, read_within limits rules bytes size h);
  }
    where
      apart : size ≢ length bytes
      apart e = let both : false ≡ true = sym differs ∙ (Decides-eqb size (length bytes)).1 e in cc both

  decided_of_refusal : (f : Refusal) → IsVerdict limits rules bytes (refused f) → f.reason ≢ reasons.Truncated → IsDecided rules limits bytes
  decided_of_refusal f v not_cut = record {
    within = λ g w e. not_cut (ap (λ (x : Refusal). x.reason) (one_refusal limits rules bytes f g v w) ∙ e);
    longer = λ s w. absurd (not_both limits rules bytes s f w v);
  }

  -- the item ends with the bytes
  pub undecided_of_item : (size : ℕ) → IsRead limits rules bytes size → eqb size (length bytes) ≡ true → ¬ IsDecided rules limits bytes
  undecided_of_item size h same = λ d. let shorter = d.longer h.item h.verdict in omega (arith, shorter, h.size, (Decides-eqb size (length bytes)).0 same)

  -- the bytes end within it
  undecided_of_refusal : (f : Refusal) → IsVerdict limits rules bytes (refused f) → f.reason ≡ reasons.Truncated → ¬ IsDecided rules limits bytes
  undecided_of_refusal f v cut = λ d. d.within f v cut

  -- by the check of an item
  pub decided_of_unread : (f : Refusal) → IsUnread limits rules bytes f → f.reason ≢ reasons.Truncated → f.reason ≢ reasons.Read → f.reason ≢ reasons.Memory → IsDecided rules limits bytes
  decided_of_unread f (readers.of_verdict v) not_cut not_read not_memory = decided_of_refusal f v not_cut
  decided_of_unread f (readers.of_reader e v) not_cut not_read not_memory = absurd (not_read (ap (λ (x : Refusal). x.reason) e))
  decided_of_unread f (readers.of_memory p l within e free) not_cut not_read not_memory = absurd (not_memory (ap (λ (x : Refusal). x.reason) e))

  pub undecided_of_unread : (f : Refusal) → IsUnread limits rules bytes f → f.reason ≡ reasons.Truncated → ¬ IsDecided rules limits bytes
  undecided_of_unread f (readers.of_verdict v) cut = undecided_of_refusal f v cut
  undecided_of_unread f (readers.of_reader e v) cut = let two : reasons.Read ≡ reasons.Truncated = sym (ap (λ (x : Refusal). x.reason) e) ∙ cut in cc two
  undecided_of_unread f (readers.of_memory p l within e free) cut = let two : reasons.Memory ≡ reasons.Truncated = sym (ap (λ (x : Refusal). x.reason) e) ∙ cut in cc two

-- ---- by the events of its form

-- The machine has consumed all bytes, and expects more.
undecided_amid : (limits : Bounds) (bytes : List ℕ) (m : MachineView) (ms : List Mark) → m.depth ≡ limits.depth → m.bytes ≡ limits.bytes → Represents m bytes ms
    → m.taken < m.bytes → 0 < wanted m → ¬ IsDecided form limits bytes
undecided_amid limits bytes m ms depth most agrees short wants =
    let f : Refusal = refusal reasons.Truncated (length bytes) (length bytes) in
    let here : Represents m (bytes ++ []) ms = subst (λ (xs : List ℕ). Represents m xs ms) (sym (append-nil bytes)) agrees in
    let cut : IsCut f (machine_call m m (Some []) (Some []) [] [] bytes ms) =
    cut-here f (machine_call m m (Some []) (Some []) [] [] bytes ms) (Some []) (record { bytes = []; consumed = Consumes-nil (Some []); agrees = here }) (Consumes-nil (Some []))
    (inr (refl, refl)) (ap (λ (n : ℕ). refusal reasons.Truncated n n) (sym agrees.taken)) short (complete-wants m agrees.inner.shown wants) in
    let none : cut.bytes ≡ [] = sym (append-nil cut.bytes) ∙ sym cut.consumed in
    let same : bytes ++ cut.bytes ≡ bytes = ap (λ (xs : List ℕ). bytes ++ xs) none ∙ append-nil bytes in
    undecided_of_refusal form limits bytes f
    (form_beside (bounds m.depth m.bytes) limits bytes (refused f) depth most
    (subst (λ (xs : List ℕ). IsVerdict (bounds m.depth m.bytes) form xs (refused (refusal reasons.Truncated (length xs) (length xs)))) same cut.verdict))
    refl

-- The machine has consumed the first of the bytes, and an item starts with them.
pub record IsWithinBytes (limits : Bounds) (bytes : List ℕ) (m : MachineView) : Type 0 where
  pub depth : m.depth ≡ limits.depth
  pub most : m.bytes ≡ limits.bytes
  pub taken : List ℕ
  pub following : List ℕ
  pub splits : bytes ≡ taken ++ following
  pub marks : List Mark
  pub agrees : Represents m taken marks

pub none_taken : (limits : Bounds) (bytes : List ℕ) (m : MachineView) → m.depth ≡ limits.depth → m.bytes ≡ limits.bytes → Represents m [] [] → IsWithinBytes limits bytes m
none_taken limits bytes m depth most starts = record { depth = depth; most = most; taken = []; following = bytes; splits = refl; marks = []; agrees = starts }

module _ (limits : Bounds) (bytes : List ℕ) (m : MachineView) (h : IsWithinBytes limits bytes m) where
  pub taken_within : m.taken ≤ length bytes
  taken_within = omega (arith, h.agrees.taken, ap length h.splits, length-append h.taken h.following)

  -- the bytes that are given to the next step
  given : (at : ℕ) → at ≡ m.taken → take (length bytes - at) (drop at bytes) ≡ h.following
  given at e =
      take_all (length bytes - at) (drop at bytes) (omega (arith, length-drop at bytes)) ∙ ap (λ (n : ℕ). drop n bytes) (e ∙ h.agrees.taken)
      ∙ ap (drop (length h.taken)) h.splits ∙ drop-append_seam h.taken h.following

  -- after each event
  pub event_taken : (new : MachineView) (at : ℕ) → at ≡ m.taken → (used : ℕ) (event : Event) → KeepsLimits m new
      → IsGiven event new h.taken (take used (take (length bytes - at) (drop at bytes))) h.marks → IsWithinBytes limits bytes new
  event_taken new at e used event keeps g = record {
    depth = keeps.depth ∙ h.depth;
    most = keeps.bytes ∙ h.most;
    taken = h.taken ++ take used (take (length bytes - at) (drop at bytes));
    following = drop used h.following;
    splits = h.splits ∙ ap (λ (xs : List ℕ). h.taken ++ xs) (sym (take-append-drop used h.following))
        ∙ sym (append_assoc h.taken (take used h.following) (drop used h.following))
        ∙ ap (λ (xs : List ℕ). (h.taken ++ take used xs) ++ drop used h.following) (sym (given at e));
    marks = h.marks ++ marks_of event.width event.kind;
    agrees = g.agrees;
  }

  -- the item is complete
  read_whole : IsComplete m → IsRead limits form bytes m.taken
  read_whole complete =
      let whole = h.agrees.complete.0 complete in
      let is = subst (λ (d : ℕ). IsItem d whole.0 h.taken) h.depth whole.1 in
      let size = ap length is.bytes_are in
      record {
        item = whole.0;
        verdict = item_decides (IsComplaint limits form) limits bytes (take (limits.bytes - length (spell whole.0)) h.following) whole.0
            (record { spelled = is.spelled; within = is.within; bytes_are = refl })
            (ap (take limits.bytes) (h.splits ∙ ap (λ (xs : List ℕ). xs ++ h.following) (sym is.bytes_are))
            ∙ take-following limits.bytes (spell whole.0) h.following (omega (arith, size, h.agrees.taken, h.agrees.limited, h.most)))
            (never limits whole.0);
        size = h.agrees.taken ∙ sym size;
      }

  pub decided_at_end : IsComplete m → eqb m.taken (length bytes) ≡ false → IsDecided form limits bytes
  decided_at_end complete = decided_of_item form limits bytes m.taken (read_whole complete)

  pub undecided_at_end : IsComplete m → eqb m.taken (length bytes) ≡ true → ¬ IsDecided form limits bytes
  undecided_at_end complete = undecided_of_item form limits bytes m.taken (read_whole complete)

  -- all bytes were used within it
  pub undecided_within : (new : MachineView) (at : ℕ) → at ≡ m.taken → (used : ℕ) → KeepsLimits m new
      → Represents new (h.taken ++ take used (take (length bytes - at) (drop at bytes))) h.marks → used ≡ length (take (length bytes - at) (drop at bytes))
      → new.taken < new.bytes → 0 < wanted new → ¬ IsDecided form limits bytes
  undecided_within new at e used keeps now all short wants =
      let rest = take (length bytes - at) (drop at bytes) in
      let whole : h.taken ++ take used rest ≡ bytes = ap (λ (xs : List ℕ). h.taken ++ xs) (take_all used rest (omega (arith, all)) ∙ given at e) ∙ sym h.splits in
      undecided_amid limits bytes new h.marks (keeps.depth ∙ h.depth) (keeps.bytes ∙ h.most) (subst (λ (xs : List ℕ). Represents new xs h.marks) whole now) short wants

  -- a byte is refused
  pub decided_by_refusal : (new : MachineView) (at : ℕ) → at ≡ m.taken → (used : ℕ) (f : Refusal) → KeepsLimits m new
      → IsRefused f new h.taken (take used (take (length bytes - at) (drop at bytes))) h.marks → IsMachineReason f.reason → IsDecided form limits bytes
  decided_by_refusal new at e used f keeps r reason =
      let v = refusal-verdict f new h.taken (take used (take (length bytes - at) (drop at bytes))) h.marks r (drop used h.following) in
      let whole : (h.taken ++ take used (take (length bytes - at) (drop at bytes))) ++ drop used h.following ≡ bytes =
      ap (λ (xs : List ℕ). (h.taken ++ take used xs) ++ drop used h.following) (given at e) ∙ append_assoc h.taken (take used h.following) (drop used h.following)
      ∙ ap (λ (xs : List ℕ). h.taken ++ xs) (take-append-drop used h.following) ∙ sym h.splits in
      decided_of_refusal form limits bytes f
      (form_beside (bounds new.depth new.bytes) limits bytes (refused f) (keeps.depth ∙ h.depth) (keeps.bytes ∙ h.most)
      (subst (λ (xs : List ℕ). IsVerdict (bounds new.depth new.bytes) form xs (refused f)) whole v))
      (λ cut. subst IsMachineReason cut reason)
