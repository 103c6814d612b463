-- Why the next event is refused, after one read after another.
use Rattle.std.proofs.Common.{◌≡◌, ℕ, ◌+◌, ◌<◌, ◌≤◌, ◌⊎◌, inl, inr, List, [], ◌∷◌, ◌++◌, length, refl, sym, ap, subst, ◌∙◌, arith, append-nil, append_assoc, length-append, take, take_all, Option}
use Rattle.std.{specs.Io.KnownBytes.Consumes, specs.Io.KnownBytes.IsAtEnd, proofs.KnownBytes.Consumes-trans}
use Rattle.cbor_head.specs.Prelude.{Bounds, bounds, AreBytes, IsBeginning, IsItem, form, refusal, refused, IsVerdict}
use Rattle.cbor_head.specs.declared.reason.Reason.TheVariants.{Read, Truncated, TooLong}
use Rattle.cbor_head.specs.declared.reason.{Reason.Reason, Refusal.Refusal}
use Rattle.theory_values.proofs.ByteLists.{bytes_join, bytes_prefix, bytes_back}
use Rattle.theory_values.proofs.Verdicts.{item_one}
use Rattle.theory_automaton.specs.Automaton.{State, start, take_byte, run, reached}
use Rattle.theory_automaton.proofs.Runs.{run-on, silent-unfinished, sane-run}
use Rattle.theory_automaton.{specs.Trace.Mark, proofs.Refusals.IsUnfinished, proofs.Refusals.refuses-rightly}
use Rattle.cbor_machine.specs.Machine.{Represents, IsComplete, IsWhole, before, IsRefused}
use Rattle.cbor_machine.specs.Steps.{Ran, Stopped, IsStep}
use Rattle.cbor_machine.specs.NextEvent.{Call, IsCut, IsTooLong, HasFormError}
use Rattle.cbor_machine.specs.declared.step.Out.TheVariants as outs
use Rattle.cbor_machine.proofs.MachineStates.{meant, not-whole, shown-before, shown-after, unfinished-position}
use Rattle.cbor_machine.specs.{State.state_of, State.is_done, inner.Machine.IsShown, MachineView.MachineView, Calls.HasRead}
use Rattle.cbor_machine.proofs.Form.{never, refusal-verdict}

-- a beginning that is the whole input, within the limit, and not an item
cut-verdict : (limits : Bounds) (p : List ℕ) → IsBeginning limits.depth p → ¬ IsWhole limits.depth p → length p < limits.bytes → IsVerdict limits form p (refused (refusal Truncated (length p) (length p)))
cut-verdict limits p b unfinished short =
    let all : take limits.bytes p ≡ p = take_all limits.bytes p (omega arith) in
    record {
      p = p;
      longest = record { beginning = b; rest = []; splits = all ∙ sym (append-nil p); longest = λ q r h e. omega (arith, ap length (sym all ∙ e), length-append q r) };
      item = b.0;
      rest = b.1;
      starts = b.2;
      decides = inr (
        λ c h e. never limits b.0 c h,
        λ e. unfinished (b.0, record { spelled = b.2.spelled; within = b.2.within; bytes_are = e }),
        inr (short, refl),
      );
    }

-- if the item is not complete now, it was not complete before the read
pub still-expected : (from to : Option (List ℕ)) (old mid : MachineView) (t : List ℕ) (ms : List Mark) → Represents old t ms → HasRead from to mid t ms → mid.depth ≡ old.depth → ¬ IsComplete mid → ¬ IsComplete old
still-expected from to old mid t ms h r depth going = λ c.
    let w = h.complete.0 c in
    let b = r.agrees.beginning in
    let first : IsItem mid.depth w.0 t = subst (λ d. IsItem d w.0 t) (sym depth) w.1 in
    let none = item_one mid.depth w.0 b.0 t (r.bytes ++ b.1) first (subst (IsItem mid.depth b.0) (append_assoc t r.bytes b.1) b.2) in
    going (r.agrees.complete.1 (w.0, subst (IsItem mid.depth w.0) (sym (ap (λ xs. t ++ xs) (empty r.bytes b.1 none.1) ∙ append-nil t)) first))
  where
    empty : (xs ys : List ℕ) → xs ++ ys ≡ [] → xs ≡ []
    empty [] ys e = refl
    empty (x ∷ xs) ys e = absurd (cc e)

pub cut-is : (f : Refusal) (reason : Reason) (n k : ℕ) → f ≡ refusal reason n n → n ≡ k → f ≡ refusal f.reason k k
cut-is f reason n k e same = e ∙ ap (λ x. refusal reason x x) same ∙ ap (λ r. refusal r k k) (sym (ap (λ (x : Refusal). x.reason) e))

-- the reader ended or failed
pub cut-here : (f : Refusal) (c : Call) (mid_from : Option (List ℕ)) → HasRead c.held mid_from c.new c.taken c.reported → Consumes mid_from c.left []
    → (f.reason ≡ Read) ⊎ ((f.reason ≡ Truncated) × IsAtEnd c.left) → f ≡ refusal f.reason c.new.taken c.new.taken → c.new.taken < c.new.bytes → ¬ IsComplete c.new → IsCut f c
cut-here f c mid_from r lost reason is short going =
    let t = c.taken in
    let taken = r.agrees.taken in
    let unfinished : ¬ IsWhole c.new.depth (t ++ r.bytes) = λ w. going (r.agrees.complete.1 w) in
    record {
      bytes = r.bytes;
      consumed = subst (Consumes c.held c.left) (append-nil r.bytes) (Consumes-trans _ _ _ _ _ r.consumed lost);
      reason = reason;
      is = is ∙ ap (λ n. refusal f.reason n n) taken;
      verdict = cut-verdict (bounds c.new.depth c.new.bytes) (t ++ r.bytes) r.agrees.beginning unfinished (omega (arith, taken));
      short = omega (arith, taken);
      agrees = r.agrees;
      unfinished = unfinished;
    }

-- the machine read some more bytes, which reported nothing, and stopped
module _ (f : Refusal) (c : Call) (mid_from : Option (List ℕ)) (mid : MachineView) (last : List ℕ) (r : HasRead c.held mid_from mid c.taken c.reported) (lost_last : Consumes mid_from c.left last)
    (bytes : AreBytes last) (going : ¬ IsComplete mid) (depth : c.new.depth ≡ mid.depth) (fits : mid.taken + length last ≤ c.new.bytes) (ref : IsRefused f c.new (c.taken ++ r.bytes) last c.reported) where
  abbrev new : MachineView
  new = c.new

  abbrev t : List ℕ
  t = c.taken

  abbrev ms : List Mark
  ms = c.reported

  abbrev q : State
  q = state_of new.inner.position new.inner.frames

  abbrev p : State
  p = state_of mid.inner.position mid.inner.frames

  shown : IsShown new
  shown = shown-after new _ ref.agrees.inner.shown

  within_item : IsUnfinished p
  within_item = unfinished-position mid.inner.position mid.inner.frames (λ e. going (r.agrees.inner.shown.complete ∙ ap is_done e, r.agrees.live))

  beyond : (xs : List ℕ) → AreBytes xs → run mid.depth p xs ≡ reached q []
      → (run new.depth start (t ++ (r.bytes ++ xs)) ≡ reached q ms) × IsUnfinished q × AreBytes (t ++ (r.bytes ++ xs))
  beyond xs b e =
      let whole : run mid.depth start ((t ++ r.bytes) ++ xs) ≡ reached q (ms ++ []) = run-on mid.depth (t ++ r.bytes) xs p q ms [] r.agrees.inner.ran e in
      let here : (t ++ r.bytes) ++ xs ≡ t ++ (r.bytes ++ xs) = append_assoc t r.bytes xs in (
        ap (λ d. run d start (t ++ (r.bytes ++ xs))) depth ∙ sym (ap (run mid.depth start) here) ∙ whole ∙ ap (reached q) (append-nil ms),
        silent-unfinished mid.depth xs p q (sane-run mid.depth (t ++ r.bytes) start p ms tt r.agrees.inner.ran) within_item e,
        subst AreBytes here (bytes_join (t ++ r.bytes) xs r.agrees.are_bytes b),
      )

  taken-there : (xs : List ℕ) → mid.taken + length xs ≡ length (t ++ (r.bytes ++ xs))
  taken-there xs = ap (λ n. n + length xs) r.agrees.taken ∙ sym (length-append (t ++ r.bytes) xs) ∙ ap length (append_assoc t r.bytes xs)

  stood : (xs : List ℕ) → length xs ≤ length last → run new.depth start (t ++ (r.bytes ++ xs)) ≡ reached q ms → IsUnfinished q → AreBytes (t ++ (r.bytes ++ xs))
      → Represents (before new (length (t ++ (r.bytes ++ xs)))) (t ++ (r.bytes ++ xs)) ms
  stood xs within e u b =
      meant (before new (length (t ++ (r.bytes ++ xs)))) (t ++ (r.bytes ++ xs)) ms b e
      (record { shown = shown-before new _ shown; empty = λ p. absurd (subst (λ p. IsUnfinished (state_of p new.inner.frames)) p u) })
      ref.agrees.bounded refl (omega (arith, taken-there xs)) ref.agrees.next refl

  judged : (xs more : List ℕ) → xs ≡ (t ++ r.bytes) ++ last → IsVerdict (bounds new.depth new.bytes) form (xs ++ more) (refused f)
  judged xs more e = subst (λ (ys : List ℕ). IsVerdict (bounds new.depth new.bytes) form (ys ++ more) (refused f)) (sym e) (refusal-verdict f new (t ++ r.bytes) last ms ref more)

  lost : Consumes c.held c.left (r.bytes ++ last)
  lost = Consumes-trans _ _ _ _ _ r.consumed lost_last

  too-long : Ran mid new last [] → new.taken ≡ new.bytes → f ≡ refusal TooLong new.bytes new.bytes → IsTooLong f c
  too-long ran limit is =
      let b = beyond last bytes ran.ran in
      record {
        bytes = r.bytes ++ last;
        consumed = lost;
        is = is;
        full = sym (taken-there last) ∙ sym ran.taken ∙ limit;
        verdict = λ more. judged (t ++ (r.bytes ++ last)) more (sym (append_assoc t r.bytes last));
        agrees = stood last (omega arith) b.0 b.1 b.2;
        unfinished = not-whole new.depth (t ++ (r.bytes ++ last)) q ms b.0 b.1;
      }

  form_error : Stopped mid new last f → HasFormError f c
  form_error s =
      let small = subst AreBytes s.splits bytes in
      let b = beyond s.prefix (bytes_prefix s.prefix (s.byte ∷ []) small) s.ran in
      let all : r.bytes ++ last ≡ (r.bytes ++ s.prefix) ++ s.byte ∷ [] = ap (λ xs. r.bytes ++ xs) s.splits ∙ sym (append_assoc r.bytes s.prefix (s.byte ∷ [])) in
      let here : (t ++ (r.bytes ++ s.prefix)) ++ s.byte ∷ [] ≡ (t ++ r.bytes) ++ last =
      append_assoc t (r.bytes ++ s.prefix) (s.byte ∷ []) ∙ ap (λ xs. t ++ xs) (sym all) ∙ sym (append_assoc t r.bytes last) in
      let within : length s.prefix ≤ length last = omega (arith, ap length s.splits, length-append s.prefix (s.byte ∷ [])) in
      record {
        bytes = r.bytes ++ s.prefix;
        byte = s.byte;
        consumed = subst (Consumes c.held c.left) all lost;
        is = s.is ∙ ap (λ n. refusal f.reason n (n + 1)) (taken-there s.prefix);
        cannot_follow = (refuses-rightly new.depth (t ++ (r.bytes ++ s.prefix)) q ms s.byte f.reason b.2 ((bytes_back s.prefix (s.byte ∷ []) small).0) b.0 b.1 (ap (λ d. take_byte d q s.byte) depth ∙ s.refuses)).0;
        verdict = λ more. judged ((t ++ (r.bytes ++ s.prefix)) ++ s.byte ∷ []) more here;
        agrees = stood s.prefix within b.0 b.1 b.2;
        unfinished = not-whole new.depth (t ++ (r.bytes ++ s.prefix)) q ms b.0 b.1;
      }

  pub stopped-here : IsStep (outs.Refused f) mid new last → IsTooLong f c ⊎ HasFormError f c
  stopped-here s = go s.1
    where
      go : (Ran mid new last [] × (new.taken ≡ new.bytes) × (f ≡ refusal TooLong new.bytes new.bytes)) ⊎ Stopped mid new last f → IsTooLong f c ⊎ HasFormError f c
      go (inl x) = inl (too-long x.0 x.1 x.2)
      go (inr x) = inr (form_error x)
