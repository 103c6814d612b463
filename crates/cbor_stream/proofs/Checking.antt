-- One step after another, until the item is complete or refused, or no byte is left.
use Rattle.std.proofs.Common.{◌≡◌, ℕ, ◌+◌, ◌<◌, ◌≤◌, Option, Some, None, List, [], ◌++◌, length, take, refl, sym, ap, ◌∙◌, subst, arith, append_assoc, append-nil, Result, Ok, Err}
use Rattle.std.specs.Option.{IfSome}
use Rattle.cbor_head.specs.Prelude.{Bounds, bounds, with_keys, refusal}
use Rattle.cbor_head.specs.declared.{event.Event.Event, order.KeyOrder.KeyOrder, reason.Refusal.Refusal, reason.Reason.TheVariants.Truncated}
use Rattle.theory_automaton.specs.{Trace.Mark, Marks.marks_of}
use Rattle.cbor_machine.specs.Machine.{KeepsLimits, IfRefused, IsMore, IsEvent, IsComplete, wanted}
use Rattle.cbor_machine.specs.declared.step.Out.TheVariants as outs
use Rattle.cbor_machine.proofs.Feeding.{rest_from, split-rest, fits-rest}
use Rattle.cbor_machine.specs.declared.step.Out.{Out}
use Rattle.cbor_stream.specs.StrictMachine.{StrictMachineView, AgreesAmid, IsStrictResult, limits_of}
use Rattle.cbor_stream.specs.Said.{Says, EndsAs, Tells}
use Rattle.cbor_stream.proofs.Said.{says_more, says_done, says_refused}
use Rattle.cbor_stream.specs.Reasons.{IsStrictReason}

-- ---- after a refusal

map_some : (o : Option Refusal) (P Q : Refusal → Type 0) → ((f : Refusal) → P f → Q f) → IfSome o P → IfSome o Q
map_some None P Q h p = tt
map_some (Some f) P Q h p = h f p

-- nothing is taken, and the same is returned
pub again_so : (old now new : StrictMachineView) (out : Out) (used more : ℕ) → IfSome old.refusal (λ f. (now ≡ old) × (used ≡ 0)) → IfSome now.refusal (λ f. (out ≡ outs.Refused f) × (more ≡ 0) × (new ≡ now))
    → IfSome old.refusal (λ f. (out ≡ outs.Refused f) × (used + more ≡ 0) × (new ≡ old))
again_so old now new out used more same again = go old.refusal refl same
  where
    go : (o : Option Refusal) → old.refusal ≡ o → IfSome o (λ f. (now ≡ old) × (used ≡ 0)) → IfSome o (λ f. (out ≡ outs.Refused f) × (used + more ≡ 0) × (new ≡ old))
    go None e h = tt
    go (Some f) e h =
        let is : now.refusal ≡ Some f = ap (λ (v : StrictMachineView). v.refusal) h.0 ∙ e in
        let k = subst (λ (r : Option Refusal). IfSome r (λ f. (out ≡ outs.Refused f) × (more ≡ 0) × (new ≡ now))) is again in
        (k.0, omega (arith, h.1, k.1), k.2 ∙ h.0)

-- ---- the steps so far

pub record IsChecked (old now : StrictMachineView) (input : List ℕ) (used : ℕ) : Type 0 where
  pub within : used ≤ length input
  pub taken : now.machine.taken ≡ old.machine.taken + used
  pub depth : now.machine.depth ≡ old.machine.depth
  pub bytes : now.machine.bytes ≡ old.machine.bytes
  pub order : now.order ≡ old.order
  pub keys : now.keys ≡ old.keys
  pub runs : (t : List ℕ) (ms : List Mark) → AgreesAmid old t ms → (ns : List Mark) × AgreesAmid now (t ++ take used input) ns
  pub same : IfSome old.refusal (λ f. (now ≡ old) × (used ≡ 0))
  pub complete : IsComplete old.machine → old.refusal ≡ None → (now ≡ old) × (used ≡ 0)

module _ (old now new : StrictMachineView) (input : List ℕ) (used more : ℕ) (h : IsChecked old now input used) (fits : more ≤ length (rest_from used input)) (taken : new.machine.taken ≡ now.machine.taken + more) (limits : KeepsLimits now.machine new.machine) (order : new.order ≡ now.order) (keys : new.keys ≡ now.keys) where
  pub within_so : used + more ≤ length input
  within_so = fits-rest used more input h.within fits

  pub taken_so : new.machine.taken ≡ old.machine.taken + (used + more)
  taken_so = let was = h.taken in omega (arith, taken, was)

  pub limits_all : KeepsLimits old.machine new.machine
  limits_all = record { depth = limits.depth ∙ h.depth; bytes = limits.bytes ∙ h.bytes; open_count = limits.open_count; taken = limits.taken }

  along : (t : List ℕ) → (t ++ take used input) ++ take more (rest_from used input) ≡ t ++ take (used + more) input
  along t = append_assoc t (take used input) (take more (rest_from used input)) ∙ ap (λ (x : List ℕ). t ++ x) (split-rest used more input)

  -- nothing follows a complete item
  pub done_so : (out : Out) → (IsComplete now.machine → now.refusal ≡ None → (out ≡ outs.Done) × (more ≡ 0)) → IsComplete old.machine → old.refusal ≡ None → (out ≡ outs.Done) × (used + more ≡ 0)
  done_so out done is live =
      let k = h.complete is live in
      let d = done (subst (λ (v : StrictMachineView). IsComplete v.machine) (sym k.0) is) (ap (λ (v : StrictMachineView). v.refusal) k.0 ∙ live) in
      (d.0, omega (arith, k.1, d.1))

  -- an event
  pub checked_on : (ev : Event) → ((t : List ℕ) (ms : List Mark) → AgreesAmid now t ms → IsStrictResult (outs.Event ev) new t (take more (rest_from used input)) ms) → IfSome now.refusal (λ f. (outs.Event ev ≡ outs.Refused f) × (more ≡ 0) × (new ≡ now))
      → (IsComplete now.machine → now.refusal ≡ None → (outs.Event ev ≡ outs.Done) × (more ≡ 0)) → IsChecked old new input (used + more)
  checked_on ev returned again done = record {
    within = within_so;
    taken = taken_so;
    depth = limits.depth ∙ h.depth;
    bytes = limits.bytes ∙ h.bytes;
    order = order ∙ h.order;
    keys = keys ∙ h.keys;
    runs = λ t ms k. let r = h.runs t ms k in (r.0 ++ marks_of ev.width ev.kind, subst (λ (x : List ℕ). AgreesAmid new x (r.0 ++ marks_of ev.width ev.kind)) (along t) (returned (t ++ take used input) r.0 r.1).1);
    same = map_some old.refusal _ (λ f. (new ≡ old) × (used + more ≡ 0)) (λ f k. absurd (cc k.0)) (again_so old now new (outs.Event ev) used more h.same again);
    complete = λ is live. absurd (subst IsEvent (done_so (outs.Event ev) done is live).0 tt);
  }

  -- an item at once
  pub checked_item : ((t : List ℕ) (ms : List Mark) → AgreesAmid now t ms → (ns : List Mark) × AgreesAmid new (t ++ take more (rest_from used input)) ns) → now.refusal ≡ None → ¬ IsComplete now.machine → IsChecked old new input (used + more)
  checked_item agrees live unfinished = record {
    within = within_so;
    taken = taken_so;
    depth = limits.depth ∙ h.depth;
    bytes = limits.bytes ∙ h.bytes;
    order = order ∙ h.order;
    keys = keys ∙ h.keys;
    runs = λ t ms k.
        let r = h.runs t ms k in
        let s = agrees (t ++ take used input) r.0 r.1 in
        (s.0, subst (λ (x : List ℕ). AgreesAmid new x s.0) (along t) s.1);
    same = not_refused old.refusal refl h.same;
    complete = λ is l. let k = h.complete is l in absurd (unfinished (subst (λ (v : StrictMachineView). IsComplete v.machine) (sym k.0) is));
  }
    where
      not_refused : (o : Option Refusal) → old.refusal ≡ o → IfSome o (λ f. (now ≡ old) × (used ≡ 0)) → IfSome o (λ f. (new ≡ old) × (used + more ≡ 0))
      not_refused None e x = tt
      not_refused (Some f) e x = absurd (let two : Some f ≡ None = sym e ∙ sym (ap (λ (v : StrictMachineView). v.refusal) x.0) ∙ live in cc two)

  -- what is no event
  pub checked_out : (out : Out) → ((ev : Event) → out ≡ outs.Event ev → ⊥) → ((t : List ℕ) (ms : List Mark) → AgreesAmid now t ms → IsStrictResult out new t (take more (rest_from used input)) ms) → (IsMore out → 0 < wanted new.machine) → IfRefused out (λ f. IsStrictReason now.order f.reason)
      → (t : List ℕ) (ms : List Mark) → AgreesAmid old t ms → Says out new (t ++ take (used + more) input)
  checked_out out none returned some reason t ms k =
      let r = h.runs t ms k in
      subst (Says out new) (along t) (go out none (returned (t ++ take used input) r.0 r.1) some reason)
    where
      go : (out : Out) → ((ev : Event) → out ≡ outs.Event ev → ⊥) → IsStrictResult out new (t ++ take used input) (take more (rest_from used input)) (h.runs t ms k).0 → (IsMore out → 0 < wanted new.machine) → IfRefused out (λ f. IsStrictReason now.order f.reason)
          → Says out new ((t ++ take used input) ++ take more (rest_from used input))
      go outs.More none a some reason = says_more new ((t ++ take used input) ++ take more (rest_from used input)) (h.runs t ms k).0 a (some tt)
      go (outs.Event ev) none a some reason = none ev refl
      go outs.Done none a some reason =
          let all = sym (append-nil (t ++ take used input)) ∙ ap (λ (x : List ℕ). (t ++ take used input) ++ x) (sym a.0) in
          says_done new ((t ++ take used input) ++ take more (rest_from used input)) (h.runs t ms k).0 (subst (λ (x : List ℕ). AgreesAmid new x (h.runs t ms k).0) all a.2) a.1
      go (outs.Refused f) none a some reason = says_refused new ((t ++ take used input) ++ take more (rest_from used input)) f (h.runs t ms k).0 a (subst (λ (o : KeyOrder). IsStrictReason o f.reason) (sym order) reason)

-- ---- where the bytes end

pub limits_same : (old new : StrictMachineView) → KeepsLimits old.machine new.machine → new.keys ≡ old.keys → limits_of new ≡ limits_of old
limits_same old new limits keys = ap (λ (d : ℕ). with_keys (bounds d new.machine.bytes) new.keys) limits.depth ∙ ap (λ (n : ℕ). with_keys (bounds old.machine.depth n) new.keys) limits.bytes ∙ ap (with_keys (bounds old.machine.depth old.machine.bytes)) keys

module _ (old new : StrictMachineView) (limits : KeepsLimits old.machine new.machine) (order : new.order ≡ old.order) (keys : new.keys ≡ old.keys) where
  as_old : (all : List ℕ) (x : Result ℕ Refusal) → EndsAs (limits_of new) new.order all x → EndsAs (limits_of old) old.order all x
  as_old all x h = subst (λ (b : Bounds). EndsAs b old.order all x) (limits_same old new limits keys) (subst (λ (o : KeyOrder). EndsAs (limits_of new) o all x) order h)

  module _ (bs t : List ℕ) (ms : List Mark) (none : bs ≡ []) where
    all_so : t ++ bs ≡ t
    all_so = ap (λ (x : List ℕ). t ++ x) none ∙ append-nil t

    -- the machine represents what it did before
    pub agrees_more : IsStrictResult outs.More new t bs ms → AgreesAmid new t ms
    agrees_more a = subst (λ (x : List ℕ). AgreesAmid new x ms) all_so a

    pub ends_done : (count : ℕ) → count ≡ length t → IsStrictResult outs.Done new t bs ms → EndsAs (limits_of old) old.order t (Ok count)
    ends_done count size a =
        let s = (says_done new t ms a.2 a.1).1 [] in
        as_old t (Ok count) (subst (λ (n : ℕ). EndsAs (limits_of new) new.order t (Ok n)) (sym size) (subst (λ (x : List ℕ). EndsAs (limits_of new) new.order x (Ok (length t))) (append-nil t) s))

    pub ends_refused : (f : Refusal) → IsStrictResult (outs.Refused f) new t bs ms → IsStrictReason old.order f.reason → EndsAs (limits_of old) old.order t (Err f)
    ends_refused f a reason = λ m.
        let s = says_refused new (t ++ bs) f ms a (subst (λ (o : KeyOrder). IsStrictReason o f.reason) (sym order) reason) in
        as_old t (Err f) (λ k. subst (λ (x : List ℕ). Tells (limits_of new) new.order x (Err f)) (append-nil (t ++ bs) ∙ all_so) (s.1 k [])) m

    pub ends_more : (f : Refusal) → f ≡ refusal Truncated (length t) (length t) → 0 < wanted new.machine → IsStrictResult outs.More new t bs ms → EndsAs (limits_of old) old.order t (Err f)
    ends_more f is some a = λ m.
        let s = (says_more new t ms (subst (λ (x : List ℕ). AgreesAmid new x ms) all_so a) some).1 in
        as_old t (Err f) (λ k. subst (λ (g : Refusal). Tells (limits_of new) new.order t (Err g)) (sym is) s) m
