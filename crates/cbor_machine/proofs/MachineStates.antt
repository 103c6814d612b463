-- What a machine represents after each kind of step.
use Rattle.std.proofs.Common.{◌≡◌, ◌⊎◌, ℕ, ◌+◌, ◌-◌, ◌≤◌, List, [], ◌∷◌, ◌++◌, length, take, drop, None, refl, ap, sym, ◌∙◌, arith, append-nil, append_assoc, subst, inl, inr, length-append, length-take, take-take}
use Rattle.std.proofs.Math.Seq.{take-append_seam}
use Rattle.cbor_head.specs.{declared.event.Event.Event, Prelude.AreBytes, Prelude.refusal, declared.reason.Reason.TheVariants.TooLong}
use Rattle.cbor_head.specs.declared.reason.Refusal.{Refusal}
use Rattle.theory_values.proofs.ByteLists.{bytes_join, bytes_prefix, bytes_back}
use Rattle.theory_automaton.specs.Automaton.{State, start, in_payload, done, refuses, take_byte, run, reached}
use Rattle.theory_automaton.specs.Automaton as automaton
use Rattle.theory_automaton.proofs.Beginnings.{item-done, done-item, reached-begins}
use Rattle.theory_automaton.proofs.Events as events
use Rattle.theory_automaton.proofs.Events.{IsClear, clear-pending, pending}
use Rattle.theory_automaton.{specs.Trace.Mark, specs.Trace.total, specs.Marks.marks_of, proofs.Refusals.IsUnfinished, proofs.Refusals.refuses-rightly}
use Rattle.theory_automaton.{proofs.Longest.longest, proofs.Tiling.last-bytes, specs.Bytes.IsEventBytes}
use Rattle.cbor_machine.specs.State.{state_of, is_done, IsFit, IsSettled}
use Rattle.cbor_machine.specs.declared.position.Position.TheVariants.{Head, SimpleNumber, Done}
use Rattle.cbor_machine.specs.Machine.{IsWhole, Represents, IsGiven, before, IsRefused, IsResult}
use Rattle.cbor_machine.specs.Steps.{Ran, Stopped, IsStep}
use Rattle.cbor_machine.specs.declared.step.Out.TheVariants as outs
use Rattle.cbor_machine.specs.{Feed.IsWalked, declared.frame.Frame.Frame, declared.position.Position.Position, declared.feed.FeedResult.FeedResult}
use Rattle.cbor_machine.specs.{declared.feed.FeedResult.TheVariants.Refused, inner.Machine.IsShown, MachineView.MachineView, declared.step.Out.Out}
pub use Rattle.theory_values.proofs.ByteLists.{bytes_take}
use Rattle.theory_automaton.proofs.Runs.{take-following, run-on, silent-unfinished, sane-run, tiles}
use Rattle.theory_automaton.proofs.Opens.{stack, opens}
use Rattle.cbor_machine.proofs.{Frames.length_frames, Positions.position-done}

-- ---- the position of a machine, and its state

pub unfinished-position : (position : Position) (fs : List Frame) → ¬ (position ≡ Done) → IsUnfinished (state_of position fs)
unfinished-position Done fs h = absurd (h refl)
unfinished-position _ fs h = tt

done-position : (position : Position) (fs : List Frame) → done ≡ state_of position fs → position ≡ Done
done-position Done fs h = refl
done-position _ fs h = absurd (cc)

pub settled-clear : (position : Position) (fs : List Frame) → IsSettled fs position → IsClear (state_of position fs)
settled-clear (Head chunk kind w left argument) fs h = absurd h
settled-clear SimpleNumber fs h = absurd h
settled-clear _ fs h = tt

pub fit-empty : (d : ℕ) (fs : List Frame) (position : Position) → IsFit d fs position → position ≡ Done → fs ≡ []
fit-empty d fs position h e = subst (IsFit d fs) e h

stack-size : (position : Position) (fs : List Frame) → (position ≡ Done → fs ≡ []) → length (stack (state_of position fs)) ≡ length fs
stack-size Done fs h = sym (ap length (h refl))
stack-size _ fs h = length_frames fs

-- ---- what a run means

item-position : (m : MachineView) (t : List ℕ) (ms : List Mark) → run m.depth start t ≡ reached (state_of m.inner.position m.inner.frames) ms → IsWhole m.depth t → m.inner.position ≡ Done
item-position m t ms e w =
    let all = sym (item-done m.depth w.0 t w.1) ∙ e in
    let same : done ≡ state_of m.inner.position m.inner.frames = cc in
    done-position m.inner.position m.inner.frames same

-- the view shows the inner state, and after an item nothing is open
pub record IsSound (m : MachineView) : Type 0 where
  pub shown : IsShown m
  pub empty : m.inner.position ≡ Done → m.inner.frames ≡ []

pub fit-sound : (m : MachineView) (d : ℕ) → IsShown m → IsFit d m.inner.frames m.inner.position → IsSound m
fit-sound m d shown fit = record { shown = shown; empty = fit-empty d m.inner.frames m.inner.position fit }

pub shown-before : (m : MachineView) (n : ℕ) → IsShown m → IsShown (before m n)
shown-before m n h = record { open_count = h.open_count; expected = h.expected; item_expected = h.item_expected; in_payload = h.in_payload; complete = h.complete }

pub shown-after : (m : MachineView) (n : ℕ) → IsShown (before m n) → IsShown m
shown-after m n h = record { open_count = h.open_count; expected = h.expected; item_expected = h.item_expected; in_payload = h.in_payload; complete = h.complete }

sound-before : (m : MachineView) (n : ℕ) → IsSound m → IsSound (before m n)
sound-before m n h = record { shown = shown-before m n h.shown; empty = h.empty }

pub meant : (m : MachineView) (t : List ℕ) (ms : List Mark) → AreBytes t → run m.depth start t ≡ reached (state_of m.inner.position m.inner.frames) ms
    → IsSound m → m.open_count ≤ m.depth → m.taken ≡ length t → m.taken ≤ m.bytes → m.reported ≡ total ms → m.refusal ≡ None → Represents m t ms
meant m t ms b e sound bounded taken limited next live = record {
  beginning = reached-begins m.depth t (state_of m.inner.position m.inner.frames) ms b e;
  reported = λ s rest i. events.reported m.depth s t rest (state_of m.inner.position m.inner.frames) ms i e;
  complete = (
    λ c. done-item m.depth t ms b (e ∙ ap (λ p. reached (state_of p m.inner.frames) ms) (position-done m.inner.position (sym sound.shown.complete ∙ c.0))),
    λ w. (sound.shown.complete ∙ ap is_done (item-position m t ms e w), live),
  );
  counted = λ s rest i. sound.shown.open_count ∙ sym (stack-size m.inner.position m.inner.frames sound.empty) ∙ opens m.depth s t rest (state_of m.inner.position m.inner.frames) ms i e;
  bounded = bounded;
  taken = taken;
  limited = limited;
  next = next;
  live = live;
  are_bytes = b;
  inner = record { ran = e; shown = sound.shown };
}

-- bytes that do not lead to the end are not a whole item
pub not-whole : (d : ℕ) (t : List ℕ) (q : State) (ms : List Mark) → run d start t ≡ reached q ms → IsUnfinished q → ¬ IsWhole d t
not-whole d t q ms e u = λ w.
    let all = sym (item-done d w.0 t w.1) ∙ e in
    let same : q ≡ done = cc in
    subst IsUnfinished same u

-- ---- what a step means

module _ (old new : MachineView) (t bs : List ℕ) (ms ns : List Mark) (h : Represents old t ms) (b : AreBytes bs) (depth : new.depth ≡ old.depth) (sound : IsSound new) (r : Ran old new bs ns) where
  on : run new.depth start (t ++ bs) ≡ reached (state_of new.inner.position new.inner.frames) (ms ++ ns)
  on = ap (λ d. run d start (t ++ bs)) depth ∙ run-on old.depth t bs (state_of old.inner.position old.inner.frames) (state_of new.inner.position new.inner.frames) ms ns h.inner.ran r.ran

  all-taken : new.taken ≡ length (t ++ bs)
  all-taken = r.taken ∙ ap (λ n. n + length bs) h.taken ∙ sym (length-append t bs)

  agrees-on : new.open_count ≤ new.depth → new.taken ≤ new.bytes → new.refusal ≡ None → new.reported ≡ total (ms ++ ns) → Represents new (t ++ bs) (ms ++ ns)
  agrees-on bounded limited live next = meant new (t ++ bs) (ms ++ ns) (bytes_join t bs h.are_bytes b) on sound bounded all-taken limited next live

  all-reported : IsSettled new.inner.frames new.inner.position → total (ms ++ ns) ≡ length (t ++ bs)
  all-reported settled =
      let tiled = tiles new.depth (t ++ bs) start (state_of new.inner.position new.inner.frames) (ms ++ ns) tt on in
      let clear = (clear-pending (state_of new.inner.position new.inner.frames) (settled-clear new.inner.position new.inner.frames settled)).0 in
      let nothing : pending start ≡ 0 = refl in
      omega (arith, tiled, clear, nothing)

silent : (old new : MachineView) (t bs : List ℕ) (ms : List Mark) → Represents old t ms → AreBytes bs → new.depth ≡ old.depth → IsSound new → new.open_count ≤ new.depth → new.taken ≤ new.bytes
    → IsStep outs.More old new bs → Represents new (t ++ bs) ms
silent old new t bs ms h b depth sound bounded limited s =
    subst (λ (ns : List Mark). Represents new (t ++ bs) ns) (append-nil ms)
    (agrees-on old new t bs ms [] h b depth sound s.0 bounded limited s.1 (s.2 ∙ h.next ∙ sym (ap total (append-nil ms))))

given : (old new : MachineView) (e : Event) (t bs : List ℕ) (ms : List Mark) → Represents old t ms → AreBytes bs → new.depth ≡ old.depth → IsSound new → new.open_count ≤ new.depth → new.taken ≤ new.bytes
    → IsStep (outs.Event e) old new bs → IsGiven e new t bs ms
given old new e t bs ms h b depth sound bounded limited s =
    let ns = marks_of e.width e.kind in
    let all = all-reported old new t bs ms ns h b depth sound s.0 s.4 in
    let len = all-taken old new t bs ms ns h b depth sound s.0 in
    record {
      agrees = agrees-on old new t bs ms ns h b depth sound s.0 bounded limited s.1 (s.3 ∙ len ∙ sym all);
      place = s.2 ∙ h.next;
      ends = all;
      bytes =
          let bytes = bytes_join t bs h.are_bytes b in
          let ran = on old new t bs ms ns h b depth sound s.0 in
          subst (λ (n : ℕ). IsEventBytes ms e.width e.kind (drop n (t ++ bs))) (sym (s.2 ∙ h.next))
          (last-bytes new.depth (state_of new.inner.position new.inner.frames) (t ++ bs) ms e.width e.kind bytes ran (settled-clear new.inner.position new.inner.frames s.4) s.5);
    }

-- a byte is refused
byte-refused : (old new : MachineView) (r : Refusal) (t bs : List ℕ) (ms : List Mark) → Represents old t ms → AreBytes bs → ¬ (old.inner.position ≡ Done) → new.depth ≡ old.depth → IsSound new → new.open_count ≤ new.depth
    → new.taken ≡ old.taken + length bs → new.taken ≤ new.bytes → new.reported ≡ old.reported → Stopped old new bs r → IsRefused r new t bs ms
byte-refused old new r t bs ms h b going depth sound bounded taken limit reported s =
    let prefix = s.prefix in
    let c = s.byte in
    let before_it = state_of old.inner.position old.inner.frames in
    let q = state_of new.inner.position new.inner.frames in
    let small = subst AreBytes s.splits b in
    let p = t ++ prefix in
    let began : run new.depth start t ≡ reached before_it ms = ap (λ d. run d start t) depth ∙ h.inner.ran in
    let walked : run new.depth before_it prefix ≡ reached q [] = ap (λ d. run d before_it prefix) depth ∙ s.ran in
    let refuses : take_byte new.depth q c ≡ automaton.refuses r.reason = ap (λ d. take_byte d q c) depth ∙ s.refuses in
    let ran : run new.depth start p ≡ reached q ms = run-on new.depth t prefix before_it q ms [] began walked ∙ ap (reached q) (append-nil ms) in
    let unfinished = silent-unfinished new.depth prefix before_it q (sane-run new.depth t start before_it ms tt began) (unfinished-position old.inner.position old.inner.frames going) walked in
    let bytes : AreBytes p = bytes_join t prefix h.are_bytes (bytes_prefix prefix (c ∷ []) small) in
    let all : t ++ bs ≡ p ++ c ∷ [] = ap (λ xs. t ++ xs) s.splits ∙ sym (append_assoc t prefix (c ∷ [])) in
    let size : length (p ++ c ∷ []) ≡ new.taken = sym (ap length all) ∙ length-append t bs ∙ ap (λ n. n + length bs) (sym h.taken) ∙ sym taken in
    let limited : length p ≤ new.bytes = omega (arith, length-append p (c ∷ []), size, limit) in
    let place : old.taken + length prefix ≡ length p = ap (λ n. n + length prefix) h.taken ∙ sym (length-append t prefix) in
    let outcome : r ≡ refusal r.reason (length p) (length p + 1) = s.is ∙ ap (λ n. refusal r.reason n (n + 1)) place in
    record {
      prefix = prefix;
      following = c ∷ [];
      splits = s.splits;
      agrees = meant (before new (length p)) p ms bytes ran (sound-before new (length p) sound) bounded refl limited (reported ∙ h.next) refl;
      unfinished = not-whole new.depth p q ms ran unfinished;
      error = λ more.
          let k = new.bytes in
          let rest = take (k - length (p ++ c ∷ [])) more in
          let cut : take k ((t ++ bs) ++ more) ≡ p ++ c ∷ rest = ap (λ xs. take k (xs ++ more)) all ∙ take-following k (p ++ c ∷ []) more (omega arith) ∙ append_assoc p (c ∷ []) rest in
          let l = longest new.depth p q ms c rest r.reason bytes ((bytes_back prefix (c ∷ []) small).0) ran refuses in
          record {
            longest = record { beginning = l.beginning; rest = c ∷ rest; splits = cut; longest = λ x y s e. l.longest x y s (sym cut ∙ e) };
            error = (r.reason, (refuses-rightly new.depth p q ms c r.reason bytes ((bytes_back prefix (c ∷ []) small).0) ran unfinished refuses).1, outcome);
          };
    }

-- the limit is reached
limit-refused : (old new : MachineView) (r : Refusal) (t bs : List ℕ) (ms : List Mark) → Represents old t ms → AreBytes bs → ¬ (old.inner.position ≡ Done) → new.depth ≡ old.depth → IsSound new → new.open_count ≤ new.depth
    → new.reported ≡ old.reported → Ran old new bs [] → new.taken ≡ new.bytes → r ≡ refusal TooLong new.bytes new.bytes → IsRefused r new t bs ms
limit-refused old new r t bs ms h b going depth sound bounded reported s limit is =
    let p = t ++ bs in
    let before_it = state_of old.inner.position old.inner.frames in
    let q = state_of new.inner.position new.inner.frames in
    let ran : run new.depth start p ≡ reached q ms = on old new t bs ms [] h b depth sound s ∙ ap (reached q) (append-nil ms) in
    let unfinished = silent-unfinished old.depth bs before_it q (sane-run old.depth t start before_it ms tt h.inner.ran) (unfinished-position old.inner.position old.inner.frames going) s.ran in
    let bytes : AreBytes p = bytes_join t bs h.are_bytes b in
    let size : length p ≡ new.bytes = sym (all-taken old new t bs ms [] h b depth sound s) ∙ limit in
    record {
      prefix = bs;
      following = [];
      splits = sym (append-nil bs);
      agrees = meant (before new (length p)) p ms bytes ran (sound-before new (length p) sound) bounded refl (omega (arith, size)) (reported ∙ h.next) refl;
      unfinished = not-whole new.depth p q ms ran unfinished;
      error = λ more.
          let cut : take new.bytes (p ++ more) ≡ p = ap (λ n. take n (p ++ more)) (sym size) ∙ take-append_seam p more in
          record {
            longest = record {
              beginning = reached-begins new.depth p q ms bytes ran;
              rest = [];
              splits = cut ∙ sym (append-nil p);
              longest = λ x y s e.
                  let all : length (take new.bytes (p ++ more)) ≡ length x + length y = ap length e ∙ length-append x y in
                  let whole : length (take new.bytes (p ++ more)) ≡ length p = ap length cut in
                  omega (arith, all, whole);
            };
            error = inl (size, is);
          };
    }

-- a step of a machine that represented t and ms
pub is_returned : (out : Out) (old new : MachineView) (t bs : List ℕ) (ms : List Mark) → Represents old t ms → AreBytes bs → ¬ (old.inner.position ≡ Done) → new.depth ≡ old.depth → IsSound new → new.open_count ≤ new.depth
    → new.taken ≡ old.taken + length bs → new.taken ≤ new.bytes → IsStep out old new bs → IsResult out new t bs ms
is_returned outs.More old new t bs ms h b going depth sound bounded taken limit s = silent old new t bs ms h b depth sound bounded limit s
is_returned (outs.Event e) old new t bs ms h b going depth sound bounded taken limit s = given old new e t bs ms h b depth sound bounded limit s
is_returned outs.Done old new t bs ms h b going depth sound bounded taken limit s =
    subst (λ (m : MachineView). Represents m (t ++ bs) ms) (sym s.1) (subst (λ (u : List ℕ). Represents old u ms) (sym (append-nil t) ∙ ap (λ xs. t ++ xs) (sym s.0)) h)
is_returned (outs.Refused r) old new t bs ms h b going depth sound bounded taken limit s = go s.1
  where
    go : (Ran old new bs [] × (new.taken ≡ new.bytes) × (r ≡ refusal TooLong new.bytes new.bytes)) ⊎ Stopped old new bs r → IsRefused r new t bs ms
    go (inl x) = limit-refused old new r t bs ms h b going depth sound bounded s.0 x.0 x.1 x.2
    go (inr x) = byte-refused old new r t bs ms h b going depth sound bounded taken limit s.0 x

-- ---- the prefix of the input that is within the limit

pub prefix-walked : (w : FeedResult) (d e : ℕ) (q u : State) (used end : ℕ) (xs : List ℕ) → d ≡ e → used ≤ length (take end xs) → IsWalked w d q u (take used (take end xs)) → IsWalked w e q u (take used xs)
prefix-walked w d e q u used end xs depth h k =
    let fits : used ≤ end = omega (arith, length-take end xs) in
    subst (λ (d : ℕ). IsWalked w d q u (take used xs)) depth (subst (λ (bs : List ℕ). IsWalked w d q u bs) (take-take used end xs fits) k)

pub length-prefix : (used end : ℕ) (xs : List ℕ) → used ≤ length (take end xs) → end ≤ length xs → (used ≤ length xs) × (length (take used xs) ≡ used)
length-prefix used end xs h k =
    let fits : used ≤ length xs = omega (arith, length-take end xs) in
    (fits, omega (arith, length-take used xs, fits))

pub step-from : (out : Out) (old same new : MachineView) (bs : List ℕ) → old ≡ same → IsStep out old new bs → IsStep out same new bs
step-from out old same new bs e h = subst (λ (m : MachineView). IsStep out m new bs) e h

pub stopped : (old new : MachineView) (bs : List ℕ) (r : Refusal) (n : ℕ) → IsWalked (Refused r.reason) old.depth (state_of old.inner.position old.inner.frames) (state_of new.inner.position new.inner.frames) bs
    → length bs ≡ n → r ≡ refusal r.reason (old.taken + n - 1) (old.taken + n) → Stopped old new bs r
stopped old new bs r n w len is =
    let one : length w.0 + 1 ≡ n = sym (length-append w.0 (w.1 ∷ [])) ∙ ap length (sym w.2) ∙ len in
    let low : old.taken + n - 1 ≡ old.taken + length w.0 = omega (arith, one) in
    let high : old.taken + n ≡ old.taken + length w.0 + 1 = omega (arith, one) in
    record {
      prefix = w.0;
      byte = w.1;
      splits = w.2;
      ran = w.3;
      refuses = w.4;
      is = is ∙ ap (λ k. refusal r.reason k (old.taken + n)) low ∙ ap (λ k. refusal r.reason (old.taken + length w.0) k) high;
    }
