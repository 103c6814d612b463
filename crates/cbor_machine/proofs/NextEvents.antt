-- The next event, from one read after another.
use Rattle.std.proofs.Common.{◌≡◌, ℕ, zero, suc, ◌+◌, ◌-◌, ◌<◌, ◌≤◌, Bool, true, false, true≢false, List, [], ◌∷◌, ◌++◌, length, take, drop, replicate, refl, sym, ap, subst, ◌∙◌, arith, append_assoc, append-nil, length-append, take_all, Option, Some, None, min}
use Rattle.std.{specs.Io.KnownBytes.Consumes, proofs.KnownBytes.Consumes-trans}
use lib.Seq.{drop-append_seam}
use Rattle.cbor_head.specs.declared.event.EventKind.TheVariants as kinds
use Rattle.cbor_head.specs.{declared.event.Event.Event, declared.event.EventKind.EventKind, Prelude.AreBytes, declared.reason.Refusal.Refusal}
use Rattle.cbor_head.specs.declared.{major.Major.Major, width.Width.Width}
use Rattle.theory_values.proofs.ByteLists.{bytes_join, bytes_back}
use Rattle.theory_automaton.specs.Trace.{Mark, a_byte, total}
use Rattle.theory_automaton.specs.Automaton.{Frame, State, start, in_head, in_simple, in_payload, done, run, Outcome, reached}
use Rattle.theory_automaton.proofs.Events.{pending, IsSane, clear-pending}
use Rattle.theory_automaton.proofs.Taking.{IsClear, IsWithin, mark-taken, nothing-taken, first-mark, reports-first}
use Rattle.theory_automaton.specs.{Marks.mark_of, Marks.marks_of, Bytes.IsEventBytes, Taking.IsTaking, Pieces.piece_by}
use Rattle.theory_automaton.proofs.{Forward.reporting_all, Beginnings.onwards, Beginnings.run-append, Joining.bytes-total, Runs.tiles, Runs.sane-run}
use Rattle.cbor_machine.specs.State.{wanted_at, state_of, is_in_payload, is_done}
use Rattle.cbor_machine.specs.declared.frame.Frame as frames
use Rattle.cbor_machine.specs.declared.position.Position.TheVariants as positions
use Rattle.cbor_machine.specs.Machine.{Represents, IsComplete, IsWhole, IsGiven, wanted, wanted_within}
use Rattle.cbor_machine.specs.NextEvent.{machine_call, IsExpected, IsKept, AgreesBetween, IsNextEvent, IsEnd}
use Rattle.cbor_machine.specs.{declared.position.Position.Position, inner.Machine.IsShown, MachineView.MachineView, Calls.HasRead}
use Rattle.cbor_machine.proofs.Positions.{position-done}

-- ---- between events no head is open

sane-clear : (q : State) → IsSane q → pending q ≡ 0 → IsClear q
sane-clear (in_head chunk m w k acc fs) s h = absurd (omega arith)
sane-clear (in_simple fs) s h = absurd (omega arith)
sane-clear _ s h = tt

pub whole-clear : (d : ℕ) (t : List ℕ) (q : State) (ms : List Mark) → run d start t ≡ reached q ms → total ms ≡ length t → IsClear q
whole-clear d t q ms e whole =
    let all : total ms + pending q ≡ length t + 0 = tiles d t start q ms tt e in
    sane-clear q (sane-run d t start q ms tt e) (omega arith)

-- ---- how a run continues

untell : (ms ns : List Mark) (o : Outcome) (q : State) → reporting_all ms o ≡ reached q (ms ++ ns) → o ≡ reached q ns
untell [] ns o q e = e
untell (m ∷ ms) ns o q e = untell ms ns o q ((reports-first m m (reporting_all ms o) q (ms ++ ns) e).1)

pub run-rest : (d : ℕ) (t bs : List ℕ) (q u : State) (ms ns : List Mark) → run d start t ≡ reached q ms → run d start (t ++ bs) ≡ reached u (ms ++ ns) → run d q bs ≡ reached u ns
unfolding onwards
run-rest d t bs q u ms ns e f = untell ms ns (run d q bs) u (sym (run-append d t bs start ∙ ap (λ o. onwards o (λ s. run d s bs)) e) ∙ f)

-- ---- which event is expected

abbrev IsPayload : State → Type 0
IsPayload (in_payload chunk m n fs) = Unit {0}
IsPayload _ = ⊥

byte-payload : (d : ℕ) (q : State) (bs : List ℕ) (u : State) → IsTaking d q a_byte bs u → IsPayload q
byte-payload d (in_payload chunk m n fs) bs u h = tt
byte-payload d _ bs u h = absurd h

payload-expected : (position : Position) (fs : List frames.Frame) (n : ℕ) → IsPayload (state_of position fs) → (is_done position ≡ false) × IsExpected (is_in_payload position) (kinds.Piece n)
payload-expected (positions.Payload chunk kind left) fs n h = (refl, tt)
payload-expected _ fs n h = absurd h

-- not a byte of a payload
abbrev IsOther : Mark → Type 0
IsOther a_byte = ⊥
IsOther _ = Unit {0}

-- where a head or a break may be expected
abbrev IsOpen : Position → Type 0
IsOpen position = (is_done position ≡ false) × (is_in_payload position ≡ false)

in-no-payload : (d : ℕ) (chunk : Bool) (major : Major) (n : ℕ) (fs : List Frame) (m : Mark) (bs : List ℕ) (u : State) → IsOther m → IsTaking d (in_payload chunk major n fs) m bs u → ⊥
in-no-payload d chunk major zero fs a_byte bs u o h = o
in-no-payload d chunk major (suc n) fs a_byte bs u o h = o
in-no-payload d chunk major _ fs _ bs u o h = h

other-open : (d : ℕ) (position : Position) (fs : List frames.Frame) (m : Mark) (bs : List ℕ) (u : State) → IsOther m → IsTaking d (state_of position fs) m bs u → IsOpen position
other-open d (positions.Payload chunk kind left) fs m bs u o h = absurd (in-no-payload d chunk _ left _ m bs u o h)
other-open d positions.Done fs m bs u o h = absurd h
other-open d _ fs m bs u o h = (refl, refl)

-- ---- the bytes of one event

-- from one end of an event to another, the marks have as many bytes as were consumed
clear-total : (d : ℕ) (bs : List ℕ) (q u : State) (ms : List Mark) → IsClear q → IsClear u → run d q bs ≡ reached u ms → total ms ≡ length bs
clear-total d bs q u ms h k e =
    let from = clear-pending q h in
    omega (arith, tiles d bs q u ms from.1 e, from.0, (clear-pending u k).0)

pub run-joined : (d : ℕ) (pre last : List ℕ) (q r u : State) (ms : List Mark) → run d q pre ≡ reached r [] → run d r last ≡ reached u ms → run d q (pre ++ last) ≡ reached u ms
unfolding onwards
run-joined d pre last q r u ms e f = run-append d pre last q ∙ ap (λ o. onwards o (λ s. run d s last)) e ∙ f

payload-within : (d : ℕ) (q r : State) (pre : List ℕ) → IsPayload q → IsWithin d q r pre → pre ≡ []
payload-within d q (in_head false m x k acc fs) pre h w = absurd (subst IsPayload w.0 h)
payload-within d q (in_head true m x k acc fs) pre h w = absurd (subst IsPayload w.0 h)
payload-within d q (in_simple fs) pre h w = absurd (subst IsPayload w.0 h)
payload-within d q _ pre h w = w.1

-- the bytes of a payload come with no others before them
alone : (d : ℕ) (q r u : State) (pre last : List ℕ) (ms : List Mark) → IsClear q → AreBytes pre → AreBytes last → run d q pre ≡ reached r [] → run d r last ≡ reached u (a_byte ∷ ms) → (pre ≡ []) × IsPayload q
alone d q r u pre last ms h b c e f =
    let w = nothing-taken d q r pre h b e in
    let first = first-mark d last q r u pre a_byte ms w c f in
    let here = byte-payload d q first.0 first.1 first.2 in
    (payload-within d q r pre here w, here)

module _ (d : ℕ) (position : Position) (fs : List frames.Frame) (r u : State) (pre last buffer kept : List ℕ)
    (from : IsClear (state_of position fs)) (to : IsClear u) (b : AreBytes pre) (c : AreBytes last) (all : AreBytes (pre ++ last))
    (e : run d (state_of position fs) pre ≡ reached r []) (some : 0 < length last) (here : last ≡ take (length last) buffer) where
  abbrev q : State
  q = state_of position fs

  one-taken : (m : Mark) → run d r last ≡ reached u (m ∷ []) → IsTaking d q m (pre ++ last) u
  one-taken m f = mark-taken d q u (pre ++ last) m from all (run-joined d pre last q r u (m ∷ []) e f) to

  piece-known : (n : ℕ) → run d r last ≡ reached u (replicate n a_byte) → ((is_done position ≡ false) × IsExpected (is_in_payload position) (kinds.Piece n)) × (take n buffer ≡ pre ++ last)
  piece-known zero f =
      let none = clear-total d (pre ++ last) q u [] from to (run-joined d pre last q r u [] e f) in
      absurd (omega (arith, none, length-append pre last))
  piece-known (suc n) f =
      let size = sym (clear-total d (pre ++ last) q u (replicate (suc n) a_byte) from to (run-joined d pre last q r u (replicate (suc n) a_byte) e f)) ∙ bytes-total (suc n) in
      let only = alone d q r u pre last (replicate n a_byte) from b c e f in
      let same : pre ++ last ≡ last = ap (λ xs. xs ++ last) only.0 in
      let long : length last ≡ suc n = sym (ap length same) ∙ size in
      (payload-expected position fs (suc n) only.1, sym (same ∙ here ∙ ap (λ k. take k buffer) long))

  pub event-known : (w : Width) (kind : EventKind) → run d r last ≡ reached u (marks_of w kind)
      → ((is_done position ≡ false) × IsExpected (is_in_payload position) kind) × IsKept kind kept (piece_by kind kept buffer) (pre ++ last)
  event-known w (kinds.Piece n) f = piece-known n f
  event-known w kind f =
      let expected = other-open d position fs (mark_of w kind) (pre ++ last) u tt (one-taken (mark_of w kind) f) in
      ((expected.0, subst (λ (b : Bool). IsExpected b kind) (sym expected.1) tt), refl)

-- ---- the results

-- an event is complete
pub event-here : (e : Event) (from mid_from to : Option (List ℕ)) (old mid new : MachineView) (kept buffer t last : List ℕ) (ms : List Mark) → AgreesBetween old t ms → (r : HasRead from mid_from mid t ms)
    → mid.depth ≡ old.depth → new.depth ≡ old.depth → Consumes mid_from to last → AreBytes last → 0 < length last → last ≡ take (length last) buffer → IsGiven e new (t ++ r.bytes) last ms
    → IsNextEvent e (machine_call old new from to kept (piece_by e.kind kept buffer) t ms)
event-here e from mid_from to old mid new kept buffer t last ms h r mid_depth depth c b some here g =
    let d = old.depth in
    let pre = r.bytes in
    let q = state_of old.inner.position old.inner.frames in
    let m = state_of mid.inner.position mid.inner.frames in
    let u = state_of new.inner.position new.inner.frames in
    let marks = marks_of e.width e.kind in
    let silent : run d start (t ++ pre) ≡ reached m ms = subst (λ (x : ℕ). run x start (t ++ pre) ≡ reached m ms) mid_depth r.agrees.inner.ran in
    let whole : run d start ((t ++ pre) ++ last) ≡ reached u (ms ++ marks) = subst (λ (x : ℕ). run x start ((t ++ pre) ++ last) ≡ reached u (ms ++ marks)) depth g.agrees.inner.ran in
    let first = run-rest d t pre q m ms [] h.agrees.inner.ran (silent ∙ ap (reached m) (sym (append-nil ms))) in
    let then_reported = run-rest d (t ++ pre) last m u ms marks silent whole in
    let bytes = bytes_back t pre r.agrees.are_bytes in
    let known = event-known d old.inner.position old.inner.frames m u pre last buffer kept (whole-clear d t q ms h.agrees.inner.ran h.whole) (whole-clear d ((t ++ pre) ++ last) u (ms ++ marks) whole g.ends)
    bytes b (bytes_join pre last bytes b) first some here e.width e.kind then_reported in
    let mine : drop e.place ((t ++ pre) ++ last) ≡ pre ++ last =
    ap (λ n. drop n ((t ++ pre) ++ last)) (g.place ∙ h.whole) ∙ ap (drop (length t)) (append_assoc t pre last) ∙ drop-append_seam t (pre ++ last) in
    let shown = h.agrees.inner.shown in
    record {
      unfinished = λ k. true≢false (sym k.0 ∙ shown.complete ∙ known.0.0);
      expected = subst (λ (b : Bool). IsExpected b e.kind) (sym shown.in_payload) known.0.1;
      bytes = pre ++ last;
      consumed = Consumes-trans _ _ _ _ _ r.consumed c;
      are = subst (IsEventBytes ms e.width e.kind) mine g.bytes;
      piece_is = known.1;
      place = g.place ∙ h.whole;
      agrees = subst (λ xs. AgreesBetween new xs (ms ++ marks)) (append_assoc t pre last) (record { agrees = g.agrees; whole = g.ends });
    }

-- the item is complete: nothing was read
pub end-here : (from mid_from to : Option (List ℕ)) (old mid new : MachineView) (kept t last : List ℕ) (ms : List Mark) → AgreesBetween old t ms → HasRead from mid_from mid t ms → mid.depth ≡ old.depth
    → IsComplete mid → new ≡ mid → Consumes mid_from to last → last ≡ [] → IsEnd (machine_call old new from to kept kept t ms)
end-here from mid_from to old mid new kept t last ms h r depth complete same c nothing =
    let d = old.depth in
    let q = state_of old.inner.position old.inner.frames in
    let silent : run d start (t ++ r.bytes) ≡ reached (state_of mid.inner.position mid.inner.frames) ms =
    subst (λ (x : ℕ). run x start (t ++ r.bytes) ≡ reached (state_of mid.inner.position mid.inner.frames) ms) depth r.agrees.inner.ran in
    let at_end : mid.inner.position ≡ positions.Done = position-done mid.inner.position (sym r.agrees.inner.shown.complete ∙ complete.0) in
    let over : run d start (t ++ r.bytes) ≡ reached done (ms ++ []) = silent ∙ ap (λ p. reached (state_of p mid.inner.frames) ms) at_end ∙ ap (reached done) (sym (append-nil ms)) in
    let first = run-rest d t r.bytes q done ms [] h.agrees.inner.ran over in
    let none : r.bytes ≡ [] = (nothing-taken d q done r.bytes (whole-clear d t q ms h.agrees.inner.ran h.whole) (bytes_back t r.bytes r.agrees.are_bytes) first).1 in
    let here : t ++ r.bytes ≡ t = ap (λ xs. t ++ xs) none ∙ append-nil t in
    record {
      complete = h.agrees.complete.1 (subst (λ d. IsWhole d t) depth (subst (IsWhole mid.depth) here (r.agrees.complete.0 complete)));
      consumed = Consumes-trans _ _ _ _ _ (subst (Consumes from mid_from) none r.consumed) (subst (Consumes mid_from to) nothing c);
      same = refl;
      agrees = record { agrees = subst (λ m. Represents m t ms) (sym same) (subst (λ xs. Represents mid xs ms) here r.agrees); whole = h.whole };
    }

-- one read after another, without a complete event
pub read-on : (from mid_from to : Option (List ℕ)) (mid new : MachineView) (t last : List ℕ) (ms : List Mark) → (r : HasRead from mid_from mid t ms) → Consumes mid_from to last → Represents new ((t ++ r.bytes) ++ last) ms
    → HasRead from to new t ms
read-on from mid_from to mid new t last ms r c h =
    record { bytes = r.bytes ++ last; consumed = Consumes-trans _ _ _ _ _ r.consumed c; agrees = subst (λ xs. Represents new xs ms) (append_assoc t r.bytes last) h }

-- ---- the bytes that the machine expects

pub complete-wants : (m : MachineView) → IsShown m → 0 < wanted m → ¬ IsComplete m
complete-wants m shown h = λ c.
    let at_end : m.inner.position ≡ positions.Done = position-done m.inner.position (sym shown.complete ∙ c.0) in
    let nothing : m.expected ≡ 0 = shown.expected ∙ ap wanted_at at_end in
    let none : wanted m ≡ 0 = ap (λ r. wanted_within r (min (m.bytes - m.taken) m.expected)) c.1 ∙ ap (λ n. min (m.bytes - m.taken) n) nothing ∙ omega arith in
    omega (arith, none)

pub wants-short : (m : MachineView) → 0 < wanted m → m.taken < m.bytes
wants-short m h = go m.refusal h
  where
    go : (r : Option Refusal) → 0 < wanted_within r (min (m.bytes - m.taken) m.expected) → m.taken < m.bytes
    go None k = omega arith
    go (Some f) k = absurd (omega arith)

-- the expected bytes are within the limit and belong to what is open, and nothing was refused
pub wants-all : (m : MachineView) (n : ℕ) → 0 < n → n ≤ wanted m → (n ≤ m.expected) × (n ≤ m.bytes - m.taken) × (m.refusal ≡ None)
wants-all m n some h = go m.refusal h
  where
    go : (r : Option Refusal) → n ≤ wanted_within r (min (m.bytes - m.taken) m.expected) → (n ≤ m.expected) × (n ≤ m.bytes - m.taken) × (r ≡ None)
    go None k = (omega arith, omega arith, refl)
    go (Some f) k = absurd (omega (arith, some))

-- ---- the prefix of a buffer

pub prefix-again : (n : ℕ) (xs : List ℕ) → take n xs ≡ take (length (take n xs)) xs
prefix-again zero xs = refl
prefix-again (suc n) [] = refl
prefix-again (suc n) (x ∷ xs) = ap (λ ys. x ∷ ys) (prefix-again n xs)

pub all-used : (used : ℕ) (xs : List ℕ) → used ≡ length xs → take used xs ≡ xs
all-used used xs e = take_all used xs (omega arith)

pub wanted-space : (m : MachineView) → m.taken ≤ m.bytes → m.taken + wanted m ≤ m.bytes
wanted-space m h = go m.refusal
  where
    go : (r : Option Refusal) → m.taken + wanted_within r (min (m.bytes - m.taken) m.expected) ≤ m.bytes
    go None = omega arith
    go (Some f) = omega arith
