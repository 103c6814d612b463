-- Strings: a payload, the chunk that it is of, and the whole.
use Rattle.std.proofs.Common.{◌≡◌, ℕ, zero, suc, ◌+◌, ◌-◌, ◌<◌, ◌≤◌, Bool, true, false, Option, None, List, [], ◌∷◌, ◌++◌, length, drop, replicate, refl, true≢false, sym, ap, ◌∙◌, subst, inl, inr, arith, append_assoc, append-nil, IsUtf8, length-append}
use Rattle.std.{specs.Str.Lossy.utf8_valid_len, proofs.Math.Seq.drop-append_seam, specs.Io.KnownBytes.Consumes}
use Rattle.std.proofs.KnownBytes.{Consumes-nil, Consumes-trans}
use Rattle.cbor_head.specs.Prelude.{Bounds, AreBytes, refusal}
use Rattle.cbor_head.specs.declared.event.EventKind.TheVariants as kinds
use Rattle.cbor_head.specs.declared.{major.Major.Major, width.Width.Width, reason.Refusal.Refusal, reason.Reason.TheVariants.InvalidText, event.Event.Event}
use Rattle.cbor_head.specs.declared.event.EventKind.{EventKind}
use Rattle.theory_values.proofs.ByteLists.{bytes_join, bytes_back}
use Rattle.theory_automaton.specs.Automaton as automaton
use Rattle.theory_automaton.specs.Automaton.{State, refused, run, reached}
use Rattle.theory_automaton.specs.Taking as taking
use Rattle.theory_automaton.proofs.Taking.{IsWithin, nothing-taken, first-mark, reports-first, within-start}
use Rattle.theory_automaton.{proofs.Events.close_string-clear, specs.Trace.Mark, specs.Trace.a_byte, specs.Marks.marks_of, specs.Bytes.IsEventBytes}
use Rattle.theory_automaton.proofs.Forward.{payload-byte}
use Rattle.cbor_machine.specs.declared.frame.Frame as frames
use Rattle.cbor_machine.specs.declared.position.Position.TheVariants as positions
use Rattle.cbor_machine.specs.NextEvent as item_events
use Rattle.cbor_machine.specs.NextEvent.{ItemEventsView, IsNextEvent, IsKept, call}
use Rattle.cbor_machine.specs.{State.state_of, State.is_in_payload, declared.position.Position.Position}
use Rattle.theory_verdicts.specs.Place.{Container, Place, in_payload, done as at_end, close_string, payload}
use Rattle.theory_verdicts.specs.Reading.{state_at, IsAt, IsFormRefusal, IsMemory, ReadsPayload, StopsPayload}
use Rattle.theory_verdicts.proofs.Places.{place_of, place-back, payload-at, clear-at}
use Rattle.theory_verdicts.proofs.Steps.{expected-by, Stops, SameLimits, agrees-reached, at-reached, reached-as, next-at, place_in, since}
use Rattle.theory_verdicts.proofs.{Scalars.at-as, Undecided.is-part}

-- ---- a part of a payload

-- Of a payload of n bytes that followed t, some have come.
pub record HasCome (b : Bounds) (chunk : Bool) (m : Major) (fs : List Container) (t : List ℕ) (left : ℕ) (old grown : List ℕ) (from now : Option (List ℕ)) (e : ItemEventsView) (n : ℕ) : Type 0 where
  pub p : List ℕ
  pub consumed : Consumes from now p
  pub count : length p + left ≡ n
  pub are_bytes : AreBytes p
  pub grows : grown ≡ old ++ p
  pub at : IsAt b e (t ++ p) (payload chunk m left fs)

pub none-come : (b : Bounds) (chunk : Bool) (m : Major) (fs : List Container) (t : List ℕ) (n : ℕ) (old : List ℕ) (from : Option (List ℕ)) (e : ItemEventsView) → IsAt b e t (payload chunk m n fs)
    → HasCome b chunk m fs t n old old from from e n
none-come b chunk m fs t n old from e a = record {
  p = [];
  consumed = Consumes-nil from;
  count = omega arith;
  are_bytes = tt;
  grows = sym (append-nil old);
  at = at-as b e t (t ++ []) (payload chunk m n fs) (payload chunk m n fs) (sym (append-nil t)) refl a;
}

-- a piece is expected
abbrev pub IsPiece : EventKind → Type 0
IsPiece (kinds.Piece n) = Unit {0}
IsPiece kind = ⊥

-- bytes of a payload are expected
abbrev pub IsPayload : Place → Type 0
IsPayload (in_payload chunk m n fs) = Unit {0}
IsPayload q = ⊥

expected-piece : (position : Position) (fs : List frames.Frame) (q : Place) (kind : EventKind) → state_of position fs ≡ state_at q → IsPayload q → item_events.IsExpected (is_in_payload position) kind → IsPiece kind
expected-piece (positions.Payload chunk type left) fs q (kinds.Piece n) e h d = tt
expected-piece (positions.Payload chunk type left) fs q _ e h d = absurd d
expected-piece _ fs (in_payload c m n gs) kind e h d = absurd (cc e)
expected-piece _ fs _ kind e h d = absurd h

-- the next event is a piece
pub piece-expected : (b : Bounds) (e : ItemEventsView) (t : List ℕ) (q : Place) (kind : EventKind) → IsAt b e t q → IsPayload q → item_events.IsExpected e.machine.in_payload kind → IsPiece kind
piece-expected b e t q kind a h d = expected-piece e.machine.inner.position e.machine.inner.frames q kind a.state h (expected-by b e t q kind a d)

-- the bytes of a piece
record PieceBytes (w : Width) (kind : EventKind) (kept piece bs : List ℕ) : Type 0 where
  same : piece ≡ bs
  some : 0 < length bs
  marks : marks_of w kind ≡ replicate (length bs) a_byte

piece-bytes : (reported : List Mark) (w : Width) (kind : EventKind) (kept piece bs : List ℕ) → IsPiece kind → IsKept kind kept piece bs → IsEventBytes reported w kind bs → PieceBytes w kind kept piece bs
piece-bytes reported w (kinds.Piece n) kept piece bs h k e = record { same = k; some = omega (arith, e.0.1, e.1); marks = ap (λ (j : ℕ). replicate j a_byte) (sym e.1) }
piece-bytes reported w _ kept piece bs h k e = absurd h

no-byte : (d : ℕ) (fs : List automaton.Frame) (cs : List ℕ) (u : State) → taking.IsTaking d (automaton.close fs) a_byte cs u → ⊥
no-byte d (automaton.counted zero ∷ fs) cs u h = no-byte d fs cs u h
no-byte d _ cs u h = h

no-byte-following : (d : ℕ) (chunk : Bool) (m : Major) (fs : List automaton.Frame) (cs : List ℕ) (u : State) → taking.IsTaking d (automaton.close_string chunk m fs) a_byte cs u → ⊥
no-byte-following d true m fs cs u h = h
no-byte-following d false m fs cs u h = no-byte d fs cs u h

-- bytes that are reported as part of a payload are its next bytes
part : (d : ℕ) (chunk : Bool) (m : Major) (fs : List automaton.Frame) (n : ℕ) (bs : List ℕ) (u : State) → AreBytes bs → run d (automaton.payload chunk m n fs) bs ≡ reached u (replicate (length bs) a_byte)
    → (length bs ≤ n) × (u ≡ automaton.payload chunk m (n - length bs) fs)
part d chunk m fs n [] u b e =
    let same : automaton.payload chunk m n fs ≡ u = cc in
    let none : n ≡ n - 0 = omega arith in
    (omega arith, sym same ∙ ap (λ (j : ℕ). automaton.payload chunk m j fs) none)
part d chunk m fs zero (c ∷ cs) u b e =
    let q = automaton.close_string chunk m fs in
    let f = first-mark d (c ∷ cs) q q u [] a_byte (replicate (length cs) a_byte) (within-start d q (close_string-clear chunk m fs)) b e in
    absurd (no-byte-following d chunk m fs f.0 f.1 f.2)
part d chunk m fs (suc n) (c ∷ cs) u b e =
    let rest = part d chunk m fs n cs u b.1 ((reports-first a_byte a_byte (run d (automaton.payload chunk m n fs) cs) u (replicate (length cs) a_byte) (sym (payload-byte d chunk m n fs c cs) ∙ e)).1) in
    let fits : length cs ≤ n = rest.0 in
    let same : n - length cs ≡ suc n - suc (length cs) = omega arith in
    (omega (arith, fits), rest.1 ∙ ap (λ (j : ℕ). automaton.payload chunk m j fs) same)

module _ (b : Bounds) (chunk : Bool) (m : Major) (fs : List Container) (t : List ℕ) (left : ℕ) (old grown : List ℕ) (from now : Option (List ℕ)) (e : ItemEventsView) (n : ℕ)
    (h : HasCome b chunk m fs t left old grown from now e n) (some : 0 < left) where
  payload-here : IsPayload (payload chunk m left fs)
  payload-here = go left some
    where
      go : (left : ℕ) → 0 < left → IsPayload (payload chunk m left fs)
      go zero s = absurd (omega arith)
      go (suc k) s = tt

  -- it isn't at its end
  pub payload-open : payload chunk m left fs ≡ at_end → ⊥
  payload-open g = subst IsPayload g payload-here

  module _ (ev : Event) (to : Option (List ℕ)) (new : ItemEventsView) (same : SameLimits e.machine new.machine) (x : IsNextEvent ev (call e new now to (t ++ h.p) h.at.marks)) where
    bytes-of : PieceBytes ev.width ev.kind e.piece new.piece x.bytes
    bytes-of = piece-bytes h.at.marks ev.width ev.kind e.piece new.piece x.bytes (piece-expected b e (t ++ h.p) (payload chunk m left fs) ev.kind h.at payload-here x.expected) x.piece_is x.are

    taken-part : (length x.bytes ≤ left) × (state_of new.machine.inner.position new.machine.inner.frames ≡ state_at (payload chunk m (left - length x.bytes) fs))
    taken-part =
        let u = state_of new.machine.inner.position new.machine.inner.frames in
        let ran = since b e new.machine (t ++ h.p) x.bytes (payload chunk m left fs) (marks_of ev.width ev.kind) h.at (same.depth ∙ h.at.depth) x.agrees.agrees.inner.ran ∙ ap (λ (ms : List Mark). reached u ms) bytes-of.marks in
        let k = part b.depth chunk m fs left x.bytes u (bytes_back (t ++ h.p) x.bytes x.agrees.agrees.are_bytes)
        (ap (λ (s : State). run b.depth s x.bytes) (payload-at chunk m left fs) ∙ ran) in
        (k.0, k.1 ∙ payload-at chunk m (left - length x.bytes) fs)

    pub part-fits : (0 < length new.piece) × (length new.piece ≤ left)
    part-fits =
        let size : length new.piece ≡ length x.bytes = ap length bytes-of.same in
        (omega (arith, size, bytes-of.some), omega (arith, size, taken-part.0))

    -- one part more
    pub part-comes : (more : List ℕ) → new.refusal ≡ None → more ≡ grown ++ new.piece → HasCome b chunk m fs t (left - length new.piece) old more from to new n
    part-comes more live g =
        let size : length new.piece ≡ length x.bytes = ap length bytes-of.same in
        record {
          p = h.p ++ x.bytes;
          consumed = Consumes-trans from now to h.p x.bytes h.consumed x.consumed;
          count = omega (arith, h.count, size, taken-part.0, length-append h.p x.bytes);
          are_bytes = bytes_join h.p x.bytes h.are_bytes (bytes_back (t ++ h.p) x.bytes x.agrees.agrees.are_bytes);
          grows = g ∙ ap (λ (u : List ℕ). u ++ new.piece) h.grows ∙ append_assoc old h.p new.piece ∙ ap (λ (u : List ℕ). old ++ (h.p ++ u)) bytes-of.same;
          at = at-as b new ((t ++ h.p) ++ x.bytes) (t ++ (h.p ++ x.bytes)) (place_in new) (payload chunk m (left - length new.piece) fs) (append_assoc t h.p x.bytes)
              (ap place_of taken-part.1 ∙ place-back (payload chunk m (left - length x.bytes) fs) ∙ ap (λ (j : ℕ). payload chunk m (left - j) fs) (sym size))
              (next-at b e new (t ++ h.p) ((t ++ h.p) ++ x.bytes) (payload chunk m left fs) (h.at.marks ++ marks_of ev.width ev.kind) h.at same live x.agrees);
        }

    -- no memory for it
    pub part-memory : (f : Refusal) → f.read ≡ new.machine.taken → IsMemory f → StopsPayload b t n false from to f
    part-memory f g i =
        let size = length-append h.p x.bytes in
        record {
          bytes = h.p ++ x.bytes;
          consumed = Consumes-trans from now to h.p x.bytes h.consumed x.consumed;
          read = g ∙ x.agrees.agrees.taken ∙ ap length (append_assoc t h.p x.bytes);
          why = inl (
            i,
            reached-as b ((t ++ h.p) ++ x.bytes) (t ++ (h.p ++ x.bytes)) (append_assoc t h.p x.bytes)
                (agrees-reached b new.machine ((t ++ h.p) ++ x.bytes) (h.at.marks ++ marks_of ev.width ev.kind) (same.depth ∙ h.at.depth) (same.bytes ∙ h.at.bytes) x.agrees.agrees),
            is-part n (h.p ++ x.bytes) (omega (arith, size, bytes-of.some)) (omega (arith, size, taken-part.0, h.count))
                (bytes_join h.p x.bytes h.are_bytes (bytes_back (t ++ h.p) x.bytes x.agrees.agrees.are_bytes)),
          );
        }

  -- no part more
  pub part-cut : (to : Option (List ℕ)) (f : Refusal) → Stops b (payload chunk m left fs) (t ++ h.p) now to f → StopsPayload b t n false from to f
  part-cut to f s =
      let c = s.cut in
      let none : c.p ≡ [] = (go left some (nothing-taken b.depth (state_at (payload chunk m left fs)) c.begun c.p (clear-at (payload chunk m left fs)) c.are_bytes c.ran)) in
      record {
        bytes = h.p ++ s.bytes;
        consumed = Consumes-trans from now to h.p s.bytes h.consumed s.consumed;
        read = s.read ∙ ap length (append_assoc t h.p s.bytes);
        why = inr (inl (record {
          p = h.p;
          last = s.bytes;
          splits = refl;
          short = omega (arith, h.count, some);
          are_bytes = h.are_bytes;
          place = c.place ∙ ap (λ (u : List ℕ). length ((t ++ h.p) ++ u)) none ∙ ap length (append-nil (t ++ h.p));
          refused = subst (λ (u : List ℕ). IsFormRefusal b u to f) (append_assoc t h.p s.bytes) c.refused;
        }));
      }
    where
      go : (left : ℕ) → 0 < left → IsWithin b.depth (state_at (payload chunk m left fs)) s.cut.begun s.cut.p → s.cut.p ≡ []
      go zero k w = absurd (omega arith)
      go (suc j) k w = following s.cut.begun w
        where
          following : (u : State) → IsWithin b.depth (state_at (in_payload chunk m j fs)) u s.cut.p → s.cut.p ≡ []
          following (automaton.in_head false l w i acc gs) taking = absurd (cc taking.0)
          following (automaton.in_head true l w i acc gs) taking = absurd (cc taking.0)
          following (automaton.in_simple gs) taking = absurd (cc taking.0)
          following _ taking = taking.1

-- all of it has come
pub all-come : (b : Bounds) (chunk : Bool) (m : Major) (fs : List Container) (t : List ℕ) (left : ℕ) (old grown : List ℕ) (from now : Option (List ℕ)) (e : ItemEventsView) (n : ℕ)
    → HasCome b chunk m fs t left old grown from now e n → left ≡ 0 → ReadsPayload b (close_string chunk m fs) t n old grown from now e
all-come b chunk m fs t left old grown from now e n h none = record {
  bytes = h.p;
  consumed = h.consumed;
  count = omega (arith, h.count, none);
  are_bytes = h.are_bytes;
  grows = h.grows;
  at = at-as b e (t ++ h.p) (t ++ h.p) (payload chunk m left fs) (close_string chunk m fs) refl (ap (λ (j : ℕ). payload chunk m j fs) none) h.at;
}

-- ---- a chunk

pub payload-stops : (b : Bounds) (t : List ℕ) (n : ℕ) (text : Bool) (from to : Option (List ℕ)) (f : Refusal) → StopsPayload b t n false from to f → StopsPayload b t n text from to f
payload-stops b t n text from to f s = record {
  bytes = s.bytes;
  consumed = s.consumed;
  read = s.read;
  why = elim s.why [ inl m ↦ inl m | inr (inl c) ↦ inr (inl c) | inr (inr x) ↦ absurd (true≢false (sym x.0)) ];
}

module _ (b : Bounds) (q : Place) (t : List ℕ) (n : ℕ) (old grown : List ℕ) (from to : Option (List ℕ)) (new : ItemEventsView) (reads : ReadsPayload b q t n old grown from to new) where
  pub following-old : drop (length old) grown ≡ reads.bytes
  following-old = ap (drop (length old)) reads.grows ∙ drop-append_seam old reads.bytes

  pub grown-length : length old ≤ length grown
  grown-length = omega (arith, ap length reads.grows, length-append old reads.bytes)

  pub chunk-is-text : (xs : List ℕ) → xs ≡ drop (length old) grown → IsUtf8 xs → IsUtf8 reads.bytes
  chunk-is-text xs e h = subst IsUtf8 (e ∙ following-old) h

  pub chunk-no-text : (xs : List ℕ) (text : Bool) (f : Refusal) → xs ≡ drop (length old) grown → ¬ IsUtf8 xs → text ≡ true → f ≡ refusal InvalidText (length t + utf8_valid_len xs) new.machine.taken → StopsPayload b t n text from to f
  chunk-no-text xs text f e h is_text is =
      let same : xs ≡ reads.bytes = e ∙ following-old in
      let taken : new.machine.taken ≡ length t + length reads.bytes = reads.at.agrees.agrees.taken ∙ length-append t reads.bytes in
      let reported : f ≡ refusal InvalidText (length t + utf8_valid_len reads.bytes) (length t + length reads.bytes) =
      is ∙ ap (λ (ys : List ℕ). refusal InvalidText (length t + utf8_valid_len ys) new.machine.taken) same ∙ ap (refusal InvalidText (length t + utf8_valid_len reads.bytes)) taken in
      record {
        bytes = reads.bytes;
        consumed = reads.consumed;
        read = ap (λ (x : Refusal). x.read) is ∙ reads.at.agrees.agrees.taken;
        why = inr (inr (is_text, record { count = reads.count; are_bytes = reads.are_bytes; no_text = λ u. h (subst IsUtf8 (sym same) u); is = reported; within = (at-reached b new (t ++ reads.bytes) q reads.at).within }));
      }
