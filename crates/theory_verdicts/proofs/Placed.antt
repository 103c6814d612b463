-- The position that the events reported lead to is the machine's.
use Rattle.std.proofs.Common.{◌≡◌, ◌↔◌, ℕ, zero, suc, ◌+◌, ◌<◌, Bool, true, false, List, [], ◌∷◌, ◌++◌, length, replicate, refl, sym, ap, ◌∙◌, subst, arith, append-nil, append_assoc, nat_lt, lt-ltb}
use Rattle.cbor_head.specs.Prelude.{Holds, head, AreBytes}
use Rattle.cbor_head.specs.declared.major.Major.TheVariants as majors
use Rattle.cbor_head.specs.declared.event.EventKind.TheVariants as kinds
use Rattle.cbor_head.specs.declared.{major.Major.Major, width.Width.Width, width.Width.TheVariants.Indefinite, event.Event.Event, event.EventKind.EventKind}
use Rattle.theory_values.proofs.ByteLists.{bytes_back}
use Rattle.theory_automaton.specs.Trace.{Mark, a_head, a_chunk, a_byte, a_break}
use Rattle.theory_automaton.specs.Automaton as automaton
use Rattle.theory_automaton.specs.Automaton.{State, Outcome, run, reached}
use Rattle.theory_automaton.proofs.Beginnings.{onwards, run-append, reporting_all-reached}
use Rattle.theory_automaton.proofs.Forward.{reporting_all, payload-byte, head-taken, item_starts, chunk_starts, simple-taken}
use Rattle.theory_automaton.proofs.Taking.{IsClear, first-mark, reports-first, within-start, mark-taken}
use Rattle.theory_automaton.specs.Marks.{mark_of, marks_of, times}
use Rattle.theory_automaton.{specs.Bytes.IsEventBytes, proofs.Runs.once-marks, proofs.Agrees.IsString}
use Rattle.cbor_machine.specs.NextEvent.{Call, AgreesBetween, IsNextEvent, IsExpected}
use Rattle.cbor_machine.specs.{State.state_of, Machine.IsComplete, MachineView.MachineView}
use Rattle.cbor_machine.proofs.NextEvents.{whole-clear, run-rest}
use Rattle.theory_verdicts.specs.Place.{Container, counted, indefinite_array, indefinite_map, Place, at_item, in_payload, in_chunks, done, close, expect, payload, Follows, Opens, Ends, IsTaking, IsPlaced, begins, leads_on, LeadsOn, open_at}
use Rattle.theory_verdicts.proofs.ParseState as open_levels
use Rattle.theory_verdicts.proofs.Places.{place_of, clear-at, taking-at, close-at, expect-at, string-at, payload-at}
use Rattle.theory_verdicts.specs.Reading.{state_at}

-- ---- chunks are of a string

abbrev IsSane : Place → Type 0
IsSane (in_chunks m cs) = IsString m
IsSane (in_payload true m n cs) = IsString m
IsSane _ = Unit {0}

sane-close : (cs : List Container) → IsSane (close cs)
sane-close (counted zero ∷ cs) = sane-close cs
sane-close _ = tt

sane-expect : (n : ℕ) (cs : List Container) → IsSane (expect n cs)
sane-expect zero cs = sane-close cs
sane-expect (suc n) cs = tt

sane-payload : (m : Major) (n : ℕ) (cs : List Container) → IsSane (payload false m n cs)
sane-payload m zero cs = sane-close cs
sane-payload m (suc n) cs = tt

sane-chunk : (m : Major) (n : ℕ) (cs : List Container) → IsString m → IsSane (payload true m n cs)
sane-chunk m zero cs h = h
sane-chunk m (suc n) cs h = h

-- ---- a mark, from position to position

record Leads (d : ℕ) (p : Place) (m : Mark) (bs : List ℕ) (q : Place) : Type 0 where
  ran : run d (state_at p) bs ≡ reached (state_at q) (m ∷ [])
  sane : IsSane q

module _ (d : ℕ) (cs : List Container) (w : Width) (n : ℕ) (h : Holds w n) (q : Place) where
  -- a head of an item with a number
  numbered : (m : Major) → ((k : ℕ) → automaton.tail m k ≡ automaton.numbered_tail m k) → automaton.has_space d cs m ≡ true → automaton.after false m n cs ≡ state_at q → IsSane q
      → Leads d (at_item cs) (a_head m w n) (head m w n) q
  numbered m plain space to sane = record {
    ran = ap (run d (state_at (at_item cs))) (sym (append-nil (head m w n)))
        ∙ head-taken d (state_at (at_item cs)) false m cs (item_starts d m cs plain space) w n [] h
        ∙ ap (λ (s : State). reached s (a_head m w n ∷ [])) to;
    sane = sane;
  }

  deep : length cs < d → nat_lt (length cs) d ≡ true
  deep l = lt-ltb (length cs) d l

  follows : (m : Major) → Follows d cs m w n q → Leads d (at_item cs) (a_head m w n) (head m w n) q
  follows majors.Unsigned f = numbered majors.Unsigned (λ k. refl) refl (close-at cs ∙ ap state_at (sym f)) (subst IsSane (sym f) (sane-close cs))
  follows majors.Negative f = numbered majors.Negative (λ k. refl) refl (close-at cs ∙ ap state_at (sym f)) (subst IsSane (sym f) (sane-close cs))
  follows majors.Bytes f = numbered majors.Bytes (λ k. refl) refl (payload-at false majors.Bytes n cs ∙ ap state_at (sym f)) (subst IsSane (sym f) (sane-payload majors.Bytes n cs))
  follows majors.Text f = numbered majors.Text (λ k. refl) refl (payload-at false majors.Text n cs ∙ ap state_at (sym f)) (subst IsSane (sym f) (sane-payload majors.Text n cs))
  follows majors.Array f = numbered majors.Array (λ k. refl) (deep f.0) (expect-at n cs ∙ ap state_at (sym f.1)) (subst IsSane (sym f.1) (sane-expect n cs))
  follows majors.Map f = numbered majors.Map (λ k. refl) (deep f.0) (expect-at (n + n) cs ∙ ap state_at (sym f.1)) (subst IsSane (sym f.1) (sane-expect (n + n) cs))
  follows majors.Tag f = numbered majors.Tag (λ k. refl) (deep f.0) (expect-at 1 cs ∙ ap state_at (sym f.1)) (subst IsSane (sym f.1) (sane-expect 1 cs))
  follows majors.Simple f = record {
    ran = ap (run d (state_at (at_item cs))) (sym (append-nil (head majors.Simple w n))) ∙ simple ∙ ap (λ (s : State). reached s (a_head majors.Simple w n ∷ [])) (close-at cs ∙ ap state_at (sym f.2));
    sane = subst IsSane (sym f.2) (sane-close cs);
  }
    where
      simple : run d (state_at (at_item cs)) (head majors.Simple w n ++ []) ≡ reached (automaton.close cs) (a_head majors.Simple w n ∷ [])
      simple = subst (λ (v : Width). run d (state_at (at_item cs)) (head majors.Simple v n ++ []) ≡ reached (automaton.close cs) (a_head majors.Simple v n ∷ [])) (sym f.1) (simple-taken d n cs [] f.0)

  -- and of a chunk
  chunk-head : (m : Major) → IsString m → q ≡ payload true m n cs → Leads d (in_chunks m cs) (a_chunk w n) (head m w n) q
  chunk-head m i f = record {
    ran = ap (run d (state_at (in_chunks m cs))) (sym (append-nil (head m w n))) ∙ taken m i ∙ ap (λ (s : State). reached s (a_chunk w n ∷ [])) (payload-at true m n cs ∙ ap state_at (sym f));
    sane = subst IsSane (sym f) (sane-chunk m n cs i);
  }
    where
      taken : (m : Major) → IsString m → run d (state_at (in_chunks m cs)) (head m w n ++ []) ≡ reached (automaton.payload true m n cs) (a_chunk w n ∷ [])
      taken majors.Bytes i = head-taken d (state_at (in_chunks majors.Bytes cs)) true majors.Bytes cs (chunk_starts d majors.Bytes cs (λ k. refl) refl) w n [] h
      taken majors.Text i = head-taken d (state_at (in_chunks majors.Text cs)) true majors.Text cs (chunk_starts d majors.Text cs (λ k. refl) refl) w n [] h
      taken _ i = absurd i

opens : (d : ℕ) (cs : List Container) (m : Major) (q : Place) → Opens d cs m q → Leads d (at_item cs) (a_head m Indefinite 0) (head m Indefinite 0) q
opens d cs majors.Bytes q f = record { ran = ap (λ (p : Place). reached (state_at p) (a_head majors.Bytes Indefinite 0 ∷ [])) (sym f); sane = subst IsSane (sym f) tt }
opens d cs majors.Text q f = record { ran = ap (λ (p : Place). reached (state_at p) (a_head majors.Text Indefinite 0 ∷ [])) (sym f); sane = subst IsSane (sym f) tt }
opens d cs majors.Array q f = record { ran = rw (lt-ltb (length cs) d f.0) (ap (λ (p : Place). reached (state_at p) (a_head majors.Array Indefinite 0 ∷ [])) (sym f.1)); sane = subst IsSane (sym f.1) tt }
opens d cs majors.Map q f = record { ran = rw (lt-ltb (length cs) d f.0) (ap (λ (p : Place). reached (state_at p) (a_head majors.Map Indefinite 0 ∷ [])) (sym f.1)); sane = subst IsSane (sym f.1) tt }
opens d cs _ q f = absurd f

ends : (d : ℕ) (cs : List Container) (q : Place) → Ends cs q → Leads d (at_item cs) a_break (0xff ∷ []) q
ends d (indefinite_array ∷ cs) q f = record { ran = ap (λ (s : State). reached s (a_break ∷ [])) (close-at cs ∙ ap state_at (sym f)); sane = subst IsSane (sym f) (sane-close cs) }
ends d (indefinite_map false ∷ cs) q f = record { ran = ap (λ (s : State). reached s (a_break ∷ [])) (close-at cs ∙ ap state_at (sym f)); sane = subst IsSane (sym f) (sane-close cs) }
ends d _ q f = absurd f

byte-taken : (d : ℕ) (chunk : Bool) (k : Major) (n : ℕ) (cs : List Container) (c : ℕ) → run d (state_at (in_payload chunk k n cs)) (c ∷ []) ≡ reached (state_at (payload chunk k n cs)) (a_byte ∷ [])
byte-taken d chunk k zero cs c = ap (λ (s : State). reached s (a_byte ∷ [])) (string-at chunk k cs)
byte-taken d chunk k (suc n) cs c = refl

sane-following : (chunk : Bool) (k : Major) (n : ℕ) (cs : List Container) → IsSane (in_payload chunk k n cs) → IsSane (payload chunk k n cs)
sane-following true k n cs i = sane-chunk k n cs i
sane-following false k n cs i = sane-payload k n cs

a-byte : (d : ℕ) (chunk : Bool) (k : Major) (n : ℕ) (cs : List Container) (bs : List ℕ) (q : Place) → IsSane (in_payload chunk k n cs) → length bs ≡ 1 → q ≡ payload chunk k n cs → Leads d (in_payload chunk k n cs) a_byte bs q
a-byte d chunk k n cs [] q i size f = absurd (omega (arith, size))
a-byte d chunk k n cs (c ∷ []) q i size f = record { ran = byte-taken d chunk k n cs c ∙ ap (λ (p : Place). reached (state_at p) (a_byte ∷ [])) (sym f); sane = subst IsSane (sym f) (sane-following chunk k n cs i) }
a-byte d chunk k n cs (c ∷ e ∷ bs) q i size f = absurd (omega (arith, size))

by-bytes : (d : ℕ) (p : Place) (m : Mark) (bs cs : List ℕ) (q : Place) → bs ≡ cs → Leads d p m cs q → Leads d p m bs q
by-bytes d p m bs cs q e h = subst (λ (x : List ℕ). Leads d p m x q) (sym e) h

taking-leads : (d : ℕ) (p : Place) (m : Mark) (bs : List ℕ) (q : Place) → IsSane p → IsTaking d p m bs q → Leads d p m bs q
taking-leads d (at_item cs) (a_head m Indefinite n) bs q i h = by-bytes d _ _ bs _ q h.1 (subst (λ (j : ℕ). Leads d (at_item cs) (a_head m Indefinite j) (head m Indefinite 0) q) (sym h.0) (opens d cs m q h.2))
taking-leads d (at_item cs) (a_head m w n) bs q i h = by-bytes d _ _ bs _ q h.0 (follows d cs w n h.1 q m h.2)
taking-leads d (at_item cs) a_break bs q i h = by-bytes d _ _ bs _ q h.0 (ends d cs q h.1)
taking-leads d (in_chunks k cs) (a_chunk w n) bs q i h = by-bytes d _ _ bs _ q h.0 (chunk-head d cs w n h.1 q k i h.2)
taking-leads d (in_chunks k cs) a_break bs q i h =
    by-bytes d _ _ bs _ q h.0 (record { ran = ap (λ (s : State). reached s (a_break ∷ [])) (close-at cs ∙ ap state_at (sym h.1)); sane = subst IsSane (sym h.1) (sane-close cs) })
taking-leads d (in_payload chunk k zero cs) a_byte bs q i h = a-byte d chunk k zero cs bs q i h.0 h.1
taking-leads d (in_payload chunk k (suc n) cs) a_byte bs q i h = a-byte d chunk k (suc n) cs bs q i h.0 h.1
taking-leads d _ _ bs q i h = absurd h

-- ---- and from the first byte on

pub record Agrees (d : ℕ) (t : List ℕ) (ms : List Mark) (p : Place) : Type 0 where
  pub ran : run d automaton.start t ≡ reached (state_at p) ms
  sane : IsSane p

pub placed-agrees : (d : ℕ) (t : List ℕ) (ms : List Mark) (p : Place) → IsPlaced d t ms p → Agrees d t ms p
unfolding onwards
placed-agrees d _ _ _ begins = record { ran = refl; sane = tt }
placed-agrees d _ _ _ (leads_on u bs ns m p q h k) =
    let s = placed-agrees d u ns p h in
    let l = taking-leads d p m bs q s.sane k in
    record {
      ran = run-append d u bs automaton.start ∙ ap (λ (o : Outcome). onwards o (λ (v : State). run d v bs)) s.ran ∙ ap (reporting_all ns) l.ran ∙ reporting_all-reached ns (m ∷ []) (state_at q);
      sane = l.sane;
    }

-- ---- the next event

record IsRun (d : ℕ) (t : List ℕ) (ms : List Mark) (u : State) : Type 0 where
  to : Place
  placed : IsPlaced d t ms to
  state : u ≡ state_at to

-- a piece, byte by byte
piece-placed : (d : ℕ) (bs t : List ℕ) (ms : List Mark) (p : Place) (u : State) → IsPlaced d t ms p → AreBytes bs → run d (state_at p) bs ≡ reached u (replicate (length bs) a_byte)
    → IsRun d (t ++ bs) (ms ++ replicate (length bs) a_byte) u
piece-placed d [] t ms p u h b e = record {
  to = p;
  placed = subst (λ (x : List ℕ). IsPlaced d x (ms ++ []) p) (sym (append-nil t)) (subst (λ (x : List Mark). IsPlaced d t x p) (sym (append-nil ms)) h);
  state = cc (sym e);
}
piece-placed d (c ∷ cs) t ms (in_payload chunk k n gs) u h b e =
    let q = payload chunk k n gs in
    let reported = (reports-first a_byte a_byte (run d (automaton.payload chunk k n gs) cs) u (replicate (length cs) a_byte) (sym (payload-byte d chunk k n gs c cs) ∙ e)).1 in
    let one = leads_on t (c ∷ []) ms a_byte (in_payload chunk k n gs) q h (a-byte-taken d chunk k n gs c) in
    let more = piece-placed d cs (t ++ c ∷ []) (ms ++ a_byte ∷ []) q u one b.1 (ap (λ (s : State). run d s cs) (sym (payload-at chunk k n gs)) ∙ reported) in
    record {
      to = more.to;
      placed = subst (λ (x : List ℕ). IsPlaced d x (ms ++ a_byte ∷ replicate (length cs) a_byte) more.to) (append_assoc t (c ∷ []) cs)
          (subst (λ (x : List Mark). IsPlaced d ((t ++ c ∷ []) ++ cs) x more.to) (append_assoc ms (a_byte ∷ []) (replicate (length cs) a_byte)) more.placed);
      state = more.state;
    }
  where
    a-byte-taken : (d : ℕ) (chunk : Bool) (k : Major) (n : ℕ) (gs : List Container) (c : ℕ) → IsTaking d (in_payload chunk k n gs) a_byte (c ∷ []) (payload chunk k n gs)
    a-byte-taken d chunk k zero gs c = (refl, refl)
    a-byte-taken d chunk k (suc n) gs c = (refl, refl)
piece-placed d (c ∷ cs) t ms (at_item gs) u h b e = absurd ((first-mark d (c ∷ cs) (state_at (at_item gs)) (state_at (at_item gs)) u [] a_byte (replicate (length cs) a_byte) (within-start d (state_at (at_item gs)) tt) b e).2)
piece-placed d (c ∷ cs) t ms (in_chunks k gs) u h b e = absurd ((first-mark d (c ∷ cs) (state_at (in_chunks k gs)) (state_at (in_chunks k gs)) u [] a_byte (replicate (length cs) a_byte) (within-start d (state_at (in_chunks k gs)) tt) b e).2)
piece-placed d (c ∷ cs) t ms done u h b e = absurd ((first-mark d (c ∷ cs) automaton.done automaton.done u [] a_byte (replicate (length cs) a_byte) (within-start d automaton.done tt) b e).2)

-- a head or a break, or some bytes
data Reported (kind : EventKind) (w : Width) (bs : List ℕ) : Type 0 where
  once : times kind ≡ 1 → Reported kind w bs
  by_bytes : marks_of w kind ≡ replicate (length bs) a_byte → (IsExpected false kind → ⊥) → Reported kind w bs

reported-by : (reported : List Mark) (w : Width) (kind : EventKind) (bs : List ℕ) → IsEventBytes reported w kind bs → Reported kind w bs
reported-by reported w (kinds.Piece n) bs h = by_bytes (ap (λ (j : ℕ). replicate j a_byte) (sym h.1)) (λ x. x)
reported-by reported w _ bs h = once refl

pub event-leads : (e : Event) (c : Call) (p : Place) → AgreesBetween c.old c.taken c.reported → IsPlaced c.old.depth c.taken c.reported p → c.new.depth ≡ c.old.depth → (n : IsNextEvent e c) → LeadsOn e c n.bytes p
event-leads e c p s h same n =
    let d = c.old.depth in
    let u = state_of c.new.inner.position c.new.inner.frames in
    let here = placed-agrees d c.taken c.reported p h in
    let bytes = bytes_back c.taken n.bytes n.agrees.agrees.are_bytes in
    let all : run d automaton.start (c.taken ++ n.bytes) ≡ reached u (c.reported ++ marks_of e.width e.kind) = ap (λ (k : ℕ). run k automaton.start (c.taken ++ n.bytes)) (sym same) ∙ n.agrees.agrees.inner.ran in
    let ran : run d (state_at p) n.bytes ≡ reached u (marks_of e.width e.kind) = run-rest d c.taken n.bytes (state_at p) u c.reported (marks_of e.width e.kind) here.ran all in
    let clear = whole-clear d (c.taken ++ n.bytes) u (c.reported ++ marks_of e.width e.kind) all n.agrees.whole in
    go (reported-by c.reported e.width e.kind n.bytes n.are) bytes ran clear
  where
    go : Reported e.kind e.width n.bytes → AreBytes n.bytes → run c.old.depth (state_at p) n.bytes ≡ reached (state_of c.new.inner.position c.new.inner.frames) (marks_of e.width e.kind) → IsClear (state_of c.new.inner.position c.new.inner.frames) → LeadsOn e c n.bytes p
    go (once one) b ran clear =
        let u = state_of c.new.inner.position c.new.inner.frames in
        let marks = once-marks e.width e.kind one in
        let taking = taking-at c.old.depth p (mark_of e.width e.kind) n.bytes u
        (mark-taken c.old.depth (state_at p) u n.bytes (mark_of e.width e.kind) (clear-at p) b (ran ∙ ap (λ (ms : List Mark). reached u ms) marks) clear) in
        record {
          to = place_of u;
          placed = subst (λ (k : ℕ). IsPlaced k (c.taken ++ n.bytes) (c.reported ++ marks_of e.width e.kind) (place_of u)) (sym same)
              (subst (λ (ms : List Mark). IsPlaced c.old.depth (c.taken ++ n.bytes) (c.reported ++ ms) (place_of u)) (sym marks) (leads_on c.taken n.bytes c.reported (mark_of e.width e.kind) p (place_of u) h taking));
          taking = λ d. taking;
        }
    go (by_bytes marks piece) b ran clear =
        let u = state_of c.new.inner.position c.new.inner.frames in
        let k = piece-placed c.old.depth n.bytes c.taken c.reported p u h b (ran ∙ ap (λ (ms : List Mark). reached u ms) marks) in
        record {
          to = k.to;
          placed = subst (λ (j : ℕ). IsPlaced j (c.taken ++ n.bytes) (c.reported ++ marks_of e.width e.kind) k.to) (sym same)
              (subst (λ (ms : List Mark). IsPlaced c.old.depth (c.taken ++ n.bytes) (c.reported ++ ms) k.to) (sym marks) k.placed);
          taking = λ d. absurd (piece d);
        }

-- ---- what the machine shows there

module _ (m : MachineView) (t : List ℕ) (ms : List Mark) (p : Place) (s : AgreesBetween m t ms) (h : IsPlaced m.depth t ms p) where
  state-is : state_of m.inner.position m.inner.frames ≡ state_at p
  state-is = cc (sym s.agrees.inner.ran ∙ (placed-agrees m.depth t ms p h).ran)

  pub open-there : m.open_count ≡ length (open_at p)
  open-there = open_levels.open-there m t ms p s state-is

  pub complete-there : IsComplete m ↔ (p ≡ done)
  complete-there = open_levels.complete-there m t ms p s state-is
