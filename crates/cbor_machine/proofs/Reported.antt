-- The events of a machine, joined, are those of the item that end within the bytes consumed.
use Rattle.std.proofs.Common.{◌≡◌, ℕ, ◌+◌, List, [], ◌∷◌, ◌++◌, ◌≤◌, cond, length, drop, refl, sym, ap, ◌∙◌, subst, arith, append-nil}
use Rattle.std.proofs.{lemmas.Grind.flat_map-append, Math.Seq.drop-append_seam, lemmas.Bool.le-leb}
use Rattle.cbor_head.specs.{declared.event.Event.Event, Prelude.Spelling, Prelude.IsItem}
use Rattle.theory_automaton.specs.Trace.{Mark, total, within}
use Rattle.theory_automaton.specs.Event.{events, marks_in, event_size, prefix_of, joined, cut, IsRow, AreReported}
use Rattle.theory_automaton.proofs.Joining.{rejoin, joined-rejoin, cut-rejoin}
use Rattle.theory_automaton.proofs.Rows.{total-append, row-append, events-row}
use Rattle.theory_automaton.specs.{Marks.marks_of, Bytes.IsEventBytes}
use Rattle.cbor_machine.specs.Machine.{Represents, IsWhole, IsGiven}
use Rattle.cbor_machine.specs.NextEvent.{Call, AgreesBetween, IsNextEvent, IsEnd}
use Rattle.cbor_machine.specs.MachineView.{MachineView}

pub reported-none : AreReported [] []
reported-none = record { row = tt; marks = refl }

pub reported-more : (es : List Event) (ms : List Mark) (e : Event) (m : MachineView) (t bs : List ℕ) → AreReported es ms → IsGiven e m t bs ms → AreReported (es ++ e ∷ []) (ms ++ marks_of e.width e.kind)
reported-more es ms e m t bs h g =
    let whole : total (marks_in es) ≡ total ms = ap total h.marks in
    let place = g.place in
    let to : e.place ≡ 0 + total (marks_in es) = omega (arith, whole, place) in
    record {
      row = row-append 0 es (e ∷ []) h.row (to, g.bytes.0, tt);
      marks = flat_map-append (λ f. marks_of f.width f.kind) es (e ∷ []) ∙ ap (λ ns. marks_in es ++ ns) (append-nil (marks_of e.width e.kind)) ∙ ap (λ ns. ns ++ marks_of e.width e.kind) h.marks;
    }

pub reported-joined : (m : MachineView) (t : List ℕ) (ms : List Mark) (es : List Event) → Represents m t ms → AreReported es ms → (s : Spelling) (rest : List ℕ) → IsItem m.depth s (t ++ rest) → joined es ≡ cut (length t) (events 0 s)
reported-joined m t ms es h reported s rest i =
    let row = events-row 0 s i.spelled in
    let here : 0 + length t ≡ length t = omega arith in
    joined-rejoin 0 es reported.row
    ∙ ap (rejoin 0) (reported.marks ∙ h.reported s rest i ∙ ap (within (length t)) (sym row.marks))
    ∙ cut-rejoin (events 0 s) 0 (length t) row.row row.apart
    ∙ ap (λ k. cut k (events 0 s)) here

pub next-more : (c : Call) (es : List Event) (e : Event) → AreReported es c.reported → AgreesBetween c.old c.taken c.reported → IsNextEvent e c → AreReported (es ++ e ∷ []) (c.reported ++ marks_of e.width e.kind)
next-more c es e reported between h =
    let at : e.place ≡ total c.reported = h.place ∙ sym between.whole in
    let bytes : IsEventBytes c.reported e.width e.kind (drop e.place (c.taken ++ h.bytes)) =
    subst (λ (bs : List ℕ). IsEventBytes c.reported e.width e.kind bs) (sym (ap (λ k. drop k (c.taken ++ h.bytes)) h.place ∙ drop-append_seam c.taken h.bytes)) h.are in
    reported-more es c.reported e c.new c.taken h.bytes reported (record { agrees = h.agrees.agrees; place = at; ends = h.agrees.whole; bytes = bytes })

-- all of the events end within n bytes
cut-all : (es : List Event) (at n : ℕ) → IsRow at es → at + total (marks_in es) ≤ n → cut n es ≡ es
cut-all [] at n h le = refl
cut-all (e ∷ es) at n h le =
    let sum = total-append (marks_of e.width e.kind) (marks_in es) in
    let here = h.0 in
    let ends : e.place + event_size e ≤ n = omega (arith, sum, here) in
    let rest : at + event_size e + total (marks_in es) ≤ n = omega (arith, sum) in
    ap (λ b. cond b (e ∷ cut n es) (prefix_of n e.kind e)) (le-leb (e.place + event_size e) n ends) ∙ ap (λ fs. e ∷ fs) (cut-all es (at + event_size e) n h.2 rest)

pub next-all : (c : Call) (es : List Event) → AreReported es c.reported → AgreesBetween c.old c.taken c.reported → IsEnd c → (s : Spelling) × IsItem c.old.depth s c.taken × (joined es ≡ events 0 s)
next-all c es reported between end =
    let t = c.taken in
    let whole : IsWhole c.old.depth t = between.agrees.complete.0 end.complete in
    let s = whole.0 in
    let i = whole.1 in
    let all : IsItem c.old.depth s (t ++ []) = subst (λ (bs : List ℕ). IsItem c.old.depth s bs) (sym (append-nil t)) i in
    let row = events-row 0 s i.spelled in
    let size : total (marks_in (events 0 s)) ≡ length t = ap total row.marks ∙ row.bytes ∙ ap length i.bytes_are in
    let fits : 0 + total (marks_in (events 0 s)) ≤ length t = omega (arith, size) in
    (s, i, reported-joined c.old t c.reported es between.agrees reported s [] all ∙ cut-all (events 0 s) 0 (length t) row.row fits)
