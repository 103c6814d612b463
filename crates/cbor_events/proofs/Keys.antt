-- The kind of a key, by its first byte.
use Rattle.std.proofs.Common.{◌≡◌, ◌≢◌, ℕ, ◌+◌, ◌-◌, ◌*◌, ◌/◌, ◌<◌, ◌≤◌, ◌⊎◌, true, false, inl, inr, List, [], ◌∷◌, ◌++◌, length, take, drop, refl, sym, ap, subst, ◌∙◌, arith, append-nil, length-append, slice_index_or, IsTrue, Option, Some, None, Result, Ok, Err, min}
use Rattle.std.{proofs.lemmas.Bool.cases_lt, specs.Io.KnownBytes.Consumes}
use lib.Seq.{drop-append_seam}
use Rattle.cbor_head.specs.Prelude.{Holds, IsHead, head, major_number, MayFollow, AreBytes, HoldsOrIndefinite, refusal}
use Rattle.cbor_head.specs.declared.major.Major.TheVariants as majors
use Rattle.cbor_head.specs.declared.width.Width.TheVariants.{Direct, One, Two, Four, Eight, Indefinite}
use Rattle.cbor_head.specs.declared.event.EventKind.TheVariants as kinds
use Rattle.cbor_head.specs.declared.{event.Event.Event, event.EventKind.EventKind, major.Major.Major}
use Rattle.cbor_head.specs.declared.{reason.Reason.TheVariants.TooLong, reason.Reason.TheVariants.KeyKind, reason.Refusal.Refusal, width.Width.Width}
use Rattle.theory_values.{specs.FirstBytes.is_basic, proofs.ByteLists.bytes_join}
use Rattle.theory_automaton.specs.Automaton.{start, in_payload, run, reached}
use Rattle.theory_automaton.{specs.Trace.Mark, specs.Marks.count_of, specs.Bytes.IsHeadBytes, specs.Bytes.IsEventBytes, proofs.Beginnings.reached-begins}
use Rattle.theory_automaton.proofs.{Runs.run-on, Taking.IsClear, Events.no-silent-break}
use Rattle.cbor_machine.specs.State.{state_of, wanted_at, is_done}
use Rattle.cbor_machine.specs.declared.position.Position.TheVariants as positions
use Rattle.cbor_machine.specs.Machine.{Represents, KeepsLimits, IsComplete, IsGiven, wanted, wanted_within}
use Rattle.cbor_machine.specs.NextEvent.{ItemEventsView, AgreesBetween, IfReported, IsNext, machine_call, call}
use Rattle.cbor_machine.specs.Steps.{Ran, Stopped as HasRefused}
use Rattle.cbor_machine.specs.NextKey.{IsBasicKind, IsOtherKey, IsNextKey}
use Rattle.cbor_machine.specs.{declared.position.Position.Position, MachineView.MachineView, Calls.HasRead}
use Rattle.cbor_machine.proofs.{Buffers.head-outcome, Buffers.refused-call, NextEvents.run-rest, NextEvents.whole-clear}
use Rattle.cbor_events.specs.inner.Reads.{IsPartTaken, IsPartRead, HasTaken, HasStopped, IfGiven, HasFirst, IsFirstResult, IsTakenAt}
use Rattle.cbor_events.specs.declared.part.PartialEvent.TheVariants.{Reported, Open, Stopped}
use Rattle.cbor_events.specs.declared.part.PartialEvent.{PartialEvent}

-- ---- the first byte of a head

-- of a type whose width has space for the argument
record IsHigh (m : Major) (b : ℕ) : Type 0 where
  high : b / 32 ≡ major_number m
  low : b ≤ 32 * major_number m + 31

high-first : (m : Major) (w : Width) (n b : ℕ) (y : List ℕ) → HoldsOrIndefinite w n → head m w n ≡ b ∷ y → IsHigh m b
high-first m Direct n b y h e = let f : 32 * major_number m + n ≡ b = cc e in record { high = omega (arith, f, h); low = omega (arith, f, h) }
high-first m One n b y h e = let f : 32 * major_number m + 24 ≡ b = cc e in record { high = omega (arith, f); low = omega (arith, f) }
high-first m Two n b y h e = let f : 32 * major_number m + 25 ≡ b = cc e in record { high = omega (arith, f); low = omega (arith, f) }
high-first m Four n b y h e = let f : 32 * major_number m + 26 ≡ b = cc e in record { high = omega (arith, f); low = omega (arith, f) }
high-first m Eight n b y h e = let f : 32 * major_number m + 27 ≡ b = cc e in record { high = omega (arith, f); low = omega (arith, f) }
high-first m Indefinite n b y h e = let f : 32 * major_number m + 31 ≡ b = cc e in record { high = omega (arith, f); low = omega (arith, f) }

high-of : (m : Major) (w : Width) (n b : ℕ) (y : List ℕ) → (IsHead m w n → Holds w n) → IsHeadBytes m w n (b ∷ y) → IsHigh m b
high-of m Indefinite n b y f h = high-first m Indefinite 0 b y tt (sym h.1)
high-of m w n b y f h = high-first m w n b y (f h.0) (sym h.1)

-- of an integer or a text, or the break
abbrev pub IsBasicFirst : ℕ → Type 0
IsBasicFirst b = IsTrue (is_basic (b / 32)) ⊎ (b ≡ 0xff)

-- anything but these
other-high : (m : Major) (b : ℕ) → major_number m ≤ 6 → (IsTrue (is_basic (major_number m)) → ⊥) → IsHigh m b → IsBasicFirst b → ⊥
other-high m b l none h (inl k) = none (subst (λ (n : ℕ). IsTrue (is_basic n)) h.high k)
other-high m b l none h (inr e) = omega (arith, l, h.low, e)

high-simple : (b low : ℕ) → 224 + low ≡ b → low < 31 → IsBasicFirst b → ⊥
high-simple b low f l (inl k) = let e : b / 32 ≡ 7 = omega (arith, f, l) in let h = subst (λ (n : ℕ). IsTrue (is_basic n)) e k in cc h
high-simple b low f l (inr e) = omega (arith, f, l, e)

no-simple : (w : Width) (n b : ℕ) (y : List ℕ) → b < 256 → IsEventBytes [] w (kinds.Simple n) (b ∷ y) → IsBasicFirst b → ⊥
no-simple Direct n b y small h k =
    let f : 224 + n ≡ b = cc (sym h.1.1) in
    high-simple b n f (elim (cases_lt n 24) [ inl l ↦ omega (arith, l) | inr l ↦ omega (arith, h.1.0.0.1 l, small, f) ]) k
no-simple One n b y small h k = let f : 224 + 24 ≡ b = cc (sym h.1.1) in high-simple b 24 f (omega arith) k
no-simple Two n b y small h k = let f : 224 + 25 ≡ b = cc (sym h.1.1) in high-simple b 25 f (omega arith) k
no-simple Four n b y small h k = let f : 224 + 26 ≡ b = cc (sym h.1.1) in high-simple b 26 f (omega arith) k
no-simple Eight n b y small h k = let f : 224 + 27 ≡ b = cc (sym h.1.1) in high-simple b 27 f (omega arith) k
no-simple Indefinite n b y small h k = h.0

pub basic-kind : (ms : List Mark) (w : Width) (kind : EventKind) (b : ℕ) (y : List ℕ) → b < 256 → IsEventBytes ms w kind (b ∷ y) → IsBasicFirst b → IsBasicKind kind
basic-kind ms w (kinds.Bytes n) b y small h k = other-high majors.Bytes b (omega arith) (λ x. cc x) (high-of majors.Bytes w (count_of n) b y (λ x. x) h.1) k
basic-kind ms w (kinds.Array n) b y small h k = other-high majors.Array b (omega arith) (λ x. cc x) (high-of majors.Array w (count_of n) b y (λ x. x) h.1) k
basic-kind ms w (kinds.Map n) b y small h k = other-high majors.Map b (omega arith) (λ x. cc x) (high-of majors.Map w (count_of n) b y (λ x. x) h.1) k
basic-kind ms w (kinds.Tag n) b y small h k = other-high majors.Tag b (omega arith) (λ x. cc x) (high-of majors.Tag w n b y (λ x. x) h.1) k
basic-kind ms w (kinds.Simple n) b y small h k = no-simple w n b y small h k
basic-kind ms w _ b y small h k = tt

-- an event after what was reported, which begins with this byte
pub given-kind : (e : Event) (old new : MachineView) (t bs : List ℕ) (ms : List Mark) (b : ℕ) → b < 256 → AgreesBetween old t ms → IsGiven e new (t ++ b ∷ []) bs ms → IsBasicFirst b → IsBasicKind e.kind
given-kind e old new t bs ms b small h g k =
    let here : drop e.place ((t ++ b ∷ []) ++ bs) ≡ b ∷ bs = ap (λ (n : ℕ). drop n ((t ++ b ∷ []) ++ bs)) (g.place ∙ h.whole) ∙ following t in
    basic-kind ms e.width e.kind b bs small (subst (IsEventBytes ms e.width e.kind) here g.bytes) k
  where
    following : (t : List ℕ) → drop (length t) ((t ++ b ∷ []) ++ bs) ≡ b ∷ bs
    following [] = refl
    following (x ∷ xs) = following xs

pub reported-kind : (e : Event) (old new : MachineView) (t : List ℕ) (ms : List Mark) (b : ℕ) → b < 256 → AgreesBetween old t ms → IsGiven e new t (b ∷ []) ms → IsBasicFirst b → IsBasicKind e.kind
reported-kind e old new t ms b small h g k =
    let here : drop e.place (t ++ b ∷ []) ≡ b ∷ [] = ap (λ (n : ℕ). drop n (t ++ b ∷ [])) (g.place ∙ h.whole) ∙ drop-append_seam t (b ∷ []) in
    basic-kind ms e.width e.kind b [] small (subst (IsEventBytes ms e.width e.kind) here g.bytes) k

-- ---- a break reports something, or is refused

module _ (old : MachineView) (t : List ℕ) (ms : List Mark) (h : AgreesBetween old t ms) where
  clear-here : IsClear (state_of old.inner.position old.inner.frames)
  clear-here = whole-clear old.depth t (state_of old.inner.position old.inner.frames) ms h.agrees.inner.ran h.whole

  open-item : (new : MachineView) (b : ℕ) → new.depth ≡ old.depth → Represents new (t ++ b ∷ []) ms → b ≢ 0xff
  open-item new b depth s e =
      let q = state_of old.inner.position old.inner.frames in
      let u = state_of new.inner.position new.inner.frames in
      let there : run old.depth start (t ++ b ∷ []) ≡ reached u (ms ++ []) =
      subst (λ (d : ℕ). run d start (t ++ b ∷ []) ≡ reached u ms) depth s.inner.ran ∙ ap (reached u) (sym (append-nil ms)) in
      let one = run-rest old.depth t (b ∷ []) q u ms [] h.agrees.inner.ran there in
      no-silent-break old.depth q u clear-here (subst (λ (x : ℕ). run old.depth q (x ∷ []) ≡ reached u []) e one)

  ran-item : (new : MachineView) (b : ℕ) → Ran old new (b ∷ []) [] → b ≢ 0xff
  ran-item new b r e =
      let q = state_of old.inner.position old.inner.frames in
      let u = state_of new.inner.position new.inner.frames in
      no-silent-break old.depth q u clear-here (subst (λ (x : ℕ). run old.depth q (x ∷ []) ≡ reached u []) e r.ran)

-- ---- one read of one byte

pub first-outcome : (p : PartialEvent) (from to : Option (List ℕ)) (old new : MachineView) (kept buffer t : List ℕ) (ms : List Mark) → old.in_payload ≡ false → IsPartRead p old new from to kept buffer t ms → IsFirstResult p (machine_call old new from to kept kept t ms)
first-outcome (Reported e) from to old new kept buffer t ms none h = head-outcome (Ok (Some e)) from to old new kept buffer t ms none h
first-outcome Open from to old new kept buffer t ms none h = tt
first-outcome (Stopped f) from to old new kept buffer t ms none h = h

pub first-lost : (p : PartialEvent) (from to : Option (List ℕ)) (old new : MachineView) (buffer t : List ℕ) (ms : List Mark) → HasTaken p old new 1 from to buffer t ms ⊎ HasStopped p old → HasFirst p old new from to (slice_index_or buffer 0 0) t ms ⊎ HasStopped p old
first-lost p from to old new buffer t ms (inr h) = inr h
first-lost p from to old new buffer t ms (inl h) =
    let e : h.bytes ≡ slice_index_or buffer 0 0 ∷ [] = one h.bytes buffer h.some h.most h.prefix in
    inl (record { consumed = subst (Consumes from to) e h.consumed; are_bytes = subst AreBytes e h.are_bytes; taken = subst (λ (bs : List ℕ). IsPartTaken p old new t bs ms) e h.taken })
  where
    one : (bs buffer : List ℕ) → 0 < length bs → length bs ≤ 1 → bs ≡ take (length bs) buffer → bs ≡ slice_index_or buffer 0 0 ∷ []
    one [] buffer some most prefix = absurd (omega (arith, some))
    one (b ∷ []) [] some most prefix = absurd (cc prefix)
    one (b ∷ []) (x ∷ xs) some most prefix = prefix
    one (b ∷ c ∷ bs) buffer some most prefix = absurd (omega (arith, most))

-- the first byte that a known reader held
held-first : (held to : Option (List ℕ)) (b x : ℕ) (rest : List ℕ) → Consumes held to (b ∷ []) → held ≡ Some (x ∷ rest) → x ≡ b
held-first held to b x rest c e = go to (subst (λ (o : Option (List ℕ)). Consumes o to (b ∷ [])) e c)
  where
    go : (to : Option (List ℕ)) → Consumes (Some (x ∷ rest)) to (b ∷ []) → x ≡ b
    go None k = absurd k
    go (Some ys) k = cc k

basic-held : (held to : Option (List ℕ)) (b : ℕ) → Consumes held to (b ∷ []) → IsTrue (is_basic (b / 32)) → (x : ℕ) (rest : List ℕ) → held ≡ Some (x ∷ rest) → IsTrue (is_basic (x / 32))
basic-held held to b c k x rest e = subst (λ (n : ℕ). IsTrue (is_basic (n / 32))) (sym (held-first held to b x rest c e)) k

-- a call after whose first byte the head continues
pub first-read : (old mid : MachineView) (from to : Option (List ℕ)) (b : ℕ) (t : List ℕ) (ms : List Mark) → HasFirst Open old mid from to b t ms ⊎ HasStopped Open old → HasRead from to mid t ms
first-read old mid from to b t ms (inl k) = record { bytes = b ∷ []; consumed = k.consumed; agrees = k.taken }
first-read old mid from to b t ms (inr s) = absurd s

-- ---- what is returned

-- no byte is expected
pub end-key : (r : Result (Option Event) Refusal) (m new : MachineView) (from to : Option (List ℕ)) (kept t : List ℕ) (ms : List Mark) → AgreesBetween m t ms → wanted m ≡ 0 → KeepsLimits m new → IfReported r (λ e. ⊥)
    → IsNext r (machine_call m new from to kept kept t ms) → IsNextKey r (machine_call m new from to kept kept t ms)
end-key (Ok (Some e)) m new from to kept t ms h none l reported n = absurd reported
end-key (Ok None) m new from to kept t ms h none l reported n = n
end-key (Err f) m new from to kept t ms h none l reported n =
    let full : m.bytes ≤ length t = at-limit in
    inl (
      n,
      λ following. absurd (elim n.1 [
        | inl c ↦ omega (arith, full, c.short, l.bytes, length-append t c.bytes)
        | inr (inl c) ↦ omega (arith, full, following, ap (λ (x : Refusal). x.place) c.is, l.bytes)
        | inr (inr c) ↦ let most = c.agrees.limited in omega (arith, full, following, ap (λ (x : Refusal). x.place) c.is, most, l.bytes)
      ]),
    )
  where
    some-expected : (position : Position) → (is_done position ≡ true → ⊥) → 0 < wanted_at position
    some-expected positions.Item k = omega arith
    some-expected (positions.Head chunk kind w left argument) k = omega arith
    some-expected positions.SimpleNumber k = omega arith
    some-expected (positions.Payload chunk kind left) k = omega arith
    some-expected (positions.Chunks kind) k = omega arith
    some-expected positions.Done k = absurd (k refl)

    at-limit : m.bytes ≤ length t
    at-limit =
        let shown = h.agrees.inner.shown in
        let live = h.agrees.live in
        let expected : 0 < m.expected = omega (arith, shown.expected, some-expected m.inner.position (λ d. n.0 (shown.complete ∙ d, live))) in
        let least : min (m.bytes - m.taken) m.expected ≡ 0 = ap (λ (r : Option Refusal). wanted_within r (min (m.bytes - m.taken) m.expected)) (sym live) ∙ none in
        omega (arith, least, expected, h.agrees.taken)

-- a key of another kind
pub other-here : (p : PartialEvent) (f : Refusal) (old new : MachineView) (from to : Option (List ℕ)) (b : ℕ) (kept t : List ℕ) (ms : List Mark) → AgreesBetween old t ms → HasFirst p old new from to b t ms ⊎ HasStopped p old → IsTakenAt p old.taken → ¬ IsTrue (is_basic (b / 32)) → b ≢ 0xff
    → new.depth ≡ old.depth → ¬ IsComplete old → f ≡ refusal KeyKind old.taken new.taken → IsOtherKey f (machine_call old new from to kept kept t ms)
other-here (Stopped r) f old new from to b kept t ms h (inr s) at other item depth going is = absurd (omega (arith, s, at))
other-here (Reported e) f old new from to b kept t ms h (inr s) at other item depth going is = absurd s
other-here Open f old new from to b kept t ms h (inr s) at other item depth going is = absurd s
other-here p f old new from to b kept t ms h (inl k) at other item depth going is =
    let g = took p k.taken at in
    record {
      unfinished = going;
      byte = b;
      small = k.are_bytes.0;
      consumed = k.consumed;
      other = other;
      item = item;
      follows = g.1;
      is = is ∙ ap (λ (n : ℕ). refusal KeyKind n new.taken) h.agrees.taken ∙ ap (refusal KeyKind (length t)) g.0;
    }
  where
    plus : length (t ++ b ∷ []) ≡ length t + 1
    plus = length-append t (b ∷ [])

    took : (p : PartialEvent) → IsPartTaken p old new t (b ∷ []) ms → IsTakenAt p old.taken → (new.taken ≡ length t + 1) × MayFollow new.depth t b
    took (Reported e) g at = (g.agrees.taken ∙ plus, g.agrees.beginning)
    took Open g at = (g.taken ∙ plus, g.beginning)
    took (Stopped r) g at = step g.1.1
      where
        step : (Ran old new (b ∷ []) [] × (new.taken ≡ new.bytes) × (r ≡ refusal TooLong new.bytes new.bytes)) ⊎ HasRefused old new (b ∷ []) r → (new.taken ≡ length t + 1) × MayFollow new.depth t b
        step (inl x) =
            let q = state_of old.inner.position old.inner.frames in
            let u = state_of new.inner.position new.inner.frames in
            let ran = run-on old.depth t (b ∷ []) q u ms [] h.agrees.inner.ran x.0.ran in (
              x.0.taken ∙ ap (λ (n : ℕ). n + 1) h.agrees.taken,
              subst (λ (d : ℕ). MayFollow d t b) (sym depth) (reached-begins old.depth (t ++ b ∷ []) u (ms ++ []) (bytes_join t (b ∷ []) h.agrees.are_bytes k.are_bytes) ran),
            )
        step (inr x) = absurd (omega (arith, at, ap (λ (y : Refusal). y.place) x.is, ap length x.splits, length-append x.prefix (x.byte ∷ [])))

-- an event of one byte
pub reported-key : (e : Event) (old new : MachineView) (from to : Option (List ℕ)) (b : ℕ) (kept t : List ℕ) (ms : List Mark) → AgreesBetween old t ms → HasFirst (Reported e) old new from to b t ms ⊎ HasStopped (Reported e) old → IsBasicFirst b
    → IsNext (Ok (Some e)) (machine_call old new from to kept kept t ms) → IsNextKey (Ok (Some e)) (machine_call old new from to kept kept t ms)
reported-key e old new from to b kept t ms h (inr s) basic n = absurd s
reported-key e old new from to b kept t ms h (inl k) basic n = (n, reported-kind e old new t ms b k.are_bytes.0 h k.taken basic)

-- the byte was refused, or there was none, or the limit is reached after it
pub stopped-key : (f : Refusal) (old new : MachineView) (from to : Option (List ℕ)) (b : ℕ) (kept t : List ℕ) (ms : List Mark) → AgreesBetween old t ms → HasFirst (Stopped f) old new from to b t ms ⊎ HasStopped (Stopped f) old → (IsTakenAt (Stopped f) old.taken → IsBasicFirst b)
    → IsNext (Err f) (machine_call old new from to kept kept t ms) → IsNextKey (Err f) (machine_call old new from to kept kept t ms)
stopped-key f old new from to b kept t ms h (inr s) basic n = let taken = h.agrees.taken in inl (n, λ following. absurd (omega (arith, s, following, taken)))
stopped-key f old new from to b kept t ms h (inl k) basic n =
    let taken = h.agrees.taken in
    inl (
      n,
      λ following. elim (basic (omega (arith, following, taken))) [
        | inl y ↦ basic-held from to b k.consumed y
        | inr y ↦ absurd (elim k.taken.1.1 [ inl x ↦ ran-item old t ms h new b x.0 y | inr x ↦ omega (arith, following, taken, ap (λ (z : Refusal). z.place) x.is, ap length x.splits, length-append x.prefix (x.byte ∷ [])) ])
      ],
    )

-- the head continues
pub open-key : (r : Result (Option Event) Refusal) (old mid new : MachineView) (from mid_from to : Option (List ℕ)) (b : ℕ) (kept t : List ℕ) (ms : List Mark) → AgreesBetween old t ms → mid.depth ≡ old.depth → HasFirst Open old mid from mid_from b t ms ⊎ HasStopped Open old → IsBasicFirst b
    → (Represents mid (t ++ b ∷ []) ms → IfGiven r new (t ++ b ∷ []) ms) → IsNext r (machine_call old new from to kept kept t ms) → IsNextKey r (machine_call old new from to kept kept t ms)
open-key r old mid new from mid_from to b kept t ms h depth (inr s) basic given n = absurd s
open-key (Ok (Some e)) old mid new from mid_from to b kept t ms h depth (inl k) basic given n = let g = given k.taken in (n, given-kind e old new t g.0 ms b k.are_bytes.0 h g.1 basic)
open-key (Ok None) old mid new from mid_from to b kept t ms h depth (inl k) basic given n = n
open-key (Err f) old mid new from mid_from to b kept t ms h depth (inl k) basic given n =
    inl (n, λ following. elim basic [ inl y ↦ basic-held from mid_from b k.consumed y | inr y ↦ absurd (open-item old t ms h mid b depth k.taken y) ])

-- as in the view of the events
pub refused-key : (f : Refusal) (from same to : ItemEventsView) (held left : Option (List ℕ)) (piece t : List ℕ) (ms : List Mark) → from ≡ same
    → IsNextKey (Err f) (machine_call from.machine to.machine held left from.piece piece t ms) → IsNextKey (Err f) (call same to held left t ms)
refused-key f from same to held left piece t ms e (inl h) = inl (refused-call f from same to held left piece t ms e h.0, h.1)
refused-key f from same to held left piece t ms e (inr h) =
    subst (λ (v : ItemEventsView). IsNextKey (Err f) (call v to held left t ms)) e
    (inr (record { unfinished = h.unfinished; byte = h.byte; small = h.small; consumed = h.consumed; other = h.other; item = h.item; follows = h.follows; is = h.is }))
