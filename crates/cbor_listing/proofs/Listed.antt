-- What a listing has written so far, and what it returns.
use Rattle.std.proofs.Common.{◌≡◌, ℕ, ◌+◌, ◌-◌, ◌^◌, ◌<◌, ◌≤◌, ◌⊎◌, min, List, [], ◌∷◌, ◌++◌, length, take, drop, Option, Some, None, refl, sym, ap, ◌∙◌, subst, inl, inr, arith, append_assoc, append-nil, length-append, take-append-drop, length-take-le}
use Rattle.std.specs.Io.KnownBytes.{Consumes, Appends, IsAtEnd}
use Rattle.std.proofs.KnownBytes.{Consumes-nil, Consumes-trans, Appends-nil, Appends-trans}
use Rattle.std.{proofs.lemmas.List.take_at, specs.Option.IfSome}
use lib.Seq.{drop-append_seam}
use Rattle.cbor_head.specs.Prelude.{Bounds, bounds, Spelling, spell, IsItem, form, refusal, accepted, refused, IsVerdict}
use Rattle.cbor_head.specs.declared.reason.Reason.TheVariants.{Read, Write, Truncated}
use Rattle.cbor_head.specs.declared.{width.Width.Width, reason.Reason.Reason, reason.Refusal.Refusal, event.Event.Event, event.EventKind.EventKind}
use Rattle.cbor_head.specs.declared.event.EventKind.TheVariants.{Piece}
use Rattle.theory_values.proofs.{Accepted.accepts_exactly, KindsUnasked.form_beside, ReadLaws.unique}
use Rattle.theory_automaton.specs.{Trace.Mark, Trace.total, Marks.marks_of, Marks.IsProper, Reasons.IsEventReason, Event.joined, Event.AreReported}
use Rattle.theory_automaton.proofs.{Joining.bytes-total, Rows.total-append}
use Rattle.cbor_machine.specs.NextEvent.{machine_call, AgreesBetween, IsNextEvent, IsEnd, IsCut, IsTooLong, HasFormError}
use Rattle.cbor_machine.proofs.Reported.{reported-none, reported-joined, next-more, next-all}
use Rattle.cbor_machine.{specs.Machine.Represents, specs.Machine.before, specs.MachineView.MachineView, proofs.Form.complete-verdict}
use Rattle.theory_verdicts.specs.Readers.{Loses}
use Rattle.cbor_listing.specs.Listing.{line, lines, IsListing, IsStopped, IsListed, IsUnlisted, IsListingReason, of_verdict, of_reader, of_writer}
use Rattle.cbor_listing.proofs.Lines.{lines-more, lines-joined, has-line, joined-last}

-- The lines of all events so far were written, and no byte after these events was consumed.
pub record HasListed (start : ℕ) (m : MachineView) (from now old new : Option (List ℕ)) (written : ℕ) : Type 0 where
  pub t : List ℕ
  pub marks : List Mark
  pub reported : List Event
  pub between : AgreesBetween m t marks
  pub are_reported : AreReported reported marks
  pub taken : Consumes from now t
  pub listed : Appends old new (lines start reported)
  pub count : written ≡ min (length (lines start reported)) (2 ^ 64 - 1)

pub none-listed : (start : ℕ) (m : MachineView) (from old : Option (List ℕ)) → AgreesBetween m [] [] → HasListed start m from from old old 0
none-listed start m from old s = record { t = []; marks = []; reported = []; between = s; are_reported = reported-none; taken = Consumes-nil from; listed = Appends-nil old; count = refl }

pub one-more : (start : ℕ) (m new : MachineView) (from now to old mid out : Option (List ℕ)) (written more : ℕ) (kept piece : List ℕ) (e : Event) (h : HasListed start m from now old mid written)
    → IsNextEvent e (machine_call m new now to kept piece h.t h.marks) → Appends mid out (line start e) → more ≡ min (written + length (line start e)) (2 ^ 64 - 1) → HasListed start new from to old out more
one-more start m new from now to old mid out written more kept piece e h next wrote sum =
    let size : length (lines start (h.reported ++ e ∷ [])) ≡ length (lines start h.reported) + length (line start e) = ap length (lines-more start h.reported e) ∙ length-append (lines start h.reported) (line start e) in
    record {
      t = h.t ++ next.bytes;
      marks = h.marks ++ marks_of e.width e.kind;
      reported = h.reported ++ e ∷ [];
      between = next.agrees;
      are_reported = next-more (machine_call m new now to kept piece h.t h.marks) h.reported e h.are_reported h.between next;
      taken = Consumes-trans from now to h.t next.bytes h.taken next.consumed;
      listed = subst (Appends old out) (sym (lines-more start h.reported e)) (Appends-trans old mid out (lines start h.reported) (line start e) h.listed wrote);
      count = omega (arith, size, h.count, sum);
    }

-- ---- each event has at least one byte

some-marks : (w : Width) (k : EventKind) → IsProper w k → 0 < total (marks_of w k)
some-marks w (Piece n) h = let size = bytes-total n in let some = h.1 in omega (arith, size, some)
some-marks w _ h = omega arith

pub takes-more : (m new : MachineView) (now to : Option (List ℕ)) (kept piece t : List ℕ) (ms : List Mark) (e : Event) → AgreesBetween m t ms
    → IsNextEvent e (machine_call m new now to kept piece t ms) → (m.taken < new.taken) × (new.taken ≤ new.bytes)
takes-more m new now to kept piece t ms e s next =
    let some = some-marks e.width e.kind next.are.0 in
    let sum = total-append ms (marks_of e.width e.kind) in
    (omega (arith, some, sum, s.agrees.taken, s.whole, next.agrees.agrees.taken, next.agrees.whole), next.agrees.agrees.limited)

-- the offset of the next event is within the limit
pub place-within : (m new : MachineView) (now to : Option (List ℕ)) (kept piece t : List ℕ) (ms : List Mark) (e : Event) → AgreesBetween m t ms
    → IsNextEvent e (machine_call m new now to kept piece t ms) → e.place ≤ new.bytes
place-within m new now to kept piece t ms e s next =
    let more = takes-more m new now to kept piece t ms e s next in
    omega (arith, more, next.place, s.agrees.taken)

-- ---- what was read from the reader

pub loses : (bs : List ℕ) (k : ℕ) (from to : Option (List ℕ)) → k ≡ length bs → Consumes from to bs → Loses k from to
loses bs k None to e h = tt
loses bs k (Some xs) None e h = absurd h
loses bs k (Some xs) (Some ys) e h = (
  ap Some (sym (ap (drop k) h ∙ ap (λ (j : ℕ). drop j (bs ++ ys)) e ∙ drop-append_seam bs ys)),
  omega (arith, e, ap length h, length-append bs ys),
)

-- if the reader's bytes are known, they begin with those consumed
pub known : (from to : Option (List ℕ)) (bs : List ℕ) (P : List ℕ → Type 0) → Consumes from to bs → ((rest : List ℕ) → to ≡ Some rest → P (bs ++ rest)) → IfSome from P
known None to bs P h f = tt
known (Some xs) None bs P h f = absurd h
known (Some xs) (Some ys) bs P h f = subst P (sym h) (f ys refl)

-- ---- the item is complete

-- the whole item is the one that is accepted
pub accepted-item : (limits : Bounds) (t more : List ℕ) (s : Spelling) → IsItem limits.depth s t → (a : Spelling) → IsVerdict limits form (t ++ more) (accepted a) → a ≡ s
accepted-item limits t more s i a v =
    let sound = (accepts_exactly limits form (t ++ more) a).0 v in
    let all : spell a ++ (sound.0 ++ drop limits.bytes (t ++ more)) ≡ spell s ++ more =
    sym (append_assoc (spell a) sound.0 (drop limits.bytes (t ++ more))) ∙ ap (λ l. l ++ drop limits.bytes (t ++ more)) sound.1.2 ∙ take-append-drop limits.bytes (t ++ more) ∙ ap (λ l. l ++ more) (sym i.bytes_are) in
    (unique a s sound.1.0 i.spelled _ _ all).0

pub all-listed : (start : ℕ) (m new : MachineView) (from now to old out : Option (List ℕ)) (written count : ℕ) (kept piece : List ℕ) (h : HasListed start m from now old out written)
    → IsEnd (machine_call m new now to kept piece h.t h.marks) → count ≡ new.taken → IfSome from (λ input. IsListed start (bounds m.depth m.bytes) input count old out)
all-listed start m new from now to old out written count kept piece h end e =
    let whole = next-all (machine_call m new now to kept piece h.t h.marks) h.reported h.are_reported h.between end in
    let s = whole.0 in
    known from now h.t (λ input. IsListed start (bounds m.depth m.bytes) input count old out) h.taken
    (λ rest k. let v = complete-verdict m h.t h.marks h.between.agrees end.complete rest in record {
      item = s;
      verdict = subst (λ (a : Spelling). IsVerdict (bounds m.depth m.bytes) form (h.t ++ rest) (accepted a)) (accepted-item (bounds m.depth m.bytes) h.t rest s whole.1 v.0 v.1) v.1;
      size = e ∙ end.agrees.agrees.taken ∙ sym (ap length whole.1.bytes_are);
      written = subst (Appends old out) (sym (lines-joined start h.reported) ∙ ap (lines start) whole.2) h.listed;
    })

pub all-lost : (start : ℕ) (m new : MachineView) (from now to old out : Option (List ℕ)) (written count : ℕ) (kept piece : List ℕ) (h : HasListed start m from now old out written)
    → IsEnd (machine_call m new now to kept piece h.t h.marks) → count ≡ new.taken → Loses count from to
all-lost start m new from now to old out written count kept piece h end e =
    loses (h.t ++ []) count from to (e ∙ end.agrees.agrees.taken ∙ ap length (sym (append-nil h.t))) (Consumes-trans from now to h.t [] h.taken end.consumed)

-- ---- the item is refused

listing-of : (start : ℕ) (m : MachineView) (t : List ℕ) (ms : List Mark) (es : List Event) → Represents m t ms → AreReported es ms → IsListing start m.depth t (lines start es)
listing-of start m t ms es agrees reported = record {
  beginning = agrees.beginning;
  of_events = λ s rest i. sym (lines-joined start es) ∙ ap (lines start) (reported-joined m t ms es agrees reported s rest i);
}

-- the first k bytes of an input are those consumed
prefix-listed : (start : ℕ) (d k : ℕ) (t rest out : List ℕ) → k ≡ length t → IsListing start d t out → IsListing start d (take k (t ++ rest)) out
prefix-listed start d k t rest out e h = subst (λ (xs : List ℕ). IsListing start d xs out) (sym (take_at t rest k (sym e))) h

cut-unlisted : (start : ℕ) (m new : MachineView) (from now to old out : Option (List ℕ)) (written : ℕ) (kept piece : List ℕ) (h : HasListed start m from now old out written) (f : Refusal) → IsCut f (machine_call m new now to kept piece h.t h.marks)
    → IfSome from (λ input. IsUnlisted start (bounds new.depth new.bytes) input f old out)
cut-unlisted start m new from now to old out written kept piece h f i =
    let all = h.t ++ i.bytes in
    let size : f.read ≡ length all = ap (λ (r : Refusal). r.read) i.is in
    let place : f.place ≡ length all = ap (λ (r : Refusal). r.place) i.is in
    let listing : IsListing start new.depth all (lines start h.reported) = listing-of start new all h.marks h.reported i.agrees h.are_reported in
    known from to all (λ input. IsUnlisted start (bounds new.depth new.bytes) input f old out) (Consumes-trans from now to h.t i.bytes h.taken i.consumed)
    (λ rest k. elim i.reason [
      | inl failed ↦
          of_reader (lines start h.reported)
          (i.is ∙ ap (λ r. refusal r (length all) (length all)) failed ∙ ap (λ n. refusal Read n n) (sym size))
          (subst (λ (n : ℕ). IsVerdict (bounds new.depth new.bytes) form (take n (all ++ rest)) (refused (refusal Truncated n n))) (sym size)
          (subst (λ (xs : List ℕ). IsVerdict (bounds new.depth new.bytes) form xs (refused (refusal Truncated (length all) (length all)))) (sym (take_at all rest (length all) refl)) i.verdict))
          (prefix-listed start new.depth f.read all rest (lines start h.reported) size listing)
          h.listed
      | inr ended ↦
          let empty : rest ≡ [] = subst IsAtEnd k ended.1 in
          let whole : all ++ rest ≡ all = ap (λ (xs : List ℕ). all ++ xs) empty ∙ append-nil all in
          let is : f ≡ refusal Truncated (length all) (length all) = i.is ∙ ap (λ r. refusal r (length all) (length all)) ended.0 in
          of_verdict (lines start h.reported)
          (subst (λ (xs : List ℕ). IsVerdict (bounds new.depth new.bytes) form xs (refused f)) (sym whole) (subst (λ (r : Refusal). IsVerdict (bounds new.depth new.bytes) form all (refused r)) (sym is) i.verdict))
          (prefix-listed start new.depth f.place all rest (lines start h.reported) place listing)
          h.listed
    ])

long-unlisted : (start : ℕ) (m new : MachineView) (from now to old out : Option (List ℕ)) (written : ℕ) (kept piece : List ℕ) (h : HasListed start m from now old out written) (f : Refusal) → IsTooLong f (machine_call m new now to kept piece h.t h.marks)
    → IfSome from (λ input. IsUnlisted start (bounds new.depth new.bytes) input f old out)
long-unlisted start m new from now to old out written kept piece h f i =
    let all = h.t ++ i.bytes in
    let place : f.place ≡ length all = ap (λ (r : Refusal). r.place) i.is ∙ sym i.full in
    known from to all (λ input. IsUnlisted start (bounds new.depth new.bytes) input f old out) (Consumes-trans from now to h.t i.bytes h.taken i.consumed)
    (λ rest k. of_verdict (lines start h.reported) (i.verdict rest)
    (prefix-listed start new.depth f.place all rest (lines start h.reported) place (listing-of start (before new (length all)) all h.marks h.reported i.agrees h.are_reported)) h.listed)

-- what was consumed, with the byte that is refused
broken-taken : (start : ℕ) (m new : MachineView) (from now to old out : Option (List ℕ)) (written : ℕ) (kept piece : List ℕ) (h : HasListed start m from now old out written) (f : Refusal) (i : HasFormError f (machine_call m new now to kept piece h.t h.marks))
    → Consumes from to ((h.t ++ i.bytes) ++ i.byte ∷ [])
broken-taken start m new from now to old out written kept piece h f i =
    subst (Consumes from to) (sym (append_assoc h.t i.bytes (i.byte ∷ []))) (Consumes-trans from now to h.t (i.bytes ++ i.byte ∷ []) h.taken i.consumed)

broken-unlisted : (start : ℕ) (m new : MachineView) (from now to old out : Option (List ℕ)) (written : ℕ) (kept piece : List ℕ) (h : HasListed start m from now old out written) (f : Refusal) → HasFormError f (machine_call m new now to kept piece h.t h.marks)
    → IfSome from (λ input. IsUnlisted start (bounds new.depth new.bytes) input f old out)
broken-unlisted start m new from now to old out written kept piece h f i =
    let all = h.t ++ i.bytes in
    let place : f.place ≡ length all = ap (λ (r : Refusal). r.place) i.is in
    known from to (all ++ i.byte ∷ []) (λ input. IsUnlisted start (bounds new.depth new.bytes) input f old out) (broken-taken start m new from now to old out written kept piece h f i)
    (λ rest k. of_verdict (lines start h.reported) (i.verdict rest)
    (subst (λ (xs : List ℕ). IsListing start new.depth (take f.place xs) (lines start h.reported)) (sym (append_assoc all (i.byte ∷ []) rest))
    (prefix-listed start new.depth f.place all (i.byte ∷ rest) (lines start h.reported) place (listing-of start (before new (length all)) all h.marks h.reported i.agrees h.are_reported))) h.listed)

pub refused-unlisted : (start : ℕ) (m new : MachineView) (from now to old out : Option (List ℕ)) (written : ℕ) (kept piece : List ℕ) (h : HasListed start m from now old out written) (f : Refusal)
    → IsCut f (machine_call m new now to kept piece h.t h.marks) ⊎ IsTooLong f (machine_call m new now to kept piece h.t h.marks) ⊎ HasFormError f (machine_call m new now to kept piece h.t h.marks) → IfSome from (λ input. IsUnlisted start (bounds new.depth new.bytes) input f old out)
refused-unlisted start m new from now to old out written kept piece h f (inl i) = cut-unlisted start m new from now to old out written kept piece h f i
refused-unlisted start m new from now to old out written kept piece h f (inr (inl i)) = long-unlisted start m new from now to old out written kept piece h f i
refused-unlisted start m new from now to old out written kept piece h f (inr (inr i)) = broken-unlisted start m new from now to old out written kept piece h f i

pub refused-lost : (start : ℕ) (m new : MachineView) (from now to old out : Option (List ℕ)) (written : ℕ) (kept piece : List ℕ) (h : HasListed start m from now old out written) (f : Refusal)
    → IsCut f (machine_call m new now to kept piece h.t h.marks) ⊎ IsTooLong f (machine_call m new now to kept piece h.t h.marks) ⊎ HasFormError f (machine_call m new now to kept piece h.t h.marks) → Loses f.read from to
refused-lost start m new from now to old out written kept piece h f (inl i) =
    loses (h.t ++ i.bytes) f.read from to (ap (λ (r : Refusal). r.read) i.is) (Consumes-trans from now to h.t i.bytes h.taken i.consumed)
refused-lost start m new from now to old out written kept piece h f (inr (inl i)) =
    loses (h.t ++ i.bytes) f.read from to (ap (λ (r : Refusal). r.read) i.is ∙ sym i.full) (Consumes-trans from now to h.t i.bytes h.taken i.consumed)
refused-lost start m new from now to old out written kept piece h f (inr (inr i)) =
    loses ((h.t ++ i.bytes) ++ i.byte ∷ []) f.read from to (ap (λ (r : Refusal). r.read) i.is ∙ sym (length-append (h.t ++ i.bytes) (i.byte ∷ []))) (broken-taken start m new from now to old out written kept piece h f i)

-- ---- the writer stopped

-- the lines so far, and the start of the next
abbrev stopped_lines : ℕ → List Event → Event → ℕ → List ℕ
stopped_lines start es e n = lines start es ++ take n (line start e)

stops-within : (start : ℕ) (m new : MachineView) (now to : Option (List ℕ)) (kept piece t : List ℕ) (ms : List Mark) (es : List Event) (e : Event) (count : ℕ) → AgreesBetween m t ms → AreReported es ms
    → (next : IsNextEvent e (machine_call m new now to kept piece t ms)) → count < length (line start e) → IsStopped start new.depth (t ++ next.bytes) (stopped_lines start es e count)
stops-within start m new now to kept piece t ms es e count s reported next short =
    let sum = total-append ms (marks_of e.width e.kind) in
    record {
      beginning = next.agrees.agrees.beginning;
      earlier = joined es;
      last = e;
      of_events = λ item rest i. sym (reported-joined new (t ++ next.bytes) (ms ++ marks_of e.width e.kind) (es ++ e ∷ []) next.agrees.agrees (next-more (machine_call m new now to kept piece t ms) es e reported s next) item rest i)
          ∙ joined-last es e (has-line start e count short);
      ends = omega (arith, sum, s.whole, next.place, next.agrees.whole);
      part = count;
      within = short;
      is = ap (λ l. l ++ take count (line start e)) (sym (lines-joined start es));
    }

pub stopped-unlisted : (start : ℕ) (m new : MachineView) (from now to old mid out : Option (List ℕ)) (written count : ℕ) (kept piece : List ℕ) (e : Event) (h : HasListed start m from now old mid written) (f : Refusal)
    → IsNextEvent e (machine_call m new now to kept piece h.t h.marks) → count < length (line start e) → Appends mid out (take count (line start e)) → f ≡ refusal Write (min (written + count) (2 ^ 64 - 1)) new.taken
    → IfSome from (λ input. IsUnlisted start (bounds new.depth new.bytes) input f old out)
stopped-unlisted start m new from now to old mid out written count kept piece e h f next short wrote is =
    let all = h.t ++ next.bytes in
    let read : f.read ≡ length all = ap (λ (r : Refusal). r.read) is ∙ next.agrees.agrees.taken in
    let fits : count ≤ length (line start e) = omega arith in
    let size : length (stopped_lines start h.reported e count) ≡ length (lines start h.reported) + count = length-append (lines start h.reported) (take count (line start e)) ∙ ap (λ n. length (lines start h.reported) + n) (length-take-le count (line start e) fits) in
    let place : min (written + count) (2 ^ 64 - 1) ≡ min (length (stopped_lines start h.reported e count)) (2 ^ 64 - 1) = omega (arith, size, h.count) in
    known from to all (λ input. IsUnlisted start (bounds new.depth new.bytes) input f old out) (Consumes-trans from now to h.t next.bytes h.taken next.consumed)
    (λ rest k. of_writer (stopped_lines start h.reported e count)
    (is ∙ ap (λ n. refusal Write n new.taken) place ∙ ap (λ n. refusal Write (min (length (stopped_lines start h.reported e count)) (2 ^ 64 - 1)) n) (sym (ap (λ (r : Refusal). r.read) is)))
    (subst (λ (xs : List ℕ). IsStopped start new.depth xs (stopped_lines start h.reported e count)) (sym (take_at all rest f.read (sym read)))
    (stops-within start m new now to kept piece h.t h.marks h.reported e count h.between h.are_reported next short))
    (Appends-trans old mid out (lines start h.reported) (take count (line start e)) h.listed wrote))

pub stopped-lost : (start : ℕ) (m new : MachineView) (from now to old mid : Option (List ℕ)) (written : ℕ) (kept piece : List ℕ) (e : Event) (h : HasListed start m from now old mid written) (n : ℕ)
    → IsNextEvent e (machine_call m new now to kept piece h.t h.marks) → n ≡ new.taken → Loses n from to
stopped-lost start m new from now to old mid written kept piece e h n next is =
    loses (h.t ++ next.bytes) n from to (is ∙ next.agrees.agrees.taken) (Consumes-trans from now to h.t next.bytes h.taken next.consumed)

-- ---- the reasons

-- the events stop for no other reason
pub listing_reason : (r : Reason) → IsEventReason r → IsListingReason r
listing_reason Write h = tt
listing_reason _ h = h

-- ---- the limits

-- only the form matters, whatever kinds of keys are allowed
pub listed-within : (start : ℕ) (limits : Bounds) (m : MachineView) (from old out : Option (List ℕ)) (count : ℕ) → m.depth ≡ limits.depth → m.bytes ≡ limits.bytes
    → IfSome from (λ input. IsListed start (bounds m.depth m.bytes) input count old out) → IfSome from (λ input. IsListed start limits input count old out)
listed-within start limits m None old out count depth bytes h = tt
listed-within start limits m (Some input) old out count depth bytes h =
    record { item = h.item; verdict = form_beside (bounds m.depth m.bytes) limits input (accepted h.item) depth bytes h.verdict; size = h.size; written = h.written }

pub unlisted-within : (start : ℕ) (limits : Bounds) (m : MachineView) (from old out : Option (List ℕ)) (f : Refusal) → m.depth ≡ limits.depth → m.bytes ≡ limits.bytes
    → IfSome from (λ input. IsUnlisted start (bounds m.depth m.bytes) input f old out) → IfSome from (λ input. IsUnlisted start limits input f old out)
unlisted-within start limits m None old out f depth bytes h = tt
unlisted-within start limits m (Some input) old out f depth bytes h = go h
  where
    here : (bs : List ℕ) (g : Refusal) → IsVerdict (bounds m.depth m.bytes) form bs (refused g) → IsVerdict limits form bs (refused g)
    here bs g v = form_beside (bounds m.depth m.bytes) limits bs (refused g) depth bytes v

    go : IsUnlisted start (bounds m.depth m.bytes) input f old out → IsUnlisted start limits input f old out
    go (of_verdict text v l a) = of_verdict text (here input f v) (subst (λ (d : ℕ). IsListing start d (take f.place input) text) depth l) a
    go (of_reader text is v l a) = of_reader text is (here (take f.read input) (refusal Truncated f.read f.read) v) (subst (λ (d : ℕ). IsListing start d (take f.read input) text) depth l) a
    go (of_writer text is s a) = of_writer text is (subst (λ (d : ℕ). IsStopped start d (take f.read input) text) depth s) a
