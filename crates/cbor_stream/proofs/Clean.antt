-- Nothing that was taken has a complaint, also within a head.
use Rattle.std.proofs.Common.{◌≡◌, ℕ, zero, suc, ◌-◌, ◌<◌, true, false, None, List, [], ◌++◌, length, sym, ap, ◌∙◌, subst, inl, inr, arith, append_assoc, append-nil}
use Rattle.cbor_head.specs.Prelude.{Bounds, AreBytes, Spelling, IsItem, Rules, strict, Complains, HasNoneOf}
use Rattle.cbor_head.specs.{Laws.StartsWith, Laws.IsWithout, declared.major.Major.Major}
use Rattle.theory_values.proofs.Agree.{same_complaints}
use Rattle.theory_automaton.specs.Automaton.{Frame as Container, State, at_item as item_at, in_head, in_simple, in_chunks, run, reached}
use Rattle.theory_automaton.{proofs.Taking.IsWithin, proofs.Taking.nothing-taken, specs.Trace.Mark, specs.Trace.total}
use Rattle.cbor_machine.specs.{State.state_of, MachineView.MachineView}
use Rattle.theory_verdicts.specs.Place.{Place, at_item, payload, done}
use Rattle.theory_verdicts.specs.Reading.{IsAt, state_at, string_major}
use Rattle.theory_verdicts.proofs.KindBytes.{Begins, judged_begins, silent_is_one, keeps_expected}
use Rattle.theory_verdicts.{specs.Kinds.KeepsToKinds, specs.Judged.IsJudged, proofs.Heads.cut_head, proofs.Decisions.none_beside, proofs.Places.clear-at}
use Rattle.theory_verdicts.proofs.Steps.{since}
use Rattle.cbor_strict.specs.{inner.OpenItems.frames_in, inner.OpenItems.IsItemExpected, declared.open_items.OpenItems.OpenItems}
use Rattle.cbor_strict.proofs.{OpenBegins.expects, StrictReading.agrees_clean, KeptReading.agrees_counted, KeptReading.IsCounted}
use Rattle.cbor_stream.{specs.inner.Amid.IsAmid, proofs.Amid.amid_bytes, proofs.Asking.asked_so}

-- no head begins here
abbrev IsNoHead : State → Type 0
IsNoHead (item_at cs) = ⊥
IsNoHead (in_chunks m cs) = ⊥
IsNoHead q = Unit {0}

none_within : (d : ℕ) (q u : State) (bs : List ℕ) → IsNoHead q → IsWithin d q u bs → bs ≡ []
none_within d q (in_head false m x k acc fs) bs h w = absurd (subst IsNoHead w.0 h)
none_within d q (in_head true m x k acc fs) bs h w = absurd (subst IsNoHead w.0 h)
none_within d q (in_simple fs) bs h w = absurd (subst IsNoHead w.0 h)
none_within d q _ bs h w = w.1

payload_no_head : (m : Major) (n : ℕ) (cs : List Container) → 0 < n → IsNoHead (state_at (payload false m n cs))
payload_no_head m zero cs l = absurd (omega (arith, l))
payload_no_head m (suc n) cs l = tt

-- what was found of one item that starts with these bytes holds of each
none_of : (r : Rules) (d : ℕ) (t : List ℕ) → IsJudged r 0 (d - 0) t None → (s : Spelling) → StartsWith d s t → HasNoneOf (Complains r 0 s) (length t)
none_of r d t j s i c h l =
    let e : d - 0 ≡ d = omega arith in
    let is : IsItem d j.item (t ++ j.rest) = subst (λ (n : ℕ). IsItem n j.item (t ++ j.rest)) e j.is in
    let k = same_complaints d s j.item t i.0 j.rest i.1 is r c l h in
    let late = j.finding.1 c k in
    absurd (omega (arith, late, l))

module _ (m : MachineView) (v : OpenItems) (b : Bounds) (t : List ℕ) (ms : List Mark) (a : IsAmid m v b t ms) where
  abbrev r : Rules
  r = strict v.order

  abbrev whole : List ℕ
  whole = a.before ++ a.since

  abbrev are : AreBytes a.since
  are = amid_bytes m v b t ms a

  -- of where the last event ended
  module _ (q : Place) (at : IsAt b a.began a.before q) where
    quiet : run b.depth (state_at q) a.since ≡ reached (state_of m.inner.position m.inner.frames) []
    quiet =
        let s = a.led a.before at.marks at.agrees.agrees in
        since b a.began m a.before a.since q [] at (a.depth ∙ at.depth) (s.inner.ran ∙ ap (reached (state_of m.inner.position m.inner.frames)) (sym (append-nil at.marks)))

    within : IsWithin b.depth (state_at q) (state_of m.inner.position m.inner.frames) a.since
    within = nothing-taken b.depth (state_at q) (state_of m.inner.position m.inner.frames) a.since (clear-at q) are quiet

    -- nothing came where no head begins
    nothing : IsNoHead (state_at q) → a.since ≡ []
    nothing h = none_within b.depth (state_at q) (state_of m.inner.position m.inner.frames) a.since h within

  -- whatever came since
  record IsFine : Type 0 where
    keeps : KeepsToKinds b r whole
    none : (s : Spelling) → StartsWith b.depth s whole → HasNoneOf (Complains r 0 s) (length whole)

  fine_head : IsItemExpected v b a.began a.before → IsFine
  fine_head h =
      let cs = frames_in h.fs in
      let x = expects v b a.before h.fs h.around h.taken a.keeps in
      let j : IsJudged r (length a.before) (b.depth - length cs) a.since None = cut_head r (length a.before) b.depth cs (state_of m.inner.position m.inner.frames) a.since (within (at_item cs) h.at) in
      record {
        keeps = keeps_expected b r x.around a.since (subst (λ (n : ℕ). Begins n a.since) x.space (judged_begins r (length a.before) (b.depth - length cs) a.since None j)) (silent_is_one b.depth cs (state_of m.inner.position m.inner.frames) a.since are (quiet (at_item cs) h.at))
            (λ asked key. a.kind (((asked_so b.keys v).expected h.fs [] h.kept h.none).1 (asked.1, key))) a.keeps;
        none = none_of r b.depth whole (x.lift a.since None j);
      }

  fine_rest : a.since ≡ [] → IsFine
  fine_rest e =
      let same : a.before ≡ whole = sym (append-nil a.before) ∙ ap (λ (x : List ℕ). a.before ++ x) (sym e) in
      record {
        keeps = subst (KeepsToKinds b r) same a.keeps;
        none = subst (λ (x : List ℕ). (s : Spelling) → StartsWith b.depth s x → HasNoneOf (Complains r 0 s) (length x)) same (agrees_clean v b a.began a.before a.agrees);
      }

  fine : IsFine
  fine = elim a.agrees [
    | inl h ↦ fine_head h
    | inr (inl h) ↦ fine_rest (nothing (payload false (string_major v.is_text) v.left (frames_in h.fs)) h.at (payload_no_head (string_major v.is_text) v.left (frames_in h.fs) h.some))
    | inr (inr h) ↦ fine_rest (nothing done h.at tt)
  ]

  -- no complaint ends within what was taken
  pub amid_clean : (s : Spelling) → StartsWith b.depth s t → IsWithout b r s (length t)
  amid_clean s i =
      let f = fine in
      let k : StartsWith b.depth s whole = subst (StartsWith b.depth s) a.splits i in
      subst (λ (x : List ℕ). IsWithout b r s (length x)) (sym a.splits) (none_beside b r s (length whole) (λ asked c o l. f.keeps asked s c k o l) (f.none s k))

  -- what is stored is that of the last event's end
  pub amid_counted : (s : Spelling) → StartsWith b.depth s t → IsCounted v (total ms) s
  amid_counted s i =
      let k : StartsWith b.depth s a.before = (a.since ++ i.0, subst (IsItem b.depth s) (ap (λ (x : List ℕ). x ++ i.0) a.splits ∙ append_assoc a.before a.since i.0) i.1) in
      subst (λ (n : ℕ). IsCounted v n s) (sym a.between.whole) (agrees_counted v b a.began a.before a.agrees s k)
