-- What was found of the one item that an input starts with is its verdict.
use Rattle.std.proofs.Common.{ℕ, ◌+◌, ◌-◌, ◌≡◌, ◌<◌, ◌≤◌, ◌⊎◌, Option, Some, None, List, [], ◌∷◌, ◌++◌, length, take, drop, refl, sym, ap, ◌∙◌, arith, subst, inl, inr, append_assoc, append-nil, take-append-drop, length-append}
use Rattle.std.proofs.{Math.Seq.take-append_seam, Math.Seq.drop-append_seam, lemmas.Bool.cases_lt, lemmas.List.nil_from_length}
use Rattle.std.specs.{Io.KnownBytes.Consumes, Io.KnownBytes.IsAtEnd, Option.IfSome}
use Rattle.cbor_head.specs.Prelude.{Bounds, AreBounds, Value, Spelling, spell, IsItem, IsLongestBeginning, Rules, Complaint, complaint, form, OfKinds, IsComplaint, refusal, refused, IsFormError, IsVerdict}
use Rattle.cbor_head.specs.declared.reason.Reason.TheVariants.{Truncated, Read, Memory, KeyKind}
use Rattle.cbor_head.specs.{Laws.StartsWith, Laws.IsWithout, declared.reason.Reason.Reason, declared.reason.Refusal.Refusal}
use Rattle.theory_values.proofs.{Agree.split_prefix, Beginnings.item_decides, Complaints.complaints_reported}
use Rattle.theory_automaton.proofs.Runs.{take-following}
use Rattle.cbor_machine.{proofs.Form.never, specs.NextEvent.ItemEventsView, specs.NextEvent.AgreesBetween}
use Rattle.theory_verdicts.specs.Readers.{IsReadAs, IsUnread, of_verdict, of_reader, of_memory, Loses}
use Rattle.theory_verdicts.specs.Reading.{IsReached, IsMemory, IsCause, HasCause, Extends, ReadsItem, IsUndecided, StopsItem, IsPrefixUnread, IsAt}
use Rattle.theory_verdicts.proofs.Decisions.{whole_beside, complaint_decides, break_decides, kind_decides}
use Rattle.theory_verdicts.specs.{Judged.IsJudged, Kinds.AsksForKinds, Kinds.KeepsToKinds, Refusals.IsFreeBefore}
use Rattle.theory_verdicts.{proofs.KindFrames.KeepsBefore, proofs.SpelledBytes.longest_always, specs.Place.at_item, proofs.Reasons.reader-reason}

-- ---- no complaint ends before an offset of an input's longest beginning

-- where one item has no complaint within q, none that starts with q has
pub prefix-free : (limits : Bounds) (r : Rules) (q p k : List ℕ) (s : Spelling) (rest : List ℕ) (place : ℕ) → IsItem limits.depth s (q ++ rest) → p ≡ q ++ k → ((c : Complaint) → IsComplaint limits r s c → length q < c.end)
    → place ≤ length q + 1 → IsFreeBefore limits r p place
prefix-free limits r q p k s rest place item is none l = λ z c start holds.
    let bytes_are : p ++ start.0 ≡ q ++ (k ++ start.0) = ap (λ (u : List ℕ). u ++ start.0) is ∙ append_assoc q k start.0 in
    elim (cases_lt (length q) c.end) [
      | inl h ↦ omega (arith, h, l)
      | inr h ↦
          let found = (complaints_reported limits r).agree limits.depth z s q (k ++ start.0) rest (subst (IsItem limits.depth z) bytes_are start.1) item c h holds in
          absurd (omega (arith, h, none c found))
    ]

pub without : (limits : Bounds) (r : Rules) (s : Spelling) (t : ℕ) → IsWithout limits r s t → (c : Complaint) → IsComplaint limits r s c → t < c.end
without limits r s t h c g = elim (cases_lt t c.end) [ inl l ↦ l | inr l ↦ absurd (h c g l) ]

-- ---- the first n bytes

-- two prefixes of one length
same_prefix : (p q x y : List ℕ) → p ++ x ≡ q ++ y → length p ≡ length q → p ≡ q
same_prefix p q x y e l =
    let (k, f, h) = split_prefix p x q y e (omega (arith, l)) in
    let none : k ≡ [] = nil_from_length k (omega (arith, l, ap length f, length-append p k)) in
    sym (f ∙ ap (λ (u : List ℕ). p ++ u) none ∙ append-nil p)

-- what a reader that had all of the input lost
pub record Lost (input bs : List ℕ) (to : Option (List ℕ)) : Type 0 where
  pub rest : List ℕ
  pub left : to ≡ Some rest
  pub splits : input ≡ bs ++ rest

pub lost : (input bs : List ℕ) (from to : Option (List ℕ)) → from ≡ Some input → Extends [] bs from to → Lost input bs to
lost input bs from to e h = go to (subst (λ (f : Option (List ℕ)). Consumes f to h.more) e h.consumed)
  where
    go : (to : Option (List ℕ)) → Consumes (Some input) to h.more → Lost input bs to
    go None c = absurd c
    go (Some ys) c = record { rest = ys; left = refl; splits = c ∙ ap (λ (u : List ℕ). u ++ ys) (sym h.are) }

-- ---- a form error

-- its offset is the length of the longest beginning
break_place : (limits : Bounds) (p following : List ℕ) (f : Refusal) → IsFormError limits p following f → f.place ≡ length p
break_place limits p [] f (inl b) = ap (λ (x : Refusal). x.place) b.1 ∙ sym b.0
break_place limits p [] f (inr b) = ap (λ (x : Refusal). x.place) b.1
break_place limits p (c ∷ cs) f b = ap (λ (x : Refusal). x.place) b.2

-- form errors of an input
record BreaksAt (limits : Bounds) (input : List ℕ) (f : Refusal) : Type 0 where
  p : List ℕ
  longest : IsLongestBeginning limits.depth (take limits.bytes input) p
  breaks : IsFormError limits p longest.rest f

breaks_at : (limits : Bounds) (input : List ℕ) (f : Refusal) → IsVerdict limits form input (refused f) → BreaksAt limits input f
breaks_at limits input f v = elim v.decides [
  | inl c ↦ absurd (never limits v.item c.0 c.1.holds)
  | inr b ↦ record { p = v.p; longest = v.longest; breaks = b.2 }
]

-- and the offset of its refusal is where the part without complaint ends
pub form_decides : (limits : Bounds) (r : Rules) (input p rest : List ℕ) (f : Refusal) → IsJudged r 0 limits.depth p None → KeepsToKinds limits r p → input ≡ p ++ rest → f.place ≡ length p → IsVerdict limits form input (refused f)
    → (IsVerdict limits r input (refused f)) × IsLongestBeginning limits.depth (take limits.bytes input) p
form_decides limits r input p rest f j keeps e place v =
    let b = breaks_at limits input f v in
    let size : length b.p ≡ length p = sym (break_place limits b.p b.longest.rest f b.breaks) ∙ place in
    let whole : input ≡ b.p ++ (b.longest.rest ++ drop limits.bytes input) = sym (take-append-drop limits.bytes input) ∙ ap (λ (u : List ℕ). u ++ drop limits.bytes input) b.longest.splits ∙ append_assoc b.p b.longest.rest (drop limits.bytes input) in
    let same : p ≡ b.p = same_prefix p b.p rest (b.longest.rest ++ drop limits.bytes input) (sym e ∙ whole) (sym size) in (
      break_decides limits r input b.p f (subst (λ (u : List ℕ). IsJudged r 0 limits.depth u None) same j) (subst (KeepsToKinds limits r) same keeps) b.longest b.breaks,
      subst (IsLongestBeginning limits.depth (take limits.bytes input)) (sym same) b.longest,
    )

-- ---- an item that is read

module _ (r : Rules) (b : Bounds) (input : List ℕ) (from to : Option (List ℕ)) (known : from ≡ Some input) where
  module _ (new : ItemEventsView) (v : Value) (i : ReadsItem r b [] [] [] from to new v) (keeps : KeepsToKinds b r (spell i.item)) where
    gone : Lost input (spell i.item) to
    gone = lost input (spell i.item) from to known i.taken

    whole : IsItem b.depth i.item (spell i.item)
    whole = record { spelled = i.spelled; within = omega (arith, i.within); bytes_are = refl }

    fits : length (spell i.item) ≤ b.bytes
    fits = omega (arith, i.at.agrees.agrees.taken, i.at.agrees.agrees.limited, i.at.bytes)

    pub item-read : IsReadAs b r input v (length (spell i.item))
    item-read = record {
      read = record {
        item = i.item;
        verdict = item_decides (IsComplaint b r) b input (take (b.bytes - length (spell i.item)) gone.rest) i.item whole
            (ap (take b.bytes) gone.splits ∙ take-following b.bytes (spell i.item) gone.rest fits)
            (whole_beside b r i.item whole keeps i.clean);
        size = refl;
      };
      value = sym i.value;
    }

  -- ---- a refusal

  module _ (f : Refusal) (s : StopsItem r b [] [] [] from to f) where
    left : Lost input s.bytes to
    left = lost input s.bytes from to known s.taken

    read-is : f.read ≡ length s.bytes
    read-is = s.read

    taken-are : take f.read input ≡ s.bytes
    taken-are = ap (λ (k : ℕ). take k input) read-is ∙ ap (take (length s.bytes)) left.splits ∙ take-append_seam s.bytes left.rest

    -- the bytes taken are within the longest beginning, if they are one
    short : IsReached b s.bytes → (p : List ℕ) → IsLongestBeginning b.depth (take b.bytes input) p → f.read ≤ length p
    short h p g = omega (arith, read-is, g.longest s.bytes (take (b.bytes - length s.bytes) left.rest) h.begins (ap (take b.bytes) left.splits ∙ take-following b.bytes s.bytes left.rest h.within))

    level : b.depth - 0 ≡ b.depth
    level = omega arith

    flat : (reason : Reason) → f.reason ≡ reason → f.place ≡ f.read → f ≡ refusal reason f.read f.read
    flat reason e g = ap (λ (x : Reason). refusal x f.place f.read) e ∙ ap (λ (k : ℕ). refusal reason k f.read) g

    -- if all but the last byte read decide nothing against the item, no complaint ends before
    free : IsReached b s.bytes → (u : IsUndecided r b [] [] s.bytes) → KeepsToKinds b r u.p → (p : List ℕ) → IsLongestBeginning b.depth (take b.bytes input) p → IsFreeBefore b r p f.read
    free h u keeps p g =
        let prefix : take b.bytes input ≡ s.bytes ++ take (b.bytes - length s.bytes) left.rest = ap (take b.bytes) left.splits ∙ take-following b.bytes s.bytes left.rest h.within in
        let (k, is, other) = split_prefix s.bytes (take (b.bytes - length s.bytes) left.rest) p g.rest (sym prefix ∙ g.splits) (omega (arith, read-is, short h p g)) in
        let item : IsItem b.depth u.judged.item (u.p ++ u.judged.rest) = subst (λ (m : ℕ). IsItem m u.judged.item (u.p ++ u.judged.rest)) level u.judged.is in
        prefix-free b r u.p p (u.last ++ k) u.judged.item u.judged.rest f.read item (is ∙ ap (λ (v : List ℕ). v ++ k) u.splits ∙ append_assoc u.p u.last k)
        (later item) (omega (arith, read-is, ap length u.splits, length-append u.p u.last, u.byte))
      where
        later : IsItem b.depth u.judged.item (u.p ++ u.judged.rest) → (c : Complaint) → IsComplaint b r u.judged.item c → length u.p < c.end
        later item c (inl x) = omega (arith, u.judged.finding.1 c x)
        later item c (inr x) = elim (cases_lt (length u.p) c.end) [ inl l ↦ l | inr l ↦ absurd (keeps (x.0, x.1) u.judged.item c (u.judged.rest, item) x.2 l) ]

    stopped-for-memory : IsMemory f → IsReached b s.bytes → (u : IsUndecided r b [] [] s.bytes) → KeepsToKinds b r u.p → IsUnread b r input f
    stopped-for-memory m h u keeps =
        let g = longest_always b.depth (take b.bytes input) in
        of_memory g.0 g.1 (short h g.0 g.1) (flat Memory m.0 m.1) (free h u keeps g.0 g.1)

    module _ (p last : List ℕ) (splits : s.bytes ≡ p ++ last) (keeps : KeepsToKinds b r p) where
      input-is : input ≡ p ++ (last ++ left.rest)
      input-is = left.splits ∙ ap (λ (u : List ℕ). u ++ left.rest) splits ∙ append_assoc p last left.rest

      shorter : length p ≤ length s.bytes
      shorter = omega (arith, ap length splits, length-append p last)

      stopped-by-complaint : (c : Complaint) → IsJudged r 0 b.depth p (Some c) → f ≡ refusal c.reason c.place c.end → length s.bytes ≤ b.bytes → IsUnread b r input f
      stopped-by-complaint c j is l =
          let g = longest_always b.depth (take b.bytes input) in
          of_verdict (subst (λ (x : Refusal). IsVerdict b r input (refused x)) (sym is)
          (complaint_decides b r input p (take (b.bytes - length p) (last ++ left.rest)) g.0 c j keeps
          (ap (take b.bytes) input-is ∙ take-following b.bytes p (last ++ left.rest) (omega (arith, l, shorter))) g.1))

      -- the input ends, or the reader failed, within an item
      cut : IsJudged r 0 b.depth p None → f.place ≡ length p → IsVerdict b form s.bytes (refused (refusal Truncated (length s.bytes) (length s.bytes))) → f.place ≡ f.read
          → (f.reason ≡ Read) ⊎ ((f.reason ≡ Truncated) × IsAtEnd to) → IsUnread b r input f
      cut j place v even why =
          let all : length s.bytes ≡ length p = sym read-is ∙ sym even ∙ place in
          let decided = form_decides b r s.bytes p last (refusal Truncated (length s.bytes) (length s.bytes)) j keeps splits all v in
          elim why [
            | inl e ↦
                of_reader (flat Read e even)
                (subst (λ (u : List ℕ). IsVerdict b r u (refused (refusal Truncated f.read f.read))) (sym taken-are)
                (subst (λ (k : ℕ). IsVerdict b r s.bytes (refused (refusal Truncated k k))) (sym read-is) decided.0))
            | inr e ↦
                let end : left.rest ≡ [] = ended left.rest left.left e.1 in
                let whole : input ≡ s.bytes = left.splits ∙ ap (λ (u : List ℕ). s.bytes ++ u) end ∙ append-nil s.bytes in
                of_verdict (subst (λ (u : List ℕ). IsVerdict b r u (refused f)) (sym whole)
                (subst (λ (x : Refusal). IsVerdict b r s.bytes (refused x)) (sym (flat Truncated e.0 even ∙ ap (λ (k : ℕ). refusal Truncated k k) read-is)) decided.0))
          ]
        where
          ended : (rest : List ℕ) → to ≡ Some rest → IsAtEnd to → rest ≡ []
          ended rest e h = subst IsAtEnd e h

      stopped-by-cause : (found : Option Complaint) → IsJudged r 0 b.depth p found → IsCause b s.bytes to (length p) found f → IsUnread b r input f
      stopped-by-cause (Some c) j h = stopped-by-complaint c j h.0 h.1
      stopped-by-cause None j h = elim h.1 [
        | inl w ↦ of_verdict (form_decides b r input p (last ++ left.rest) f j keeps input-is h.0 (subst (λ (u : List ℕ). IsVerdict b form u (refused f)) (sym left.splits) (w left.rest))).0
        | inr w ↦ cut j h.0 w.0 w.1 w.2
      ]

    pub item-unread : KeepsBefore r b s.bytes to f s.why → IsUnread b r input f
    item-unread = go s.why
      where
        go : (why : (IsMemory f × IsReached b s.bytes × IsUndecided r b [] [] s.bytes) ⊎ HasCause r b [] [] s.bytes to f) → KeepsBefore r b s.bytes to f why → IsUnread b r input f
        go (inl m) keeps = stopped-for-memory m.0 m.1 m.2 keeps
        go (inr h) keeps = stopped-by-cause h.p h.last h.splits keeps h.found (subst (λ (k : ℕ). IsJudged r 0 k h.p h.found) level h.judged) h.cause

  -- ---- a key of another kind, of which the first byte was taken

  pub kind-unread : (p : List ℕ) (x : ℕ) (s : Spelling) → Extends [] (p ++ x ∷ []) from to → length (p ++ x ∷ []) ≤ b.bytes → AsksForKinds b r → IsJudged r 0 b.depth p None → KeepsToKinds b r p
      → StartsWith b.depth s (p ++ x ∷ []) → OfKinds 0 s (complaint (length p + 1) (length p) KeyKind) → IsUnread b r input (refusal KeyKind (length p) (length p + 1))
  kind-unread p x s taken l asked j keeps begins o =
      let prefix = p ++ x ∷ [] in
      let gone = lost input prefix from to known taken in
      let g = longest_always b.depth (take b.bytes input) in
      of_verdict (kind_decides b r input p (take (b.bytes - length prefix) gone.rest) g.0 x s asked j keeps begins o (ap (take b.bytes) gone.splits ∙ take-following b.bytes prefix gone.rest l) g.1)

-- ---- what the reader lost

pub loses : (bs : List ℕ) (k : ℕ) (from to : Option (List ℕ)) → k ≡ length bs → Extends [] bs from to → Loses k from to
loses bs k None to e h = tt
loses bs k (Some xs) to e h =
    let g = lost xs bs (Some xs) to refl h in (
      g.left ∙ ap Some (sym (ap (drop k) g.splits ∙ ap (λ (j : ℕ). drop j (bs ++ g.rest)) e ∙ drop-append_seam bs g.rest)),
      omega (arith, e, ap length g.splits, length-append bs g.rest),
    )

-- ---- each reader is reported what was found, and of its known bytes

-- before the first byte
pub starts-at : (b : Bounds) (e : ItemEventsView) → AreBounds b → e.refusal ≡ None → (e.machine.depth ≡ b.depth) × (e.machine.bytes ≡ b.bytes) → AgreesBetween e.machine [] [] → IsAt b e [] (at_item [])
starts-at b e l live limits s = record { live = live; limits = l; depth = limits.0; bytes = limits.1; marks = []; agrees = s; state = sym (cc (s.agrees.inner.ran)) }

pub known : (from : Option (List ℕ)) (P : List ℕ → Type 0) → ((input : List ℕ) → from ≡ Some input → P input) → IfSome from P
known None P f = tt
known (Some input) P f = f input refl

pub prefix-unread : (r : Rules) (b : Bounds) (from to : Option (List ℕ)) (f : Refusal) → (s : StopsItem r b [] [] [] from to f) → KeepsBefore r b s.bytes to f s.why → IsPrefixUnread r b from to f
prefix-unread r b from to f s keeps = record {
  refused = known from (λ input. IsUnread b r input f) (λ input k. item-unread r b input from to k f s keeps);
  reason = reader-reason r b b [] [] [] from to f s;
  taken = loses s.bytes f.read from to s.read s.taken;
}
