-- What a head begins in the open containers, whatever is stored of them.
use Rattle.std.proofs.Common.{◌≡◌, ℕ, zero, suc, ◌+◌, ◌-◌, ◌<◌, Bool, true, false, Option, Some, None, List, [], ◌∷◌, ◌++◌, length, refl, sym, ap, ◌∙◌, subst, arith, append-nil}
use Rattle.std.proofs.{lemmas.Str.IsUtf8-nil, KnownBytes.Consumes-nil}
use Rattle.cbor_head.specs.Prelude.{head, Bounds, Value, Spelling, SpelledEntries, no_spellings, no_entries, spellings_count, entries_count, strict, Complaint, OfCount, OfHead}
use Rattle.cbor_head.specs.Complaint as complaint
use Rattle.cbor_head.specs.declared.major.Major.TheVariants as majors
use Rattle.cbor_head.specs.declared.reason.Reason.TheVariants as reasons
use Rattle.cbor_head.specs.declared.event.EventKind.TheVariants as kinds
use Rattle.cbor_head.specs.declared.{event.EventKind.EventKind, major.Major.Major, order.KeyOrder.KeyOrder, width.Width.Width}
use Rattle.cbor_head.specs.declared.width.Width.TheVariants.{Indefinite}
use Rattle.theory_automaton.specs.{Trace.Mark, Trace.a_head, Marks.mark_of}
use Rattle.cbor_machine.specs.NextEvent.{ItemEventsView}
use Rattle.theory_verdicts.specs.Place.{Container, Place, at_item, counted, close, expect, payload, Ends}
use Rattle.theory_verdicts.specs.Frame.{Frame, a_member, a_key, tagged, before}
use Rattle.theory_verdicts.specs.Reading.{IsAt, OfMark, IsBegun, ReadsItem, ReadsPayload, string_kind, string_major}
use Rattle.theory_verdicts.proofs.Members.{starts-array, array-whole, starts-with, map-whole}
use Rattle.theory_verdicts.proofs.Items.{definite, proper-definite, never-open, is-definite, head-count}
use Rattle.theory_verdicts.proofs.Judged.{zero_item, zeros, zeros_count, zero_pairs, pairs_count}
use Rattle.theory_verdicts.proofs.OpenSteps.{distinct_snoc, array_opens, map_opens, tag_opens}
use Rattle.theory_verdicts.proofs.Scalars.{at-as, reads-unsigned, reads-negative, reads-simple}
use Rattle.theory_verdicts.{specs.Judged.IsJudged, specs.Judged.Never, specs.OpenMaps.AreOpen, specs.OpenMaps.AreOpenDistinct, proofs.Heads.open_or}
use Rattle.theory_verdicts.proofs.{OpenMaps.judged_within, WholeStrings.string-expected, WholeStrings.reads-string}
use Rattle.theory_verdicts.{specs.Kinds.KeepsToKinds, specs.Kinds.IsKeyExpected, proofs.ItemExpected.ExpectsItem, proofs.KindFrames.around_frames}
use Rattle.cbor_strict.specs.inner.OpenItems.{AreOpenClean, frames_in, bytes_before, IsLeaf, IsMap, IsOther}
use Rattle.cbor_strict.specs.{declared.open_items.OpenItems.OpenItems, inner.LastKeys.from_outside, inner.LastKeys.expected_of}
use Rattle.cbor_strict.{specs.declared.last_keys.Expected.TheVariants.Member, proofs.OpenEnds.outside_length, proofs.OpenEnds.frames_length}

-- ---- what is found of the item is found of the whole

module _ (o : KeyOrder) (b : Bounds) (fs : List Frame) (are : AreOpen (strict o) b.depth (from_outside fs)) (distinct : AreOpenDistinct (strict o) 0 (from_outside fs)) where
  pub space_left : b.depth - length (frames_in fs) ≡ are.left
  space_left = let levels = are.levels in omega (arith, levels, outside_length fs, frames_length fs)

  pub lift : (p : List ℕ) (found : Option Complaint) → IsJudged (strict o) (length (bytes_before fs)) (b.depth - length (frames_in fs)) p found → IsJudged (strict o) 0 (b.depth - 0) (bytes_before fs ++ p) found
  lift p found j =
      let level : length (from_outside fs) + are.left ≡ b.depth - 0 = (let levels = are.levels in omega (arith, levels)) in
      subst (λ (n : ℕ). IsJudged (strict o) 0 n (bytes_before fs ++ p) found) level
      (judged_within (from_outside fs) (strict o) 0 (length (bytes_before fs)) are.left p found (omega arith) are.path are.closed distinct (subst (λ (n : ℕ). IsJudged (strict o) (length (bytes_before fs)) n p found) space_left j))

-- an item is expected
pub expects : (v : OpenItems) (b : Bounds) (t : List ℕ) (fs : List Frame) → AreOpenClean v b fs → t ≡ bytes_before fs → KeepsToKinds b (strict v.order) t → ExpectsItem (strict v.order) b t (frames_in fs) (IsKeyExpected (from_outside fs))
expects v b t fs clean taken keeps =
    let are = clean.are in
    record {
      left = are.left;
      fs = from_outside fs;
      around = around_frames b.depth are.left (from_outside fs) t are.levels are.path (sym taken);
      space = space_left v.order b fs are clean.distinct;
      lift = λ p found j.
          subst (λ (x : List ℕ). IsJudged (strict v.order) 0 (b.depth - 0) (x ++ p) found) (sym taken)
          (lift v.order b fs are clean.distinct p found (subst (λ (x : List ℕ). IsJudged (strict v.order) (length x) (b.depth - length (frames_in fs)) p found) taken j));
      keeps = keeps;
    }

-- ---- an item of one head

-- no break is allowed where an item is expected
pub no_break : (fs : List Frame) (next : Place) → Ends (frames_in fs) next → ⊥
no_break (a_member w a b ∷ fs) next h = h
no_break _ next h = h

-- a head of indefinite length has a complaint
pub no_openers : (o : KeyOrder) (b : Bounds) (fs : List Container) (t x : List ℕ) (e : ItemEventsView) (w : Width) (m : Major) (n : ℕ) (kind : EventKind) → mark_of w kind ≡ a_head m w n → w ≡ Indefinite → IsBegun (strict o) b fs t x e w kind → ⊥
no_openers o b fs t x e w m n kind is opener i =
    i.clean (complaint.complaint (length t + 1) (length t) reasons.Indefinite)
    (subst (λ (y : Mark). OfMark (strict o) (length t) (at_item fs) y (complaint.complaint (length t + 1) (length t) reasons.Indefinite)) (sym is)
    (subst (λ (y : Width). OfMark (strict o) (length t) (at_item fs) (a_head m y n) (complaint.complaint (length t + 1) (length t) reasons.Indefinite)) (sym opener) (refl, refl)))

module _ (o : KeyOrder) (b : Bounds) (gs : List Container) (t x : List ℕ) (e : ItemEventsView) (w : Width) (from : Option (List ℕ)) where
  string_reads : (is_text : Bool) (n : ℕ) → n ≡ 0 → IsBegun (strict o) b gs t x e w (string_kind is_text (Some n)) → (v : Value) × ReadsItem (strict o) b gs t x from from e v
  string_reads is_text n z i =
      let expected = string-expected (strict o) b gs t x e w is_text n i in
      let reads : ReadsPayload b (close gs) (t ++ x) n [] [] from from e = record {
        bytes = [];
        consumed = Consumes-nil from;
        count = sym z;
        are_bytes = tt;
        grows = refl;
        at = at-as b e (t ++ x) ((t ++ x) ++ []) (payload false (string_major is_text) n gs) (close gs) (sym (append-nil (t ++ x))) (ap (λ (k : ℕ). payload false (string_major is_text) k gs) z) expected;
      } in
      (_, (reads-string (strict o) b gs t x e w is_text n i [] from from e reads (λ u. IsUtf8-nil)).0)

  pub leaf_reads : (kind : EventKind) → IsBegun (strict o) b gs t x e w kind → IsLeaf (mark_of w kind) → (v : Value) × ReadsItem (strict o) b gs t x from from e v
  leaf_reads (kinds.Unsigned n) i l = (_, reads-unsigned (strict o) b gs t x e w n from i)
  leaf_reads (kinds.Negative n) i l = (_, reads-negative (strict o) b gs t x e w n from i)
  leaf_reads (kinds.Simple n) i l = (_, reads-simple (strict o) b gs t x e w n from i)
  leaf_reads (kinds.Bytes (Some n)) i l = string_reads false n l i
  leaf_reads (kinds.Text (Some n)) i l = string_reads true n l i
  leaf_reads (kinds.Array (Some n)) i l = (_, array-whole (strict o) b gs t x w n (Some n) _ from from e (starts-array (strict o) b gs t x w (Some n) from e i) (ap Some l))
  leaf_reads (kinds.Map (Some n)) i l = (_, map-whole (strict o) b gs t x w n (Some n) _ from from e (starts-with (strict o) b gs t x w n from e i (λ ks. Unit {0}) tt).0 (ap Some l))
  leaf_reads (kinds.Tag n) i l = absurd l
  leaf_reads (kinds.Bytes None) i l = absurd (no_openers o b gs t x e w majors.Bytes 0 (kinds.Bytes None) refl i.proper i)
  leaf_reads (kinds.Text None) i l = absurd (no_openers o b gs t x e w majors.Text 0 (kinds.Text None) refl i.proper i)
  leaf_reads (kinds.Array None) i l = absurd (no_openers o b gs t x e w majors.Array 0 (kinds.Array None) refl i.proper i)
  leaf_reads (kinds.Map None) i l = absurd (no_openers o b gs t x e w majors.Map 0 (kinds.Map None) refl i.proper i)
  leaf_reads kinds.End i l = absurd (i.item refl)
  leaf_reads _ i l = absurd i.taking

-- ---- a container opens

deeper : (b : Bounds) (fs : List Frame) → length (frames_in fs) < b.depth → (d : ℕ) × (suc (length (from_outside fs) + d) ≡ b.depth)
deeper b fs l = (b.depth - suc (length fs), omega (arith, l, frames_length fs, outside_length fs))

-- it is open, and nothing in it or around it has a complaint
pub record HasOpened (o : KeyOrder) (b : Bounds) (fs : List Frame) (t x : List ℕ) (e : ItemEventsView) (f : Frame) : Type 0 where
  pub are : AreOpen (strict o) b.depth (from_outside (f ∷ fs))
  pub distinct : AreOpenDistinct (strict o) 0 (from_outside (f ∷ fs))
  pub head_is : before f ≡ x
  pub at : IsAt b e (t ++ x) (at_item (frames_in (f ∷ fs)))

module _ (o : KeyOrder) (b : Bounds) (fs : List Frame) (t x : List ℕ) (e : ItemEventsView) (w : Width) (are : AreOpen (strict o) b.depth (from_outside fs)) (distinct : AreOpenDistinct (strict o) 0 (from_outside fs)) (taken : t ≡ bytes_before fs) where
  pub other_opens : (kind : EventKind) → IsBegun (strict o) b (frames_in fs) t x e w kind → IsOther (mark_of w kind) → (f : Frame) × (expected_of f ≡ Member) × HasOpened o b fs t x e f
  other_opens (kinds.Array (Some zero)) begun l = absurd (omega (arith, l))
  other_opens (kinds.Array (Some (suc more))) begun l =
      let i = definite b.depth (frames_in fs) majors.Array w (suc more) x begun.next (proper-definite w begun.proper) begun.taking in
      let f = a_member w no_spellings (zeros more) in
      let d = deeper b fs i.follows.0 in
      let clean : Never (OfCount (strict o) (length (bytes_before fs)) majors.Array w (suc more)) = subst (λ (y : List ℕ). Never (OfCount (strict o) (length y) majors.Array w (suc more))) taken begun.clean in (
        f,
        refl,
        record {
          are = array_opens (strict o) b.depth (from_outside fs) w more d.0 are d.1 (open_or w (suc more) i.holds) clean;
          distinct = distinct_snoc (from_outside fs) f (strict o) 0 (length (bytes_before fs)) (omega arith) distinct (λ c y. y);
          head_is = append-nil (head majors.Array w (0 + suc (spellings_count (zeros more)))) ∙ ap (λ (n : ℕ). head majors.Array w n) (omega (arith, zeros_count more)) ∙ sym i.bytes_are;
          at = at-as b e (t ++ x) (t ++ x) begun.next (at_item (frames_in (f ∷ fs))) refl (i.follows.1 ∙ ap (λ (n : ℕ). at_item (counted n ∷ frames_in fs)) (sym (zeros_count more))) begun.at;
        },
      )
  other_opens (kinds.Tag n) begun l =
      let i = definite b.depth (frames_in fs) majors.Tag w n x begun.next (never-open b.depth (frames_in fs) majors.Tag w n x begun.next tt begun.taking) begun.taking in
      let f = tagged w n in
      let d = deeper b fs i.follows.0 in
      let clean : Never (OfHead (strict o) (length (bytes_before fs)) majors.Tag w n) =
      subst (λ (y : List ℕ). Never (OfHead (strict o) (length y) majors.Tag w n)) taken (λ c g. begun.clean c (head-count (strict o) (length t) majors.Tag w n c (is-definite w n i.holds) g)) in (
        f,
        refl,
        record {
          are = tag_opens (strict o) b.depth (from_outside fs) w n d.0 are d.1 i.holds clean;
          distinct = distinct_snoc (from_outside fs) f (strict o) 0 (length (bytes_before fs)) (omega arith) distinct (λ c y. y);
          head_is = sym i.bytes_are;
          at = at-as b e (t ++ x) (t ++ x) begun.next (at_item (frames_in (f ∷ fs))) refl i.follows.1 begun.at;
        },
      )
  other_opens (kinds.Array None) begun l = absurd (omega (arith, l))
  other_opens _ begun l = absurd l

  pub pairs_open : (kind : EventKind) → IsBegun (strict o) b (frames_in fs) t x e w kind → IsMap (mark_of w kind) → (v : Spelling) × (es : SpelledEntries) × HasOpened o b fs t x e (a_key w no_entries v es)
  pairs_open (kinds.Map (Some zero)) begun l = absurd (omega (arith, l))
  pairs_open (kinds.Map (Some (suc more))) begun l =
      let i = definite b.depth (frames_in fs) majors.Map w (suc more) x begun.next (proper-definite w begun.proper) begun.taking in
      let f = a_key w no_entries zero_item (zero_pairs more) in
      let d = deeper b fs i.follows.0 in
      let clean : Never (OfCount (strict o) (length (bytes_before fs)) majors.Map w (suc more)) = subst (λ (y : List ℕ). Never (OfCount (strict o) (length y) majors.Map w (suc more))) taken begun.clean in
      let twice : suc more + suc more ≡ suc (suc (more + more)) = omega arith in
      let state : expect (suc more + suc more) (frames_in fs) ≡ at_item (frames_in (f ∷ fs)) =
      ap (λ (n : ℕ). expect n (frames_in fs)) twice ∙ ap (λ (n : ℕ). at_item (counted (suc (n + n)) ∷ frames_in fs)) (sym (pairs_count more)) in (
        zero_item,
        zero_pairs more,
        record {
          are = map_opens (strict o) b.depth (from_outside fs) w more d.0 are d.1 (open_or w (suc more) i.holds) clean;
          distinct = distinct_snoc (from_outside fs) f (strict o) 0 (length (bytes_before fs)) (omega arith) distinct (λ c y. y);
          head_is = append-nil (head majors.Map w (0 + suc (entries_count (zero_pairs more)))) ∙ ap (λ (n : ℕ). head majors.Map w n) (omega (arith, pairs_count more)) ∙ sym i.bytes_are;
          at = at-as b e (t ++ x) (t ++ x) begun.next (at_item (frames_in (f ∷ fs))) refl (i.follows.1 ∙ state) begun.at;
        },
      )
  pairs_open (kinds.Map None) begun l = absurd (omega (arith, l))
  pairs_open _ begun l = absurd l
