-- How the open containers change when an item ends in them, whatever is stored of them.
use Rattle.std.proofs.Common.{◌≡◌, ◌≢◌, ℕ, suc, ◌+◌, ◌-◌, ◌≤◌, IsTrue, Option, Some, List, [], ◌∷◌, ◌++◌, length, refl, sym, ap, ◌∙◌, subst, inl, inr, arith, append_assoc, length-append}
use Rattle.cbor_head.specs.Prelude.{Bounds, key_lt, Spelling, Spellings, SpelledEntries, no_spellings, a_spelling, no_entries, entry, spell, spellings_count, entries_count, IsSpelled, depth, rising, Rules, strict, OfCount, OfKey, Complains, refusal}
use Rattle.cbor_head.specs.Complaint as complaint
use Rattle.cbor_head.specs.declared.reason.Reason.TheVariants as reasons
use Rattle.cbor_head.specs.declared.{major.Major.Major, major.Major.TheVariants.Array, major.Major.TheVariants.Map, order.KeyOrder.KeyOrder}
use Rattle.cbor_head.specs.declared.{reason.Refusal.Refusal, width.Width.Width, width.Width.TheVariants.Indefinite}
use Rattle.cbor_machine.specs.NextEvent.{ItemEventsView}
use Rattle.theory_verdicts.specs.Place.{Container, at_item, counted, close, Place, open_at}
use Rattle.theory_verdicts.specs.Frame.{Frame, a_member, a_key, a_content, tagged, with_all, with_entries, keys_onto, plug, before, OfPrefix}
use Rattle.theory_verdicts.specs.OpenMaps.{placed, open_keys, AreDistinct, OfClosed, before_all, AreOpen, AreOpenDistinct}
use Rattle.theory_verdicts.proofs.OpenKeys.{on_keys_split, onto_keys, prefix_apart}
use Rattle.theory_verdicts.proofs.OpenSteps.{before_snoc, distinct_snoc, member_before, content_before, content_keys, map_closes, array_closes, tag_closes, shuts, innermost, member_ends, key_ends, content_ends}
use Rattle.theory_verdicts.proofs.LastKey.{key-fresh, key-falls, last_is}
use Rattle.theory_verdicts.specs.{Judged.IsJudged, Judged.Never, Reading.IsAt, Reading.HasCause, LastKey.last_key}
use Rattle.theory_verdicts.proofs.{Frames.spelled_plug, Frames.depth_plug, Judged.judged_key, OpenMaps.judged_within, Items.whole-cause, Scalars.at-as}
use Rattle.theory_verdicts.proofs.{Steps.at-reached, ParseState.open-is}
use Rattle.cbor_strict.specs.inner.LastKeys.{from_outside, IsFull, HasLength, AreDefinite, still_open, ended_item}
use Rattle.cbor_strict.{specs.inner.OpenItems.frames_in, specs.inner.OpenItems.bytes_before, proofs.KeptEnds.full_bytes}

-- ---- the containers

pub outside_length : (fs : List Frame) → length (from_outside fs) ≡ length fs
outside_length [] = refl
outside_length (f ∷ fs) = omega (arith, outside_length fs, length-append (from_outside fs) (f ∷ []))

pub frames_length : (fs : List Frame) → length (frames_in fs) ≡ length fs
frames_length [] = refl
frames_length (f ∷ fs) = omega (arith, frames_length fs)

pub before_more : (fs : List Frame) (f : Frame) → bytes_before (f ∷ fs) ≡ bytes_before fs ++ before f
before_more fs f = before_snoc (from_outside fs) f

pub before_size : (fs : List Frame) (f : Frame) → length (bytes_before (f ∷ fs)) ≡ length (bytes_before fs) + length (before f)
before_size fs f = ap length (before_more fs f) ∙ length-append (bytes_before fs) (before f)

-- by the strict rules each is of definite length
definite_if : (o : KeyOrder) (at : ℕ) (m : Major) (w : Width) (n : ℕ) → Never (OfCount (strict o) at m w n) → w ≢ Indefinite
definite_if o at m w n h e =
    h (complaint.complaint (at + 1) at reasons.Indefinite) (subst (λ (v : Width). OfCount (strict o) at m v n (complaint.complaint (at + 1) at reasons.Indefinite)) (sym e) (refl, refl))

pub has_length : (o : KeyOrder) (at : ℕ) (f : Frame) → Never (OfClosed (strict o) at f) → HasLength f
has_length o at (a_member w a b) clean = definite_if o at Array w (spellings_count a + suc (spellings_count b)) (λ c x. clean c (inl x))
has_length o at (a_key w a v b) clean = definite_if o at Map w (entries_count a + suc (entries_count b)) (λ c x. clean c (inl x))
has_length o at (a_content w a k b) clean = definite_if o at Map w (entries_count a + suc (entries_count b)) (λ c x. clean c (inl x))
has_length o at (tagged w n) clean = tt

pub definite_of : (o : KeyOrder) (d : ℕ) (fs : List Frame) → AreOpen (strict o) d (from_outside fs) → AreDefinite fs
definite_of o d [] h = tt
definite_of o d (f ∷ fs) h = (has_length o (length (bytes_before fs)) f (innermost (strict o) d (from_outside fs) f h).clean, definite_of o d fs (shuts (strict o) d (from_outside fs) f h))

pub distinct_outer : (fs : List Frame) (f : Frame) (r : Rules) (at to : ℕ) → to ≡ at + length (before_all fs) → AreOpenDistinct r at (fs ++ f ∷ []) → AreOpenDistinct r at fs × AreDistinct r (open_keys to f)
distinct_outer [] f r at to e h = let g : at ≡ to = omega (arith, e) in (tt, subst (λ (k : ℕ). AreDistinct r (open_keys k f)) g h.0)
distinct_outer (g ∷ fs) f r at to e h =
    let i = distinct_outer fs f r (at + length (before g)) to (omega (arith, e, length-append (before g) (before_all fs))) h.1 in
    ((h.0, i.0), i.1)

-- ---- what closes

-- which containers are still open
pub data StaysOpen : List Frame → Type 0 where
  none_open : StaysOpen []
  member_open : (w : Width) (a : Spellings) (t : Spelling) (b : Spellings) (gs : List Frame) → StaysOpen (a_member w a (a_spelling t b) ∷ gs)
  key_open : (w : Width) (a : SpelledEntries) (v : Spelling) (b : SpelledEntries) (gs : List Frame) → StaysOpen (a_key w a v b ∷ gs)
  value_open : (w : Width) (a : SpelledEntries) (k l m : Spelling) (b : SpelledEntries) (gs : List Frame) → StaysOpen (a_content w a k (entry l m b) ∷ gs)

pub stays_open : (fs : List Frame) → StaysOpen (still_open fs)
stays_open [] = none_open
stays_open (a_member w a no_spellings ∷ fs) = stays_open fs
stays_open (a_member w a (a_spelling t b) ∷ fs) = member_open w a t b fs
stays_open (a_key w a v b ∷ fs) = key_open w a v b fs
stays_open (a_content w a k no_entries ∷ fs) = stays_open fs
stays_open (a_content w a k (entry l m b) ∷ fs) = value_open w a k l m b fs
stays_open (tagged w n ∷ fs) = stays_open fs

-- an item that has ended in these containers, in all of which nothing has a complaint
pub record EndsClean (o : KeyOrder) (d : ℕ) (fs : List Frame) (s : Spelling) : Type 0 where
  pub are : AreOpen (strict o) d (from_outside fs)
  pub distinct : AreOpenDistinct (strict o) 0 (from_outside fs)
  pub spelled : IsSpelled s
  pub within : depth s ≤ are.left
  pub clean : Never (Complains (strict o) (length (bytes_before fs)) s)

pub level_back : (o : KeyOrder) (d : ℕ) (f : Frame) (fs : List Frame) (h : AreOpen (strict o) d (from_outside (f ∷ fs))) (out : AreOpen (strict o) d (from_outside fs)) → out.left ≡ suc h.left
level_back o d f fs h out =
    omega (arith, h.levels, out.levels, outside_length fs, outside_length (f ∷ fs))

-- with the innermost, which is full
closes_one : (o : KeyOrder) (d : ℕ) (f : Frame) (fs : List Frame) (s : Spelling) → EndsClean o d (f ∷ fs) s
    → ((at : ℕ) → Never (OfClosed (strict o) at f) → AreDistinct (strict o) (open_keys at f) → Never (Complains (strict o) (at + length (before f)) s) → Never (Complains (strict o) at (plug f s)))
    → EndsClean o d fs (plug f s)
closes_one o d f fs s h step =
    let i = innermost (strict o) d (from_outside fs) f h.are in
    let u = distinct_outer (from_outside fs) f (strict o) 0 (length (bytes_before fs)) (omega arith) h.distinct in
    let deep = depth_plug f s in
    let space = level_back o d f fs h.are (shuts (strict o) d (from_outside fs) f h.are) in
    record {
      are = shuts (strict o) d (from_outside fs) f h.are;
      distinct = u.0;
      spelled = spelled_plug f s i.fits h.spelled;
      within = omega (arith, deep, i.flat, h.within, space);
      clean = step (length (bytes_before fs)) i.clean u.1 (subst (λ (k : ℕ). Never (Complains (strict o) k s)) (before_size fs f) h.clean);
    }

pub ends_closed : (o : KeyOrder) (d : ℕ) (fs : List Frame) (s : Spelling) → EndsClean o d fs s → EndsClean o d (still_open fs) (ended_item fs s)
ends_closed o d (a_member w a no_spellings ∷ fs) s h =
    ends_closed o d fs (plug (a_member w a no_spellings) s) (closes_one o d (a_member w a no_spellings) fs s h (λ at clean distinct none. array_closes w a s (strict o) at clean none))
ends_closed o d (a_content w a k no_entries ∷ fs) s h =
    ends_closed o d fs (plug (a_content w a k no_entries) s) (closes_one o d (a_content w a k no_entries) fs s h (λ at clean distinct none. map_closes w a k s (strict o) at clean distinct none))
ends_closed o d (tagged w n ∷ fs) s h =
    ends_closed o d fs (plug (tagged w n) s) (closes_one o d (tagged w n) fs s h (λ at clean distinct none. tag_closes w n s (strict o) at clean none))
ends_closed o d _ s h = h

same_one : (f : Frame) (fs : List Frame) (s : Spelling) → IsFull f → bytes_before (f ∷ fs) ++ spell s ≡ bytes_before fs ++ spell (plug f s)
same_one f fs s full =
    ap (λ (x : List ℕ). x ++ spell s) (before_more fs f) ∙ append_assoc (bytes_before fs) (before f) (spell s) ∙ ap (λ (x : List ℕ). bytes_before fs ++ x) (sym (full_bytes f s full))

pub ended_bytes : (fs : List Frame) (s : Spelling) → AreDefinite fs → bytes_before fs ++ spell s ≡ bytes_before (still_open fs) ++ spell (ended_item fs s)
ended_bytes (a_member w a no_spellings ∷ fs) s d = same_one (a_member w a no_spellings) fs s d.0 ∙ ended_bytes fs (plug (a_member w a no_spellings) s) d.1
ended_bytes (a_content w a k no_entries ∷ fs) s d = same_one (a_content w a k no_entries) fs s d.0 ∙ ended_bytes fs (plug (a_content w a k no_entries) s) d.1
ended_bytes (tagged w n ∷ fs) s d = same_one (tagged w n) fs s tt ∙ ended_bytes fs (plug (tagged w n) s) d.1
ended_bytes _ s d = refl

pub ended_state : (fs : List Frame) → close (frames_in fs) ≡ close (frames_in (still_open fs))
ended_state (a_member w a no_spellings ∷ fs) = ended_state fs
ended_state (a_content w a k no_entries ∷ fs) = ended_state fs
ended_state (tagged w n ∷ fs) = ended_state fs
ended_state _ = refl

-- ---- how many the events count

pub value_state : (n : ℕ) (xs : List Container) → close (counted (suc n + suc n) ∷ xs) ≡ at_item (counted (n + suc n) ∷ xs)
value_state n xs = let e : suc n + suc n ≡ suc (n + suc n) = omega arith in ap (λ (k : ℕ). close (counted k ∷ xs)) e

still_count : (fs : List Frame) → length (open_at (close (frames_in fs))) ≡ length (still_open fs)
still_count [] = refl
still_count (a_member w a no_spellings ∷ fs) = still_count fs
still_count (a_member w a (a_spelling t b) ∷ fs) = ap suc (frames_length fs)
still_count (a_key w a v b ∷ fs) = ap suc (frames_length fs)
still_count (a_content w a k no_entries ∷ fs) = still_count fs
still_count (a_content w a k (entry l m b) ∷ fs) = ap (λ (q : Place). length (open_at q)) (value_state (entries_count b) (frames_in fs)) ∙ ap suc (frames_length fs)
still_count (tagged w n ∷ fs) = still_count fs

pub open_so : (b : Bounds) (e : ItemEventsView) (t : List ℕ) (fs : List Frame) → (a : IsAt b e t (close (frames_in fs))) → e.machine.open_count ≡ length (still_open fs)
open_so b e t fs a = open-is b e t (close (frames_in fs)) a ∙ still_count fs

-- ---- after what closed

-- the item that ended, in the containers that stay open
pub record EndsIn (o : KeyOrder) (b : Bounds) (e : ItemEventsView) (t : List ℕ) (gs : List Frame) (s : Spelling) : Type 0 where
  pub clean : EndsClean o b.depth gs s
  pub taken : t ≡ bytes_before gs ++ spell s
  pub at : IsAt b e t (close (frames_in gs))

-- an item is expected in these
pub record IsExpectedIn (o : KeyOrder) (b : Bounds) (e : ItemEventsView) (t : List ℕ) (gs : List Frame) : Type 0 where
  pub are : AreOpen (strict o) b.depth (from_outside gs)
  pub distinct : AreOpenDistinct (strict o) 0 (from_outside gs)
  pub taken : t ≡ bytes_before gs
  pub at : IsAt b e t (at_item (frames_in gs))

pub ends_in : (o : KeyOrder) (b : Bounds) (e : ItemEventsView) (t : List ℕ) (fs : List Frame) (s : Spelling) → EndsIn o b e t fs s → EndsIn o b e t (still_open fs) (ended_item fs s)
ends_in o b e t fs s h = record {
  clean = ends_closed o b.depth fs s h.clean;
  taken = h.taken ∙ ended_bytes fs s (definite_of o b.depth fs h.clean.are);
  at = at-as b e t t (close (frames_in fs)) (close (frames_in (still_open fs))) refl (ended_state fs) h.at;
}

module _ (o : KeyOrder) (b : Bounds) (e : ItemEventsView) (t : List ℕ) (gs : List Frame) (s : Spelling) where
  -- where the next begins
  next_bytes : (f : Frame) → EndsIn o b e t (f ∷ gs) s → t ≡ bytes_before gs ++ (before f ++ spell s)
  next_bytes f m = m.taken ∙ ap (λ (y : List ℕ). y ++ spell s) (before_more gs f) ∙ append_assoc (bytes_before gs) (before f) (spell s)

  clean_in : (f : Frame) → EndsIn o b e t (f ∷ gs) s → Never (Complains (strict o) (length (bytes_before gs) + length (before f)) s)
  clean_in f m = subst (λ (n : ℕ). Never (Complains (strict o) n s)) (before_size gs f) m.clean.clean

  pub member_next : (w : Width) (a : Spellings) (x : Spelling) (c : Spellings) → EndsIn o b e t (a_member w a (a_spelling x c) ∷ gs) s → IsExpectedIn o b e t (a_member w (with_all a (a_spelling s no_spellings)) c ∷ gs)
  member_next w a x c m =
      let f = a_member w a (a_spelling x c) in
      let g = a_member w (with_all a (a_spelling s no_spellings)) c in
      let u = distinct_outer (from_outside gs) f (strict o) 0 (length (bytes_before gs)) (omega arith) m.clean.distinct in
      record {
        are = member_ends (strict o) b.depth (from_outside gs) w a s x c m.clean.are m.clean.spelled m.clean.within (clean_in f m);
        distinct = distinct_snoc (from_outside gs) g (strict o) 0 (length (bytes_before gs)) (omega arith) u.0 (λ q h. h);
        taken = next_bytes f m ∙ ap (λ (y : List ℕ). bytes_before gs ++ y) (sym (member_before w a s x c)) ∙ sym (before_more gs g);
        at = m.at;
      }

  pub value_next : (w : Width) (a : SpelledEntries) (key l x : Spelling) (c : SpelledEntries) → EndsIn o b e t (a_content w a key (entry l x c) ∷ gs) s → IsExpectedIn o b e t (a_key w (with_entries a (entry key s no_entries)) x c ∷ gs)
  value_next w a key l x c m =
      let f = a_content w a key (entry l x c) in
      let g = a_key w (with_entries a (entry key s no_entries)) x c in
      let at = length (bytes_before gs) in
      let u = distinct_outer (from_outside gs) f (strict o) 0 at (omega arith) m.clean.distinct in
      record {
        are = content_ends (strict o) b.depth (from_outside gs) w a key s l x c m.clean.are m.clean.spelled m.clean.within (clean_in f m);
        distinct = distinct_snoc (from_outside gs) g (strict o) 0 at (omega arith) u.0 (subst (AreDistinct (strict o)) (sym (content_keys w a key s l x x c at)) u.1);
        taken = next_bytes f m ∙ ap (λ (y : List ℕ). bytes_before gs ++ y) (sym (content_before w a key s l x x c)) ∙ sym (before_more gs g);
        at = at-as b e t t (close (frames_in (f ∷ gs))) (at_item (frames_in (g ∷ gs))) refl (value_state (entries_count c) (frames_in gs) ∙ ap (λ (n : ℕ). at_item (counted n ∷ frames_in gs)) (omega arith)) m.at;
      }

  pub key_next : (w : Width) (a : SpelledEntries) (v : Spelling) (c : SpelledEntries) → EndsIn o b e t (a_key w a v c ∷ gs) s → IsTrue (key_lt o (last_key a) (spell s)) → IsExpectedIn o b e t (a_content w a s c ∷ gs)
  key_next w a v c m rises =
      let f = a_key w a v c in
      let g = a_content w a s c in
      let at = length (bytes_before gs) in
      let u = distinct_outer (from_outside gs) f (strict o) 0 at (omega arith) m.clean.distinct in
      let fresh = key-fresh o (at + length (before f)) s (spell s) refl (keys_onto [] a) (last_key a) (last_is a) rises in
      record {
        are = key_ends (strict o) b.depth (from_outside gs) w a s v c m.clean.are m.clean.spelled m.clean.within (clean_in f m);
        distinct = distinct_snoc (from_outside gs) g (strict o) 0 at (omega arith) u.0 (λ q y. elim (on_keys_split (open_keys at f) (placed (at + length (before f)) s ∷ []) (strict o) [] q y) [
          | inl z ↦ u.1 q z
          | inr (inl z) ↦ fresh q (subst (λ (ks : List Spelling). OfKey (rising o) (at + length (before f)) ks s q) (onto_keys a _ []) z)
          | inr (inr z) ↦ absurd z
        ]);
        taken = next_bytes f m ∙ sym (before_more gs g);
        at = m.at;
      }

  -- the whole is refused because of the key
  pub key_refused : (w : Width) (a : SpelledEntries) (v : Spelling) (c : SpelledEntries) (to : Option (List ℕ)) (f : Refusal) → EndsIn o b e t (a_key w a v c ∷ gs) s → ¬ IsTrue (key_lt o (last_key a) (spell s))
      → f ≡ refusal reasons.KeyOrder (length (bytes_before (a_key w a v c ∷ gs))) (length t) → HasCause (strict o) b [] [] t to f
  key_refused w a v c to f m falls_so is =
      let fr = a_key w a v c in
      let at = length (bytes_before gs) in
      let to0 = at + length (before fr) in
      let bytes_are = next_bytes fr m in
      let count_all : length t ≡ to0 + length (spell s) = omega (arith, ap length bytes_are, length-append (bytes_before gs) (before fr ++ spell s), length-append (before fr) (spell s)) in
      let cmp = complaint.complaint (to0 + length (spell s)) to0 reasons.KeyOrder in
      let i = innermost (strict o) b.depth (from_outside gs) fr m.clean.are in
      let out = shuts (strict o) b.depth (from_outside gs) fr m.clean.are in
      let u = distinct_outer (from_outside gs) fr (strict o) 0 at (omega arith) m.clean.distinct in
      let falls = key-falls o to0 s (spell s) refl (keys_onto [] a) (last_key a) (last_is a) falls_so in
      let none : Never (OfPrefix (strict o) at fr) = λ q y. elim (prefix_apart fr (strict o) at q y) [ inl z ↦ i.clean q z | inr z ↦ u.1 q z ] in
      let one = judged_key fr (strict o) at m.clean.are.left i.fits i.flat none s cmp m.clean.spelled m.clean.within (clean_in fr m) falls in
      let whole = judged_within (from_outside gs) (strict o) 0 at out.left (before fr ++ spell s) (Some cmp) (omega arith) out.path out.closed u.0
      (subst (λ (n : ℕ). IsJudged (strict o) at n (before fr ++ spell s) (Some cmp)) (sym (level_back o b.depth fr gs m.clean.are out)) one) in
      let level : length (from_outside gs) + out.left ≡ b.depth - 0 = (let levels = out.levels in omega (arith, levels)) in
      whole-cause (strict o) b [] [] t to f cmp (subst (λ (n : ℕ). IsJudged (strict o) 0 n t (Some cmp)) level (subst (λ (x : List ℕ). IsJudged (strict o) 0 (length (from_outside gs) + out.left) x (Some cmp)) (sym bytes_are) whole))
      (is ∙ ap (λ (n : ℕ). refusal reasons.KeyOrder n (length t)) (before_size gs fr) ∙ ap (refusal reasons.KeyOrder to0) count_all) (at-reached b e t (close (frames_in (fr ∷ gs))) m.at).within
