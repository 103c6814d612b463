-- How the end of an item changes the open containers.
use Rattle.std.proofs.Common.{◌≡◌, ℕ, ◌+◌, ◌-◌, ◌≤◌, IsTrue, Option, List, [], ◌∷◌, ◌++◌, length, sym, ap, ◌∙◌, subst, inl, inr, arith, append-nil, length-append}
use Rattle.std.proofs.lemmas.Bool.{cases_Bool}
use Rattle.cbor_head.specs.Prelude.{Bounds, key_lt, Spelling, Spellings, SpelledEntries, no_spellings, a_spelling, no_entries, entry, spell, strict, Complains, refusal}
use Rattle.cbor_head.specs.declared.reason.Reason.TheVariants as reasons
use Rattle.cbor_head.specs.declared.{limits.TheConstants.MAX_DEPTH, order.KeyOrder.KeyOrder, reason.Refusal.Refusal, width.Width.Width}
use Rattle.cbor_machine.specs.NextEvent.{ItemEventsView}
use Rattle.theory_verdicts.specs.Frame.{Frame, a_member, a_key, a_content, with_all, with_entries, before}
use Rattle.theory_verdicts.specs.{Place.close, LastKey.last_key, Reading.AreRefused, Reading.IsAt, OpenMaps.AreOpen, OpenMaps.AreOpenDistinct, Judged.Never}
use Rattle.theory_verdicts.proofs.OpenSteps.{member_before}
use Rattle.cbor_strict.specs.declared.last_keys.Expected.TheVariants.{Member, Key, Value}
use Rattle.cbor_strict.specs.inner.LastKeys.{view_value, from_outside, within_key, kept_bytes, expected_of, IsKept, AreDefinite, HasKeyEnded, still_open, ended_item}
use Rattle.cbor_strict.specs.inner.OpenItems.{frames_in, bytes_before, AreOpenClean, Agrees, HasEnded}
use Rattle.cbor_strict.proofs.OpenEnds.{definite_of, outside_length, StaysOpen, none_open, member_open, key_open, value_open, stays_open, EndsClean, open_so, EndsIn, IsExpectedIn, ends_in, member_next, value_next, key_next, key_refused}
use Rattle.cbor_strict.specs.declared.{last_keys.Expected.Expected, last_keys.LastKeys.LastKeys, open_items.OpenItems.OpenItems}
use Rattle.cbor_strict.proofs.{KeptKeys.kept_if_in, KeptKeys.kept_if_out, KeptEnds.kept_keys}

-- ---- after what closed

-- the item that ended, in the containers that stay open
pub record HasClosed (o : KeyOrder) (b : Bounds) (e : ItemEventsView) (t : List ℕ) (keys : LastKeys) (gs : List Frame) (s : Spelling) : Type 0 where
  pub clean : EndsClean o b.depth gs s
  pub kept : IsKept (view_value keys) gs (spell s)
  pub taken : t ≡ bytes_before gs ++ spell s
  pub at : IsAt b e t (close (frames_in gs))
  pub stays : StaysOpen gs

-- what the code knows as it closes
pub record Closing (old : OpenItems) (keys : LastKeys) (count taken : ℕ) (expected : Expected) : Type 0 where
  pub closed : (fs : List Frame) (s : Spelling) → IsKept (view_value old.keys) fs (spell s) → AreDefinite fs → length (still_open fs) ≡ count → IsKept (view_value keys) (still_open fs) (spell (ended_item fs s))
  pub some : (f : Frame) (fs : List Frame) (p : List ℕ) → IsKept (view_value keys) (f ∷ fs) p → expected ≡ expected_of f
  pub none : (p : List ℕ) → IsKept (view_value keys) [] p → expected ≡ Member

pub has_closed : (old : OpenItems) (keys : LastKeys) (count taken : ℕ) (expected : Expected) (b : Bounds) (e : ItemEventsView) (t : List ℕ) → Closing old keys count taken expected → (h : HasEnded old b e t) → count ≡ e.machine.open_count
    → HasClosed old.order b e t keys (still_open h.fs) (ended_item h.fs h.item)
has_closed old keys count taken expected b e t k h c =
    let definite = definite_of old.order b.depth h.fs h.around.are in
    let m = ends_in old.order b e t h.fs h.item (record {
      clean = record { are = h.around.are; distinct = h.around.distinct; spelled = h.spelled; within = omega (arith, h.within, h.around.are.levels, outside_length h.fs); clean = h.clean };
      taken = h.taken;
      at = h.at;
    }) in
    record { clean = m.clean; kept = k.closed h.fs h.item h.kept definite (sym (open_so b e t h.fs h.at) ∙ sym c); taken = m.taken; at = m.at; stays = stays_open h.fs }

ends_of : (o : KeyOrder) (b : Bounds) (e : ItemEventsView) (t : List ℕ) (keys : LastKeys) (gs : List Frame) (s : Spelling) → HasClosed o b e t keys gs s → EndsIn o b e t gs s
ends_of o b e t keys gs s m = record { clean = m.clean; taken = m.taken; at = m.at }

levels_small : (o : KeyOrder) (b : Bounds) (e : ItemEventsView) (t : List ℕ) (keys : LastKeys) (gs : List Frame) (s : Spelling) → HasClosed o b e t keys gs s → length gs ≤ b.depth
levels_small o b e t keys gs s h = let levels = h.clean.are.levels in omega (arith, levels, outside_length gs)

pub few_keys : (o : KeyOrder) (b : Bounds) (e : ItemEventsView) (t : List ℕ) (keys : LastKeys) (gs : List Frame) (s : Spelling) → HasClosed o b e t keys gs s → (view_value keys).open_keys ≤ MAX_DEPTH
few_keys o b e t keys gs s h = omega (arith, kept_keys (view_value keys) gs (spell s) h.kept, levels_small o b e t keys gs s h, h.at.limits.0)

pub around_as : (o : KeyOrder) (new : OpenItems) (b : Bounds) (gs : List Frame) → o ≡ new.order → AreOpen (strict o) b.depth (from_outside gs) → AreOpenDistinct (strict o) 0 (from_outside gs) → AreOpenClean new b gs
around_as o new b gs e x y =
    record { are = subst (λ (p : KeyOrder). AreOpen (strict p) b.depth (from_outside gs)) e x; distinct = subst (λ (p : KeyOrder). AreOpenDistinct (strict p) 0 (from_outside gs)) e y }

agrees_expected : (o : KeyOrder) (new : OpenItems) (b : Bounds) (e : ItemEventsView) (t : List ℕ) (gs : List Frame) → IsExpectedIn o b e t gs → o ≡ new.order → new.left ≡ 0 → IsKept (view_value new.keys) gs [] → Agrees new b e t
agrees_expected o new b e t gs d same none kept = inl (record { fs = gs; around = around_as o new b gs same d.are d.distinct; none = none; kept = kept; taken = d.taken; at = d.at })

-- a member
member_kept : (k : LastKeys) (w : Width) (a : Spellings) (s t : Spelling) (b : Spellings) (fs : List Frame) → IsKept (view_value k) (a_member w a (a_spelling t b) ∷ fs) (spell s)
    → IsKept (view_value k) (a_member w (with_all a (a_spelling s no_spellings)) b ∷ fs) []
member_kept k w a s t b fs h =
    let f = a_member w a (a_spelling t b) in
    let g = a_member w (with_all a (a_spelling s no_spellings)) b in
    record {
      levels = h.levels;
      spans = h.spans;
      bytes = h.bytes ∙ elim (cases_Bool (within_key fs)) [
        | inl i ↦ kept_if_in f fs (spell s) i ∙ ap (kept_bytes fs) (sym (member_before w a s t b) ∙ sym (append-nil (before g))) ∙ sym (kept_if_in g fs [] i)
        | inr i ↦ kept_if_out f fs (spell s) i ∙ sym (kept_if_out g fs [] i)
      ];
      open_keys = h.open_keys;
    }

-- nothing more, or a member
pub closed_member : (old new : OpenItems) (keys : LastKeys) (count taken : ℕ) (expected : Expected) (b : Bounds) (e : ItemEventsView) (t : List ℕ) → Closing old keys count taken expected → (h : HasEnded old b e t)
    → count ≡ e.machine.open_count → expected ≡ Member → new.order ≡ old.order → new.keys ≡ keys → new.left ≡ old.left → Agrees new b e t
closed_member old new keys count taken expected b e t k h c d same_order same_keys same_left = go (still_open h.fs) (ended_item h.fs h.item) (has_closed old keys count taken expected b e t k h c).stays (has_closed old keys count taken expected b e t k h c)
  where
    left_so : new.left ≡ 0
    left_so = same_left ∙ h.none

    go : (gs : List Frame) (s : Spelling) → StaysOpen gs → HasClosed old.order b e t keys gs s → Agrees new b e t
    go [] s none_open m =
        inr (inr (record {
          item = s;
          spelled = m.clean.spelled;
          within = omega (arith, m.clean.are.levels, m.clean.within);
          clean = subst (λ (o : KeyOrder). Never (Complains (strict o) 0 s)) (sym same_order) m.clean.clean;
          none = left_so;
          kept = subst (λ (x : LastKeys). IsKept (view_value x) [] (spell s)) (sym same_keys) m.kept;
          taken = m.taken;
          at = m.at;
        }))
    go _ s (member_open w a x c2 gs) m =
        let g = a_member w (with_all a (a_spelling s no_spellings)) c2 in
        agrees_expected old.order new b e t (g ∷ gs) (member_next old.order b e t gs s w a x c2 (ends_of old.order b e t keys _ s m)) (sym same_order) left_so
        (subst (λ (y : LastKeys). IsKept (view_value y) (g ∷ gs) []) (sym same_keys) (member_kept keys w a s x c2 gs m.kept))
    go _ s (key_open w a v c2 gs) m = absurd (cc (sym d ∙ k.some (a_key w a v c2) gs (spell s) m.kept))
    go _ s (value_open w a key l x c2 gs) m = absurd (cc (sym d ∙ k.some (a_content w a key (entry l x c2)) gs (spell s) m.kept))

-- a value
pub after_value : (old new : OpenItems) (keys last : LastKeys) (count taken : ℕ) (expected : Expected) (b : Bounds) (e : ItemEventsView) (t : List ℕ) → Closing old keys count taken expected → (h : HasEnded old b e t)
    → count ≡ e.machine.open_count → expected ≡ Value → new.order ≡ old.order → new.keys ≡ last → new.left ≡ old.left
    → ((w : Width) (a : SpelledEntries) (k s l m : Spelling) (b : SpelledEntries) (fs : List Frame) → IsKept (view_value keys) (a_content w a k (entry l m b) ∷ fs) (spell s) → IsKept (view_value last) (a_key w (with_entries a (entry k s no_entries)) m b ∷ fs) [])
    → Agrees new b e t
after_value old new keys last count taken expected b e t k h c d same_order same_keys same_left step = go (still_open h.fs) (ended_item h.fs h.item) (has_closed old keys count taken expected b e t k h c).stays (has_closed old keys count taken expected b e t k h c)
  where
    go : (gs : List Frame) (s : Spelling) → StaysOpen gs → HasClosed old.order b e t keys gs s → Agrees new b e t
    go [] s none_open m = absurd (cc (sym d ∙ k.none (spell s) m.kept))
    go _ s (member_open w a x c2 gs) m = absurd (cc (sym d ∙ k.some (a_member w a (a_spelling x c2)) gs (spell s) m.kept))
    go _ s (key_open w a v c2 gs) m = absurd (cc (sym d ∙ k.some (a_key w a v c2) gs (spell s) m.kept))
    go _ s (value_open w a key l x c2 gs) m =
        let g = a_key w (with_entries a (entry key s no_entries)) x c2 in
        agrees_expected old.order new b e t (g ∷ gs) (value_next old.order b e t gs s w a key l x c2 (ends_of old.order b e t keys _ s m)) (sym same_order) (same_left ∙ h.none)
        (subst (λ (y : LastKeys). IsKept (view_value y) (g ∷ gs) []) (sym same_keys) (step w a key s l x c2 gs m.kept))

-- a key, and nothing else
pub by_key : (old : OpenItems) (keys : LastKeys) (count taken : ℕ) (expected : Expected) (b : Bounds) (e : ItemEventsView) (t : List ℕ) → Closing old keys count taken expected → (h : HasEnded old b e t) → count ≡ e.machine.open_count → expected ≡ Key → (P : Type 0)
    → ((w : Width) (a : SpelledEntries) (v : Spelling) (others : SpelledEntries) (gs : List Frame) (s : Spelling) → HasClosed old.order b e t keys (a_key w a v others ∷ gs) s → P) → P
by_key old keys count taken expected b e t k h c d P of_key = go (still_open h.fs) (ended_item h.fs h.item) (has_closed old keys count taken expected b e t k h c).stays (has_closed old keys count taken expected b e t k h c)
  where
    go : (gs : List Frame) (s : Spelling) → StaysOpen gs → HasClosed old.order b e t keys gs s → P
    go [] s none_open m = absurd (cc (sym d ∙ k.none (spell s) m.kept))
    go _ s (member_open w a x others gs) m = absurd (cc (sym d ∙ k.some (a_member w a (a_spelling x others)) gs (spell s) m.kept))
    go _ s (value_open w a key l x others gs) m = absurd (cc (sym d ∙ k.some (a_content w a key (entry l x others)) gs (spell s) m.kept))
    go _ s (key_open w a v others gs) m = of_key w a v others gs s m

pub key_has_ended : (old : OpenItems) (keys : LastKeys) (count taken : ℕ) (expected : Expected) (b : Bounds) (e : ItemEventsView) (t : List ℕ) → Closing old keys count taken expected → (h : HasEnded old b e t)
    → count ≡ e.machine.open_count → expected ≡ Key → HasKeyEnded (view_value keys)
key_has_ended old keys count taken expected b e t k h c d = by_key old keys count taken expected b e t k h c d (HasKeyEnded (view_value keys)) (λ w a v others gs s m. record { w = w; a = a; v = v; b = others; fs = gs; s = s; kept = m.kept })

pub after_key : (old new : OpenItems) (keys last : LastKeys) (count taken : ℕ) (expected : Expected) (b : Bounds) (e : ItemEventsView) (t : List ℕ) → Closing old keys count taken expected → (h : HasEnded old b e t)
    → count ≡ e.machine.open_count → expected ≡ Key → new.order ≡ old.order → new.keys ≡ last → new.left ≡ old.left
    → ((w : Width) (a : SpelledEntries) (v : Spelling) (b : SpelledEntries) (fs : List Frame) (s : Spelling) → IsKept (view_value keys) (a_key w a v b ∷ fs) (spell s) → IsTrue (key_lt old.order (last_key a) (spell s)) × IsKept (view_value last) (a_content w a s b ∷ fs) [])
    → Agrees new b e t
after_key old new keys last count taken expected b e t k h c d same_order same_keys same_left step = by_key old keys count taken expected b e t k h c d (Agrees new b e t)
    (λ w a v others gs s m.
    let r = step w a v others gs s m.kept in
    agrees_expected old.order new b e t (a_content w a s others ∷ gs) (key_next old.order b e t gs s w a v others (ends_of old.order b e t keys _ s m) r.0) (sym same_order) (same_left ∙ h.none)
    (subst (λ (y : LastKeys). IsKept (view_value y) (a_content w a s others ∷ gs) []) (sym same_keys) r.1))

pub refused_key : (old : OpenItems) (keys : LastKeys) (count taken size : ℕ) (expected : Expected) (b : Bounds) (e : ItemEventsView) (t : List ℕ) (f : Refusal) → Closing old keys count taken expected → (h : HasEnded old b e t)
    → count ≡ e.machine.open_count → taken ≡ e.machine.taken → expected ≡ Key
    → ((w : Width) (a : SpelledEntries) (v : Spelling) (b : SpelledEntries) (fs : List Frame) (s : Spelling) → IsKept (view_value keys) (a_key w a v b ∷ fs) (spell s) → ¬ IsTrue (key_lt old.order (last_key a) (spell s)) × (size ≡ length (spell s)))
    → (size ≤ taken) × ((to : Option (List ℕ)) → f ≡ refusal reasons.KeyOrder (taken - size) taken → AreRefused (strict old.order) b t to f)
refused_key old keys count taken size expected b e t f k h c all d step = by_key old keys count taken expected b e t k h c d ((size ≤ taken) × ((to : Option (List ℕ)) → f ≡ refusal reasons.KeyOrder (taken - size) taken → AreRefused (strict old.order) b t to f))
    (λ w a v others gs s m.
    let fr = a_key w a v others in
    let r = step w a v others gs s m.kept in
    let read : taken ≡ length t = all ∙ m.at.agrees.agrees.taken in
    let count_all : taken ≡ length (bytes_before (fr ∷ gs)) + length (spell s) = read ∙ ap length m.taken ∙ length-append (bytes_before (fr ∷ gs)) (spell s) in
    let place : taken - size ≡ length (bytes_before (fr ∷ gs)) = omega (arith, count_all, r.1) in (
      omega (arith, count_all, r.1),
      λ to is. record {
        read = ap (λ (x : Refusal). x.read) is ∙ read;
        why = inr (key_refused old.order b e t gs s w a v others to f (ends_of old.order b e t keys _ s m) r.0 (is ∙ ap (λ (n : ℕ). refusal reasons.KeyOrder n taken) place ∙ ap (refusal reasons.KeyOrder (length (bytes_before (fr ∷ gs)))) read));
      },
    ))
