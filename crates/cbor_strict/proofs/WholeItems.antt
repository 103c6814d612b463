-- An item that was read at once: how it ends, and what is known of it.
use Rattle.std.proofs.Common.{◌≡◌, ℕ, ◌-◌, ◌≤◌, List, [], ◌∷◌, ◌++◌, length, take, refl, sym, ap, ◌∙◌, inl, inr, arith, append-nil, length-append, length-take, take-take}
use Rattle.std.proofs.Math.Seq.{take-append_seam}
use Rattle.cbor_head.specs.Prelude.{Bounds, Spelling, no_spellings, no_entries, spell, depth, IsItem, strict, Complaint, Complains, OfKinds}
use Rattle.cbor_head.specs.declared.{keys.Keys.TheVariants.IntegersAndTexts, order.KeyOrder.KeyOrder}
use Rattle.theory_values.proofs.{Accepted.accepts_exactly, BasicKeys.none_of_kinds, BasicKeys.has_basic_keys, Theorems.strict_exactly}
use Rattle.cbor_machine.specs.NextEvent.{ItemEventsView}
use Rattle.theory_verdicts.specs.Frame.{Frame, a_member, a_key, a_content, tagged}
use Rattle.theory_verdicts.specs.{Readers.IsRead, Place.close, Reading.IsAt, Kinds.IsKeyExpected, Kinds.KeepsToKinds}
use Rattle.theory_verdicts.proofs.{Accepted.item_within_limit, KindFrames.expected_last, KindFrames.keeps_on}
use Rattle.cbor_strict.specs.inner.LastKeys.{view_value, from_outside, keys_around, still_open}
use Rattle.cbor_strict.specs.inner.OpenItems.{frames_in, bytes_before, IsItemExpected, HasEnded, Agrees}
use Rattle.cbor_strict.specs.declared.last_keys.Expected.TheVariants.{Member, Key, Value}
use Rattle.cbor_strict.proofs.OpenStates.{Closing, has_closed, by_key, closed_member}
use Rattle.cbor_strict.specs.declared.{last_keys.Expected.Expected, last_keys.LastKeys.LastKeys, open_items.OpenItems.OpenItems}
use Rattle.cbor_strict.proofs.{KeptKeys.kept_out, KeptKeys.in_no_key, OpenBegins.expects, OpenEnds.frames_length}

-- ---- it is in no key

-- no more keys are open around what stays open
still_around : (fs : List Frame) → keys_around (still_open fs) ≤ keys_around fs
still_around [] = omega arith
still_around (a_member w a no_spellings ∷ fs) = still_around fs
still_around (a_content w a k no_entries ∷ fs) = still_around fs
still_around (tagged w n ∷ fs) = still_around fs
still_around _ = omega arith

-- so no key ends with it
no_key_ends : (old : OpenItems) (keys : LastKeys) (count taken : ℕ) (expected : Expected) (b : Bounds) (e : ItemEventsView) (t : List ℕ) → Closing old keys count taken expected → (h : HasEnded old b e t)
    → count ≡ e.machine.open_count → (view_value old.keys).open_keys ≡ 0 → expected ≡ Key → ⊥
no_key_ends old keys count taken expected b e t k h c outside d =
    let m = has_closed old keys count taken expected b e t k h c in
    by_key old keys count taken expected b e t k h c d ⊥
    (λ w a v others gs s n. omega (arith, n.kept.open_keys, m.kept.open_keys, still_around h.fs, h.kept.open_keys, outside))

-- nothing more, or a member
pub after_whole : (old new : OpenItems) (keys : LastKeys) (count : ℕ) (expected : Expected) (b : Bounds) (e : ItemEventsView) (t : List ℕ) → Closing old keys count 0 expected → (h : HasEnded old b e t)
    → count ≡ e.machine.open_count → (view_value old.keys).open_keys ≡ 0 → (expected ≡ Value → ⊥) → new.order ≡ old.order → new.keys ≡ keys → new.left ≡ old.left → Agrees new b e t
after_whole old new keys count expected b e t k h c outside other same_order same_keys same_left = go expected refl
  where
    go : (x : Expected) → expected ≡ x → Agrees new b e t
    go Member is = closed_member old new keys count 0 expected b e t k h c is same_order same_keys same_left
    go Value is = absurd (other is)
    go Key is = absurd (no_key_ends old keys count 0 expected b e t k h c outside is)

-- no key is expected where it begins
pub no_key_here : (fs : List Frame) → keys_around fs ≡ 0 → IsKeyExpected (from_outside fs) → ⊥
no_key_here [] e h = h
no_key_here (a_key w a v b ∷ fs) e h = absurd (omega (arith, e))
no_key_here (a_member w a b ∷ fs) e h = (expected_last (from_outside fs) (a_member w a b)).0 h
no_key_here (a_content w a k b ∷ fs) e h = (expected_last (from_outside fs) (a_content w a k b)).0 h
no_key_here (tagged w n ∷ fs) e h = (expected_last (from_outside fs) (tagged w n)).0 h

-- ---- what the check of a slice says of it

pub record IsCanonicalItem (limits : Bounds) (o : KeyOrder) (bytes : List ℕ) : Type 0 where
  pub item : Spelling
  pub is : IsItem limits.depth item bytes
  pub within : length bytes ≤ limits.bytes
  pub clean : (at : ℕ) (c : Complaint) → Complains (strict o) at item c → ⊥
  pub kinds : limits.keys ≡ IntegersAndTexts → (at : ℕ) (c : Complaint) → OfKinds at item c → ⊥

pub canonical_item : (limits : Bounds) (o : KeyOrder) (input : List ℕ) (count : ℕ) → IsRead limits (strict o) input count → (count ≤ length input) × IsCanonicalItem limits o (take count input)
canonical_item limits o input count r =
    let s = r.item in
    let h = (accepts_exactly limits (strict o) input s).0 r.verdict in
    let clean = (strict_exactly o s h.1.0 (λ c x. h.2 c (inl x))).canonical_is.clean in
    let fits : length (spell s) ≤ limits.bytes = item_within_limit limits (strict o) input s r.verdict in
    let within : length (spell s) ≤ length input = omega (arith, ap length h.1.2, length-append (spell s) h.0, length-take limits.bytes input) in
    let are : spell s ≡ take count input =
    sym (take-append_seam (spell s) h.0) ∙ ap (take (length (spell s))) h.1.2 ∙ take-take (length (spell s)) limits.bytes input fits ∙ ap (λ (n : ℕ). take n input) (sym r.size) in (
      omega (arith, within, r.size),
      record {
        item = s;
        is = record { spelled = h.1.0; within = h.1.1; bytes_are = are };
        within = omega (arith, fits, ap length are);
        clean = clean;
        kinds = λ asked. none_of_kinds s (has_basic_keys s 0 (λ c x. h.2 c (inr (refl, asked, x))));
      },
    )

module _ (v : OpenItems) (b : Bounds) (e : ItemEventsView) (t : List ℕ) (h : IsItemExpected v b e t) (outside : (view_value v.keys).open_keys ≡ 0) (limits : Bounds) (bs : List ℕ) (i : IsCanonicalItem limits v.order bs) (deep : limits.depth ≡ b.depth - length h.fs) where
  around : keys_around h.fs ≡ 0
  around = sym h.kept.open_keys ∙ outside

  -- where the item is expected, it has ended
  pub item_ended : (new : ItemEventsView) → IsAt b new (t ++ bs) (close (frames_in h.fs)) → HasEnded v b new (t ++ bs)
  item_ended new at = record {
    fs = h.fs;
    around = h.around;
    item = i.item;
    spelled = i.is.spelled;
    within = omega (arith, i.is.within, deep);
    clean = i.clean (length (bytes_before h.fs));
    none = h.none;
    kept = record {
      levels = h.kept.levels;
      spans = h.kept.spans;
      bytes = h.kept.bytes ∙ kept_out h.fs [] (spell i.item) (in_no_key h.fs around);
      open_keys = h.kept.open_keys;
    };
    taken = ap (λ (x : List ℕ). x ++ bs) h.taken ∙ ap (λ (x : List ℕ). bytes_before h.fs ++ x) (sym i.is.bytes_are);
    at = at;
  }

  -- and no key of another kind has begun
  pub item_keeps : limits.keys ≡ b.keys → KeepsToKinds b (strict v.order) t → KeepsToKinds b (strict v.order) (t ++ bs)
  item_keeps same keeps asked =
      let x = expects v b t h.fs h.around h.taken keeps in
      let space = x.space in
      keeps_on b (strict v.order) x.around i.item bs [] i.is.spelled (omega (arith, i.is.within, deep, space, frames_length h.fs)) (i.is.bytes_are ∙ sym (append-nil bs))
      (λ asks expected some. absurd (no_key_here h.fs around expected)) (λ c o. absurd (i.kinds (same ∙ asked.1) (length t) c o)) keeps asked
