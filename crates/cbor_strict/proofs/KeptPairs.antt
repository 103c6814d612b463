-- What is stored of the keys of a map as its keys and values end.
use Rattle.std.proofs.Common.{◌≡◌, ℕ, suc, ◌+◌, ◌-◌, ◌<◌, ◌≤◌, Bool, true, false, List, [], ◌∷◌, ◌++◌, length, take, drop, refl, sym, ap, ◌∙◌, inl, inr, arith, append_assoc, append-nil, if◌then◌else◌, slice_index_or, slice_set, length-append}
use Rattle.std.proofs.Math.Seq.{take-append_seam, drop-append_seam, set-append_seam}
use Rattle.std.proofs.lemmas.{Bool.cases_Bool, List.get_or_push}
use Rattle.cbor_head.specs.Prelude.{head, Spelling, SpelledEntries, no_entries, entry, spell, spell_entries, entries_count}
use Rattle.cbor_head.specs.declared.{major.Major.TheVariants.Map, width.Width.Width}
use Rattle.theory_verdicts.specs.Frame.{Frame, a_key, a_content, with_entries, before}
use Rattle.theory_verdicts.{specs.LastKey.last_key, proofs.OpenSteps.content_before, proofs.OpenSteps.pair_count, proofs.LastKey.last_key_with}
use Rattle.cbor_strict.specs.inner.LastKeys.{KeysView, within_key, keys_around, levels_of, before_last, kept_bytes, kept_before, span, spans_of, with_last, with_key, IsKept, HasKeyEnded}
use Rattle.cbor_strict.proofs.KeptKeys.{in_some_key, in_no_key, kept_if_in, kept_if_out, kept_in_key, kept_size, span_is}
use Rattle.cbor_strict.specs.declared.last_keys.{Expected.TheVariants.Key, Expected.TheVariants.Value, KeySpan.KeySpan}

-- ---- keys

pub before_last_with : (a : SpelledEntries) (k v : Spelling) → before_last (with_entries a (entry k v no_entries)) ≡ length (spell_entries a)
before_last_with no_entries k v = refl
before_last_with (entry l m no_entries) k v = omega (arith, length-append (spell l ++ spell m) [])
before_last_with (entry l m (entry n o es)) k v = omega (arith, before_last_with (entry n o es) k v, length-append (spell l ++ spell m) (spell_entries (entry n o es)))

-- where the last key is among the pairs
pub record LastPlace (a : SpelledEntries) : Type 0 where
  pub prefix : List ℕ
  pub rest : List ℕ
  pub splits : spell_entries a ≡ prefix ++ (last_key a ++ rest)
  pub size : length prefix ≡ before_last a

pub last_place : (a : SpelledEntries) → LastPlace a
last_place no_entries = record { prefix = []; rest = []; splits = refl; size = refl }
last_place (entry k v no_entries) = record { prefix = []; rest = spell v ++ []; splits = append_assoc (spell k) (spell v) []; size = refl }
last_place (entry k v (entry l w es)) =
    let p = last_place (entry l w es) in
    record {
      prefix = (spell k ++ spell v) ++ p.prefix;
      rest = p.rest;
      splits = ap (λ (x : List ℕ). (spell k ++ spell v) ++ x) p.splits ∙ sym (append_assoc (spell k ++ spell v) p.prefix (last_key (entry l w es) ++ p.rest));
      size = omega (arith, length-append (spell k ++ spell v) p.prefix, p.size);
    }

-- where the last key and the one that ended are in the buffer
record KeyPlaces (bytes last key : List ℕ) (sp : KeySpan) : Type 0 where
  pub prefix : List ℕ
  pub between : List ℕ
  pub splits : bytes ≡ prefix ++ (last ++ (between ++ key))
  pub from : sp.from ≡ length prefix
  pub to : sp.to ≡ length prefix + length last
  pub next : sp.next ≡ length prefix + length last + length between

compared_last : (bytes last key : List ℕ) (sp : KeySpan) → KeyPlaces bytes last key sp → take (sp.to - sp.from) (drop sp.from bytes) ≡ last
compared_last bytes last key sp p =
    let size : sp.to - sp.from ≡ length last = omega (arith, p.to, p.from) in
    ap (λ (n : ℕ). take n (drop sp.from bytes)) size ∙ ap (λ (n : ℕ). take (length last) (drop n bytes)) p.from ∙ ap (λ (y : List ℕ). take (length last) (drop (length p.prefix) y)) p.splits
    ∙ ap (take (length last)) (drop-append_seam p.prefix (last ++ (p.between ++ key))) ∙ take-append_seam last (p.between ++ key)

compared_key : (bytes last key : List ℕ) (sp : KeySpan) → KeyPlaces bytes last key sp → drop sp.next bytes ≡ key
compared_key bytes last key sp p =
    let all : bytes ≡ ((p.prefix ++ last) ++ p.between) ++ key =
    p.splits ∙ sym (append_assoc p.prefix last (p.between ++ key)) ∙ sym (append_assoc (p.prefix ++ last) p.between key) in
    let size : sp.next ≡ length ((p.prefix ++ last) ++ p.between) = omega (arith, p.next, length-append (p.prefix ++ last) p.between, length-append p.prefix last) in
    ap (λ (n : ℕ). drop n bytes) size ∙ ap (drop (length ((p.prefix ++ last) ++ p.between))) all ∙ drop-append_seam ((p.prefix ++ last) ++ p.between) key

places_bounds : (bytes last key : List ℕ) (sp : KeySpan) → KeyPlaces bytes last key sp → (sp.from ≤ sp.to) × (sp.to ≤ sp.next) × (sp.next + length key ≡ length bytes)
places_bounds bytes last key sp p =
    let all = ap length p.splits ∙ length-append p.prefix (last ++ (p.between ++ key)) in
    (omega (arith, p.from, p.to), omega (arith, p.to, p.next), omega (arith, p.next, all, length-append last (p.between ++ key), length-append p.between key))

-- the last of a list is replaced
module _ {A : Type 0} where
  pub last_is : (xs ys : List A) (x y : A) → xs ≡ ys ++ y ∷ [] → x ≡ slice_index_or xs (length xs - 1) x → x ≡ y
  last_is xs ys x y e g =
      let size : length ys ≡ length xs - 1 = omega (arith, ap length e, length-append ys (y ∷ [])) in
      g ∙ ap (λ (zs : List A). slice_index_or zs (length xs - 1) x) e ∙ get_or_push ys y x (length xs - 1) size

  pub put_last : (xs ys : List A) (x y : A) → xs ≡ ys ++ x ∷ [] → slice_set xs (length xs - 1) y ≡ ys ++ y ∷ []
  put_last xs ys x y e =
      let size : length xs - 1 ≡ length ys = omega (arith, ap length e, length-append ys (x ∷ [])) in
      ap (λ (n : ℕ). slice_set xs n y) size ∙ ap (λ (zs : List A). slice_set zs (length ys) y) e ∙ set-append_seam ys x [] y

module _ (k : KeysView) (w : Width) (a : SpelledEntries) (v : Spelling) (b : SpelledEntries) (fs : List Frame) (s : Spelling) (sp : KeySpan) (h : IsKept k (a_key w a v b ∷ fs) (spell s))
    (g : sp ≡ slice_index_or k.spans (length k.spans - 1) sp) where
  abbrev f : Frame
  f = a_key w a v b

  abbrev hd : List ℕ
  hd = head Map w (entries_count a + suc (entries_count b))

  abbrev sp_of : Bool → KeySpan
  sp_of i =
      span (kept_before fs + (if i then length hd + before_last a else 0)) (kept_before fs + (if i then length hd + before_last a else 0) + length (last_key a))
      (kept_before fs + (if i then length (hd ++ spell_entries a) else length (last_key a)))

  span_so : sp ≡ sp_of (within_key fs)
  span_so = last_is k.spans (spans_of fs) sp (sp_of (within_key fs)) h.spans g

  places_in : within_key fs ≡ true → KeyPlaces k.bytes (last_key a) (spell s) sp
  places_in i =
      let q = last_place a in
      let x = kept_bytes fs [] in
      let is : sp ≡ sp_of true = span_so ∙ ap sp_of i in
      let all : hd ++ spell_entries a ≡ (hd ++ q.prefix) ++ (last_key a ++ q.rest) = ap (λ (y : List ℕ). hd ++ y) q.splits ∙ sym (append_assoc hd q.prefix (last_key a ++ q.rest)) in
      let size = ap length all ∙ length-append (hd ++ q.prefix) (last_key a ++ q.rest) in
      let prefix : length (x ++ (hd ++ q.prefix)) ≡ kept_before fs + (length hd + before_last a) = omega (arith, length-append x (hd ++ q.prefix), length-append hd q.prefix, q.size) in
      record {
        prefix = x ++ (hd ++ q.prefix);
        between = q.rest;
        splits = h.bytes ∙ kept_if_in f fs (spell s) i ∙ kept_in_key fs [] (before f ++ spell s) i ∙ ap (λ (y : List ℕ). x ++ (y ++ spell s)) all
            ∙ ap (λ (y : List ℕ). x ++ y) (append_assoc (hd ++ q.prefix) (last_key a ++ q.rest) (spell s) ∙ ap (λ (y : List ℕ). (hd ++ q.prefix) ++ y) (append_assoc (last_key a) q.rest (spell s)))
            ∙ sym (append_assoc x (hd ++ q.prefix) (last_key a ++ (q.rest ++ spell s)));
        from = ap (λ (y : KeySpan). y.from) is ∙ sym prefix;
        to = ap (λ (y : KeySpan). y.to) is ∙ ap (λ (n : ℕ). n + length (last_key a)) (sym prefix);
        next = ap (λ (y : KeySpan). y.next) is ∙ omega (arith, prefix, size, length-append (hd ++ q.prefix) (last_key a ++ q.rest), length-append hd q.prefix, length-append (last_key a) q.rest, q.size);
      }

  places_out : within_key fs ≡ false → KeyPlaces k.bytes (last_key a) (spell s) sp
  places_out i =
      let is : sp ≡ sp_of false = span_so ∙ ap sp_of i in
      record {
        prefix = kept_bytes fs [];
        between = [];
        splits = h.bytes ∙ kept_if_out f fs (spell s) i;
        from = ap (λ (y : KeySpan). y.from) is ∙ omega arith;
        to = ap (λ (y : KeySpan). y.to) is ∙ omega arith;
        next = ap (λ (y : KeySpan). y.next) is ∙ omega arith;
      }

  key_places : KeyPlaces k.bytes (last_key a) (spell s) sp
  key_places = elim (cases_Bool (within_key fs)) [ inl i ↦ places_in i | inr i ↦ places_out i ]

  pub key_bounds : (sp.from ≤ sp.to) × (sp.to ≤ sp.next) × (sp.next + length (spell s) ≡ length k.bytes)
  key_bounds = places_bounds k.bytes (last_key a) (spell s) sp key_places

  -- what is compared as the key ends
  pub key_compared : (take (sp.to - sp.from) (drop sp.from k.bytes) ≡ last_key a) × (drop sp.next k.bytes ≡ spell s)
  key_compared = (compared_last k.bytes (last_key a) (spell s) sp key_places, compared_key k.bytes (last_key a) (spell s) sp key_places)

  -- the key replaces it
  abbrev of_value : Bool → KeySpan
  of_value q =
      let from = kept_before fs + (if q then length (hd ++ spell_entries a) else 0) in
      span from (from + length (spell s)) (from + length (spell s))

  spans_put : (q : Bool) (from to : ℕ) → within_key fs ≡ q → span from to to ≡ of_value q → slice_set k.spans (length k.spans - 1) (span from to to) ≡ spans_of fs ++ of_value (within_key fs) ∷ []
  spans_put q from to i is =
      put_last k.spans (spans_of fs) (sp_of (within_key fs)) (span from to to) h.spans ∙ ap (λ (x : KeySpan). spans_of fs ++ x ∷ []) (is ∙ ap of_value (sym i))

  levels_put : slice_set k.levels (length k.levels - 1) Value ≡ levels_of fs ++ Value ∷ []
  levels_put = put_last k.levels (levels_of fs) Key Value h.levels

  pub key_put_in : (keys : ℕ) → keys + 1 ≡ k.open_keys → 0 < keys → IsKept (with_key (record k { open_keys = keys }) sp.next) (a_content w a s b ∷ fs) []
  key_put_in keys less inside =
      let so : keys ≡ keys_around fs = omega (arith, less, h.open_keys) in
      let i : within_key fs ≡ true = in_some_key fs (omega (arith, so, inside)) in
      let from : sp.next ≡ kept_before fs + length (hd ++ spell_entries a) = ap (λ (y : KeySpan). y.next) (span_so ∙ ap sp_of i) in
      let to : length k.bytes ≡ kept_before fs + length (hd ++ spell_entries a) + length (spell s) = omega (arith, key_bounds.2, from) in
      record {
        levels = levels_put;
        spans = spans_put true sp.next (length k.bytes) i (span_is sp.next (length k.bytes) (length k.bytes) _ _ _ from to to);
        bytes = h.bytes ∙ kept_if_in f fs (spell s) i ∙ ap (kept_bytes fs) (sym (append-nil (before f ++ spell s))) ∙ sym (kept_if_in (a_content w a s b) fs [] i);
        open_keys = so;
      }

  pub key_put_out : (keys : ℕ) (bytes : List ℕ) → keys + 1 ≡ k.open_keys → keys ≡ 0 → bytes ≡ take sp.from k.bytes ++ drop sp.next k.bytes
      → IsKept (with_key (record k { bytes = bytes; open_keys = keys }) sp.from) (a_content w a s b ∷ fs) []
  key_put_out keys bytes less outside made =
      let so : keys ≡ keys_around fs = omega (arith, less, h.open_keys) in
      let i : within_key fs ≡ false = in_no_key fs (sym so ∙ outside) in
      let is : sp ≡ sp_of false = span_so ∙ ap sp_of i in
      let x = kept_bytes fs [] in
      let from : sp.from ≡ kept_before fs + 0 = ap (λ (y : KeySpan). y.from) is in
      let start : sp.from ≡ length x = omega (arith, from) in
      let there : sp.next ≡ length (x ++ last_key a) = ap (λ (y : KeySpan). y.next) is ∙ sym (length-append x (last_key a)) in
      let all : k.bytes ≡ x ++ (last_key a ++ spell s) = h.bytes ∙ kept_if_out f fs (spell s) i in
      let kept : bytes ≡ x ++ spell s =
      made ∙ ap (λ (n : ℕ). take n k.bytes ++ drop sp.next k.bytes) start ∙ ap (λ (n : ℕ). take (length x) k.bytes ++ drop n k.bytes) there
      ∙ ap (λ (y : List ℕ). take (length x) y ++ drop (length (x ++ last_key a)) k.bytes) all ∙ ap (λ (y : List ℕ). y ++ drop (length (x ++ last_key a)) k.bytes) (take-append_seam x (last_key a ++ spell s))
      ∙ ap (λ (y : List ℕ). x ++ drop (length (x ++ last_key a)) y) (all ∙ sym (append_assoc x (last_key a) (spell s))) ∙ ap (λ (y : List ℕ). x ++ y) (drop-append_seam (x ++ last_key a) (spell s)) in
      let to : length bytes ≡ kept_before fs + 0 + length (spell s) = omega (arith, ap length kept, length-append x (spell s)) in
      record {
        levels = levels_put;
        spans = spans_put false sp.from (length bytes) i (span_is sp.from (length bytes) (length bytes) _ _ _ from to to);
        bytes = kept ∙ ap (λ (y : List ℕ). x ++ y) (sym (append-nil (spell s))) ∙ sym (kept_if_out (a_content w a s b) fs [] i);
        open_keys = so;
      }

pub ended_bounds : (k : KeysView) (r : HasKeyEnded k) (sp : KeySpan) → sp ≡ slice_index_or k.spans (length k.spans - 1) sp → (sp.from ≤ sp.to) × (sp.to ≤ sp.next) × (sp.next ≤ length k.bytes)
ended_bounds k r sp g =
    let q = key_bounds k r.w r.a r.v r.b r.fs r.s sp r.kept g in
    (q.0, q.1, omega (arith, q.2))

-- ---- values

module _ (k : KeysView) (w : Width) (a : SpelledEntries) (key s n m : Spelling) (b : SpelledEntries) (fs : List Frame) (sp : KeySpan) (h : IsKept k (a_content w a key (entry n m b) ∷ fs) (spell s))
    (g : sp ≡ slice_index_or k.spans (length k.spans - 1) sp) where
  abbrev more : SpelledEntries
  more = with_entries a (entry key s no_entries)

  abbrev old_frame : Frame
  old_frame = a_content w a key (entry n m b)

  abbrev new_frame : Frame
  new_frame = a_key w more m b

  abbrev old_head : List ℕ
  old_head = head Map w (entries_count a + suc (suc (entries_count b)))

  abbrev new_head : List ℕ
  new_head = head Map w (entries_count more + suc (entries_count b))

  abbrev old_span : Bool → KeySpan
  old_span q =
      let from = kept_before fs + (if q then length (old_head ++ spell_entries a) else 0) in
      span from (from + length (spell key)) (from + length (spell key))

  abbrev new_span : Bool → KeySpan
  new_span q =
      let from = kept_before fs + (if q then length new_head + before_last more else 0) in
      span from (from + length (last_key more)) (kept_before fs + (if q then length (before new_frame) else length (last_key more)))

  old_span_so : sp ≡ old_span (within_key fs)
  old_span_so = last_is k.spans (spans_of fs) sp (old_span (within_key fs)) h.spans g

  last_so : last_key more ≡ spell key
  last_so = last_key_with a key s

  bytes_so : before new_frame ≡ before old_frame ++ spell s
  bytes_so = content_before w a key s n m m b

  span_in : within_key fs ≡ true → span sp.from sp.to (length k.bytes) ≡ new_span true
  span_in i =
      let is : sp ≡ old_span true = old_span_so ∙ ap old_span i in
      let heads : length new_head ≡ length old_head = ap (λ (j : ℕ). length (head Map w j)) (pair_count a key s (entries_count b)) in
      let from : sp.from ≡ kept_before fs + (length new_head + before_last more) = ap (λ (y : KeySpan). y.from) is ∙ omega (arith, length-append old_head (spell_entries a), heads, before_last_with a key s) in
      let all : length k.bytes ≡ kept_before fs + length (before new_frame) = ap length (h.bytes ∙ kept_if_in old_frame fs (spell s) i ∙ ap (kept_bytes fs) (sym bytes_so)) ∙ kept_size fs (before new_frame) i in
      span_is sp.from sp.to (length k.bytes) _ _ _ from (omega (arith, ap (λ (y : KeySpan). y.to) is, ap (λ (y : KeySpan). y.from) is, from, ap length last_so)) all

  span_out : within_key fs ≡ false → span sp.from sp.to (length k.bytes) ≡ new_span false
  span_out i =
      let is : sp ≡ old_span false = old_span_so ∙ ap old_span i in
      let x = kept_bytes fs [] in
      let all : length k.bytes ≡ kept_before fs + length (last_key more) =
      ap length (h.bytes ∙ kept_if_out old_frame fs (spell s) i) ∙ length-append x (spell key ++ []) ∙ ap (λ (y : List ℕ). length x + length y) (append-nil (spell key) ∙ sym last_so) in
      span_is sp.from sp.to (length k.bytes) _ _ _ (ap (λ (y : KeySpan). y.from) is) (ap (λ (y : KeySpan). y.to) is ∙ ap (λ (y : List ℕ). kept_before fs + 0 + length y) (sym last_so)) all

  span_put : span sp.from sp.to (length k.bytes) ≡ new_span (within_key fs)
  span_put = elim (cases_Bool (within_key fs)) [ inl i ↦ span_in i ∙ ap new_span (sym i) | inr i ↦ span_out i ∙ ap new_span (sym i) ]

  bytes_put : kept_bytes (old_frame ∷ fs) (spell s) ≡ kept_bytes (new_frame ∷ fs) []
  bytes_put = elim (cases_Bool (within_key fs)) [
    | inl i ↦ kept_if_in old_frame fs (spell s) i ∙ ap (kept_bytes fs) (sym bytes_so ∙ sym (append-nil (before new_frame))) ∙ sym (kept_if_in new_frame fs [] i)
    | inr i ↦ kept_if_out old_frame fs (spell s) i ∙ ap (λ (y : List ℕ). kept_bytes fs [] ++ (y ++ [])) (sym last_so) ∙ sym (kept_if_out new_frame fs [] i)
  ]

  -- another key is expected
  pub value_ends : (new : KeysView) (here : ℕ) → here ≡ length k.bytes → new ≡ with_last k Key (span sp.from sp.to here) → IsKept (record new { open_keys = new.open_keys + 1 }) (new_frame ∷ fs) []
  value_ends new here at is = record {
    levels = ap (λ (x : KeysView). x.levels) is ∙ put_last k.levels (levels_of fs) Value Key h.levels;
    spans = ap (λ (x : KeysView). x.spans) is ∙ put_last k.spans (spans_of fs) (old_span (within_key fs)) (span sp.from sp.to here) h.spans
        ∙ ap (λ (x : KeySpan). spans_of fs ++ x ∷ []) (ap (span sp.from sp.to) at ∙ span_put);
    bytes = ap (λ (x : KeysView). x.bytes) is ∙ h.bytes ∙ bytes_put;
    open_keys = omega (arith, ap (λ (x : KeysView). x.open_keys) is, h.open_keys);
  }
