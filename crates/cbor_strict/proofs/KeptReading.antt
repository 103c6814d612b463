-- What the strict reader stores, by the items that start with the bytes it read.
use Rattle.std.proofs.Common.{◌≡◌, ℕ, zero, suc, ◌+◌, ◌-◌, ◌<◌, ◌≤◌, Bool, true, false, true≢false, List, [], ◌∷◌, ◌++◌, length, refl, sym, ap, ◌∙◌, subst, inl, inr, arith, append_assoc, append-nil, nat_lt, if◌then◌else◌, length-append, lt-ltb}
use Rattle.std.proofs.lemmas.Bool.{lt-leb, cases_Bool}
use Rattle.cbor_head.specs.Prelude.{head, Holds, Bounds, Spelling, Spellings, SpelledEntries, bytes, text, array, a_map, tag, no_spellings, a_spelling, no_entries, entry, spell, spell_entries, spellings_count, entries_count, IsSpelled, strict}
use Rattle.cbor_head.specs.declared.major.Major.TheVariants.{Bytes, Text, Array, Map, Tag}
use Rattle.cbor_head.specs.{Laws.StartsWith, declared.major.Major.Major, declared.order.KeyOrder.KeyOrder, declared.width.Width.Width}
use Rattle.theory_values.proofs.Parts.{major, width, count, head_of, body, parts, holds_of, one_head, as_bytes, as_text}
use Rattle.theory_values.proofs.ReadLaws.{unique, length_spell, length_head, holds_or_open}
use Rattle.cbor_machine.specs.NextEvent.{ItemEventsView}
use Rattle.theory_verdicts.specs.Place.{Container, Place, at_item, payload, open_at}
use Rattle.theory_verdicts.specs.Frame.{Frame, a_member, a_key, a_content, tagged, before}
use Rattle.theory_verdicts.specs.OpenMaps.{before_all, ArePath, AreClosedClean}
use Rattle.theory_verdicts.{specs.LastKey.last_key, specs.Reading.IsAt, specs.Reading.string_major, proofs.ParseState.open-is, proofs.OpenSteps.before_snoc}
use Rattle.cbor_strict.specs.KeptKeys.{open_maps, open_maps_in, key_bytes, key_bytes_in, key_bytes_in_entries}
use Rattle.cbor_strict.specs.inner.LastKeys.{view_value, from_outside, is_key, within_key, complete_key, kept_bytes, spans_of, spans_in, IsKept}
use Rattle.cbor_strict.specs.inner.OpenItems.{frames_in, bytes_before, Agrees}
use Rattle.cbor_strict.proofs.KeptCounts.{Counts, AreAround, path_counts, past}
use Rattle.cbor_strict.proofs.FrameCounts.{one_map, map_count, keys_size}
use Rattle.cbor_strict.specs.{declared.open_items.OpenItems.OpenItems, inner.StrictEvents.IsLittle}
use Rattle.cbor_strict.proofs.{KeptKeys.kept_if_in, KeptKeys.kept_if_out, KeptEnds.kept_levels, KeptEnds.kept_spans}
use Rattle.cbor_strict.proofs.OpenEnds.{frames_length, has_length}

-- ---- before an item

keys_zero_entries : (es : SpelledEntries) (n : ℕ) → n ≡ 0 → key_bytes_in_entries n 0 es ≡ 0
keys_zero_entries no_entries n e = refl
keys_zero_entries (entry k v es) n e = rw (lt-ltb n (length (spell k)) (omega (arith, e, length_spell k))) (omega (arith, e))

either_none : (b : Bool) (n : ℕ) → n ≡ 0 → (if b then n else 0) ≡ 0
either_none true n e = e
either_none false n e = refl

mutual
  none_yet : (s : Spelling) (n : ℕ) → n ≡ 0 → (open_maps n s ≡ 0) × (key_bytes n s ≡ 0)
  none_yet (array w ss) n e = none_yet_in ss (n - length (head Array w (spellings_count ss))) (omega (arith, e))
  none_yet (a_map w es) n e = (
    rw (lt-leb (length (head Map w (entries_count es))) n (omega (arith, e, length_head Map w (entries_count es)))) refl,
    either_none (nat_lt n (length (spell (a_map w es)))) _ (keys_zero_entries es (n - length (head Map w (entries_count es))) (omega (arith, e))),
  )
  none_yet (tag w k s) n e = none_yet s (n - length (head Tag w k)) (omega (arith, e))
  none_yet _ n e = (refl, refl)

  none_yet_in : (ss : Spellings) (n : ℕ) → n ≡ 0 → (open_maps_in n ss ≡ 0) × (key_bytes_in n ss ≡ 0)
  none_yet_in no_spellings n e = (refl, refl)
  none_yet_in (a_spelling s ss) n e = rw (lt-ltb n (length (spell s)) (omega (arith, e, length_spell s))) (none_yet s n e)

none_read : (s : Spelling) (x u : List ℕ) → IsSpelled s → spell s ++ x ≡ [] ++ u → Counts s 0 0 0
none_read s x u i e = record { within = omega (arith, length_spell s); maps_are = (none_yet s 0 refl).0; keys_are = (none_yet s 0 refl).1 }

-- ---- within a string

in_string : (is_text : Bool) (w : Width) (n : ℕ) (q : List ℕ) → Holds w n → length q < n → (s : Spelling) (x u : List ℕ) → IsSpelled s → spell s ++ x ≡ (head (string_major is_text) w n ++ q) ++ u → Counts s (length (head (string_major is_text) w n ++ q)) 0 0
in_string true w n q h l s x u i e =
    let o = one_head Text w n (major s) (width s) (count s) (holds_or_open w n h) (holds_of s i) (q ++ u) (body s ++ x)
    (sym (append_assoc (head Text w n) q u) ∙ sym e ∙ ap (λ (y : List ℕ). y ++ x) (parts s) ∙ append_assoc (head_of s) (body s) x) in
    let z = as_text s w n i h o.0 in
    let short : length (head Text w n ++ q) < length (spell (text w z.0)) =
    omega (arith, l, z.2, ap (λ (k : ℕ). length (head Text w k)) z.2, length-append (head Text w n) q, length-append (head Text w (length z.0)) z.0) in
    subst (λ (t : Spelling). Counts t (length (head Text w n ++ q)) 0 0) (sym z.1) (record { within = short; maps_are = refl; keys_are = refl })
in_string false w n q h l s x u i e =
    let o = one_head Bytes w n (major s) (width s) (count s) (holds_or_open w n h) (holds_of s i) (q ++ u) (body s ++ x)
    (sym (append_assoc (head Bytes w n) q u) ∙ sym e ∙ ap (λ (y : List ℕ). y ++ x) (parts s) ∙ append_assoc (head_of s) (body s) x) in
    let z = as_bytes s w n i h o.0 in
    let short : length (head Bytes w n ++ q) < length (spell (bytes w z.0)) =
    omega (arith, l, z.2, ap (λ (k : ℕ). length (head Bytes w k)) z.2, length-append (head Bytes w n) q, length-append (head Bytes w (length z.0)) z.0) in
    subst (λ (t : Spelling). Counts t (length (head Bytes w n ++ q)) 0 0) (sym z.1) (record { within = short; maps_are = refl; keys_are = refl })

-- ---- the containers, from the innermost out

count_snoc : (gs : List Frame) (f : Frame) → map_count (gs ++ f ∷ []) ≡ map_count gs + one_map f
count_snoc [] f = omega arith
count_snoc (g ∷ gs) f = omega (arith, count_snoc gs f)

one_span : (f : Frame) (fs : List Frame) → length (spans_in f fs) ≡ one_map f
one_span (a_member w a b) fs = refl
one_span _ fs = refl

spans_counted : (fs : List Frame) → length (spans_of fs) ≡ map_count (from_outside fs)
spans_counted [] = refl
spans_counted (f ∷ fs) = omega (arith, length-append (spans_of fs) (spans_in f fs), one_span f fs, spans_counted fs, count_snoc (from_outside fs) f)

key_snoc : (gs : List Frame) (f : Frame) → within_key (gs ++ f ∷ []) ≡ within_key (f ∷ gs)
key_snoc [] f = refl
key_snoc (a_key w a v b ∷ gs) f = sym (one_true (is_key f))
  where
    one_true : (b : Bool) → (if b then true else true) ≡ true
    one_true true = refl
    one_true false = refl
key_snoc (_ ∷ gs) f = key_snoc gs f

key_outside : (fs : List Frame) → within_key (from_outside fs) ≡ within_key fs
key_outside [] = refl
key_outside (f ∷ fs) = key_snoc (from_outside fs) f ∙ ap (λ (b : Bool). if is_key f then true else b) (key_outside fs)

snoc_in : (gs : List Frame) (f : Frame) (n : ℕ) → within_key gs ≡ true → keys_size (gs ++ f ∷ []) n ≡ keys_size gs (length (before f) + n)
snoc_in [] f n e = absurd (true≢false (sym e))
snoc_in (a_key w a v b ∷ gs) f n e = omega (arith, ap length (before_snoc gs f), length-append (before_all gs) (before f))
snoc_in (a_member w a b ∷ gs) f n e = ap (λ (x : ℕ). 0 + x) (snoc_in gs f n e)
snoc_in (a_content w a k b ∷ gs) f n e = ap (λ (x : ℕ). length (spell k) + x) (snoc_in gs f n e)
snoc_in (tagged w k ∷ gs) f n e = ap (λ (x : ℕ). 0 + x) (snoc_in gs f n e)

snoc_out : (gs : List Frame) (f : Frame) (n : ℕ) → within_key gs ≡ false → keys_size (gs ++ f ∷ []) n ≡ keys_size gs 0 + (length (complete_key f) + (if is_key f then n else 0))
snoc_out [] f n e = alone (is_key f) (length (complete_key f))
  where
    alone : (b : Bool) (k : ℕ) → k + (if b then 0 + n else 0) ≡ 0 + (k + (if b then n else 0))
    alone true k = omega arith
    alone false k = omega arith
snoc_out (a_key w a v b ∷ gs) f n e = absurd (true≢false e)
snoc_out (_ ∷ gs) f n e = omega (arith, snoc_out gs f n e)

size_if : (f : Frame) (p : List ℕ) → length (if is_key f then p else []) ≡ (if is_key f then length p else 0)
size_if (a_key w a v b) p = refl
size_if _ p = refl

kept_counted : (fs : List Frame) (p : List ℕ) → length (kept_bytes fs p) ≡ keys_size (from_outside fs) (length p)
kept_counted [] p = refl
kept_counted (f ∷ fs) p = elim (cases_Bool (within_key fs)) [
  | inl i ↦
      ap length (kept_if_in f fs p i) ∙ kept_counted fs (before f ++ p) ∙ ap (keys_size (from_outside fs)) (length-append (before f) p)
      ∙ sym (snoc_in (from_outside fs) f (length p) (key_outside fs ∙ i))
  | inr i ↦
      let last = if is_key f then p else [] in
      ap length (kept_if_out f fs p i) ∙ length-append (kept_bytes fs []) (complete_key f ++ last)
      ∙ ap (λ (x : ℕ). x + length (complete_key f ++ last)) (kept_counted fs [])
      ∙ ap (λ (x : ℕ). keys_size (from_outside fs) 0 + x) (length-append (complete_key f) last ∙ ap (λ (x : ℕ). length (complete_key f) + x) (size_if f p))
      ∙ sym (snoc_out (from_outside fs) f (length p) (key_outside fs ∙ i))
]

around_path : (o : KeyOrder) (left : ℕ) (gs : List Frame) (at : ℕ) → ArePath left gs → AreClosedClean (strict o) at gs → AreAround gs
around_path o left [] at h c = tt
around_path o left (f ∷ gs) at h c = (h.0, has_length o at f c.0, around_path o left gs _ h.2 c.1)

-- ---- what is stored

pub record IsCounted (v : OpenItems) (n : ℕ) (s : Spelling) : Type 0 where
  pub spans : length (view_value v.keys).spans ≡ open_maps n s
  pub kept : length (view_value v.keys).bytes ≡ key_bytes n s

counted_by : (v : OpenItems) (fs : List Frame) (p t : List ℕ) (s : Spelling) → IsKept (view_value v.keys) fs p → t ≡ bytes_before fs ++ p → Counts s (length (bytes_before fs ++ p)) (map_count (from_outside fs)) (keys_size (from_outside fs) (length p))
    → IsCounted v (length t) s
counted_by v fs p t s k e c = record {
  spans = ap length k.spans ∙ spans_counted fs ∙ sym c.maps_are ∙ ap (λ (x : List ℕ). open_maps (length x) s) (sym e);
  kept = ap length k.bytes ∙ kept_counted fs p ∙ sym c.keys_are ∙ ap (λ (x : List ℕ). key_bytes (length x) s) (sym e);
}

pub agrees_counted : (v : OpenItems) (b : Bounds) (e : ItemEventsView) (t : List ℕ) → Agrees v b e t → (s : Spelling) → StartsWith b.depth s t → IsCounted v (length t) s
agrees_counted v b e t (inl h) s i =
    let none = append-nil (bytes_before h.fs) in
    counted_by v h.fs [] t s h.kept (h.taken ∙ sym none)
    (path_counts (from_outside h.fs) [] (around_path v.order h.around.are.left (from_outside h.fs) 0 h.around.are.path h.around.are.closed) none_read s [] i.0 i.1.spelled
    (append-nil (spell s) ∙ i.1.bytes_are ∙ ap (λ (x : List ℕ). x ++ i.0) (h.taken ∙ sym none)))
agrees_counted v b e t (inr (inl h)) s i =
    let p = head (string_major v.is_text) h.w h.n ++ h.q in
    counted_by v h.fs p t s h.kept h.taken
    (path_counts (from_outside h.fs) p (around_path v.order h.around.are.left (from_outside h.fs) 0 h.around.are.path h.around.are.closed) (in_string v.is_text h.w h.n h.q h.holds (omega (arith, h.count, h.some))) s [] i.0 i.1.spelled
    (append-nil (spell s) ∙ i.1.bytes_are ∙ ap (λ (x : List ℕ). x ++ i.0) h.taken))
agrees_counted v b e t (inr (inr h)) s i =
    let same : s ≡ h.item = (unique s h.item i.1.spelled h.spelled [] i.0 (append-nil (spell s) ∙ i.1.bytes_are ∙ ap (λ (x : List ℕ). x ++ i.0) h.taken)).0 in
    let size : length (spell s) ≤ length t = omega (arith, ap (λ (x : Spelling). length (spell x)) same, ap length h.taken) in
    let none = past s (length t) size in
    record { spans = ap length h.kept.spans ∙ sym none.0; kept = ap length h.kept.bytes ∙ sym none.1 }

last_within : (es : SpelledEntries) → length (last_key es) ≤ length (spell_entries es)
last_within no_entries = omega arith
last_within (entry k v no_entries) = omega (arith, length-append (spell k ++ spell v) [], length-append (spell k) (spell v))
last_within (entry k v (entry l w es)) = omega (arith, last_within (entry l w es), length-append (spell k ++ spell v) (spell_entries (entry l w es)))

key_within : (f : Frame) → length (complete_key f) ≤ length (before f)
key_within (a_key w a v b) = omega (arith, last_within a, length-append (head Map w (entries_count a + suc (entries_count b))) (spell_entries a))
key_within (a_content w a k b) = omega (arith, length-append (head Map w (entries_count a + suc (entries_count b)) ++ spell_entries a) (spell k))
key_within _ = omega arith

keys_within : (gs : List Frame) (n : ℕ) → keys_size gs n ≤ length (before_all gs) + n
keys_within [] n = omega arith
keys_within (f ∷ gs) n = either_within (is_key f) (keys_size gs n) (length (complete_key f)) (length (before f ++ before_all gs)) (key_within f) (keys_within gs n) (length-append (before f) (before_all gs))
  where
    either_within : (b : Bool) (y k m : ℕ) → k ≤ length (before f) → y ≤ length (before_all gs) + n → m ≡ length (before f) + length (before_all gs) → k + (if b then length (before_all gs) + n else y) ≤ m + n
    either_within true y k m g h e = omega (arith, g, h, e)
    either_within false y k m g h e = omega (arith, g, h, e)

little : (v : OpenItems) (b : Bounds) (e : ItemEventsView) (t : List ℕ) (fs : List Frame) (p : List ℕ) (q : Place) → IsKept (view_value v.keys) fs p → t ≡ bytes_before fs ++ p → IsAt b e t q → length (open_at q) ≡ length (frames_in fs) → IsLittle v e
little v b e t fs p q k is at all = record {
  levels = omega (arith, kept_levels (view_value v.keys) fs p k, open-is b e t q at, all, frames_length fs);
  spans = omega (arith, kept_spans (view_value v.keys) fs p k, open-is b e t q at, all, frames_length fs);
  kept = omega (arith, ap length k.bytes, kept_counted fs p, keys_within (from_outside fs) (length p), at.agrees.agrees.taken, ap length is, length-append (bytes_before fs) p);
}

pub agrees_little : (v : OpenItems) (b : Bounds) (e : ItemEventsView) (t : List ℕ) → Agrees v b e t → IsLittle v e
agrees_little v b e t (inl h) = little v b e t h.fs [] (at_item (frames_in h.fs)) h.kept (h.taken ∙ sym (append-nil (bytes_before h.fs))) h.at refl
agrees_little v b e t (inr (inl h)) = little v b e t h.fs (head (string_major v.is_text) h.w h.n ++ h.q) _ h.kept h.taken h.at (payload_stack (string_major v.is_text) v.left (frames_in h.fs) h.some)
  where
    payload_stack : (m : Major) (n : ℕ) (fs : List Container) → 0 < n → length (open_at (payload false m n fs)) ≡ length fs
    payload_stack m zero fs l = absurd (omega (arith, l))
    payload_stack m (suc n) fs l = refl
agrees_little v b e t (inr (inr h)) = record { levels = omega (arith, ap length h.kept.levels); spans = omega (arith, ap length h.kept.spans); kept = omega (arith, ap length h.kept.bytes) }
