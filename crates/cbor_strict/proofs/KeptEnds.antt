-- What is stored of the keys when a container ends, and those around it.
use Rattle.std.proofs.Common.{◌≡◌, ◌≢◌, ℕ, suc, ◌+◌, ◌<◌, ◌≤◌, Bool, true, false, List, [], ◌∷◌, ◌++◌, length, take, refl, sym, ap, ◌∙◌, subst, inl, inr, arith, append-nil, if◌then◌else◌, length-append}
use Rattle.std.proofs.{lemmas.Bool.cases_Bool, lemmas.List.same_from_push, Math.Seq.take-append_seam}
use Rattle.cbor_head.specs.Prelude.{head, Spelling, no_spellings, no_entries, spell, spell_entries, entries_count}
use Rattle.cbor_head.specs.declared.major.Major.TheVariants.{Map}
use Rattle.theory_verdicts.specs.Frame.{Frame, a_member, a_key, a_content, tagged, plug, before, following}
use Rattle.theory_verdicts.proofs.{Members.closes, Frames.spell_plug}
use Rattle.cbor_strict.specs.inner.LastKeys.{AreDefinite, still_open, ended_item, KeysView, is_key, within_key, keys_around, expected_of, levels_of, complete_key, kept_bytes, kept_before, spans_in, spans_of, IsKept, IsFull}
use Rattle.cbor_strict.proofs.KeptKeys.{in_some_key, in_no_key, few_keys, kept_if_in, kept_if_out, kept_out, no_map}
use Rattle.cbor_strict.specs.declared.last_keys.{Expected.Expected, Expected.TheVariants.Member, KeySpan.KeySpan}

-- ---- one closes

nothing_following : (f : Frame) → IsFull f → following f ≡ []
nothing_following (a_member w a no_spellings) h = closes w h
nothing_following (a_content w a k no_entries) h = closes w h
nothing_following (tagged w n) h = refl
nothing_following _ h = absurd h

-- the bytes of a container whose last item this is
pub full_bytes : (f : Frame) (s : Spelling) → IsFull f → spell (plug f s) ≡ before f ++ spell s
full_bytes f s h = spell_plug f s ∙ ap (λ (x : List ℕ). before f ++ (spell s ++ x)) (nothing_following f h) ∙ ap (λ (x : List ℕ). before f ++ x) (append-nil (spell s))

full_no_key : (f : Frame) → IsFull f → is_key f ≡ false
full_no_key (a_key w a v b) h = absurd h
full_no_key _ h = refl

full_around : (f : Frame) (fs : List Frame) → IsFull f → keys_around (f ∷ fs) ≡ keys_around fs
full_around f fs h = ap (λ (b : Bool). if b then suc (keys_around fs) else keys_around fs) (full_no_key f h)

-- what was stored of it
closed_in : (f : Frame) (fs : List Frame) (s : Spelling) → IsFull f → within_key fs ≡ true → kept_bytes (f ∷ fs) (spell s) ≡ kept_bytes fs (spell (plug f s))
closed_in f fs s h i = kept_if_in f fs (spell s) i ∙ ap (kept_bytes fs) (sym (full_bytes f s h))

closed_out : (f : Frame) (fs : List Frame) (s : Spelling) → IsFull f → within_key fs ≡ false → kept_bytes (f ∷ fs) (spell s) ≡ kept_bytes fs [] ++ (complete_key f ++ [])
closed_out f fs s h i = kept_if_out f fs (spell s) i ∙ ap (λ (b : Bool). kept_bytes fs [] ++ (complete_key f ++ (if b then spell s else []))) (full_no_key f h)

-- ---- the innermost container

-- what is put at the end of the lists for it
module _ (k : KeysView) (f : Frame) (fs : List Frame) (p : List ℕ) (h : IsKept k (f ∷ fs) p) where
  pub top_level : (ls : List Expected) (l : Expected) → k.levels ≡ ls ++ l ∷ [] → (ls ≡ levels_of fs) × (l ≡ expected_of f)
  top_level ls l e = same_from_push ls (levels_of fs) l (expected_of f) (sym e ∙ h.levels)

  pub top_span : (ss : List KeySpan) (s t : KeySpan) → k.spans ≡ ss ++ s ∷ [] → spans_in f fs ≡ t ∷ [] → (ss ≡ spans_of fs) × (s ≡ t)
  top_span ss s t e g = same_from_push ss (spans_of fs) s t (sym e ∙ h.spans ∙ ap (λ (x : List KeySpan). spans_of fs ++ x) g)

-- it closes
pub closes_other : (k : KeysView) (f : Frame) (fs : List Frame) (s : Spelling) (ls : List Expected) (l : Expected) → IsFull f → IsKept k (f ∷ fs) (spell s) → k.levels ≡ ls ++ l ∷ [] → l ≡ Member
    → IsKept (record k { levels = ls }) fs (spell (plug f s))
closes_other k f fs s ls l full h e d =
    let top = top_level k f fs (spell s) h ls l e in
    let none = no_map f fs (sym top.1 ∙ d) in
    record {
      levels = top.0;
      spans = h.spans ∙ ap (λ (x : List KeySpan). spans_of fs ++ x) none.2 ∙ append-nil (spans_of fs);
      bytes = h.bytes ∙ elim (cases_Bool (within_key fs)) [
        | inl i ↦ closed_in f fs s full i
        | inr i ↦ closed_out f fs s full i ∙ ap (λ (x : List ℕ). kept_bytes fs [] ++ (x ++ [])) none.0 ∙ append-nil (kept_bytes fs []) ∙ kept_out fs [] (spell (plug f s)) i
      ];
      open_keys = h.open_keys ∙ full_around f fs full;
    }

-- a map, and where its last key is stored
full_map : (f : Frame) (fs : List Frame) → IsFull f → expected_of f ≢ Member → (sp : KeySpan) × (spans_in f fs ≡ sp ∷ []) × (within_key fs ≡ false → sp.from ≡ kept_before fs)
full_map (a_content w a k no_entries) fs full d =
    (_, refl, λ i. ap (λ (b : Bool). kept_before fs + (if b then length (head Map w (entries_count a + 1) ++ spell_entries a) else 0)) i ∙ omega arith)
full_map (a_member w a b) fs full d = absurd (d refl)
full_map (tagged w n) fs full d = absurd (d refl)
full_map _ fs full d = absurd full

module _ (k : KeysView) (f : Frame) (fs : List Frame) (s : Spelling) (ls : List Expected) (l : Expected) (ss : List KeySpan) (sp : KeySpan) (full : IsFull f) (h : IsKept k (f ∷ fs) (spell s)) (e : k.levels ≡ ls ++ l ∷ [])
    (g : k.spans ≡ ss ++ sp ∷ []) (d : l ≢ Member) where
  top : (ls ≡ levels_of fs) × (l ≡ expected_of f)
  top = top_level k f fs (spell s) h ls l e

  place : (t : KeySpan) × (spans_in f fs ≡ t ∷ []) × (within_key fs ≡ false → t.from ≡ kept_before fs)
  place = full_map f fs full (λ x. d (top.1 ∙ x))

  last : (ss ≡ spans_of fs) × (sp ≡ place.0)
  last = top_span k f fs (spell s) h ss sp place.0 g place.1

  around : k.open_keys ≡ keys_around fs
  around = h.open_keys ∙ full_around f fs full

  pub closes_map_in : 0 < k.open_keys → IsKept (record k { levels = ls; spans = ss }) fs (spell (plug f s))
  closes_map_in inside = record { levels = top.0; spans = last.0; bytes = h.bytes ∙ closed_in f fs s full (in_some_key fs (omega (arith, around, inside))); open_keys = around }

  pub closes_map_out : k.open_keys ≡ 0 → IsKept (record k { levels = ls; spans = ss; bytes = take sp.from k.bytes }) fs (spell (plug f s))
  closes_map_out outside =
      let i : within_key fs ≡ false = in_no_key fs (sym around ∙ outside) in
      let from : sp.from ≡ kept_before fs = ap (λ (x : KeySpan). x.from) last.1 ∙ place.2 i in
      record {
        levels = top.0;
        spans = last.0;
        bytes = ap (λ (n : ℕ). take n k.bytes) from ∙ ap (take (kept_before fs)) (h.bytes ∙ closed_out f fs s full i) ∙ take-append_seam (kept_bytes fs []) (complete_key f ++ []) ∙ kept_out fs [] (spell (plug f s)) i;
        open_keys = around;
      }

-- ---- the containers that close with an item

-- some containers have closed
pub record HasShut (k : KeysView) (fs : List Frame) (s : Spelling) : Type 0 where
  pub gs : List Frame
  pub item : Spelling
  pub kept : IsKept k gs (spell item)
  pub definite : AreDefinite gs
  pub same : still_open gs ≡ still_open fs
  pub same_item : ended_item gs item ≡ ended_item fs s

pub none_shut : (k : KeysView) (fs : List Frame) (s : Spelling) → IsKept k fs (spell s) → AreDefinite fs → HasShut k fs s
none_shut k fs s h d = record { gs = fs; item = s; kept = h; definite = d; same = refl; same_item = refl }

levels_length : (fs : List Frame) → length (levels_of fs) ≡ length fs
levels_length [] = refl
levels_length (f ∷ fs) = omega (arith, levels_length fs, length-append (levels_of fs) (expected_of f ∷ []))

pub kept_levels : (k : KeysView) (fs : List Frame) (p : List ℕ) → IsKept k fs p → length k.levels ≡ length fs
kept_levels k fs p h = ap length h.levels ∙ levels_length fs

still_fewer : (fs : List Frame) → length (still_open fs) ≤ length fs
still_fewer (a_member w a no_spellings ∷ fs) = omega (arith, still_fewer fs)
still_fewer (a_content w a k no_entries ∷ fs) = omega (arith, still_fewer fs)
still_fewer (tagged w n ∷ fs) = omega (arith, still_fewer fs)
still_fewer _ = omega arith

-- those that all stay
still_all : (gs : List Frame) (s : Spelling) → length gs ≤ length (still_open gs) → (still_open gs ≡ gs) × (ended_item gs s ≡ s)
still_all (a_member w a no_spellings ∷ fs) s l = absurd (omega (arith, l, still_fewer fs))
still_all (a_content w a k no_entries ∷ fs) s l = absurd (omega (arith, l, still_fewer fs))
still_all (tagged w n ∷ fs) s l = absurd (omega (arith, l, still_fewer fs))
still_all _ s l = (refl, refl)

pub all_shut : (k : KeysView) (fs : List Frame) (s : Spelling) (left n : ℕ) → HasShut k fs s → n ≡ length k.levels → length (still_open fs) ≡ left → n ≤ left → IsKept k (still_open fs) (spell (ended_item fs s))
all_shut k fs s left n h e g l =
    let a = still_all h.gs h.item (omega (arith, e, kept_levels k h.gs (spell h.item) h.kept, g, l, ap length h.same)) in
    let is : h.gs ≡ still_open fs = sym a.0 ∙ h.same in
    let it : h.item ≡ ended_item fs s = sym a.1 ∙ h.same_item in
    subst (λ (x : Spelling). IsKept k (still_open fs) (spell x)) it (subst (λ (x : List Frame). IsKept k x (spell h.item)) is h.kept)

-- one more closes
pub one_shut : (k new : KeysView) (fs : List Frame) (s : Spelling) (left n : ℕ) → HasShut k fs s → n ≡ length k.levels → length (still_open fs) ≡ left → left < n
    → ((f : Frame) (gs : List Frame) (t : Spelling) → IsFull f → IsKept k (f ∷ gs) (spell t) → IsKept new gs (spell (plug f t))) → HasShut new fs s
one_shut k new fs s left n h e g l step = go h.gs h.kept h.definite h.same h.same_item (omega (arith, e, kept_levels k h.gs (spell h.item) h.kept, g, l, ap length h.same))
  where
    go : (gs : List Frame) → IsKept k gs (spell h.item) → AreDefinite gs → still_open gs ≡ still_open fs → ended_item gs h.item ≡ ended_item fs s → length (still_open gs) < length gs → HasShut new fs s
    go (a_member w a no_spellings ∷ gs) kept d same it l =
        record { gs = gs; item = plug (a_member w a no_spellings) h.item; kept = step (a_member w a no_spellings) gs h.item d.0 kept; definite = d.1; same = same; same_item = it }
    go (a_content w a k2 no_entries ∷ gs) kept d same it l =
        record { gs = gs; item = plug (a_content w a k2 no_entries) h.item; kept = step (a_content w a k2 no_entries) gs h.item d.0 kept; definite = d.1; same = same; same_item = it }
    go (tagged w n ∷ gs) kept d same it l = record { gs = gs; item = plug (tagged w n) h.item; kept = step (tagged w n) gs h.item tt kept; definite = d.1; same = same; same_item = it }
    go _ kept d same it l = absurd (omega (arith, l))

spans_length : (fs : List Frame) → length (spans_of fs) ≤ length fs
spans_length [] = omega arith
spans_length (a_member w a b ∷ fs) = omega (arith, spans_length fs, length-append (spans_of fs) [])
spans_length (tagged w n ∷ fs) = omega (arith, spans_length fs, length-append (spans_of fs) [])
spans_length (a_content w a k b ∷ fs) = omega (arith, spans_length fs, length-append (spans_of fs) (spans_in (a_content w a k b) fs))
spans_length (a_key w a v b ∷ fs) = omega (arith, spans_length fs, length-append (spans_of fs) (spans_in (a_key w a v b) fs))

pub kept_keys : (k : KeysView) (fs : List Frame) (p : List ℕ) → IsKept k fs p → k.open_keys ≤ length fs
kept_keys k fs p h = omega (arith, h.open_keys, few_keys fs)

pub kept_spans : (k : KeysView) (fs : List Frame) (p : List ℕ) → IsKept k fs p → length k.spans ≤ length fs
kept_spans k fs p h = omega (arith, ap length h.spans, spans_length fs)
