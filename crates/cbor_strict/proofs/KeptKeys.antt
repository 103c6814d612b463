-- What is stored of a path of open containers for the order of keys: within a key, and when a container
-- opens.
use Rattle.std.proofs.Common.{◌≡◌, ℕ, zero, suc, ◌+◌, ◌<◌, ◌≤◌, Bool, true, false, true≢false, List, [], ◌∷◌, ◌++◌, length, refl, sym, ap, ◌∙◌, inl, inr, arith, append_assoc, append-nil, if◌then◌else◌, ◌↔◌, IsTrue, Result, Ok, Err, OnOk, MatchResult, length-append}
use Rattle.std.proofs.lemmas.Bool.{cases_Bool}
use Rattle.cbor_head.specs.Prelude.{head, Spelling, SpelledEntries, no_entries, entries_count}
use Rattle.cbor_head.specs.declared.{major.Major.TheVariants.Map, width.Width.Width}
use Rattle.theory_verdicts.specs.Frame.{Frame, a_member, a_key, tagged, before}
use Rattle.cbor_strict.specs.inner.LastKeys.{KeysView, is_key, within_key, keys_around, expected_of, levels_of, complete_key, kept_bytes, kept_before, span, spans_in, spans_of, IsKept}
use Rattle.cbor_strict.specs.declared.last_keys.{Expected.Expected, Expected.TheVariants.Member, Expected.TheVariants.Key, KeySpan.KeySpan}

-- ---- in a key, or not

pub in_some_key : (fs : List Frame) → 0 < keys_around fs → within_key fs ≡ true
in_some_key [] l = absurd (omega (arith, l))
in_some_key (a_key w a v b ∷ fs) l = refl
in_some_key (_ ∷ fs) l = in_some_key fs l

pub in_no_key : (fs : List Frame) → keys_around fs ≡ 0 → within_key fs ≡ false
in_no_key [] e = refl
in_no_key (a_key w a v b ∷ fs) e = absurd (omega (arith, e))
in_no_key (_ ∷ fs) e = in_no_key fs e

pub few_keys : (fs : List Frame) → keys_around fs ≤ length fs
few_keys [] = omega arith
few_keys (a_key w a v b ∷ fs) = omega (arith, few_keys fs)
few_keys (_ ∷ fs) = omega (arith, few_keys fs)

pub none_open : (n : ℕ) (inside : Bool) → IsTrue inside ↔ (0 < n) → inside ≡ false → n ≡ 0
none_open zero inside h e = refl
none_open (suc n) inside h e = absurd (true≢false (sym (h.1 (omega arith)) ∙ e))

pub kept_if_in : (f : Frame) (fs : List Frame) (p : List ℕ) → within_key fs ≡ true → kept_bytes (f ∷ fs) p ≡ kept_bytes fs (before f ++ p)
kept_if_in f fs p e = ap (λ (b : Bool). if b then kept_bytes fs (before f ++ p) else kept_bytes fs [] ++ (complete_key f ++ (if is_key f then p else []))) e

pub kept_if_out : (f : Frame) (fs : List Frame) (p : List ℕ) → within_key fs ≡ false → kept_bytes (f ∷ fs) p ≡ kept_bytes fs [] ++ (complete_key f ++ (if is_key f then p else []))
kept_if_out f fs p e = ap (λ (b : Bool). if b then kept_bytes fs (before f ++ p) else kept_bytes fs [] ++ (complete_key f ++ (if is_key f then p else []))) e

-- a container that is no key
in_key_around : (f : Frame) (fs : List Frame) → is_key f ≡ false → within_key (f ∷ fs) ≡ within_key fs
in_key_around f fs e = ap (λ (b : Bool). if b then true else within_key fs) e

-- what is stored of more bytes
pub kept_in_key : (fs : List Frame) (p q : List ℕ) → within_key fs ≡ true → kept_bytes fs (p ++ q) ≡ kept_bytes fs p ++ q
kept_in_key [] p q e = absurd (true≢false (sym e))
kept_in_key (f ∷ fs) p q e = elim (cases_Bool (within_key fs)) [
  | inl i ↦
      kept_if_in f fs (p ++ q) i ∙ ap (kept_bytes fs) (sym (append_assoc (before f) p q)) ∙ kept_in_key fs (before f ++ p) q i
      ∙ ap (λ (x : List ℕ). x ++ q) (sym (kept_if_in f fs p i))
  | inr i ↦ elim (cases_Bool (is_key f)) [
    | inl k ↦
        kept_if_out f fs (p ++ q) i
        ∙ ap (λ (b : Bool). kept_bytes fs [] ++ (complete_key f ++ (if b then p ++ q else []))) k
        ∙ ap (λ (x : List ℕ). kept_bytes fs [] ++ x) (sym (append_assoc (complete_key f) p q))
        ∙ sym (append_assoc (kept_bytes fs []) (complete_key f ++ p) q)
        ∙ ap (λ (x : List ℕ). x ++ q) (sym (kept_if_out f fs p i ∙ ap (λ (b : Bool). kept_bytes fs [] ++ (complete_key f ++ (if b then p else []))) k))
    | inr k ↦ absurd (true≢false (sym e ∙ in_key_around f fs k ∙ i))
  ]
]

pub kept_out : (fs : List Frame) (p q : List ℕ) → within_key fs ≡ false → kept_bytes fs p ≡ kept_bytes fs q
kept_out [] p q e = refl
kept_out (f ∷ fs) p q e = elim (cases_Bool (is_key f)) [
  | inl k ↦ absurd (true≢false (sym (ap (λ (b : Bool). if b then true else within_key fs) k) ∙ e))
  | inr k ↦
      let i : within_key fs ≡ false = sym (in_key_around f fs k) ∙ e in
      kept_if_out f fs p i ∙ ap (λ (b : Bool). kept_bytes fs [] ++ (complete_key f ++ (if b then p else []))) k
      ∙ sym (kept_if_out f fs q i ∙ ap (λ (b : Bool). kept_bytes fs [] ++ (complete_key f ++ (if b then q else []))) k)
]

pub kept_size : (fs : List Frame) (p : List ℕ) → within_key fs ≡ true → length (kept_bytes fs p) ≡ kept_before fs + length p
kept_size fs p e = ap length (kept_in_key fs [] p e) ∙ length-append (kept_bytes fs []) p

-- ---- the next bytes

pub keeps : (k : KeysView) (fs : List Frame) (p x more : List ℕ) → IsKept k fs p → 0 < k.open_keys → more ≡ k.bytes ++ x → IsKept (record k { bytes = more }) fs (p ++ x)
keeps k fs p x more h l g = record {
  levels = h.levels;
  spans = h.spans;
  bytes = g ∙ ap (λ (y : List ℕ). y ++ x) h.bytes ∙ sym (kept_in_key fs p x (in_some_key fs (omega (arith, h.open_keys, l))));
  open_keys = h.open_keys;
}

pub keeps_none : (k : KeysView) (fs : List Frame) (p x : List ℕ) → IsKept k fs p → k.open_keys ≡ 0 → IsKept k fs (p ++ x)
keeps_none k fs p x h e = record { levels = h.levels; spans = h.spans; bytes = h.bytes ∙ kept_out fs p (p ++ x) (in_no_key fs (sym h.open_keys ∙ e)); open_keys = h.open_keys }

module _ {T E : Type 0} where
  pub keeps_if_ok : (r : Result T E) (k : KeysView) (fs : List Frame) (p x more : List ℕ) → IsKept k fs p → 0 < k.open_keys → MatchResult r (λ u. more ≡ k.bytes ++ x) (λ e. more ≡ k.bytes)
      → OnOk r (IsKept (record k { bytes = more }) fs (p ++ x))
  keeps_if_ok (Ok u) k fs p x more h l g = keeps k fs p x more h l g
  keeps_if_ok (Err u) k fs p x more h l g = tt

-- ---- a container opens

-- one that is no map, of which nothing is stored
pub no_map : (f : Frame) (fs : List Frame) → expected_of f ≡ Member → (complete_key f ≡ []) × (is_key f ≡ false) × (spans_in f fs ≡ [])
no_map (a_member w a b) fs d = (refl, refl, refl)
no_map (tagged w n) fs d = (refl, refl, refl)
no_map _ fs d = absurd (cc d)

opened_bytes : (f : Frame) (fs : List Frame) (p : List ℕ) → complete_key f ++ (if is_key f then [] else []) ≡ [] → before f ≡ p → kept_bytes fs p ≡ kept_bytes (f ∷ fs) []
opened_bytes f fs p none e = elim (cases_Bool (within_key fs)) [
  | inl i ↦ ap (kept_bytes fs) (sym e ∙ sym (append-nil (before f))) ∙ sym (kept_if_in f fs [] i)
  | inr i ↦ kept_out fs p [] i ∙ sym (append-nil (kept_bytes fs [])) ∙ ap (λ (x : List ℕ). kept_bytes fs [] ++ x) (sym none) ∙ sym (kept_if_out f fs [] i)
]

pub opens_other : (k : KeysView) (f : Frame) (fs : List Frame) (p : List ℕ) → expected_of f ≡ Member → IsKept k fs p → before f ≡ p
    → IsKept (record k { levels = k.levels ++ Member ∷ [] }) (f ∷ fs) []
opens_other k f fs p d h e =
    let none = no_map f fs d in
    record {
      levels = ap (λ (ls : List Expected). ls ++ Member ∷ []) h.levels ∙ ap (λ (x : Expected). levels_of fs ++ x ∷ []) (sym d);
      spans = h.spans ∙ sym (append-nil (spans_of fs)) ∙ ap (λ (x : List KeySpan). spans_of fs ++ x) (sym none.2);
      bytes = h.bytes ∙ opened_bytes f fs p (rw (none.0, none.1) refl) e;
      open_keys = h.open_keys ∙ ap (λ (b : Bool). if b then suc (keys_around fs) else keys_around fs) (sym none.1);
    }

pub span_is : (a b c x y z : ℕ) → a ≡ x → b ≡ y → c ≡ z → span a b c ≡ span x y z
span_is a b c x y z e f g = ap (λ (n : ℕ). span n b c) e ∙ ap (λ (n : ℕ). span x n c) f ∙ ap (λ (n : ℕ). span x y n) g

-- a map
pub opens_map : (k : KeysView) (w : Width) (v : Spelling) (b : SpelledEntries) (fs : List Frame) (p : List ℕ) (here : ℕ) → IsKept k fs p → before (a_key w no_entries v b) ≡ p → here ≡ length k.bytes
    → IsKept (record { levels = k.levels ++ Key ∷ []; spans = k.spans ++ span here here here ∷ []; bytes = k.bytes; open_keys = k.open_keys + 1 }) (a_key w no_entries v b ∷ fs) []
opens_map k w v b fs p here h e g = record {
  levels = ap (λ (ls : List Expected). ls ++ Key ∷ []) h.levels;
  spans = ap (λ (ss : List KeySpan). ss ++ span here here here ∷ []) h.spans ∙ ap (λ (s : KeySpan). spans_of fs ++ s ∷ []) place;
  bytes = h.bytes ∙ opened_bytes (a_key w no_entries v b) fs p refl e;
  open_keys = omega (arith, h.open_keys);
}
  where
    hd : List ℕ
    hd = head Map w (0 + suc (entries_count b))

    size : length hd + 0 ≡ length p
    size = omega (arith, ap length e, length-append hd [])

    at : here ≡ length (kept_bytes fs p)
    at = g ∙ ap length h.bytes

    place : span here here here ≡ span (kept_before fs + (if within_key fs then length hd + 0 else 0)) (kept_before fs + (if within_key fs then length hd + 0 else 0) + 0) (kept_before fs + (if within_key fs then length (hd ++ []) else 0))
    place = elim (cases_Bool (within_key fs)) [
      | inl i ↦
          let there : here ≡ kept_before fs + (length hd + 0) = omega (arith, at, kept_size fs p i, size) in
          rw i (span_is here here here _ _ _ there (omega (arith, there)) (omega (arith, there, length-append hd [])))
      | inr i ↦
          let there : here ≡ kept_before fs + 0 = omega (arith, at, ap length (kept_out fs p [] i)) in
          rw i (span_is here here here _ _ _ there (omega (arith, there)) there)
    ]

-- ---- a key that is not complete is one of an open map

few_around : (fs : List Frame) → keys_around fs ≤ length (spans_of fs)
few_around [] = omega arith
few_around (f ∷ fs) = let few = few_around fs in omega (arith, few, length-append (spans_of fs) (spans_in f fs), one f)
  where
    one : (f : Frame) → keys_around (f ∷ fs) ≤ keys_around fs + length (spans_in f fs)
    one (a_key w a v b) = omega arith
    one _ = omega arith

pub has_span : (k : KeysView) (fs : List Frame) (p : List ℕ) → IsKept k fs p → 0 < k.open_keys → 0 < length k.spans
has_span k fs p h some = let few = few_around fs in omega (arith, few, some, h.open_keys, ap length h.spans)
