-- What is found in a part is found in the whole.
use Rattle.std.proofs.Common.{ℕ, zero, suc, ◌+◌, ◌-◌, ◌≡◌, ◌<◌, ◌≤◌, ◌⊎◌, Option, Some, None, List, [], ◌++◌, length, refl, sym, ap, ◌∙◌, arith, inl, inr, length-append, append_assoc}
use Rattle.std.proofs.lemmas.Bool.{cases_lt}
use Rattle.cbor_head.specs.Prelude.{Spelling, Spellings, SpelledEntries, no_entries, entry, spell, spellings_count, entries_count, IsSpelled, AreEntriesSpelled, depth, depth_entries, IsItem, array, a_map, Rules, Complaint, OfKey, Complains, rank}
use Rattle.cbor_head.specs.declared.width.Width.{Width}
use Rattle.theory_values.proofs.Agree.{head_of, body, parts, later}
use Rattle.theory_values.proofs.OneFirst.{bounded, key_last}
use Rattle.theory_verdicts.specs.Frame.{Frame, a_key, keys_onto, plug, before, following, IsFrame, depth_beside, OfPrefix, OfKeyAt}
use Rattle.theory_verdicts.specs.Judged.{IsFinding, IsJudged, Never}
use Rattle.theory_verdicts.proofs.Frames.{spell_plug, spelled_plug, depth_plug, plug_split, plug_item, back_later, key_at_end}
use Rattle.theory_verdicts.specs.SoFar.{IsArraySoFar, IsMapSoFar}
pub use Rattle.theory_automaton.proofs.Beginnings.{zero_item, zeros, zeros_count, zeros_spelled, zeros_flat}

-- ---- one container

pub bytes_in : (f : Frame) (s : Spelling) (p rest : List ℕ) → spell s ≡ p ++ rest → spell (plug f s) ≡ (before f ++ p) ++ (rest ++ following f)
bytes_in f s p rest e =
    spell_plug f s ∙ ap (λ (x : List ℕ). before f ++ (x ++ following f)) e ∙ ap (λ (x : List ℕ). before f ++ x) (append_assoc p rest (following f)) ∙ sym (append_assoc (before f) p (rest ++ following f))

-- a complaint in a key comes before one on it
ahead : (a e m n : ℕ) → a + (m - 1) ≤ e → 1 ≤ n → (a < e) ⊎ ((a ≡ e) × (m ≤ n))
ahead a e m n h k = elim (cases_lt a e) [ inl l ↦ inl l | inr l ↦ inr (omega (arith, h, l), omega (arith, h, k, l)) ]

key_ranked : (f : Frame) (to : ℕ) (r : Rules) (k : Spelling) (c : Complaint) → OfKeyAt r to f k c → 1 ≤ rank c.reason
key_ranked (a_key w a v b) to r k c o = omega (arith, key_last r.keys to (keys_onto [] a) k c o, key_at_end (a_key w a v b) k r to c o)
key_ranked _ to r k c o = absurd o

module _ (f : Frame) (r : Rules) (at d : ℕ) (fits : IsFrame f) (flat : depth_beside f ≤ d) (clean : Never (OfPrefix r at f)) where
  finding_in : (s : Spelling) (p rest : List ℕ) (found : Option Complaint) → spell s ≡ p ++ rest
      → IsFinding (Complains r (at + length (before f)) s) (at + length (before f) + length p) (at + length (before f) + length (spell s)) found
      → IsFinding (Complains r at (plug f s)) (at + length (before f ++ p)) (at + length (spell (plug f s))) found
  finding_in s p rest (Some c) e h =
      let to = at + length (before f) in
      let more = length-append (before f) p in
      let size : length (spell s) ≡ length p + length rest = ap length e ∙ length-append p rest in
      let least : c.end + (rank c.reason - 1) ≤ to + length (spell s) = bounded s r to c h.holds in
      record {
        holds = plug_item f s r (OfKey r.keys) at to c refl (inl h.holds);
        ends = omega (arith, h.ends, more);
        first = λ x g l. elim (plug_split f s r (OfKey r.keys) at to x refl g) [
          | inl y ↦ absurd (clean x y)
          | inr (inl y) ↦ h.first x y (omega (arith, l, more))
          | inr (inr (inl y)) ↦ ahead c.end x.end (rank c.reason) (rank x.reason) (omega (arith, least, key_at_end f s r to x y)) (key_ranked f to r s x y)
          | inr (inr (inr y)) ↦ absurd (omega (arith, back_later f s r (to + length (spell s)) x y, l, more, size))
        ];
      }
  finding_in s p rest None e h =
      let to = at + length (before f) in
      let more = length-append (before f) p in
      let size : length (spell s) ≡ length p + length rest = ap length e ∙ length-append p rest in
      let whole = ap length (spell_plug f s) ∙ length-append (before f) (spell s ++ following f) in
      let short : to + length p < to + length (spell s) = h.0 in (
        omega (arith, short, more, whole, length-append (spell s) (following f)),
        λ x g. elim (plug_split f s r (OfKey r.keys) at to x refl g) [
          | inl y ↦ absurd (clean x y)
          | inr (inl y) ↦ omega (arith, h.1 x y, more)
          | inr (inr (inl y)) ↦ omega (arith, key_at_end f s r to x y, short, more)
          | inr (inr (inr y)) ↦ omega (arith, back_later f s r (to + length (spell s)) x y, short, more)
        ],
      )

  -- what is found in the item is found in the container
  pub judged_in : (p : List ℕ) (found : Option Complaint) → IsJudged r (at + length (before f)) d p found → IsJudged r at (suc d) (before f ++ p) found
  judged_in p found j =
      let deep = depth_plug f j.item in
      record {
        item = plug f j.item;
        rest = j.rest ++ following f;
        is = record { spelled = spelled_plug f j.item fits j.is.spelled; within = omega (arith, deep, j.is.within, flat); bytes_are = bytes_in f j.item p j.rest j.is.bytes_are };
        finding = finding_in j.item p j.rest found j.is.bytes_are j.finding;
      }

  -- a complaint on a key that has none within
  pub judged_key : (k : Spelling) (c : Complaint) → IsSpelled k → depth k ≤ d → Never (Complains r (at + length (before f)) k) → OfKeyAt r (at + length (before f)) f k c
      → IsJudged r at (suc d) (before f ++ spell k) (Some c)
  judged_key k c h small none o =
      let to = at + length (before f) in
      let deep = depth_plug f k in
      let more = length-append (before f) (spell k) in
      let end = key_at_end f k r to c o in
      record {
        item = plug f k;
        rest = following f;
        is = record { spelled = spelled_plug f k fits h; within = omega (arith, deep, small, flat); bytes_are = spell_plug f k ∙ sym (append_assoc (before f) (spell k) (following f)) };
        finding = record {
          holds = plug_item f k r (OfKey r.keys) at to c refl (inr o);
          ends = omega (arith, end, more);
          first = λ x g l. elim (plug_split f k r (OfKey r.keys) at to x refl g) [
            | inl y ↦ absurd (clean x y)
            | inr (inl y) ↦ absurd (none x y)
            | inr (inr (inl y)) ↦ inr (omega (arith, end, key_at_end f k r to x y), key_ranks f to k c x o y)
            | inr (inr (inr y)) ↦ absurd (omega (arith, back_later f k r (to + length (spell k)) x y, l, more))
          ];
        };
      }
    where
      key_ranks : (f : Frame) (to : ℕ) (k : Spelling) (c x : Complaint) → OfKeyAt r to f k c → OfKeyAt r to f k x → rank c.reason ≤ rank x.reason
      key_ranks (a_key w a v b) to k c x o y =
          let m = key_last r.keys to (keys_onto [] a) k c o in
          let n = key_last r.keys to (keys_onto [] a) k x y in
          let e = key_at_end (a_key w a v b) k r to c o in
          let g = key_at_end (a_key w a v b) k r to x y in
          omega (arith, m, n, e, g)
      key_ranks _ to k c x o y = absurd o

-- ---- members that may still come

pub zero_spelled : IsSpelled zero_item
zero_spelled = omega arith

abbrev pub zero_pairs : ℕ → SpelledEntries
zero_pairs zero = no_entries
zero_pairs (suc n) = entry zero_item zero_item (zero_pairs n)

pub pairs_count : (n : ℕ) → entries_count (zero_pairs n) ≡ n
pairs_count zero = refl
pairs_count (suc n) = ap suc (pairs_count n)

pub pairs_spelled : (n : ℕ) → AreEntriesSpelled (zero_pairs n)
pairs_spelled zero = tt
pairs_spelled (suc n) = (zero_spelled, zero_spelled, pairs_spelled n)

pub pairs_flat : (n : ℕ) → depth_entries (zero_pairs n) ≡ 0
pairs_flat zero = refl
pairs_flat (suc n) = omega (arith, pairs_flat n)

-- ---- nothing yet

pub judged_start : (r : Rules) (at d : ℕ) → IsJudged r at d [] None
judged_start r at d =
    record { item = zero_item; rest = spell zero_item; is = record { spelled = zero_spelled; within = omega arith; bytes_are = refl }; finding = (omega arith, λ e g. omega (arith, later zero_item r at e g)) }

-- within the head
pub judged_head : (r : Rules) (at d : ℕ) (p : List ℕ) (s : Spelling) (rest : List ℕ) → IsItem d s (p ++ rest) → length p < length (head_of s) → IsJudged r at d p None
judged_head r at d p s rest i l = record { item = s; rest = rest; is = i; finding = (omega (arith, l, longer s), λ e g. omega (arith, later s r at e g, l)) }
  where
    longer : (s : Spelling) → length (head_of s) ≤ length (spell s)
    longer s = omega (arith, ap length (parts s) ∙ length-append (head_of s) (body s))

-- ---- an array or a map of which all was read

pub array_whole : (w : Width) (done : Spellings) (r : Rules) (at d : ℕ) → IsArraySoFar r at d w (spellings_count done) done → IsSpelled (array w done) × (depth (array w done) ≤ suc d) × Never (Complains r at (array w done))
array_whole w done r at d a = ((a.holds, a.spelled), omega (arith, a.within), λ c h. elim h [ inl x ↦ a.head_clean c x | inr x ↦ a.clean c x ])

pub map_whole : (w : Width) (done : SpelledEntries) (r : Rules) (at d : ℕ) → IsMapSoFar r at d w (entries_count done) done → IsSpelled (a_map w done) × (depth (a_map w done) ≤ suc d) × Never (Complains r at (a_map w done))
map_whole w done r at d a = ((a.holds, a.spelled), omega (arith, a.within), λ c h. elim h [ inl x ↦ a.head_clean c x | inr x ↦ a.clean c x ])
