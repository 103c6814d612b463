-- The input ends within a head or a payload: the part of the item before its end has no complaint.
use Rattle.std.proofs.Common.{◌≡◌, ℕ, suc, ◌+◌, ◌*◌, ◌-◌, ◌^◌, ◌%◌, ◌<◌, ◌≤◌, ◌⊎◌, Bool, None, List, [], ◌∷◌, ◌++◌, length, replicate, refl, sym, ap, ◌∙◌, subst, inl, inr, arith, length-append}
use Rattle.std.{specs.Int.bytes_high_first, proofs.lemmas.Bool.cases_lt, proofs.lemmas.List.nil_from_length}
use Rattle.cbor_head.specs.Prelude.{Rules, OfHead, Holds, head, simple, major_number, Chunk, AreBytes}
use Rattle.cbor_head.specs.declared.width.Width.TheVariants.{One, Two, Four, Eight}
use Rattle.cbor_head.specs.declared.{major.Major.Major, width.Width.Width}
use Rattle.theory_values.proofs.ByteLists.{bytes_join}
use Rattle.theory_automaton.proofs.{FirstByte.split, Arguments.number, Kept.long-head}
use Rattle.theory_verdicts.proofs.Heads.{headed, long_cut, simple_cut, zero_bytes, zero_length}
use Rattle.theory_verdicts.proofs.Leaves.{chunks_bytes, so-far, AreChunksSoFar, cut_payload}
use Rattle.theory_verdicts.{proofs.Arguments.fits, proofs.Arguments.numbered, proofs.Judged.judged_head, specs.Judged.IsJudged, specs.Judged.Never}
use Rattle.theory_verdicts.specs.{Path.Level, Reading.string_major}

-- ---- a head

-- its first byte, and all that is left of its argument: with zeros for the missing bytes, the head is
-- complete
pub cut_argument : (m : Major) (low c : ℕ) (following : List ℕ) → c ≡ 32 * major_number m + low → 24 ≤ low → low ≤ 27 → AreBytes following → length following < 2 ^ (low - 24)
    → (w : Width) × (n : ℕ) × (more : List ℕ) × Holds w n × ((c ∷ following) ++ more ≡ head m w n) × (0 < length more)
cut_argument m low c following is l h are short = elim (cases_lt low 26) [
  | inl k ↦ elim (cases_lt low 25) [
    | inl j ↦ by_low 24 One 0 (omega (arith, l, j)) (λ n. refl) (λ n f. f) (λ f. omega (arith, f))
    | inr j ↦ by_low 25 Two 1 (omega (arith, k, j)) (λ n. refl) (λ n f. f) (λ f. omega (arith, f))
  ]
  | inr k ↦ elim (cases_lt low 27) [
    | inl j ↦ by_low 26 Four 3 (omega (arith, k, j)) (λ n. refl) (λ n f. f) (λ f. omega (arith, f))
    | inr j ↦ by_low 27 Eight 7 (omega (arith, h, j)) (λ n. refl) (λ n f. f) (λ f. omega (arith, f))
  ]
]
  where
    by_low : (j : ℕ) (w : Width) (k : ℕ) → low ≡ j → ((n : ℕ) → head m w n ≡ (32 * major_number m + j) ∷ bytes_high_first (suc k) n) → ((n : ℕ) → n < 256 ^ suc k → Holds w n) → (length following < 2 ^ (j - 24) → length following ≤ k)
        → (w : Width) × (n : ℕ) × (more : List ℕ) × Holds w n × ((c ∷ following) ++ more ≡ head m w n) × (0 < length more)
    by_low j w k e made holds fits =
        let more : List ℕ = replicate (suc k - length following) 0 in
        let size = zero_length (suc k - length following) in
        let few : length following ≤ k = fits (subst (λ (x : ℕ). length following < 2 ^ (x - 24)) e short) in
        let same : c ≡ 32 * major_number m + j = omega (arith, is, e) in
        let whole = long-head m w k (32 * major_number m + j) made holds (following ++ more) (omega (arith, few, length-append following more, size)) (bytes_join following more are (zero_bytes (suc k - length following))) in
        (w, number 0 (following ++ more), more, whole.1, ap (λ (x : ℕ). x ∷ (following ++ more)) same ∙ whole.0, omega (arith, few, size))

-- of an item
pub head_cut : (r : Rules) (at d : ℕ) (ls : List Level) (c : ℕ) (following : List ℕ) → 24 ≤ c % 32 → c % 32 ≤ 27 → (c < 224) ⊎ (c ≡ 0xf8) → (128 ≤ c → c < 224 → length ls < d) → AreBytes following
    → length following < 2 ^ (c % 32 - 24) → IsJudged r at (d - length ls) (c ∷ following) None
head_cut r at d ls c following l h (inl j) space are short =
    let left = d - length ls in
    let s = split c (omega (arith, j)) in
    let same : c % 32 ≡ s.low = omega (arith, s.made, s.fits) in
    let (w, n, more, holds, whole, some) = cut_argument s.major s.low c following s.made (omega (arith, l, same)) (omega (arith, h, same)) are (subst (λ (x : ℕ). length following < 2 ^ (x - 24)) same short) in
    let takes_in = fits s.major s.low c left s.made s.fits (λ a b. let below : length ls < d = space a b in omega (arith, below)) in
    long_cut r at left s.major w n (c ∷ following) more (headed left s.major w n (numbered s.major s.low c s.made j) holds takes_in) whole some
head_cut r at d ls c following l h (inr j) space are short =
    let low : c % 32 ≡ 24 = omega (arith, j) in
    let none : following ≡ [] = nil_from_length following (omega (arith, subst (λ (x : ℕ). length following < 2 ^ (x - 24)) low short)) in
    subst (λ (x : List ℕ). IsJudged r at (d - length ls) x None) (sym (ap (λ (x : ℕ). x ∷ following) j ∙ ap (λ (xs : List ℕ). 0xf8 ∷ xs) none))
    (judged_head r at (d - length ls) (0xf8 ∷ []) (simple 32) (0x20 ∷ []) simple_cut (omega arith))

-- ---- a payload

-- zeros are in place of its missing bytes
filled : (n : ℕ) (q : List ℕ) → length q < n → length (q ++ replicate (n - length q) 0) ≡ n
filled n q h = omega (arith, h, length-append q (replicate (n - length q) 0), zero_length (n - length q))

module _ (w : Width) (n : ℕ) (q : List ℕ) (holds : Holds w n) (are : AreBytes q) (short : length q < n) where
  abbrev more : List ℕ
  more = replicate (n - length q) 0

  spelled : Holds w (length (q ++ more)) × AreBytes (q ++ more)
  spelled = (subst (Holds w) (sym (filled n q short)) holds, bytes_join q more are (zero_bytes (n - length q)))

  some : 0 < length more
  some = omega (arith, short, zero_length (n - length q))

  module _ (r : Rules) (at d : ℕ) where
    pub string_cut : (text : Bool) → Never (OfHead r at (string_major text) w n) → IsJudged r at d (head (string_major text) w n ++ q) None
    string_cut text clean =
        let m = string_major text in
        subst (λ (k : ℕ). IsJudged r at d (head m w k ++ q) None) (filled n q short)
        (so-far text w q more r at d spelled.0 spelled.1 some (subst (λ (k : ℕ). Never (OfHead r at m w k)) (sym (filled n q short)) clean))

    -- of a chunk after others
    pub chunk_cut : (text : Bool) (done : List Chunk) → AreChunksSoFar r at (string_major text) done → Never (OfHead r (at + length (chunks_bytes (string_major text) done)) (string_major text) w n)
        → IsJudged r at d (chunks_bytes (string_major text) done ++ (head (string_major text) w n ++ q)) None
    chunk_cut text done so_far clean =
        let m = string_major text in
        let to = at + length (chunks_bytes m done) in
        subst (λ (k : ℕ). IsJudged r at d (chunks_bytes m done ++ (head m w k ++ q)) None) (filled n q short)
        (cut_payload text done r at d so_far w q more spelled some (subst (λ (k : ℕ). Never (OfHead r to m w k)) (sym (filled n q short)) clean))
