-- What is refused where an item is expected, at any walk's position.
use Rattle.std.proofs.Common.{◌≡◌, ◌≢◌, ℕ, suc, ◌+◌, ◌-◌, ◌*◌, ◌^◌, ◌%◌, ◌<◌, ◌≤◌, ◌⊎◌, Bool, true, false, None, List, [], ◌∷◌, ◌++◌, length, take, drop, refl, sym, ap, ◌∙◌, subst, inl, inr, arith, append_assoc, take-append-drop, append-nil, IsTrue, IsUtf8, length-append, length-take-le, ◌/◌, pow_pos}
use Rattle.std.{specs.Str.Lossy.utf8_valid_len, proofs.lemmas.Bool.cases_lt}
use Rattle.cbor_head.specs.Prelude.{Rules, strict, complaint, OfHead, form, Holds, head, major_number, shortest, with_argument, Bounds, AreBytes, IsIntegerOrText, refusal, spell, value_of}
use Rattle.cbor_head.specs.declared.major.Major.TheVariants.{Bytes, Text, Array, Map}
use Rattle.cbor_head.specs.declared.reason.Reason.TheVariants as reasons
use Rattle.cbor_head.specs.declared.{major.Major.Major, order.KeyOrder.KeyOrder, reason.Reason.Reason, reason.Refusal.Refusal, width.Width.Width}
use Rattle.cbor_head.specs.declared.{width.Width.TheVariants.Indefinite, width.Width.TheVariants.Direct, keys.Keys.TheVariants.IntegersAndTexts}
use Rattle.cbor_head.specs.{declared.order.KeyOrder.TheVariants.Bytewise, declared.reason.Reason.TheVariants.KeyKind, Argument.IsArgument}
use Rattle.cbor_head.specs.InitialByte.{IsInitialByteError, MayBegin}
use Rattle.theory_values.{proofs.ByteLists.bytes_back, proofs.ByteLists.bytes_prefix, specs.FirstBytes.is_basic, proofs.KeyKinds.basic_byte}
use Rattle.theory_automaton.proofs.FirstByte.{split}
use Rattle.theory_verdicts.proofs.Heads.{open_or, IsOpener as MayOpen}
use Rattle.theory_verdicts.proofs.KindBytes.{head_is_one, string_is_one, Begins, judged_begins}
use Rattle.theory_verdicts.specs.Path.{Level, a_member, a_key, bytes_before, AreClean, MayBreak, IsKeyExpectedIn}
use Rattle.theory_verdicts.specs.Stop.{HasComplaint, IsStopped, EndsWithin}
use Rattle.theory_verdicts.proofs.Arguments.{low_bits, number_byte, fits as fits_in, numbered, spells, fits, direct_head}
use Rattle.theory_verdicts.proofs.PathKinds.{kept_prefix, head_begun, around_clean}
use Rattle.theory_verdicts.specs.{RefusedHere.IsPlaceFor, RefusedHere.IsRefusedBy, Judged.IsJudged, Judged.Never, Kinds.KeepsToKinds, Kinds.IsOfOneHead}
use Rattle.theory_verdicts.{proofs.Judged.judged_start, proofs.Leaves.text_complains, specs.PathKinds.KeepsHere, specs.Reading.string_major}
use Rattle.theory_verdicts.proofs.{CutHeads.head_cut, CutHeads.string_cut, FirstBytes.initial_byte_error, FirstBytes.bad_simple}
use Rattle.theory_verdicts.proofs.{HeadComplaints.not_shortest, HeadComplaints.indefinite_length, PathStops.complaint_here, PathStops.end_here}
use Rattle.theory_verdicts.proofs.{KindFrames.other_key, PathLevels.judged_path}

-- ---- first bytes

below_float : (first : ℕ) → 24 ≤ first % 32 → first < 249 → (first < 224) ⊎ (first ≡ 0xf8)
below_float first l small = elim (cases_lt first 224) [ inl k ↦ inl k | inr k ↦ inr (omega (arith, k, l, small)) ]

-- of indefinite lengths
opener_of : (first left : ℕ) → first % 32 ≡ 31 → 64 ≤ first → first < 192 → (128 ≤ first → 1 ≤ left) → (m : Major) × MayOpen m left × (32 * major_number m + 31 ≡ first)
opener_of first left low l h deep = elim (cases_lt first 96) [
  | inl k ↦ (Bytes, tt, omega (arith, low, l, k))
  | inr k ↦ elim (cases_lt first 128) [
    | inl j ↦ (Text, tt, omega (arith, low, k, j))
    | inr j ↦ elim (cases_lt first 160) [ inl i ↦ (Array, deep j, omega (arith, low, j, i)) | inr i ↦ (Map, deep j, omega (arith, low, i, h)) ]
  ]
]

-- ---- what is refused

-- the input ends within the item
pub ends_here : (r : Rules) (space : Bool) (b : List ℕ) (at end : ℕ) → end ≡ at + length b → IsOfOneHead b
    → ((d : ℕ) (ls : List Level) → (space ≡ true → length ls < d) → AreBytes b → IsJudged r (length (bytes_before ls)) (d - length ls) b None) → IsRefusedBy r space b at (refusal reasons.Truncated end end)
ends_here r space b at end e one j = λ limits ls clean broken kept place are.
    let whole = bytes_before ls ++ b in
    let size : length whole ≡ end = length-append (bytes_before ls) b ∙ omega (arith, e, place.here) in
    inr (inr (inl (subst (λ (n : ℕ). EndsWithin r limits whole (refusal reasons.Truncated n n)) size
    (end_here r limits ls clean whole b [] (ap (λ (z : List ℕ). bytes_before ls ++ z) (sym (append-nil b))) kept one (j limits.depth ls place.fits (bytes_back (bytes_before ls) b are)) refl))))

pub refused_same : (r : Rules) (space : Bool) (at : ℕ) (b c : List ℕ) (f g : Refusal) → b ≡ c → g ≡ f → IsRefusedBy r space c at f → IsRefusedBy r space b at g
refused_same r space at b c f g is e h = subst (λ (x : List ℕ). IsRefusedBy r space x at g) (sym is) (subst (IsRefusedBy r space c at) (sym e) h)

-- by the strict rules each open container is of definite length
pub no_break : (o : KeyOrder) (d : ℕ) (ls : List Level) → AreClean (strict o) d ls → MayBreak ls → ⊥
no_break o d (a_member Indefinite left done ∷ ls) h b = h.1.head_clean _ (refl, refl)
no_break o d (a_key Indefinite left done ∷ ls) h b = h.1.head_clean _ (refl, refl)
no_break o d _ h b = b

-- nothing is left
pub nothing_here : (r : Rules) (space : Bool) (at end : ℕ) → end ≡ at + 0 → IsRefusedBy r space [] at (refusal reasons.Truncated end end)
nothing_here r space at end e = ends_here r space [] at end e tt (λ d ls fits are. judged_start r (length (bytes_before ls)) (d - length ls))

module _ (r : Rules) (space : Bool) (first : ℕ) (following : List ℕ) (at : ℕ) where
  -- the first byte is not allowed there, whichever keys are allowed
  pub initial_byte_error_stops : (reason : Reason) → IsInitialByteError first space reason → (limits : Bounds) (ls : List Level) → AreClean r limits.depth ls → (first ≡ 0xff → MayBreak ls → ⊥) → KeepsToKinds limits r (bytes_before ls) → IsPlaceFor space limits.depth ls at
      → AreBytes (bytes_before ls ++ first ∷ following) → IsStopped r limits (bytes_before ls ++ first ∷ following) (refusal reason at (at + 1))
  initial_byte_error_stops reason h limits ls clean broken keeps place are =
      subst (λ (n : ℕ). IsStopped r limits (bytes_before ls ++ first ∷ following) (refusal reason n (n + 1))) (sym place.here)
      (inr (inl (initial_byte_error r limits ls clean keeps (bytes_before ls ++ first ∷ following) are first following refl space reason h broken place.full)))

  -- a prefix of these bytes is of the kinds that are allowed
  prefix_kept : (limits : Bounds) (ls : List Level) (x y : List ℕ) → first ∷ following ≡ x ++ y → KeepsHere limits r ls (first ∷ following) → KeepsHere limits r ls x
  prefix_kept limits ls x y e kept = kept_prefix limits r ls x y (subst (KeepsHere limits r ls) e kept)

  -- no length is reported
  pub indefinite_here : IsTrue r.heads → first % 32 ≡ 31 → 64 ≤ first → first < 192 → (128 ≤ first → first < 224 → space ≡ true) → IsRefusedBy r space (first ∷ following) at (refusal reasons.Indefinite at (at + 1))
  indefinite_here heads low l h is_space = λ limits ls clean broken kept place are.
      let deep : 128 ≤ first → 1 ≤ limits.depth - length ls = λ k. let r : length ls < limits.depth = place.fits (is_space k (omega (arith, h))) in omega (arith, r) in
      subst (λ (n : ℕ). IsStopped r limits (bytes_before ls ++ first ∷ following) (refusal reasons.Indefinite n (n + 1))) (sym place.here) (inl (let o = opener_of first (limits.depth - length ls) low l h deep in opens limits ls clean kept o.0 o.1 o.2))
    where
      opens : (limits : Bounds) (ls : List Level) → AreClean r limits.depth ls → KeepsHere limits r ls (first ∷ following) → (m : Major) → MayOpen m (limits.depth - length ls) → 32 * major_number m + 31 ≡ first
          → HasComplaint r limits (bytes_before ls ++ first ∷ following) (refusal reasons.Indefinite (length (bytes_before ls)) (length (bytes_before ls) + 1))
      opens limits ls clean kept m i e =
          let opener = head m Indefinite 0 in
          let is : first ∷ following ≡ opener ++ following = ap (λ (x : ℕ). x ∷ following) (sym e) in
          complaint_here r limits ls clean (bytes_before ls ++ first ∷ following) opener following (ap (λ (x : List ℕ). bytes_before ls ++ x) is) (prefix_kept limits ls opener following is kept) (head_is_one m Indefinite 0 tt) _
          (indefinite_length r heads (length (bytes_before ls)) (limits.depth - length ls) m i)

  -- the argument is cut
  pub cut_here : 24 ≤ first % 32 → first % 32 < 28 → first < 249 → (128 ≤ first → first < 224 → space ≡ true) → length following < 2 ^ (first % 32 - 24) → (end : ℕ) → end ≡ at + suc (length following)
      → IsRefusedBy r space (first ∷ following) at (refusal reasons.Truncated end end)
  cut_here l h small is_space short end e = ends_here r space (first ∷ following) at end e (λ container some. (l, h, omega (arith, short))) (λ d ls fits are.
      head_cut r (length (bytes_before ls)) d ls first following l (omega (arith, h)) (below_float first l small) (λ k j. fits (is_space k j)) are.1 short)

  module _ (w : Width) (n : ℕ) (rest : List ℕ) (a : IsArgument (first % 32) following w n rest) where
    -- there is no such simple value
    pub no_simple_here : first ≡ 0xf8 → n < 32 → IsRefusedBy r space (first ∷ following) at (refusal reasons.BadSimple (at + 1) (at + 2))
    no_simple_here e small = λ limits ls clean broken kept place are.
        let low : first % 32 ≡ 24 = omega (arith, e) in
        let byte = number_byte following w n rest (subst (λ (k : ℕ). IsArgument k following w n rest) low a) in
        let is : first ∷ following ≡ 0xf8 ∷ (n % 256) ∷ rest = ap (λ (x : ℕ). x ∷ following) e ∙ ap (λ (x : List ℕ). 0xf8 ∷ x) byte in
        let two : at + 2 ≡ length (bytes_before ls) + 1 + 1 = omega (arith, place.here) in
        let one : at + 1 ≡ length (bytes_before ls) + 1 = omega (arith, place.here) in
        subst (λ (k : ℕ). IsStopped r limits (bytes_before ls ++ first ∷ following) (refusal reasons.BadSimple (at + 1) k)) (sym two) (subst (λ (k : ℕ). IsStopped r limits (bytes_before ls ++ first ∷ following) (refusal reasons.BadSimple k (length (bytes_before ls) + 1 + 1))) (sym one)
        (inr (inl (bad_simple r limits ls clean kept.before (bytes_before ls ++ first ∷ following) are (n % 256) rest (prefix_kept limits ls (0xf8 ∷ []) ((n % 256) ∷ rest) is kept) (ap (λ (x : List ℕ). bytes_before ls ++ x) is) (omega (arith, small))))))

    -- a shorter head holds it
    pub long_here : IsTrue r.heads → first < 249 → (first ≡ 0xf8 → 32 ≤ n) → (128 ≤ first → first < 224 → space ≡ true) → w ≢ shortest n → (used : ℕ) → used ≡ suc (length following) - length rest → length rest ≤ length following
        → IsRefusedBy r space (first ∷ following) at (refusal reasons.NotShortest at (at + used))
    long_here heads small wide is_space long used u fewer = λ limits ls clean broken kept place are. elim (cases_lt first 224) [
      | inr k ↦ absurd (long (low_bits (first % 32) following w n rest a (omega (arith, k, small)) (λ e. wide (omega (arith, k, small, e)))))
      | inl k ↦
          let s = split first (omega (arith, k)) in
          let low_is : s.low ≡ first % 32 = omega (arith, s.made, s.fits) in
          let is = spells first following (32 * major_number s.major) w n rest a (omega (arith, s.made, low_is)) in
          let space_in : 128 ≤ first → first < 224 → 1 ≤ limits.depth - length ls = λ i j. let r : length ls < limits.depth = place.fits (is_space i j) in omega (arith, r) in
          let j = not_shortest r heads (length (bytes_before ls)) (limits.depth - length ls) s.major w n (numbered s.major s.low first s.made k) a.holds (fits_in s.major s.low first (limits.depth - length ls) s.made s.fits space_in) long in
          let size : length (head s.major w n) ≡ used = omega (arith, u, fewer, ap length is, length-append (head s.major w n) rest) in
          let end : length (bytes_before ls) + length (head s.major w n) ≡ at + used = omega (arith, place.here, size) in
          subst (λ (x : ℕ). IsStopped r limits (bytes_before ls ++ first ∷ following) (refusal reasons.NotShortest x (at + used))) (sym place.here) (subst (λ (x : ℕ). IsStopped r limits (bytes_before ls ++ first ∷ following) (refusal reasons.NotShortest (length (bytes_before ls)) x)) end
          (inl (complaint_here r limits ls clean (bytes_before ls ++ first ∷ following) (head s.major w n) rest (ap (λ (x : List ℕ). bytes_before ls ++ x) is) (prefix_kept limits ls (head s.major w n) rest is kept) (head_is_one s.major w n (open_or w n a.holds)) _ j)))
    ]

    -- ---- strings

    module _ (fewer : length rest ≤ length following) (quiet : (to : ℕ) (m : Major) → Never (OfHead r to m w n)) (l : 64 ≤ first) (h : first < 128) where
      string_is : (base : ℕ) → base + first % 32 ≡ first → first ∷ following ≡ with_argument w base n ++ rest
      string_is base e = spells first following base w n rest a e

      -- by its type
      string_head : (text : Bool) × (first ∷ following ≡ head (string_major text) w n ++ rest)
      string_head = elim (cases_lt first 96) [ inl k ↦ (false, string_is 64 (omega (arith, l, k))) | inr k ↦ (true, string_is 96 (omega (arith, k, h))) ]

      -- the payload is cut
      pub payload_cut_here : length rest < n → (end : ℕ) → end ≡ at + suc (length following) → IsRefusedBy r space (first ∷ following) at (refusal reasons.Truncated end end)
      payload_cut_here less end e =
          let (text, is) = string_head in
          let m = string_major text in
          ends_here r space (first ∷ following) at end e (subst IsOfOneHead (sym is) (go text)) (λ d ls fits are.
          subst (λ (x : List ℕ). IsJudged r (length (bytes_before ls)) (d - length ls) x None) (sym is) (string_cut w n rest a.holds (bytes_back (head m w n) rest (subst AreBytes is are)) less r (length (bytes_before ls)) (d - length ls) text (quiet (length (bytes_before ls)) m)))
        where
          go : (text : Bool) → IsOfOneHead (head (string_major text) w n ++ rest)
          go true = string_is_one Text w n rest tt (open_or w n a.holds)
          go false = string_is_one Bytes w n rest tt (open_or w n a.holds)

      -- the text is not UTF-8
      pub no_text_here : IsTrue r.texts → 96 ≤ first → n ≤ length rest → (used valid end : ℕ) → used ≡ suc (length following) - length rest → (IsUtf8 (take n rest) → ⊥) → valid ≡ utf8_valid_len (take n rest) → end ≡ used + n
          → IsRefusedBy r space (first ∷ following) at (refusal reasons.InvalidText (at + used + valid) (at + end))
      no_text_here texts k inside used valid end u none valid_is end_is = λ limits ls clean broken kept place are.
          let q = take n rest in
          let is = string_is 96 (omega (arith, k, h)) in
          let count : length q ≡ n = length-take-le n rest inside in
          let hd = head Text w n in
          let size : length hd ≡ used = omega (arith, u, fewer, ap length is, length-append hd rest) in
          let all : AreBytes (hd ++ rest) = subst AreBytes is (bytes_back (bytes_before ls) (first ∷ following) are) in
          let bytes : AreBytes q = bytes_prefix q (drop n rest) (subst AreBytes (sym (take-append-drop n rest)) (bytes_back hd rest all)) in
          let to = length (bytes_before ls) + length (head Text w (length q)) in
          let same : head Text w (length q) ≡ hd = ap (head Text w) count in
          let c = complaint (to + length q) (to + utf8_valid_len q) reasons.InvalidText in
          let j = text_complains w q r (length (bytes_before ls)) (limits.depth - length ls) c (subst (Holds w) (sym count) a.holds, bytes)
          (subst (λ (x : ℕ). Never (OfHead r (length (bytes_before ls)) Text w x)) (sym count) (quiet (length (bytes_before ls)) Text)) (texts, none, refl) in
          let there : to ≡ at + used = omega (arith, place.here, ap length same, size) in
          let place_is : to + utf8_valid_len q ≡ at + used + valid = omega (arith, there, valid_is) in
          let read : to + length q ≡ at + end = omega (arith, there, count, end_is) in
          let x = head Text w (length q) ++ q in
          let parts : first ∷ following ≡ x ++ drop n rest = is ∙ ap (λ (z : List ℕ). hd ++ z) (sym (take-append-drop n rest)) ∙ sym (append_assoc hd q (drop n rest)) ∙ ap (λ (z : List ℕ). (z ++ q) ++ drop n rest) (sym same) in
          let text = string_is_one Text w (length q) q tt (open_or w (length q) (subst (Holds w) (sym count) a.holds)) in
          let found = complaint_here r limits ls clean (bytes_before ls ++ first ∷ following) x (drop n rest) (ap (λ (z : List ℕ). bytes_before ls ++ z) parts) (prefix_kept limits ls x (drop n rest) parts kept) text c j in
          inl (subst (λ (z : ℕ). HasComplaint r limits (bytes_before ls ++ first ∷ following) (refusal reasons.InvalidText (at + used + valid) z)) read
          (subst (λ (z : ℕ). HasComplaint r limits (bytes_before ls ++ first ∷ following) (refusal reasons.InvalidText z (to + length q))) place_is found))

-- ---- some item begins with a byte that is allowed where an item is expected

module _ (ls : List Level) (d : ℕ) (space : Bool) (first : ℕ) (small : first < 256) (placed : MayBegin first space) (inside : space ≡ true → length ls < d) where
  abbrev left : ℕ
  left = d - length ls

  deep : 128 ≤ first → first < 224 → 1 ≤ left
  deep k j = let below : length ls < d = inside (placed.fits k j) in omega (arith, below)

  -- a head of one byte
  direct_begins : first % 32 < 24 → Begins left (first ∷ [])
  direct_begins l =
      let s = split first small in
      let low : s.low < 24 = omega (arith, s.made, s.fits, l) in
      subst (λ (x : ℕ). Begins left (x ∷ [])) (sym s.made) (head_begun left s.major Direct s.low (direct_head s.major s.low low) (fits s.major s.low first left s.made s.fits deep))

  -- the first byte of a longer one
  long_begins : 24 ≤ first % 32 → first % 32 < 28 → Begins left (first ∷ [])
  long_begins l h = judged_begins form 0 left (first ∷ []) None (head_cut form 0 d ls first [] l (omega (arith, h)) (below_float first l placed.no_float) (λ k j. inside (placed.fits k j)) tt (pow_pos (first % 32 - 24)))

  -- an opener of indefinite length
  indefinite_begins : first % 32 ≡ 31 → 64 ≤ first → first < 192 → Begins left (first ∷ [])
  indefinite_begins low l h = let o = opener_of first left low l h (λ k. deep k (omega (arith, h))) in opens o.0 o.1 o.2
    where
      opens : (m : Major) → MayOpen m left → 32 * major_number m + 31 ≡ first → Begins left (first ∷ [])
      opens m i e = subst (λ (x : ℕ). Begins left (x ∷ [])) e (judged_begins (strict Bytewise) 0 left _ _ (indefinite_length (strict Bytewise) refl 0 left m i))

  placed_begins : Begins left (first ∷ [])
  placed_begins = elim placed.low [
    | inl l ↦ elim (cases_lt (first % 32) 24) [ inl k ↦ direct_begins k | inr k ↦ long_begins k l ]
    | inr e ↦ indefinite_begins e.0 e.1 e.2
  ]

-- ---- the refusal

pub kind_refused : (space : Bool) (first : ℕ) (following : List ℕ) (at : ℕ) → MayBegin first space → ¬ IsTrue (is_basic (first / 32)) → (r : Rules) → IsTrue r.kinds → (limits : Bounds) (ls : List Level) → AreClean r limits.depth ls
    → KeepsToKinds limits r (bytes_before ls) → limits.keys ≡ IntegersAndTexts → IsKeyExpectedIn ls → IsPlaceFor space limits.depth ls at → AreBytes (bytes_before ls ++ first ∷ following)
    → IsStopped r limits (bytes_before ls ++ first ∷ following) (refusal KeyKind at (at + 1))
kind_refused space first following at placed other r kinds limits ls clean keeps asked expected place are =
    let p = bytes_before ls in
    let left = limits.depth - length ls in
    let small : first < 256 = (bytes_back p (first ∷ following) are).0 in
    let g = placed_begins ls limits.depth space first small placed place.fits in
    let none : IsIntegerOrText (value_of g.item) → ⊥ = λ k. other (basic_byte g.item g.spelled first [] g.rest (append-nil (spell g.item) ∙ g.bytes) k) in
    let (item, starts, complains) = other_key limits r (around_clean r limits.depth ls clean) g.item first g.rest g.spelled g.within g.bytes expected none in
    let judged = subst (λ (x : List ℕ). IsJudged r 0 limits.depth x None) (append-nil p) (judged_path r limits.depth ls clean [] None (judged_start r (length p) left)) in
    subst (λ (n : ℕ). IsStopped r limits (p ++ first ∷ following) (refusal KeyKind n (n + 1))) (sym place.here) (inr (inr (inr (record {
      p = p;
      byte = first;
      rest = following;
      splits = sym (append_assoc p (first ∷ []) following);
      judged = judged;
      keeps = keeps;
      asked = (kinds, asked);
      item = item;
      starts = starts;
      other = complains;
      is = refl;
    }))))
