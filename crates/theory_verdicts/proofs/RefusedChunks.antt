-- What the plain rules refuse where a chunk of a string is expected, at any walk's position.
use Rattle.std.proofs.Common.{◌≡◌, ◌≢◌, ℕ, ◌+◌, ◌-◌, ◌*◌, ◌^◌, ◌/◌, ◌%◌, ◌<◌, ◌≤◌, Bool, true, false, cond, Some, None, List, [], ◌∷◌, ◌++◌, length, take, drop, flat_map, refl, sym, ap, ap₂, ◌∙◌, subst, inl, inr, arith, append_assoc, append-nil, IsUtf8, length-append, length-take-le, take-append-drop}
use Rattle.std.specs.{List.AllByRecursion, Str.Lossy.utf8_valid_len}
use Rattle.cbor_head.specs.Prelude.{plain, complaint, Holds, head, major_number, Chunk, IsChunk, chunk_bytes, AreBytes, refusal}
use Rattle.cbor_head.specs.declared.reason.Reason.TheVariants.{Truncated, BadChunk, InvalidText}
use Rattle.cbor_head.specs.declared.{major.Major.Major, major.Major.TheVariants.Bytes, major.Major.TheVariants.Text, reason.Refusal.Refusal, width.Width.Width}
use Rattle.cbor_head.specs.declared.width.Width.TheVariants.{Indefinite}
use Rattle.theory_values.proofs.ByteLists.{bytes_prefix, bytes_back}
use Rattle.theory_automaton.specs.Automaton.{Frame, at_item, in_chunks, Next, refuses, indefinite_length, opening, in_string, is_major, run, reached, reporting}
use Rattle.theory_automaton.proofs.Forward.{Starts, chunk_starts, chunks-taken}
use Rattle.theory_automaton.{specs.Trace.a_head, specs.Trace.chunk_marks, proofs.Beginnings.reporting_all-reached, proofs.Openings.by-byte}
use Rattle.theory_verdicts.proofs.Leaves.{AreChunksSoFar, chunks_bytes, between, cut, chunk_complains}
use Rattle.theory_verdicts.specs.{Judged.IsJudged, Kinds.IsOfOneHead, Path.bytes_before, PathKinds.KeepsHere, Reading.string_major, RefusedHere.IsRefusedBy}
use Rattle.theory_verdicts.{specs.Stop.HasComplaint, specs.Stop.HasBadByte, proofs.CutHeads.cut_argument, proofs.CutHeads.chunk_cut, proofs.FirstBytes.long_low}
use Rattle.theory_verdicts.proofs.{HeadComplaints.heads_free, KindBytes.one_head_prefix, PathForm.containers, PathKinds.kept_prefix}
use Rattle.theory_verdicts.proofs.{PathStops.complaint_here, PathStops.bad_byte_here, RefusedHere.ends_here}

-- ---- by the automaton

starts : (d : ℕ) (fs : List Frame) (t : Bool) → Starts d (in_chunks (string_major t) fs) true (string_major t) fs
starts d fs true = chunk_starts d Text fs (λ k. refl) refl
starts d fs false = chunk_starts d Bytes fs (λ k. refl) refl

-- the opener and whole chunks lead to where the next may begin
module _ (d : ℕ) (fs : List Frame) (ks : List Chunk) (are : AllByRecursion IsChunk ks) where
  chunks_lead : (t : Bool) → run d (in_chunks (string_major t) fs) (flat_map (chunk_bytes (string_major t)) ks) ≡ reached (in_chunks (string_major t) fs) (flat_map chunk_marks ks ++ [])
  chunks_lead t =
      let m = string_major t in
      ap (run d (in_chunks m fs)) (sym (append-nil (flat_map (chunk_bytes m) ks))) ∙ chunks-taken d m fs (starts d fs t) ks [] are ∙ reporting_all-reached (flat_map chunk_marks ks) [] (in_chunks m fs)

  string_leads : (t : Bool) → run d (at_item fs) (chunks_bytes (string_major t) ks) ≡ reached (in_chunks (string_major t) fs) (a_head (string_major t) Indefinite 0 ∷ (flat_map chunk_marks ks ++ []))
  string_leads true = ap (reporting (a_head Text Indefinite 0)) (chunks_lead true)
  string_leads false = ap (reporting (a_head Bytes Indefinite 0)) (chunks_lead false)

-- ---- a byte that begins no chunk

other_major : (t : Bool) (k : Major) → (major_number k ≡ major_number (string_major t) → ⊥) → is_major (string_major t) k ≡ false
other_major true Text f = absurd (f refl)
other_major true _ f = refl
other_major false Bytes f = absurd (f refl)
other_major false _ f = refl

module _ (t : Bool) (fs : List Frame) where
  -- no chunk of this type begins so, and it is no break
  abbrev IsNone : ℕ → Type 0
  IsNone c = (c ≢ 0xff) × (c / 32 ≡ major_number (string_major t) → 28 ≤ c % 32)

  of_other : (k : Major) (low : ℕ) (next : Next) → low < 28 → IsNone (32 * major_number k + low) → cond (is_major (string_major t) k) next (refuses BadChunk) ≡ refuses BadChunk
  of_other k low next h none = ap (λ b. cond b next (refuses BadChunk)) (other_major t k (λ e. let wide = none.1 (omega (arith, e, h)) in omega (arith, wide, h)))

  of_open : (k : Major) → in_string (string_major t) fs (indefinite_length k) ≡ refuses BadChunk
  of_open Bytes = refl
  of_open _ = refl

  no_chunk : (c : ℕ) → c < 256 → IsNone c → in_string (string_major t) fs (opening c) ≡ refuses BadChunk
  no_chunk = by-byte (λ c o. IsNone c → in_string (string_major t) fs o ≡ refuses BadChunk) (λ k n h none. of_other k n _ (omega (arith, h)) none) (λ k w j low i long none. of_other k low _ (long_low k w j low long) none) (λ k none. of_open k)
      (λ none. refl) (λ none. absurd (none.0 refl)) (λ c none. refl)

-- ---- the chunks that are read

-- The bytes are a string in chunks, of which these are read and valid, and the rest follows.
pub record AreChunksRead (t : Bool) (b rest : List ℕ) : Type 0 where
  pub done : List Chunk
  pub so_far : (at : ℕ) → AreChunksSoFar plain at (string_major t) done
  pub bytes : b ≡ chunks_bytes (string_major t) done ++ rest
  pub small : AreBytes rest

-- such a string holds no items
pub chunks_are_one : (t : Bool) (done : List Chunk) (rest : List ℕ) → IsOfOneHead (chunks_bytes (string_major t) done ++ rest)
chunks_are_one true done rest = λ container. absurd (cc container)
chunks_are_one false done rest = λ container. absurd (cc container)

-- a chunk that is not UTF-8 ends before these bytes; its payload begins at this offset
pub record HasNoText (b from : List ℕ) (n start : ℕ) : Type 0 where
  pub prefix : List ℕ
  pub splits : b ≡ prefix ++ drop n from
  pub judged : (to d : ℕ) → IsJudged plain to d prefix (Some (complaint (to + start + n) (to + start + utf8_valid_len (take n from)) InvalidText))

module _ (t : Bool) (b rest : List ℕ) (s : AreChunksRead t b rest) where
  abbrev m : Major
  m = string_major t

  abbrev before : List ℕ
  before = chunks_bytes m s.done

  one : (x y : List ℕ) → b ≡ x ++ y → IsOfOneHead x
  one x y e = one_head_prefix x y (subst IsOfOneHead (sym s.bytes ∙ e) (chunks_are_one t s.done rest))

  module _ (w : Width) (n : ℕ) (from : List ℕ) (is : rest ≡ head m w n ++ from) (holds : Holds w n) where
    from_small : AreBytes from
    from_small = bytes_back (head m w n) from (subst AreBytes is s.small)

    pub no_text : t ≡ true → n ≤ length from → (IsUtf8 (take n from) → ⊥) → HasNoText b from n (length before + length (head m w n))
    no_text text inside none =
        let q = take n from in
        let long : length q ≡ n = length-take-le n from inside in
        let parts = take-append-drop n from in
        let hd = head m w (length q) in
        let small : AreBytes q = bytes_prefix q (drop n from) (subst AreBytes (sym parts) from_small) in
        let chunk_is : rest ≡ (hd ++ q) ++ drop n from = is ∙ ap₂ (λ (k : ℕ) (x : List ℕ). head m w k ++ x) (sym long) (sym parts) ∙ sym (append_assoc hd q (drop n from)) in
        record {
          prefix = before ++ (hd ++ q);
          splits = s.bytes ∙ ap (λ (y : List ℕ). before ++ y) chunk_is ∙ sym (append_assoc before (hd ++ q) (drop n from));
          judged = λ to d.
              let start : to + length before + length hd ≡ to + (length before + length (head m w n)) = omega (arith, ap (λ (k : ℕ). length (head m w k)) long) in
              subst (λ c. IsJudged plain to d (before ++ (hd ++ q)) (Some c)) (ap₂ (λ (i k : ℕ). complaint (i + k) (i + utf8_valid_len q) InvalidText) start long)
              (chunk_complains t s.done plain to d (s.so_far to) text w q _ (subst (Holds w) (sym long) holds, small) (heads_free _ m w (length q)) (refl, none, refl));
        }

  -- ---- what is refused at this offset, if the input ends

  module _ (space : Bool) (at end : ℕ) (all : end ≡ at + length b) (f : Refusal) where
    abbrev place : ℕ
    place = end - length rest

    there : at + length before ≡ place
    there = omega (arith, all, ap length s.bytes, length-append before rest)

    -- the input ends within the string
    ends : f ≡ refusal Truncated end end → (x : List ℕ) → rest ≡ x → ((to d : ℕ) → IsJudged plain to d (before ++ x) None) → IsRefusedBy plain space b at f
    ends e x is j =
        subst (IsRefusedBy plain space b at) (sym e)
        (ends_here plain space b at end all (one b [] (sym (append-nil b))) (λ d ls fits are. subst (λ (y : List ℕ). IsJudged plain (length (bytes_before ls)) (d - length ls) y None) (sym (s.bytes ∙ ap (λ (y : List ℕ). before ++ y) is)) (j _ _)))

    pub chunks_end_here : f ≡ refusal Truncated end end → rest ≡ [] → IsRefusedBy plain space b at f
    chunks_end_here e none = ends e [] none (λ to d. subst (λ (x : List ℕ). IsJudged plain to d x None) (sym (append-nil before)) (between t s.done plain to d (s.so_far to)))

    module _ (first : ℕ) (more : List ℕ) (is : rest ≡ first ∷ more) where
      -- the argument is cut
      pub chunk_head_cut_here : f ≡ refusal Truncated end end → first / 32 ≡ major_number m → 24 ≤ first % 32 → first % 32 < 28 → length more < 2 ^ (first % 32 - 24) → IsRefusedBy plain space b at f
      chunk_head_cut_here e high l h short =
          let (w, n, rest, holds, whole, some) = cut_argument m (first % 32) first more (omega (arith, high)) l (omega (arith, h)) (subst AreBytes is s.small).1 short in
          ends e (first ∷ more) is (λ to d. cut t s.done plain to d (s.so_far to) w n (first ∷ more) rest holds whole some)

      -- no chunk begins so
      pub no_chunk_here : f ≡ refusal BadChunk place (place + 1) → first ≢ 0xff → (first / 32 ≡ major_number m → 28 ≤ first % 32) → IsRefusedBy plain space b at f
      no_chunk_here e no_break other = λ limits ls clean broken kept here are.
          let whole = bytes_before ls ++ b in
          let fs = containers ls in
          let small : first < 256 = (subst AreBytes is s.small).0 in
          let size : length (bytes_before ls ++ before) ≡ place = length-append (bytes_before ls) before ∙ ap (λ (n : ℕ). n + length before) (sym here.here) ∙ there in
          let found = bad_byte_here plain limits ls clean whole before rest (ap (λ (x : List ℕ). bytes_before ls ++ x) s.bytes) (kept_prefix limits plain ls before rest (subst (KeepsHere limits plain ls) s.bytes kept)) (one before rest s.bytes)
          (between t s.done plain _ _ (s.so_far _)) first more (in_chunks m fs) _ BadChunk is are (string_leads limits.depth fs s.done (s.so_far 0).are t) tt (no_chunk t fs first small (no_break, other)) in
          inr (inl (subst (HasBadByte plain limits whole) (ap (λ (n : ℕ). refusal BadChunk n (n + 1)) size ∙ sym e) found))

    -- a chunk's payload is cut, or not UTF-8
    module _ (w : Width) (n : ℕ) (from : List ℕ) (is : rest ≡ head m w n ++ from) (holds : Holds w n) where
      pub chunk_cut_here : f ≡ refusal Truncated end end → length from < n → IsRefusedBy plain space b at f
      chunk_cut_here e less = ends e (head m w n ++ from) is (λ to d. chunk_cut w n from holds (from_small w n from is holds) less plain to d t s.done (s.so_far to) (heads_free _ m w n))

      pub no_text_chunk_here : f ≡ refusal InvalidText (place + (length rest - length from) + utf8_valid_len (take n from)) (place + (length rest - length from) + n) → t ≡ true → n ≤ length from → (IsUtf8 (take n from) → ⊥) → IsRefusedBy plain space b at f
      no_text_chunk_here e text inside none = λ limits ls clean broken kept here are.
          let h = no_text w n from is holds text inside none in
          let to = length (bytes_before ls) in
          let start : to + (length before + length (head m w n)) ≡ place + (length rest - length from) = omega (arith, there, here.here, ap length is, length-append (head m w n) from) in
          let found = complaint_here plain limits ls clean (bytes_before ls ++ b) h.prefix (drop n from) (ap (λ (y : List ℕ). bytes_before ls ++ y) h.splits)
          (kept_prefix limits plain ls h.prefix (drop n from) (subst (KeepsHere limits plain ls) h.splits kept)) (one h.prefix (drop n from) h.splits) _ (h.judged to (limits.depth - length ls)) in
          inl (subst (HasComplaint plain limits (bytes_before ls ++ b)) (ap (λ (i : ℕ). refusal InvalidText (i + utf8_valid_len (take n from)) (i + n)) start ∙ sym e) found)
