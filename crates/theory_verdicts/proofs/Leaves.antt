-- Heads, payloads and chunks: the first complaint of an item, or none so far.
use Rattle.std.proofs.Common.{ℕ, ◌+◌, ◌≡◌, ◌<◌, ◌⊎◌, Option, Some, None, List, [], ◌∷◌, ◌++◌, length, flat_map, refl, sym, ap, ◌∙◌, arith, subst, inl, inr, length-append, append_assoc, append-nil, suc, Bool, true, false, true≢false, replicate, IsUtf8}
use Rattle.std.{specs.List.AllByRecursion, proofs.lemmas.Grind.flat_map-append}
use Rattle.cbor_head.specs.Prelude.{head, Holds, Chunk, IsChunk, Spelling, bytes, text, byte_chunks, text_chunks, spell, chunk_bytes, chunked, chunks_joined, IsSpelled, depth, Rules, Complaint, OfHead, OfIndefinite, OfPayload, OfString, OfChunks, Complains, AreBytes, value_of}
use Rattle.cbor_head.specs.declared.{major.Major.Major, major.Major.TheVariants.Text, width.Width.Width, width.Width.TheVariants.Indefinite}
use Rattle.theory_values.proofs.{Agree.payload_end, Agree.string_later, Reasons.payload_rank}
use Rattle.theory_automaton.specs.Automaton.{Frame, State, at_item, in_head, in_simple, in_chunks}
use Rattle.theory_automaton.proofs.{Arguments.number, Taking.IsWithin}
use Rattle.theory_verdicts.specs.Judged.{IsFinding, IsJudged, Never}
use Rattle.theory_verdicts.{specs.Reading.string_major, specs.Reading.string_value, proofs.Heads.zero_bytes, proofs.Heads.zero_length}

-- ---- definite strings

abbrev pub made_of : Bool → Width → List ℕ → Spelling
made_of true w q = text w q
made_of false w q = bytes w q

pub made-spells : (is_text : Bool) (w : Width) (q : List ℕ) → spell (made_of is_text w q) ≡ head (string_major is_text) w (length q) ++ q
made-spells true w q = refl
made-spells false w q = refl

pub made-spelled : (is_text : Bool) (w : Width) (q : List ℕ) → Holds w (length q) → AreBytes q → IsSpelled (made_of is_text w q)
made-spelled true w q h g = (h, g)
made-spelled false w q h g = (h, g)

pub made-flat : (is_text : Bool) (w : Width) (q : List ℕ) → depth (made_of is_text w q) ≡ 0
made-flat true w q = refl
made-flat false w q = refl

pub made-value : (is_text : Bool) (w : Width) (q : List ℕ) → value_of (made_of is_text w q) ≡ string_value is_text q
made-value true w q = refl
made-value false w q = refl

made-complains : (is_text : Bool) (w : Width) (q : List ℕ) (r : Rules) (at : ℕ) (c : Complaint) → Complains r at (made_of is_text w q) c
    → OfHead r at (string_major is_text) w (length q) c ⊎ OfPayload r (at + length (head (string_major is_text) w (length q))) q c
made-complains true w q r at c h = h
made-complains false w q r at c h = inl h

-- a string of which a part of the payload was read
pub so-far : (is_text : Bool) (w : Width) (q more : List ℕ) (r : Rules) (at d : ℕ) → Holds w (length (q ++ more)) → AreBytes (q ++ more) → 0 < length more → Never (OfHead r at (string_major is_text) w (length (q ++ more)))
    → IsJudged r at d (head (string_major is_text) w (length (q ++ more)) ++ q) None
so-far is_text w q more r at d holds are some clean =
    let hd = head (string_major is_text) w (length (q ++ more)) in
    let spells = made-spells is_text w (q ++ more) in
    record {
      item = made_of is_text w (q ++ more);
      rest = more;
      is = record { spelled = made-spelled is_text w (q ++ more) holds are; within = omega (arith, made-flat is_text w (q ++ more)); bytes_are = spells ∙ sym (append_assoc hd q more) };
      finding = (
        omega (arith, some, ap length spells, length-append hd (q ++ more), length-append q more, length-append hd q),
        λ e g. elim (made-complains is_text w (q ++ more) r at e g) [
          | inl x ↦ absurd (clean e x)
          | inr x ↦ omega (arith, some, payload_end r (at + length hd) (q ++ more) e x, length-append q more, length-append hd q)
        ],
      );
    }

-- a complete payload that is not UTF-8
pub text_complains : (w : Width) (q : List ℕ) (r : Rules) (at d : ℕ) (c : Complaint) → IsSpelled (text w q) → Never (OfHead r at Text w (length q)) → OfPayload r (at + length (head Text w (length q))) q c
    → IsJudged r at d (head Text w (length q) ++ q) (Some c)
text_complains w q r at d c h clean o =
    let hd = head Text w (length q) in
    let end = payload_end r (at + length hd) q c o in
    let tight = payload_rank r (at + length hd) q c o in
    record {
      item = text w q;
      rest = [];
      is = record { spelled = h; within = omega arith; bytes_are = sym (append-nil (hd ++ q)) };
      finding = record {
        holds = inr o;
        ends = omega (arith, end, length-append hd q);
        first = λ e g l. elim g [ inl x ↦ absurd (clean e x) | inr x ↦ inr (omega (arith, end, payload_end r (at + length hd) q e x), omega (arith, tight, payload_rank r (at + length hd) q e x)) ];
      };
    }

-- ---- chunks

pub chunks_split : (ks ls : List Chunk) (r : Rules) (at to : ℕ) (m : Major) (c : Complaint) → to ≡ at + length (flat_map (chunk_bytes m) ks) → OfChunks r at m (ks ++ ls) c → OfChunks r at m ks c ⊎ OfChunks r to m ls c
chunks_split [] ls r at to m c e h = let f : at ≡ to = omega arith in inr (subst (λ (n : ℕ). OfChunks r n m ls c) f h)
chunks_split (k ∷ ks) ls r at to m c e (inl h) = inl (inl h)
chunks_split (k ∷ ks) ls r at to m c e (inr h) =
    elim (chunks_split ks ls r (at + length (chunk_bytes m k)) to m c (omega (arith, e, length-append (chunk_bytes m k) (flat_map (chunk_bytes m) ks))) h) [ inl x ↦ inl (inr x) | inr y ↦ inr y ]

chunks_right : (ks ls : List Chunk) (r : Rules) (at to : ℕ) (m : Major) (c : Complaint) → to ≡ at + length (flat_map (chunk_bytes m) ks) → OfChunks r to m ls c → OfChunks r at m (ks ++ ls) c
chunks_right [] ls r at to m c e h = let f : to ≡ at = omega arith in subst (λ (n : ℕ). OfChunks r n m ls c) f h
chunks_right (k ∷ ks) ls r at to m c e h = inr (chunks_right ks ls r (at + length (chunk_bytes m k)) to m c (omega (arith, e, length-append (chunk_bytes m k) (flat_map (chunk_bytes m) ks))) h)

pub are_chunks : (ks ls : List Chunk) → AllByRecursion IsChunk ks → AllByRecursion IsChunk ls → AllByRecursion IsChunk (ks ++ ls)
are_chunks [] ls h i = i
are_chunks (k ∷ ks) ls h i = (h.0, are_chunks ks ls h.1 i)

abbrev pub chunks_bytes : Major → List Chunk → List ℕ
chunks_bytes m done = head m Indefinite 0 ++ flat_map (chunk_bytes m) done

-- the two kinds of chunked string
pub record IsChunked (m : Major) (made : List Chunk → Spelling) : Type 0 where
  pub bytes_are : (cs : List Chunk) → spell (made cs) ≡ chunked m cs
  pub spelled : (cs : List Chunk) → AllByRecursion IsChunk cs → IsSpelled (made cs)
  pub flat : (cs : List Chunk) → depth (made cs) ≡ 0
  pub has : (r : Rules) (at : ℕ) (cs : List Chunk) (c : Complaint) → Complains r at (made cs) c → OfIndefinite r at c ⊎ OfChunks r (at + 1) m cs c
  pub back : (r : Rules) (at : ℕ) (cs : List Chunk) (c : Complaint) → OfIndefinite r at c ⊎ OfChunks r (at + 1) m cs c → Complains r at (made cs) c
  pub opener : length (head m Indefinite 0) ≡ 1

abbrev pub chunks_of : Bool → List Chunk → Spelling
chunks_of true = text_chunks
chunks_of false = byte_chunks

pub is-chunked : (is_text : Bool) → IsChunked (string_major is_text) (chunks_of is_text)
is-chunked true = record { bytes_are = λ cs. refl; spelled = λ cs h. h; flat = λ cs. refl; has = λ r at cs c h. h; back = λ r at cs c h. h; opener = refl }
is-chunked false = record { bytes_are = λ cs. refl; spelled = λ cs h. h; flat = λ cs. refl; has = λ r at cs c h. h; back = λ r at cs c h. h; opener = refl }

pub chunks-value : (is_text : Bool) (ks : List Chunk) → value_of (chunks_of is_text ks) ≡ string_value is_text (chunks_joined ks)
chunks-value true ks = refl
chunks-value false ks = refl

chunk_regroup : (h a p rest z : List ℕ) → (h ++ (a ++ ((p ++ rest) ++ []))) ++ z ≡ ((h ++ a) ++ p) ++ (rest ++ z)
chunk_regroup h a p rest z =
    ap (λ (x : List ℕ). (h ++ (a ++ x)) ++ z) (append-nil (p ++ rest)) ∙ ap (λ (x : List ℕ). x ++ z) (sym (append_assoc h a (p ++ rest)) ∙ sym (append_assoc (h ++ a) p rest)) ∙ append_assoc ((h ++ a) ++ p) rest z

-- ---- a chunk, cut or whole: what it has is the string's

abbrev pub chunk : Width → List ℕ → Chunk
chunk w q = record { width = w; payload = q }

-- one more after the others
pub chunks_on : (m : Major) (done : List Chunk) (k : Chunk) → chunks_bytes m done ++ chunk_bytes m k ≡ chunks_bytes m (done ++ k ∷ [])
chunks_on m done k =
    ap (λ (x : List ℕ). head m Indefinite 0 ++ x) (ap (λ (x : List ℕ). flat_map (chunk_bytes m) done ++ x) (sym (append-nil (chunk_bytes m k))) ∙ sym (flat_map-append (chunk_bytes m) done (k ∷ [])))

-- the chunks so far of a string at an offset, without complaint
pub record AreChunksSoFar (r : Rules) (at : ℕ) (m : Major) (done : List Chunk) : Type 0 where
  pub are : AllByRecursion IsChunk done
  pub opener_clean : Never (OfIndefinite r at)
  pub clean : Never (OfChunks r (at + 1) m done)

pub of_string : (r : Rules) (at : ℕ) (m : Major) (w : Width) (q : List ℕ) (c : Complaint) → OfString r at m w q c → OfHead r at m w (length q) c ⊎ OfPayload r (at + length (head m w (length q))) q c
of_string r at Text w q c h = h
of_string r at _ w q c h = inl h

of-text : (is_text : Bool) (w : Width) (q : List ℕ) (r : Rules) (at : ℕ) (c : Complaint) → is_text ≡ true → OfPayload r (at + length (head (string_major is_text) w (length q))) q c → OfString r at (string_major is_text) w q c
of-text true w q r at c e h = inr h
of-text false w q r at c e h = absurd (true≢false (sym e))

string-clean : (is_text : Bool) (w : Width) (q : List ℕ) (r : Rules) (at : ℕ) → Never (OfHead r at (string_major is_text) w (length q)) → (is_text ≡ true → IsUtf8 q) → Never (OfString r at (string_major is_text) w q)
string-clean true w q r at h u c g = elim g [ inl y ↦ h c y | inr y ↦ y.1 (u refl) ]
string-clean false w q r at h u c g = h c g

module _ (is_text : Bool) (done : List Chunk) (r : Rules) (at d : ℕ) (so_far : AreChunksSoFar r at (string_major is_text) done) where
  abbrev m : Major
  m = string_major is_text

  abbrev made : List Chunk → Spelling
  made = chunks_of is_text

  kind : IsChunked m made
  kind = is-chunked is_text

  abbrev to : ℕ
  to = at + length (chunks_bytes m done)

  there : to ≡ at + 1 + length (flat_map (chunk_bytes m) done)
  there = omega (arith, length-append (head m Indefinite 0) (flat_map (chunk_bytes m) done), kind.opener)

  -- the complaint of the next chunk, complete or cut after p, is the string's
  module _ (k : Chunk) (p rest : List ℕ) (is : IsChunk k) (e : chunk_bytes m k ≡ p ++ rest) where
    abbrev all : List Chunk
    all = done ++ k ∷ []

    whole : spell (made all) ≡ (chunks_bytes m done ++ p) ++ (rest ++ 0xff ∷ [])
    whole =
        kind.bytes_are all ∙ ap (λ (x : List ℕ). (head m Indefinite 0 ++ x) ++ (0xff ∷ [])) (flat_map-append (chunk_bytes m) done (k ∷ []))
        ∙ ap (λ (x : List ℕ). (head m Indefinite 0 ++ (flat_map (chunk_bytes m) done ++ (x ++ []))) ++ (0xff ∷ [])) e
        ∙ chunk_regroup (head m Indefinite 0) (flat_map (chunk_bytes m) done) p rest (0xff ∷ [])

    split : (c : Complaint) → Complains r at (made all) c → OfString r to m k.width k.payload c
    split c g = elim (kind.has r at all c g) [
      | inl x ↦ absurd (so_far.opener_clean c x)
      | inr x ↦ elim (chunks_split done (k ∷ []) r (at + 1) to m c there x) [ inl y ↦ absurd (so_far.clean c y) | inr (inl z) ↦ z | inr (inr z) ↦ absurd z ]
    ]

    found_so : (found : Option Complaint) → IsFinding (OfString r to m k.width k.payload) (to + length p) (to + length (chunk_bytes m k)) found
        → IsFinding (Complains r at (made all)) (at + length (chunks_bytes m done ++ p)) (at + length (spell (made all))) found
    found_so (Some c) h =
        record {
          holds = kind.back r at all c (inr (chunks_right done (k ∷ []) r (at + 1) to m c there (inl h.holds)));
          ends = omega (arith, h.ends, length-append (chunks_bytes m done) p);
          first = λ x g l. h.first x (split x g) (omega (arith, l, length-append (chunks_bytes m done) p));
        }
    found_so None h =
        (omega (arith, ap length whole, length-append (chunks_bytes m done ++ p) (rest ++ 0xff ∷ []), length-append rest (0xff ∷ [])), λ x g. omega (arith, h.1 x (split x g), length-append (chunks_bytes m done) p))

    pub chunk_judged : (found : Option Complaint) → IsFinding (OfString r to m k.width k.payload) (to + length p) (to + length (chunk_bytes m k)) found → IsJudged r at d (chunks_bytes m done ++ p) found
    chunk_judged found h = record {
      item = made all;
      rest = rest ++ 0xff ∷ [];
      is = record { spelled = kind.spelled all (are_chunks done (k ∷ []) so_far.are (is, tt)); within = omega (arith, kind.flat all); bytes_are = whole };
      finding = found_so found h;
    }

  -- between two chunks
  pub between : IsJudged r at d (chunks_bytes m done) None
  between = record {
    item = made done;
    rest = 0xff ∷ [];
    is = record { spelled = kind.spelled done so_far.are; within = omega (arith, kind.flat done); bytes_are = kind.bytes_are done };
    finding = (
      omega (arith, ap length (kind.bytes_are done) ∙ length-append (chunks_bytes m done) (0xff ∷ [])),
      λ x g. elim (kind.has r at done x g) [ inl y ↦ absurd (so_far.opener_clean x y) | inr y ↦ absurd (so_far.clean x y) ],
    );
  }

  -- the head of the next chunk, cut
  pub cut : (w : Width) (n : ℕ) (p more : List ℕ) → Holds w n → p ++ more ≡ head m w n → 0 < length more → IsJudged r at d (chunks_bytes m done ++ p) None
  cut w n p more h e some =
      let q : List ℕ = replicate n 0 in
      let same : length q ≡ n = zero_length n in
      let head_is : head m w (length q) ≡ p ++ more = ap (head m w) same ∙ sym e in
      let bytes_are : chunk_bytes m (chunk w q) ≡ p ++ (more ++ q) = ap (λ (x : List ℕ). x ++ q) head_is ∙ append_assoc p more q in
      chunk_judged (chunk w q) p (more ++ q) (subst (Holds w) (sym same) h, zero_bytes n) bytes_are None (
        omega (arith, some, ap length bytes_are ∙ length-append p (more ++ q), length-append more q),
        λ c g. omega (arith, some, string_later r to m w q c g, ap length head_is ∙ length-append p more),
      )

  none : (p : List ℕ) → p ≡ [] → IsJudged r at d (chunks_bytes m done ++ p) None
  none p e = subst (λ (x : List ℕ). IsJudged r at d x None) (sym (ap (λ (x : List ℕ). chunks_bytes m done ++ x) e ∙ append-nil (chunks_bytes m done))) between

  pub cut_chunk : (limit : ℕ) (fs : List Frame) (q : State) (p : List ℕ) → IsWithin limit (in_chunks m fs) q p → IsJudged r at d (chunks_bytes m done ++ p) None
  cut_chunk limit fs (in_head true n w k acc gs) p h =
      let e : in_chunks m fs ≡ in_chunks n gs = h.0 in
      let same : n ≡ m = cc e in
      let more = replicate (suc k) 0 in
      let whole = h.1 more (zero_length (suc k)) (zero_bytes (suc k)) in
      cut w (number acc more) p more whole.1 (whole.0 ∙ ap (λ (j : Major). head j w (number acc more)) same) (omega (arith, zero_length (suc k)))
  cut_chunk limit fs (in_head false n w k acc gs) p h = let e : in_chunks m fs ≡ at_item gs = h.0 in absurd (cc e)
  cut_chunk limit fs (in_simple gs) p h = let e : in_chunks m fs ≡ at_item gs = h.0 in absurd (cc e)
  cut_chunk limit fs _ p h = none p h.1

  -- the payload of the next chunk, cut
  pub cut_payload : (w : Width) (q more : List ℕ) → IsChunk (chunk w (q ++ more)) → 0 < length more → Never (OfHead r (at + length (chunks_bytes m done)) m w (length (q ++ more)))
      → IsJudged r at d (chunks_bytes m done ++ (head m w (length (q ++ more)) ++ q)) None
  cut_payload w q more h some no_head =
      let hd = head m w (length (q ++ more)) in
      let bytes_are : chunk_bytes m (chunk w (q ++ more)) ≡ (hd ++ q) ++ more = sym (append_assoc hd q more) in
      chunk_judged (chunk w (q ++ more)) (hd ++ q) more h bytes_are None (
        omega (arith, some, length-append hd (q ++ more), length-append q more, length-append hd q),
        λ c g. elim (of_string r to m w (q ++ more) c g) [
          | inl x ↦ absurd (no_head c x)
          | inr x ↦ omega (arith, some, payload_end r (to + length hd) (q ++ more) c x, length-append q more, length-append hd q)
        ],
      )

  -- the next chunk is not UTF-8
  pub chunk_complains : is_text ≡ true → (w : Width) (q : List ℕ) (c : Complaint) → IsChunk (chunk w q) → Never (OfHead r (at + length (chunks_bytes m done)) m w (length q))
      → OfPayload r (at + length (chunks_bytes m done) + length (head m w (length q))) q c
      → IsJudged r at d (chunks_bytes m done ++ (head m w (length q) ++ q)) (Some c)
  chunk_complains e w q c h no_head pay =
      let hd = head m w (length q) in
      let end = payload_end r (to + length hd) q c pay in
      let tight = payload_rank r (to + length hd) q c pay in
      chunk_judged (chunk w q) (hd ++ q) [] h (sym (append-nil (hd ++ q))) (Some c)
      (record {
        holds = of-text is_text w q r to c e pay;
        ends = omega (arith, end, length-append hd q);
        first = λ e g l. elim (of_string r to m w q e g) [
          | inl x ↦ absurd (no_head e x)
          | inr x ↦ inr (omega (arith, end, payload_end r (to + length hd) q e x), omega (arith, tight, payload_rank r (to + length hd) q e x))
        ];
      })

  -- one chunk more
  pub chunks_more : (k : Chunk) → IsChunk k → Never (OfHead r (at + length (chunks_bytes m done)) m k.width (length k.payload)) → (is_text ≡ true → IsUtf8 k.payload) → AreChunksSoFar r at m (done ++ k ∷ [])
  chunks_more k h no_head utf8 = record {
    are = are_chunks done (k ∷ []) so_far.are (h, tt);
    opener_clean = so_far.opener_clean;
    clean = λ c g. elim (chunks_split done (k ∷ []) r (at + 1) to m c there g) [
      | inl x ↦ so_far.clean c x
      | inr (inl y) ↦ string-clean is_text k.width k.payload r to no_head utf8 c y
      | inr (inr y) ↦ y
    ];
  }

  -- the break
  pub chunks_whole : IsSpelled (made done) × Never (Complains r at (made done))
  chunks_whole = (kind.spelled done so_far.are, λ c g. elim (kind.has r at done c g) [ inl x ↦ so_far.opener_clean c x | inr x ↦ so_far.clean c x ])
