-- A string in chunks, read chunk by chunk, and given to a sink.
use Rattle.std.proofs.Common.{◌≡◌, ℕ, ◌≤◌, Bool, true, false, List, [], ◌∷◌, ◌++◌, length, take, drop, refl, sym, ap, ◌∙◌, subst, append_assoc, append-nil, arith, IsUtf8, length-take-le, take-append-drop}
use Rattle.std.proofs.lemmas.Grind.{flat_map-append}
use Rattle.cbor_head.specs.Prelude.{plain, Holds, head, Chunk, chunk_bytes, chunks_joined, AreBytes}
use Rattle.theory_values.proofs.ByteLists.{bytes_prefix, bytes_back}
use Rattle.theory_verdicts.proofs.Leaves.{chunks_bytes, chunks_of, is-chunked, chunks-value, chunks_on, chunk, chunks_more, chunks_whole}
use Rattle.theory_verdicts.specs.Levels.{Level, ParseState, item_expected}
use Rattle.theory_verdicts.proofs.{HeadComplaints.heads_free, Levels.clean-anywhere, RefusedChunks.AreChunksRead, RefusedChunks.chunks_are_one}
use Rattle.theory_verdicts.specs.{Kinds.IsOfOneHead, Reading.string_major, Reading.string_value}
use Rattle.cbor_parser.specs.Sink.{Reported, BeginsString, IsChunkExpected, GrowsString, IsItemExpected}
use Rattle.cbor_parser.specs.inner.Parts.{IsHead, IsPayload, chunked_from}
use Rattle.cbor_parser.proofs.GivenItems.{IsScalar, string-bytes}

pub none-read : (t : Bool) (following : List ℕ) → AreBytes following → (read : AreChunksRead t (chunked_from t following) following) × (read.done ≡ [])
none-read t following are = (record { done = []; so_far = λ at. record { are = tt; opener_clean = λ c x. cc x.0; clean = λ c x. x }; bytes = refl; small = are }, refl)

-- one more
pub one-read : (t : Bool) (b rest : List ℕ) (s : AreChunksRead t b rest) (n : ℕ) (from : List ℕ) → IsHead (string_major t) n rest from → n ≤ length from → (t ≡ true → IsUtf8 (take n from))
    → (new : AreChunksRead t b (drop n from)) × (chunks_joined new.done ≡ chunks_joined s.done ++ take n from)
one-read t b rest s n from h inside utf8 =
    let m = string_major t in
    let parts = take-append-drop n from in
    let are : AreBytes (take n from ++ drop n from) = subst AreBytes (sym parts) (bytes_back (head m h.width n) from (subst AreBytes h.is s.small)) in
    let q = take n from in
    let long : length q ≡ n = length-take-le n from inside in
    let k = chunk h.width q in
    let prefix : rest ≡ chunk_bytes m k ++ drop n from = string-bytes m n rest from h inside in (
      record {
        done = s.done ++ k ∷ [];
        so_far = λ at. chunks_more t s.done plain at 0 (s.so_far at) k (subst (Holds h.width) (sym long) h.holds, bytes_prefix q (drop n from) are) (heads_free _ m h.width (length q)) utf8;
        bytes = s.bytes ∙ ap (λ (x : List ℕ). chunks_bytes m s.done ++ x) prefix ∙ sym (append_assoc (chunks_bytes m s.done) (chunk_bytes m k) (drop n from)) ∙ ap (λ (x : List ℕ). x ++ drop n from) (chunks_on m s.done k);
        small = bytes_back q (drop n from) are;
      },
      flat_map-append (λ (c : Chunk). c.payload) s.done (k ∷ []) ∙ ap (λ (x : List ℕ). chunks_joined s.done ++ x) (append-nil q),
    )

-- ---- given to a sink

pub record AreChunks (S : Type 0) (agrees : S → S → ParseState → Type 0) (holds : S → S → List Level → Bool → List ℕ → Type 0) (key t : Bool) (begin rest : List ℕ) (g now : S) : Type 0 where
  pub read : AreChunksRead t begin rest
  pub given : (start : S) (ls : List Level) → Reported S agrees key start g (item_expected ls) → holds start now ls t (chunks_joined read.done)

module _ (S : Type 0) (agrees : S → S → ParseState → Type 0) (holds : S → S → List Level → Bool → List ℕ → Type 0) (key t : Bool) (begin : List ℕ) (g : S) where
  pub no-chunks : (following : List ℕ) (now : S) → begin ≡ chunked_from t following → AreBytes following → BeginsString S agrees holds key t g now → AreChunks S agrees holds key t begin following g now
  no-chunks following now is are begins =
      let (read, none) = none-read t following are in
      subst (λ (x : List ℕ). AreChunks S agrees holds key t x following g now) (sym is) (record { read = read; given = λ start ls expected. subst (λ (ks : List Chunk). holds start now ls t (chunks_joined ks)) (sym none) (begins start ls expected) })

  module _ (rest : List ℕ) (now : S) (s : AreChunks S agrees holds key t begin rest g now) where
    -- a chunk is expected
    pub chunk-expected : IsItemExpected S agrees key g → IsChunkExpected S holds key t now
    chunk-expected (start, d, ls, space, expected) = (start, d, ls, chunks_joined s.read.done, space, s.given start ls expected, expected.1)

    pub one-more : (n size : ℕ) (from : List ℕ) (new : S) → IsHead (string_major t) n rest from → IsPayload false t n size from → GrowsString S holds key t (take size from) now new → AreChunks S agrees holds key t begin (drop size from) g new
    one-more n size from new h p grows =
        let (read, joined) = one-read t begin rest s.read n from h p.inside (p.utf8 refl) in
        subst (λ (i : ℕ). AreChunks S agrees holds key t begin (drop i from) g new) (sym p.all) (record {
          read = read;
          given = λ start ls expected.
              subst (holds start new ls t) (ap (λ (i : ℕ). chunks_joined s.read.done ++ take i from) p.all ∙ sym joined)
              (grows start ls (chunks_joined s.read.done) (s.given start ls expected) expected.1);
        })

    -- the break
    pub all-chunks : (after : List ℕ) → rest ≡ 0xff ∷ after → IsScalar begin after (string_value t (chunks_joined s.read.done))
    all-chunks after e =
        let done = s.read.done in
        let before = chunks_bytes (string_major t) done in
        let kind = is-chunked t in
        let whole = chunks_whole t done plain 0 0 (s.read.so_far 0) in
        record {
          item = chunks_of t done;
          taken = λ d. record { spelled = whole.0; within = omega (arith, kind.flat done); clean = clean-anywhere (chunks_of t done) 0 whole.1 };
          is = s.read.bytes ∙ ap (λ (x : List ℕ). before ++ x) e ∙ sym (append_assoc before (0xff ∷ []) after) ∙ ap (λ (x : List ℕ). x ++ after) (sym (kind.bytes_are done));
          one = subst IsOfOneHead (sym (kind.bytes_are done)) (chunks_are_one t done (0xff ∷ []));
          value_is = chunks-value t done;
        }
