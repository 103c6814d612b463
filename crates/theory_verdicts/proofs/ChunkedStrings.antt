-- Strings of chunks.
use Rattle.std.proofs.Common.{◌≡◌, ℕ, ◌+◌, ◌-◌, ◌<◌, ◌≤◌, ◌⊎◌, Bool, true, false, Option, Some, None, List, [], ◌∷◌, ◌++◌, length, refl, sym, ap, ◌∙◌, subst, inl, inr, arith, append_assoc, append-nil, IsTrue, IsUtf8, length-append}
use Rattle.std.{specs.Str.Lossy.utf8_valid_len, proofs.lemmas.Grind.flat_map-append, proofs.lemmas.Str.IsUtf8-nil, proofs.lemmas.Str.IsUtf8-append}
use Rattle.std.proofs.KnownBytes.{Consumes-trans}
use Rattle.cbor_head.specs.Prelude.{Holds, head, Bounds, AreBytes, Chunk, spell, chunks_joined, Rules, Complaint, complaint, OfHead, OfIndefinite, OfCount, refusal}
use Rattle.cbor_head.specs.declared.major.Major.TheVariants as majors
use Rattle.cbor_head.specs.declared.event.EventKind.TheVariants as kinds
use Rattle.cbor_head.specs.declared.{major.Major.Major, width.Width.Width, width.Width.TheVariants.Indefinite, reason.Refusal.Refusal}
use Rattle.cbor_head.specs.declared.{reason.Reason.TheVariants.InvalidText, event.Event.Event, event.EventKind.EventKind}
use Rattle.theory_values.proofs.ReadLaws.{length_head}
use Rattle.theory_automaton.{specs.Trace.a_head, specs.Marks.mark_of, proofs.Taking.nothing-taken}
use Rattle.cbor_machine.specs.NextEvent.{ItemEventsView}
use Rattle.theory_verdicts.specs.Place.{Container, Place, at_item, in_chunks, close, payload, IsTaking}
use Rattle.theory_verdicts.specs.Reading.{IsAt, IsFormRefusal, IsNextHead, Extends, IsBegun, OfMark, ReadsItem, StopsItem, ReadsPayload, StopsPayload, string_major, string_kind, string_value, state_at}
use Rattle.theory_verdicts.proofs.Items.{whole-cause, extends-none, extends-on}
use Rattle.theory_verdicts.proofs.Leaves.{chunks_bytes, chunks_of, is-chunked, chunks-value, chunks_on, chunk, AreChunksSoFar, cut_chunk, chunk_complains, chunks_more, chunks_whole}
use Rattle.theory_verdicts.{specs.Judged.IsJudged, specs.Judged.Never, proofs.Scalars.at-as, proofs.CutHeads.chunk_cut, proofs.Steps.Stops}
use Rattle.theory_verdicts.proofs.WholeStrings.{stops-payload}

-- ---- of chunks

-- The chunks so far of a string that follows t, of which x was read when from was left.
pub record IsReadingChunks (r : Rules) (b : Bounds) (fs : List Container) (t x : List ℕ) (text : Bool) (content : List ℕ) (from now : Option (List ℕ)) (e : ItemEventsView) : Type 0 where
  pub done : List Chunk
  pub so_far : AreChunksSoFar r (length t) (string_major text) done
  pub taken : Extends x (chunks_bytes (string_major text) done) from now
  pub at : IsAt b e (t ++ chunks_bytes (string_major text) done) (in_chunks (string_major text) fs)
  pub content_is : content ≡ chunks_joined done
  pub utf8 : text ≡ true → IsUtf8 content

-- the opener
record Opener (r : Rules) (b : Bounds) (fs : List Container) (t x : List ℕ) (text : Bool) (next : Place) : Type 0 where
  bytes_are : x ≡ head (string_major text) Indefinite 0
  follows : next ≡ in_chunks (string_major text) fs
  clean : Never (OfIndefinite r (length t))

opener-is : (r : Rules) (b : Bounds) (fs : List Container) (t x : List ℕ) (e : ItemEventsView) (w : Width) (text : Bool) → (i : IsBegun r b fs t x e w (string_kind text None)) → Opener r b fs t x text i.next
opener-is r b fs t x e w true i =
    let h = subst (λ (v : Width). IsTaking b.depth (at_item fs) (a_head majors.Text v 0) x i.next) i.proper i.taking in
    record { bytes_are = h.1; follows = h.2; clean = λ c g. i.clean c (subst (λ (v : Width). OfCount r (length t) majors.Text v 0 c) (sym i.proper) g) }
opener-is r b fs t x e w false i =
    let h = subst (λ (v : Width). IsTaking b.depth (at_item fs) (a_head majors.Bytes v 0) x i.next) i.proper i.taking in
    record { bytes_are = h.1; follows = h.2; clean = λ c g. i.clean c (subst (λ (v : Width). OfCount r (length t) majors.Bytes v 0 c) (sym i.proper) g) }

pub starts-chunks : (r : Rules) (b : Bounds) (fs : List Container) (t x : List ℕ) (e : ItemEventsView) (w : Width) (text : Bool) (from : Option (List ℕ)) → IsBegun r b fs t x e w (string_kind text None)
    → IsReadingChunks r b fs t x text [] from from e
starts-chunks r b fs t x e w text from i =
    let h = opener-is r b fs t x e w text i in
    let bytes_are : x ≡ chunks_bytes (string_major text) [] = h.bytes_are ∙ sym (append-nil (head (string_major text) Indefinite 0)) in
    record {
      done = [];
      so_far = record { are = tt; opener_clean = h.clean; clean = λ c g. g };
      taken = subst (λ (y : List ℕ). Extends x y from from) bytes_are (extends-none x from);
      at = at-as b e (t ++ x) (t ++ chunks_bytes (string_major text) []) i.next (in_chunks (string_major text) fs) (ap (λ (y : List ℕ). t ++ y) bytes_are) h.follows i.at;
      content_is = refl;
      utf8 = λ y. IsUtf8-nil;
    }

pub chunk-or-end : (d : ℕ) (m : Major) (fs : List Container) (w : Width) (kind : EventKind) (bs : List ℕ) (next : Place) → IsTaking d (in_chunks m fs) (mark_of w kind) bs next → ((n : ℕ) × (kind ≡ kinds.Chunk n)) ⊎ (kind ≡ kinds.End)
chunk-or-end d m fs w (kinds.Chunk n) bs next h = inl (n, refl)
chunk-or-end d m fs w kinds.End bs next h = inr refl
chunk-or-end d m fs w _ bs next h = absurd h

-- a chunk's head
record ChunkHead (r : Rules) (at : ℕ) (m : Major) (fs : List Container) (w : Width) (n : ℕ) (bs : List ℕ) (next : Place) : Type 0 where
  bytes_are : bs ≡ head m w n
  holds : Holds w n
  follows : next ≡ payload true m n fs
  clean : Never (OfHead r at m w n)

chunk-head : (r : Rules) (b : Bounds) (m : Major) (fs : List Container) (t : List ℕ) (ev : Event) (from to : Option (List ℕ)) (new : ItemEventsView) (k : ℕ) → (n : IsNextHead r b (in_chunks m fs) t ev from to new) → ev.kind ≡ kinds.Chunk k
    → ChunkHead r (length t) m fs ev.width k n.bytes n.next
chunk-head r b m fs t ev from to new k n e =
    let h = subst (λ (x : EventKind). IsTaking b.depth (in_chunks m fs) (mark_of ev.width x) n.bytes n.next) e n.taking in
    let f = subst (λ (x : EventKind). (c : Complaint) → OfMark r (length t) (in_chunks m fs) (mark_of ev.width x) c → ⊥) e n.clean in
    record { bytes_are = h.0; holds = h.1; follows = h.2; clean = f }

module _ (r : Rules) (b : Bounds) (fs : List Container) (t x : List ℕ) (text : Bool) (content : List ℕ) (from mid : Option (List ℕ)) (e : ItemEventsView) (a : IsReadingChunks r b fs t x text content from mid e) where
  there : length (t ++ chunks_bytes (string_major text) a.done) ≡ length t + length (chunks_bytes (string_major text) a.done)
  there = length-append t (chunks_bytes (string_major text) a.done)

  -- no head comes
  pub stops-chunk-head : (to : Option (List ℕ)) (f : Refusal) → Stops b (in_chunks (string_major text) fs) (t ++ chunks_bytes (string_major text) a.done) mid to f → StopsItem r b fs t x from to f
  stops-chunk-head to f s =
      let y = chunks_bytes (string_major text) a.done in
      let c = s.cut in
      record {
        bytes = y ++ s.bytes;
        taken = extends-on x y s.bytes (y ++ s.bytes) from mid to a.taken s.consumed refl;
        read = s.read ∙ ap length (append_assoc t y s.bytes);
        why = inr (record {
          p = y ++ c.p;
          last = c.last;
          splits = ap (λ (u : List ℕ). y ++ u) c.splits ∙ sym (append_assoc y c.p c.last);
          found = None;
          judged = cut_chunk text a.done r (length t) (b.depth - length fs) a.so_far b.depth fs c.begun c.p (nothing-taken b.depth (state_at (in_chunks (string_major text) fs)) c.begun c.p tt c.are_bytes c.ran);
          cause = (c.place ∙ ap length (append_assoc t y c.p), subst (λ (u : List ℕ). IsFormRefusal b u to f) (append_assoc t y s.bytes) c.refused);
        });
      }

  module _ (ev : Event) (mid2 : Option (List ℕ)) (e2 : ItemEventsView) (n : IsNextHead r b (in_chunks (string_major text) fs) (t ++ chunks_bytes (string_major text) a.done) ev mid mid2 e2) where
    pub chunk-kind : ((k : ℕ) → ev.kind ≡ kinds.Chunk k → ⊥) → (ev.kind ≡ kinds.End → ⊥) → ⊥
    chunk-kind f g = elim (chunk-or-end b.depth (string_major text) fs ev.width ev.kind n.bytes n.next n.taking) [ inl h ↦ f h.0 h.1 | inr h ↦ g h ]

    -- the break
    pub chunks-end : ev.kind ≡ kinds.End → ReadsItem r b fs t x from mid2 e2 (string_value text content) × (text ≡ true → IsUtf8 content)
    chunks-end is =
        let m = string_major text in
        let y = chunks_bytes m a.done in
        let h = subst (λ (k : EventKind). IsTaking b.depth (in_chunks m fs) (mark_of ev.width k) n.bytes n.next) is n.taking in
        let whole = chunks_whole text a.done r (length t) (b.depth - length fs) a.so_far in
        let bytes_are : y ++ n.bytes ≡ spell (chunks_of text a.done) = ap (λ (u : List ℕ). y ++ u) h.0 ∙ sym ((is-chunked text).bytes_are a.done) in (
          record {
            item = chunks_of text a.done;
            spelled = whole.0;
            within = omega (arith, (is-chunked text).flat a.done);
            clean = whole.1;
            taken = extends-on x y n.bytes (spell (chunks_of text a.done)) from mid mid2 a.taken n.consumed (sym bytes_are);
            value = chunks-value text a.done ∙ ap (string_value text) (sym a.content_is);
            at = at-as b e2 ((t ++ y) ++ n.bytes) (t ++ spell (chunks_of text a.done)) n.next (close fs) (append_assoc t y n.bytes ∙ ap (λ (u : List ℕ). t ++ u) bytes_are) h.1 n.at;
          },
          a.utf8,
        )

    module _ (k : ℕ) (is : ev.kind ≡ kinds.Chunk k) where
      hd : ChunkHead r (length (t ++ chunks_bytes (string_major text) a.done)) (string_major text) fs ev.width k n.bytes n.next
      hd = chunk-head r b (string_major text) fs (t ++ chunks_bytes (string_major text) a.done) ev mid mid2 e2 k n is

      clean-head : Never (OfHead r (length t + length (chunks_bytes (string_major text) a.done)) (string_major text) ev.width k)
      clean-head c g = hd.clean c (subst (λ (j : ℕ). OfHead r j (string_major text) ev.width k c) (sym there) g)

      -- its payload is expected
      pub chunk-expected : IsAt b e2 ((t ++ chunks_bytes (string_major text) a.done) ++ n.bytes) (payload true (string_major text) k fs)
      chunk-expected = at-as b e2 ((t ++ chunks_bytes (string_major text) a.done) ++ n.bytes) ((t ++ chunks_bytes (string_major text) a.done) ++ n.bytes) n.next (payload true (string_major text) k fs) refl hd.follows n.at

      more-bytes : (q : List ℕ) → length q ≡ k → chunks_bytes (string_major text) a.done ++ (n.bytes ++ q) ≡ chunks_bytes (string_major text) (a.done ++ chunk ev.width q ∷ [])
      more-bytes q count =
          let m = string_major text in
          ap (λ (u : List ℕ). chunks_bytes m a.done ++ (u ++ q)) (hd.bytes_are ∙ ap (head m ev.width) (sym count)) ∙ chunks_on m a.done (chunk ev.width q)

      -- it is read
      pub chunk-next : (content2 : List ℕ) (to : Option (List ℕ)) (new : ItemEventsView)
          → (reads : ReadsPayload b (in_chunks (string_major text) fs) ((t ++ chunks_bytes (string_major text) a.done) ++ n.bytes) k content content2 mid2 to new) → (text ≡ true → IsUtf8 reads.bytes)
          → IsReadingChunks r b fs t x text content2 from to new
      chunk-next content2 to new reads utf8 =
          let m = string_major text in
          let y = chunks_bytes m a.done in
          let q = reads.bytes in
          let one = chunk ev.width q in
          let bytes_are = more-bytes q reads.count in
          let holds = subst (Holds ev.width) (sym reads.count) hd.holds in
          record {
            done = a.done ++ one ∷ [];
            so_far = chunks_more text a.done r (length t) (b.depth - length fs) a.so_far one (holds, reads.are_bytes)
                (subst (λ (j : ℕ). Never (OfHead r (length t + length y) m ev.width j)) (sym reads.count) clean-head) utf8;
            taken = extends-on x y (n.bytes ++ q) (chunks_bytes m (a.done ++ one ∷ [])) from mid to a.taken (Consumes-trans mid mid2 to n.bytes q n.consumed reads.consumed) (sym bytes_are);
            at = at-as b new (((t ++ y) ++ n.bytes) ++ q) (t ++ chunks_bytes m (a.done ++ one ∷ [])) (in_chunks m fs) (in_chunks m fs)
                (append_assoc (t ++ y) n.bytes q ∙ append_assoc t y (n.bytes ++ q) ∙ ap (λ (u : List ℕ). t ++ u) bytes_are) refl reads.at;
            content_is = reads.grows ∙ ap (λ (u : List ℕ). u ++ q) a.content_is ∙ ap (λ (u : List ℕ). chunks_joined a.done ++ u) (sym (append-nil q)) ∙ sym (flat_map-append (λ (c : Chunk). c.payload) a.done (one ∷ []));
            utf8 = λ g. subst IsUtf8 (sym reads.grows) (IsUtf8-append content q (a.utf8 g) (utf8 g));
          }

      -- a part of it has come
      chunk-part : (p : List ℕ) → length p < k → AreBytes p → IsJudged r (length t) (b.depth - length fs) ((chunks_bytes (string_major text) a.done ++ n.bytes) ++ p) None
      chunk-part p short are_bytes =
          let y = chunks_bytes (string_major text) a.done in
          subst (λ (u : List ℕ). IsJudged r (length t) (b.depth - length fs) u None) (ap (λ (u : List ℕ). y ++ (u ++ p)) (sym hd.bytes_are) ∙ sym (append_assoc y n.bytes p))
          (chunk_cut ev.width k p hd.holds are_bytes short r (length t) (b.depth - length fs) text a.done a.so_far clean-head)

      -- it is refused
      pub stops-chunk : IsTrue r.texts → (to : Option (List ℕ)) (f : Refusal) → StopsPayload b ((t ++ chunks_bytes (string_major text) a.done) ++ n.bytes) k text mid2 to f → StopsItem r b fs t x from to f
      stops-chunk looks to f s =
          let m = string_major text in
          let y = chunks_bytes m a.done in
          let z = y ++ n.bytes in
          stops-payload r b fs t z k chunk-part x text from mid2 to f (extends-on x y n.bytes z from mid mid2 a.taken n.consumed refl)
          (λ q is_text v.
          let head_as : n.bytes ≡ head m ev.width (length q) = hd.bytes_are ∙ ap (head m ev.width) (sym v.count) in
          let at = length t + length y + length (head m ev.width (length q)) in
          let here : length (t ++ z) ≡ at = omega (arith, length-append t z, length-append y n.bytes, ap length head_as) in
          let c = complaint (at + length q) (at + utf8_valid_len q) InvalidText in
          whole-cause r b fs t (z ++ q) to f c
          (subst (λ (u : List ℕ). IsJudged r (length t) (b.depth - length fs) u (Some c)) (ap (λ (u : List ℕ). y ++ (u ++ q)) (sym head_as) ∙ sym (append_assoc y n.bytes q))
          (chunk_complains text a.done r (length t) (b.depth - length fs) a.so_far is_text ev.width q c
          (subst (Holds ev.width) (sym v.count) hd.holds, v.are_bytes) (subst (λ (j : ℕ). Never (OfHead r (length t + length y) m ev.width j)) (sym v.count) clean-head) (looks, v.no_text, refl)))
          (v.is ∙ ap (λ (j : ℕ). refusal InvalidText (j + utf8_valid_len q) (j + length q)) here) (subst (λ (u : List ℕ). length u ≤ b.bytes) (append_assoc t z q) v.within))
          (subst (λ (u : List ℕ). StopsPayload b u k text mid2 to f) (append_assoc t y n.bytes) s)

      pub chunk-farther : (q : List ℕ) → length (t ++ chunks_bytes (string_major text) a.done) < length (((t ++ chunks_bytes (string_major text) a.done) ++ n.bytes) ++ q)
      chunk-farther q =
          let y = t ++ chunks_bytes (string_major text) a.done in
          omega (arith, length-append (y ++ n.bytes) q, length-append y n.bytes, ap length hd.bytes_are, length_head (string_major text) ev.width k)
