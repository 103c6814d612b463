-- What is read has this spelling, and is no deeper than the limit.
use Rattle.std.proofs.Common.{ℕ, zero, suc, ◌≡◌, ◌<◌, ◌≤◌, ◌⊎◌, true, false, cond, List, [], ◌∷◌, ◌++◌, length, take, drop, Option, Some, None, refl, sym, ap, ◌∙◌, arith, nat_le, subst, flat_map, inl, inr, lt-ltb, le-ltb, leb-true, eqb-true, append_assoc, length-take-le, take-append-drop}
use Rattle.std.specs.List.{AllByRecursion}
use Rattle.cbor_head.specs.Prelude.{head, Holds, major_number, shortest, Chunk, Spelling, Spellings, SpelledEntries, bytes, text, byte_chunks, text_chunks, array, a_map, tag, simple, no_spellings, a_spelling, no_entries, entry, spell, spell_all, spell_entries, spellings_count, entries_count, IsSpelled, AreSpelled, AreEntriesSpelled, depth, depth_all, depth_entries, IsChunk, HoldsOrIndefinite, chunk_bytes, chunked, break_of, string_bytes_of, AreBytes}
use Rattle.cbor_head.specs.Read.{◌>>=◌, either, Prefix, prefix, read_head, payload, is_break, same_major, chunk, read_chunk, read_chunks, Reader, read_many, read_pairs, past_break, read_until, read_pairs_until, leaf, container_stack, or_else, read, major_of}
use Rattle.cbor_head.specs.declared.major.Major.TheVariants.{Unsigned, Negative, Bytes, Text, Array, Map, Tag, Simple}
use Rattle.cbor_head.specs.declared.width.Width.TheVariants.{Direct, One, Indefinite}
use Rattle.cbor_head.proofs.HeadBack.{ByPlace, by_place-cons, by_place-take, chosen, bind_some, IsPrefix, read_head-back}
use Rattle.cbor_head.{specs.declared.major.Major.Major, specs.declared.width.Width.Width, proofs.HeadLaws.major_back}
use Rattle.theory_values.proofs.ByteLists.{are_bytes}

-- what was read of b
pub record Fits (d : ℕ) (b : List ℕ) (r : Spelling × List ℕ) : Type 0 where
  pub spelled : IsSpelled r.0
  pub within : depth r.0 ≤ d
  pub bytes_are : spell r.0 ++ r.1 ≡ b

by_place-rest : (xs ys : List ℕ) → ByPlace (xs ++ ys) → ByPlace ys
by_place-rest [] ys h = h
by_place-rest (x ∷ xs) ys h = by_place-rest xs ys (λ i. h (suc i))

-- of the bytes that follow
after : (xs ys b : List ℕ) → xs ++ ys ≡ b → ByPlace b → ByPlace ys
after xs ys b e h = by_place-rest xs ys (subst ByPlace (sym e) h)

pub by_place : (xs : List ℕ) → AreBytes xs → ByPlace xs
by_place [] h = λ i. omega arith
by_place (x ∷ xs) h = by_place-cons x xs h.0 (by_place xs h.1)

payload_from : {A : Type 0} (n : ℕ) (bs : List ℕ) (f : List ℕ → A) (r : A × List ℕ) → payload n bs f ≡ Some r → (n ≤ length bs) × ◌≡◌ {A = A × List ℕ} (f (take n bs), drop n bs) r
payload_from {A} n bs f r e =
    elim (chosen {A = Option (A × List ℕ)} (nat_le n (length bs)) (Some (f (take n bs), drop n bs)) None (Some r) e) [
      | inl p ↦ (leb-true n (length bs) p.0, cc p.1)
      | inr p ↦ absurd (cc p.1)
    ]

holds-take : (w : Width) (n : ℕ) (bs : List ℕ) → n ≤ length bs → Holds w n → Holds w (length (take n bs))
holds-take w n bs l h = rw (length-take-le n bs l) h

string_whole : (m : Major) (w : Width) (n : ℕ) (bs : List ℕ) → n ≤ length bs → string_bytes_of m w (take n bs) ++ drop n bs ≡ head m w n ++ bs
string_whole m w n bs l =
    append_assoc (head m w (length (take n bs))) (take n bs) (drop n bs)
    ∙ ap (λ (b : List ℕ). head m w (length (take n bs)) ++ b) (take-append-drop n bs)
    ∙ ap (λ (k : ℕ). head m w k ++ bs) (length-take-le n bs l)

break_is : (m : Major) (w : Width) (n : ℕ) (bs : List ℕ) → is_break (prefix m w n bs) ≡ true → head m w n ≡ 0xff ∷ []
break_is Simple Indefinite n bs e = refl
break_is _ Indefinite n bs e = absurd (cc e)
break_is _ _ n bs e = absurd (cc e)

same_major-eq : (m o : Major) → same_major m o ≡ true → m ≡ o
same_major-eq m o e = sym (major_back m) ∙ ap major_of (eqb-true (major_number m) (major_number o) e) ∙ major_back o

-- a chunk
chunk_from : (m : Major) (w : Width) (n : ℕ) (bs : List ℕ) (r : Chunk × List ℕ) → HoldsOrIndefinite w n → ByPlace bs → chunk w n bs ≡ Some r → IsChunk r.0 × (chunk_bytes m r.0 ++ r.1 ≡ head m w n ++ bs)
chunk_from m Indefinite n bs r h small e = absurd (cc e)
chunk_from m w n bs r h small e =
    let p = payload_from n bs (λ q. record { width = w; payload = q }) r e in
    let P : Chunk × List ℕ → Type 0 = λ r. IsChunk r.0 × (chunk_bytes m r.0 ++ r.1 ≡ head m w n ++ bs) in
    subst P p.1 ((holds-take w n bs p.0 h, are_bytes (take n bs) (by_place-take n bs small)), string_whole m w n bs p.0)

a_chunk : (m : Major) (h : Prefix) (bs : List ℕ) (c : Chunk × List ℕ) → ByPlace bs → IsPrefix bs h → read_chunk m h ≡ Some c → IsChunk c.0 × (chunk_bytes m c.0 ++ c.1 ≡ bs)
a_chunk m h bs c small fr e =
    elim (chosen {A = Option (Chunk × List ℕ)} (same_major m h.major) (chunk h.width h.argument h.rest) None (Some c) e) [
      | inl p ↦ (
          let k = chunk_from m h.width h.argument h.rest c fr.holds (after (head h.major h.width h.argument) h.rest bs fr.bytes_are small) p.1 in
          (k.0, k.1 ∙ ap (λ (o : Major). head o h.width h.argument ++ h.rest) (same_major-eq m h.major p.0) ∙ fr.bytes_are))
      | inr p ↦ absurd (cc p.1)
    ]

-- the chunks before the break
pub record Chunks (m : Major) (b : List ℕ) (r : List Chunk × List ℕ) : Type 0 where
  pub each : AllByRecursion IsChunk r.0
  pub bytes_are : flat_map (chunk_bytes m) r.0 ++ (0xff ∷ r.1) ≡ b

chunks_from : (m : Major) (k : ℕ) (bs : List ℕ) (r : List Chunk × List ℕ) → ByPlace bs → read_chunks m k bs ≡ Some r → Chunks m bs r
chunks_from m zero bs r small e = absurd (cc e)
chunks_from m (suc k) bs r small e =
    let (h, got, f) = bind_some (read_head bs) (λ h.
    cond (is_break h) (Some ([], h.rest)) (read_chunk m h >>= λ c. read_chunks m k c.1 >>= λ cs. Some (c.0 ∷ cs.0, cs.1))) r e in
    let fr : IsPrefix bs h = read_head-back bs h small got in
    elim (chosen {A = Option (List Chunk × List ℕ)} (is_break h) (Some ([], h.rest)) (read_chunk m h >>= λ c. read_chunks m k c.1 >>= λ cs. Some (c.0 ∷ cs.0, cs.1)) (Some r) f) [
      | inl p ↦ (
          let same : ◌≡◌ {A = List Chunk × List ℕ} ([], h.rest) r = cc p.1 in
          subst (Chunks m bs) same (record { each = tt; bytes_are = ap (λ (l : List ℕ). l ++ h.rest) (sym (break_is h.major h.width h.argument h.rest p.0)) ∙ fr.bytes_are }))
      | inr p ↦ (
          let (c, one, g) = bind_some (read_chunk m h) (λ c. read_chunks m k c.1 >>= λ cs. Some (c.0 ∷ cs.0, cs.1)) r p.1 in
          let (cs, more, i) = bind_some (read_chunks m k c.1) (λ cs. Some (c.0 ∷ cs.0, cs.1)) r g in
          let first = a_chunk m h bs c small fr one in
          let rest = chunks_from m k c.1 cs (after (chunk_bytes m c.0) c.1 bs first.1 small) more in
          let same : ◌≡◌ {A = List Chunk × List ℕ} (c.0 ∷ cs.0, cs.1) r = cc i in
          subst (Chunks m bs) same (record {
            each = (first.0, rest.each);
            bytes_are = append_assoc (chunk_bytes m c.0) (flat_map (chunk_bytes m) cs.0) (0xff ∷ cs.1) ∙ ap (λ (l : List ℕ). chunk_bytes m c.0 ++ l) rest.bytes_are ∙ first.1;
          }))
    ]

some_same : {A : Type 0} {x y : A} → Some x ≡ Some y → x ≡ y
some_same e = cc e

-- a string of a known length
string_fits : (d : ℕ) (m : Major) (w : Width) (n : ℕ) (bs : List ℕ) (make : List ℕ → Spelling) (r : Spelling × List ℕ) → ByPlace bs → Holds w n
    → ((p : List ℕ) → Holds w (length p) → AreBytes p → IsSpelled (make p)) → ((p : List ℕ) → depth (make p) ≡ 0) → ((p : List ℕ) → spell (make p) ≡ string_bytes_of m w p)
    → payload n bs make ≡ Some r → Fits d (head m w n ++ bs) r
string_fits d m w n bs make r small h spelled flat is e =
    let p = payload_from n bs make r e in
    subst (Fits d (head m w n ++ bs)) p.1 (record {
      spelled = spelled (take n bs) (holds-take w n bs p.0 h) (are_bytes (take n bs) (by_place-take n bs small));
      within = rw (flat (take n bs)) (omega arith);
      bytes_are = ap (λ (l : List ℕ). l ++ drop n bs) (is (take n bs)) ∙ string_whole m w n bs p.0;
    })

chunked_fits : (d : ℕ) (m : Major) (bs : List ℕ) (make : List Chunk → Spelling) (r : Spelling × List ℕ) → ByPlace bs
    → ((cs : List Chunk) → AllByRecursion IsChunk cs → IsSpelled (make cs)) → ((cs : List Chunk) → depth (make cs) ≡ 0) → ((cs : List Chunk) → spell (make cs) ≡ chunked m cs)
    → (read_chunks m (length bs) bs >>= λ cs. Some (make cs.0, cs.1)) ≡ Some r → Fits d (head m Indefinite 0 ++ bs) r
chunked_fits d m bs make r small spelled flat is e =
    let (cs, got, f) = bind_some (read_chunks m (length bs) bs) (λ cs. Some (make cs.0, cs.1)) r e in
    let k = chunks_from m (length bs) bs cs small got in
    let same : ◌≡◌ {A = Spelling × List ℕ} (make cs.0, cs.1) r = cc f in
    subst (Fits d (head m Indefinite 0 ++ bs)) same (record {
      spelled = spelled cs.0 k.each;
      within = rw (flat cs.0) (omega arith);
      bytes_are = ap (λ (l : List ℕ). l ++ cs.1) (is cs.0)
          ∙ append_assoc (head m Indefinite 0 ++ flat_map (chunk_bytes m) cs.0) (0xff ∷ []) cs.1
          ∙ append_assoc (head m Indefinite 0) (flat_map (chunk_bytes m) cs.0) (0xff ∷ cs.1)
          ∙ ap (λ (l : List ℕ). head m Indefinite 0 ++ l) k.bytes_are;
    })

simple_fits : (d n : ℕ) (bs : List ℕ) (r : Spelling × List ℕ) → n < 256 → ((nat_le 32 n ≡ true) × ◌≡◌ {A = Option (Spelling × List ℕ)} (Some (simple n, bs)) (Some r)) ⊎ ((nat_le 32 n ≡ false) × ◌≡◌ {A = Option (Spelling × List ℕ)} None (Some r)) → Fits d (head Simple One n ++ bs) r
simple_fits d n bs r h (inl p) =
    let large = leb-true 32 n p.0 in
    let is : shortest n ≡ One = rw (le-ltb n 24 (omega arith), lt-ltb n 256 h) refl in
    subst (Fits d (head Simple One n ++ bs)) (some_same p.1) (record { spelled = (h, λ m. large); within = omega arith; bytes_are = ap (λ (w : Width). head Simple w n ++ bs) is })
simple_fits d n bs r h (inr p) = absurd (cc p.1)

leaf_fits : (d : ℕ) (m : Major) (w : Width) (n : ℕ) (bs : List ℕ) (r : Spelling × List ℕ) → HoldsOrIndefinite w n → ByPlace bs → leaf m w n bs ≡ Some r → Fits d (head m w n ++ bs) r
leaf_fits d Unsigned Indefinite n bs r h small e = absurd (cc e)
leaf_fits d Unsigned w n bs r h small e = subst (Fits d (head Unsigned w n ++ bs)) (some_same e) (record { spelled = h; within = omega arith; bytes_are = refl })
leaf_fits d Negative Indefinite n bs r h small e = absurd (cc e)
leaf_fits d Negative w n bs r h small e = subst (Fits d (head Negative w n ++ bs)) (some_same e) (record { spelled = h; within = omega arith; bytes_are = refl })
leaf_fits d Bytes Indefinite n bs r h small e = chunked_fits d Bytes bs byte_chunks r small (λ cs g. g) (λ cs. refl) (λ cs. refl) e
leaf_fits d Bytes w n bs r h small e = string_fits d Bytes w n bs (bytes w) r small h (λ p g k. (g, k)) (λ p. refl) (λ p. refl) e
leaf_fits d Text Indefinite n bs r h small e = chunked_fits d Text bs text_chunks r small (λ cs g. g) (λ cs. refl) (λ cs. refl) e
leaf_fits d Text w n bs r h small e = string_fits d Text w n bs (text w) r small h (λ p g k. (g, k)) (λ p. refl) (λ p. refl) e
leaf_fits d Simple Direct n bs r h small e =
    let is : shortest n ≡ Direct = rw (lt-ltb n 24 h) refl in
    subst (Fits d (head Simple Direct n ++ bs)) (some_same e) (record { spelled = (omega arith, λ m. absurd (omega arith)); within = omega arith; bytes_are = ap (λ (w : Width). head Simple w n ++ bs) is })
leaf_fits d Simple One n bs r h small e = simple_fits d n bs r h (chosen {A = Option (Spelling × List ℕ)} (nat_le 32 n) (Some (simple n, bs)) None (Some r) e)
leaf_fits _ _ _ n bs r h small e = absurd (cc e)

-- a reader that returns what is spelled
abbrev IsExact : ℕ → Reader → Type 0
IsExact d one = (b : List ℕ) (r : Spelling × List ℕ) → ByPlace b → one b ≡ Some r → Fits d b r

-- items, then what stops them, then what follows
record Members (d : ℕ) (stop b : List ℕ) (r : Spellings × List ℕ) : Type 0 where
  spelled : AreSpelled r.0
  within : depth_all r.0 ≤ d
  bytes_are : spell_all r.0 ++ (stop ++ r.1) ≡ b

record Pairs (d : ℕ) (stop b : List ℕ) (r : SpelledEntries × List ℕ) : Type 0 where
  spelled : AreEntriesSpelled r.0
  within : depth_entries r.0 ≤ d
  bytes_are : spell_entries r.0 ++ (stop ++ r.1) ≡ b

one_more : (d : ℕ) (stop b : List ℕ) (s : Spelling × List ℕ) (ss : Spellings × List ℕ) → Fits d b s → Members d stop s.1 ss → Members d stop b (a_spelling s.0 ss.0, ss.1)
one_more d stop b s ss f m =
    let in1 = f.within in
    let in2 = m.within in
    record {
      spelled = (f.spelled, m.spelled);
      within = omega arith;
      bytes_are = append_assoc (spell s.0) (spell_all ss.0) (stop ++ ss.1) ∙ ap (λ (l : List ℕ). spell s.0 ++ l) m.bytes_are ∙ f.bytes_are;
    }

one_pair : (d : ℕ) (stop b : List ℕ) (k v : Spelling × List ℕ) (es : SpelledEntries × List ℕ) → Fits d b k → Fits d k.1 v → Pairs d stop v.1 es → Pairs d stop b (entry k.0 v.0 es.0, es.1)
one_pair d stop b k v es f g m =
    let in1 = f.within in
    let in2 = g.within in
    let in3 = m.within in
    record {
      spelled = (f.spelled, g.spelled, m.spelled);
      within = omega arith;
      bytes_are = append_assoc (spell k.0 ++ spell v.0) (spell_entries es.0) (stop ++ es.1) ∙ append_assoc (spell k.0) (spell v.0) (spell_entries es.0 ++ (stop ++ es.1))
          ∙ ap (λ (l : List ℕ). spell k.0 ++ (spell v.0 ++ l)) m.bytes_are ∙ ap (λ (l : List ℕ). spell k.0 ++ l) g.bytes_are ∙ f.bytes_are;
    }

many_fit : (d : ℕ) (one : Reader) → IsExact d one → (k : ℕ) (bs : List ℕ) (r : Spellings × List ℕ) → ByPlace bs → read_many one k bs ≡ Some r → Members d [] bs r × (spellings_count r.0 ≡ k)
many_fit d one exact zero bs r small e =
    let P : Spellings × List ℕ → Type 0 = λ r. Members d [] bs r × (spellings_count r.0 ≡ 0) in
    subst P (some_same e) (record { spelled = tt; within = omega arith; bytes_are = refl }, refl)
many_fit d one exact (suc k) bs r small e =
    let (s, got, f) = bind_some (one bs) (λ s. read_many one k s.1 >>= λ ss. Some (a_spelling s.0 ss.0, ss.1)) r e in
    let (ss, more, g) = bind_some (read_many one k s.1) (λ ss. Some (a_spelling s.0 ss.0, ss.1)) r f in
    let first = exact bs s small got in
    let rest = many_fit d one exact k s.1 ss (after (spell s.0) s.1 bs first.bytes_are small) more in
    let P : Spellings × List ℕ → Type 0 = λ r. Members d [] bs r × (spellings_count r.0 ≡ suc k) in
    subst P (some_same g) (one_more d [] bs s ss first rest.0, ap (λ (n : ℕ). suc n) rest.1)

pairs_fit : (d : ℕ) (one : Reader) → IsExact d one → (k : ℕ) (bs : List ℕ) (r : SpelledEntries × List ℕ) → ByPlace bs → read_pairs one k bs ≡ Some r → Pairs d [] bs r × (entries_count r.0 ≡ k)
pairs_fit d one exact zero bs r small e =
    let P : SpelledEntries × List ℕ → Type 0 = λ r. Pairs d [] bs r × (entries_count r.0 ≡ 0) in
    subst P (some_same e) (record { spelled = tt; within = omega arith; bytes_are = refl }, refl)
pairs_fit d one exact (suc k) bs r small e =
    let (s, got, f) = bind_some (one bs) (λ s. one s.1 >>= λ v. read_pairs one k v.1 >>= λ es. Some (entry s.0 v.0 es.0, es.1)) r e in
    let (v, next, g) = bind_some (one s.1) (λ v. read_pairs one k v.1 >>= λ es. Some (entry s.0 v.0 es.0, es.1)) r f in
    let (es, more, i) = bind_some (read_pairs one k v.1) (λ es. Some (entry s.0 v.0 es.0, es.1)) r g in
    let first = exact bs s small got in
    let small1 = after (spell s.0) s.1 bs first.bytes_are small in
    let second = exact s.1 v small1 next in
    let rest = pairs_fit d one exact k v.1 es (after (spell v.0) v.1 s.1 second.bytes_are small1) more in
    let P : SpelledEntries × List ℕ → Type 0 = λ r. Pairs d [] bs r × (entries_count r.0 ≡ suc k) in
    subst P (some_same i) (one_pair d [] bs s v es first second rest.0, ap (λ (n : ℕ). suc n) rest.1)

past_fits : (bs rest : List ℕ) → ByPlace bs → past_break bs ≡ Some rest → 0xff ∷ rest ≡ bs
past_fits bs rest small e =
    let (h, got, f) = bind_some (read_head bs) (λ h. cond (is_break h) (Some h.rest) None) rest e in
    let fr : IsPrefix bs h = read_head-back bs h small got in
    elim (chosen {A = Option (List ℕ)} (is_break h) (Some h.rest) None (Some rest) f) [
      | inl p ↦ (
          let same : h.rest ≡ rest = some_same p.1 in
          ap (λ (l : List ℕ). 0xff ∷ l) (sym same) ∙ ap (λ (l : List ℕ). l ++ h.rest) (sym (break_is h.major h.width h.argument h.rest p.0)) ∙ fr.bytes_are)
      | inr p ↦ absurd (cc p.1)
    ]

until_step : (d : ℕ) (one : Reader) (k : ℕ) (bs : List ℕ) (r : Spellings × List ℕ) → ByPlace bs → IsExact d one
    → ((b : List ℕ) → ByPlace b → (q : Spellings × List ℕ) → read_until one k b ≡ Some q → Members d (0xff ∷ []) b q)
    → (o : Option (Spelling × List ℕ)) → one bs ≡ o
    → either (past_break bs >>= λ rest. Some (no_spellings, rest)) (λ s. read_until one k s.1 >>= λ ss. Some (a_spelling s.0 ss.0, ss.1)) o ≡ Some r → Members d (0xff ∷ []) bs r
until_step d one k bs r small exact more None was e =
    let (rest, got, f) = bind_some (past_break bs) (λ rest. Some (no_spellings, rest)) r e in
    subst (Members d (0xff ∷ []) bs) (some_same f) (record { spelled = tt; within = omega arith; bytes_are = past_fits bs rest small got })
until_step d one k bs r small exact more (Some s) was e =
    let (ss, got, f) = bind_some (read_until one k s.1) (λ ss. Some (a_spelling s.0 ss.0, ss.1)) r e in
    let first = exact bs s small was in
    subst (Members d (0xff ∷ []) bs) (some_same f) (one_more d (0xff ∷ []) bs s ss first (more s.1 (after (spell s.0) s.1 bs first.bytes_are small) ss got))

until_fit : (d : ℕ) (one : Reader) → IsExact d one → (k : ℕ) (bs : List ℕ) (r : Spellings × List ℕ) → ByPlace bs → read_until one k bs ≡ Some r → Members d (0xff ∷ []) bs r
until_fit d one exact zero bs r small e = absurd (cc e)
until_fit d one exact (suc k) bs r small e = until_step d one k bs r small exact (λ b l q g. until_fit d one exact k b q l g) (one bs) refl e

pairs_until_step : (d : ℕ) (one : Reader) (k : ℕ) (bs : List ℕ) (r : SpelledEntries × List ℕ) → ByPlace bs → IsExact d one
    → ((b : List ℕ) → ByPlace b → (q : SpelledEntries × List ℕ) → read_pairs_until one k b ≡ Some q → Pairs d (0xff ∷ []) b q)
    → (o : Option (Spelling × List ℕ)) → one bs ≡ o
    → either (past_break bs >>= λ rest. Some (no_entries, rest)) (λ s. one s.1 >>= λ v. read_pairs_until one k v.1 >>= λ es. Some (entry s.0 v.0 es.0, es.1)) o ≡ Some r → Pairs d (0xff ∷ []) bs r
pairs_until_step d one k bs r small exact more None was e =
    let (rest, got, f) = bind_some (past_break bs) (λ rest. Some (no_entries, rest)) r e in
    subst (Pairs d (0xff ∷ []) bs) (some_same f) (record { spelled = tt; within = omega arith; bytes_are = past_fits bs rest small got })
pairs_until_step d one k bs r small exact more (Some s) was e =
    let (v, next, g) = bind_some (one s.1) (λ v. read_pairs_until one k v.1 >>= λ es. Some (entry s.0 v.0 es.0, es.1)) r e in
    let (es, got, f) = bind_some (read_pairs_until one k v.1) (λ es. Some (entry s.0 v.0 es.0, es.1)) r g in
    let first = exact bs s small was in
    let small1 = after (spell s.0) s.1 bs first.bytes_are small in
    let second = exact s.1 v small1 next in
    subst (Pairs d (0xff ∷ []) bs) (some_same f) (one_pair d (0xff ∷ []) bs s v es first second (more v.1 (after (spell v.0) v.1 s.1 second.bytes_are small1) es got))

pairs_until_fit : (d : ℕ) (one : Reader) → IsExact d one → (k : ℕ) (bs : List ℕ) (r : SpelledEntries × List ℕ) → ByPlace bs → read_pairs_until one k bs ≡ Some r → Pairs d (0xff ∷ []) bs r
pairs_until_fit d one exact zero bs r small e = absurd (cc e)
pairs_until_fit d one exact (suc k) bs r small e = pairs_until_step d one k bs r small exact (λ b l q g. pairs_until_fit d one exact k b q l g) (one bs) refl e

-- a container whose members, in the number that its head has, and whose end were read
closed : (d : ℕ) (m : Major) (w : Width) (n c : ℕ) (body stop rest bs : List ℕ) (s : Spelling) → IsSpelled s → depth s ≤ d → spell s ≡ head m w c ++ body ++ break_of w → c ≡ n → stop ≡ break_of w → body ++ (stop ++ rest) ≡ bs
    → Fits d (head m w n ++ bs) (s, rest)
closed d m w n c body stop rest bs s h l is e f g = record {
  spelled = h;
  within = l;
  bytes_are = ap (λ (x : List ℕ). x ++ rest) is ∙ append_assoc (head m w c ++ body) (break_of w) rest ∙ append_assoc (head m w c) body (break_of w ++ rest)
      ∙ ap (λ (x : List ℕ). head m w c ++ (body ++ (x ++ rest))) (sym f) ∙ ap (λ (x : List ℕ). head m w c ++ x) g ∙ ap (λ (k : ℕ). head m w k ++ bs) e;
}

container_stack_fits : (d : ℕ) (one : Reader) → IsExact d one → (m : Major) (w : Width) (n : ℕ) (bs : List ℕ) (r : Spelling × List ℕ) → HoldsOrIndefinite w n → ByPlace bs → container_stack one m w n bs ≡ Some r → Fits (suc d) (head m w n ++ bs) r
container_stack_fits d one exact Array Indefinite n bs r h small e =
    let (ss, got, f) = bind_some (read_until one (length bs) bs) (λ ss. Some (array Indefinite ss.0, ss.1)) r e in
    let k = until_fit d one exact (length bs) bs ss small got in
    subst (Fits (suc d) (head Array Indefinite n ++ bs)) (some_same f)
    (closed (suc d) Array Indefinite n n (spell_all ss.0) (0xff ∷ []) ss.1 bs (array Indefinite ss.0) (tt, k.spelled) (omega (arith, k.within)) refl refl refl k.bytes_are)
container_stack_fits d one exact Array w n bs r h small e =
    let (ss, got, f) = bind_some (read_many one n bs) (λ ss. Some (array w ss.0, ss.1)) r e in
    let k = many_fit d one exact n bs ss small got in
    subst (Fits (suc d) (head Array w n ++ bs)) (some_same f)
    (closed (suc d) Array w n (spellings_count ss.0) (spell_all ss.0) [] ss.1 bs (array w ss.0) (subst (HoldsOrIndefinite w) (sym k.1) h, k.0.spelled) (omega (arith, k.0.within)) refl k.1 refl k.0.bytes_are)
container_stack_fits d one exact Map Indefinite n bs r h small e =
    let (es, got, f) = bind_some (read_pairs_until one (length bs) bs) (λ es. Some (a_map Indefinite es.0, es.1)) r e in
    let k = pairs_until_fit d one exact (length bs) bs es small got in
    subst (Fits (suc d) (head Map Indefinite n ++ bs)) (some_same f)
    (closed (suc d) Map Indefinite n n (spell_entries es.0) (0xff ∷ []) es.1 bs (a_map Indefinite es.0) (tt, k.spelled) (omega (arith, k.within)) refl refl refl k.bytes_are)
container_stack_fits d one exact Map w n bs r h small e =
    let (es, got, f) = bind_some (read_pairs one n bs) (λ es. Some (a_map w es.0, es.1)) r e in
    let k = pairs_fit d one exact n bs es small got in
    subst (Fits (suc d) (head Map w n ++ bs)) (some_same f)
    (closed (suc d) Map w n (entries_count es.0) (spell_entries es.0) [] es.1 bs (a_map w es.0) (subst (HoldsOrIndefinite w) (sym k.1) h, k.0.spelled) (omega (arith, k.0.within)) refl k.1 refl k.0.bytes_are)
container_stack_fits d one exact Tag Indefinite n bs r h small e = absurd (cc e)
container_stack_fits d one exact Tag w n bs r h small e =
    let (s, got, f) = bind_some (one bs) (λ s. Some (tag w n s.0, s.1)) r e in
    let k = exact bs s small got in
    let deep = k.within in
    subst (Fits (suc d) (head Tag w n ++ bs)) (some_same f) (record {
      spelled = (h, k.spelled);
      within = omega arith;
      bytes_are = append_assoc (head Tag w n) (spell s.0) s.1 ∙ ap (λ (l : List ℕ). head Tag w n ++ l) k.bytes_are;
    })
container_stack_fits d one exact _ w n bs r h small e = absurd (cc e)

prefix_fits : (d : ℕ) (b : List ℕ) (h : Prefix) (r : Spelling × List ℕ) → IsPrefix b h → Fits d (head h.major h.width h.argument ++ h.rest) r → Fits d b r
prefix_fits d b h r fr k = subst (λ (l : List ℕ). Fits d l r) fr.bytes_are k

either_of : (a b : Option (Spelling × List ℕ)) (r : Spelling × List ℕ) → or_else a b ≡ Some r → (a ≡ Some r) ⊎ (b ≡ Some r)
either_of None b r e = inr e
either_of (Some x) b r e = inl e

-- what is read at the start of bytes is an item of at most this depth, and these are its bytes and what follows
pub read_fits : (d : ℕ) (b : List ℕ) (r : Spelling × List ℕ) → ByPlace b → read d b ≡ Some r → Fits d b r
unfolding read
read_fits zero b r small e =
    let (h, got, f) = bind_some (read_head b) (λ h. leaf h.major h.width h.argument h.rest) r e in
    let fr = read_head-back b h small got in
    prefix_fits 0 b h r fr (leaf_fits 0 h.major h.width h.argument h.rest r fr.holds (after (head h.major h.width h.argument) h.rest b fr.bytes_are small) f)
read_fits (suc d) b r small e =
    let (h, got, f) = bind_some (read_head b) (λ h. or_else (leaf h.major h.width h.argument h.rest) (container_stack (read d) h.major h.width h.argument h.rest)) r e in
    let fr = read_head-back b h small got in
    let less = after (head h.major h.width h.argument) h.rest b fr.bytes_are small in
    prefix_fits (suc d) b h r fr (elim (either_of (leaf h.major h.width h.argument h.rest) (container_stack (read d) h.major h.width h.argument h.rest) r f) [
      | inl g ↦ leaf_fits (suc d) h.major h.width h.argument h.rest r fr.holds less g
      | inr g ↦ container_stack_fits d (read d) (λ c q l i. read_fits d c q l i) h.major h.width h.argument h.rest r fr.holds less g
    ])
