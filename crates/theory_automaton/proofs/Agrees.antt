-- Which bytes have led the machine to a state, in terms of what may follow.
use Rattle.std.proofs.Common.{◌≡◌, ℕ, zero, suc, max, ◌+◌, ◌<◌, ◌≤◌, Bool, true, false, not, List, [], ◌∷◌, ◌++◌, length, flat_map, refl, sym, ap, ap₂, ◌∙◌, subst, arith, append_assoc, append-nil, ltb-true}
use Rattle.std.specs.List.{AllByRecursion}
use Rattle.cbor_head.specs.Prelude.{AreBytes, Holds, head, Chunk, IsChunk, Spelling, Spellings, SpelledEntries, unsigned, negative, bytes, text, array, a_map, tag, no_spellings, a_spelling, no_entries, entry, spellings_count, entries_count, spell, spell_all, spell_entries, chunk_bytes, break_of, IsSpelled, AreSpelled, AreEntriesSpelled, HoldsOrIndefinite, depth, depth_all, depth_entries, IsItem}
use Rattle.cbor_head.specs.declared.major.Major.TheVariants.{Unsigned, Negative, Bytes, Text, Array, Map, Tag, Simple}
use Rattle.cbor_head.specs.declared.{major.Major.Major, width.Width.Width, width.Width.TheVariants.Indefinite}
use Rattle.theory_automaton.specs.Automaton.{Frame, counted, indefinite_array, indefinite_map, State, at_item, in_head, in_simple, in_payload, in_chunks, done, close, expect, close_string, payload, after, has_space}
use Rattle.theory_automaton.proofs.Arguments.{number}

abbrev pub is_odd : ℕ → Bool
is_odd zero = false
is_odd (suc n) = not (is_odd n)

-- the members that may still come
abbrev pub Rest : Frame → Spellings → Type 0
Rest (counted n) ss = spellings_count ss ≡ suc n
Rest indefinite_array ss = Unit {0}
Rest (indefinite_map expected) ss = is_odd (spellings_count ss) ≡ expected

abbrev pub closing : Frame → List ℕ
closing (counted n) = []
closing _ = 0xff ∷ []

-- xs is pre and one item, with k containers around it
pub record Extends (d k : ℕ) (pre xs : List ℕ) : Type 0 where
  pub item : Spelling
  pub spelled : IsSpelled item
  pub fits : depth item + k ≤ d
  pub bytes_are : pre ++ spell item ≡ xs

-- xs is pre and one chunk
pub record ExtendsByChunk (m : Major) (pre xs : List ℕ) : Type 0 where
  pub chunk : Chunk
  pub is : IsChunk chunk
  pub bytes_are : pre ++ chunk_bytes m chunk ≡ xs

-- whatever members follow, they complete the container that began after pre
abbrev pub Wants : ℕ → List Frame → Frame → List ℕ → List ℕ → Type 0
Wants d fs f pre p = (ss : Spellings) → Rest f ss → AreSpelled ss → depth_all ss + suc (length fs) ≤ d → Extends d (length fs) pre (p ++ spell_all ss ++ closing f)

-- after p, within these containers, an item may begin
abbrev pub Opened : ℕ → List Frame → List ℕ → Type 0
Opened d [] p = p ≡ []
Opened d (f ∷ fs) p = (pre : List ℕ) × Opened d fs pre × (length fs < d) × Wants d fs f pre p

abbrev pub IsString : Major → Type 0
IsString Bytes = Unit {0}
IsString Text = Unit {0}
IsString _ = ⊥

abbrev pub IsNumbered : Major → Type 0
IsNumbered Simple = ⊥
IsNumbered _ = Unit {0}

-- after p a chunk may begin
abbrev pub Chunked : ℕ → Major → List Frame → List ℕ → Type 0
Chunked d m fs p =
    (pre : List ℕ) × Opened d fs pre × IsString m
    × ((cs : List Chunk) → AllByRecursion IsChunk cs → Extends d (length fs) pre (p ++ flat_map (chunk_bytes m) cs ++ 0xff ∷ []))

-- after p a head of this type may begin
abbrev pub Before : ℕ → Bool → Major → List Frame → List ℕ → Type 0
Before d true m fs p = Chunked d m fs p
Before d false m fs p = Opened d fs p × IsNumbered m × (has_space d fs m ≡ true)

abbrev pub Agrees : ℕ → State → List ℕ → Type 0
Agrees d (at_item fs) p = Opened d fs p
Agrees d (in_head chunk m w k acc fs) p =
    (pre : List ℕ) × Before d chunk m fs pre
    × ((more : List ℕ) → length more ≡ suc k → AreBytes more → (p ++ more ≡ pre ++ head m w (number acc more)) × Holds w (number acc more))
Agrees d (in_simple fs) p = (pre : List ℕ) × Opened d fs pre × (p ≡ pre ++ 0xf8 ∷ [])
Agrees d (in_payload chunk m n fs) p =
    (pre : List ℕ) × Before d chunk m fs pre × IsString m
    × ((more : List ℕ) → length more ≡ suc n → AreBytes more → ExtendsByChunk m pre (p ++ more))
Agrees d (in_chunks m fs) p = Chunked d m fs p
Agrees d done p = (s : Spelling) × IsItem d s p

pub along : (d : ℕ) (q : State) (xs ys : List ℕ) → xs ≡ ys → Agrees d q xs → Agrees d q ys
along d q xs ys e h = subst (λ (p : List ℕ). Agrees d q p) e h

pub extends-along : (d k : ℕ) (pre xs ys : List ℕ) → xs ≡ ys → Extends d k pre xs → Extends d k pre ys
extends-along d k pre xs ys e h = record { item = h.item; spelled = h.spelled; fits = h.fits; bytes_are = h.bytes_are ∙ e }

-- a member of a container, after which f is g
member : (d : ℕ) (fs : List Frame) (f g : Frame) (p : List ℕ) (s : Spelling) → ((ss : Spellings) → Rest g ss → Rest f (a_spelling s ss)) → closing f ≡ closing g
    → Opened d (f ∷ fs) p → IsSpelled s → depth s + suc (length fs) ≤ d → Opened d (g ∷ fs) (p ++ spell s)
member d fs f g p s leads same o h b = (
  o.0,
  o.1,
  o.2,
  λ ss r hs bs.
      let all : max (depth s) (depth_all ss) + suc (length fs) ≤ d = omega arith in
      extends-along d (length fs) o.0 (p ++ (spell s ++ spell_all ss) ++ closing f) ((p ++ spell s) ++ spell_all ss ++ closing g)
      (ap₂ ◌++◌ (sym (append_assoc p (spell s) (spell_all ss))) same)
      (o.3 (a_spelling s ss) (leads ss r) (h, hs) all),
)

pub not-not : (b : Bool) → not (not b) ≡ b
not-not true = refl
not-not false = refl

-- an item is complete
pub item-closes : (d : ℕ) (fs : List Frame) (p : List ℕ) (s : Spelling) → Opened d fs p → IsSpelled s → depth s + length fs ≤ d → Agrees d (close fs) (p ++ spell s)
item-closes d [] p s o h b = (s, record { spelled = h; within = omega arith; bytes_are = ap (λ xs. xs ++ spell s) (sym o) })
item-closes d (counted zero ∷ fs) p s o h b =
    let last : max (depth s) 0 + suc (length fs) ≤ d = omega arith in
    let whole = o.3 (a_spelling s no_spellings) refl (h, tt) last in
    along d (close fs) _ _ (whole.bytes_are ∙ append-nil (p ++ (spell s ++ [])) ∙ ap (λ xs. p ++ xs) (append-nil (spell s)))
    (item-closes d fs o.0 whole.item o.1 whole.spelled whole.fits)
item-closes d (counted (suc n) ∷ fs) p s o h b = member d fs (counted (suc n)) (counted n) p s (λ ss r. ap suc r) refl o h b
item-closes d (indefinite_array ∷ fs) p s o h b = member d fs indefinite_array indefinite_array p s (λ ss r. tt) refl o h b
item-closes d (indefinite_map expected ∷ fs) p s o h b = member d fs (indefinite_map expected) (indefinite_map (not expected)) p s (λ ss r. ap not r ∙ not-not expected) refl o h b

-- n members are expected of a container that began after pre
pub members-expected : (d : ℕ) (fs : List Frame) (pre p : List ℕ) (n : ℕ) → Opened d fs pre
    → ((ss : Spellings) → spellings_count ss ≡ n → AreSpelled ss → depth_all ss + suc (length fs) ≤ d → Extends d (length fs) pre (p ++ spell_all ss))
    → suc (length fs) ≤ d → Agrees d (expect n fs) p
members-expected d fs pre p zero o wants space =
    let whole = wants no_spellings refl tt (omega arith) in
    along d (close fs) _ _ (whole.bytes_are ∙ append-nil p) (item-closes d fs pre whole.item o whole.spelled whole.fits)
members-expected d fs pre p (suc n) o wants space =
    (pre, o, space, λ ss r h b. extends-along d (length fs) pre (p ++ spell_all ss) (p ++ spell_all ss ++ []) (sym (append-nil (p ++ spell_all ss))) (wants ss r h b))

-- what holds for a width other than Indefinite
pub record Definite (w : Width) (n : ℕ) : Type 0 where
  pub holds : HoldsOrIndefinite w n
  pub closes : break_of w ≡ []

pub definite : (w : Width) (n : ℕ) → Holds w n → Definite w n
definite Indefinite n h = absurd h
definite _ n h = record { holds = h; closes = refl }

-- members in pairs
pub record Paired (ss : Spellings) : Type 0 where
  pub entries : SpelledEntries
  pub count : entries_count entries + entries_count entries ≡ spellings_count ss
  pub spelled : AreSpelled ss → AreEntriesSpelled entries
  pub depth_is : depth_entries entries ≤ depth_all ss
  pub bytes_are : spell_entries entries ≡ spell_all ss

pub paired : (ss : Spellings) → is_odd (spellings_count ss) ≡ false → Paired ss
paired no_spellings h = record { entries = no_entries; count = refl; spelled = λ t. t; depth_is = omega arith; bytes_are = refl }
paired (a_spelling k no_spellings) h = absurd (cc)
paired (a_spelling k (a_spelling v ss)) h =
    let rest = paired ss (sym (not-not (is_odd (spellings_count ss))) ∙ h) in
    let e = rest.count in
    let deep = rest.depth_is in
    record {
      entries = entry k v rest.entries;
      count = omega (arith, e);
      spelled = λ hs. (hs.0, hs.1.0, rest.spelled hs.1.1);
      depth_is = omega (arith, deep);
      bytes_are = ap (λ xs. (spell k ++ spell v) ++ xs) rest.bytes_are ∙ append_assoc (spell k) (spell v) (spell_all ss);
    }

pub double-even : (n : ℕ) → is_odd (n + n) ≡ false
double-even zero = refl
double-even (suc n) =
    let e : suc n + suc n ≡ suc (suc (n + n)) = omega arith in
    ap is_odd e ∙ not-not (is_odd (n + n)) ∙ double-even n

pub space-of : (d : ℕ) (fs : List Frame) (p : List ℕ) → Opened d fs p → 0 + length fs ≤ d
space-of d [] p o = omega arith
space-of d (f ∷ fs) p o = let h : length fs < d = o.2 in omega arith

array-extends : (d : ℕ) (w : Width) (n : ℕ) (fs : List Frame) (p : List ℕ) → Holds w n → (ss : Spellings) → spellings_count ss ≡ n → AreSpelled ss → depth_all ss + suc (length fs) ≤ d
    → Extends d (length fs) p ((p ++ head Array w n) ++ spell_all ss)
array-extends d w n fs p h ss r hs bs =
    let holds : Holds w (spellings_count ss) = subst (λ (m : ℕ). Holds w m) (sym r) h in
    let def = definite w (spellings_count ss) holds in
    record {
      item = array w ss;
      spelled = (def.holds, hs);
      fits = omega arith;
      bytes_are = ap (λ xs. p ++ ((head Array w (spellings_count ss) ++ spell_all ss) ++ xs)) def.closes
          ∙ ap (λ xs. p ++ xs) (append-nil (head Array w (spellings_count ss) ++ spell_all ss))
          ∙ sym (append_assoc p (head Array w (spellings_count ss)) (spell_all ss))
          ∙ ap (λ m. (p ++ head Array w m) ++ spell_all ss) r;
    }

map-extends : (d : ℕ) (w : Width) (n : ℕ) (fs : List Frame) (p : List ℕ) → Holds w n → (ss : Spellings) → spellings_count ss ≡ n + n → AreSpelled ss → depth_all ss + suc (length fs) ≤ d
    → Extends d (length fs) p ((p ++ head Map w n) ++ spell_all ss)
map-extends d w n fs p h ss r hs bs =
    let pairs = paired ss (ap is_odd r ∙ double-even n) in
    let es = pairs.entries in
    let count = pairs.count in
    let deep = pairs.depth_is in
    let same : entries_count es ≡ n = omega (arith, count, r) in
    let holds : Holds w (entries_count es) = subst (λ (m : ℕ). Holds w m) (sym same) h in
    let def = definite w (entries_count es) holds in
    record {
      item = a_map w es;
      spelled = (def.holds, pairs.spelled hs);
      fits = omega (arith, deep, bs);
      bytes_are = ap (λ xs. p ++ ((head Map w (entries_count es) ++ spell_entries es) ++ xs)) def.closes
          ∙ ap (λ xs. p ++ xs) (append-nil (head Map w (entries_count es) ++ spell_entries es))
          ∙ sym (append_assoc p (head Map w (entries_count es)) (spell_entries es))
          ∙ ap₂ (λ m xs. (p ++ head Map w m) ++ xs) same pairs.bytes_are;
    }

tag-extends : (d : ℕ) (w : Width) (n : ℕ) (fs : List Frame) (p : List ℕ) → Holds w n → (ss : Spellings) → spellings_count ss ≡ 1 → AreSpelled ss → depth_all ss + suc (length fs) ≤ d
    → Extends d (length fs) p ((p ++ head Tag w n) ++ spell_all ss)
tag-extends d w n fs p h no_spellings r hs bs = absurd (omega arith)
tag-extends d w n fs p h (a_spelling s no_spellings) r hs bs =
    record {
      item = tag w n s;
      spelled = (h, hs.0);
      fits = omega arith;
      bytes_are = sym (append_assoc p (head Tag w n) (spell s)) ∙ ap (λ xs. (p ++ head Tag w n) ++ xs) (sym (append-nil (spell s)));
    }
tag-extends d w n fs p h (a_spelling s (a_spelling t ss)) r hs bs = absurd (omega arith)

-- a chunk, or a definite string, is complete
pub chunk-closes : (d : ℕ) (chunk : Bool) (m : Major) (fs : List Frame) (p : List ℕ) (c : Chunk) → Before d chunk m fs p → IsString m → IsChunk c
    → Agrees d (close_string chunk m fs) (p ++ chunk_bytes m c)
chunk-closes d true m fs p c b s h =
    (b.0, b.1, b.2, λ cs hs. extends-along d (length fs) b.0 _ _ (ap (λ xs. xs ++ 0xff ∷ []) (sym (append_assoc p (chunk_bytes m c) (flat_map (chunk_bytes m) cs)))) (b.3 (c ∷ cs) (h, hs)))
chunk-closes d false Bytes fs p c b s h = item-closes d fs p (bytes c.width c.payload) b.0 h (space-of d fs p b.0)
chunk-closes d false Text fs p c b s h = item-closes d fs p (text c.width c.payload) b.0 h (space-of d fs p b.0)
chunk-closes d false _ fs p c b s h = absurd s

payload-begins : (d : ℕ) (chunk : Bool) (m : Major) (w : Width) (n : ℕ) (fs : List Frame) (p : List ℕ) → Before d chunk m fs p → IsString m → Holds w n
    → Agrees d (payload chunk m n fs) (p ++ head m w n)
payload-begins d chunk m w zero fs p b s h =
    along d (close_string chunk m fs) _ _ (ap (λ xs. p ++ xs) (append-nil (head m w 0))) (chunk-closes d chunk m fs p (record { width = w; payload = [] }) b s (h, tt))
payload-begins d chunk m w (suc n) fs p b s h = (
  p,
  b,
  s,
  λ more e hm. record {
    chunk = record { width = w; payload = more };
    is = (subst (λ (k : ℕ). Holds w k) (sym e) h, hm);
    bytes_are = sym (append_assoc p (head m w (length more)) more) ∙ ap (λ k. (p ++ head m w k) ++ more) e;
  },
)

-- a definite head is complete
pub head-done : (d : ℕ) (chunk : Bool) (m : Major) (w : Width) (n : ℕ) (fs : List Frame) (p : List ℕ) → Before d chunk m fs p → Holds w n → Agrees d (after chunk m n fs) (p ++ head m w n)
head-done d true m w n fs p b h = payload-begins d true m w n fs p b b.2 h
head-done d false Unsigned w n fs p b h = item-closes d fs p (unsigned w n) b.0 h (space-of d fs p b.0)
head-done d false Negative w n fs p b h = item-closes d fs p (negative w n) b.0 h (space-of d fs p b.0)
head-done d false Bytes w n fs p b h = payload-begins d false Bytes w n fs p b tt h
head-done d false Text w n fs p b h = payload-begins d false Text w n fs p b tt h
head-done d false Array w n fs p b h = members-expected d fs p (p ++ head Array w n) n b.0 (array-extends d w n fs p h) (ltb-true (length fs) d b.2)
head-done d false Map w n fs p b h = members-expected d fs p (p ++ head Map w n) (n + n) b.0 (map-extends d w n fs p h) (ltb-true (length fs) d b.2)
head-done d false Tag w n fs p b h = members-expected d fs p (p ++ head Tag w n) 1 b.0 (tag-extends d w n fs p h) (ltb-true (length fs) d b.2)
head-done d false Simple w n fs p b h = absurd b.1
