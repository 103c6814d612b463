-- Each byte that the machine accepts leads to a state that represents the bytes so far.
use Rattle.std.proofs.Common.{◌≡◌, ℕ, zero, suc, ◌+◌, ◌-◌, ◌*◌, ◌^◌, ◌<◌, Bool, true, false, nat_lt, cond, List, [], ◌∷◌, ◌++◌, length, flat_map, refl, sym, ap, ◌∙◌, subst, inl, inr, arith, append_assoc, append-nil, true≢false, mod-eq_of_lt, lt-ltb, le-ltb, ltb-true}
use Rattle.std.{proofs.lemmas.Bool.cases_lt, specs.List.AllByRecursion, specs.Int.bytes_high_first}
use Rattle.cbor_head.specs.Prelude.{AreBytes, Holds, head, major_number, shortest, Chunk, IsChunk, Spelling, byte_chunks, text_chunks, array, a_map, simple, no_spellings, spell, spell_all, chunk_bytes, IsSpelled, depth}
use Rattle.cbor_head.specs.declared.major.Major.TheVariants.{Bytes, Text, Array, Map, Simple}
use Rattle.cbor_head.specs.declared.width.Width.TheVariants.{Direct, One, Indefinite}
use Rattle.cbor_head.specs.declared.{major.Major.Major, width.Width.Width, reason.Reason.Reason}
use Rattle.theory_automaton.specs.Automaton.{Frame, indefinite_array, indefinite_map, State, at_item, in_head, in_simple, in_payload, in_chunks, done, Opening, direct, long, breaks, Next, refuses, goes, reports, indefinite_length, opening, close, close_string, payload, after, has_space, break_at, begin, is_major, in_string, take_byte, Outcome, refused, reached, reporting, and_then, run}
use Rattle.theory_automaton.proofs.Arguments.{number, number-between, bytes-number}
use Rattle.theory_automaton.proofs.Agrees.{Opened, IsString, IsNumbered, Chunked, Before, Agrees, along, item-closes, paired, space-of, chunk-closes, head-done}
use Rattle.theory_automaton.{specs.Trace.Mark, specs.Trace.more_bytes, proofs.Openings.IsLong, proofs.Openings.by-byte}

abbrev pub AgreesNext : ℕ → Next → List ℕ → Type 0
AgreesNext d (refuses r) p = Unit {0}
AgreesNext d (goes q) p = Agrees d q p
AgreesNext d (reports m q) p = Agrees d q p

guarded : (d : ℕ) (p : List ℕ) (b : Bool) (next : Next) (r : Reason) → (b ≡ true → AgreesNext d next p) → AgreesNext d (cond b next (refuses r)) p
guarded d p true next r h = h refl
guarded d p false next r h = tt

-- a first byte and its argument are a head
pub long-head : (m : Major) (w : Width) (k c : ℕ) → ((n : ℕ) → head m w n ≡ c ∷ bytes_high_first (suc k) n) → ((n : ℕ) → n < 256 ^ suc k → Holds w n)
    → (more : List ℕ) → length more ≡ suc k → AreBytes more → (c ∷ more ≡ head m w (number 0 more)) × Holds w (number 0 more)
long-head m w k c made holds more e b =
    let range = number-between 0 more b in
    let fits : number 0 more < 256 ^ suc k = subst (λ j. number 0 more < 256 ^ j) e (omega (arith, range.1)) in
    let bytes : bytes_high_first (suc k) (number 0 more) ≡ more = ap (λ j. bytes_high_first j (number 0 more)) (sym e) ∙ bytes-number 0 more b in
    (ap (λ xs. c ∷ xs) (sym bytes) ∙ sym (made (number 0 more)), holds (number 0 more) fits)

-- the first byte of a head with an argument after it
long-begins : (d : ℕ) (chunk : Bool) (m : Major) (w : Width) (k : ℕ) (fs : List Frame) (p : List ℕ) (c : ℕ) → Before d chunk m fs p
    → ((n : ℕ) → head m w n ≡ c ∷ bytes_high_first (suc k) n) → ((n : ℕ) → n < 256 ^ suc k → Holds w n) → Agrees d (in_head chunk m w k 0 fs) (p ++ c ∷ [])
long-begins d chunk m w k fs p c b made holds = (
  p,
  b,
  λ more e hm.
      let a = long-head m w k c made holds more e hm in
      (append_assoc p (c ∷ []) more ∙ ap (λ xs. p ++ xs) a.0, a.1),
)

-- the first byte of an array or map of indefinite length
array-opens : (d : ℕ) (fs : List Frame) (p : List ℕ) → Opened d fs p → length fs < d → Opened d (indefinite_array ∷ fs) (p ++ 0x9f ∷ [])
array-opens d fs p o space = (
  p,
  o,
  space,
  λ ss r h b. record {
    item = array Indefinite ss;
    spelled = (tt, h);
    fits = omega arith;
    bytes_are = sym (append_assoc p (0x9f ∷ []) (spell_all ss ++ 0xff ∷ [])) ∙ sym (append_assoc (p ++ 0x9f ∷ []) (spell_all ss) (0xff ∷ []));
  },
)

map-opens : (d : ℕ) (fs : List Frame) (p : List ℕ) → Opened d fs p → length fs < d → Opened d (indefinite_map false ∷ fs) (p ++ 0xbf ∷ [])
map-opens d fs p o space = (
  p,
  o,
  space,
  λ ss r h b.
      let pairs = paired ss r in
      let deep = pairs.depth_is in
      record {
        item = a_map Indefinite pairs.entries;
        spelled = (tt, pairs.spelled h);
        fits = omega (arith, deep, b);
        bytes_are = ap (λ xs. p ++ (0xbf ∷ (xs ++ 0xff ∷ []))) pairs.bytes_are
            ∙ sym (append_assoc p (0xbf ∷ []) (spell_all ss ++ 0xff ∷ [])) ∙ sym (append_assoc (p ++ 0xbf ∷ []) (spell_all ss) (0xff ∷ []));
      },
)

chunks-open : (d : ℕ) (m : Major) (fs : List Frame) (p : List ℕ) (first : ℕ) → Opened d fs p → IsString m → head m Indefinite 0 ≡ first ∷ [] → Chunked d m fs (p ++ first ∷ [])
chunks-open d m fs p first o s e = (
  p,
  o,
  s,
  λ cs h.
      let joined = flat_map (chunk_bytes m) cs in
      let is = made m s cs h in
      record {
        item = is.0;
        spelled = is.1;
        fits = omega (arith, is.2, space-of d fs p o);
        bytes_are = ap (λ xs. p ++ xs) is.3 ∙ ap (λ xs. p ++ ((xs ++ joined) ++ 0xff ∷ [])) e
            ∙ sym (append_assoc p (first ∷ []) (joined ++ 0xff ∷ [])) ∙ sym (append_assoc (p ++ first ∷ []) joined (0xff ∷ []));
      },
)
  where
    made : (m : Major) → IsString m → (cs : List Chunk) → AllByRecursion IsChunk cs → (s : Spelling) × IsSpelled s × (depth s ≡ 0) × (spell s ≡ (head m Indefinite 0 ++ flat_map (chunk_bytes m) cs) ++ 0xff ∷ [])
    made Bytes s cs h = (byte_chunks cs, h, refl, refl)
    made Text s cs h = (text_chunks cs, h, refl, refl)
    made _ s cs h = absurd s

abbrev Keeps : ℕ → List Frame → List ℕ → ℕ → Opening → Type 0
Keeps d fs p c opens = AgreesNext d (begin d fs c opens) (p ++ c ∷ [])

open-kept : (d : ℕ) (fs : List Frame) (p : List ℕ) (m : Major) → Opened d fs p → Keeps d fs p (32 * major_number m + 31) (indefinite_length m)
open-kept d fs p Bytes o = chunks-open d Bytes fs p 0x5f o tt refl
open-kept d fs p Text o = chunks-open d Text fs p 0x7f o tt refl
open-kept d fs p Array o = guarded d (p ++ 0x9f ∷ []) (nat_lt (length fs) d) _ _ (λ e. array-opens d fs p o (ltb-true (length fs) d e))
open-kept d fs p Map o = guarded d (p ++ 0xbf ∷ []) (nat_lt (length fs) d) _ _ (λ e. map-opens d fs p o (ltb-true (length fs) d e))
open-kept d fs p _ o = tt

break-kept : (d : ℕ) (fs : List Frame) (p : List ℕ) → Opened d fs p → AgreesNext d (break_at fs 0xff) (p ++ 0xff ∷ [])
break-kept d (indefinite_array ∷ fs) p o =
    let space : length fs < d = o.2 in
    let whole = o.3 no_spellings tt tt (omega arith) in
    along d (close fs) _ _ (whole.bytes_are ∙ ap (λ xs. xs ++ 0xff ∷ []) (append-nil p)) (item-closes d fs o.0 whole.item o.1 whole.spelled whole.fits)
break-kept d (indefinite_map false ∷ fs) p o =
    let space : length fs < d = o.2 in
    let whole = o.3 no_spellings refl tt (omega arith) in
    along d (close fs) _ _ (whole.bytes_are ∙ ap (λ xs. xs ++ 0xff ∷ []) (append-nil p)) (item-closes d fs o.0 whole.item o.1 whole.spelled whole.fits)
break-kept d _ p o = tt

numbered-direct : (d : ℕ) (fs : List Frame) (p : List ℕ) (m : Major) (n : ℕ) → IsNumbered m → n < 24 → Opened d fs p → Keeps d fs p (32 * major_number m + n) (direct m n)
numbered-direct d fs p m n i h o = guarded d _ (has_space d fs m) _ _ (λ e. head-done d false m Direct n fs p (o, i, e) h)

direct-kept : (d : ℕ) (fs : List Frame) (p : List ℕ) (m : Major) (n : ℕ) → n < 24 → Opened d fs p → Keeps d fs p (32 * major_number m + n) (direct m n)
direct-kept d fs p Simple n h o =
    let e : shortest n ≡ Direct = rw (lt-ltb n 24 h) in
    along d (close fs) _ _ (ap (λ w. p ++ head Simple w n) e) (item-closes d fs p (simple n) o (omega arith, λ l. absurd (omega arith)) (space-of d fs p o))
direct-kept d fs p m n h o = numbered-direct d fs p m n tt h o

item-kept : (d : ℕ) (fs : List Frame) (p : List ℕ) (c : ℕ) → Opened d fs p → c < 256 → Keeps d fs p c (opening c)
item-kept d fs p c o h =
    by-byte (Keeps d fs p) (λ m n l. direct-kept d fs p m n l o)
    (λ m w k low i is. let size : more_bytes w - 1 ≡ k = omega (arith, is.size) in rw size (guarded d _ (has_space d fs m) _ _ (λ e. long-begins d false m w k fs p _ (o, i, e) is.made is.holds)))
    (λ m. open-kept d fs p m o) (p, o, refl) (break-kept d fs p o) (λ c. tt) c h

pub is_major-same : (m n : Major) → is_major m n ≡ true → m ≡ n
is_major-same Bytes Bytes e = refl
is_major-same Text Text e = refl
is_major-same _ _ e = absurd (true≢false (sym e))

abbrev KeepsChunk : ℕ → Major → List Frame → List ℕ → ℕ → Opening → Type 0
KeepsChunk d m fs p c opens = AgreesNext d (in_string m fs opens) (p ++ c ∷ [])

long-chunk : (d : ℕ) (m n : Major) (w : Width) (k : ℕ) (fs : List Frame) (p : List ℕ) (low : ℕ) → Chunked d m fs p → IsLong n w k low → KeepsChunk d m fs p (32 * major_number n + low) (long n w)
long-chunk d m n w k fs p low b is =
    let size : more_bytes w - 1 ≡ k = omega (arith, is.size) in
    rw size (guarded d _ (is_major m n) _ _ (λ e.
    let same = is_major-same m n e in
    long-begins d true m w k fs p (32 * major_number n + low) b (λ x. ap (λ j. head j w x) same ∙ is.made x) is.holds))

chunk-direct : (d : ℕ) (m n : Major) (fs : List Frame) (p : List ℕ) (x : ℕ) → x < 24 → Chunked d m fs p → KeepsChunk d m fs p (32 * major_number n + x) (direct n x)
chunk-direct d m n fs p x h b =
    guarded d _ (is_major m n) _ _ (λ e.
    let same = is_major-same m n e in
    subst (λ (j : Major). Agrees d (payload true m x fs) (p ++ (32 * major_number j + x) ∷ [])) same (head-done d true m Direct x fs p b h))

string-kept : (d : ℕ) (m : Major) (fs : List Frame) (p : List ℕ) (c : ℕ) → Chunked d m fs p → c < 256 → KeepsChunk d m fs p c (opening c)
string-kept d m fs p c b h =
    by-byte (KeepsChunk d m fs p) (λ n x l. chunk-direct d m n fs p x l b) (λ n w k low i is. long-chunk d m n w k fs p low b is) without tt ends (λ c. tt) c h
  where
    without : (n : Major) → KeepsChunk d m fs p (32 * major_number n + 31) (indefinite_length n)
    without Bytes = tt
    without _ = tt

    ends : KeepsChunk d m fs p 0xff breaks
    ends =
        let whole = b.3 [] tt in
        along d (close fs) _ _ (whole.bytes_are ∙ ap (λ xs. xs ++ 0xff ∷ []) (append-nil p)) (item-closes d fs b.0 whole.item b.1 whole.spelled whole.fits)

simple-number-kept : (d : ℕ) (fs : List Frame) (p : List ℕ) (c : ℕ) → Agrees d (in_simple fs) p → c < 256 → AgreesNext d (take_byte d (in_simple fs) c) (p ++ c ∷ [])
simple-number-kept d fs p c o h = elim (cases_lt c 32) [
  | inl l ↦ rw (lt-ltb c 32 l) tt
  | inr l ↦
      let e : shortest c ≡ One = rw (le-ltb c 24 (omega arith), lt-ltb c (2 ^ 8) h) in
      rw (le-ltb c 32 l)
      (along d (close fs) _ _
      (ap (λ w. o.0 ++ head Simple w c) e ∙ ap (λ x. o.0 ++ 0xf8 ∷ x ∷ []) (mod-eq_of_lt h) ∙ sym (append_assoc o.0 (0xf8 ∷ []) (c ∷ [])) ∙ ap (λ xs. xs ++ c ∷ []) (sym o.2))
      (item-closes d fs o.0 (simple c) o.1 (h, λ _. l) (space-of d fs o.0 o.1)))
]

-- one byte of the machine
pub byte-kept : (d : ℕ) (q : State) (p : List ℕ) (c : ℕ) → Agrees d q p → c < 256 → AgreesNext d (take_byte d q c) (p ++ c ∷ [])
byte-kept d (at_item fs) p c o h = item-kept d fs p c o h
byte-kept d (in_head chunk m w zero acc fs) p c o h =
    let whole = o.2 (c ∷ []) refl (h, tt) in
    along d (after chunk m (acc * 256 + c) fs) _ _ (sym whole.0) (head-done d chunk m w (acc * 256 + c) fs o.0 o.1 whole.1)
byte-kept d (in_head chunk m w (suc k) acc fs) p c o h = (
  o.0,
  o.1,
  λ more e hm.
      let whole = o.2 (c ∷ more) (ap suc e) (h, hm) in
      (append_assoc p (c ∷ []) more ∙ whole.0, whole.1),
)
byte-kept d (in_simple fs) p c o h = simple-number-kept d fs p c o h
byte-kept d (in_payload chunk m zero fs) p c o h =
    let whole = o.3 (c ∷ []) refl (h, tt) in
    along d (close_string chunk m fs) _ _ whole.bytes_are (chunk-closes d chunk m fs o.0 whole.chunk o.1 o.2 whole.is)
byte-kept d (in_payload chunk m (suc n) fs) p c o h = (
  o.0,
  o.1,
  o.2,
  λ more e hm.
      let whole = o.3 (c ∷ more) (ap suc e) (h, hm) in
      record { chunk = whole.chunk; is = whole.is; bytes_are = whole.bytes_are ∙ sym (append_assoc p (c ∷ []) more) },
)
byte-kept d (in_chunks m fs) p c o h = string-kept d m fs p c o h
byte-kept d done p c o h = tt

abbrev pub AgreesOutcome : ℕ → Outcome → List ℕ → Type 0
AgreesOutcome d (refused r) p = Unit {0}
AgreesOutcome d (reached q ms) p = Agrees d q p

reporting-kept : (d : ℕ) (m : Mark) (o : Outcome) (p : List ℕ) → AgreesOutcome d o p → AgreesOutcome d (reporting m o) p
reporting-kept d m (refused r) p h = tt
reporting-kept d m (reached q ms) p h = h

then-kept : (d : ℕ) (next : Next) (bs p : List ℕ) → ((q : State) → Agrees d q p → AgreesOutcome d (run d q bs) (p ++ bs)) → AgreesNext d next p
    → AgreesOutcome d (and_then next (λ t. run d t bs)) (p ++ bs)
then-kept d (refuses r) bs p go h = tt
then-kept d (goes q) bs p go h = go q h
then-kept d (reports m q) bs p go h = reporting-kept d m (run d q bs) (p ++ bs) (go q h)

-- the state that the machine reaches represents the bytes so far
pub run-kept : (d : ℕ) (bs : List ℕ) (q : State) (p : List ℕ) → Agrees d q p → AreBytes bs → AgreesOutcome d (run d q bs) (p ++ bs)
run-kept d [] q p o h = along d q _ _ (sym (append-nil p)) o
run-kept d (c ∷ cs) q p o h =
    subst (λ (xs : List ℕ). AgreesOutcome d (run d q (c ∷ cs)) xs) (append_assoc p (c ∷ []) cs)
    (then-kept d (take_byte d q c) cs (p ++ c ∷ []) (λ t s. run-kept d cs t (p ++ c ∷ []) s h.1) (byte-kept d q p c o h.0))
