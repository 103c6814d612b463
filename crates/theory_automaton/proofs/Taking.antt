-- One mark from a state of the machine: which mark it can be, its bytes, and the state after it.
use Rattle.std.proofs.Common.{◌≡◌, ℕ, zero, suc, ◌+◌, ◌-◌, ◌*◌, ◌^◌, ◌<◌, ◌≤◌, Bool, true, false, nat_lt, cond, List, [], ◌∷◌, ◌++◌, length, refl, sym, ap, ◌∙◌, subst, inl, inr, arith, append_assoc, append-nil, mod-eq_of_lt, lt-ltb, le-ltb, ltb-true}
use Rattle.std.{proofs.lemmas.Bool.cases_lt, specs.Int.bytes_high_first}
use Rattle.cbor_head.specs.Prelude.{Holds, IsSimple, head, major_number, shortest, AreBytes}
use Rattle.cbor_head.specs.declared.major.Major.TheVariants.{Bytes, Text, Array, Map, Tag, Simple}
use Rattle.cbor_head.specs.declared.width.Width.TheVariants.{Direct, One, Indefinite}
use Rattle.cbor_head.specs.declared.{major.Major.Major, width.Width.Width, reason.Reason.Reason}
use Rattle.theory_automaton.specs.Trace.{Mark, a_head, more_bytes}
use Rattle.theory_automaton.specs.Automaton.{Frame, indefinite_array, indefinite_map, State, at_item, in_head, in_simple, in_payload, in_chunks, done, Opening, Next, refuses, goes, reports, indefinite_length, opening, after, has_space, break_at, begin, is_major, in_string, take_byte, Outcome, refused, reached, reporting, and_then, run}
use Rattle.theory_automaton.{specs.Taking.Follows, specs.Taking.IsTaking, proofs.Openings.by-byte, proofs.Arguments.number}
pub use Rattle.theory_automaton.proofs.Events.{IsClear}
pub use Rattle.theory_automaton.proofs.Agrees.{IsNumbered}
use Rattle.theory_automaton.proofs.Events.{close-clear, close_string-clear, payload-clear, after-clear}
use Rattle.theory_automaton.proofs.Kept.{is_major-same, long-head}

-- the head so far, and the state that it was begun in
abbrev pub IsWithin : ℕ → State → State → List ℕ → Type 0
IsWithin d from (in_head false m w k acc fs) bs =
    (from ≡ at_item fs) × IsNumbered m × (has_space d fs m ≡ true)
    × ((more : List ℕ) → length more ≡ suc k → AreBytes more → (bs ++ more ≡ head m w (number acc more)) × Holds w (number acc more))
IsWithin d from (in_head true m w k acc fs) bs =
    (from ≡ in_chunks m fs)
    × ((more : List ℕ) → length more ≡ suc k → AreBytes more → (bs ++ more ≡ head m w (number acc more)) × Holds w (number acc more))
IsWithin d from (in_simple fs) bs = (from ≡ at_item fs) × (bs ≡ 0xf8 ∷ [])
IsWithin d from q bs = (from ≡ q) × (bs ≡ [])

abbrev pub IsTakingNext : ℕ → State → Next → List ℕ → Type 0
IsTakingNext d from (refuses r) bs = Unit {0}
IsTakingNext d from (goes q) bs = IsWithin d from q bs
IsTakingNext d from (reports m q) bs = IsTaking d from m bs q × IsClear q

-- ---- after a head

follows : (d : ℕ) (fs : List Frame) (m : Major) (w : Width) (n : ℕ) → IsNumbered m → has_space d fs m ≡ true → Follows d fs m w n (after false m n fs)
follows d fs Array w n k e = (ltb-true (length fs) d e, refl)
follows d fs Map w n k e = (ltb-true (length fs) d e, refl)
follows d fs Tag w n k e = (ltb-true (length fs) d e, refl)
follows d fs Simple w n k e = absurd k
follows d fs _ w n k e = refl

follows-direct : (d : ℕ) (fs : List Frame) (m : Major) (n : ℕ) → n < 24 → has_space d fs m ≡ true → Follows d fs m Direct n (after false m n fs)
follows-direct d fs Simple n h e = ((omega arith, λ l. absurd (omega arith)), rw (lt-ltb n 24 h) refl, refl)
follows-direct d fs Array n h e = (ltb-true (length fs) d e, refl)
follows-direct d fs Map n h e = (ltb-true (length fs) d e, refl)
follows-direct d fs Tag n h e = (ltb-true (length fs) d e, refl)
follows-direct d fs _ n h e = refl

definite : (d : ℕ) (fs : List Frame) (m : Major) (w : Width) (n : ℕ) (bs : List ℕ) (to : State) → bs ≡ head m w n → Holds w n → Follows d fs m w n to → IsTaking d (at_item fs) (a_head m w n) bs to
definite d fs m Indefinite n bs to e h f = absurd h
definite d fs m _ n bs to e h f = (e, h, f)

-- ---- the first byte of an item

guarded : (d : ℕ) (from : State) (bs : List ℕ) (b : Bool) (next : Next) (r : Reason) → (b ≡ true → IsTakingNext d from next bs) → IsTakingNext d from (cond b next (refuses r)) bs
guarded d from bs true next r h = h refl
guarded d from bs false next r h = tt

item-long : (d : ℕ) (fs : List Frame) (m : Major) (w : Width) (k c : ℕ) → IsNumbered m → ((n : ℕ) → head m w n ≡ c ∷ bytes_high_first (suc k) n) → ((n : ℕ) → n < 256 ^ suc k → Holds w n)
    → has_space d fs m ≡ true → IsWithin d (at_item fs) (in_head false m w k 0 fs) (c ∷ [])
item-long d fs m w k c i made holds e = (refl, i, e, long-head m w k c made holds)

abbrev IsTakingFirst : ℕ → List Frame → ℕ → Opening → Type 0
IsTakingFirst d fs c o = IsTakingNext d (at_item fs) (begin d fs c o) (c ∷ [])

open-taken : (d : ℕ) (fs : List Frame) (m : Major) → IsTakingFirst d fs (32 * major_number m + 31) (indefinite_length m)
open-taken d fs Bytes = ((refl, refl, refl), tt)
open-taken d fs Text = ((refl, refl, refl), tt)
open-taken d fs Array = guarded d _ _ (nat_lt (length fs) d) _ _ (λ e. ((refl, refl, (ltb-true (length fs) d e, refl)), tt))
open-taken d fs Map = guarded d _ _ (nat_lt (length fs) d) _ _ (λ e. ((refl, refl, (ltb-true (length fs) d e, refl)), tt))
open-taken d fs _ = tt

break-taken : (d : ℕ) (fs : List Frame) → IsTakingNext d (at_item fs) (break_at fs 0xff) (0xff ∷ [])
break-taken d (indefinite_array ∷ fs) = ((refl, refl), close-clear fs)
break-taken d (indefinite_map false ∷ fs) = ((refl, refl), close-clear fs)
break-taken d _ = tt

item-taken : (d : ℕ) (fs : List Frame) (c : ℕ) → c < 256 → IsTakingFirst d fs c (opening c)
item-taken d fs c h =
    by-byte (IsTakingFirst d fs) (λ m n l. guarded d _ _ (has_space d fs m) _ _ (λ e. ((refl, l, follows-direct d fs m n l e), after-clear false m n fs)))
    (λ m w k low i is. let size : more_bytes w - 1 ≡ k = omega (arith, is.size) in rw size (guarded d _ _ (has_space d fs m) _ _ (item-long d fs m w k _ i is.made is.holds)))
    (open-taken d fs) (refl, refl) (break-taken d fs) (λ c. tt) c h

-- ---- the first byte of a chunk

abbrev IsTakingChunk : ℕ → Major → List Frame → ℕ → Opening → Type 0
IsTakingChunk d m fs c o = IsTakingNext d (in_chunks m fs) (in_string m fs o) (c ∷ [])

chunk-taken : (d : ℕ) (m : Major) (fs : List Frame) (c : ℕ) → c < 256 → IsTakingChunk d m fs c (opening c)
chunk-taken d m fs c h =
    by-byte (IsTakingChunk d m fs) (λ n x l. guarded d _ _ (is_major m n) _ _ (λ e. ((ap (λ j. (32 * major_number j + x) ∷ []) (sym (is_major-same m n e)), l, refl), payload-clear true m x fs)))
    (λ n w k low i is.
    let size : more_bytes w - 1 ≡ k = omega (arith, is.size) in
    rw size (guarded d _ _ (is_major m n) _ _ (λ e. (refl, long-head m w k _ (λ x. ap (λ j. head j w x) (is_major-same m n e) ∙ is.made x) is.holds))))
    without tt ((refl, refl), close-clear fs) (λ c. tt) c h
  where
    without : (n : Major) → IsTakingChunk d m fs (32 * major_number n + 31) (indefinite_length n)
    without Bytes = tt
    without _ = tt

-- ---- any byte

-- the number of a simple value in a second byte
long-simple : (c : ℕ) → 32 ≤ c → c < 256 → IsSimple c × (One ≡ shortest c)
long-simple c l h = ((h, λ m. l), rw (le-ltb c 24 (omega arith), lt-ltb c 256 h) refl)

pub byte-taken : (d : ℕ) (from q : State) (bs : List ℕ) (c : ℕ) → IsWithin d from q bs → c < 256 → IsTakingNext d from (take_byte d q c) (bs ++ c ∷ [])
byte-taken d from (at_item fs) bs c e h = rw (e.0, e.1) (item-taken d fs c h)
byte-taken d from (in_head false m w zero acc fs) bs c e h =
    let whole = e.3 (c ∷ []) refl (h, tt) in
    (rw e.0 (definite d fs m w (acc * 256 + c) _ _ whole.0 whole.1 (follows d fs m w (acc * 256 + c) e.1 e.2)), after-clear false m (acc * 256 + c) fs)
byte-taken d from (in_head true m w zero acc fs) bs c e h =
    let whole = e.1 (c ∷ []) refl (h, tt) in
    (rw e.0 (whole.0, whole.1, refl), after-clear true m (acc * 256 + c) fs)
byte-taken d from (in_head false m w (suc k) acc fs) bs c e h =
    (e.0, e.1, e.2, λ more l hm. let whole = e.3 (c ∷ more) (ap suc l) (h, hm) in (append_assoc bs (c ∷ []) more ∙ whole.0, whole.1))
byte-taken d from (in_head true m w (suc k) acc fs) bs c e h =
    (e.0, λ more l hm. let whole = e.1 (c ∷ more) (ap suc l) (h, hm) in (append_assoc bs (c ∷ []) more ∙ whole.0, whole.1))
byte-taken d from (in_simple fs) bs c e h = elim (cases_lt c 32) [
  | inl l ↦ rw (lt-ltb c 32 l) tt
  | inr l ↦
      let s = long-simple c l h in
      rw (le-ltb c 32 l, e.0) ((ap (λ xs. xs ++ c ∷ []) e.1 ∙ ap (λ x. 0xf8 ∷ x ∷ []) (sym (mod-eq_of_lt h)), h, (s.0, s.1, refl)), close-clear fs)
]
byte-taken d from (in_payload chunk m zero fs) bs c e h = rw (e.0, e.1) ((refl, refl), close_string-clear chunk m fs)
byte-taken d from (in_payload chunk m (suc n) fs) bs c e h = rw (e.0, e.1) ((refl, refl), tt)
byte-taken d from (in_chunks m fs) bs c e h = rw (e.0, e.1) (chunk-taken d m fs c h)
byte-taken d from done bs c e h = tt

pub within-start : (d : ℕ) (q : State) → IsClear q → IsWithin d q q []
within-start d (in_head chunk m w k acc fs) h = absurd h
within-start d (in_simple fs) h = absurd h
within-start d _ h = (refl, refl)

-- ---- runs

-- bytes that reported nothing are those of the head that is open; bytes whose one mark left a clear state are the mark's
abbrev pub IsTakingRun : ℕ → State → Outcome → List ℕ → Type 0
IsTakingRun d from (refused r) bs = Unit {0}
IsTakingRun d from (reached q []) bs = IsWithin d from q bs
IsTakingRun d from (reached q (m ∷ [])) bs = IsClear q → IsTaking d from m bs q
IsTakingRun d from (reached q (m ∷ n ∷ ms)) bs = Unit {0}

pub clear-nothing : (d : ℕ) (from q : State) (bs : List ℕ) → IsClear q → IsWithin d from q bs → (from ≡ q) × (bs ≡ [])
clear-nothing d from (in_head chunk m w k acc fs) bs h p = absurd h
clear-nothing d from (in_simple fs) bs h p = absurd h
clear-nothing d from _ bs h p = p

reporting-taken : (d : ℕ) (from q : State) (m : Mark) (o : Outcome) (bs cs : List ℕ) → IsTaking d from m bs q → IsTakingRun d q o cs → IsTakingRun d from (reporting m o) (bs ++ cs)
reporting-taken d from q m (refused r) bs cs h k = tt
reporting-taken d from q m (reached t []) bs cs h k = λ clear.
    let same = clear-nothing d q t cs clear k in
    subst (λ xs. IsTaking d from m xs t) (sym (ap (λ xs. bs ++ xs) same.1 ∙ append-nil bs)) (subst (IsTaking d from m bs) same.0 h)
reporting-taken d from q m (reached t (n ∷ ns)) bs cs h k = tt

then-taken : (d : ℕ) (from : State) (next : Next) (bs cs : List ℕ) → ((begun q : State) (pre : List ℕ) → IsWithin d begun q pre → IsTakingRun d begun (run d q cs) (pre ++ cs)) → IsTakingNext d from next bs
    → IsTakingRun d from (and_then next (λ t. run d t cs)) (bs ++ cs)
then-taken d from (refuses r) bs cs go h = tt
then-taken d from (goes q) bs cs go h = go from q bs h
then-taken d from (reports m q) bs cs go h = reporting-taken d from q m (run d q cs) bs cs h.0 (go q q [] (within-start d q h.1))

pub run-taken : (d : ℕ) (bs : List ℕ) (from q : State) (pre : List ℕ) → IsWithin d from q pre → AreBytes bs → IsTakingRun d from (run d q bs) (pre ++ bs)
run-taken d [] from q pre h b = subst (IsWithin d from q) (sym (append-nil pre)) h
run-taken d (c ∷ cs) from q pre h b =
    subst (IsTakingRun d from (run d q (c ∷ cs))) (append_assoc pre (c ∷ []) cs)
    (then-taken d from (take_byte d q c) (pre ++ c ∷ []) cs (λ begun t p k. run-taken d cs begun t p k b.1) (byte-taken d from q pre c h b.0))

-- one mark, between states with no head open
pub mark-taken : (d : ℕ) (q t : State) (bs : List ℕ) (m : Mark) → IsClear q → AreBytes bs → run d q bs ≡ reached t (m ∷ []) → IsClear t → IsTaking d q m bs t
mark-taken d q t bs m h b e clear = subst (λ o. IsTakingRun d q o bs) e (run-taken d bs q q [] (within-start d q h) b) clear

-- no mark: the head that is open
pub nothing-taken : (d : ℕ) (q t : State) (bs : List ℕ) → IsClear q → AreBytes bs → run d q bs ≡ reached t [] → IsWithin d q t bs
nothing-taken d q t bs h b e = subst (λ o. IsTakingRun d q o bs) e (run-taken d bs q q [] (within-start d q h) b)

-- ---- more marks than one

pub reports-first : (m n : Mark) (o : Outcome) (t : State) (ms : List Mark) → reporting n o ≡ reached t (m ∷ ms) → (m ≡ n) × (o ≡ reached t ms)
reports-first m n (refused r) t ms e = absurd (cc e)
reports-first m n (reached q ns) t ms e = (cc e, cc e)

then-first : (d : ℕ) (from : State) (next : Next) (bs cs : List ℕ) (t : State) (m : Mark) (ms : List Mark)
    → ((q : State) (pre : List ℕ) → IsWithin d from q pre → run d q cs ≡ reached t (m ∷ ms) → (ds : List ℕ) × (u : State) × IsTaking d from m ds u)
    → IsTakingNext d from next bs → and_then next (λ t. run d t cs) ≡ reached t (m ∷ ms) → (ds : List ℕ) × (u : State) × IsTaking d from m ds u
then-first d from (refuses r) bs cs t m ms go h e = absurd (cc e)
then-first d from (goes q) bs cs t m ms go h e = go q bs h e
then-first d from (reports n q) bs cs t m ms go h e =
    let f = reports-first m n (run d q cs) t ms e in
    (bs, q, subst (λ x. IsTaking d from x bs q) (sym f.0) h.0)

-- the first mark of a run is one that is possible there
pub first-mark : (d : ℕ) (bs : List ℕ) (from q t : State) (pre : List ℕ) (m : Mark) (ms : List Mark) → IsWithin d from q pre → AreBytes bs → run d q bs ≡ reached t (m ∷ ms)
    → (cs : List ℕ) × (u : State) × IsTaking d from m cs u
first-mark d [] from q t pre m ms h b e = absurd (cc e)
first-mark d (c ∷ cs) from q t pre m ms h b e =
    then-first d from (take_byte d q c) (pre ++ c ∷ []) cs t m ms (λ u p k f. first-mark d cs from u t p m ms k b.1 f) (byte-taken d from q pre c h b.0) e
