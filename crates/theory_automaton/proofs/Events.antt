-- The marks so far are those of the trace that end within the bytes so far.
use Rattle.std.proofs.Common.{◌≡◌, ℕ, zero, suc, ◌+◌, ◌-◌, ◌/◌, ◌%◌, ◌<◌, ◌≤◌, Bool, true, false, nat_lt, cond, List, [], ◌∷◌, ◌++◌, length, refl, sym, ap, ◌∙◌, subst, arith}
use Rattle.std.proofs.lemmas.Bool.{le-leb, lt-leb}
use Rattle.cbor_head.specs.{Prelude.Spelling, Prelude.IsItem, declared.major.Major.Major, declared.major.Major.TheVariants.Bytes, declared.width.Width.Width}
use Rattle.cbor_head.specs.declared.reason.Reason.{Reason}
use Rattle.theory_automaton.specs.Trace.{Mark, size, more_bytes, trace, within}
use Rattle.theory_automaton.specs.Automaton.{start, major_at, Frame, indefinite_array, indefinite_map, State, at_item, in_head, in_simple, in_payload, in_chunks, done, Opening, direct, long, indefinite_string, indefinite_container, long_simple, breaks, bad, Next, refuses, goes, reports, opening, opening_of, indefinite_length, has_space, mark, break_at, begin, is_major, in_string, take_byte, Outcome, refused, reached, reporting, and_then, run}
use Rattle.theory_automaton.proofs.{Openings.by-low, Beginnings.item-done}
pub use Rattle.theory_automaton.proofs.Beginnings.{IsClear, close-clear, close_string-clear, payload-clear, after-clear}

-- the bytes of a head that is not complete
abbrev pub pending : State → ℕ
pending (in_head chunk m w k acc fs) = more_bytes w - k
pending (in_simple fs) = 1
pending _ = 0

abbrev pub IsSane : State → Type 0
IsSane (in_head chunk m w k acc fs) = k < more_bytes w
IsSane _ = Unit {0}

pub clear-pending : (q : State) → IsClear q → (pending q ≡ 0) × IsSane q
clear-pending (in_head chunk m w k acc fs) h = absurd h
clear-pending (in_simple fs) h = absurd h
clear-pending _ h = (refl, tt)

-- one byte more is pending, or a mark has the pending bytes and this byte
abbrev pub Balances : ℕ → Next → Type 0
Balances was (refuses r) = Unit {0}
Balances was (goes q) = (pending q ≡ suc was) × IsSane q
Balances was (reports m q) = (size m ≡ suc was) × IsClear q

guard-balances : (was : ℕ) (b : Bool) (next : Next) (r : Reason) → Balances was next → Balances was (cond b next (refuses r))
guard-balances was true next r h = h
guard-balances was false next r h = tt

-- an argument after the first byte has at least one byte
abbrev IsWide : Opening → Type 0
IsWide (long m w) = 0 < more_bytes w
IsWide _ = Unit {0}

opening-wide : (m : Major) (low : ℕ) → IsWide (opening_of m low)
opening-wide = by-low (λ c o. IsWide o) (λ m n l. tt) (λ m w k low i is. omega (arith, is.size)) without tt tt (λ c. tt)
  where
    without : (m : Major) → IsWide (indefinite_length m)
    without Bytes = tt
    without _ = tt

long-balances : (chunk : Bool) (m : Major) (w : Width) (fs : List Frame) → 0 < more_bytes w → Balances 0 (goes (in_head chunk m w (more_bytes w - 1) 0 fs))
long-balances chunk m w fs h = (omega arith, omega arith)

break-balances : (fs : List Frame) (c : ℕ) → Balances 0 (break_at fs c)
break-balances (indefinite_array ∷ fs) c = (refl, close-clear fs)
break-balances (indefinite_map false ∷ fs) c = (refl, close-clear fs)
break-balances _ c = tt

begin-balances : (d : ℕ) (fs : List Frame) (c : ℕ) (o : Opening) → IsWide o → Balances 0 (begin d fs c o)
begin-balances d fs c (direct m n) i = guard-balances 0 (has_space d fs m) _ _ (refl, after-clear false m n fs)
begin-balances d fs c (long m w) i = guard-balances 0 (has_space d fs m) _ _ (long-balances false m w fs i)
begin-balances d fs c (indefinite_string m) i = (refl, tt)
begin-balances d fs c (indefinite_container m f) i = guard-balances 0 (has_space d fs m) _ _ (refl, tt)
begin-balances d fs c long_simple i = (refl, tt)
begin-balances d fs c breaks i = break-balances fs c
begin-balances d fs c bad i = tt

string-balances : (m : Major) (fs : List Frame) (o : Opening) → IsWide o → Balances 0 (in_string m fs o)
string-balances m fs (direct n x) i = guard-balances 0 (is_major m n) _ _ (refl, payload-clear true m x fs)
string-balances m fs (long n w) i = guard-balances 0 (is_major m n) _ _ (long-balances true m w fs i)
string-balances m fs breaks i = (refl, close-clear fs)
string-balances m fs _ i = tt

mark-size : (chunk : Bool) (m : Major) (w : Width) (n : ℕ) → size (mark chunk m w n) ≡ suc (more_bytes w)
mark-size true m w n = refl
mark-size false m w n = refl

simple-balances : (b : Bool) (r : Reason) (next : Next) → Balances 1 next → Balances 1 (cond b (refuses r) next)
simple-balances true r next h = tt
simple-balances false r next h = h

pub byte-balances : (d : ℕ) (q : State) (c : ℕ) → IsSane q → Balances (pending q) (take_byte d q c)
byte-balances d (at_item fs) c h = begin-balances d fs c (opening c) (opening-wide (major_at (c / 32)) (c % 32))
byte-balances d (in_head chunk m w zero acc fs) c h = (mark-size chunk m w _ ∙ omega arith, after-clear chunk m _ fs)
byte-balances d (in_head chunk m w (suc k) acc fs) c h = (omega arith, omega arith)
byte-balances d (in_simple fs) c h = simple-balances (nat_lt c 32) _ _ (refl, close-clear fs)
byte-balances d (in_payload chunk m zero fs) c h = (refl, close_string-clear chunk m fs)
byte-balances d (in_payload chunk m (suc n) fs) c h = (refl, tt)
byte-balances d (in_chunks m fs) c h = string-balances m fs (opening c) (opening-wide (major_at (c / 32)) (c % 32))
byte-balances d done c h = tt

pub reporting-reached : (m : Mark) (o : Outcome) (t : State) (ms : List Mark) → reporting m o ≡ reached t ms → (ns : List Mark) × (o ≡ reached t ns) × (ms ≡ m ∷ ns)
reporting-reached m (refused r) t ms e = absurd (cc)
reporting-reached m (reached q ns) t ms e =
    let same : q ≡ t = cc in
    let more : ms ≡ m ∷ ns = cc in
    (ns, ap (λ x. reached x ns) same, more)

pub within-none : (x : ℕ) (m : Mark) (ms : List Mark) → x < size m → within x (m ∷ ms) ≡ []
within-none x m ms h = ap (λ b. cond b (m ∷ within (x - size m) ms) []) (lt-leb (size m) x h)

pub within-some : (x : ℕ) (m : Mark) (ms : List Mark) → size m ≤ x → within x (m ∷ ms) ≡ m ∷ within (x - size m) ms
within-some x m ms h = ap (λ b. cond b (m ∷ within (x - size m) ms) []) (le-leb (size m) x h)

-- Induction over the bytes of a run to t, from the last: each is one more pending byte, or ends a mark that has all
-- pending bytes.
module _ (d : ℕ) (t : State) (P : State → List ℕ → List Mark → Type 0) (at_end : P t [] [])
    (on_going : (q u : State) (c : ℕ) (cs : List ℕ) (ms : List Mark) → (pending u ≡ suc (pending q)) × IsSane u → P u cs ms → P q (c ∷ cs) ms)
    (on_reporting : (q u : State) (c : ℕ) (cs : List ℕ) (m : Mark) (ms : List Mark) → (size m ≡ suc (pending q)) × IsClear u → P u cs ms → P q (c ∷ cs) (m ∷ ms)) where
  pub by-run : (xs : List ℕ) (q : State) (ms : List Mark) → IsSane q → run d q xs ≡ reached t ms → P q xs ms
  by-run [] q ms s e =
      let same : t ≡ q = cc in
      let none : [] ≡ ms = cc in
      subst (λ (u : State). P u [] ms) same (subst (P t []) none at_end)
  by-run (c ∷ cs) q ms s e = go (take_byte d q c) (byte-balances d q c s) e (λ u ns i f. by-run cs u ns i f)
    where
      go : (next : Next) → Balances (pending q) next → and_then next (λ u. run d u cs) ≡ reached t ms → ((u : State) (ns : List Mark) → IsSane u → run d u cs ≡ reached t ns → P u cs ns) → P q (c ∷ cs) ms
      go (refuses r) b e ih = absurd (cc)
      go (goes u) b e ih = on_going q u c cs ms b (ih u ms b.1 e)
      go (reports m u) b e ih =
          let is = reporting-reached m (run d u cs) t ms e in
          subst (P q (c ∷ cs)) (sym is.2) (on_reporting q u c cs m is.0 b (ih u is.0 (clear-pending u b.1).1 is.1))

-- the next mark ends after what is pending
late : (d : ℕ) (rest : List ℕ) (q u : State) (ns : List Mark) (x : ℕ) → IsSane q → x ≤ pending q → run d q rest ≡ reached u ns → within x ns ≡ []
late d rest q u ns x s h f =
    by-run d u (λ q cs ms. x ≤ pending q → within x ms ≡ []) (λ h. refl) (λ q v c cs ms b ih h. ih (omega (arith, b.0, h))) (λ q v c cs m ms b ih h. within-none x m ms (omega (arith, b.0, h))) rest q ns s f h

-- `within` of what a longer run reports is what its prefix reports.
pub cut : (d : ℕ) (p : List ℕ) (q : State) (rest : List ℕ) (t u : State) (ms ns : List Mark) → IsSane q
    → run d q p ≡ reached t ms → run d q (p ++ rest) ≡ reached u ns → within (length p + pending q) ns ≡ ms
cut d [] q rest t u ms ns s e f =
    let none : [] ≡ ms = cc in
    let fits : 0 + pending q ≤ pending q = omega arith in
    late d rest q u ns (0 + pending q) s fits f ∙ none
cut d (c ∷ cs) q rest t u ms ns s e f = go (take_byte d q c) (byte-balances d q c s) e f (λ q' ms' ns' s' e' f'. cut d cs q' rest t u ms' ns' s' e' f')
  where
    go : (next : Next) → Balances (pending q) next → and_then next (λ t. run d t cs) ≡ reached t ms → and_then next (λ t. run d t (cs ++ rest)) ≡ reached u ns
        → ((q' : State) (ms' ns' : List Mark) → IsSane q' → run d q' cs ≡ reached t ms' → run d q' (cs ++ rest) ≡ reached u ns' → within (length cs + pending q') ns' ≡ ms')
        → within (suc (length cs) + pending q) ns ≡ ms
    go (refuses r) b e f ih = absurd (cc)
    go (goes q') b e f ih =
        let up = b.0 in
        let same : suc (length cs) + pending q ≡ length cs + pending q' = omega (arith, up) in
        ap (λ x. within x ns) same ∙ ih q' ms ns b.1 e f
    go (reports m q') b e f ih =
        let prefix = reporting-reached m (run d q' cs) t ms e in
        let all = reporting-reached m (run d q' (cs ++ rest)) u ns f in
        let clear = clear-pending q' b.1 in
        let none = clear.0 in
        let big = b.0 in
        let fits : size m ≤ suc (length cs) + pending q = omega (arith, big) in
        let less : (suc (length cs) + pending q) - size m ≡ length cs + pending q' = omega (arith, big, none) in
        ap (within (suc (length cs) + pending q)) all.2
        ∙ within-some (suc (length cs) + pending q) m all.0 fits
        ∙ ap (λ x. m ∷ within x all.0) less
        ∙ ap (λ xs. m ∷ xs) (ih q' prefix.0 all.0 clear.1 prefix.1 all.1)
        ∙ sym prefix.2

-- the marks so far are those of the trace of each item that starts with these bytes
pub reported : (d : ℕ) (s : Spelling) (p rest : List ℕ) (q : State) (ms : List Mark) → IsItem d s (p ++ rest) → run d start p ≡ reached q ms → ms ≡ within (length p) (trace s)
reported d s p rest q ms i e =
    let whole = cut d p start rest q done ms (trace s) tt e (item-done d s (p ++ rest) i) in
    let here : length p + 0 ≡ length p = omega arith in
    sym whole ∙ ap (λ x. within x (trace s)) here

-- a break reports something, or is refused
pub no-silent-break : (d : ℕ) (q u : State) → IsClear q → run d q (0xff ∷ []) ≡ reached u [] → ⊥
no-silent-break d (at_item (indefinite_map true ∷ fs)) u c e = cc e
no-silent-break d (in_head chunk m w k acc fs) u c e = c
no-silent-break d (in_simple fs) u c e = c
no-silent-break d (in_payload chunk m zero fs) u c e = cc e
no-silent-break d _ u c e = cc e
