-- Runs of the automaton, one after another.
use Rattle.std.proofs.Common.{◌≡◌, ℕ, zero, suc, ◌+◌, ◌-◌, ◌≤◌, ◌<◌, List, [], ◌∷◌, ◌++◌, length, take, get_or, replicate, Bool, refl, ap, ◌∙◌, arith, add-one, subst}
use Rattle.std.proofs.Math.Seq.{take-suc, take-append-add}
use Rattle.cbor_head.specs.declared.{event.EventKind.EventKind, major.Major.Major, width.Width.Width}
use Rattle.theory_automaton.specs.Trace.{Mark, a_byte, total}
use Rattle.theory_automaton.specs.Automaton as automaton
use Rattle.theory_automaton.specs.Automaton.{payload, close_string, State, start, in_payload, done, Next, goes, take_byte, and_then, reporting, run, reached}
use Rattle.theory_automaton.specs.Marks.{mark_of, marks_of, times}
use Rattle.theory_automaton.proofs.Beginnings.{onwards, run-append, reporting_all-reached}
use Rattle.theory_automaton.proofs.Events.{IsSane, pending, clear-pending, by-run}
use Rattle.theory_automaton.proofs.{Forward.reporting_all, Refusals.IsUnfinished}

-- a prefix of xs and ys that ends within ys
pub take-following : (t : ℕ) (xs ys : List ℕ) → length xs ≤ t → take t (xs ++ ys) ≡ xs ++ take (t - length xs) ys
take-following t xs ys h =
    let e : length xs + (t - length xs) ≡ t = omega arith in
    subst (λ (n : ℕ). take n (xs ++ ys) ≡ xs ++ take (t - length xs) ys) e (take-append-add xs ys (t - length xs))

pub run-more : (d : ℕ) (xs : List ℕ) (c : ℕ) (q t : State) → run d q xs ≡ reached t [] → run d q (xs ++ c ∷ []) ≡ run d t (c ∷ [])
unfolding onwards
run-more d xs c q t e = run-append d xs (c ∷ []) q ∙ ap (λ o. onwards o (λ u. run d u (c ∷ []))) e

pub run-one : (d c : ℕ) (q u : State) → take_byte d q c ≡ goes u → run d q (c ∷ []) ≡ reached u []
run-one d c q u e = ap (λ n. and_then n (λ v. run d v [])) e

-- a run of one byte more
pub run-next : (d i : ℕ) (xs : List ℕ) (q t : State) (next : Next) → i < length xs → run d q (take i xs) ≡ reached t [] → take_byte d t (get_or xs i 0) ≡ next → run d q (take (i + 1) xs) ≡ and_then next (λ v. run d v [])
run-next d i xs q t next h e f =
    let prefix : take (i + 1) xs ≡ take i xs ++ get_or xs i 0 ∷ [] = rw add-one (take-suc xs i 0 h) in
    ap (run d q) prefix ∙ run-more d (take i xs) (get_or xs i 0) q t e ∙ ap (λ n. and_then n (λ v. run d v [])) f

pub run-on : (d : ℕ) (t bs : List ℕ) (q u : State) (ms ns : List Mark) → run d start t ≡ reached q ms → run d q bs ≡ reached u ns → run d start (t ++ bs) ≡ reached u (ms ++ ns)
unfolding onwards
run-on d t bs q u ms ns e f =
    run-append d t bs start ∙ ap (λ o. onwards o (λ v. run d v bs)) e ∙ ap (reporting_all ms) f ∙ reporting_all-reached ms ns u

pub once-marks : (w : Width) (kind : EventKind) → times kind ≡ 1 → marks_of w kind ≡ mark_of w kind ∷ []
once-marks w kind e = ap (λ n. replicate n (mark_of w kind)) e

-- a run without a mark does not end at done
pub silent-unfinished : (d : ℕ) (xs : List ℕ) (q t : State) → IsSane q → IsUnfinished q → run d q xs ≡ reached t [] → IsUnfinished t
silent-unfinished d xs q t s u e =
    by-run d t (λ q cs ms. ms ≡ [] → IsUnfinished q → IsUnfinished t) (λ none u. u) (λ q v c cs ms b ih none u. ih none (never v b.0)) (λ q v c cs m ms b ih none. absurd (cc none)) xs q [] s e refl u
  where
    never : (v : State) → {was : ℕ} → pending v ≡ suc was → IsUnfinished v
    never done h = absurd (omega arith)
    never _ h = tt

pub sane-run : (d : ℕ) (xs : List ℕ) (q t : State) (ms : List Mark) → IsSane q → run d q xs ≡ reached t ms → IsSane t
sane-run d xs q t ms s e = by-run d t (λ q cs ms. IsSane q → IsSane t) (λ s. s) (λ q v c cs ms b ih s. ih b.1) (λ q v c cs m ms b ih s. ih (clear-pending v b.1).1) xs q ms s e s

-- marks tile the bytes up to the head that is open
pub tiles : (d : ℕ) (xs : List ℕ) (q t : State) (ms : List Mark) → IsSane q → run d q xs ≡ reached t ms → total ms + pending t ≡ length xs + pending q
tiles d xs q t ms s e =
    by-run d t (λ q cs ms. total ms + pending t ≡ length cs + pending q) refl (λ q v c cs ms b ih. omega (arith, b.0, ih)) (λ q v c cs m ms b ih. omega (arith, b.0, ih, (clear-pending v b.1).0)) xs q ms s e

-- ---- a part of a payload

payload-bytes : (d : ℕ) (chunk : Bool) (m : Major) (fs : List automaton.Frame) (bs : List ℕ) (j n : ℕ) → n ≡ length bs + j
    → run d (payload chunk m n fs) bs ≡ reached (payload chunk m j fs) (replicate (length bs) a_byte)
payload-bytes d chunk m fs [] j n e =
    let same : n ≡ j = omega arith in
    ap (λ k. reached (payload chunk m k fs) []) same
payload-bytes d chunk m fs (b ∷ bs) j zero e = absurd (omega arith)
payload-bytes d chunk m fs (b ∷ bs) j (suc zero) e =
    let left : 0 ≡ length bs + j = omega arith in
    ap (reporting a_byte) (payload-bytes d chunk m fs bs j 0 left)
payload-bytes d chunk m fs (b ∷ bs) j (suc (suc n)) e =
    let left : suc n ≡ length bs + j = omega arith in
    ap (reporting a_byte) (payload-bytes d chunk m fs bs j (suc n) left)

pub piece_part : (d : ℕ) (chunk : Bool) (m : Major) (fs : List automaton.Frame) (bs : List ℕ) (left n : ℕ) → length bs ≡ n → n ≤ left
    → run d (in_payload chunk m left fs) bs ≡ reached (in_payload chunk m (left - n) fs) (replicate n a_byte)
piece_part d chunk m fs bs left n e h =
    let all : suc left ≡ length bs + suc (left - n) = omega arith in
    payload-bytes d chunk m fs bs (suc (left - n)) (suc left) all ∙ ap (λ k. reached (in_payload chunk m (left - n) fs) (replicate k a_byte)) e

pub piece_last : (d : ℕ) (chunk : Bool) (m : Major) (fs : List automaton.Frame) (bs : List ℕ) (left : ℕ) → length bs ≡ left + 1
    → run d (in_payload chunk m left fs) bs ≡ reached (close_string chunk m fs) (replicate (left + 1) a_byte)
piece_last d chunk m fs bs left e =
    let all : suc left ≡ length bs + 0 = omega arith in
    payload-bytes d chunk m fs bs 0 (suc left) all ∙ ap (λ k. reached (close_string chunk m fs) (replicate k a_byte)) e
