-- The longest beginning of an input, which each input has.
use Rattle.std.proofs.Common.{◌≡◌, ℕ, suc, ◌≤◌, ◌<◌, List, [], ◌∷◌, ◌++◌, length, take, drop, refl, sym, ap, ◌∙◌, subst, inl, inr, arith, append_assoc, take-append-drop, length-append}
use Rattle.std.proofs.{lemmas.Bool.cases_lt, lemmas.List.take-append-le, Math.Seq.take-append_seam}
use Rattle.cbor_head.specs.Prelude.{AreBytes, IsBeginning, MayFollow, IsLongestBeginning}
use Rattle.cbor_head.specs.declared.reason.Reason.{Reason}
use Rattle.theory_automaton.specs.Automaton.{start, State, Next, refuses, goes, reports, take_byte, run, reached, and_then}
use Rattle.theory_automaton.proofs.Beginnings.{onwards, run-append, reached-begins, shorter, reporting_all-reached}
use Rattle.theory_automaton.{specs.Trace.Mark, proofs.Forward.reporting_all, proofs.Refusals.taken-follows, proofs.Refusals.IsTaken}

-- a beginning that the next byte may not follow
pub longest_if_refused : (d : ℕ) (p : List ℕ) (c : ℕ) (rest : List ℕ) → IsBeginning d p → (MayFollow d p c → ⊥) → IsLongestBeginning d (p ++ c ∷ rest) p
longest_if_refused d p c rest begins initial_byte_error = record {
  beginning = begins;
  rest = c ∷ rest;
  splits = refl;
  longest = λ x y b same. elim (cases_lt (length p) (length x)) [
    | inr k ↦ k
    | inl k ↦
        let one : length (p ++ c ∷ []) ≡ suc (length p) = omega (arith, length-append p (c ∷ [])) in
        let fits : length (p ++ c ∷ []) ≤ length x = omega arith in
        let prefix : take (length (p ++ c ∷ [])) x ≡ p ++ c ∷ [] =
        sym (take-append-le (length (p ++ c ∷ [])) x y fits)
        ∙ ap (take (length (p ++ c ∷ []))) (sym same ∙ sym (append_assoc p (c ∷ []) rest))
        ∙ take-append_seam (p ++ c ∷ []) rest in
        let whole : IsBeginning d (take (length (p ++ c ∷ [])) x ++ drop (length (p ++ c ∷ [])) x) =
        subst (λ (zs : List ℕ). IsBeginning d zs) (sym (take-append-drop (length (p ++ c ∷ [])) x)) b in
        let follows : MayFollow d p c = subst (λ (zs : List ℕ). IsBeginning d zs) prefix (shorter d (take (length (p ++ c ∷ [])) x) (drop (length (p ++ c ∷ [])) x) whole) in
        absurd (initial_byte_error follows)
  ];
}

-- if a byte is refused, the bytes before it are the longest beginning
pub longest : (d : ℕ) (p : List ℕ) (q : State) (ms : List Mark) (c : ℕ) (rest : List ℕ) (r : Reason) → AreBytes p → c < 256 → run d start p ≡ reached q ms → take_byte d q c ≡ refuses r
    → IsLongestBeginning d (p ++ c ∷ rest) p
longest d p q ms c rest r hp hc e h = longest_if_refused d p c rest (reached-begins d p q ms hp e) (λ f. subst IsTaken h ((taken-follows d p q ms c hp hc e).1 f))

bytes_more : (p : List ℕ) (c : ℕ) → AreBytes p → c < 256 → AreBytes (p ++ c ∷ [])
bytes_more [] c h k = (k, tt)
bytes_more (b ∷ bs) c h k = (h.0, bytes_more bs c h.1 k)

run-more : (d : ℕ) (p : List ℕ) (q : State) (ms : List Mark) (c : ℕ) (next : Next) → run d start p ≡ reached q ms → take_byte d q c ≡ next
    → run d start (p ++ c ∷ []) ≡ reporting_all ms (and_then next (λ t. reached t []))
unfolding onwards
run-more d p q ms c next e h = run-append d p (c ∷ []) start ∙ ap (λ o. onwards o (λ t. run d t (c ∷ []))) e ∙ ap (λ n. reporting_all ms (and_then n (λ t. reached t []))) h

by_next : (d : ℕ) (p cs : List ℕ) (q : State) (ms : List Mark) (c : ℕ) (next : Next) → AreBytes p → c < 256 → run d start p ≡ reached q ms → take_byte d q c ≡ next
    → ((t : State) (ns : List Mark) → run d start (p ++ c ∷ []) ≡ reached t ns → (x : List ℕ) × IsLongestBeginning d ((p ++ c ∷ []) ++ cs) x)
    → (x : List ℕ) × IsLongestBeginning d (p ++ c ∷ cs) x
by_next d p cs q ms c (refuses r) h k e f again = (p, longest d p q ms c cs r h k e f)
by_next d p cs q ms c (goes t) h k e f again =
    let more = again t (ms ++ []) (run-more d p q ms c (goes t) e f ∙ reporting_all-reached ms [] t) in
    (more.0, subst (λ (b : List ℕ). IsLongestBeginning d b more.0) (append_assoc p (c ∷ []) cs) more.1)
by_next d p cs q ms c (reports m t) h k e f again =
    let more = again t (ms ++ m ∷ []) (run-more d p q ms c (reports m t) e f ∙ reporting_all-reached ms (m ∷ []) t) in
    (more.0, subst (λ (b : List ℕ). IsLongestBeginning d b more.0) (append_assoc p (c ∷ []) cs) more.1)

pub has_longest : (d : ℕ) (rest p : List ℕ) (q : State) (ms : List Mark) → AreBytes p → AreBytes rest → run d start p ≡ reached q ms → (x : List ℕ) × IsLongestBeginning d (p ++ rest) x
has_longest d [] p q ms h k e =
    (p, record { beginning = reached-begins d p q ms h e; rest = []; splits = refl; longest = λ x r b f. omega (arith, ap length f ∙ length-append x r, length-append p []) })
has_longest d (c ∷ cs) p q ms h k e = by_next d p cs q ms c (take_byte d q c) h k.0 e refl (λ t ns f. has_longest d cs (p ++ c ∷ []) t ns (bytes_more p c h k.0) k.1 f)

pub longest_exists : (d : ℕ) (b : List ℕ) → AreBytes b → (x : List ℕ) × IsLongestBeginning d b x
longest_exists d b h = has_longest d b [] start [] tt h refl
