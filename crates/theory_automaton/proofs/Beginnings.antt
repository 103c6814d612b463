-- Exactly the beginnings lead the machine to a state.
use Rattle.std.proofs.Common.{◌≡◌, ℕ, zero, suc, max, ◌+◌, ◌<◌, ◌≤◌, Bool, true, false, List, [], ◌∷◌, ◌++◌, length, replicate, flat_map, refl, sym, ap, ◌∙◌, subst, arith, append_assoc, append-nil}
use Rattle.std.{specs.List.AllByRecursion, proofs.lemmas.List.length-replicate}
use Rattle.cbor_head.specs.Prelude.{IsBeginning, AreBytes, Chunk, IsChunk, Spelling, Spellings, unsigned, bytes, text, simple, no_spellings, a_spelling, spellings_count, spell, spell_all, chunk_bytes, IsSpelled, AreSpelled, depth, depth_all, IsItem}
use Rattle.cbor_head.specs.declared.major.Major.TheVariants.{Bytes, Text, Array, Map, Tag}
use Rattle.cbor_head.specs.declared.{major.Major.Major, width.Width.TheVariants.Direct}
use Rattle.theory_automaton.specs.Automaton.{start, Frame, counted, indefinite_array, indefinite_map, State, at_item, in_head, in_simple, in_payload, in_chunks, done, Next, refuses, goes, reports, close, close_string, expect, payload, after, take_byte, Outcome, refused, reached, reporting, and_then, run}
use Rattle.theory_automaton.proofs.Agrees.{Rest, closing, Opened, IsString, Chunked, Before, Agrees, space-of, head-done}
use Rattle.theory_automaton.{specs.Trace.Mark, specs.Trace.trace, proofs.Forward.forward, proofs.Forward.reporting_all}
use Rattle.theory_automaton.proofs.Kept.{AgreesOutcome, run-kept}

pub shorter : (d : ℕ) (xs ys : List ℕ) → IsBeginning d (xs ++ ys) → IsBeginning d xs
shorter d xs ys b = (b.0, ys ++ b.1, record { spelled = b.2.spelled; within = b.2.within; bytes_are = b.2.bytes_are ∙ append_assoc xs ys b.1 })

begins-along : (d : ℕ) (xs ys : List ℕ) → xs ≡ ys → IsBeginning d xs → IsBeginning d ys
begins-along d xs ys e b = subst (λ (zs : List ℕ). IsBeginning d zs) e b

abbrev pub zero_item : Spelling
zero_item = unsigned Direct 0

abbrev pub zeros : ℕ → Spellings
zeros zero = no_spellings
zeros (suc n) = a_spelling zero_item (zeros n)

-- zeros fill any container
pub record IsFilling (f : Frame) (ss : Spellings) : Type 0 where
  pub rest : (s : Spelling) → Rest f (a_spelling s ss)
  pub spelled : AreSpelled ss
  pub flat : depth_all ss ≡ 0

pub zeros_count : (n : ℕ) → spellings_count (zeros n) ≡ n
zeros_count zero = refl
zeros_count (suc n) = ap suc (zeros_count n)

pub zeros_spelled : (n : ℕ) → AreSpelled (zeros n)
zeros_spelled zero = tt
zeros_spelled (suc n) = let h : 0 < 24 = omega arith in (h, zeros_spelled n)

pub zeros_flat : (n : ℕ) → depth_all (zeros n) ≡ 0
zeros_flat zero = refl
zeros_flat (suc n) = let h = zeros_flat n in omega (arith, h)

abbrev fill : Frame → Spellings
fill (counted n) = zeros n
fill indefinite_array = no_spellings
fill (indefinite_map true) = no_spellings
fill (indefinite_map false) = zeros 1

filling : (f : Frame) → IsFilling f (fill f)
filling (counted n) = record { rest = λ s. ap suc (zeros_count n); spelled = zeros_spelled n; flat = zeros_flat n }
filling indefinite_array = record { rest = λ s. tt; spelled = tt; flat = refl }
filling (indefinite_map true) = record { rest = λ s. refl; spelled = tt; flat = refl }
filling (indefinite_map false) = record { rest = λ s. refl; spelled = zeros_spelled 1; flat = zeros_flat 1 }

-- wherever an item may begin, any item may be
pub complete : (d : ℕ) (fs : List Frame) (p : List ℕ) (s : Spelling) → Opened d fs p → IsSpelled s → depth s + length fs ≤ d → IsBeginning d (p ++ spell s)
complete d [] p s o h b =
    (s, [], record { spelled = h; within = omega arith; bytes_are = ap (λ xs. xs ++ spell s) (sym o) ∙ sym (append-nil (p ++ spell s)) })
complete d (f ∷ fs) p s o h b =
    let full = filling f in
    let flat = full.flat in
    let fits : max (depth s) (depth_all (fill f)) + suc (length fs) ≤ d = omega (arith, flat) in
    let whole = o.3 (a_spelling s (fill f)) (full.rest s) (h, full.spelled) fits in
    let regroup : (p ++ (spell s ++ spell_all (fill f))) ++ closing f ≡ (p ++ spell s) ++ (spell_all (fill f) ++ closing f) =
    ap (λ xs. xs ++ closing f) (sym (append_assoc p (spell s) (spell_all (fill f)))) ∙ append_assoc (p ++ spell s) (spell_all (fill f)) (closing f) in
    shorter d (p ++ spell s) (spell_all (fill f) ++ closing f)
    (begins-along d _ _ (whole.bytes_are ∙ regroup) (complete d fs o.0 whole.item o.1 whole.spelled whole.fits))

complete-chunks : (d : ℕ) (m : Major) (fs : List Frame) (p : List ℕ) → Chunked d m fs p → (cs : List Chunk) → AllByRecursion IsChunk cs → IsBeginning d (p ++ flat_map (chunk_bytes m) cs)
complete-chunks d m fs p b cs h =
    let whole = b.3 cs h in
    shorter d _ (0xff ∷ []) (begins-along d _ _ whole.bytes_are (complete d fs b.0 whole.item b.1 whole.spelled whole.fits))

pub zero_bytes : (n : ℕ) → AreBytes (replicate n 0)
zero_bytes zero = tt
zero_bytes (suc n) = let h : 0 < 256 = omega arith in (h, zero_bytes n)

complete-chunk : (d : ℕ) (chunk : Bool) (m : Major) (fs : List Frame) (p : List ℕ) (c : Chunk) → Before d chunk m fs p → IsString m → IsChunk c → IsBeginning d (p ++ chunk_bytes m c)
complete-chunk d true m fs p c b s h = begins-along d _ _ (ap (λ xs. p ++ xs) (append-nil (chunk_bytes m c))) (complete-chunks d m fs p b (c ∷ []) (h, tt))
complete-chunk d false Bytes fs p c b s h = complete d fs p (bytes c.width c.payload) b.0 h (space-of d fs p b.0)
complete-chunk d false Text fs p c b s h = complete d fs p (text c.width c.payload) b.0 h (space-of d fs p b.0)
complete-chunk d false _ fs p c b s h = absurd s

-- no head is open
abbrev pub IsClear : State → Type 0
IsClear (in_head chunk m w k acc fs) = ⊥
IsClear (in_simple fs) = ⊥
IsClear _ = Unit {0}

pub close-clear : (fs : List Frame) → IsClear (close fs)
close-clear (counted zero ∷ fs) = close-clear fs
close-clear _ = tt

expect-clear : (n : ℕ) (fs : List Frame) → IsClear (expect n fs)
expect-clear zero fs = close-clear fs
expect-clear (suc n) fs = tt

pub close_string-clear : (chunk : Bool) (m : Major) (fs : List Frame) → IsClear (close_string chunk m fs)
close_string-clear true m fs = tt
close_string-clear false m fs = close-clear fs

pub payload-clear : (chunk : Bool) (m : Major) (n : ℕ) (fs : List Frame) → IsClear (payload chunk m n fs)
payload-clear chunk m zero fs = close_string-clear chunk m fs
payload-clear chunk m (suc n) fs = tt

pub after-clear : (chunk : Bool) (m : Major) (n : ℕ) (fs : List Frame) → IsClear (after chunk m n fs)
after-clear true m n fs = payload-clear true m n fs
after-clear false Bytes n fs = payload-clear false Bytes n fs
after-clear false Text n fs = payload-clear false Text n fs
after-clear false Array n fs = expect-clear n fs
after-clear false Map n fs = expect-clear (n + n) fs
after-clear false Tag n fs = expect-clear 1 fs
after-clear false _ n fs = close-clear fs

settled : (d : ℕ) (q : State) (p : List ℕ) → IsClear q → Agrees d q p → IsBeginning d p
settled d (at_item fs) p i o = let h : 0 < 24 = omega arith in shorter d p (0 ∷ []) (complete d fs p zero_item o h (space-of d fs p o))
settled d (in_head chunk m w k acc fs) p i o = absurd i
settled d (in_simple fs) p i o = absurd i
settled d (in_payload chunk m n fs) p i o =
    let more = replicate (suc n) 0 in
    let whole = o.3 more (length-replicate (suc n) 0) (zero_bytes (suc n)) in
    shorter d p more (begins-along d _ _ whole.bytes_are (complete-chunk d chunk m fs o.0 whole.chunk o.1 o.2 whole.is))
settled d (in_chunks m fs) p i o = begins-along d _ _ (append-nil p) (complete-chunks d m fs p o [] tt)
settled d done p i o = (o.0, [], record { spelled = o.1.spelled; within = o.1.within; bytes_are = o.1.bytes_are ∙ sym (append-nil p) })

-- what led the machine to a state is a beginning
pub agrees-begins : (d : ℕ) (q : State) (p : List ℕ) → Agrees d q p → IsBeginning d p
agrees-begins d (in_head chunk m w k acc fs) p o =
    let more = replicate (suc k) 0 in
    let whole = o.2 more (length-replicate (suc k) 0) (zero_bytes (suc k)) in
    shorter d p more (begins-along d _ _ (sym whole.0) (settled d _ _ (after-clear chunk m _ fs) (head-done d chunk m w _ fs o.0 o.1 whole.1)))
agrees-begins d (in_simple fs) p o =
    let h : 32 ≤ 32 = omega arith in
    let k : 32 < 256 = omega arith in
    shorter d p (32 ∷ []) (begins-along d _ _ (sym (append_assoc o.0 (0xf8 ∷ []) (32 ∷ [])) ∙ ap (λ xs. xs ++ 32 ∷ []) (sym o.2)) (complete d fs o.0 (simple 32) o.1 (k, λ _. h) (space-of d fs o.0 o.1)))
agrees-begins d q p o = settled d q p tt o

-- ---- the two directions

unfoldable pub onwards : Outcome → (State → Outcome) → Outcome
onwards (refused r) f = refused r
onwards (reached q ms) f = reporting_all ms (f q)

reporting-onwards : (m : Mark) (o : Outcome) (f : State → Outcome) → reporting m (onwards o f) ≡ onwards (reporting m o) f
unfolding onwards
reporting-onwards m (refused r) f = refl
reporting-onwards m (reached q ms) f = refl

pub run-append : (d : ℕ) (xs ys : List ℕ) (q : State) → run d q (xs ++ ys) ≡ onwards (run d q xs) (λ t. run d t ys)
unfolding onwards
run-append d [] ys q = refl
run-append d (c ∷ cs) ys q = go (take_byte d q c) (λ t. run-append d cs ys t)
  where
    go : (next : Next) → ((t : State) → run d t (cs ++ ys) ≡ onwards (run d t cs) (λ u. run d u ys))
        → and_then next (λ t. run d t (cs ++ ys)) ≡ onwards (and_then next (λ t. run d t cs)) (λ u. run d u ys)
    go (refuses r) ih = refl
    go (goes t) ih = ih t
    go (reports m t) ih = ap (reporting m) (ih t) ∙ reporting-onwards m (run d t cs) (λ u. run d u ys)

pub reporting_all-reached : (ms ns : List Mark) (q : State) → reporting_all ms (reached q ns) ≡ reached q (ms ++ ns)
reporting_all-reached [] ns q = refl
reporting_all-reached (m ∷ ms) ns q = ap (reporting m) (reporting_all-reached ms ns q)

-- a whole item leads to done, and reports its trace
pub item-done : (d : ℕ) (s : Spelling) (p : List ℕ) → IsItem d s p → run d start p ≡ reached done (trace s)
item-done d s p i =
    let fits : depth s + 0 ≤ d = omega (arith, i.within) in
    ap (run d start) (sym i.bytes_are ∙ sym (append-nil (spell s))) ∙ forward d s [] [] i.spelled fits
    ∙ reporting_all-reached (trace s) [] done ∙ ap (reached done) (append-nil (trace s))

abbrev pub Reaches : Outcome → Type 0
Reaches (refused r) = ⊥
Reaches (reached q ms) = Unit {0}

reaches-prefix : (o : Outcome) (f : State → Outcome) → Reaches (onwards o f) → Reaches o
unfolding onwards
reaches-prefix (refused r) f h = h
reaches-prefix (reached q ms) f h = tt

pub beginning-reaches : (d : ℕ) (p : List ℕ) → IsBeginning d p → Reaches (run d start p)
beginning-reaches d p b =
    let whole = item-done d b.0 (p ++ b.1) b.2 in
    reaches-prefix (run d start p) (λ t. run d t b.1) (subst Reaches (sym whole ∙ run-append d p b.1 start) tt)

pub reached-agrees : (d : ℕ) (p : List ℕ) (q : State) (ms : List Mark) → AreBytes p → run d start p ≡ reached q ms → Agrees d q p
reached-agrees d p q ms h e = subst (λ (o : Outcome). AgreesOutcome d o p) e (run-kept d p start [] refl h)

pub reached-begins : (d : ℕ) (p : List ℕ) (q : State) (ms : List Mark) → AreBytes p → run d start p ≡ reached q ms → IsBeginning d p
reached-begins d p q ms h e = agrees-begins d q p (reached-agrees d p q ms h e)

-- only whole items lead to done
pub done-item : (d : ℕ) (p : List ℕ) (ms : List Mark) → AreBytes p → run d start p ≡ reached done ms → (s : Spelling) × IsItem d s p
done-item d p ms h e = reached-agrees d p done ms h e
