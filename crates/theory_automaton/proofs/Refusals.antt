-- A byte is refused exactly if it may not follow, and with the right reason.
use Rattle.std.proofs.Common.{◌≡◌, ◌↔◌, ℕ, zero, ◌<◌, Bool, true, false, nat_lt, cond, List, [], ◌∷◌, ◌++◌, refl, ap, ◌∙◌, subst, arith, true≢false, ◌⊎◌, inl, inr}
use Rattle.cbor_head.specs.Prelude.{IsBeginning, MayFollow, AreBytes, IsReasonAt, initial_reason}
use Rattle.cbor_head.specs.declared.major.Major.TheVariants.{Unsigned, Negative, Bytes}
use Rattle.cbor_head.specs.declared.{major.Major.Major, reason.Reason.Reason, reason.Reason.TheVariants.BadSimple, reason.Reason.TheVariants.BadChunk}
use Rattle.theory_automaton.specs.Automaton.{start, Frame, indefinite_array, indefinite_map, State, at_item, in_head, in_simple, in_payload, in_chunks, done, Opening, direct, long, indefinite_string, indefinite_container, long_simple, breaks, bad, Next, refuses, goes, reports, opening, has_space, break_at, begin, is_major, in_string, take_byte, Outcome, refused, reached, reporting, and_then, run}
use Rattle.theory_automaton.proofs.Beginnings.{Reaches, onwards, run-append, beginning-reaches, reached-agrees, agrees-begins}
use Rattle.theory_automaton.{specs.Trace.Mark, proofs.Forward.reporting_all, proofs.Kept.AgreesNext, proofs.Kept.byte-kept}

abbrev pub IsTaken : Next → Type 0
IsTaken (refuses r) = ⊥
IsTaken (goes q) = Unit {0}
IsTaken (reports m q) = Unit {0}

pub reporting_all-reaches : (ms : List Mark) (o : Outcome) → Reaches (reporting_all ms o) → Reaches o
reporting_all-reaches [] o h = h
reporting_all-reaches (m ∷ ms) o h = reporting_all-reaches ms o (go (reporting_all ms o) h)
  where
    go : (o : Outcome) → Reaches (reporting m o) → Reaches o
    go (refused r) h = h
    go (reached q ms) h = tt

taken-reaches : (d : ℕ) (next : Next) → Reaches (and_then next (λ t. run d t [])) → IsTaken next
taken-reaches d (refuses r) h = h
taken-reaches d (goes q) h = tt
taken-reaches d (reports m q) h = tt

taken-begins : (d : ℕ) (next : Next) (p : List ℕ) → IsTaken next → AgreesNext d next p → IsBeginning d p
taken-begins d (refuses r) p t s = absurd t
taken-begins d (goes q) p t s = agrees-begins d q p s
taken-begins d (reports m q) p t s = agrees-begins d q p s

-- the machine accepts exactly the bytes that may follow
pub taken-follows : (d : ℕ) (p : List ℕ) (q : State) (ms : List Mark) (c : ℕ) → AreBytes p → c < 256 → run d start p ≡ reached q ms → IsTaken (take_byte d q c) ↔ MayFollow d p c
unfolding onwards
taken-follows d p q ms c hp hc e = (
  λ t. taken-begins d (take_byte d q c) (p ++ c ∷ []) t (byte-kept d q p c (reached-agrees d p q ms hp e) hc),
  λ f.
      let r : Reaches (run d start (p ++ c ∷ [])) = beginning-reaches d (p ++ c ∷ []) f in
      let moved : run d start (p ++ c ∷ []) ≡ reporting_all ms (run d q (c ∷ [])) = run-append d p (c ∷ []) start ∙ ap (λ o. onwards o (λ t. run d t (c ∷ []))) e in
      taken-reaches d (take_byte d q c) (reporting_all-reaches ms (run d q (c ∷ [])) (subst Reaches moved r)),
)

-- ---- the reason

guard-reason : (b : Bool) (next : Next) (a r : Reason) → IsTaken next → cond b next (refuses a) ≡ refuses r → r ≡ a
guard-reason true next a r t e = absurd (subst IsTaken e t)
guard-reason false next a r t e = cc

break-reason : (fs : List Frame) (c : ℕ) (r : Reason) → break_at fs c ≡ refuses r → r ≡ initial_reason c
break-reason (indefinite_array ∷ fs) c r e = absurd (cc)
break-reason (indefinite_map false ∷ fs) c r e = absurd (cc)
break-reason _ c r e = cc

begin-reason : (d : ℕ) (fs : List Frame) (c : ℕ) (o : Opening) (r : Reason) → begin d fs c o ≡ refuses r → r ≡ initial_reason c
begin-reason d fs c (direct m n) r e = guard-reason (has_space d fs m) _ _ r tt e
begin-reason d fs c (long m w) r e = guard-reason (has_space d fs m) _ _ r tt e
begin-reason d fs c (indefinite_string m) r e = absurd (cc)
begin-reason d fs c (indefinite_container m f) r e = guard-reason (has_space d fs m) _ _ r tt e
begin-reason d fs c long_simple r e = absurd (cc)
begin-reason d fs c breaks r e = break-reason fs c r e
begin-reason d fs c bad r e = cc

string-reason : (m : Major) (fs : List Frame) (o : Opening) (r : Reason) → in_string m fs o ≡ refuses r → r ≡ BadChunk
string-reason m fs (direct n x) r e = guard-reason (is_major m n) _ _ r tt e
string-reason m fs (long n w) r e = guard-reason (is_major m n) _ _ r tt e
string-reason m fs breaks r e = absurd (cc)
string-reason m fs _ r e = cc

simple-reason : (b : Bool) (next : Next) (r : Reason) → IsTaken next → cond b (refuses BadSimple) next ≡ refuses r → r ≡ BadSimple
simple-reason true next r t e = cc
simple-reason false next r t e = absurd (subst IsTaken e t)

no-integer : (m : Major) → (is_major m Unsigned ≡ false) × (is_major m Negative ≡ false)
no-integer Bytes = (refl, refl)
no-integer _ = (refl, refl)

refused-by : (b : Bool) (next : Next) (r : Reason) → b ≡ false → IsTaken (cond b next (refuses r)) → ⊥
refused-by true next r e t = true≢false e
refused-by false next r e t = t

abbrev pub IsUnfinished : State → Type 0
IsUnfinished done = ⊥
IsUnfinished _ = Unit {0}

-- the reason, from the other bytes that the machine would accept
abbrev pub ByOthers : ℕ → State → ℕ → Reason → Type 0
ByOthers d q c r =
    (IsTaken (take_byte d q 0x00) × (r ≡ initial_reason c)) ⊎ (¬ IsTaken (take_byte d q 0x00) × IsTaken (take_byte d q 0x20) × (r ≡ BadSimple))
    ⊎ (¬ IsTaken (take_byte d q 0x00) × ¬ IsTaken (take_byte d q 0x20) × (r ≡ BadChunk))

by-others : (d : ℕ) (q : State) (c : ℕ) (r : Reason) → IsUnfinished q → take_byte d q c ≡ refuses r → ByOthers d q c r
by-others d (at_item fs) c r u e = inl (tt, begin-reason d fs c (opening c) r e)
by-others d (in_simple fs) c r u e = inr (inl (λ t. t, tt, simple-reason (nat_lt c 32) _ r tt e))
by-others d (in_chunks m fs) c r u e =
    inr (inr (refused-by (is_major m Unsigned) _ _ (no-integer m).0, refused-by (is_major m Negative) _ _ (no-integer m).1, string-reason m fs (opening c) r e))
by-others d done c r u e = absurd u
by-others d (in_head chunk m w zero acc fs) c r u e = absurd (cc)
by-others d (in_payload chunk m zero fs) c r u e = absurd (cc)
by-others d _ c r u e = absurd (cc)

-- a byte is refused if it may not follow, and with the right reason
pub refuses-rightly : (d : ℕ) (p : List ℕ) (q : State) (ms : List Mark) (c : ℕ) (r : Reason) → AreBytes p → c < 256 → run d start p ≡ reached q ms → IsUnfinished q
    → take_byte d q c ≡ refuses r → (¬ MayFollow d p c) × IsReasonAt d p c r
refuses-rightly d p q ms c r hp hc e u h = (λ f. subst IsTaken h ((taken-follows d p q ms c hp hc e).1 f), by_follows (by-others d q c r u h))
  where
    at_zero : IsTaken (take_byte d q 0x00) ↔ MayFollow d p 0x00
    at_zero = let fits : 0x00 < 256 = omega arith in taken-follows d p q ms 0x00 hp fits e

    at_twenty : IsTaken (take_byte d q 0x20) ↔ MayFollow d p 0x20
    at_twenty = let fits : 0x20 < 256 = omega arith in taken-follows d p q ms 0x20 hp fits e

    by_follows : ByOthers d q c r → IsReasonAt d p c r
    by_follows (inl k) = inl (at_zero.0 k.0, k.1)
    by_follows (inr (inl k)) = inr (inl (λ f. k.0 (at_zero.1 f), at_twenty.0 k.1, k.2))
    by_follows (inr (inr k)) = inr (inr (λ f. k.0 (at_zero.1 f), λ f. k.1 (at_twenty.1 f), k.2))
