-- Which first bytes begin no item where one is expected, and why.
use Rattle.std.proofs.Common.{◌≡◌, ℕ, suc, ◌+◌, ◌-◌, ◌*◌, ◌%◌, ◌<◌, ◌≤◌, ◌⊎◌, Bool, false, None, List, [], ◌∷◌, ◌++◌, length, get_or, refl, ap, ◌∙◌, subst, inl, inr, arith, append-nil, length-append, lt-ltb, le-ltb}
use Rattle.std.proofs.lemmas.Bool.Decides.{nat_tests}
use Rattle.cbor_head.specs.Prelude.{Rules, Bounds, simple, head, major_number, AreBytes, initial_reason, refusal}
use Rattle.cbor_head.specs.declared.major.Major.TheVariants.{Bytes, Text, Array, Map, Tag, Simple}
use Rattle.cbor_head.specs.declared.reason.Reason.TheVariants.{Reserved, NoIndefinite, Float, BadSimple, StrayBreak, TooDeep}
use Rattle.cbor_head.specs.declared.width.Width.TheVariants.{One, Two, Four, Eight, Indefinite}
use Rattle.cbor_head.specs.{declared.major.Major.Major, declared.reason.Reason.Reason, declared.width.Width.Width, InitialByte.IsInitialByteError}
use Rattle.theory_values.proofs.ByteLists.{bytes_back}
use Rattle.theory_automaton.specs.Automaton.{Frame, at_item, in_simple, Opening, direct, long, indefinite_length, long_simple, refuses, opening, has_space, begin, take_byte}
use Rattle.theory_automaton.{specs.Trace.more_bytes, proofs.Openings.IsLong, proofs.Openings.by-byte, proofs.Taking.IsNumbered}
use Rattle.theory_verdicts.specs.Path.{Level, a_member, a_key, a_value, bytes_before, AreClean, MayBreak}
use Rattle.theory_verdicts.{specs.Judged.IsJudged, specs.Kinds.KeepsToKinds, proofs.Judged.judged_start, proofs.Judged.judged_head, specs.PathKinds.KeepsHere}
use Rattle.theory_verdicts.{specs.Stop.HasBadByte, proofs.Heads.simple_cut, proofs.PathForm.containers, proofs.PathForm.containers_count}
use Rattle.theory_verdicts.proofs.{PathKinds.kept_before, PathStops.bad_byte_here, SpelledBytes.small_major}

-- ---- for which reason a byte is refused

reason_of : (c : ℕ) (space : Bool) (reason : Reason) → IsInitialByteError c space reason → initial_reason c ≡ reason
reason_of c space Reserved h = grind (arith, nat_tests)
reason_of c space NoIndefinite h = grind (arith, nat_tests)
reason_of c space Float h = grind (arith, nat_tests)
reason_of c space StrayBreak h = ap initial_reason h
reason_of c space TooDeep h = grind (arith, nat_tests)
reason_of c space _ h = absurd h

-- what begins an item, where there is space, is refused for no other reason
deep_only : (c : ℕ) (space : Bool) (reason : Reason) → IsInitialByteError c space reason → (c % 32 < 28) ⊎ ((c % 32 ≡ 31) × (64 ≤ c) × (c < 192)) → c < 249 → (space ≡ false) × (128 ≤ c) × (c < 224)
deep_only c space Reserved h low small = absurd (grind arith)
deep_only c space NoIndefinite h low small = absurd (grind arith)
deep_only c space Float h low small = absurd (omega (arith, h.0, small))
deep_only c space StrayBreak h low small = absurd (omega (arith, h, small))
deep_only c space TooDeep h low small = (h.0, h.1, h.2)
deep_only c space _ h low small = absurd h

-- the low five bits, if an argument follows them
pub long_low : (k : Major) (w : Width) (j low : ℕ) → IsLong k w j low → low < 28
long_low k w j low i = go w (ap (λ (xs : List ℕ). get_or xs 0 0) (i.made 0)) i.size
  where
    go : (w : Width) → get_or (head k w 0) 0 0 ≡ 32 * major_number k + low → more_bytes w ≡ suc j → low < 28
    go One e size = omega (arith, e)
    go Two e size = omega (arith, e)
    go Four e size = omega (arith, e)
    go Eight e size = omega (arith, e)
    go _ e size = absurd (cc size)

numbered_small : (m : Major) → IsNumbered m → major_number m < 7
numbered_small Simple i = absurd i
numbered_small _ i = omega arith

break_byte : (d : ℕ) (ls : List Level) → (MayBreak ls → ⊥) → take_byte d (at_item (containers ls)) 0xff ≡ refuses StrayBreak
break_byte d (a_member Indefinite left done ∷ ls) h = absurd (h tt)
break_byte d (a_key Indefinite left done ∷ ls) h = absurd (h tt)
break_byte d (a_value Indefinite left done k ∷ ls) h = refl
break_byte d _ h = refl

module _ (d : ℕ) (ls : List Level) (space : Bool) (reason : Reason) (full : space ≡ false → d ≤ length ls) where
  abbrev fs : List Frame
  fs = containers ls

  shut : (m : Major) (low : ℕ) → low < 32 → (space ≡ false) × (128 ≤ 32 * major_number m + low) × (32 * major_number m + low < 224) → has_space d fs m ≡ false
  shut Array low l h = le-ltb (length fs) d (omega (arith, full h.0, containers_count ls))
  shut Map low l h = le-ltb (length fs) d (omega (arith, full h.0, containers_count ls))
  shut Tag low l h = le-ltb (length fs) d (omega (arith, full h.0, containers_count ls))
  shut _ low l h = absurd (omega (arith, l, h.1, h.2))

  abbrev Refused : ℕ → Opening → Type 0
  Refused c o = IsInitialByteError c space reason → (c ≡ 0xff → MayBreak ls → ⊥) → begin d fs c o ≡ refuses (initial_reason c)

  no_direct : (m : Major) (n : ℕ) → n < 24 → Refused (32 * major_number m + n) (direct m n)
  no_direct m n l h broken = rw (shut m n (omega (arith, l)) (deep_only _ space reason h (inl (omega (arith, l))) (omega (arith, l, small_major m)))) refl

  no_long : (m : Major) (w : Width) (k low : ℕ) → IsNumbered m → IsLong m w k low → Refused (32 * major_number m + low) (long m w)
  no_long m w k low i g h broken =
      let l = long_low m w k low g in
      rw (shut m low (omega (arith, l)) (deep_only _ space reason h (inl (omega (arith, l))) (omega (arith, l, numbered_small m i)))) refl

  no_open : (m : Major) → Refused (32 * major_number m + 31) (indefinite_length m)
  no_open Bytes h broken = absurd (omega (arith, (deep_only 95 space reason h (inr (refl, omega arith, omega arith)) (omega arith)).1))
  no_open Text h broken = absurd (omega (arith, (deep_only 127 space reason h (inr (refl, omega arith, omega arith)) (omega arith)).1))
  no_open Array h broken = rw (shut Array 31 (omega arith) (deep_only 159 space reason h (inr (refl, omega arith, omega arith)) (omega arith))) refl
  no_open Map h broken = rw (shut Map 31 (omega arith) (deep_only 191 space reason h (inr (refl, omega arith, omega arith)) (omega arith))) refl
  no_open _ h broken = refl

  no_simple : Refused 0xf8 long_simple
  no_simple h broken = absurd (omega (arith, (deep_only 0xf8 space reason h (inl (omega arith)) (omega arith)).2))

  no_opening : (c : ℕ) → c < 256 → Refused c (opening c)
  no_opening = by-byte Refused no_direct no_long no_open no_simple (λ h broken. break_byte d ls (broken refl)) (λ c h broken. refl)

-- ---- a simple value in two bytes

simple_byte : (d : ℕ) (fs : List Frame) (c : ℕ) → c < 32 → take_byte d (in_simple fs) c ≡ refuses BadSimple
simple_byte d fs c h = rw (lt-ltb c 32 h) refl

-- ---- of the whole input

module _ (r : Rules) (limits : Bounds) (ls : List Level) (clean : AreClean r limits.depth ls) (keeps : KeepsToKinds limits r (bytes_before ls)) (b : List ℕ) (are : AreBytes b) (c : ℕ) (rest : List ℕ) where
  abbrev at : ℕ
  at = length (bytes_before ls)

  -- a byte begins no item here
  module _ (splits : b ≡ bytes_before ls ++ c ∷ rest) where
    refused_here : (reason : Reason) → take_byte limits.depth (at_item (containers ls)) c ≡ refuses reason → HasBadByte r limits b (refusal reason at (at + 1))
    refused_here reason e =
        subst (λ (x : List ℕ). HasBadByte r limits b (refusal reason (length x) (length x + 1))) (append-nil (bytes_before ls))
        (bad_byte_here r limits ls clean b [] (c ∷ rest) splits (kept_before limits r ls keeps) tt (judged_start r at (limits.depth - length ls)) c rest (at_item (containers ls)) [] reason refl are refl tt e)

    -- it is not allowed there
    pub initial_byte_error : (space : Bool) (reason : Reason) → IsInitialByteError c space reason → (c ≡ 0xff → MayBreak ls → ⊥) → (space ≡ false → limits.depth ≤ length ls) → HasBadByte r limits b (refusal reason at (at + 1))
    initial_byte_error space reason h broken full =
        let small = (bytes_back (bytes_before ls) (c ∷ rest) (subst AreBytes splits are)).0 in
        refused_here reason (no_opening limits.depth ls space reason full c small h broken ∙ ap refuses (reason_of c space reason h))

  pub bad_simple : KeepsHere limits r ls (0xf8 ∷ []) → b ≡ bytes_before ls ++ 0xf8 ∷ c ∷ rest → c < 32 → HasBadByte r limits b (refusal BadSimple (at + 1) (at + 1 + 1))
  bad_simple kept splits small =
      let j : IsJudged r at (limits.depth - length ls) (0xf8 ∷ []) None = judged_head r at (limits.depth - length ls) (0xf8 ∷ []) (simple 32) (0x20 ∷ []) simple_cut (omega arith) in
      subst (λ (k : ℕ). HasBadByte r limits b (refusal BadSimple k (k + 1))) (length-append (bytes_before ls) (0xf8 ∷ []))
      (bad_byte_here r limits ls clean b (0xf8 ∷ []) (c ∷ rest) splits kept (λ container some. absurd (omega (arith, some))) j c rest (in_simple (containers ls)) [] BadSimple refl are refl tt (simple_byte limits.depth (containers ls) c small))
