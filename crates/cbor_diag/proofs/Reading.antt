-- Texts are read back, so they determine their values. The reader accepts more than texts; only texts matter.
use Rattle.std.proofs.Common.{◌≡◌, ℕ, zero, suc, ◌/◌, ◌%◌, ◌^◌, ◌<◌, ◌≤◌, Bool, true, false, cond, List, [], ◌∷◌, ◌++◌, length, get_or, flat_map, codes, decimal, Result, Ok, Err, is_some, ◌⊎◌, inl, inr, eqb, ltb, refl, sym, ap, ◌∙◌, subst, arith, lt-ltb, ltb-true, eqb-true}
use Rattle.std.{proofs.lemmas.Bool.cases_Bool, specs.List.AllByRecursion, specs.Char.digit_value, specs.Str.Parse.digits_value, specs.Str.Parse.AllDigits}
use Rattle.std.proofs.lemmas.{Fmt.decimal_is_IsNumeral_wide, Str.Parse.digit_from_value}
use Rattle.hex.specs.Hex.{encode_with, encode_lower, lower_digits, decode_of, is_hex_digit}
use Rattle.hex.{proofs.HexLemmas.decode_of-encode_lower, proofs.HexLemmas.IsDigits-lower_digits, specs.declared.error.FromHexError.FromHexError}
use Rattle.cbor_head.specs.Prelude.{AreBytes}
use Rattle.cbor_diag.specs.Text.{escaped}

-- ---- the prefix that passes a test, and the rest

abbrev pub prefix : (ℕ → Bool) → List ℕ → List ℕ
prefix p [] = []
prefix p (x ∷ xs) = cond (p x) (x ∷ prefix p xs) []

abbrev pub rest : (ℕ → Bool) → List ℕ → List ℕ
rest p [] = []
rest p (x ∷ xs) = cond (p x) (rest p xs) (x ∷ xs)

abbrev pub Pass : (ℕ → Bool) → List ℕ → Type 0
Pass p xs = AllByRecursion (λ x. p x ≡ true) xs

-- the first byte does not pass
abbrev pub FirstFails : (ℕ → Bool) → List ℕ → Type 0
FirstFails p [] = Unit {0}
FirstFails p (x ∷ xs) = p x ≡ false

prefix-none : (p : ℕ → Bool) (ys : List ℕ) → FirstFails p ys → prefix p ys ≡ []
prefix-none p [] h = refl
prefix-none p (y ∷ ys) h = rw h refl

rest-none : (p : ℕ → Bool) (ys : List ℕ) → FirstFails p ys → rest p ys ≡ ys
rest-none p [] h = refl
rest-none p (y ∷ ys) h = rw h refl

pub prefix-all : (p : ℕ → Bool) (xs ys : List ℕ) → Pass p xs → FirstFails p ys → prefix p (xs ++ ys) ≡ xs
prefix-all p [] ys a h = prefix-none p ys h
prefix-all p (x ∷ xs) ys a h = let one = a.0 in rw one (ap (λ (l : List ℕ). x ∷ l) (prefix-all p xs ys a.1 h))

pub rest-all : (p : ℕ → Bool) (xs ys : List ℕ) → Pass p xs → FirstFails p ys → rest p (xs ++ ys) ≡ ys
rest-all p [] ys a h = rest-none p ys h
rest-all p (x ∷ xs) ys a h = let one = a.0 in rw one (rest-all p xs ys a.1 h)

-- ---- decimal numbers

abbrev pub digit : ℕ → Bool
digit c = ltb (digit_value c) 10

digits-pass : (cs : List ℕ) → AllDigits 10 cs → Pass digit cs
digits-pass [] h = tt
digits-pass (c ∷ cs) h = (lt-ltb (digit_value c) 10 h.0, digits-pass cs h.1)

pub record IsDecimal (n : ℕ) : Type 0 where
  pub some : 0 < length (decimal n)
  pub pass : Pass digit (decimal n)
  pub value : digits_value 10 (decimal n) ≡ n

pub decimals : (n : ℕ) → n ≤ 2 ^ 64 → IsDecimal n
decimals n h = let d = decimal_is_IsNumeral_wide n (omega arith) in record { some = d.0.0; pass = digits-pass (decimal n) d.0.1; value = d.1 }

-- 48 to 57
pub digit-range : (c : ℕ) → digit c ≡ true → (48 ≤ c) × (c ≤ 57)
digit-range c h = let r = digit_from_value c (ltb-true (digit_value c) 10 h) in (omega (arith, r), omega (arith, r))

pub no-digit : (c : ℕ) → (c < 48) ⊎ (57 < c) → digit c ≡ false
no-digit c h = elim (cases_Bool (digit c)) [
  | inl t ↦ (let r = digit-range c t in elim h [ inl a ↦ absurd (omega arith) | inr a ↦ absurd (omega arith) ])
  | inr f ↦ f
]

-- ---- byte strings

by_index : (xs : List ℕ) → AreBytes xs → (i : ℕ) → get_or xs i 0 < 256
by_index [] h i = omega arith
by_index (x ∷ xs) h zero = h.0
by_index (x ∷ xs) h (suc i) = by_index xs h.1 i

abbrev pub decoded : Result (List ℕ) FromHexError → List ℕ
decoded (Ok bs) = bs
decoded (Err e) = []

pub decoded-back : (bs : List ℕ) → AreBytes bs → decoded (decode_of (encode_lower bs)) ≡ bs
decoded-back bs h = ap decoded (decode_of-encode_lower bs (by_index bs h))

hex-digit : (d : ℕ) → d < 16 → is_hex_digit (get_or lower_digits d 0) ≡ true
hex-digit d h = ap is_some (IsDigits-lower_digits d h)

pub hex-pass : (bs : List ℕ) → AreBytes bs → Pass is_hex_digit (encode_lower bs)
unfolding encode_with
hex-pass [] h = tt
hex-pass (b ∷ bs) h = let small = h.0 in (hex-digit (b / 16) (omega arith), (hex-digit (b % 16) (omega arith), hex-pass bs h.1))

-- ---- texts

abbrev pub Two : Type 0
Two = List ℕ × List ℕ

abbrev onto : ℕ → Two → Two
onto c r = (c ∷ r.0, r.1)

abbrev pub first : List ℕ → ℕ
first cs = get_or cs 0 0

-- the bytes up to the closing quote, and what follows it
abbrev mutual
  pub unquoted : List ℕ → Two
  unquoted [] = ([], [])
  unquoted (c ∷ cs) = cond (eqb c 34) ([], cs) (cond (eqb c 92) (marked cs) (onto c (unquoted cs)))

  -- after a backslash
  marked : List ℕ → Two
  marked [] = ([], [])
  marked (c ∷ cs) = cond (eqb c 117) (numbered cs) (onto c (unquoted cs))

  -- after a `u`
  numbered : List ℕ → Two
  numbered (y ∷ z ∷ h ∷ l ∷ cs) = onto (first (decoded (decode_of (h ∷ l ∷ [])))) (unquoted cs)
  numbered _ = ([], [])

raw-step : (b : ℕ) (cs : List ℕ) → eqb b 34 ≡ false → eqb b 92 ≡ false → unquoted (b ∷ cs) ≡ onto b (unquoted cs)
raw-step b cs p q = rw (p, q) refl

control : (b : ℕ) (bs x : List ℕ) → AreBytes (b ∷ bs) → unquoted (flat_map escaped bs ++ 34 ∷ x) ≡ (bs, x) → unquoted (((codes "\\u00" ++ encode_lower (b ∷ [])) ++ flat_map escaped bs) ++ 34 ∷ x) ≡ (b ∷ bs, x)
unfolding encode_with
control b bs x h more =
    let back : first (decoded (decode_of (encode_lower (b ∷ [])))) ≡ b = ap first (decoded-back (b ∷ []) (h.0, tt)) in
    ap (λ (n : ℕ). onto n (unquoted (flat_map escaped bs ++ 34 ∷ x))) back ∙ ap (onto b) more

-- a byte of a text, and then the others: after a backslash, as its number, or raw
quoted : (b : ℕ) (p q r s : Bool) → eqb b 34 ≡ p → eqb b 92 ≡ q → ltb b 32 ≡ r → eqb b 127 ≡ s → (bs x : List ℕ) → AreBytes (b ∷ bs) → unquoted (flat_map escaped bs ++ 34 ∷ x) ≡ (bs, x)
    → unquoted ((escaped b ++ flat_map escaped bs) ++ 34 ∷ x) ≡ (b ∷ bs, x)
quoted b true q r s e f g h bs x k more = subst (λ n. unquoted ((escaped n ++ flat_map escaped bs) ++ 34 ∷ x) ≡ (n ∷ bs, x)) (sym (eqb-true b 34 e)) (ap (onto 34) more)
quoted b false true r s e f g h bs x k more = subst (λ n. unquoted ((escaped n ++ flat_map escaped bs) ++ 34 ∷ x) ≡ (n ∷ bs, x)) (sym (eqb-true b 92 f)) (ap (onto 92) more)
quoted b false false true s e f g h bs x k more = rw (e, f, g) (control b bs x k more)
quoted b false false false true e f g h bs x k more = rw (e, f, g, h) (control b bs x k more)
quoted b false false false false e f g h bs x k more = rw (e, f, g, h) (raw-step b (flat_map escaped bs ++ 34 ∷ x) e f ∙ ap (onto b) more)

pub unquoted-back : (bs x : List ℕ) → AreBytes bs → unquoted (flat_map escaped bs ++ 34 ∷ x) ≡ (bs, x)
unquoted-back [] x h = refl
unquoted-back (b ∷ bs) x h = quoted b (eqb b 34) (eqb b 92) (ltb b 32) (eqb b 127) refl refl refl refl bs x h (unquoted-back bs x h.1)
