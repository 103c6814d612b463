-- What is read as a head is the encoding of that head.
use Rattle.std.proofs.Common.{ℕ, zero, suc, ◌+◌, ◌*◌, ◌/◌, ◌%◌, ◌^◌, ◌≡◌, ◌<◌, ◌≤◌, ◌==◌, ◌⊎◌, inl, inr, Bool, true, false, cond, if◌then◌else◌, List, [], ◌∷◌, ◌++◌, length, take, drop, get_or, Option, Some, None, refl, sym, ap, ◌∙◌, arith, nat_le, nat_lt, subst, ltb-true, leb-true, eqb-true, append-nil, take-append-drop, length-take-le}
use Rattle.std.{proofs.lemmas.List.nil_from_length, proofs.Math.Nat.mod-lt, proofs.lemmas.Nat.same_from_place, specs.Int.byte_at, specs.Int.bytes_high_first}
use Rattle.byteorder.specs.Endian.{big_number, big_bytes, big_from}
use Rattle.byteorder.specs.Numbers.{big_number-reads_back, length-bytes_high_first, big_from-cons, big_from-lt, big_from-take}
use Rattle.cbor_head.specs.Prelude.{head, major_number, HoldsOrIndefinite}
use Rattle.cbor_head.specs.Read.{◌>>=◌, Prefix, prefix, major_of, numbered, with_low, read_head}
use Rattle.cbor_head.specs.declared.width.Width.TheVariants.{Direct, One, Two, Four, Eight, Indefinite}
use Rattle.cbor_head.{specs.declared.major.Major.Major, specs.declared.width.Width.Width, proofs.HeadLaws.reported}

-- a list of bytes, by index
abbrev pub ByPlace : List ℕ → Type 0
ByPlace xs = (i : ℕ) → get_or xs i 0 < 256

pub by_place-tail : (x : ℕ) (xs : List ℕ) → ByPlace (x ∷ xs) → ByPlace xs
by_place-tail x xs h = λ i. h (suc i)

pub by_place-cons : (x : ℕ) (xs : List ℕ) → x < 256 → ByPlace xs → ByPlace (x ∷ xs)
by_place-cons x xs a h zero = a
by_place-cons x xs a h (suc i) = h i

pub by_place-take : (n : ℕ) (xs : List ℕ) → ByPlace xs → ByPlace (take n xs)
by_place-take zero xs h = λ i. omega arith
by_place-take (suc n) [] h = h
by_place-take (suc n) (x ∷ xs) h = by_place-cons x (take n xs) (h zero) (by_place-take n xs (by_place-tail x xs h))

byte_small : (k x : ℕ) → byte_at k x < 256
byte_small zero x = mod-lt x (omega arith)
byte_small (suc k) x = mod-lt (x / 256 ^ suc k) (omega arith)

by_place-bytes : (n x : ℕ) → ByPlace (bytes_high_first n x)
by_place-bytes zero x = λ i. omega arith
by_place-bytes (suc n) x = by_place-cons (byte_at n x) (bytes_high_first n x) (byte_small n x) (by_place-bytes n x)

-- bytes of the same length and number are the same
same_number : (k : ℕ) (xs ys : List ℕ) → length xs ≡ k → length ys ≡ k → ByPlace xs → ByPlace ys → big_from 0 k xs ≡ big_from 0 k ys → xs ≡ ys
same_number zero xs ys a b h i e = nil_from_length xs a ∙ sym (nil_from_length ys b)
same_number (suc k) [] ys a b h i e = absurd (omega arith)
same_number (suc k) (x ∷ xs) [] a b h i e = absurd (omega arith)
same_number (suc k) (x ∷ xs) (y ∷ ys) a b h i e =
    let small = big_from-lt 0 k xs (by_place-tail x xs h) in
    let less = big_from-lt 0 k ys (by_place-tail y ys i) in
    let f : x * 256 ^ k + big_from 0 k xs ≡ y * 256 ^ k + big_from 0 k ys = ap (λ (r : ℕ). x * 256 ^ k + r) (sym (big_from-cons 0 k x xs)) ∙ e ∙ ap (λ (r : ℕ). y * 256 ^ k + r) (big_from-cons 0 k y ys) in
    let p = same_from_place x (big_from 0 k xs) y (big_from 0 k ys) (256 ^ k) small less f in
    let rest : xs ≡ ys = same_number k xs ys (omega arith) (omega arith) (by_place-tail x xs h) (by_place-tail y ys i) p.1 in
    cc (p.0, rest)

whole_number : (k : ℕ) (xs : List ℕ) → length xs ≡ k → ByPlace xs → big_bytes k (big_from 0 k xs) ≡ xs
whole_number k xs e h =
    let n = big_from 0 k xs in
    same_number k (big_bytes k n) xs (length-bytes_high_first k n) e (by_place-bytes k n) h
    (ap (big_from 0 k) (sym (append-nil (big_bytes k n))) ∙ big_number-reads_back k n [] (big_from-lt 0 k xs h))

-- the first k bytes are those of their number
pub prefix_number : (k : ℕ) (bs : List ℕ) → k ≤ length bs → ByPlace bs → big_bytes k (big_number k bs) ++ drop k bs ≡ bs
prefix_number k bs h b =
    ap (λ (l : List ℕ). l ++ drop k bs) (ap (big_bytes k) (sym (big_from-take 0 k k bs (omega arith))) ∙ whole_number k (take k bs) (length-take-le k bs h) (by_place-take k bs b))
    ∙ take-append-drop k bs

pub chosen : {A : Type 0} (b : Bool) (x y z : A) → cond b x y ≡ z → ((b ≡ true) × (x ≡ z)) ⊎ ((b ≡ false) × (y ≡ z))
chosen true x y z e = inl (refl, e)
chosen false x y z e = inr (refl, e)

pub bind_some : {A B : Type 0} (o : Option A) (f : A → Option B) (y : B) → (o >>= f) ≡ Some y → (x : A) × (o ≡ Some x) × (f x ≡ Some y)
bind_some None f y e = absurd (cc e)
bind_some (Some x) f y e = (x, refl, e)

-- h is what b begins with
pub record IsPrefix (b : List ℕ) (h : Prefix) : Type 0 where
  pub holds : HoldsOrIndefinite h.width h.argument
  pub reports : reported h.width h.argument ≡ h.argument
  pub bytes_are : head h.major h.width h.argument ++ h.rest ≡ b

major_kept : (q : ℕ) → q < 8 → major_number (major_of q) ≡ q
major_kept (suc (suc (suc (suc (suc (suc (suc (suc q)))))))) h = absurd (omega arith)
major_kept q h = refl

pub first_kept : (b : ℕ) → b < 256 → 32 * major_number (major_of (b / 32)) + b % 32 ≡ b
first_kept b h = rw (major_kept (b / 32) (omega arith)) (omega arith)

numbered_prefix : (b : ℕ) (m : Major) (w : Width) (k : ℕ) (bs : List ℕ) (h : Prefix) → ByPlace bs
    → ((n : ℕ) → n < 256 ^ k → HoldsOrIndefinite w n) → ((n : ℕ) → reported w n ≡ n) → ((n : ℕ) → head m w n ≡ b ∷ big_bytes k n)
    → numbered m w k bs ≡ Some h → IsPrefix (b ∷ bs) h
numbered_prefix b m w k bs h small holds reports spelled e =
    elim (chosen (nat_le k (length bs)) (Some (prefix m w (big_number k bs) (drop k bs))) None (Some h) e) [
      | inl p ↦
          let same : prefix m w (big_number k bs) (drop k bs) ≡ h = cc p.1 in
          subst (IsPrefix (b ∷ bs)) same (record {
            holds = holds (big_number k bs) (big_from-lt 0 k bs small);
            reports = reports (big_number k bs);
            bytes_are = ap (λ (l : List ℕ). l ++ drop k bs) (spelled (big_number k bs)) ∙ ap (λ (l : List ℕ). b ∷ l) (prefix_number k bs (leb-true k (length bs) p.0) small);
          })
      | inr p ↦ absurd (cc p.1)
    ]

-- a case of the low five bits, and what is read in the others
one_case : (b k : ℕ) (m : Major) (low n : ℕ) (w : Width) (bs : List ℕ) (h : Prefix) (rest : Option Prefix) → ByPlace bs → 32 * major_number m + low ≡ b
    → ((x : ℕ) → x < 256 ^ n → HoldsOrIndefinite w x) → ((x : ℕ) → reported w x ≡ x) → ((x : ℕ) → head m w x ≡ (32 * major_number m + k) ∷ big_bytes n x)
    → (if low == k then numbered m w n bs else rest) ≡ Some h → (rest ≡ Some h → IsPrefix (b ∷ bs) h) → IsPrefix (b ∷ bs) h
one_case b k m low n w bs h rest small e holds reports spelled f other =
    elim (chosen (low == k) (numbered m w n bs) rest (Some h) f) [
      | inl p ↦
          let is : low ≡ k = eqb-true low k p.0 in
          let first : 32 * major_number m + k ≡ b = omega arith in
          numbered_prefix b m w n bs h small holds reports (λ x. spelled x ∙ ap (λ (y : ℕ). y ∷ big_bytes n x) first) p.1
      | inr p ↦ other p.1
    ]

low_prefix : (b : ℕ) (m : Major) (low : ℕ) (bs : List ℕ) (h : Prefix) → ByPlace bs → 32 * major_number m + low ≡ b → with_low m low bs ≡ Some h → IsPrefix (b ∷ bs) h
low_prefix b m low bs h small e f =
    elim (chosen (nat_lt low 24) (Some (prefix m Direct low bs)) _ (Some h) f) [
      | inl p ↦
          let same : prefix m Direct low bs ≡ h = cc p.1 in
          let less : low < 24 = ltb-true low 24 p.0 in
          subst (IsPrefix (b ∷ bs)) same (record { holds = less; reports = refl; bytes_are = ap (λ (x : ℕ). x ∷ bs) e })
      | inr p ↦
          one_case b 24 m low 1 One bs h _ small e (λ n l. l) (λ n. refl) (λ n. refl) p.1
          (λ f1. one_case b 25 m low 2 Two bs h _ small e (λ n l. l) (λ n. refl) (λ n. refl) f1
          (λ f2. one_case b 26 m low 4 Four bs h _ small e (λ n l. l) (λ n. refl) (λ n. refl) f2
          (λ f3. one_case b 27 m low 8 Eight bs h _ small e (λ n l. l) (λ n. refl) (λ n. refl) f3 opener)))
    ]
  where
    opener : (if low == 31 then Some (prefix m Indefinite 0 bs) else None) ≡ Some h → IsPrefix (b ∷ bs) h
    opener f = elim (chosen (low == 31) (Some (prefix m Indefinite 0 bs)) None (Some h) f) [
      | inl p ↦
          let is : low ≡ 31 = eqb-true low 31 p.0 in
          let first : 32 * major_number m + 31 ≡ b = omega arith in
          let same : prefix m Indefinite 0 bs ≡ h = cc p.1 in
          subst (IsPrefix (b ∷ bs)) same (record { holds = tt; reports = refl; bytes_are = ap (λ (x : ℕ). x ∷ bs) first })
      | inr p ↦ absurd (cc p.1)
    ]

pub read_head-back : (b : List ℕ) (h : Prefix) → ByPlace b → read_head b ≡ Some h → IsPrefix b h
unfolding read_head
read_head-back [] h small e = absurd (cc e)
read_head-back (b ∷ bs) h small e = low_prefix b (major_of (b / 32)) (b % 32) bs h (by_place-tail b bs small) (first_kept b (small 0)) e
