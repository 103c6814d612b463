-- A head is read back.
use Rattle.std.proofs.Common.{ℕ, ◌+◌, ◌*◌, ◌/◌, ◌%◌, ◌^◌, ◌≡◌, ◌<◌, true, List, ◌∷◌, ◌++◌, length, drop, Some, refl, ◌∙◌, arith, nat_le, subst, lt-ltb, le-leb, length-append}
use Rattle.std.proofs.Math.Seq.{drop-append_seam}
use Rattle.byteorder.specs.{Endian.big_number, Endian.big_bytes, Numbers.big_number-reads_back, Numbers.length-bytes_high_first}
use Rattle.cbor_head.specs.Prelude.{head, Holds, major_number, HoldsOrIndefinite}
use Rattle.cbor_head.specs.Read.{prefix, major_of, numbered, with_low, read_head}
use Rattle.cbor_head.specs.declared.width.Width.TheVariants.{Direct, One, Two, Four, Eight, Indefinite}
use Rattle.cbor_head.specs.declared.{major.Major.Major, major.Major.TheVariants.Unsigned, width.Width.Width}

-- the argument that is read back from a head: 0 for an indefinite length
abbrev pub reported : Width → ℕ → ℕ
reported Indefinite n = 0
reported _ n = n

pub reported_holds : (w : Width) (n : ℕ) → Holds w n → reported w n ≡ n
reported_holds Indefinite n h = absurd h
reported_holds _ n h = refl

pub major_back : (m : Major) → major_of (major_number m) ≡ m
major_back Unsigned = refl
major_back m = refl

high : (m low : ℕ) → low < 32 → (32 * m + low) / 32 ≡ m
high m low h = omega arith

low_of : (m low : ℕ) → low < 32 → (32 * m + low) % 32 ≡ low
low_of m low h = omega arith

-- the first byte has the type and the low five bits
first : (m : Major) (low : ℕ) (bs : List ℕ) → low < 32 → read_head ((32 * major_number m + low) ∷ bs) ≡ with_low m low bs
unfolding read_head
first m low bs h = rw (high (major_number m) low h, low_of (major_number m) low h, major_back m) refl

direct : (m : Major) (n : ℕ) (bs : List ℕ) → n < 24 → with_low m n bs ≡ Some (prefix m Direct n bs)
direct m n bs h = rw (lt-ltb n 24 h) refl

numbered_of : (m : Major) (w : Width) (k n : ℕ) (ys x : List ℕ) → length ys ≡ k → big_number k (ys ++ x) ≡ n → numbered m w k (ys ++ x) ≡ Some (prefix m w n x)
numbered_of m w k n ys x e number =
    let space : nat_le k (length (ys ++ x)) ≡ true = le-leb k (length (ys ++ x)) (omega (arith, length-append ys x)) in
    let past : drop k (ys ++ x) ≡ x = subst (λ (j : ℕ). drop j (ys ++ x) ≡ x) e (drop-append_seam ys x) in
    rw (space, past, number) refl

numbered_back : (m : Major) (w : Width) (k n : ℕ) (x : List ℕ) → n < 256 ^ k → numbered m w k (big_bytes k n ++ x) ≡ Some (prefix m w n x)
numbered_back m w k n x h = numbered_of m w k n (big_bytes k n) x (length-bytes_high_first k n) (big_number-reads_back k n x h)

pub read_head-head : (m : Major) (w : Width) (n : ℕ) (x : List ℕ) → HoldsOrIndefinite w n → read_head (head m w n ++ x) ≡ Some (prefix m w (reported w n) x)
read_head-head m Direct n x h = first m n x (omega arith) ∙ direct m n x h
read_head-head m One n x h = first m 24 (big_bytes 1 n ++ x) (omega arith) ∙ numbered_back m One 1 n x h
read_head-head m Two n x h = first m 25 (big_bytes 2 n ++ x) (omega arith) ∙ numbered_back m Two 2 n x h
read_head-head m Four n x h = first m 26 (big_bytes 4 n ++ x) (omega arith) ∙ numbered_back m Four 4 n x h
read_head-head m Eight n x h = first m 27 (big_bytes 8 n ++ x) (omega arith) ∙ numbered_back m Eight 8 n x h
read_head-head m Indefinite n x h = first m 31 x (omega arith)
