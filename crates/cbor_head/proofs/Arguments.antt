-- The head that bytes begin with, by their first byte and the argument after it.
use Rattle.std.proofs.Common.{◌≡◌, ℕ, ◌+◌, ◌-◌, ◌*◌, ◌/◌, ◌%◌, ◌^◌, ◌<◌, ◌≤◌, List, [], ◌∷◌, ◌++◌, length, sym, ap, ◌∙◌, arith, length-append, subst}
use Rattle.std.specs.Int.{bytes_high_first}
use Rattle.byteorder.specs.Numbers.{length-bytes_high_first}
use Rattle.cbor_head.specs.Prelude.{Holds, IsHead, head, head_parts, major_number}
use Rattle.cbor_head.specs.declared.width.Width.TheVariants.{Direct, One, Two, Four, Eight, Indefinite}
use Rattle.cbor_head.specs.{Argument.IsArgument, Read.major_of, declared.major.Major.TheVariants.Unsigned, declared.major.Major.Major}
use Rattle.cbor_head.{specs.declared.width.Width.Width, proofs.HeadBack.first_kept, proofs.HeadLaws.major_back}
use Rattle.cbor_head.proofs.WholeHead.{head_holds, one_head}

-- what the first byte of a head is, and what follows it
record Begins (m : Major) (w : Width) (n : ℕ) (x : List ℕ) (first : ℕ) (following : List ℕ) : Type 0 where
  low : ℕ
  low_is : low < 28
  first_is : first ≡ 32 * major_number m + low
  argument : IsArgument low following w n x
  space : 24 ≤ low → 2 ^ (low - 24) ≤ length following

tail_is : (a b : ℕ) (xs ys : List ℕ) → a ∷ xs ≡ b ∷ ys → xs ≡ ys
tail_is a b xs ys e = cc e

head_is : (a b : ℕ) (xs ys : List ℕ) → a ∷ xs ≡ b ∷ ys → a ≡ b
head_is a b xs ys e = cc e

begins : (m : Major) (w : Width) (n : ℕ) (x : List ℕ) (first : ℕ) (following : List ℕ) → IsHead m w n → first ∷ following ≡ head m w n ++ x → Begins m w n x first following
begins m w n x first following h e = go w (head_holds m w n h) e
  where
    go : (w : Width) → Holds w n → first ∷ following ≡ head m w n ++ x → Begins m w n x first following
    go Direct h e = record {
      low = n;
      low_is = omega (arith, h);
      first_is = head_is _ _ _ _ e;
      argument = record { spelled = λ f. ap (λ (l : List ℕ). (f + n) ∷ l) (tail_is _ _ _ _ e); holds = h };
      space = λ l. absurd (omega (arith, l, h));
    }
    go One h e = let t = tail_is _ _ _ _ e in record {
      low = 24;
      low_is = omega arith;
      first_is = head_is _ _ _ _ e;
      argument = record { spelled = λ f. ap (λ (l : List ℕ). (f + 24) ∷ l) t; holds = h };
      space = λ l. omega (arith, ap length t, length-append (bytes_high_first 1 n) x, length-bytes_high_first 1 n);
    }
    go Two h e = let t = tail_is _ _ _ _ e in record {
      low = 25;
      low_is = omega arith;
      first_is = head_is _ _ _ _ e;
      argument = record { spelled = λ f. ap (λ (l : List ℕ). (f + 25) ∷ l) t; holds = h };
      space = λ l. omega (arith, ap length t, length-append (bytes_high_first 2 n) x, length-bytes_high_first 2 n);
    }
    go Four h e = let t = tail_is _ _ _ _ e in record {
      low = 26;
      low_is = omega arith;
      first_is = head_is _ _ _ _ e;
      argument = record { spelled = λ f. ap (λ (l : List ℕ). (f + 26) ∷ l) t; holds = h };
      space = λ l. omega (arith, ap length t, length-append (bytes_high_first 4 n) x, length-bytes_high_first 4 n);
    }
    go Eight h e = let t = tail_is _ _ _ _ e in record {
      low = 27;
      low_is = omega arith;
      first_is = head_is _ _ _ _ e;
      argument = record { spelled = λ f. ap (λ (l : List ℕ). (f + 27) ∷ l) t; holds = h };
      space = λ l. omega (arith, ap length t, length-append (bytes_high_first 8 n) x, length-bytes_high_first 8 n);
    }
    go Indefinite h e = absurd h

-- one argument after the low bits
one_argument : (low : ℕ) (following : List ℕ) (v w : Width) (k n : ℕ) (x y : List ℕ) → IsArgument low following v k x → IsArgument low following w n y → (v ≡ w) × (k ≡ n) × (x ≡ y)
one_argument low following v w k n x y a b =
    let t = one_head Unsigned Unsigned v w k n x y a.holds b.holds (sym (a.spelled 0) ∙ b.spelled 0) in
    (t.1, t.2, t.3)

-- no head is empty
pub no_bytes : (m : Major) (w : Width) (n : ℕ) → [] ≡ head m w n → ⊥
no_bytes m Direct n e = cc e
no_bytes m One n e = cc e
no_bytes m Two n e = cc e
no_bytes m Four n e = cc e
no_bytes m Eight n e = cc e
no_bytes m Indefinite n e = cc e

-- the head that an argument ends
pub head_here : (first : ℕ) (following : List ℕ) (w : Width) (n : ℕ) (rest : List ℕ) → first < 256 → IsArgument (first % 32) following w n rest → first ∷ following ≡ head (major_of (first / 32)) w n ++ rest
head_here first following w n rest small a = ap (λ (x : ℕ). x ∷ following) (sym (first_kept first small)) ∙ a.spelled (32 * major_number (major_of (first / 32)))

-- some bytes begin with a head: its argument is complete, and it is the only one
pub record ReadsHead (first : ℕ) (following : List ℕ) (m : Major) (w : Width) (n : ℕ) (x : List ℕ) : Type 0 where
  pub type : first / 32 ≡ major_number m
  pub low : first % 32 < 28
  pub space : 24 ≤ first % 32 → 2 ^ (first % 32 - 24) ≤ length following
  pub only : (v : Width) (k : ℕ) (y : List ℕ) → IsArgument (first % 32) following v k y → (v ≡ w) × (k ≡ n) × (y ≡ x)

pub reads_head : (first : ℕ) (following : List ℕ) (m : Major) (w : Width) (n : ℕ) (x : List ℕ) → IsHead m w n → first ∷ following ≡ head m w n ++ x → ReadsHead first following m w n x
reads_head first following m w n x h e =
    let b = begins m w n x first following h e in
    let low : first % 32 ≡ b.low = omega (arith, b.first_is, b.low_is) in
    record {
      type = omega (arith, b.first_is, b.low_is);
      low = omega (arith, low, b.low_is);
      space = λ l. subst (λ (k : ℕ). 24 ≤ k → 2 ^ (k - 24) ≤ length following) (sym low) b.space l;
      only = λ v k y a. one_argument b.low following v w k n y x (subst (λ (l : ℕ). IsArgument l following v k y) low a) b.argument;
    }

-- the two heads are the same
pub same_parts : (first : ℕ) (m : Major) (v w : Width) (k n : ℕ) → first / 32 ≡ major_number m → v ≡ w → k ≡ n → head_parts (major_of (first / 32)) v k ≡ head_parts m w n
same_parts first m v w k n high e f = let type : major_of (first / 32) ≡ m = ap major_of high ∙ major_back m in cc (type, e, f)
