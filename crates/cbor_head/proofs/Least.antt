-- The shortest head is the least.
use Rattle.std.proofs.Common.{ℕ, ◌+◌, ◌*◌, ◌^◌, ◌≡◌, ◌<◌, ◌≤◌, [], ◌∷◌, inl, inr, length, arith, subst, refl, sym, ap, ◌∙◌, nat_lt, if◌then◌else◌, lt-ltb, le-ltb}
use Rattle.std.proofs.lemmas.Bool.{cases_lt}
use Rattle.cbor_head.specs.Prelude.{head, Holds, shortest, shortest_head, major_number}
use Rattle.cbor_head.specs.declared.width.Width.TheVariants.{Direct, One, Two, Four, Eight, Indefinite}
use Rattle.cbor_head.specs.declared.{major.Major.Major, width.Width.Width}

-- the shortest width, by the size of the argument
data Size (n : ℕ) : Type 0 where
  direct : n < 24 → shortest n ≡ Direct → Size n
  one : 24 ≤ n → n < 2 ^ 8 → shortest n ≡ One → Size n
  two : 2 ^ 8 ≤ n → n < 2 ^ 16 → shortest n ≡ Two → Size n
  four : 2 ^ 16 ≤ n → n < 2 ^ 32 → shortest n ≡ Four → Size n
  eight : 2 ^ 32 ≤ n → shortest n ≡ Eight → Size n

size : (n : ℕ) → Size n
size n = elim (cases_lt n 24) [
  | inl h ↦ direct h (rw (lt-ltb n 24 h) refl)
  | inr h ↦ elim (cases_lt n (2 ^ 8)) [
    | inl i ↦ one h i (rw (le-ltb n 24 h, lt-ltb n (2 ^ 8) i) refl)
    | inr i ↦ elim (cases_lt n (2 ^ 16)) [
      | inl j ↦ two i j (rw (le-ltb n 24 h, le-ltb n (2 ^ 8) i, lt-ltb n (2 ^ 16) j) refl)
      | inr j ↦ elim (cases_lt n (2 ^ 32)) [
        | inl k ↦ four j k (rw (le-ltb n 24 h, le-ltb n (2 ^ 8) i, le-ltb n (2 ^ 16) j, lt-ltb n (2 ^ 32) k) refl)
        | inr k ↦ eight k (rw (le-ltb n 24 h, le-ltb n (2 ^ 8) i, le-ltb n (2 ^ 16) j, le-ltb n (2 ^ 32) k) refl)
      ]
    ]
  ]
]

abbrev IsLeast : Major → Width → ℕ → Width → Type 0
IsLeast m w n v = Holds v n × (length (head m v n) ≤ length (head m w n))

least_at : (m : Major) (w : Width) (n : ℕ) → Holds w n → (v : Width) → shortest n ≡ v → Holds v n → length (head m v n) ≤ length (head m w n) → IsLeast m w n (shortest n)
least_at m w n h v e a l = subst (IsLeast m w n) (sym e) (a, l)

-- the least length of a head, by its argument
at_least : (m : Major) (w : Width) (n : ℕ) → Holds w n
    → (length (head m Direct n) ≤ length (head m w n)) × (24 ≤ n → length (head m One n) ≤ length (head m w n)) × (2 ^ 8 ≤ n → length (head m Two n) ≤ length (head m w n))
    × (2 ^ 16 ≤ n → length (head m Four n) ≤ length (head m w n)) × (2 ^ 32 ≤ n → length (head m Eight n) ≤ length (head m w n)) × (n < 2 ^ 64)
at_least m Indefinite n h = absurd h
at_least m w n h = (omega arith, (λ l. omega arith), (λ l. omega arith), (λ l. omega arith), (λ l. omega arith), omega arith)

by_size : (m : Major) (w : Width) (n : ℕ) → Holds w n → Size n → IsLeast m w n (shortest n)
by_size m w n h (direct a e) = least_at m w n h Direct e a (at_least m w n h).0
by_size m w n h (one a b e) = least_at m w n h One e b ((at_least m w n h).1 a)
by_size m w n h (two a b e) = least_at m w n h Two e b ((at_least m w n h).2 a)
by_size m w n h (four a b e) = least_at m w n h Four e b ((at_least m w n h).3 a)
by_size m w n h (eight a e) = let k = at_least m w n h in least_at m w n h Eight e k.5 (k.4 a)

pub least : (m : Major) (w : Width) (n : ℕ) → Holds w n → IsLeast m w n (shortest n)
least m w n h = by_size m w n h (size n)

-- a head with no more bytes than the shortest has its width
pub only : (m : Major) (w : Width) (n : ℕ) → Holds w n → length (head m w n) ≤ length (head m (shortest n) n) → w ≡ shortest n
only m w n h l = let k = least m w n h in by_length w (shortest n) h k.0 (omega (arith, l, k.1))
  where
    by_length : (v w : Width) → Holds v n → Holds w n → length (head m v n) ≡ length (head m w n) → v ≡ w
    by_length Direct Direct g h e = refl
    by_length One One g h e = refl
    by_length Two Two g h e = refl
    by_length Four Four g h e = refl
    by_length Eight Eight g h e = refl
    by_length Indefinite w g h e = absurd g
    by_length v Indefinite g h e = absurd h
    by_length v w g h e = absurd (omega (arith, e))

-- a head of one byte
pub one_byte : (m : Major) (n first : ℕ) → n < 24 → first ≡ major_number m → (32 * first + n) ∷ [] ≡ shortest_head m n
one_byte m n first h e =
    let direct : shortest n ≡ Direct = ap (λ b. if b then Direct else if nat_lt n (2 ^ 8) then One else if nat_lt n (2 ^ 16) then Two else if nat_lt n (2 ^ 32) then Four else Eight) (lt-ltb n 24 h) in
    ap (λ (k : ℕ). (32 * k + n) ∷ []) e ∙ ap (λ (w : Width). head m w n) (sym direct)
