-- Keys compared by words of eight bytes.
use Rattle.std.proofs.Common.{◌≡◌, ◌≢◌, ◌⊎◌, ℕ, zero, suc, ◌+◌, ◌*◌, ◌^◌, ◌<◌, ◌≤◌, ◌++◌, List, [], ◌∷◌, length, length-drop, take, drop, refl, sym, ap, ◌∙◌, arith, inl, inr, mul_comm, take-take}
use Rattle.std.proofs.lemmas.Cmp.{ranked, nat_cmp_total, tied_itself}
use Rattle.std.specs.declared.cmp.Ordering.TheVariants.{Less, Equal, Greater}
use Rattle.std.specs.Ordering.{nat_cmp, ordering_then, MatchOrdering}
use Rattle.std.{proofs.Math.Seq.take-add, proofs.lemmas.List.drop_all, proofs.lemmas.Nat.same_from_place, specs.declared.cmp.Ordering.Ordering}
use Rattle.std.specs.Cmp.Lexicographic.{slice_cmp}
use Rattle.cbor_head.specs.Prelude.{AreBytes}
use Rattle.theory_values.{proofs.KeyByteLists.bytes_drop, specs.KeyPrefix.digits, specs.KeyPrefix.prefix_of}
use Rattle.theory_values.proofs.KeyPrefixes.{agree_prefix, below}

-- a common prefix of two lists decides nothing
pub after_same : (n : ℕ) (xs ys : List ℕ) → take n xs ≡ take n ys → n ≤ length xs → n ≤ length ys → slice_cmp nat_cmp xs ys ≡ slice_cmp nat_cmp (drop n xs) (drop n ys)
after_same zero xs ys e l m = refl
after_same (suc n) [] ys e l m = absurd (omega (arith, l))
after_same (suc n) (x ∷ xs) [] e l m = absurd (omega (arith, m))
after_same (suc n) (x ∷ xs) (y ∷ ys) e l m =
    let first : x ≡ y = cc in
    let rest : take n xs ≡ take n ys = cc in
    ap (λ (k : ℕ). ordering_then (nat_cmp x k) (slice_cmp nat_cmp xs ys)) (sym first)
    ∙ ap (λ (r : Ordering). ordering_then r (slice_cmp nat_cmp xs ys)) (tied_itself nat_cmp_total x)
    ∙ after_same n xs ys rest (omega (arith, l)) (omega (arith, m))

-- equal numbers of n bytes, equal bytes
same_digits : (n : ℕ) (xs ys : List ℕ) → AreBytes xs → AreBytes ys → n ≤ length xs → n ≤ length ys → digits n xs ≡ digits n ys → take n xs ≡ take n ys
same_digits zero xs ys h g l m e = refl
same_digits (suc n) [] ys h g l m e = absurd (omega (arith, l))
same_digits (suc n) (x ∷ xs) [] h g l m e = absurd (omega (arith, m))
same_digits (suc n) (x ∷ xs) (y ∷ ys) h g l m e =
    let split : x * 256 ^ n + digits n xs ≡ y * 256 ^ n + digits n ys = ap (λ k. k + digits n xs) (mul_comm x (256 ^ n)) ∙ e ∙ ap (λ k. k + digits n ys) (mul_comm (256 ^ n) y) in
    let same = same_from_place x (digits n xs) y (digits n ys) (256 ^ n) (below n xs h.1) (below n ys g.1) split in
    let rest = same_digits n xs ys h.1 g.1 (omega (arith, l)) (omega (arith, m)) same.1 in cc (same.0, rest)

-- eight bytes more
pub word_more : (n : ℕ) (xs ys : List ℕ) → AreBytes xs → AreBytes ys → n + 8 ≤ length xs → n + 8 ≤ length ys → take n xs ≡ take n ys
    → prefix_of (drop n xs) ≡ prefix_of (drop n ys) → take (n + 8) xs ≡ take (n + 8) ys
word_more n xs ys h g l m e f =
    let rest = same_digits 8 (drop n xs) (drop n ys) (bytes_drop n xs h) (bytes_drop n ys g) (simp length-drop (omega (arith, l))) (simp length-drop (omega (arith, m))) f in
    take-add n 8 xs ∙ ap (λ (us : List ℕ). us ++ take 8 (drop n xs)) e ∙ ap (λ (us : List ℕ). take n ys ++ us) rest ∙ sym (take-add n 8 ys)

-- words that differ decide
pub word_decides : (n : ℕ) (xs ys : List ℕ) (a b : ℕ) → AreBytes xs → AreBytes ys → n ≤ length xs → n ≤ length ys → take n xs ≡ take n ys
    → a ≡ prefix_of (drop n xs) → b ≡ prefix_of (drop n ys) → a ≢ b → nat_cmp a b ≡ slice_cmp nat_cmp xs ys
word_decides n xs ys a b h g l m e f k d =
    go (nat_cmp a b) refl (ranked a b (nat_cmp a b) refl)
    ∙ agree_prefix a b (drop n xs) (drop n ys) (bytes_drop n xs h) (bytes_drop n ys g) f k
    ∙ sym (after_same n xs ys e l m)
  where
    go : (r : Ordering) → nat_cmp a b ≡ r → MatchOrdering r (a < b) (a ≡ b) (b < a) → nat_cmp a b ≡ ordering_then (nat_cmp a b) (slice_cmp nat_cmp (drop n xs) (drop n ys))
    go Equal c t = absurd (d t)
    go r c t = c ∙ ap (λ (r : Ordering). ordering_then r (slice_cmp nat_cmp (drop n xs) (drop n ys))) (sym c)

none_less : (ys : List ℕ) → 0 < length ys → slice_cmp nat_cmp [] ys ≡ Less
none_less [] l = absurd (omega (arith, l))
none_less (y ∷ ys) l = refl

none_greater : (xs : List ℕ) → 0 < length xs → slice_cmp nat_cmp xs [] ≡ Greater
none_greater [] l = absurd (omega (arith, l))
none_greater (x ∷ xs) l = refl

-- if the common length is equal, the lengths decide
pub lengths_decide : (n : ℕ) (xs ys : List ℕ) → take n xs ≡ take n ys → n ≤ length xs → n ≤ length ys → (length xs ≡ n) ⊎ (length ys ≡ n)
    → nat_cmp (length xs) (length ys) ≡ slice_cmp nat_cmp xs ys
lengths_decide n xs ys e l m end = go (nat_cmp (length xs) (length ys)) refl (ranked (length xs) (length ys) (nat_cmp (length xs) (length ys)) refl) ∙ sym (after_same n xs ys e l m)
  where
    go : (r : Ordering) → nat_cmp (length xs) (length ys) ≡ r → MatchOrdering r (length xs < length ys) (length xs ≡ length ys) (length ys < length xs)
        → nat_cmp (length xs) (length ys) ≡ slice_cmp nat_cmp (drop n xs) (drop n ys)
    go Less c t =
        let first : drop n xs ≡ [] = drop_all n xs (elim end [ inl p ↦ omega (arith, p) | inr p ↦ omega (arith, p, t, l) ]) in
        let some : 0 < length (drop n ys) = simp length-drop (elim end [ inl p ↦ omega (arith, p, t) | inr p ↦ omega (arith, p, t, l) ]) in
        c ∙ sym (none_less (drop n ys) some) ∙ ap (λ (us : List ℕ). slice_cmp nat_cmp us (drop n ys)) (sym first)
    go Equal c t =
        let first : drop n xs ≡ [] = drop_all n xs (elim end [ inl p ↦ omega (arith, p) | inr p ↦ omega (arith, p, t) ]) in
        let second : drop n ys ≡ [] = drop_all n ys (elim end [ inl p ↦ omega (arith, p, t) | inr p ↦ omega (arith, p) ]) in
        c ∙ ap (λ (us : List ℕ). slice_cmp nat_cmp us []) (sym first) ∙ ap (λ (us : List ℕ). slice_cmp nat_cmp (drop n xs) us) (sym second)
    go Greater c t =
        let second : drop n ys ≡ [] = drop_all n ys (elim end [ inl p ↦ omega (arith, p, t, m) | inr p ↦ omega (arith, p) ]) in
        let some : 0 < length (drop n xs) = simp length-drop (elim end [ inl p ↦ omega (arith, p, t, m) | inr p ↦ omega (arith, p, t) ]) in
        c ∙ sym (none_greater (drop n xs) some) ∙ ap (λ (us : List ℕ). slice_cmp nat_cmp (drop n xs) us) (sym second)

-- a shorter common prefix
pub begin_same : (n m : ℕ) (xs ys : List ℕ) → n ≤ m → take m xs ≡ take m ys → take n xs ≡ take n ys
begin_same n m xs ys l e = sym (take-take n m xs l) ∙ ap (take n) e ∙ take-take n m ys l
