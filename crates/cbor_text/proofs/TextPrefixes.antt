-- The longest prefix that is text, of bytes that come in pieces.
use Rattle.std.proofs.Common.{◌≡◌, ℕ, ◌+◌, ◌-◌, ◌<◌, ◌≤◌, ⊎_elim, true, ◌&&◌, List, [], ◌∷◌, ◌++◌, length, take, drop, refl, sym, ap, subst, ◌∙◌, arith, append-nil, append_assoc, length-append, length-take, length-drop, take-append-drop, take_all, Some, None, take-take, take-add}
use Rattle.std.proofs.lemmas.Str.{IsUtf8-append, IsUtf8-nil, length-encode, len_utf8_bounds, utf8_valid_len-IsValidUpTo}
use Rattle.std.{proofs.lemmas.Bool.cases_lt, proofs.lemmas.Bool.and_parts, proofs.lemmas.Bool.Decides.nat_tests, specs.Str.IsUtf8, specs.Str.IsValidUpTo}
use Rattle.std.{specs.Str.Lossy.utf8_valid_len, specs.Str.Lossy.utf8_error_len, proofs.lemmas.List.take_rest}
use Rattle.simdutf8.specs.Steps.{first, second, later}
use Rattle.simdutf8.proofs.{Chars.StepsThen-IsUtf8, Chars.most_is, Parts.valid_after}
use lib.Utf8.{encode, encodes, scalars}
use lib.Seq.{take-append-le, take-append-add, take-append_seam, drop-append_seam}
use Rattle.cbor_text.specs.inner.TextCheck.{IsUnfinished, IsFixed, IsOpen}

-- ---- bytes that begin a character, and end before it does

pub one-open : (x y : ℕ) (ys : List ℕ) → IsUtf8 (x ∷ y ∷ ys) → IsUnfinished (x ∷ []) → utf8_error_len (x ∷ []) ≡ None
unfolding utf8_error_len
one-open x y ys u none =
    let s = (StepsThen-IsUtf8 (x ∷ y ∷ ys)).1 u in
    elim s.0 [
      | second p q r ↦ absurd (omega arith)
      | later p q r ↦ absurd (omega arith)
      | first p q ↦ elim s.1.0 [
        | first a b ↦ absurd (none 1 (omega arith) (omega arith) ((StepsThen-IsUtf8 (x ∷ [])).0 (first p q, a)))
        | second a b d ↦ grind (arith, nat_tests)
        | later a b d ↦ absurd (omega arith)
      ]
    ]

pub two-open : (x y z : ℕ) (zs : List ℕ) → IsUtf8 (x ∷ y ∷ z ∷ zs) → IsUnfinished (x ∷ y ∷ []) → utf8_error_len (x ∷ y ∷ []) ≡ None
unfolding utf8_error_len
two-open x y z zs u none =
    let s = (StepsThen-IsUtf8 (x ∷ y ∷ z ∷ zs)).1 u in
    let m = most_is x in
    elim s.0 [
      | second p q r ↦ absurd (omega arith)
      | later p q r ↦ absurd (omega arith)
      | first p q ↦ elim s.1.0 [
        | first a b ↦ absurd (none 1 (omega arith) (omega arith) ((StepsThen-IsUtf8 (x ∷ [])).0 (first p q, a)))
        | later a b d ↦ absurd (omega arith)
        | second a b d ↦ elim s.1.1.0 [
          | first e f ↦ absurd (none 2 (omega arith) (omega arith) ((StepsThen-IsUtf8 (x ∷ y ∷ [])).0 (first p q, (second a b d, e))))
          | second e f g ↦ absurd (omega arith)
          | later e f g ↦ grind (arith, nat_tests)
        ]
      ]
    ]

pub three-open : (x y z w : ℕ) (ws : List ℕ) → IsUtf8 (x ∷ y ∷ z ∷ w ∷ ws) → IsUnfinished (x ∷ y ∷ z ∷ []) → utf8_error_len (x ∷ y ∷ z ∷ []) ≡ None
unfolding utf8_error_len
three-open x y z w ws u none =
    let s = (StepsThen-IsUtf8 (x ∷ y ∷ z ∷ w ∷ ws)).1 u in
    let m = most_is x in
    elim s.0 [
      | second p q r ↦ absurd (omega arith)
      | later p q r ↦ absurd (omega arith)
      | first p q ↦ elim s.1.0 [
        | first a b ↦ absurd (none 1 (omega arith) (omega arith) ((StepsThen-IsUtf8 (x ∷ [])).0 (first p q, a)))
        | later a b d ↦ absurd (omega arith)
        | second a b d ↦ elim s.1.1.0 [
          | first e f ↦ absurd (none 2 (omega arith) (omega arith) ((StepsThen-IsUtf8 (x ∷ y ∷ [])).0 (first p q, (second a b d, e))))
          | second e f g ↦ absurd (omega arith)
          | later e f g ↦ elim s.1.1.1.0 [
            | first h i ↦ absurd (none 3 (omega arith) (omega arith) ((StepsThen-IsUtf8 (x ∷ y ∷ z ∷ [])).0 (first p q, (second a b d, (later e f g, h)))))
            | second h i j ↦ absurd (omega arith)
            | later h i j ↦ grind (arith, nat_tests)
          ]
        ]
      ]
    ]

-- the first character of text has at most four bytes
pub first-char : (bs : List ℕ) → IsUtf8 bs → 0 < length bs → (n : ℕ) × (0 < n) × (n ≤ 4) × (n ≤ length bs) × IsUtf8 (take n bs)
first-char bs u some = by u.0 u.1.0 u.1.1
  where
    by : (cs : List ℕ) → scalars cs ≡ true → encodes cs ≡ bs → (n : ℕ) × (0 < n) × (n ≤ 4) × (n ≤ length bs) × IsUtf8 (take n bs)
    by [] s e = absurd (omega (arith, ap length e))
    by (c ∷ cs) s e =
        let p = and_parts _ _ s in
        let size = length-encode c in
        let bounds = len_utf8_bounds c in
        let prefix : take (length (encode c)) bs ≡ encode c = ap (take (length (encode c))) (sym e) ∙ take-append_seam (encode c) (encodes cs) in
        let one : IsUtf8 (encode c) = (c ∷ [], (ap (λ b. b && true) p.0, append-nil (encode c))) in (
          length (encode c),
          omega arith,
          omega arith,
          omega (arith, ap length e, length-append (encode c) (encodes cs)),
          subst IsUtf8 (sym prefix) one,
        )

-- bytes that text may go on from, and that end before their first character does
pub begun : (t ys : List ℕ) → IsUtf8 (t ++ ys) → IsUnfinished t → 0 < length t → length t < 4 → utf8_error_len t ≡ None
begun t [] u none some short =
    absurd (none (length t) some (omega arith) (subst IsUtf8 (append-nil t ∙ sym (take_all (length t) t (omega arith))) u))
begun (x ∷ []) (y ∷ ys) u none some short = one-open x y ys u none
begun (x ∷ y ∷ []) (z ∷ ys) u none some short = two-open x y z ys u none
begun (x ∷ y ∷ z ∷ []) (w ∷ ys) u none some short = three-open x y z w ys u none
begun t ys u none some short = absurd (omega arith)

-- ---- what fixes the prefix for good

pub never : (t : List ℕ) → 0 < length t → IsUnfinished t → (utf8_error_len t ≡ None → ⊥) → IsFixed t 0
never t some none hopeless = λ xs. record {
  short = omega (arith, length-append t xs);
  front = IsUtf8-nil;
  longest = λ m more u.
      let s = take m (t ++ xs) in
      let c = first-char s u (omega (arith, length-take m (t ++ xs), length-append t xs)) in
      let n = c.0 in
      let here : take n s ≡ take n (t ++ xs) = take-take n m (t ++ xs) (omega (arith, c.3, length-take m (t ++ xs))) in
      let v : IsUtf8 (take n (t ++ xs)) = subst IsUtf8 here c.4 in
      ⊎_elim
      (λ (past : length t < n).
      let e : length t + (n - length t) ≡ n = omega arith in
      let w : IsUtf8 (t ++ take (n - length t) xs) = subst IsUtf8 (take-append-add t xs (n - length t)) (subst (λ k. IsUtf8 (take k (t ++ xs))) (sym e) v) in
      hopeless (begun t (take (n - length t) xs) w none some (omega (arith, c.2))))
      (λ (within : n ≤ length t). none n c.1 within (subst IsUtf8 (take-append-le n t xs within) v))
      (cases_lt (length t) n);
}

-- after the longest prefix, no prefix is text
pub rest-unfinished : (bs : List ℕ) (v : ℕ) → IsValidUpTo bs v → IsUnfinished (drop v bs)
rest-unfinished bs v h = λ m more within u. h.longest (v + m) (omega arith) (subst IsUtf8 (sym (take-add v m bs)) (IsUtf8-append _ _ h.front u))

-- text may precede it
pub fixed-following : (f bs : List ℕ) (n k : ℕ) → IsUtf8 f → IsFixed bs n → length f + n ≡ k → IsFixed (f ++ bs) k
fixed-following f bs n k u h e = λ xs.
    let all : (f ++ bs) ++ xs ≡ f ++ (bs ++ xs) = append_assoc f bs xs in
    let v : IsValidUpTo (drop (length f) (f ++ (bs ++ xs))) n = subst (λ l. IsValidUpTo l n) (sym (drop-append_seam f (bs ++ xs))) (h xs) in
    let w = valid_after (f ++ (bs ++ xs)) (length f) n (omega (arith, length-append f (bs ++ xs))) (subst IsUtf8 (sym (take-append_seam f (bs ++ xs))) u) v in
    subst (λ l. IsValidUpTo l k) (sym all) (subst (IsValidUpTo (f ++ (bs ++ xs))) e w)

pub fixed : (bs : List ℕ) (v k : ℕ) → IsValidUpTo bs v → utf8_error_len (drop v bs) ≡ Some k → IsFixed bs v
fixed bs v k h e =
    let short = h.short in
    let n = never (drop v bs) (omega (arith, length-drop v bs)) (rest-unfinished bs v h) (λ o. let two = sym o ∙ e in cc) in
    subst (λ l. IsFixed l v) (take-append-drop v bs) (fixed-following (take v bs) (drop v bs) 0 v h.front n (omega (arith, length-take v bs)))

pub fixed-more : (bs piece : List ℕ) (n : ℕ) → IsFixed bs n → IsFixed (bs ++ piece) n
fixed-more bs piece n h = λ xs. subst (λ l. IsValidUpTo l n) (sym (append_assoc bs piece xs)) (h (piece ++ xs))

pub fixed-now : (bs : List ℕ) (n : ℕ) → IsFixed bs n → IsValidUpTo bs n
fixed-now bs n h = subst (λ l. IsValidUpTo l n) (append-nil bs) (h [])

-- ---- what leaves it open

pub nothing-unfinished : IsUnfinished []
nothing-unfinished = λ m more within u. absurd (omega arith)

pub open-whole : (bs : List ℕ) → IsUtf8 bs → IsOpen bs []
open-whole bs u = record { prefix = bs; joined = sym (append-nil bs); valid = u; short = omega arith; unfinished = nothing-unfinished }

pub open-rest : (bs : List ℕ) (v : ℕ) → IsValidUpTo bs v → length bs < v + 4 → IsOpen bs (drop v bs)
open-rest bs v h few = record {
  prefix = take v bs;
  joined = sym (take-append-drop v bs);
  valid = h.front;
  short = omega (arith, length-drop v bs);
  unfinished = rest-unfinished bs v h;
}

pub open-none : (bs : List ℕ) → IsValidUpTo bs 0 → length bs < 4 → IsOpen bs bs
open-none bs h few = record { prefix = []; joined = refl; valid = IsUtf8-nil; short = few; unfinished = λ m more within u. h.longest m more u }

-- text may precede it
pub open-following : (f bs tail : List ℕ) → IsUtf8 f → IsOpen bs tail → IsOpen (f ++ bs) tail
open-following f bs tail u h = record {
  prefix = f ++ h.prefix;
  joined = ap (λ l. f ++ l) h.joined ∙ sym (append_assoc f h.prefix tail);
  valid = IsUtf8-append _ _ u h.valid;
  short = h.short;
  unfinished = h.unfinished;
}

-- ---- one piece after another

pub open-more : (bs carried piece tail : List ℕ) → IsOpen bs carried → IsOpen (carried ++ piece) tail → IsOpen (bs ++ piece) tail
open-more bs carried piece tail h k =
    let e : bs ++ piece ≡ h.prefix ++ (carried ++ piece) = ap (λ l. l ++ piece) h.joined ∙ append_assoc h.prefix carried piece in
    subst (λ l. IsOpen l tail) (sym e) (open-following h.prefix (carried ++ piece) tail h.valid k)

pub open-then-fixed : (bs carried piece : List ℕ) (n k : ℕ) → IsOpen bs carried → IsFixed (carried ++ piece) n → length bs - length carried + n ≡ k → IsFixed (bs ++ piece) k
open-then-fixed bs carried piece n k h f s =
    let e : bs ++ piece ≡ h.prefix ++ (carried ++ piece) = ap (λ l. l ++ piece) h.joined ∙ append_assoc h.prefix carried piece in
    let size : length h.prefix + n ≡ k = omega (arith, ap length h.joined, length-append h.prefix carried) in
    subst (λ l. IsFixed l k) (sym e) (fixed-following h.prefix (carried ++ piece) n k h.valid f size)

-- ---- the end

pub returned : (bs : List ℕ) (n : ℕ) → IsValidUpTo bs n → (IsUtf8 bs → ⊥) × (n ≡ utf8_valid_len bs)
returned bs n h = (λ u. h.longest (length bs) h.short (subst IsUtf8 (sym (take_all (length bs) bs (omega arith))) u), sym (utf8_valid_len-IsValidUpTo bs n h))

pub open-short : (bs carried : List ℕ) (n : ℕ) → IsOpen bs carried → 0 < length carried → length bs - length carried ≡ n → IsValidUpTo bs n
open-short bs carried n h some e =
    let v : IsValidUpTo carried 0 = record {
      short = some;
      front = IsUtf8-nil;
      longest = λ m more u. ⊎_elim
          (λ (past : length carried < m).
          h.unfinished (length carried) some (omega arith) (subst IsUtf8 (take_all m carried (omega arith) ∙ sym (take_all (length carried) carried (omega arith))) u))
          (λ (within : m ≤ length carried). h.unfinished m more within u)
          (cases_lt (length carried) m);
    } in
    let total = ap length h.joined ∙ length-append h.prefix carried in
    let d : drop (length h.prefix) bs ≡ carried = ap (drop (length h.prefix)) h.joined ∙ drop-append_seam h.prefix carried in
    let t : take (length h.prefix) bs ≡ h.prefix = ap (take (length h.prefix)) h.joined ∙ take-append_seam h.prefix carried in
    let w = valid_after bs (length h.prefix) 0 (omega arith) (subst IsUtf8 (sym t) h.valid) (subst (λ l. IsValidUpTo l 0) (sym d) v) in
    subst (IsValidUpTo bs) (omega arith) w

-- ---- what fills up a character

pub fill-past : (carried piece joined : List ℕ) (n more : ℕ) → joined ≡ carried ++ take more piece → IsUnfinished carried → IsValidUpTo joined n → (n ≡ 0 → ⊥)
    → (length carried ≤ n) × (n - length carried ≤ length piece) × IsUtf8 (carried ++ take (n - length carried) piece)
fill-past carried piece joined n more is none valid some =
    let h : IsValidUpTo (carried ++ take more piece) n = subst (λ l. IsValidUpTo l n) is valid in
    let short = h.short in
    let sizes = length-append carried (take more piece) in
    let part = length-take more piece in
    let past : length carried < n = ⊎_elim (λ (p : length carried < n). p)
    (λ (q : n ≤ length carried). absurd (none n (omega arith) q (subst IsUtf8 (take-append-le n carried (take more piece) q) h.front)))
    (cases_lt (length carried) n) in
    let k = n - length carried in
    let e : length carried + k ≡ n = omega arith in
    let prefix : take n (carried ++ take more piece) ≡ carried ++ take k piece =
    ap (λ m. take m (carried ++ take more piece)) (sym e) ∙ take-append-add carried (take more piece) k
    ∙ ap (λ l. carried ++ l) (take-take k more piece (omega arith)) in
    (omega arith, omega arith, subst IsUtf8 prefix h.front)

pub fill-never : (carried piece joined : List ℕ) (more : ℕ) → joined ≡ carried ++ take more piece → IsFixed joined 0 → IsFixed (carried ++ piece) 0
fill-never carried piece joined more is fixed-there =
    let h : IsFixed (carried ++ take more piece) 0 = subst (λ l. IsFixed l 0) is fixed-there in
    let e : (carried ++ take more piece) ++ drop more piece ≡ carried ++ piece = append_assoc carried (take more piece) (drop more piece) ∙ ap (λ l. carried ++ l) (take-append-drop more piece) in
    subst (λ l. IsFixed l 0) e (fixed-more (carried ++ take more piece) (drop more piece) 0 h)

-- `&piece[n..]` after bytes that end where a character ends
module _ (carried piece : List ℕ) (n : ℕ) (u : IsUtf8 (carried ++ take n piece)) where
  rejoined : (carried ++ take n piece) ++ take (length piece - n) (drop n piece) ≡ carried ++ piece
  rejoined = ap (λ l. (carried ++ take n piece) ++ l) (take_rest piece n) ∙ append_assoc carried (take n piece) (drop n piece) ∙ ap (λ l. carried ++ l) (take-append-drop n piece)

  pub past-open : (tail : List ℕ) → IsOpen (take (length piece - n) (drop n piece)) tail → IsOpen (carried ++ piece) tail
  past-open tail h = subst (λ l. IsOpen l tail) rejoined (open-following (carried ++ take n piece) _ tail u h)

  pub past-fixed : (m : ℕ) → n ≤ length piece → IsFixed (take (length piece - n) (drop n piece)) m → IsFixed (carried ++ piece) (length carried + n + m)
  past-fixed m within h = subst (λ l. IsFixed l (length carried + n + m)) rejoined
      (fixed-following (carried ++ take n piece) _ m (length carried + n + m) u h (omega (arith, length-append carried (take n piece), length-take n piece)))
