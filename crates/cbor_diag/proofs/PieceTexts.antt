-- The texts of items that hold no others.
use Rattle.std.proofs.Common.{◌≡◌, ℕ, ◌+◌, ◌-◌, ◌*◌, ◌/◌, ◌%◌, ◌<◌, ◌≤◌, Bool, true, false, ◌||◌, cond, List, [], ◌∷◌, ◌++◌, length, take, drop, replicate, flat_map, codes, decimal, Option, Result, refl, sym, ap, ◌∙◌, subst, append_assoc, append-nil, take-append-drop, arith, get_or, eqb, ltb, ne_eqb, take_all, get_or-drop, length-drop, take-add}
use Rattle.std.proofs.lemmas.{Bool.or_from, List.take-replicate, List.take_more, List.Concat.flat_map-append}
use Rattle.hex.specs.Hex.{encode_with, encode_lower, lower_digits}
use Rattle.cbor_head.specs.declared.limits.TheConstants.{MAX_DEPTH}
use Rattle.cbor_diag.specs.inner.Outbox.{HasPut, HasStopped, Puts}
use Rattle.cbor_diag.proofs.Putting.{puts-next, puts-then, puts-stops, stops-more}
use Rattle.cbor_diag.specs.{Text.escaped, Text.simple_text, declared.outbox.Outbox.Outbox, declared.outbox.Stopped.Stopped}

pub spaces-prefix : (level n : ℕ) → n ≡ level → level ≤ MAX_DEPTH → take {A = ℕ} (2 * n) (replicate (2 * MAX_DEPTH) 32) ≡ replicate (2 * level) 32
spaces-prefix level n e few = rw e (take-replicate (2 * level) (2 * MAX_DEPTH) 32 (omega arith))

pub simple-other : (n : ℕ) → (n ≡ 20 → ⊥) → (n ≡ 21 → ⊥) → (n ≡ 22 → ⊥) → (n ≡ 23 → ⊥) → simple_text n ≡ (codes "simple(" ++ decimal n) ++ codes ")"
simple-other n a b c d = rw (ne_eqb n 20 a, ne_eqb n 21 b, ne_eqb n 22 c, ne_eqb n 23 d) refl

middle : (p q : Bool) (x y z : List ℕ) → p ≡ false → ((cond p x (cond q y z)) ≡ z → ⊥) → cond p x (cond q y z) ≡ y
middle true q x y z e h = absurd (cc e)
middle false true x y z e h = refl
middle false false x y z e h = absurd (h refl)

pub escape-other : (b : ℕ) → (b ≡ 34 → ⊥) → (b ≡ 92 → ⊥) → (escaped b ≡ b ∷ [] → ⊥) → escaped b ≡ codes "\\u00" ++ encode_lower (b ∷ [])
escape-other b p q h = middle (eqb b 34 || eqb b 92) (ltb b 32 || eqb b 127) (92 ∷ b ∷ []) (codes "\\u00" ++ encode_lower (b ∷ [])) (b ∷ []) (or_from (eqb b 34) (eqb b 92) (ne_eqb b 34 p) (ne_eqb b 92 q)) h

-- ---- byte strings

pub encode-append : (t xs ys : List ℕ) → encode_with t (xs ++ ys) ≡ encode_with t xs ++ encode_with t ys
unfolding encode_with
encode-append t [] ys = refl
encode-append t (x ∷ xs) ys = ap (λ (l : List ℕ). get_or t (x / 16) 0 ∷ get_or t (x % 16) 0 ∷ l) (encode-append t xs ys)

-- the digits so far
abbrev pub digits_to : List ℕ → ℕ → List ℕ
digits_to bs i = encode_lower (take i bs)

digits-more : (bs : List ℕ) (i n : ℕ) → digits_to bs i ++ encode_lower (take n (drop i bs)) ≡ digits_to bs (i + n)
digits-more bs i n = sym (encode-append lower_digits (take i bs) (take n (drop i bs))) ∙ ap encode_lower (sym (take-add i n bs))

digits-whole : (bs : List ℕ) (i : ℕ) → digits_to bs i ++ encode_lower (drop i bs) ≡ encode_lower bs
digits-whole bs i = sym (encode-append lower_digits (take i bs) (drop i bs)) ∙ ap encode_lower (take-append-drop i bs)

pub no-digits : (bs : List ℕ) → digits_to bs 0 ≡ []
unfolding encode_with
no-digits bs = refl

pub digits-put : (a b c : Option (List ℕ)) (s t u : Outbox) (bs : List ℕ) (i j : ℕ) → i ≤ j → HasPut a b s t (digits_to bs i) → HasPut b c t u (encode_lower (take (j - i) (drop i bs))) → HasPut a c s u (digits_to bs j)
digits-put a b c s t u bs i j h p q =
    let sum : i + (j - i) ≡ j = omega arith in
    subst (λ (l : List ℕ). HasPut a c s u l) (digits-more bs i (j - i) ∙ ap (digits_to bs) sum) (puts-then a b c s t u (digits_to bs i) (encode_lower (take (j - i) (drop i bs))) p q)

pub digits-stop : (a b c : Option (List ℕ)) (s t : Outbox) (bs : List ℕ) (i j : ℕ) (e : Outbox) → HasPut a b s t (digits_to bs i) → HasStopped b c t (encode_lower (take (j - i) (drop i bs))) e → HasStopped a c s (encode_lower bs) e
digits-stop a b c s t bs i j e p q =
    let k = i + (j - i) in
    subst (λ (l : List ℕ). HasStopped a c s l e) (digits-whole bs k)
    (stops-more a c s (digits_to bs k) (encode_lower (drop k bs)) e
    (subst (λ (l : List ℕ). HasStopped a c s l e) (digits-more bs i (j - i)) (puts-stops a b c s t (digits_to bs i) (encode_lower (take (j - i) (drop i bs))) e p q)))

pub digits-end : (a b : Option (List ℕ)) (s t : Outbox) (bs : List ℕ) (i : ℕ) → length bs ≤ i → HasPut a b s t (digits_to bs i) → HasPut a b s t (encode_lower bs)
digits-end a b s t bs i h p = subst (λ (l : List ℕ). HasPut a b s t (encode_lower l)) (take_all i bs h) p

-- ---- texts

cut : (xs : List ℕ) (i : ℕ) → flat_map escaped (take i xs) ++ flat_map escaped (drop i xs) ≡ flat_map escaped xs
cut xs i = sym (flat_map-append escaped (take i xs) (drop i xs)) ∙ ap (flat_map escaped) (take-append-drop i xs)

-- the bytes so far
abbrev pub escaped_to : List ℕ → ℕ → List ℕ
escaped_to xs i = flat_map escaped (take i xs)

more : (xs : List ℕ) (i : ℕ) → i < length xs → flat_map escaped (take (i + 1) xs) ≡ flat_map escaped (take i xs) ++ escaped (get_or xs i 0)
more xs i h =
    ap (flat_map escaped) (take_more xs i 0 h) ∙ flat_map-append escaped (take i xs) (get_or xs i 0 ∷ [])
    ∙ ap (λ (l : List ℕ). flat_map escaped (take i xs) ++ l) (append-nil (escaped (get_or xs i 0)))

stops-in-text : (a b : Option (List ℕ)) (s : Outbox) (xs : List ℕ) (i : ℕ) (e : Outbox) → HasStopped a b s (escaped_to xs i) e → HasStopped a b s (flat_map escaped xs) e
stops-in-text a b s xs i e p = subst (λ (l : List ℕ). HasStopped a b s l e) (cut xs i) (stops-more a b s (escaped_to xs i) (flat_map escaped (drop i xs)) e p)

-- the text is written to `start`, and needs no escape from there to `at`
pub record IsWriting (a b : Option (List ℕ)) (s t : Outbox) (xs : List ℕ) (start at : ℕ) : Type 0 where
  pub within : start ≤ at
  pub written : HasPut a b s t (escaped_to xs start)
  pub raw : flat_map escaped (take at xs) ≡ flat_map escaped (take start xs) ++ take (at - start) (drop start xs)

pub run-put : (a b c : Option (List ℕ)) (s t u : Outbox) (xs : List ℕ) (start at : ℕ) → IsWriting a b s t xs start at → HasPut b c t u (take (at - start) (drop start xs)) → HasPut a c s u (escaped_to xs at)
run-put a b c s t u xs start at w p =
    subst (λ (l : List ℕ). HasPut a c s u l) (sym w.raw) (puts-then a b c s t u (escaped_to xs start) (take (at - start) (drop start xs)) w.written p)

pub run-stops : (a b c : Option (List ℕ)) (s t : Outbox) (xs : List ℕ) (start at : ℕ) (e : Outbox) → IsWriting a b s t xs start at → HasStopped b c t (take (at - start) (drop start xs)) e
    → HasStopped a c s (flat_map escaped xs) e
run-stops a b c s t xs start at e w p =
    stops-in-text a c s xs at e (subst (λ (l : List ℕ). HasStopped a c s l e) (sym w.raw) (puts-stops a b c s t (escaped_to xs start) (take (at - start) (drop start xs)) e w.written p))

escape-joined : (xs : List ℕ) (at : ℕ) → at < length xs → escaped_to xs at ++ escaped (get_or xs at 0) ≡ escaped_to xs (at + 1)
escape-joined xs at h = sym (more xs at h)

pub escape-put : (a b c d : Option (List ℕ)) (s t u v : Outbox) (xs : List ℕ) (start at : ℕ) → at < length xs → IsWriting a b s t xs start at
    → HasPut b c t u (take (at - start) (drop start xs)) → HasPut c d u v (escaped (get_or xs at 0)) → IsWriting a d s v xs (at + 1) (at + 1)
escape-put a b c d s t u v xs start at h w p q =
    let none : (at + 1) - (at + 1) ≡ 0 = omega arith in
    record {
      within = omega arith;
      written = subst (λ (l : List ℕ). HasPut a d s v l) (escape-joined xs at h) (puts-then a c d s u v (escaped_to xs at) (escaped (get_or xs at 0)) (run-put a b c s t u xs start at w p) q);
      raw = sym (ap (λ (n : ℕ). flat_map escaped (take (at + 1) xs) ++ take n (drop (at + 1) xs)) none ∙ append-nil (flat_map escaped (take (at + 1) xs)));
    }

pub escape-stops : (a b c d : Option (List ℕ)) (s t u : Outbox) (xs : List ℕ) (start at : ℕ) (e : Outbox) → at < length xs → IsWriting a b s t xs start at
    → HasPut b c t u (take (at - start) (drop start xs)) → HasStopped c d u (escaped (get_or xs at 0)) e → HasStopped a d s (flat_map escaped xs) e
escape-stops a b c d s t u xs start at e h w p q =
    stops-in-text a d s xs (at + 1) e
    (subst (λ (l : List ℕ). HasStopped a d s l e) (escape-joined xs at h) (puts-stops a c d s u (escaped_to xs at) (escaped (get_or xs at 0)) e (run-put a b c s t u xs start at w p) q))

pub raw-skipped : (a b : Option (List ℕ)) (s t : Outbox) (xs : List ℕ) (start at : ℕ) → at < length xs → escaped (get_or xs at 0) ≡ get_or xs at 0 ∷ [] → IsWriting a b s t xs start at → IsWriting a b s t xs start (at + 1)
raw-skipped a b s t xs start at h is w =
    let within = w.within in
    let k : (at + 1) - start ≡ (at - start) + 1 = omega arith in
    let there : start + (at - start) ≡ at = omega arith in
    let inside : at - start < length (drop start xs) = omega (arith, length-drop start xs) in
    let byte : get_or (drop start xs) (at - start) 0 ≡ get_or xs at 0 = get_or-drop start xs (at - start) 0 ∙ ap (λ (n : ℕ). get_or xs n 0) there in
    let prefix = flat_map escaped (take start xs) in
    let run = take (at - start) (drop start xs) in
    record {
      within = omega arith;
      written = w.written;
      raw = more xs at h ∙ ap (λ (l : List ℕ). l ++ escaped (get_or xs at 0)) w.raw ∙ ap (λ (l : List ℕ). (prefix ++ run) ++ l) is ∙ append_assoc prefix run (get_or xs at 0 ∷ [])
          ∙ ap (λ (l : List ℕ). prefix ++ l) (sym (ap (λ (n : ℕ). take n (drop start xs)) k ∙ take_more (drop start xs) (at - start) 0 inside ∙ ap (λ (n : ℕ). run ++ n ∷ []) byte));
    }

-- the last run
pub text-ends : (a b c : Option (List ℕ)) (s t u : Outbox) (xs : List ℕ) (start at : ℕ) (r : Result (Unit {0}) Stopped) → at ≡ length xs → IsWriting a b s t xs start at
    → Puts b c t u (take (length xs - start) (drop start xs)) r → Puts a c s u (flat_map escaped xs) r
text-ends a b c s t u xs start at r h w p =
    let all : take at xs ≡ xs = take_all at xs (omega arith) in
    let run = λ (n : ℕ). take (n - start) (drop start xs) in
    subst (λ (l : List ℕ). Puts a c s u l r) (sym w.raw ∙ ap (flat_map escaped) all)
    (puts-next a b c s t u (escaped_to xs start) (run at) r w.written (subst (λ (n : ℕ). Puts b c t u (run n) r) (sym h) p))
