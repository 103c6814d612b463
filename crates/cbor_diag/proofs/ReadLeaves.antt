-- A reader of texts in either layout, how texts begin, and how it reads leaves.
use Rattle.std.proofs.Common.{◌≡◌, ℕ, zero, suc, ◌+◌, ◌-◌, ◌^◌, ◌<◌, ◌≤◌, Bool, true, false, cond, List, [], ◌∷◌, ◌++◌, length, drop, flat_map, codes, decimal, eqb, refl, sym, ap, ◌∙◌, subst, append_assoc, ◌||◌, arith, eqb-true, ne_eqb}
use Rattle.std.{proofs.lemmas.Bool.cond-true, proofs.lemmas.Bool.cond-false, specs.Str.Parse.digits_value}
use Rattle.hex.specs.Hex.{encode_lower, decode_of, is_hex_digit}
use Rattle.cbor_head.specs.Value as value
use Rattle.cbor_head.specs.Prelude.{Value, Values, Entries, IsInRange}
use Rattle.cbor_diag.specs.inner.Layout.{laid_out, laid_pairs, laid_texts, rows}
use Rattle.cbor_diag.proofs.Reading.{prefix, rest, Pass, FirstFails, prefix-all, rest-all, digit, decimals, digit-range, no-digit, decoded, decoded-back, hex-pass, first, unquoted, unquoted-back}
use Rattle.cbor_diag.specs.{Text.escaped, Text.simple_text, Follows.Ends, declared.layout.Layout.Layout}

abbrev pub Read : Type 0
Read = Value × List ℕ

-- what was read, with what is left
abbrev pub got : {A : Type 0} → A → List ℕ → A × List ℕ
got a xs = (a, xs)

-- a comma, a space and a line feed
abbrev pub blank : ℕ → Bool
blank c = eqb c 44 || (eqb c 32 || eqb c 10)

-- a number, and what follows it
abbrev number : List ℕ → ℕ
number cs = digits_value 10 (prefix digit cs)

abbrev following : List ℕ → List ℕ
following cs = rest digit cs

-- the values with a name, by their first byte
abbrev word : ℕ → List ℕ → Read
word c cs =
    cond (eqb c 34) (let r = unquoted (drop 1 cs) in (value.text r.0, r.1))
    (cond (eqb c 45) (value.negative (number (drop 1 cs) - 1), following (drop 1 cs))
    (cond (eqb c 104) (value.bytes (decoded (decode_of (prefix is_hex_digit (drop 2 cs)))), drop 1 (rest is_hex_digit (drop 2 cs)))
    (cond (eqb c 102) (value.simple 20, drop 5 cs)
    (cond (eqb c 116) (value.simple 21, drop 4 cs)
    (cond (eqb c 110) (value.simple 22, drop 4 cs)
    (cond (eqb c 117) (value.simple 23, drop 9 cs)
    (value.simple (number (drop 7 cs)), drop 1 (following (drop 7 cs)))))))))

-- a number, or the tag with the content in parentheses
abbrev numbered : List ℕ → Read → Read
numbered cs r = cond (eqb (first (following cs)) 40) (value.tag (number cs) r.0, drop 1 r.1) (value.unsigned (number cs), following cs)

abbrev other : List ℕ → Values × List ℕ → Entries × List ℕ → Read
other cs a m = cond (eqb (first cs) 91) (value.array a.0, a.1) (cond (eqb (first cs) 123) (value.map m.0, m.1) (word (first cs) cs))

abbrev mutual
  pub read : ℕ → List ℕ → Read
  read zero cs = (value.unsigned 0, cs)
  read (suc k) cs = cond (digit (first cs)) (numbered cs (read k (drop 1 (following cs)))) (other cs (read_members k (drop 1 cs)) (read_pairs k (drop 1 cs)))

  pub read_members : ℕ → List ℕ → Values × List ℕ
  read_members zero cs = (value.no_values, cs)
  read_members (suc k) cs =
      let here = rest blank cs in
      let r = read k here in
      let rs = read_members k r.1 in
      cond (eqb (first here) 93) (value.no_values, drop 1 here) (value.a_value r.0 rs.0, rs.1)

  pub read_pairs : ℕ → List ℕ → Entries × List ℕ
  read_pairs zero cs = (value.no_entries, cs)
  read_pairs (suc k) cs =
      let here = rest blank cs in
      let r = read k here in
      let s = read k (drop 2 r.1) in
      let rs = read_pairs k s.1 in
      cond (eqb (first here) 125) (value.no_entries, drop 1 here) (value.entry r.0 s.0 rs.0, rs.1)

-- how members are read, from the first byte that is not a blank
abbrev pub closes : ℕ → List ℕ → Values × List ℕ
closes k here = cond (eqb (first here) 93) (value.no_values, drop 1 here) (value.a_value (read k here).0 (read_members k (read k here).1).0, (read_members k (read k here).1).1)

-- how pairs are read, from a key and its value on
abbrev pub with-value : ℕ → Value → Read → Entries × List ℕ
with-value k key s = (value.entry key s.0 (read_pairs k s.1).0, (read_pairs k s.1).1)

abbrev pub with-key : ℕ → Read → Entries × List ℕ
with-key k r = with-value k r.0 (read k (drop 2 r.1))

abbrev pub closes-pairs : ℕ → List ℕ → Entries × List ℕ
closes-pairs k here = cond (eqb (first here) 125) (value.no_entries, drop 1 here) (with-key k (read k here))

-- how many steps a value needs
abbrev mutual
  pub size : Value → ℕ
  size (value.array vs) = suc (size_all vs)
  size (value.map es) = suc (size_entries es)
  size (value.tag n v) = suc (size v)
  size _ = 1

  pub size_all : Values → ℕ
  size_all value.no_values = 1
  size_all (value.a_value v vs) = suc (size v + size_all vs)

  pub size_entries : Entries → ℕ
  size_entries value.no_entries = 1
  size_entries (value.entry k v es) = suc (size k + size v + size_entries es)

-- ---- how texts begin

pub record Begins (cs : List ℕ) : Type 0 where
  pub byte : ℕ
  pub others : List ℕ
  pub is : cs ≡ byte ∷ others
  pub no_blank : blank byte ≡ false
  pub no_array_end : eqb byte 93 ≡ false
  pub no_map_end : eqb byte 125 ≡ false

digit-begins : (cs : List ℕ) → 0 < length cs → Pass digit cs → (xs : List ℕ) → Begins (cs ++ xs)
digit-begins [] l h xs = absurd (omega arith)
digit-begins (c ∷ cs) l h xs =
    let r = digit-range c h.0 in
    record {
      byte = c;
      others = cs ++ xs;
      is = refl;
      no_blank = rw (ne_eqb c 44 (λ e. omega (arith, r.0, e)), ne_eqb c 32 (λ e. omega (arith, r.0, e)), ne_eqb c 10 (λ e. omega (arith, r.0, e))) refl;
      no_array_end = ne_eqb c 93 (λ e. omega (arith, r.1, e));
      no_map_end = ne_eqb c 125 (λ e. omega (arith, r.1, e));
    }

literal : (c : ℕ) (cs xs : List ℕ) → blank c ≡ false → eqb c 93 ≡ false → eqb c 125 ≡ false → Begins ((c ∷ cs) ++ xs)
literal c cs xs a b d = record { byte = c; others = cs ++ xs; is = refl; no_blank = a; no_array_end = b; no_map_end = d }

by-tests : (P : ℕ → Type 0) (n : ℕ) (p q r s : Bool) → eqb n 20 ≡ p → eqb n 21 ≡ q → eqb n 22 ≡ r → eqb n 23 ≡ s → P 20 → P 21 → P 22 → P 23 → (simple_text n ≡ (codes "simple(" ++ decimal n) ++ codes ")" → P n) → P n
by-tests P n true q r s e1 e2 e3 e4 a b c d f = subst P (sym (eqb-true n 20 e1)) a
by-tests P n false true r s e1 e2 e3 e4 a b c d f = subst P (sym (eqb-true n 21 e2)) b
by-tests P n false false true s e1 e2 e3 e4 a b c d f = subst P (sym (eqb-true n 22 e3)) c
by-tests P n false false false true e1 e2 e3 e4 a b c d f = subst P (sym (eqb-true n 23 e4)) d
by-tests P n false false false false e1 e2 e3 e4 a b c d f = f (rw (e1, e2, e3, e4) refl)

-- a simple value has one of four names, or is written with its number
simple-cases : (P : ℕ → Type 0) (n : ℕ) → P 20 → P 21 → P 22 → P 23 → (simple_text n ≡ (codes "simple(" ++ decimal n) ++ codes ")" → P n) → P n
simple-cases P n a b c d f = by-tests P n (eqb n 20) (eqb n 21) (eqb n 22) (eqb n 23) refl refl refl refl a b c d f

pub tag_joined : (n t xs : List ℕ) → (((n ++ codes "(") ++ t) ++ codes ")") ++ xs ≡ n ++ (codes "(" ++ (t ++ (codes ")" ++ xs)))
tag_joined n t xs = append_assoc ((n ++ codes "(") ++ t) (codes ")") xs ∙ append_assoc (n ++ codes "(") t (codes ")" ++ xs) ∙ append_assoc n (codes "(") (t ++ (codes ")" ++ xs))

simple-begins : (n : ℕ) (xs : List ℕ) → Begins (simple_text n ++ xs)
simple-begins n xs = simple-cases (λ m. Begins (simple_text m ++ xs)) n
    (literal 102 (drop 1 (codes "false")) xs refl refl refl) (literal 116 (drop 1 (codes "true")) xs refl refl refl)
    (literal 110 (drop 1 (codes "null")) xs refl refl refl) (literal 117 (drop 1 (codes "undefined")) xs refl refl refl)
    (λ is. subst (λ (l : List ℕ). Begins (l ++ xs)) (sym is) (literal 115 (drop 1 (codes "simple(") ++ decimal n ++ codes ")") xs refl refl refl))

pub begins : (l : Layout) (level : ℕ) (v : Value) → IsInRange v → (xs : List ℕ) → Begins (laid_out l level v ++ xs)
begins l level (value.unsigned n) h xs = let d = decimals n (omega (arith, h)) in digit-begins (decimal n) d.some d.pass xs
begins l level (value.negative n) h xs = literal 45 (decimal (n + 1)) xs refl refl refl
begins l level (value.bytes bs) h xs = literal 104 (39 ∷ (encode_lower bs ++ codes "'")) xs refl refl refl
begins l level (value.text bs) h xs = literal 34 (flat_map escaped bs ++ codes "\"") xs refl refl refl
begins l level (value.array vs) h xs = literal 91 (rows l level true (laid_texts l (level + 1) vs) ++ codes "]") xs refl refl refl
begins l level (value.map es) h xs = literal 123 (rows l level true (laid_pairs l (level + 1) es) ++ codes "}") xs refl refl refl
begins l level (value.tag n v) h xs =
    let d = decimals n (omega (arith, h.0)) in
    let t = laid_out l level v in
    let is : decimal n ++ (codes "(" ++ (t ++ (codes ")" ++ xs))) ≡ (((decimal n ++ codes "(") ++ t) ++ codes ")") ++ xs = sym (tag_joined (decimal n) t xs) in
    subst Begins is (digit-begins (decimal n) d.some d.pass (codes "(" ++ (t ++ (codes ")" ++ xs))))
begins l level (value.simple n) h xs = simple-begins n xs

-- ---- leaves

record IsNumber (n : ℕ) (ys : List ℕ) : Type 0 where
  begun : digit (first (decimal n ++ ys)) ≡ true
  number_is : number (decimal n ++ ys) ≡ n
  following_is : following (decimal n ++ ys) ≡ ys

first-passes : (cs ys : List ℕ) → 0 < length cs → Pass digit cs → digit (first (cs ++ ys)) ≡ true
first-passes [] ys l h = absurd (omega arith)
first-passes (c ∷ cs) ys l h = h.0

numeral : (n : ℕ) (ys : List ℕ) → n ≤ 2 ^ 64 → FirstFails digit ys → IsNumber n ys
numeral n ys small h =
    let d = decimals n small in
    record {
      begun = first-passes (decimal n) ys d.some d.pass;
      number_is = ap (digits_value 10) (prefix-all digit (decimal n) ys d.pass h) ∙ d.value;
      following_is = rest-all digit (decimal n) ys d.pass h;
    }

ends-fail : (x : List ℕ) → Ends x → FirstFails digit x
ends-fail [] h = tt
ends-fail (c ∷ cs) h = no-digit c h.0

ends-open : (x : List ℕ) → Ends x → eqb (first x) 40 ≡ false
ends-open [] h = refl
ends-open (c ∷ cs) h = ne_eqb c 40 h.1

pub unsigned-back : (k n : ℕ) (x : List ℕ) → n < 2 ^ 64 → Ends x → read (suc k) (decimal n ++ x) ≡ (value.unsigned n, x)
unsigned-back k n x small h =
    let cs = decimal n ++ x in
    let m = numeral n x (omega arith) (ends-fail x h) in
    cond-true (digit (first cs)) (numbered cs (read k (drop 1 (following cs)))) (other cs (read_members k (drop 1 cs)) (read_pairs k (drop 1 cs))) m.begun
    ∙ cond-false {A = Read} (eqb (first (following cs)) 40) (value.tag (number cs) (read k (drop 1 (following cs))).0, drop 1 (read k (drop 1 (following cs))).1) (value.unsigned (number cs), following cs)
    (ap (λ (b : List ℕ). eqb (first b) 40) m.following_is ∙ ends-open x h)
    ∙ ap (λ (j : ℕ). got (value.unsigned j) (following cs)) m.number_is ∙ ap (got (value.unsigned n)) m.following_is

pub negative-back : (k n : ℕ) (x : List ℕ) → n < 2 ^ 64 → Ends x → read (suc k) (45 ∷ (decimal (n + 1) ++ x)) ≡ (value.negative n, x)
negative-back k n x small h =
    let m = numeral (n + 1) x (omega arith) (ends-fail x h) in
    let back : number (decimal (n + 1) ++ x) - 1 ≡ n = ap (λ (j : ℕ). j - 1) m.number_is ∙ omega arith in
    λ i. (value.negative (back i), m.following_is i)

pub bytes-back : (k : ℕ) (bs x : List ℕ) → value.AreBytes bs → read (suc k) (104 ∷ 39 ∷ (encode_lower bs ++ 39 ∷ x)) ≡ (value.bytes bs, x)
bytes-back k bs x h =
    let digits = prefix-all is_hex_digit (encode_lower bs) (39 ∷ x) (hex-pass bs h) refl in
    let after = rest-all is_hex_digit (encode_lower bs) (39 ∷ x) (hex-pass bs h) refl in
    let back : decoded (decode_of (prefix is_hex_digit (encode_lower bs ++ 39 ∷ x))) ≡ bs = ap (λ (l : List ℕ). decoded (decode_of l)) digits ∙ decoded-back bs h in
    λ i. (value.bytes (back i), drop 1 (after i))

pub text-back : (k : ℕ) (bs x : List ℕ) → value.AreBytes bs → read (suc k) (34 ∷ (flat_map escaped bs ++ 34 ∷ x)) ≡ (value.text bs, x)
text-back k bs x h = let back = unquoted-back bs x h in λ i. (value.text (back i).0, (back i).1)

shown-back : (k n : ℕ) (x : List ℕ) → n < 2 ^ 64 → read (suc k) (codes "simple(" ++ (decimal n ++ 41 ∷ x)) ≡ (value.simple n, x)
shown-back k n x small = let m = numeral n (41 ∷ x) (omega arith) refl in λ i. (value.simple (m.number_is i), drop 1 (m.following_is i))

pub simple-back : (k n : ℕ) (x : List ℕ) → n < 2 ^ 64 → read (suc k) (simple_text n ++ x) ≡ (value.simple n, x)
simple-back k n x small = simple-cases (λ m. read (suc k) (simple_text m ++ x) ≡ (value.simple m, x)) n refl refl refl refl
    (λ is. ap (λ (l : List ℕ). read (suc k) (l ++ x)) is ∙ ap (λ (l : List ℕ). read (suc k) (codes "simple(" ++ l)) (append_assoc (decimal n) (codes ")") x) ∙ shown-back k n x small)

pub tag-back : (k n : ℕ) (v : Value) (t x : List ℕ) → n < 2 ^ 64 → read k (t ++ 41 ∷ x) ≡ (v, 41 ∷ x) → read (suc k) (decimal n ++ 40 ∷ (t ++ 41 ∷ x)) ≡ (value.tag n v, x)
tag-back k n v t x small inside =
    let ys = 40 ∷ (t ++ 41 ∷ x) in
    let cs = decimal n ++ ys in
    let m = numeral n ys (omega arith) refl in
    cond-true (digit (first cs)) (numbered cs (read k (drop 1 (following cs)))) (other cs (read_members k (drop 1 cs)) (read_pairs k (drop 1 cs))) m.begun
    ∙ ap (numbered cs) (ap (λ (b : List ℕ). read k (drop 1 b)) m.following_is ∙ inside)
    ∙ cond-true {A = Read} (eqb (first (following cs)) 40) (value.tag (number cs) v, x) (value.unsigned (number cs), following cs) (ap (λ (b : List ℕ). eqb (first b) 40) m.following_is)
    ∙ ap (λ (j : ℕ). got (value.tag j v) x) m.number_is
