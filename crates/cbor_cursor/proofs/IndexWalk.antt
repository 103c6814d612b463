-- What the walk over the items within another one computes.
use Rattle.std.proofs.Common.{◌≡◌, ◌⊎◌, ℕ, zero, suc, ◌+◌, ◌-◌, ◌<◌, ◌≤◌, true, nat_le, le-leb, List, [], ◌∷◌, length, drop, get_or, set, refl, sym, ap, ◌∙◌, arith, inl, inr, drop-cons}
use Rattle.std.proofs.{Math.ListN.drop_of_length-le, lemmas.List.drop-drop, lemmas.List.drop-set-lt, lemmas.Bool.cases_lt}
use Rattle.cbor_cursor.specs.inner.Indexing.{end_of, entries_in, closed_item}
use Rattle.cbor_cursor.specs.declared.placed.PlacedItem.{PlacedItem}

after_first : (next : ℕ) (xs : List PlacedItem) (d : PlacedItem) (n : ℕ) → next < length xs → drop n (get_or xs next d ∷ drop (suc next) xs) ≡ drop (next + n) xs
after_first next xs d n within = ap (drop n) (sym (drop-cons xs next d within)) ∙ drop-drop n next xs

pub one_end : (left next e : ℕ) (xs : List PlacedItem) (d : PlacedItem) → 0 < left → next < length xs
    → end_of left e (drop next xs) ≡ end_of (left - 1) (get_or xs next d).end (drop (next + (get_or xs next d).entries) xs)
one_end zero next e xs d l within = absurd (omega arith)
one_end (suc n) next e xs d l within =
    let x = get_or xs next d in
    let m : n ≡ suc n - 1 = omega arith in
    ap (end_of (suc n) e) (drop-cons xs next d within) ∙ ap (end_of n x.end) (after_first next xs d x.entries within)
    ∙ ap (λ (k : ℕ). end_of k x.end (drop (next + x.entries) xs)) m

pub one_more : (left next : ℕ) (xs : List PlacedItem) (d : PlacedItem) → 0 < left → next < length xs
    → entries_in left (drop next xs) ≡ (get_or xs next d).entries + entries_in (left - 1) (drop (next + (get_or xs next d).entries) xs)
one_more zero next xs d l within = absurd (omega arith)
one_more (suc n) next xs d l within =
    let x = get_or xs next d in
    let m : n ≡ suc n - 1 = omega arith in
    ap (entries_in (suc n)) (drop-cons xs next d within) ∙ ap (λ (ys : List PlacedItem). x.entries + entries_in n ys) (after_first next xs d x.entries within)
    ∙ ap (λ (k : ℕ). x.entries + entries_in k (drop (next + x.entries) xs)) m

no_end : (left e : ℕ) → end_of left e [] ≡ e
no_end zero e = refl
no_end (suc n) e = refl

no_entries : (left : ℕ) → entries_in left [] ≡ 0
no_entries zero = refl
no_entries (suc n) = refl

pub none_left : (next e : ℕ) (xs : List PlacedItem) (left : ℕ) → (left ≡ 0) ⊎ (length xs ≤ next) → (end_of left e (drop next xs) ≡ e) × (entries_in left (drop next xs) ≡ 0)
none_left next e xs left (inl z) = (ap (λ (n : ℕ). end_of n e (drop next xs)) z, ap (λ (n : ℕ). entries_in n (drop next xs)) z)
none_left next e xs left (inr l) =
    let none : drop next xs ≡ [] = drop_of_length-le xs l in
    (ap (end_of left e) none ∙ no_end left e, ap (entries_in left) none ∙ no_entries left)

pub closed_is : (x : PlacedItem) (xs : List PlacedItem) (e n : ℕ) → end_of x.end x.content xs ≡ e → entries_in x.end xs ≡ n → n ≤ length xs
    → record { number = x.number; offset = x.offset; content = x.content; end = e; kind = x.kind; entries = n + 1 } ≡ closed_item x xs
closed_is x xs e n f g l =
    let space : nat_le (entries_in x.end xs) (length xs) ≡ true = le-leb _ _ (omega (arith, g, l)) in
    let more : n + 1 ≡ suc (entries_in x.end xs) = omega (arith, g) in
    rw space (rw (f, more) refl)

-- ---- one entry more

pub kept_after : (xs ys zs : List PlacedItem) (n : ℕ) (x : PlacedItem) → (n < length xs → ys ≡ set xs n x) → (length xs ≤ n → ys ≡ xs) → drop n xs ≡ drop n zs → drop (n + 1) ys ≡ drop (n + 1) zs
kept_after xs ys zs n x written full e =
    let after : drop (n + 1) xs ≡ drop (n + 1) zs = sym (drop-drop 1 n xs) ∙ ap (drop 1) e ∙ drop-drop 1 n zs in
    elim (cases_lt n (length xs)) [ inl l ↦ ap (drop (n + 1)) (written l) ∙ drop-set-lt (n + 1) xs n x (omega arith) ∙ after | inr l ↦ ap (drop (n + 1)) (full l) ∙ after ]
