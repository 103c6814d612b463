-- Spans ranked by the prefixes of their keys.
use Rattle.std.proofs.Common.{◌≡◌, ◌≢◌, ℕ, ◌+◌, ◌<◌, List, length, get_or, true, false, true≢false, sym, ap, ◌∙◌, arith, Bool, Bor, IsPermutation, IsSortedBy}
use Rattle.std.specs.Ordering.{nat_cmp, is_eq, is_lt, ordering_then}
use Rattle.std.proofs.lemmas.List.Sorted.{ranks_by, IsPermutation-sym, Contains-permutation}
use Rattle.std.proofs.lemmas.Cmp.{nat_cmp_total, on_total, then_total, tied_itself}
use Rattle.std.specs.{List.AllByRecursion, declared.cmp.Ordering.Ordering, Cmp.IsTotalOrder, Cmp.IsStrictWeakOrder, Fn.Called, Fn.ComparesAs}
use Rattle.std.proofs.lemmas.{Fn.always_returns_same, List.get_or_default}
use denote.Param.Members.{Mut}
use Rattle.cbor_head.specs.Prelude.{key_cmp, key_lt, AreBytes}
use Rattle.cbor_head.specs.declared.order.KeyOrder.{KeyOrder, TheVariants.Bytewise, TheVariants.LengthFirst}
use Rattle.theory_values.proofs.Members.{all_at, all_from, in_contains, contains_in}
use Rattle.theory_values.{proofs.Orders.key_cmp_total, proofs.Orders.tied, proofs.KeyByteLists.bytes_slice, specs.KeyPrefix.prefix_of}
use Rattle.theory_values.proofs.KeyPrefixes.{agree_prefix}
use Rattle.cbor_builder.specs.inner.Prefix.{key_of, IsPrefixed, ArePrefixed, by_prefix, rank, ranked_by}
use Rattle.cbor_builder.{proofs.ByIndex.all_index, specs.inner.Spans.no_span, specs.declared.span.Span.Span, specs.inner.Repeats.nth, proofs.Neighbours.is_tied}

-- with the right prefixes, the ranks are the order of the keys
pub agree : (o : KeyOrder) (a b : ℕ) (xs ys : List ℕ) → AreBytes xs → AreBytes ys → a ≡ prefix_of xs → b ≡ prefix_of ys → rank o (a, xs) (b, ys) ≡ key_cmp o xs ys
agree LengthFirst a b xs ys h g e f = ap (ordering_then (nat_cmp (length xs) (length ys))) (agree_prefix a b xs ys h g e f)
agree Bytewise a b xs ys h g e f = agree_prefix a b xs ys h g e f

prefix_total : IsTotalOrder by_prefix
prefix_total = then_total (on_total (λ (p : ℕ × List ℕ). p.0) nat_cmp_total) (on_total (λ (p : ℕ × List ℕ). p.1) (key_cmp_total Bytewise))

pub rank_total : (o : KeyOrder) → IsTotalOrder (rank o)
rank_total Bytewise = prefix_total
rank_total LengthFirst = then_total (on_total (λ (p : ℕ × List ℕ). length p.1) nat_cmp_total) prefix_total

pub agree_spans : (o : KeyOrder) (out : List ℕ) (x y : Span) → AreBytes out → IsPrefixed out x → IsPrefixed out y → rank o (ranked_by out x) (ranked_by out y) ≡ key_cmp o (key_of out x) (key_of out y)
agree_spans o out x y h a b = agree o x.prefix y.prefix (key_of out x) (key_of out y) (bytes_slice out x.key x.val h) (bytes_slice out y.key y.val h) a b

-- ---- of each of a list

pub all_permuted : {X : Type 0} (P : X → Type 0) (xs ys : List X) → IsPermutation xs ys → AllByRecursion P xs → AllByRecursion P ys
all_permuted P xs ys m a = all_from P ys (λ y i. all_at P xs y a (contains_in xs y (Contains-permutation ys xs y (IsPermutation-sym xs ys m) (in_contains ys y i))))

-- ---- what a sort by ranks leaves

pub sorted_by_rank : (o : KeyOrder) (out : List ℕ) {F : Type 0} {g : Mut F (Bor Span × (Bor Span × Unit {0})) Ordering} {f : F} (ys : List Span)
    → ((lt : Span → Span → Bool) → IsStrictWeakOrder lt → ComparesAs g lt f → IsSortedBy lt ys)
    → ((a : Bor Span × (Bor Span × Unit {0})) (r : Ordering) (f' : F) → Called g f a r f' → (r ≡ rank o (ranked_by out a.0.now) (ranked_by out a.1.0.now)) × (f' ≡ f))
    → IsSortedBy (λ x y. is_lt (rank o (ranked_by out x) (ranked_by out y))) ys
sorted_by_rank o out {g = g} {f = f} ys s h =
    s (λ x y. is_lt (rank o (ranked_by out x) (ranked_by out y))) (ranks_by (rank_total o) (ranked_by out))
    (always_returns_same g (λ a r. is_lt r ≡ is_lt (rank o (ranked_by out a.0.now) (ranked_by out a.1.0.now))) f (λ a r f' k. (ap is_lt (h a r f' k).0, (h a r f' k).1)))

-- where the prefixes are right, it is sorted by the keys
pub sorted_keys : (o : KeyOrder) (out : List ℕ) (ys : List Span) → AreBytes out → ArePrefixed out ys
    → IsSortedBy (λ x y. is_lt (rank o (ranked_by out x) (ranked_by out y))) ys → IsSortedBy (λ x y. key_lt o (key_of out x) (key_of out y)) ys
sorted_keys o out ys b h s = λ k d l g.
    let upper = all_index _ ys (k + 1) d h g in
    let lower = all_index _ ys k d h (omega (arith, g)) in
    sym (ap is_lt (agree_spans o out (get_or ys (k + 1) d) (get_or ys k d) b upper lower)) ∙ s k d l g

-- ---- what a comparison shows about keys

pub equal_keys : (o : KeyOrder) (x y : List ℕ) → is_eq (key_cmp o x y) ≡ true → x ≡ y
equal_keys o x y e = tied o x y (is_tied _ e)

pub other_keys : (o : KeyOrder) (x y : List ℕ) → is_eq (key_cmp o x y) ≡ false → x ≢ y
other_keys o x y e is = true≢false (ap is_eq (sym (tied_itself (key_cmp_total o) x)) ∙ ap (λ (k : List ℕ). is_eq (key_cmp o x k)) is ∙ e)

-- what a comparison of two of them shows about their keys
pub compared : (o : KeyOrder) (out : List ℕ) (ss : List Span) (i j : ℕ) (d e : Span) (r : Ordering) → AreBytes out → ArePrefixed out ss → i < length ss → j < length ss
    → r ≡ rank o (ranked_by out (get_or ss i d)) (ranked_by out (get_or ss j e))
    → (is_eq r ≡ true → key_of out (nth ss i) ≡ key_of out (nth ss j)) × (is_eq r ≡ false → key_of out (nth ss i) ≢ key_of out (nth ss j))
compared o out ss i j d e r b f l m is =
    let x = get_or_default ss i d no_span l in
    let y = get_or_default ss j e no_span m in
    let keys = is ∙ agree_spans o out (get_or ss i d) (get_or ss j e) b (all_index _ ss i d f l) (all_index _ ss j e f m) ∙ (λ t. key_cmp o (key_of out (x t)) (key_of out (y t))) in (
      (λ t. equal_keys o (key_of out (nth ss i)) (key_of out (nth ss j)) (ap is_eq (sym keys) ∙ t)),
      (λ t. other_keys o (key_of out (nth ss i)) (key_of out (nth ss j)) (ap is_eq (sym keys) ∙ t)),
    )
