-- The order of two keys by the numbers before them.
use Rattle.std.proofs.Common.{◌≡◌, ℕ, nat_lt, List, ap, ◌∙◌, arith}
use Rattle.std.specs.Ordering.{is_lt, nat_cmp, ordering_then}
use Rattle.std.{specs.declared.cmp.Ordering.Ordering, proofs.lemmas.Bool.Decides.nat_tests}
use Rattle.cbor_head.specs.{Prelude.AreBytes, Prelude.key_lt, declared.order.KeyOrder.TheVariants.Bytewise}
use Rattle.theory_values.{specs.KeyPrefix.prefix_of, proofs.KeyPrefixes.agree_prefix}

prefix_decides : (a b : ℕ) (r : Ordering) → (a ≡ b → ⊥) → nat_lt a b ≡ is_lt (ordering_then (nat_cmp a b) r)
prefix_decides a b r apart = grind (arith, nat_tests)

-- where they differ, they decide
pub by_prefix : (a b : ℕ) (xs ys : List ℕ) → AreBytes xs → AreBytes ys → a ≡ prefix_of xs → b ≡ prefix_of ys → (a ≡ b → ⊥) → nat_lt a b ≡ key_lt Bytewise xs ys
by_prefix a b xs ys h g e f apart = prefix_decides a b _ apart ∙ ap is_lt (agree_prefix a b xs ys h g e f)
