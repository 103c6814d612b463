-- The order of keys by their first eight bytes.
use Rattle.std.specs.Prelude.{ℕ, ◌≡◌, ◌-◌, List, length, take, slice_range}
use Rattle.std.specs.Ordering.{nat_cmp, then_cmp, on}
use Rattle.std.specs.{List.AllByRecursion, declared.cmp.Ordering.Ordering}
use Rattle.cbor_head.specs.{Prelude.key_cmp, declared.order.KeyOrder.KeyOrder}
use Rattle.cbor_head.specs.declared.order.KeyOrder.TheVariants.{Bytewise, LengthFirst}
pub use Rattle.theory_values.specs.KeyPrefix.{prefix_of}
use Rattle.cbor_builder.specs.declared.span.Span.{Span}

abbrev pub key_of : List ℕ → Span → List ℕ
key_of out s = slice_range out s.key s.val

-- the span holds the prefix of its key
abbrev pub IsPrefixed : List ℕ → Span → Type 0
IsPrefixed out s = s.prefix ≡ prefix_of (key_of out s)

abbrev pub ArePrefixed : List ℕ → List Span → Type 0
ArePrefixed out ss = AllByRecursion (IsPrefixed out) ss

-- the prefixes, and the keys if these are equal
abbrev pub by_prefix : ℕ × List ℕ → ℕ × List ℕ → Ordering
by_prefix = then_cmp (on (λ p. p.0) nat_cmp) (on (λ p. p.1) (key_cmp Bytewise))

-- what a sort compares
abbrev pub rank : KeyOrder → ℕ × List ℕ → ℕ × List ℕ → Ordering
rank Bytewise = by_prefix
rank LengthFirst = then_cmp (on (λ p. length p.1) nat_cmp) by_prefix

abbrev pub ranked_by : List ℕ → Span → ℕ × List ℕ
ranked_by out s = (s.prefix, key_of out s)

-- those before the last element
abbrev pub at_start : List Span → List Span
at_start ss = take (length ss - 1) ss
