-- A member or a pair is no larger than all of them.
use Rattle.std.proofs.Common.{◌≡◌, ℕ, zero, suc, ◌+◌, ◌<◌, ◌≤◌, List, [], ◌∷◌, length, get_or, sym, subst, arith}
use Rattle.cbor_head.specs.Prelude.{Value}
use Rattle.cbor_item.specs.inner.Walk.{size, size_all, size_entries}
use Rattle.cbor_item.specs.Nodes.{entries_in, values_in}

module _ {N : Type 0} (see : N → Value) where
  pub member_fits : (ns : List N) (i : ℕ) (n : N) → i < length ns → n ≡ get_or ns i n → size (see n) ≤ size_all (values_in see ns)
  member_fits [] i n l is = absurd (omega arith)
  member_fits (m ∷ ns) zero n l is = subst (λ (x : N). size (see x) ≤ size (see m) + size_all (values_in see ns)) (sym is) (omega arith)
  member_fits (m ∷ ns) (suc i) n l is = let more = member_fits ns i n (omega arith) is in omega (arith, more)

  pub pair_fits : (ps : List (N × N)) (i : ℕ) (p : N × N) → i < length ps → p ≡ get_or ps i p → size (see p.0) + size (see p.1) ≤ size_entries (entries_in see ps)
  pair_fits [] i p l is = absurd (omega arith)
  pair_fits (q ∷ ps) zero p l is = subst (λ (x : N × N). size (see x.0) + size (see x.1) ≤ size (see q.0) + (size (see q.1) + size_entries (entries_in see ps))) (sym is) (omega arith)
  pair_fits (q ∷ ps) (suc i) p l is = let more = pair_fits ps i p (omega arith) is in omega (arith, more)
