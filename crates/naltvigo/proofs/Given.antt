-- What is known of a result is known of the bytes in the buffer, by the numbers that C gave.
use Rattle.std.proofs.Common.{ℕ, ◌≡◌, ◌≤◌, List, length, subst}
use Rattle.cbor_head.specs.Prelude.{canonical, Bounds, Spelling, value_of}
use Rattle.cbor_head.specs.declared.{order.KeyOrder.KeyOrder, reason.Refusal.Refusal}
use Rattle.cbor_reader.specs.{Canonicalise.IsCanonicalOf, Canonicalise.DeterminesItsValue, Headline.IsValidItem, Headline.HasNoResult}
use Rattle.naltvigo.specs.{Reported.ReportsOf, declared.status.NaltvigoRefusal.NaltvigoRefusal}

module _ (limits others : Bounds) (o p : KeyOrder) (input x y : List ℕ) (within : others ≡ limits) (order : p ≡ o) (same : y ≡ x) where
  pub given-reports : DeterminesItsValue limits.depth o input x → DeterminesItsValue others.depth p input y
  given-reports h = rw (within, order, same) h

  pub given-item : (k : ℕ) → k ≡ length x → (s : Spelling) × IsValidItem limits input s × (x ≡ canonical o (value_of s)) × (length x ≤ limits.bytes)
      → (s : Spelling) × IsValidItem others input s × (y ≡ canonical p (value_of s)) × (k ≤ others.bytes)
  given-item k size h = rw (within, order, same, size) h

  pub given-again : IsCanonicalOf limits o x x → IsCanonicalOf others p y y
  given-again h = rw (within, order, same) h

pub given-none : (limits others : Bounds) (o p : KeyOrder) (input : List ℕ) → others ≡ limits → p ≡ o → HasNoResult limits o input → HasNoResult others p input
given-none limits others o p input within order h = rw (within, order) h

-- what is reported of a refusal
pub given-reported : {A : Type 0} {a b : A} (P : A → Refusal → Type 0) {reported : NaltvigoRefusal} → a ≡ b → ReportsOf (P a) reported → ReportsOf (P b) reported
given-reported {A = A} P {reported = reported} same h = subst (λ (x : A). ReportsOf (P x) reported) same h
