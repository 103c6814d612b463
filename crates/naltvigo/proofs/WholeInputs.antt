-- Checks of a whole input.
use Rattle.std.proofs.Common.{ℕ, ◌<◌, ◌≤◌, ◌≡◌, ◌↔◌, List, length, inl, inr, sym, ap, ◌∙◌, arith, subst}
use Rattle.cbor_head.specs.Prelude.{Bounds, Spelling, spell, plain, strict, IsVerdict, accepted, refused, refusal}
use Rattle.cbor_head.specs.declared.{order.KeyOrder.KeyOrder, reason.Reason.TheVariants.Trailing, reason.Reason.TheVariants.Memory, reason.Refusal.Refusal}
use Rattle.theory_verdicts.proofs.Accepted.{item_is_whole, one_item, not_both}
use Rattle.theory_verdicts.specs.Readers.{HasNoCanonicalPrefix, IsCanonicalPrefix, IsRead, of_verdict}
use Rattle.theory_verdicts.proofs.Reasons.{never-read, never-memory}
use Rattle.cbor_reader.specs.WholeItem.{IsWholeItem, unread, trailing}
use Rattle.cbor_reader.specs.{Canonicalise.IsCanonicalOf, Headline.IsValidItem}
use Rattle.naltvigo.specs.{Checking.HasNoWholePrefix, inner.Checking.IsOwnResult, inner.Checking.IsNotOwn}

-- ---- by the plain rules

module _ (limits : Bounds) (input : List ℕ) where
  pub is-whole : (count : ℕ) → IsRead limits plain input count → length input ≤ count
      → ((s : Spelling) → IsValidItem limits input s ↔ (IsVerdict limits plain input (accepted s) × (spell s ≡ input))) → IsWholeItem limits input
  is-whole count r least valid = (r.item, (valid r.item).1 (r.verdict, item_is_whole limits plain input r.item r.verdict (omega (arith, r.size, least))))

-- ---- by the strict rules

module _ (limits : Bounds) (o : KeyOrder) (input : List ℕ) where
  module _ (own : IsCanonicalOf limits o input input ↔ ((s : Spelling) × IsVerdict limits (strict o) input (accepted s) × (spell s ≡ input))) where
    pub owns : (count : ℕ) → IsRead limits (strict o) input count → IsCanonicalPrefix limits o input count → length input ≤ count → IsOwnResult limits o input
    owns count r prefix least =
        let all-bytes : spell r.item ≡ input = item_is_whole limits (strict o) input r.item r.verdict (omega (arith, r.size, least)) in
        let all : count ≡ length input = r.size ∙ ap length all-bytes in
        record {
          own = own.1 (r.item, r.verdict, all-bytes);
          accepted = subst (IsRead limits (strict o) input) all r;
          canonical = subst (IsCanonicalPrefix limits o input) all prefix;
        }

    pub followed : (count : ℕ) (f : Refusal) → IsRead limits (strict o) input count → IsCanonicalPrefix limits o input count → count < length input
        → f ≡ refusal Trailing count count → IsNotOwn limits o input f
    followed count f r prefix l is = record {
      refused = trailing count r l is;
      not_memory = λ e. let two : Trailing ≡ Memory = sym (ap (λ (g : Refusal). g.reason) is) ∙ e in cc two;
      not_own = λ c.
          let h = own.0 c in
          let all-bytes : spell r.item ≡ input = ap spell (one_item limits (strict o) input r.item h.0 r.verdict h.1) ∙ h.2 in
          omega (arith, r.size, l, ap length all-bytes);
      prefix = inr (subst (λ (g : Refusal). IsCanonicalPrefix limits o input g.place × (g.place < length input)) (sym is) (prefix, l));
    }

    pub refuses : (f : Refusal) → IsVerdict limits (strict o) input (refused f) → HasNoCanonicalPrefix limits o input → IsNotOwn limits o input f
    refuses f v none = record {
      refused = unread (of_verdict v) (never-read limits (strict o) input f v);
      not_memory = never-memory limits (strict o) input f v;
      not_own = λ c. let h = own.0 c in not_both limits (strict o) input h.0 f h.1 v;
      prefix = inl none;
    }

-- by the numbers that C gave
pub reported-prefix : (l m : Bounds) (o p : KeyOrder) (input : List ℕ) (a b : ℕ) → m ≡ l → p ≡ o → b ≡ a → HasNoWholePrefix l o input a → HasNoWholePrefix m p input b
reported-prefix l m o p input a b limits order end h = rw (limits, order, end) h
