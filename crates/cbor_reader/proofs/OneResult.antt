-- An input has one result unless memory is refused.
use Rattle.std.proofs.Common.{ℕ, ◌≡◌, ◌≢◌, List, length, sym, ap, ◌∙◌, arith}
use Rattle.cbor_head.specs.Prelude.{Bounds, Spelling, spell, value_of, canonical, Rules, plain, IsVerdict, accepted, refusal}
use Rattle.cbor_head.specs.declared.{order.KeyOrder.KeyOrder, reason.Reason.TheVariants.Trailing, reason.Reason.TheVariants.Memory, reason.Refusal.Refusal}
use Rattle.theory_verdicts.proofs.Accepted.{one_item, one_refusal, not_both, verdict_only}
use Rattle.theory_verdicts.specs.Readers.{of_verdict, of_reader, of_memory}
use Rattle.cbor_reader.specs.Canonicalise.{IsCanonicalOf, IsRefusal, of_item, canonical_too_long}
use Rattle.cbor_reader.specs.WholeItem.{IsItemRefusal, unread, trailing}

-- ---- an item

module _ (limits : Bounds) (r : Rules) (input : List ℕ) where
  pub item_refused_once : (f g : Refusal) → IsItemRefusal limits r input f → IsItemRefusal limits r input g → f.reason ≢ Memory → g.reason ≢ Memory → f ≡ g
  item_refused_once f g (unread u x) (unread v y) h i = one_refusal limits r input f g (verdict_only limits r input f u x h) (verdict_only limits r input g v y i)
  item_refused_once f g (unread u x) (trailing n t l e) h i = absurd (not_both limits r input t.item f t.verdict (verdict_only limits r input f u x h))
  item_refused_once f g (trailing n s l e) (unread v y) h i = absurd (not_both limits r input s.item g s.verdict (verdict_only limits r input g v y i))
  item_refused_once f g (trailing n s l e) (trailing m t k is) h i =
      let same : n ≡ m = s.size ∙ ap (λ (s : Spelling). length (spell s)) (one_item limits r input s.item t.item s.verdict t.verdict) ∙ sym t.size in
      e ∙ ap (λ (k : ℕ). refusal Trailing k k) same ∙ sym is

  -- an input that is one accepted item is refused only for memory
  pub memory_alone : (s : Spelling) (f : Refusal) → IsVerdict limits r input (accepted s) → spell s ≡ input → IsItemRefusal limits r input f → f.reason ≡ Memory
  memory_alone s f v all (unread (of_verdict w) g) = absurd (not_both limits r input s f v w)
  memory_alone s f v all (unread (of_reader is w) g) = absurd (g (ap (λ (x : Refusal). x.reason) is))
  memory_alone s f v all (unread (of_memory p l m is x) g) = ap (λ (x : Refusal). x.reason) is
  memory_alone s f v all (trailing n t l is) =
      absurd (omega (arith, l, t.size, ap (λ (s : Spelling). length (spell s)) (one_item limits r input s t.item v t.verdict), ap length all))

-- ---- its canonical bytes

pub one_canonical : (limits : Bounds) (o : KeyOrder) (input x y : List ℕ) → IsCanonicalOf limits o input x → IsCanonicalOf limits o input y → x ≡ y
one_canonical limits o input x y v w =
    v.canonical_bytes ∙ ap (λ (s : Spelling). canonical o (value_of s)) (one_item limits plain input v.item w.item v.verdict w.verdict) ∙ sym w.canonical_bytes

pub one_result : (limits : Bounds) (o : KeyOrder) (input : List ℕ) (f g : Refusal) → IsRefusal limits o input f → IsRefusal limits o input g → f.reason ≢ Memory → g.reason ≢ Memory → f ≡ g
one_result limits o input f g (of_item v) (of_item w) h i = item_refused_once limits plain input f g v w h i
one_result limits o input f g (of_item v) (canonical_too_long t w u m k) h i = absurd (h (memory_alone limits plain input t f w u v))
one_result limits o input f g (canonical_too_long s v u l e) (of_item w) h i = absurd (i (memory_alone limits plain input s g v u w))
one_result limits o input f g (canonical_too_long s v u l e) (canonical_too_long t w x m k) h i = e ∙ sym k

pub only_memory : (limits : Bounds) (o : KeyOrder) (input x : List ℕ) (f : Refusal) → IsCanonicalOf limits o input x → IsRefusal limits o input f → f.reason ≡ Memory
only_memory limits o input x f v (of_item w) = memory_alone limits plain input v.item f v.verdict v.whole w
only_memory limits o input x f v (canonical_too_long t w u m k) =
    absurd (omega (arith, m, v.fits, ap length v.canonical_bytes, ap (λ (s : Spelling). length (canonical o (value_of s))) (one_item limits plain input v.item t v.verdict w)))
