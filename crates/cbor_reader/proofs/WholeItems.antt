-- Whole inputs: from what is read of one to the item that it is, or the refusal; and from that to what `canonicalise` returns.
use Rattle.std.proofs.Common.{ℕ, ◌<◌, arith, ◌≡◌, ◌≤◌, List, length, refl, sym, ap, ◌∙◌, subst, ◌↔◌}
use Rattle.cbor_head.specs.Prelude.{canonical, Bounds, Value, Spelling, value_of, plain, refusal}
use Rattle.cbor_head.specs.declared.reason.Reason.TheVariants.{Read, Memory, CanonicalTooLong}
use Rattle.cbor_head.specs.declared.{order.KeyOrder.KeyOrder, reason.Refusal.Refusal}
use Rattle.theory_values.proofs.ReadLaws.{one_list}
use Rattle.theory_verdicts.{specs.Readers.IsRead, specs.Readers.IsReadAs, proofs.Accepted.item_is_whole, proofs.Accepted.one_item}
use Rattle.cbor_reader.specs.Canonicalise.{IsCanonicalOf, IsRefusal, of_item, canonical_too_long}
use Rattle.cbor_reader.specs.WholeItem.{IsWholeItem, IsItemRefusal, unread}
use Rattle.cbor_reader.proofs.Headline.{valid_item, valid_item_accepted, results_exactly}
use Rattle.cbor_reader.{specs.Headline.IsValidItem, proofs.ViewPrefixes.memory_after, proofs.OneResult.memory_alone}

-- ---- an item that is read

-- no byte follows it
pub all-of-it : (limits : Bounds) (input : List ℕ) (size : ℕ) (a : IsRead limits plain input size) → length input ≤ size → IsValidItem limits input a.item
all-of-it limits input size a all =
    valid_item limits input a.item a.verdict (item_is_whole limits plain input a.item a.verdict (omega (arith, all, a.size)))

-- memory was refused when all of it had been read
pub memory_at_end : (limits : Bounds) (o : KeyOrder) (input : List ℕ) (f : Refusal) → IsWholeItem limits input → f ≡ refusal Memory (length input) (length input) → IsRefusal limits o input f
memory_at_end limits o input f (s, i) is =
    let a : IsRead limits plain input (length input) = record { item = s; verdict = valid_item_accepted limits input s i; size = ap length (sym i.well_formed.bytes_are) } in
    of_item (unread (memory_after limits input (length input) f a is) (λ e. let two : Memory ≡ Read = sym (ap (λ (x : Refusal). x.reason) is) ∙ e in cc two))

-- ---- within the limit, or past it

pub becomes : (limits : Bounds) (o : KeyOrder) (input out : List ℕ) → (s : Spelling) × IsValidItem limits input s × (out ≡ canonical o (value_of s)) → length out ≤ limits.bytes → IsCanonicalOf limits o input out
becomes limits o input out h l = (results_exactly limits o input out).1 (h.0, h.1, h.2, l)

pub grows_too_long : (limits : Bounds) (o : KeyOrder) (input out : List ℕ) (f : Refusal) → (s : Spelling) × IsValidItem limits input s × (out ≡ canonical o (value_of s)) → limits.bytes < length out
    → f ≡ refusal CanonicalTooLong (length input) (length input) → IsRefusal limits o input f
grows_too_long limits o input out f h l is =
    canonical_too_long h.0 (valid_item_accepted limits input h.0 h.1) h.1.well_formed.bytes_are (subst (λ (b : List ℕ). limits.bytes < length b) h.2 l) is

-- ---- a tree, and the result

pub tree_becomes : (limits : Bounds) (o : KeyOrder) (input out : List ℕ) (v : Value) → IsReadAs limits plain input v (length input) → IsCanonicalOf limits o input out ↔ ((out ≡ canonical o v) × (length out ≤ limits.bytes))
tree_becomes limits o input out v a = (
  λ h.
      let e = one_item limits plain input h.item a.read.item h.verdict a.read.verdict in
      (h.canonical_bytes ∙ ap (λ (s : Spelling). canonical o (value_of s)) e ∙ ap (canonical o) (sym a.value), h.fits),
  λ h. record {
    item = a.read.item;
    verdict = a.read.verdict;
    whole = item_is_whole limits plain input a.read.item a.read.verdict (omega (arith, a.read.size));
    canonical_bytes = h.0 ∙ ap (canonical o) a.value;
    fits = h.1;
  },
)

pub tree_too_long : (limits : Bounds) (o : KeyOrder) (input : List ℕ) (v : Value) → IsReadAs limits plain input v (length input) → limits.bytes < length (canonical o v) → IsRefusal limits o input (refusal CanonicalTooLong (length input) (length input))
tree_too_long limits o input v a l =
    canonical_too_long a.read.item a.read.verdict (item_is_whole limits plain input a.read.item a.read.verdict (omega (arith, a.read.size))) (subst (λ (w : Value). limits.bytes < length (canonical o w)) a.value l) refl

-- ---- an input is an item, or it isn't

pub only_item : (limits others : Bounds) (input : List ℕ) (s t : Spelling) → IsValidItem limits input s → IsValidItem others input t → s ≡ t
only_item limits others input s t i j = one_list s t i.well_formed.spelled j.well_formed.spelled (i.well_formed.bytes_are ∙ sym j.well_formed.bytes_are)

pub refused_for_memory : (limits : Bounds) (input : List ℕ) (f : Refusal) → IsWholeItem limits input → IsItemRefusal limits plain input f → f.reason ≡ Memory
refused_for_memory limits input f (s, i) r = memory_alone limits plain input s f (valid_item_accepted limits input s i) i.well_formed.bytes_are r
