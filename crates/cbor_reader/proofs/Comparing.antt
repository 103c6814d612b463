-- What two inputs mean: by their canonical bytes, and as a relation of inputs.
use Rattle.std.proofs.Common.{ℕ, ◌^◌, ◌≡◌, ◌≤◌, ◌↔◌, Bool, List, length, sym, ap, ◌∙◌, subst, IsTrue}
use Rattle.std.specs.Bool.{Decides}
use Rattle.cbor_head.specs.Prelude.{canonical, Bounds, Spelling, IsItem, value_of, Same}
use Rattle.cbor_head.specs.declared.order.KeyOrder.{KeyOrder, TheVariants.Bytewise}
use Rattle.theory_values.proofs.Sameness.{Same-refl, Same-sym, Same-trans}
use Rattle.theory_values.proofs.Sound.{IsSound as IsSoundValue, sound}
use Rattle.theory_values.proofs.Keys.{same_exactly}
use Rattle.cbor_reader.proofs.Headline.{again, results_exactly, equal_exactly, valid_item_value}
use Rattle.cbor_reader.specs.{Canonicalise.IsCanonicalOf, Comparing.MeanTheSame, Headline.IsValidItem, WholeItem.IsWholeItem}
use Rattle.cbor_reader.proofs.WholeItems.{becomes, only_item}

-- ---- by canonical bytes

module _ (limits : Bounds) (m : limits.bytes ≤ 2 ^ 62) (left right : List ℕ) where
  abbrev IsEncoded : List ℕ → List ℕ → Type 0
  IsEncoded input out = (s : Spelling) × IsValidItem limits input s × (out ≡ canonical Bytewise (value_of s))

  sound_item : (input : List ℕ) (s : Spelling) → IsValidItem limits input s → IsSoundValue (value_of s)
  sound_item input s i = let v = valid_item_value limits input s m i in sound (value_of s) v.0 v.1

  bytes_of_item : (input out : List ℕ) (s : Spelling) → IsEncoded input out → IsValidItem limits input s → out ≡ canonical Bytewise (value_of s)
  bytes_of_item input out s h i = h.2 ∙ ap (λ (t : Spelling). canonical Bytewise (value_of t)) (only_item limits limits input h.0 s h.1 i)

  -- the canonical bytes of an item are an item, of the same canonical bytes
  pub encoded_again : (out : List ℕ) → IsEncoded left out → right ≡ out → length right ≤ limits.bytes → IsEncoded right out
  encoded_again out h e l =
      let item : IsEncoded left right = subst (IsEncoded left) (sym e) h in
      let (s, i, is, _) = (results_exactly limits Bytewise right right).0 (again limits Bytewise left right m (becomes limits Bytewise left right item l)) in
      (s, i, sym e ∙ is)

  module _ (same : Bool) (x y : List ℕ) (decides : Decides same (x ≡ y)) (h : IsEncoded left x) (g : IsEncoded right y) where
    pub same_values : (s t : Spelling) → IsValidItem limits left s → IsValidItem limits right t → IsTrue same ↔ Same (value_of s) (value_of t)
    same_values s t i j =
        let first = bytes_of_item left x s h i in
        let second = bytes_of_item right y t g j in
        let exactly = same_exactly Bytewise (value_of s) (value_of t) (sound_item left s i) (sound_item right t j) in
        ((λ q. exactly.1 (sym first ∙ decides.0 q ∙ second)), (λ q. decides.1 (first ∙ exactly.0 q ∙ sym second)))

    pub same_inputs : IsTrue same ↔ MeanTheSame limits left right
    same_inputs = (
      (λ q. record { left_item = h.0; right_item = g.0; left_whole = h.1; right_whole = g.1; same = (same_values h.0 g.0 h.1 g.1).0 q }),
      (λ q. (same_values q.left_item q.right_item q.left_whole q.right_whole).1 q.same),
    )

-- ---- as a relation of inputs

pub meaning_itself : (limits : Bounds) (x : List ℕ) → IsWholeItem limits x → MeanTheSame limits x x
meaning_itself limits x (s, i) = record { left_item = s; right_item = s; left_whole = i; right_whole = i; same = Same-refl (value_of s) }

pub meaning_back : (limits : Bounds) (x y : List ℕ) → MeanTheSame limits x y → MeanTheSame limits y x
meaning_back limits x y h =
    record { left_item = h.right_item; right_item = h.left_item; left_whole = h.right_whole; right_whole = h.left_whole; same = Same-sym (value_of h.left_item) (value_of h.right_item) h.same }

pub meaning_on : (limits : Bounds) (x y z : List ℕ) → MeanTheSame limits x y → MeanTheSame limits y z → MeanTheSame limits x z
meaning_on limits x y z h g =
    let first : Same (value_of h.left_item) (value_of g.left_item) =
    subst (λ (s : Spelling). Same (value_of h.left_item) (value_of s)) (only_item limits limits y h.right_item g.left_item h.right_whole g.left_whole) h.same in
    record {
      left_item = h.left_item;
      right_item = g.right_item;
      left_whole = h.left_whole;
      right_whole = g.right_whole;
      same = Same-trans (value_of h.left_item) (value_of g.left_item) (value_of g.right_item) first g.same;
    }

pub meaning_by_results : (limits others : Bounds) (o : KeyOrder) (x y a b : List ℕ) → others.bytes ≤ 2 ^ 62 → IsWholeItem limits x → IsWholeItem limits y → IsCanonicalOf others o x a → IsCanonicalOf others o y b
    → MeanTheSame limits x y ↔ (a ≡ b)
meaning_by_results limits others o x y a b l (s, i) (t, j) u v =
    let (p, f, _, _) = (results_exactly others o x a).0 u in
    let (q, g, _, _) = (results_exactly others o y b).0 v in
    let left : IsItem others.depth s x = subst (λ (w : Spelling). IsItem others.depth w x) (only_item others limits x p s f i) f.well_formed in
    let right : IsItem others.depth t y = subst (λ (w : Spelling). IsItem others.depth w y) (only_item others limits y q t g j) g.well_formed in
    let equal = equal_exactly others others o x y a b s t l l u left v right in (
      (λ h. equal.1 (subst (λ (w : Spelling). Same (value_of s) (value_of w)) (only_item limits limits y h.right_item t h.right_whole j)
          (subst (λ (w : Spelling). Same (value_of w) (value_of h.right_item)) (only_item limits limits x h.left_item s h.left_whole i) h.same))),
      (λ h. record { left_item = s; right_item = t; left_whole = i; right_whole = j; same = equal.0 h }),
    )
