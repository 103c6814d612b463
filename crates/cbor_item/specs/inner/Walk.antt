-- A walk over a node that gives its parts to a builder of canonical bytes: what the remaining values make.
use Rattle.std.specs.Prelude.{ℕ, suc, ◌+◌, ◌≡◌, ◌↔◌, List, [], ◌∷◌, Option, Some, None}
use Rattle.cbor_head.specs.Prelude.{canonical, Value, Values, Entries, map, no_values, a_value, IsInRange, IsValid}
use Rattle.cbor_head.specs.Value.{array, tag, no_entries, entry}
use Rattle.cbor_head.specs.declared.order.KeyOrder.{KeyOrder}
use Rattle.theory_values.specs.Parts.{Open, plain, a_key, a_string, with_member, closed, give, HasNoRepeats}
use Rattle.cbor_builder.specs.Built.{CanHold}

-- an open part, with the canonical bytes of these given to it
abbrev pub with_all : KeyOrder → List Value → Open → Open
with_all o [] c = c
with_all o (v ∷ vs) c = with_all o vs (with_member (canonical o v) c)

-- it may end: no key waits for its value, and it is no string
abbrev pub CanEnd : Open → Type 0
CanEnd (a_key ps k) = ⊥
CanEnd (a_string m bs) = ⊥
CanEnd c = Unit {0}

-- it accepts these as members, one after another, and may end then
abbrev pub TakesAll : KeyOrder → List Value → Open → Type 0
TakesAll o [] c = CanEnd c
TakesAll o (v ∷ vs) c = CanHold c × IsInRange v × TakesAll o vs (with_member (canonical o v) c)

abbrev pub AreAllValid : List Value → Type 0
AreAllValid [] = Unit {0}
AreAllValid (v ∷ vs) = IsValid v × AreAllValid vs

-- ---- all that is open, the innermost first, and what is to come of each

-- what is open around one that will end as c
abbrev pub LeadsAround : KeyOrder → Value → Open → List (List Value) → List Open → Type 0
LeadsAround o w c [] os = (c ≡ plain (canonical o w)) × (os ≡ [])
LeadsAround o w c (vs ∷ vss) [] = ⊥
LeadsAround o w c (vs ∷ vss) (d ∷ os) =
    TakesAll o vs (with_member (closed o c) d) × LeadsAround o w (with_all o vs (with_member (closed o c) d)) vss os

-- all that is to come makes the canonical bytes of w
abbrev pub Leads : KeyOrder → Value → List (List Value) → List Open → Type 0
Leads o w (vs ∷ vss) (c ∷ os) = TakesAll o vs c × LeadsAround o w (with_all o vs c) vss os
Leads o w _ _ = ⊥

abbrev pub AreSoundAround : KeyOrder → Open → List (List Value) → List Open → Type 0
AreSoundAround o c (vs ∷ vss) (d ∷ os) = HasNoRepeats c × AreAllValid vs × AreSoundAround o (with_all o vs (with_member (closed o c) d)) vss os
AreSoundAround o c _ _ = Unit {0}

-- what is to come is valid, and no map that is open will have two equal keys
abbrev pub AreSound : KeyOrder → List (List Value) → List Open → Type 0
AreSound o (vs ∷ vss) (c ∷ os) = AreAllValid vs × AreSoundAround o (with_all o vs c) vss os
AreSound o _ _ = Unit {0}

-- ---- a step into an item

-- the number of parts of an item, and one more for each that is opened
abbrev mutual
  pub size : Value → ℕ
  size (array vs) = suc (suc (size_all vs))
  size (map es) = suc (suc (size_entries es))
  size (tag n v) = suc (suc (size v))
  size _ = 1

  pub size_all : Values → ℕ
  size_all no_values = 0
  size_all (a_value v vs) = size v + size_all vs

  pub size_entries : Entries → ℕ
  size_entries no_entries = 0
  size_entries (entry k v es) = size k + (size v + size_entries es)

abbrev pub weight : List Value → ℕ
weight [] = 0
weight (v ∷ vs) = size v + weight vs

abbrev pub weight_of_all : List (List Value) → ℕ
weight_of_all [] = 0
weight_of_all (vs ∷ vss) = suc (weight vs + weight_of_all vss)

-- an item as an open part c, and the values that it still needs
pub record Opens (o : KeyOrder) (v : Value) (c : Open) (vs : List Value) : Type 0 where
  pub takes : TakesAll o vs c
  pub bytes : closed o (with_all o vs c) ≡ canonical o v
  pub smaller : size v ≡ suc (suc (weight vs))
  pub valid : IsValid v ↔ (AreAllValid vs × HasNoRepeats (with_all o vs c))

-- the item was given whole, and nothing remains; or it is open, and these values remain
abbrev pub IsBegun : KeyOrder → Value → List Open → List Open → Option (List Value) → Type 0
IsBegun o v os os' None = (os' ≡ give (canonical o v) os) × IsValid v
IsBegun o v os os' (Some vs) = (c : Open) × (os' ≡ c ∷ os) × Opens o v c vs
