-- What contracts see of a builder, and when it accepts the next part.
use Rattle.std.specs.Prelude.{ℕ, suc, Bool, false, IsTrue, ◌≡◌, ◌↔◌, ◌<◌, ◌^◌, ◌⊎◌, List, [], ◌∷◌, ◌++◌, length, map, slice_index_or, Option, IsNone, IfSome, Result, OnOk, OnErr, IfOk}
use Rattle.cbor_head.specs.Prelude.{Value, Entries, HasEntry, Same, Pair}
use Rattle.cbor_head.specs.declared.major.Major.TheVariants.{Unsigned, Negative, Bytes, Text, Array, Map, Tag, Simple}
use Rattle.cbor_head.specs.declared.{order.KeyOrder.KeyOrder, major.Major.Major}
use Rattle.theory_values.specs.Parts.{Open, an_array, a_map, a_key, a_string, HasNoRepeats}
use Rattle.cbor_builder.specs.declared.repeat.Repeat.{Repeat}

-- The order of keys, what is open, the innermost first, and whether a request for memory was refused. After a call that
-- ran out of memory nothing is open until the builder is cleared.
pub record Built : Type 0 where
  pub order : KeyOrder
  pub open_levels : List Open
  pub refused : Bool

-- a builder to which no request was refused, by its order and what is open
abbrev pub built : KeyOrder → List Open → Built
built o os = record { order = o; open_levels = os; refused = false }

-- ---- kinds of items

-- the item is its head (RFC 8949, section 3.1, major types 0, 1 and 7)
abbrev pub IsLeaf : Major → Type 0
IsLeaf Unsigned = Unit {0}
IsLeaf Negative = Unit {0}
IsLeaf Simple = Unit {0}
IsLeaf _ = ⊥

-- major types 2 and 3
abbrev pub IsStringType : Major → Type 0
IsStringType Bytes = Unit {0}
IsStringType Text = Unit {0}
IsStringType _ = ⊥

-- major types 4, 5 and 6
abbrev pub IsContainer : Major → Type 0
IsContainer Array = Unit {0}
IsContainer Map = Unit {0}
IsContainer Tag = Unit {0}
IsContainer _ = ⊥

-- ---- what may follow

-- one more member is allowed: no string is open, and an array's count stays below 2^64
abbrev pub CanHold : Open → Type 0
CanHold (an_array n bs) = suc n < 2 ^ 64
CanHold (a_string m bs) = ⊥
CanHold c = Unit {0}

-- a part may begin
abbrev pub TakesPart : List Open → Type 0
TakesPart [] = ⊥
TakesPart (c ∷ os) = CanHold c

-- a string is open, inside something that can hold it
abbrev pub IsInString : List Open → Type 0
IsInString (a_string m bs ∷ c ∷ os) = Unit {0}
IsInString _ = ⊥

-- no two keys of the innermost are equal, if it is a map
abbrev pub HasDistinctKeysSoFar : List Open → Type 0
HasDistinctKeysSoFar [] = Unit {0}
HasDistinctKeysSoFar (c ∷ os) = HasNoRepeats c

-- without the innermost
abbrev pub around : List Open → List Open
around [] = []
around (c ∷ os) = os

-- ---- repeated keys

-- one of the pairs has this key
abbrev pub HasKey : List Pair → List ℕ → Type 0
HasKey [] k = ⊥
HasKey (p ∷ ps) k = (p.key ≡ k) ⊎ HasKey ps k

-- the key that waits for its value is equal to an earlier key of its map
abbrev pub IsRepeatedKey : List Open → Type 0
IsRepeatedKey (a_key ps k ∷ os) = HasKey ps k
IsRepeatedKey _ = ⊥

-- the next item is a key of a map
abbrev pub IsKeyExpected : List Open → Type 0
IsKeyExpected (a_map ps ∷ os) = Unit {0}
IsKeyExpected _ = ⊥

-- this key waits for its value
abbrev pub IsWaitingKey : List Open → List ℕ → Type 0
IsWaitingKey (a_key ps k ∷ os) q = q ≡ k
IsWaitingKey _ q = ⊥

-- one of the entries has a key that is the same (RFC 8949, section 5.6.1)
abbrev pub HasSameKey : Entries → Value → Type 0
HasSameKey es k = (l : Value) × (w : Value) × HasEntry es l w × Same l k

-- ---- which repeated key is reported

-- the complete keys of what is open, as they came; the last may wait for its value
abbrev pub keys_so_far : Open → List (List ℕ)
keys_so_far (a_map ps) = map (λ (p : Pair). p.key) ps
keys_so_far (a_key ps k) = map (λ (p : Pair). p.key) ps ++ k ∷ []
keys_so_far c = []

-- the key at i is equal to an earlier one
abbrev pub IsRepeatAt : List (List ℕ) → ℕ → Type 0
IsRepeatAt ks i = (j : ℕ) × (j < i) × (i < length ks) × (slice_index_or ks j [] ≡ slice_index_or ks i [])

-- no two are equal
abbrev pub AreAllDifferent : List (List ℕ) → Type 0
AreAllDifferent ks = (i : ℕ) → IsRepeatAt ks i → ⊥

-- the key at i is the first that is equal to an earlier one
abbrev pub IsFirstRepeat : List (List ℕ) → ℕ → Type 0
IsFirstRepeat ks i = IsRepeatAt ks i × ((j : ℕ) → j < i → IsRepeatAt ks j → ⊥)

-- no open map has two equal keys
abbrev pub AreOpenKeysDifferent : List Open → Type 0
AreOpenKeysDifferent [] = Unit {0}
AreOpenKeysDifferent (c ∷ os) = AreAllDifferent (keys_so_far c) × AreOpenKeysDifferent os

-- this number of these are maps
abbrev pub open_maps : List Open → ℕ
open_maps [] = 0
open_maps (a_map ps ∷ os) = suc (open_maps os)
open_maps (a_key ps k ∷ os) = suc (open_maps os)
open_maps (c ∷ os) = open_maps os

-- of the outermost open map with two equal keys: how many maps are open around it, and the number of the pair whose key is the
-- first that is equal to an earlier one
abbrev pub IsRepeatReported : List Open → ℕ → ℕ → Type 0
IsRepeatReported [] outside pair = ⊥
IsRepeatReported (c ∷ os) outside pair =
    IsRepeatReported os outside pair ⊎ (AreOpenKeysDifferent os × (outside ≡ open_maps os) × IsFirstRepeat (keys_so_far c) pair)

-- ---- what a call leaves

-- after a call the order is unchanged, and these are open; or an error is returned, which says that a request for memory was
-- refused, and nothing is open
pub record Leaves {A E : Type 0} (r : Result A E) (old new : Built) (os : List Open) : Type 0 where
  pub order : new.order ≡ old.order
  pub given : OnOk r (new ≡ built old.order os)
  pub refused : OnErr r ((new.open_levels ≡ []) × IsTrue new.refused)

-- the same if no two keys of the innermost are equal; otherwise nothing is open, and the repeated key is reported
pub record LeavesIfDistinct {E : Type 0} (r : Result (Option Repeat) E) (old new : Built) (os : List Open) : Type 0 where
  pub order : new.order ≡ old.order
  pub distinct : IfOk r (λ reported. IsNone reported ↔ HasDistinctKeysSoFar old.open_levels)
  pub ended : IfOk r (λ reported. IsNone reported → new ≡ built old.order os)
  pub reported : IfOk r (λ reported. IfSome reported (λ repeat. IsRepeatReported old.open_levels repeat.outside repeat.pair))
  pub left : IfOk r (λ reported. IfSome reported (λ _. new ≡ built old.order []))
  pub refused : OnErr r ((new.open_levels ≡ []) × IsTrue new.refused)
