-- The keys of the open containers, as sets of canonical bytes.
use Rattle.std.specs.Prelude.{ℕ, ◌≡◌, ◌<◌, ◌≤◌, ◌⊎◌, ◌↔◌, Bool, true, false, List, [], ◌∷◌, length, Vec}
use Rattle.std.specs.{Global.Global, Ordering.nat_cmp, Cmp.Lexicographic.slice_cmp, BTreeSet.BTreeSet, BTreeSet.contains}
use Rattle.arrayvec.specs.ArrayVec.{ArrayVec}
use Rattle.cbor_head.specs.Prelude.{Pair}
use Rattle.theory_values.specs.Parts.{Open, a_map, a_key}
use Rattle.cbor_tree_reader.specs.declared.key_set.{KeySet.KeySet, TheConstants.SHORT_KEY}

-- the element is in a set that is ordered by bytes
abbrev pub is_in : {X : Type 0} → (X → List ℕ) → BTreeSet X → X → Bool
is_in bytes = contains (λ x y. slice_cmp nat_cmp (bytes x) (bytes y))

-- q is one of these keys
abbrev pub IsAmong : List ℕ → List (List ℕ) → Type 0
IsAmong q [] = ⊥
IsAmong q (k ∷ ks) = (q ≡ k) ⊎ IsAmong q ks

-- the set has these keys, the short ones and the long ones, and no others
pub record HasKeyBytes (set : KeySet) (ks : List (List ℕ)) : Type 0 where
  pub short : (q : ArrayVec ℕ) → length q.items ≤ SHORT_KEY → (is_in (λ x. x.items) set.short q ≡ true) ↔ IsAmong q.items ks
  pub long : (q : Vec ℕ Global) → SHORT_KEY < length q.items → (is_in (λ x. x.items) set.long q ≡ true) ↔ IsAmong q.items ks

-- a key was added: either it is new, and in the set now; or it was there before
abbrev pub IsAdded : List ℕ → List (List ℕ) → KeySet → Bool → Type 0
IsAdded q ks new true = (IsAmong q ks → ⊥) × HasKeyBytes new (q ∷ ks)
IsAdded q ks new false = IsAmong q ks

abbrev pub pair_keys : List Pair → List (List ℕ)
pair_keys [] = []
pair_keys (p ∷ ps) = p.key ∷ pair_keys ps

-- the complete keys of an open container
abbrev pub keys_in : Open → List (List ℕ)
keys_in (a_map ps) = pair_keys ps
keys_in (a_key ps k) = k ∷ pair_keys ps
keys_in _ = []

-- the keys of its complete pairs
abbrev pub keys_before : Open → List (List ℕ)
keys_before (a_map ps) = pair_keys ps
keys_before (a_key ps k) = pair_keys ps
keys_before _ = []

-- there is a set for each open container, and one for the whole
abbrev pub AreHeld : List KeySet → List Open → Type 0
AreHeld [] [] = Unit {0}
AreHeld (s ∷ ss) (c ∷ os) = HasKeyBytes s (keys_in c) × AreHeld ss os
AreHeld _ _ = ⊥

-- as before, except for a key of the innermost that is complete but not yet added
abbrev pub AreHeldSoFar : List KeySet → List Open → Type 0
AreHeldSoFar [] [] = Unit {0}
AreHeldSoFar (s ∷ ss) (c ∷ os) = HasKeyBytes s (keys_before c) × AreHeld ss os
AreHeldSoFar _ _ = ⊥
