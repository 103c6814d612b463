-- What is allowed where an item is expected, and what is refused there.
use Rattle.std.specs.Prelude.{◌≡◌, ℕ, ◌<◌, ◌≤◌, ◌++◌, Bool, true, false, List, [], ◌∷◌, length}
use Rattle.cbor_head.specs.Prelude.{Rules, Bounds, AreBytes}
use Rattle.cbor_head.specs.declared.reason.Refusal.{Refusal}
use Rattle.theory_verdicts.specs.Path.{Level, bytes_before, AreClean, MayBreak}
use Rattle.theory_verdicts.specs.{PathKinds.KeepsHere, Stop.IsStopped}

-- ---- the rest of an input at an offset

-- these containers are open at this offset; `space` says whether one more may open
pub record IsPlaceFor (space : Bool) (d : ℕ) (ls : List Level) (at : ℕ) : Type 0 where
  pub here : at ≡ length (bytes_before ls)
  pub fits : space ≡ true → length ls < d
  pub full : space ≡ false → d ≤ length ls

-- the first byte is no break, or a break is not allowed there
abbrev pub HasNoBreak : List Level → List ℕ → Type 0
HasNoBreak ls [] = Unit {0}
HasNoBreak ls (b ∷ bs) = b ≡ 0xff → MayBreak ls → ⊥

-- The rest of an input at this offset is refused with this refusal by these rules, within any containers that may
-- be open there.
abbrev pub IsRefusedBy : Rules → Bool → List ℕ → ℕ → Refusal → Type 0
IsRefusedBy r space b at f =
    (limits : Bounds) (ls : List Level) → AreClean r limits.depth ls → HasNoBreak ls b → KeepsHere limits r ls b → IsPlaceFor space limits.depth ls at → AreBytes (bytes_before ls ++ b) → IsStopped r limits (bytes_before ls ++ b) f
