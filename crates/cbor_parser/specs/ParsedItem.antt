-- Why a walk over the item at the start of an input stops.
use Rattle.std.specs.Prelude.{◌≡◌, ◌⊎◌, ℕ, List}
use Rattle.cbor_head.specs.Prelude.{plain, Bounds, IsVerdict, refusal, refused}
use Rattle.cbor_head.specs.declared.reason.{Reason.TheVariants.Memory, Refusal.Refusal}

-- the item is refused with this refusal; or memory was refused, which is reported at the start
abbrev pub IsStop : Bounds → List ℕ → Refusal → Type 0
IsStop limits input f = IsVerdict limits plain input (refused f) ⊎ (f ≡ refusal Memory 0 0)
