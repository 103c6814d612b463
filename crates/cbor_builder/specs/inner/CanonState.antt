-- What a public builder holds.
use Rattle.std.specs.Prelude.{◌≡◌, Bool, false, if◌then◌else◌, IsTrue, List, [], ◌∷◌}
use Rattle.std.specs.List.{AllByRecursion}
use Rattle.theory_values.specs.Parts.{Open}
use Rattle.cbor_builder.specs.{Built.Built, Built.CanHold, inner.BuilderState.open_levels, inner.BuilderState.IsLaid}
use Rattle.cbor_builder.specs.declared.canon_builder.CanonBuilder.TheInside.{Inside}

-- what is open if the builder has not failed, and nothing otherwise
abbrev pub if_sound : Bool → List Open → List Open
if_sound sound os = if sound then os else []

abbrev pub view_value : Inside → Built
view_value b = record { order = b.core.order; open_levels = if_sound b.is_sound (open_levels b.core); refused = b.memory }

-- each accepts the one inside it as a member
abbrev pub IsNested : List Open → Type 0
IsNested [] = ⊥
IsNested (c ∷ os) = AllByRecursion CanHold os

abbrev pub IsKept : Inside → Type 0
IsKept b = IsTrue b.is_sound → (b.memory ≡ false) × IsLaid b.core × IsNested (open_levels b.core)
