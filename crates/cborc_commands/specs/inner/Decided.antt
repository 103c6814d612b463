-- Which bytes decide the verdict on their first item.
use Rattle.std.specs.Prelude.{ℕ, ◌≡◌, ◌≢◌, ◌<◌, ◌⊎◌, List, [], length}
use Rattle.cbor_head.specs.Prelude.{Rules, form, Bounds, Spelling, spell, accepted, refused, IsVerdict}
use Rattle.cbor_head.specs.declared.reason.{Reason.TheVariants.Truncated, Refusal.Refusal}
use Rattle.cborc_commands.specs.{Rules.rules_of, declared.input.Judge.Judge, declared.input.Judge.TheVariants.Form, declared.input.Judge.TheVariants.Item}

-- the rules by which the first item of an input is judged
abbrev pub judging_rules : Judge → Rules
judging_rules Form = form
judging_rules (Item which) = rules_of which

-- the verdict on the first item of these bytes does not depend on what follows them: by these rules they end neither within it nor with it
pub record IsDecided (rules : Rules) (limits : Bounds) (bytes : List ℕ) : Type 0 where
  pub within : (f : Refusal) → IsVerdict limits rules bytes (refused f) → f.reason ≢ Truncated
  pub longer : (s : Spelling) → IsVerdict limits rules bytes (accepted s) → length (spell s) < length bytes

-- nothing follows these bytes, or it does not change the verdict on their first item
abbrev pub IsEnough : Rules → Bounds → List ℕ → List ℕ → Type 0
IsEnough rules limits bytes following = (following ≡ []) ⊎ IsDecided rules limits bytes
