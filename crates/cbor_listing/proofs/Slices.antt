-- An event of an item in a slice, of which the machine has consumed the first bytes.
use Rattle.std.proofs.Common.{◌≡◌, ℕ, ◌+◌, ◌-◌, List, [], ◌++◌, length, length-drop, take, take_all, drop, drop-drop, take-append-drop, Option, Some, sym, ap, ◌∙◌, arith, append-nil, subst}
use Rattle.std.{specs.Io.KnownBytes.Consumes, proofs.KnownBytes.Consumes-nil}
use Rattle.theory_automaton.specs.Trace.{Mark}
use Rattle.cbor_machine.specs.{MachineView.MachineView, Machine.Represents, Calls.HasRead}

-- a call that has consumed nothing yet
pub nothing-read : (from : Option (List ℕ)) (m : MachineView) (t : List ℕ) (ms : List Mark) → Represents m t ms → HasRead from from m t ms
nothing-read from m t ms h = record { bytes = []; consumed = Consumes-nil from; agrees = subst (λ xs. Represents m xs ms) (sym (append-nil t)) h }

-- the bytes after those that were consumed
pub left-over : (xs : List ℕ) (old used new : ℕ) → new ≡ old + used → Consumes (Some (drop old xs)) (Some (drop new xs)) (take used (drop old xs))
left-over xs old used new e =
    sym (take-append-drop used (drop old xs)) ∙ ap (λ ys. take used (drop old xs) ++ ys) (drop-drop used old xs ∙ ap (λ n. drop n xs) (sym e))

-- a range of the bytes from an offset to their end
pub to-the-end : (xs : List ℕ) (at from : ℕ) → at ≡ from → take (length xs - at) (drop at xs) ≡ drop from xs
to-the-end xs at from e = take_all (length xs - at) (drop at xs) (omega (arith, length-drop at xs)) ∙ ap (λ n. drop n xs) e
