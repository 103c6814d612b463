-- What is reported of bytes as a whole input, and of parts of them.
use Rattle.std.specs.Prelude.{◌≡◌, ◌≢◌, ℕ, ◌++◌, List, [], length, Result, Ok, Err}
use Rattle.cbor_head.specs.Prelude.{Bounds, strict, refusal, refused, IsVerdict}
use Rattle.cbor_head.specs.declared.{order.KeyOrder.KeyOrder, reason.Reason.TheVariants.Truncated, reason.Reason.TheVariants.Memory, reason.Refusal.Refusal}
use Rattle.theory_automaton.specs.Trace.{Mark}
use Rattle.cbor_machine.specs.declared.step.Out.TheVariants as outs
use Rattle.cbor_machine.specs.declared.step.Out.{Out}
use Rattle.theory_verdicts.specs.Readers.{IsRead, IsCanonicalPrefix}
use Rattle.cbor_stream.specs.StrictMachine.{StrictMachineView, AgreesAmid, IsStrictlyRefused, limits_of}

-- their item has this number of bytes, or they are refused
abbrev pub Tells : Bounds → KeyOrder → List ℕ → Result ℕ Refusal → Type 0
Tells limits o input (Ok count) = IsRead limits (strict o) input count
Tells limits o input (Err f) = IsVerdict limits (strict o) input (refused f)

-- all bytes so far, whose item goes on: as a whole input they are cut short
abbrev pub SaysMore : StrictMachineView → List ℕ → Type 0
SaysMore v all = ((ms : List Mark) × AgreesAmid v all ms) × Tells (limits_of v) v.order all (Err (refusal Truncated (length all) (length all)))

-- their item is complete, whatever may follow, and they are its canonical bytes
abbrev pub SaysDone : StrictMachineView → List ℕ → Type 0
SaysDone v all = ((ms : List Mark) × AgreesAmid v all ms) × ((more : List ℕ) → Tells (limits_of v) v.order (all ++ more) (Ok (length all)) × IsCanonicalPrefix (limits_of v) v.order (all ++ more) (length all))

-- they are refused, whatever may follow, unless memory was
abbrev pub SaysRefused : Refusal → StrictMachineView → List ℕ → Type 0
SaysRefused f v all = ((ms : List Mark) × IsStrictlyRefused f v all ms) × (f.reason ≢ Memory → (more : List ℕ) → Tells (limits_of v) v.order (all ++ more) (Err f))

-- of all bytes so far
abbrev pub Says : Out → StrictMachineView → List ℕ → Type 0
Says outs.More v all = SaysMore v all
Says (outs.Event e) v all = ⊥
Says outs.Done v all = SaysDone v all
Says (outs.Refused f) v all = SaysRefused f v all

-- what is reported if no byte follows
abbrev pub EndsAs : Bounds → KeyOrder → List ℕ → Result ℕ Refusal → Type 0
EndsAs limits o all (Ok count) = Tells limits o all (Ok count) × IsCanonicalPrefix limits o all count
EndsAs limits o all (Err f) = f.reason ≢ Memory → Tells limits o all (Err f)

-- what is reported of a whole input, if this was reported of its first bytes, of this number
abbrev pub IsOfWhole : Out → ℕ → List ℕ → Result ℕ Refusal → Type 0
IsOfWhole outs.More n more x = more ≡ [] → x ≡ Err (refusal Truncated n n)
IsOfWhole (outs.Event e) n more x = ⊥
IsOfWhole outs.Done n more x = x ≡ Ok n
IsOfWhole (outs.Refused f) n more x = f.reason ≢ Memory → x ≡ Err f
