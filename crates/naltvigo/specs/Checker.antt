-- What the strict check of an item whose bytes come in parts reports, as C has it.
use Rattle.std.specs.Prelude.{ℕ, ◌≡◌, ◌≢◌, ◌⊎◌, ◌↔◌, ◌<◌, ◌≤◌, ◌+◌, ◌++◌, List, [], length, Option, Some, None, IfSome, IsTrue, false}
use Rattle.cbor_head.specs.{Prelude.refusal, declared.reason.Reason.TheVariants.Memory, declared.reason.Reason.TheVariants.Truncated}
use Rattle.cbor_head.specs.declared.reason.Refusal.{Refusal}
use Rattle.theory_automaton.specs.Trace.{Mark}
use Rattle.cbor_machine.specs.declared.step.Out.TheVariants as outs
use Rattle.cbor_machine.specs.{Machine.IfRefused, Machine.IsComplete, declared.step.Out.Out}
use Rattle.cbor_stream.specs.StrictMachine.{StrictMachineView, AgreesAmid, limits_of}
use Rattle.cbor_stream.specs.Said.{Says}
use Rattle.cbor_checker.specs.{Pointer.IsNull, declared.checker.Checker.Checker}
use Rattle.naltvigo.specs.Settings.{AreLimits, item_limits, key_order}
use Rattle.naltvigo.specs.declared.status.TheConstants.{BAD_LIMITS, BAD_ORDER, OK}
use Rattle.naltvigo.specs.{Reported.IsReported, declared.status.NaltvigoRefusal.NaltvigoRefusal}

-- a refusal: 1 of the input, 3 of memory
abbrev pub IsReportedRefusal : Refusal → ℕ → NaltvigoRefusal → Type 0
IsReportedRefusal f status r = IsReported f r × (((status ≡ 1) × (f.reason ≢ Memory)) ⊎ ((status ≡ 3) × (f.reason ≡ Memory)))

-- what is reported of a part: 0 the item is complete, 8 more bytes are expected. (An event is never said.)
abbrev pub IsReportedPart : Out → ℕ → NaltvigoRefusal → Type 0
IsReportedPart outs.Done status r = status ≡ 0
IsReportedPart (outs.Refused f) status r = IsReportedRefusal f status r
IsReportedPart out status r = status ≡ 8

-- What is reported where the bytes end, after this number of them: the same, but an item that is not complete is refused.
abbrev pub IsReportedAtEnd : ℕ → Out → ℕ → NaltvigoRefusal → Type 0
IsReportedAtEnd taken outs.Done status r = status ≡ 0
IsReportedAtEnd taken (outs.Refused f) status r = IsReportedRefusal f status r
IsReportedAtEnd taken out status r = (status ≡ 1) × IsReported (refusal Truncated taken taken) r

-- The handle holds a machine before an item's first byte, with this order and these limits.
pub record IsNew (held : Option StrictMachineView) (order keys depth bytes : ℕ) : Type 0 where
  pub machine : StrictMachineView
  pub holds : held ≡ Some machine
  pub agrees : AgreesAmid machine [] []
  pub limits : limits_of machine ≡ item_limits keys depth bytes
  pub order_is : machine.order ≡ key_order order
  -- no request for memory was refused
  pub memory : machine.refused ≡ false

-- What `naltvigo_checker_new_raw` promises: `handle` is the handle before the call, `new_handle` that after it, and `status` is what it returned.
pub record HasMade (order keys depth bytes : ℕ) (handle new_handle : Checker) (status : ℕ) : Type 0 where
  pub new : status ≡ OK → IsNew new_handle.held order keys depth bytes
  pub not_null : status ≡ OK → ¬ IsNull new_handle
  pub bad_order : (status ≡ BAD_ORDER) ↔ (1 < order)
  pub bad_limits : status ≡ BAD_LIMITS → ¬ AreLimits keys depth bytes
  pub in_range : status ≢ BAD_ORDER → status ≢ BAD_LIMITS → (order ≤ 1) × AreLimits keys depth bytes
  -- OK, NO_MEMORY, BAD_ORDER, BAD_LIMITS
  pub statuses : (status ≡ 0) ⊎ (status ≡ 3) ⊎ (status ≡ 4) ⊎ (status ≡ 5)
  pub kept : status ≢ OK → new_handle ≡ handle

-- A machine that goes on with another item, within its limits.
pub record HasRestarted (old new : Option StrictMachineView) (order : ℕ) : Type 0 where
  pub was : StrictMachineView
  pub held : old ≡ Some was
  pub now : StrictMachineView
  pub holds : new ≡ Some now
  pub agrees : AgreesAmid now [] []
  pub limits : limits_of now ≡ limits_of was
  pub order_is : now.order ≡ key_order order
  -- no request for memory was refused for this item
  pub memory : now.refused ≡ false

-- The machine used these bytes. What is said of all bytes so far, for all that it represented before, is reported. It keeps a
-- refusal, and then uses nothing and says the same.
pub record HasChecked (old new : Option StrictMachineView) (bs : List ℕ) (reported : Out → StrictMachineView → Type 0) : Type 0 where
  pub was : StrictMachineView
  pub held : old ≡ Some was
  pub now : StrictMachineView
  pub holds : new ≡ Some now
  pub out : Out
  pub reports : reported out now
  pub says : (t : List ℕ) (ms : List Mark) → AgreesAmid was t ms → Says out now (t ++ bs)
  pub limits : limits_of now ≡ limits_of was
  pub order : now.order ≡ was.order
  pub taken : now.machine.taken ≡ was.machine.taken + length bs
  pub refused : IfRefused out (λ f. now.refusal ≡ Some f)
  -- memory is the reason only if a request for memory was refused for the item
  pub memory : IfRefused out (λ f. f.reason ≡ Memory → IsTrue now.refused)
  pub complete : IsComplete was.machine → was.refusal ≡ None → (out ≡ outs.Done) × (bs ≡ [])
  pub again : IfSome was.refusal (λ f. (out ≡ outs.Refused f) × (bs ≡ []) × (now ≡ was))
