-- A refusal as C has it.
use Rattle.std.specs.Prelude.{ℕ, ◌≡◌, ◌≢◌}
use Rattle.cbor_head.specs.{Prelude.reason_number, Prelude.refusal, declared.reason.Reason.TheVariants.Memory, declared.reason.Refusal.Refusal}
use Rattle.naltvigo.specs.declared.status.NaltvigoRefusal.{NaltvigoRefusal}

-- by the number of its reason
abbrev pub IsReported : Refusal → NaltvigoRefusal → Type 0
IsReported f c = (c.reason ≡ reason_number f.reason) × (c.offset ≡ f.place) × (c.consumed ≡ f.read)

-- this is reported of a refusal of which P holds, and whose reason is not refused memory
pub record ReportsOf (P : Refusal → Type 0) (c : NaltvigoRefusal) : Type 0 where
  pub why : Refusal
  pub holds : P why
  pub not_memory : why.reason ≢ Memory
  pub reported : IsReported why c

-- this is reported of refused memory, with this number of bytes as offset and consumed
abbrev pub ReportsMemory : ℕ → NaltvigoRefusal → Type 0
ReportsMemory count c = IsReported (refusal Memory count count) c
