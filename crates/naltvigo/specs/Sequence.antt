-- What `naltvigo_next_valid_raw` promises.
use Rattle.std.specs.Prelude.{ℕ, ◌≡◌, ◌≢◌, ◌⊎◌, List}
use Rattle.cbor_head.specs.Prelude.{IsVerdict, Value, plain, refused}
use Rattle.cbor_head.specs.declared.order.KeyOrder.TheVariants.{Bytewise}
use Rattle.theory_verdicts.specs.Readers.{BeginsWithCanonical, IsRead}
use Rattle.naltvigo.specs.declared.status.TheConstants.{BAD_LIMITS, NO_MEMORY, OK, REFUSED}
use Rattle.naltvigo.specs.{Reported.ReportsMemory, Reported.ReportsOf, Settings.AreLimits, Settings.item_limits}
use Rattle.naltvigo.specs.declared.status.NaltvigoRefusal.{NaltvigoRefusal}

-- `refusal` is the content before the call, `taken` and `new_refusal` are those after it, and `status` is what it returned.
pub record HasCheckedNext (input : List ℕ) (keys depth bytes taken : ℕ) (refusal new_refusal : NaltvigoRefusal) (status : ℕ) : Type 0 where
  pub accepted : status ≡ OK → IsRead (item_limits keys depth bytes) plain input taken
  -- canonical bytes need no memory
  pub own : (v : Value) → BeginsWithCanonical (item_limits keys depth bytes) Bytewise input v → (status ≢ REFUSED) × (status ≢ NO_MEMORY)
  pub refused : status ≡ REFUSED → ReportsOf (λ f. IsVerdict (item_limits keys depth bytes) plain input (refused f)) new_refusal
  pub no_memory : status ≡ NO_MEMORY → ReportsMemory 0 new_refusal
  pub bad_limits : status ≡ BAD_LIMITS → ¬ AreLimits keys depth bytes
  pub in_range : status ≢ BAD_LIMITS → AreLimits keys depth bytes
  -- OK, REFUSED, NO_MEMORY, BAD_LIMITS
  pub statuses : (status ≡ 0) ⊎ (status ≡ 1) ⊎ (status ≡ 3) ⊎ (status ≡ 5)
  pub no_count : status ≢ OK → taken ≡ 0
  pub unreported : status ≢ REFUSED → status ≢ NO_MEMORY → new_refusal ≡ refusal
