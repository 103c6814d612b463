-- What `naltvigo_check_valid_raw` promises; why an input is not one item in its canonical bytes.
use Rattle.std.specs.Prelude.{ℕ, ◌≡◌, ◌≢◌, ◌⊎◌, ◌<◌, List, length}
use Rattle.cbor_head.specs.Prelude.{Bounds, Value, plain}
use Rattle.cbor_head.specs.declared.order.KeyOrder.{KeyOrder, TheVariants.Bytewise}
use Rattle.theory_verdicts.specs.Readers.{BeginsWithCanonical, HasNoCanonicalPrefix, IsCanonicalPrefix}
use Rattle.cbor_reader.specs.{Canonicalise.IsCanonicalOf, WholeItem.IsItemRefusal, WholeItem.IsWholeItem}
use Rattle.naltvigo.specs.declared.status.TheConstants.{BAD_LIMITS, NO_MEMORY, OK, REFUSED}
use Rattle.naltvigo.specs.{Reported.ReportsMemory, Reported.ReportsOf, Settings.AreLimits, Settings.item_limits}
use Rattle.naltvigo.specs.declared.status.NaltvigoRefusal.{NaltvigoRefusal}

-- `refusal` is the content before the call, `new_refusal` that after it, and `status` is what it returned.
pub record HasCheckedValid (input : List ℕ) (keys depth bytes : ℕ) (refusal new_refusal : NaltvigoRefusal) (status : ℕ) : Type 0 where
  pub accepted : status ≡ OK → IsWholeItem (item_limits keys depth bytes) input
  -- canonical input needs no memory, nor does input that begins with canonical bytes
  pub own : IsCanonicalOf (item_limits keys depth bytes) Bytewise input input → (status ≢ REFUSED) × (status ≢ NO_MEMORY)
  pub prefix : (v : Value) → BeginsWithCanonical (item_limits keys depth bytes) Bytewise input v → status ≢ NO_MEMORY
  pub refused : status ≡ REFUSED → ReportsOf (IsItemRefusal (item_limits keys depth bytes) plain input) new_refusal
  pub not_accepted : status ≡ REFUSED → ¬ IsWholeItem (item_limits keys depth bytes) input
  pub no_memory : status ≡ NO_MEMORY → ReportsMemory 0 new_refusal
  pub bad_limits : status ≡ BAD_LIMITS → ¬ AreLimits keys depth bytes
  pub in_range : status ≢ BAD_LIMITS → AreLimits keys depth bytes
  -- OK, REFUSED, NO_MEMORY, BAD_LIMITS
  pub statuses : (status ≡ 0) ⊎ (status ≡ 1) ⊎ (status ≡ 3) ⊎ (status ≡ 5)
  pub unreported : status ≢ REFUSED → status ≢ NO_MEMORY → new_refusal ≡ refusal

-- the input begins with the canonical bytes of no valid value; or with some, which end here, and a byte follows them
abbrev pub HasNoWholePrefix : Bounds → KeyOrder → List ℕ → ℕ → Type 0
HasNoWholePrefix limits o input end = HasNoCanonicalPrefix limits o input ⊎ (IsCanonicalPrefix limits o input end × (end < length input))
