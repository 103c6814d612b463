-- What `naltvigo_canonicalise_raw` promises.
use Rattle.std.specs.Prelude.{ℕ, ◌≡◌, ◌≢◌, ◌↔◌, ◌<◌, ◌≤◌, List, length, take, drop}
use Rattle.cbor_head.specs.Prelude.{Spelling, canonical, value_of}
use Rattle.cbor_reader.specs.Canonicalise.{DeterminesItsValue, IsCanonicalOf, IsCanonicaliserReason, IsRefusal}
use Rattle.cbor_reader.specs.Headline.{IsValidItem}
use Rattle.naltvigo.specs.Settings.{AreLimits, item_limits, key_order}
use Rattle.naltvigo.specs.declared.status.TheConstants.{BAD_LIMITS, BAD_ORDER, NO_MEMORY, OK, REFUSED, TOO_SMALL}
use Rattle.naltvigo.specs.{Reported.ReportsMemory, Reported.ReportsOf, declared.status.NaltvigoRefusal.NaltvigoRefusal}

-- `out` and `refusal` are the contents before the call, `new_out`, `needed` and `new_refusal` those after it, and `status` is what it returned.
pub record HasCanonicalised (input : List ℕ) (order keys depth bytes : ℕ) (out new_out : List ℕ) (needed : ℕ) (refusal new_refusal : NaltvigoRefusal) (status : ℕ) : Type 0 where
  pub written : status ≡ OK → IsCanonicalOf (item_limits keys depth bytes) (key_order order) input (take needed new_out)
  pub accepted : status ≡ OK → (s : Spelling) × IsValidItem (item_limits keys depth bytes) input s × (take needed new_out ≡ canonical (key_order order) (value_of s)) × (needed ≤ bytes)
  pub equal : status ≡ OK → DeterminesItsValue depth (key_order order) input (take needed new_out)
  -- canonical input needs no memory
  pub own : IsCanonicalOf (item_limits keys depth bytes) (key_order order) input input → (status ≢ REFUSED) × (status ≢ NO_MEMORY)
  pub again : status ≡ OK → IsCanonicalOf (item_limits keys depth bytes) (key_order order) (take needed new_out) (take needed new_out)
  pub space : status ≡ OK → needed ≤ length out
  pub too_small : status ≡ TOO_SMALL → (x : List ℕ) × IsCanonicalOf (item_limits keys depth bytes) (key_order order) input x × (needed ≡ length x) × (length out < length x)
  pub refused : status ≡ REFUSED → ReportsOf (IsRefusal (item_limits keys depth bytes) (key_order order) input) new_refusal
  pub reason : status ≡ REFUSED → ReportsOf (λ f. IsCanonicaliserReason (item_limits keys depth bytes) f.reason) new_refusal
  pub none : status ≡ REFUSED → (s : Spelling) → IsValidItem (item_limits keys depth bytes) input s → bytes < length (canonical (key_order order) (value_of s))
  pub no_memory : status ≡ NO_MEMORY → ReportsMemory 0 new_refusal
  pub bad_order : (status ≡ BAD_ORDER) ↔ (1 < order)
  pub bad_limits : status ≡ BAD_LIMITS → ¬ AreLimits keys depth bytes
  pub in_range : status ≢ BAD_ORDER → status ≢ BAD_LIMITS → (order ≤ 1) × AreLimits keys depth bytes
  -- OK, REFUSED, TOO_SMALL, NO_MEMORY, BAD_ORDER, BAD_LIMITS
  pub statuses : status ≤ 5
  pub kept : (status ≢ OK → new_out ≡ out) × (drop needed new_out ≡ drop needed out)
  pub no_count : status ≢ OK → status ≢ TOO_SMALL → needed ≡ 0
  pub unreported : status ≢ REFUSED → status ≢ NO_MEMORY → new_refusal ≡ refusal
