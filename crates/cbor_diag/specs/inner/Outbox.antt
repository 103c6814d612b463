-- What a writer accepted of the bytes that were put into an outbox.
use Rattle.std.specs.Prelude.{ℕ, ◌≡◌, ◌+◌, ◌<◌, List, ◌++◌, length, Option, Result, Ok, Err}
use Rattle.std.specs.Io.KnownBytes.{Appends}
use Rattle.cbor_listing.specs.Written.{capped}
use Rattle.cbor_diag.specs.declared.outbox.{Outbox.Outbox, Stopped.Stopped}

-- the writer accepted some of the bytes that waited and of the new ones after them, and the others wait
pub record HasPut (old new : Option (List ℕ)) (from to : Outbox) (bytes : List ℕ) : Type 0 where
  pub took : List ℕ
  pub appended : Appends old new took
  pub others : took ++ to.waiting.items ≡ from.waiting.items ++ bytes
  pub counted : (k : ℕ) → from.taken ≡ capped k → to.taken ≡ capped (k + length took)

-- the writer failed after it had accepted some of the bytes that waited and of the new ones after
-- them, but not all
pub record HasStopped (old new : Option (List ℕ)) (from : Outbox) (bytes : List ℕ) (to : Outbox) : Type 0 where
  pub took : List ℕ
  pub others : List ℕ
  pub appended : Appends old new took
  pub prefix : took ++ others ≡ from.waiting.items ++ bytes
  pub not_all : 0 < length others
  pub counted : (k : ℕ) → from.taken ≡ capped k → to.taken ≡ capped (k + length took)

-- the bytes were put, or the writer failed
abbrev pub Puts : Option (List ℕ) → Option (List ℕ) → Outbox → Outbox → List ℕ → Result (Unit {0}) Stopped → Type 0
Puts old new from to bytes (Ok x) = HasPut old new from to bytes
Puts old new from to bytes (Err e) = HasStopped old new from bytes to
