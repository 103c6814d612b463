-- What a writer accepted of the bytes of a text.
use Rattle.std.specs.Prelude.{ℕ, ◌≡◌, ◌<◌, List, length, take, Option, Result, Ok, Err}
use Rattle.std.specs.Io.KnownBytes.{Appends}
use Rattle.cbor_head.specs.declared.reason.Refusal.{Refusal}
use Rattle.cbor_item.specs.Sent.{stopped_at}
use Rattle.cbor_listing.specs.Written.{capped}

-- All of the bytes were written, and their number is returned; or only the first n.
abbrev pub Writes : Option (List ℕ) → Option (List ℕ) → List ℕ → Result ℕ Refusal → Type 0
Writes old new bytes (Ok count) = (count ≡ capped (length bytes)) × Appends old new bytes
Writes old new bytes (Err e) =
    (n : ℕ) × (e ≡ stopped_at (capped n)) × (n < length bytes) × Appends old new (take n bytes)
