-- What a writer has accepted of the bytes that it was given.
use Rattle.std.specs.Prelude.{ℕ, ◌≡◌, ◌<◌, ◌⊎◌, List, length, take, Option, Result, Ok, Err}
use Rattle.std.specs.Io.KnownBytes.{Keeps, Appends}
use Rattle.cbor_head.specs.declared.reason.{Reason.TheVariants.Write, Reason.TheVariants.Memory, Refusal.Refusal}

-- memory ran out, and there is no input
abbrev pub no_memory : Refusal
no_memory = record { reason = Memory; place = 0; read = 0 }

-- the writer failed, or accepted nothing, after this number of bytes
abbrev pub stopped_at : ℕ → Refusal
stopped_at n = record { reason = Write; place = n; read = 0 }

-- All of the bytes were written, and their number is returned; or only the first n, or none if memory ran out.
abbrev pub Sends : Option (List ℕ) → Option (List ℕ) → List ℕ → Result ℕ Refusal → Type 0
Sends old new bytes (Ok n) = (n ≡ length bytes) × Appends old new bytes
Sends old new bytes (Err e) =
    ((n : ℕ) × (e ≡ stopped_at n) × (n < length bytes) × Appends old new (take n bytes)) ⊎ ((e ≡ no_memory) × Keeps old new)
