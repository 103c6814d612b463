-- What a writer's fields and its buffer say of the parts that were put, and the effect of each call.
use Rattle.std.specs.Prelude.{ℕ, ◌+◌, ◌-◌, ◌^◌, ◌≡◌, ◌≢◌, ◌<◌, ◌≤◌, ◌==◌, ◌||◌, min, nat_le, if◌then◌else◌, List, [], ◌∷◌, ◌++◌, length, take, drop}
use Rattle.cbor_writer.specs.Parts.{Part, bytes_of, all_bytes}
use Rattle.cbor_writer.specs.declared.writer.Writer.{Writer}

-- the status: the first failure, if not 0; else 0 if the bytes fit the space, or 2
abbrev pub status_of : ℕ → ℕ → ℕ → ℕ
status_of failure count space = if failure == 0 then (if nat_le count space then 0 else 2) else failure

-- The writer has put these parts into this buffer, and this was the first failure (0 if there was none). As long as there is space
-- for all of them, the buffer begins with their bytes.
pub record HasPut (parts : List Part) (failure : ℕ) (buffer : List ℕ) (w : Writer) : Type 0 where
  pub count : w.needed ≡ min (length (all_bytes parts)) (2 ^ 64 - 1)
  pub begins : length (all_bytes parts) ≤ length buffer → take w.needed buffer ≡ all_bytes parts
  pub status : w.status ≡ status_of failure (length (all_bytes parts)) (length buffer)

-- Bytes are put after the first `needed` bytes. If there is space for all of them they are written there, and nothing else
-- changes; if not, nothing is written. They are counted either way.
pub record Appends (bytes old_buffer new_buffer : List ℕ) (old new : Writer) : Type 0 where
  pub count : new.needed ≡ min (old.needed + length bytes) (2 ^ 64 - 1)
  pub fits : old.needed + length bytes ≤ length old_buffer
      → (new_buffer ≡ take old.needed old_buffer ++ (bytes ++ drop (old.needed + length bytes) old_buffer)) × (new.status ≡ old.status)
  pub no_space : length old_buffer < old.needed + length bytes
      → (new_buffer ≡ old_buffer) × (new.status ≡ (if old.status == 0 then 2 else old.status))

-- a part is put: its bytes, whatever the fields are; a writer that has put some parts has then put one more
pub record Puts (part : Part) (old_buffer new_buffer : List ℕ) (old new : Writer) : Type 0 where
  pub appends : Appends (bytes_of part) old_buffer new_buffer old new
  pub parts : (ps : List Part) (failure : ℕ) → HasPut ps failure old_buffer old → HasPut (ps ++ part ∷ []) failure new_buffer new

-- a failure is recorded, unless there was one before; it replaces a lack of space
abbrev pub failed : ℕ → ℕ → ℕ
failed status failure = if (status == 0) || (status == 2) then failure else status

-- nothing is put, and the failure is recorded; a writer that has put some parts has then still put just these
pub record Fails (failure : ℕ) (old new : Writer) : Type 0 where
  pub count : new.needed ≡ old.needed
  pub status : new.status ≡ failed old.status failure
  pub parts : (ps : List Part) (first : ℕ) (buffer : List ℕ) → first ≢ 2 → HasPut ps first buffer old
      → HasPut ps (if first == 0 then failure else first) buffer new
