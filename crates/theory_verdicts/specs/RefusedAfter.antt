-- What is reported if a reader stops within the item at the start of an input.
use Rattle.std.specs.Prelude.{◌≡◌, ◌++◌, ℕ, List, length, Option, IfSome}
use Rattle.std.specs.Io.KnownBytes.{Consumes}
use Rattle.cbor_head.specs.{Prelude.Rules, Prelude.Bounds, declared.reason.Refusal.Refusal}
use Rattle.theory_verdicts.specs.{Readers.IsUnread, Refusals.IsReaderReason}

-- More bytes were read after t, and the item is refused: what the refusal says of the bytes that the reader held,
-- if they are known, and in any case.
pub record IsRefusedAfter (r : Rules) (b : Bounds) (t : List ℕ) (from to : Option (List ℕ)) (f : Refusal) : Type 0 where
  pub bytes : List ℕ
  pub consumed : Consumes from to bytes
  pub read : f.read ≡ length (t ++ bytes)
  pub reason : IsReaderReason b r f.reason
  pub unread : IfSome from (λ rest. IsUnread b r (t ++ rest) f)
