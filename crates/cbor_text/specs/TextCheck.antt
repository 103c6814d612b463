-- The bytes that a check of text was given (RFC 8949, section 3.1).
use Rattle.std.specs.Prelude.{◌≡◌, ℕ, List, length}
use Rattle.cbor_text.specs.inner.TextCheck.{Found, IsFound}

-- what contracts see of a check: the number of bytes pushed, and what is carried from one piece to
-- the next, which no public clause opens
pub record TextView : Type 0 where
  pub pushed : ℕ
  pub inner : Found

-- The check was given these bytes, cut in any way. They are a parameter and not a history, since
-- nothing stores them.
pub record HasChecked (check : TextView) (bytes : List ℕ) : Type 0 where
  pub pushed : check.pushed ≡ length bytes
  -- the inner state is the one after these bytes
  pub inner : IsFound check.inner bytes
