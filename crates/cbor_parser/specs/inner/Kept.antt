-- What a walk has established about the kinds of keys.
use Rattle.std.specs.Prelude.{ℕ, ◌≡◌, List, ◌++◌}
use Rattle.cbor_head.specs.Prelude.{plain, bounds, with_keys}
use Rattle.cbor_head.specs.declared.keys.Keys.{Keys}
use Rattle.theory_verdicts.specs.Kinds.{KeepsToKinds}

-- no key of another kind begins before the rest of an input; the byte limit plays no part
abbrev pub KeepsBefore : ℕ → Keys → List ℕ → List ℕ → Type 0
KeepsBefore d keys input rest = (t : List ℕ) → input ≡ t ++ rest → KeepsToKinds (with_keys (bounds d 0) keys) plain t
