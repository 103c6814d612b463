-- The pointer of a handle, of which C may read whether it is null.
use Rattle.std.specs.Prelude.{◌≡◌}
use denote.RawPtr.{null_ptr}
use Rattle.cbor_checker.specs.declared.checker.Checker.{Checker}

-- it is null
abbrev pub IsNull : Checker → Type 0
IsNull handle = handle.memory ≡ null_ptr
