-- What a getter returns of an item, by the kind of the item.
use Rattle.std.specs.Prelude.{ℕ, ◌==◌, if◌then◌else◌}

-- the failure before a getter: of an earlier one, or else why there is no item; 0 if there is none
abbrev pub earlier : ℕ → ℕ → ℕ
earlier status found = if status == 0 then found else status
