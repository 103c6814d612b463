-- What is expected in an open container.
use Rattle.std.specs.Prelude.{Bool, true, false}
use Rattle.cbor_parser.specs.declared.container.Expected.{Expected, TheVariants.Item, TheVariants.Key}

-- a key is expected
abbrev pub awaits : Expected → Bool
awaits Key = true
awaits _ = false

-- a key, or its value
abbrev pub pairs : Expected → Bool
pairs Item = false
pairs _ = true
