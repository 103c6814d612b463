-- What is wrong with members and pairs, by the rules.
use Rattle.std.specs.Prelude.{ℕ, List}
use Rattle.cbor_head.specs.Prelude.{Spelling, Spellings, SpelledEntries, Rules, Complaint, OfKey, ComplainsInBy, ComplainsInEntriesBy}

abbrev pub ComplainsIn : Rules → ℕ → Spellings → Complaint → Type 0
ComplainsIn r = ComplainsInBy r (OfKey r.keys)

abbrev pub ComplainsInEntries : Rules → ℕ → List Spelling → SpelledEntries → Complaint → Type 0
ComplainsInEntries r = ComplainsInEntriesBy r (OfKey r.keys)
