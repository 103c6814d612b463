-- What fits in a head, and the counts of a spelling's members.
use Rattle.std.proofs.Common.{ℕ, suc, ◌^◌, ◌≡◌, ◌<◌, refl, ap, arith}
use Rattle.cbor_head.specs.Prelude.{Holds, Spellings, SpelledEntries, no_spellings, a_spelling, no_entries, entry, spellings_count, entries_count, values_of, entries_of}
use Rattle.cbor_head.specs.Value as value
use Rattle.cbor_head.specs.declared.width.Width.{Width, TheVariants.Eight, TheVariants.Indefinite}

pub holds_fits : (w : Width) (n : ℕ) → Holds w n → n < 2 ^ 64
holds_fits Eight n h = h
holds_fits Indefinite n h = absurd h
holds_fits _ n h = omega arith

pub values_count-of : (ss : Spellings) → value.values_count (values_of ss) ≡ spellings_count ss
values_count-of no_spellings = refl
values_count-of (a_spelling s ss) = ap suc (values_count-of ss)

pub entries_count-of : (es : SpelledEntries) → value.entries_count (entries_of es) ≡ entries_count es
entries_count-of no_entries = refl
entries_count-of (entry k v es) = ap suc (entries_count-of es)
