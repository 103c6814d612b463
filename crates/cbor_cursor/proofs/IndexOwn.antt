-- An item in its canonical bytes has only definite lengths, and so have all items in it, each in its canonical bytes.
use Rattle.std.proofs.Common.{◌≡◌, ℕ, List, sym, ◌∙◌, subst}
use Rattle.cbor_head.specs.Prelude.{Spelling, value_of, IsValid}
use Rattle.cbor_head.specs.declared.order.KeyOrder.{KeyOrder}
use Rattle.theory_values.proofs.Normal.{normal, spell-normal, IsSpelled-normal}
use Rattle.theory_values.proofs.ReadLaws.{one_list}
use Rattle.cbor_cursor.{specs.Index.IsCanonicalItem, specs.inner.Definite.IsDefinite, proofs.Definite.definite}
use Rattle.cbor_cursor.proofs.IndexEntries.{AllOwn, all_own}

normal_is : (o : KeyOrder) (s : Spelling) (bytes : List ℕ) → IsCanonicalItem o s bytes → normal o (value_of s) ≡ s
normal_is o s bytes c = one_list (normal o (value_of s)) s (IsSpelled-normal o (value_of s) c.range) c.spelled (spell-normal o (value_of s) ∙ sym c.canonical_bytes ∙ c.bytes_are)

pub definite_own : (o : KeyOrder) (s : Spelling) (bytes : List ℕ) → IsCanonicalItem o s bytes → IsDefinite s
definite_own o s bytes c = subst IsDefinite (normal_is o s bytes c) (definite o (value_of s) c.range)

pub all_parts_own : (o : KeyOrder) (s : Spelling) (bytes : List ℕ) → IsCanonicalItem o s bytes → IsValid (value_of s) → AllOwn o s
all_parts_own o s bytes c v = subst (AllOwn o) (normal_is o s bytes c) (all_own o (value_of s) c.range v)
