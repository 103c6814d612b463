-- Reading finds the item that bytes begin with, and nothing if there is none.
use Rattle.std.proofs.Common.{ℕ, ◌≡◌, ◌↔◌, List, Option, Some, None, refl, ◌∙◌, sym, ap}
use Rattle.cbor_head.specs.{Laws.IsAtStart, Read.read, Prelude.Spelling, Prelude.AreBytes}
use Rattle.theory_values.proofs.{ReadBack.read_fits, ReadBack.by_place, ReadLaws.reads}

found : (d : ℕ) (b : List ℕ) (s : Spelling) (rest : List ℕ) → IsAtStart d b s rest → read d b ≡ Some (s, rest)
found d b s rest h = ap (read d) (sym h.2) ∙ reads s h.0 d h.1 rest

only : (d : ℕ) (b : List ℕ) (s : Spelling) (rest : List ℕ) → AreBytes b → read d b ≡ Some (s, rest) → IsAtStart d b s rest
only d b s rest small e = let f = read_fits d b (s, rest) (by_place b small) e in (f.spelled, f.within, f.bytes_are)

pub reads_exactly : (d : ℕ) (b : List ℕ) (s : Spelling) (rest : List ℕ) → AreBytes b → read d b ≡ Some (s, rest) ↔ IsAtStart d b s rest
reads_exactly d b s rest small = (only d b s rest small, found d b s rest)

none_from : (d : ℕ) (b : List ℕ) → AreBytes b → (o : Option (Spelling × List ℕ)) → read d b ≡ o → ((s : Spelling) (rest : List ℕ) → ¬ IsAtStart d b s rest) → o ≡ None
none_from d b small None e h = refl
none_from d b small (Some r) e h = absurd (h r.0 r.1 (only d b r.0 r.1 small e))

pub reads_none : (d : ℕ) (b : List ℕ) → AreBytes b → read d b ≡ None ↔ ((s : Spelling) (rest : List ℕ) → ¬ IsAtStart d b s rest)
reads_none d b small = (λ e s rest h. cc (e, found d b s rest h), none_from d b small (read d b) refl)
