-- The verdict on an input that begins with an item.
use Rattle.std.proofs.Common.{ℕ, ◌≡◌, List, [], ◌++◌, take, refl, sym, append-nil}
use Rattle.cbor_head.specs.Prelude.{Bounds, Spelling, spell, IsItem, Complaint, accepted, IsVerdictBy}
use Rattle.theory_values.proofs.Verdicts.{whole_longest}

-- an item without complaint, whatever follows it
pub item_decides : (P : Spelling → Complaint → Type 0) (limits : Bounds) (input u : List ℕ) (s : Spelling) → IsItem limits.depth s (spell s) → take limits.bytes input ≡ spell s ++ u → ((c : Complaint) → ¬ P s c)
    → IsVerdictBy P limits input (accepted s)
item_decides P limits input u s i e none = record {
  p = spell s;
  longest = whole_longest limits.depth s (take limits.bytes input) u i e;
  item = s;
  rest = [];
  starts = record { spelled = i.spelled; within = i.within; bytes_are = sym (append-nil (spell s)) };
  decides = (refl, refl, λ c x m. none c x);
}
