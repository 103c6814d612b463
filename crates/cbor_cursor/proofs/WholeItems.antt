-- All of some bytes as one item.
use Rattle.std.proofs.Common.{◌≡◌, ℕ, List, [], ◌++◌, length, sym, ap, ◌∙◌, append-nil}
use Rattle.cbor_head.specs.Prelude.{Value, IsInRange, canonical}
use Rattle.cbor_head.specs.declared.order.KeyOrder.{KeyOrder}
use Rattle.theory_values.proofs.Reported.{reported}

-- no item that the bytes begin with is shorter than one that they are
pub no_less : (o : KeyOrder) (v w : Value) (xs rest : List ℕ) (n : ℕ) → IsInRange v → IsInRange w → canonical o w ++ rest ≡ xs → n ≡ length (canonical o w) → canonical o v ≡ xs → n ≡ length xs
no_less o v w xs rest n h g e f s =
    let t = reported o o w v g h rest [] (e ∙ sym s ∙ sym (append-nil (canonical o v))) in
    f ∙ ap length (t.bytes_are ∙ s)
