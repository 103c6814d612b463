use Rattle.std.proofs.Common.{◌≡◌, ◌+◌, ◌-◌, length, sym, subst, arith, length-append}
use Rattle.cbor_text.proofs.TextPrefixes.{open-more, open-then-fixed, fixed-more}
use Rattle.cbor_text.proofs.text_check.TextCheck.push.Goals as goal
use Rattle.cbor_text.specs.{inner.TextCheck.IsFixed, inner.TextCheck.IsOpen, TextCheck.HasChecked, TextCheck.TextView}

-- a failed check stays failed
pub returns-in_default-clause-checked : goal.returns-in_default-clause-checked
returns-in_default-clause-checked c = λ bytes h.
    let piece = c.args.piece.now in
    let h' = subst (λ (v : TextView). HasChecked v bytes) (sym c.self.view_is) h in
    let f : IsFixed bytes c.in_default.field-0 = rw c.in_default.is at h'.inner.is in
    record { pushed = omega (arith, h'.pushed, length-append bytes piece); inner = record { is = rw c.in_default.is (fixed-more bytes piece c.in_default.field-0 f) } }

pub returns-in-Some-clause-checked : goal.returns-in-Some-clause-checked
returns-in-Some-clause-checked c = λ bytes h.
    let piece = c.args.piece.now in
    let carried = c.self.inside.carried.items in
    let h' = subst (λ (v : TextView). HasChecked v bytes) (sym c.self.view_is) h in
    let o : IsOpen bytes carried = rw c.in-None.is at h'.inner.is in
    let k : length bytes - length carried + c.in-Some.n ≡ c.self.inside.pushed - c.len.result + c.in-Some.n = omega (arith, h'.pushed, c.len.ensures.value) in
    record { pushed = omega (arith, h'.pushed, length-append bytes piece); inner = record { is = open-then-fixed bytes carried piece c.in-Some.n _ o c.in-Some.ensures.found k } }

pub returns-in_default-go_on-clause-checked : goal.returns-in_default-go_on-clause-checked
returns-in_default-go_on-clause-checked c = λ bytes h.
    let piece = c.args.piece.now in
    let carried = c.self.inside.carried.items in
    let h' = subst (λ (v : TextView). HasChecked v bytes) (sym c.self.view_is) h in
    let o : IsOpen bytes carried = rw c.in-None.is at h'.inner.is in
    record { pushed = omega (arith, h'.pushed, length-append bytes piece); inner = record { is = rw c.in-None.is (open-more bytes carried piece _ o c.in_default-go_on.ensures.found) } }
