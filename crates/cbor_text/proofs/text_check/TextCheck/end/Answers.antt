use Rattle.std.proofs.Common.{◌≡◌, ◌-◌, ◌<◌, length, sym, subst, arith}
use Rattle.std.proofs.lemmas.Bool.Decides.{nat_tests}
use Rattle.cbor_text.proofs.TextPrefixes.{returned, fixed-now, open-short}
use Rattle.cbor_text.proofs.text_check.TextCheck.end.Goals as goal
use Rattle.cbor_text.specs.{inner.TextCheck.IsFixed, inner.TextCheck.IsOpen, TextCheck.HasChecked, TextCheck.TextView}

pub returns-in-Some : goal.returns-in-Some
returns-in-Some c = λ bytes h.
    let h' = subst (λ (v : TextView). HasChecked v bytes) (sym c.self.view_is) h in
    let f : IsFixed bytes c.in-Some.n = rw c.in-Some.is at h'.inner.is in
    returned bytes c.in-Some.n (fixed-now bytes c.in-Some.n f)

pub returns-in-None-2 : goal.returns-in-None-2
returns-in-None-2 c = λ bytes h.
    let h' = subst (λ (v : TextView). HasChecked v bytes) (sym c.self.view_is) h in
    let o : IsOpen bytes c.self.inside.carried.items = rw c.in-None.is at h'.inner.is in
    let some : 0 < length c.self.inside.carried.items = grind (arith, nat_tests) in
    let size : length bytes - length c.self.inside.carried.items ≡ c.self.inside.pushed - c.len.result = omega (arith, h'.pushed, c.len.ensures.value) in
    returned bytes _ (open-short bytes c.self.inside.carried.items _ o some size)
