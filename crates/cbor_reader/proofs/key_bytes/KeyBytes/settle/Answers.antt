use Rattle.std.proofs.Common.{◌≡◌, ℕ, zero, suc, List, refl}
use Rattle.theory_values.specs.Parts.{Open}
use Rattle.cbor_reader.proofs.key_bytes.KeyBytes.settle.Goals as goal
use Rattle.cbor_reader.specs.inner.KeyBytes.{after_item}

-- nothing is given within a key
unchanged : (n : ℕ) (os : List Open) → (n ≡ 0 → ⊥) → os ≡ after_item n os
unchanged zero os some = absurd (some refl)
unchanged (suc n) os some = refl

pub returns-else-self-eq0-clause-builder : goal.returns-else-self-eq0-clause-builder
returns-else-self-eq0-clause-builder c = λ none.
    let b = c.args.self.now.builder in
    let same = unchanged c.args.self.now.inside b.open_levels c.if-self-eq0.false in
    λ i. record { order = b.order; open_levels = same i; refused = none i }
