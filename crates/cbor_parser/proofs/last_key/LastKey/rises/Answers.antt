use Rattle.std.proofs.Common.{◌≡◌, nat_lt, sym, subst, arith}
use Rattle.cbor_head.specs.Prelude.{key_lt}
use Rattle.theory_values.proofs.KeyByteLists.{are_bytes, bytes_slice}
use Rattle.cbor_parser.proofs.last_key.LastKey.rises.Goals as goal
use Rattle.cbor_parser.{specs.inner.Cells.last_key, specs.inner.Cells.key_at, proofs.KeyOrder.by_prefix}

pub returns-then-self-prefix : goal.returns-then-self-prefix
returns-then-self-prefix c = λ f.
    let input = c.args.input.now in
    let self = c.args.self.now in
    let all = are_bytes input (λ i. omega (arith, c.type_inv.input i)) in
    let last = last_key input self in
    let key = key_at input self c.args.at in
    subst (λ o. nat_lt self.prefix c.args.prefix ≡ key_lt o last key) (sym c.in-Bytewise.is)
    (by_prefix self.prefix c.args.prefix last key (bytes_slice input self.last self.last_end all) (bytes_slice input self.key c.args.at all) f c.requires c.if-self-prefix.true)
