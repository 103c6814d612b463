use Rattle.std.proofs.Common.{◌∙◌, ℕ, suc, ◌-◌, ◌≡◌, sym, ap, subst, inl, arith, IfSome}
use Rattle.std.specs.Option.{is_some}
use Rattle.theory_values.specs.Parts.{close}
use Rattle.cbor_builder.specs.Built.{Built, built, IsRepeatReported}
use Rattle.cbor_reader.proofs.KeysGiven.{in-container, end-takes, ended-inner}
use Rattle.cbor_reader.proofs.key_bytes.KeyBytes.end_in_key.Goals as goal
use Rattle.cbor_reader.{specs.inner.KeyBytes.after_item, proofs.RepeatsReported.keys-repeat}

pub end_if_distinct-requires : goal.end_if_distinct-requires
end_if_distinct-requires c = record { container = in-container c.args.is_map c.args.self.now c.requires.full (inl c.requires.inside) }

pub settle-requires : goal.settle-requires
settle-requires c = λ none.
    let old = c.args.self.now in
    let some : suc (old.inside - 1) ≡ old.inside = omega (arith, c.requires.inside) in
    end-takes c.args.is_map (old.inside - 1) old (record { builder = c.end_if_distinct.new.self; inside = old.inside - 1 }) c.requires.full (c.in_ok-repeat.ensures.ended (ap is_some c.in_default.is)) some none

pub returns-in-Some-clause-repeats : goal.returns-in-Some-clause-repeats
returns-in-Some-clause-repeats c =
    let old = c.args.self.now in
    keys-repeat old c.in-Some.repeat (subst (λ reported. IfSome reported (λ repeat. IsRepeatReported old.builder.open_levels repeat.outside repeat.pair)) c.in-Some.is c.in_ok-repeat.ensures.reported) (λ x. cc (sym (c.in_ok-repeat.ensures.distinct.1 x) ∙ ap is_some c.in-Some.is)) c.args.is_map (inl c.requires.inside)

pub returns-clause-ends : goal.returns-clause-ends
returns-clause-ends c = λ yes.
    let old = c.args.self.now in
    let stays = c.in_ok-settle.ensures.inside in
    let some : suc c.settle.new.self.inside ≡ old.inside = omega (arith, c.requires.inside, stays) in
    let none = ap is_some c.in_default.is in
    ended-inner c.args.is_map old c.settle.new.self some (c.in_ok-repeat.ensures.distinct.0 none)
    (c.in_ok-settle.ensures.builder (ap (λ (x : Built). x.refused) (c.in_ok-repeat.ensures.ended none)) ∙ ap (λ (x : Built). built x.order (after_item (old.inside - 1) x.open_levels)) (c.in_ok-repeat.ensures.ended none)
    ∙ ap (λ (n : ℕ). built old.builder.order (after_item n (close old.builder.order old.builder.open_levels))) (sym stays))
