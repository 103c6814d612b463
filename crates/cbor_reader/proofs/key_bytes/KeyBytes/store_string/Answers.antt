use Rattle.std.proofs.Common.{◌≡◌, ◌∙◌, ◌++◌, ℕ, false, take, sym, ap, subst, length-take-le}
use Rattle.std.proofs.lemmas.Result.{on_ok_weaker}
use Rattle.cbor_head.specs.{Prelude.shortest_head, declared.major.Major.Major}
use Rattle.theory_values.specs.Parts.{give}
use Rattle.cbor_builder.specs.Built.{Built, built, TakesPart}
use Rattle.theory_verdicts.specs.Reading.{string_major}
use Rattle.cbor_reader.proofs.key_bytes.KeyBytes.store_string.Goals as goal
use Rattle.cbor_reader.{proofs.key_bytes.KeyBytes.store_string.Goals.In_ok-prefix_string, specs.inner.KeyBytes.after_item, specs.inner.KeyBytes.string_bytes}

stored : (c : In_ok-prefix_string) → c.prefix_string.new.self ≡ built c.args.self.now.builder.order (give (string_bytes c.args.is_text (take c.args.count c.args.prefix.now)) c.args.self.now.builder.open_levels)
stored c =
    let old = c.args.self.now.builder in
    let content = take c.args.count c.args.prefix.now in
    c.in_ok-prefix_string.ensures.given
    ∙ ap (λ (m : Major). built old.order (give (shortest_head m c.args.count ++ content) old.open_levels)) c.string_type.ensures
    ∙ ap (λ (n : ℕ). built old.order (give (shortest_head (string_major c.args.is_text) n ++ content) old.open_levels)) (sym (length-take-le c.args.count c.args.prefix.now c.requires.within))

pub settle-requires : goal.settle-requires
settle-requires c = λ none. subst TakesPart (sym (ap (λ (x : Built). x.open_levels) (stored (goal.at.settle-requires c).In_ok-prefix_string))) (c.requires.key none)

pub returns-clause-builder : goal.returns-clause-builder
returns-clause-builder c =
    let given = stored (goal.at.returns-clause-builder c).In_ok-prefix_string in
    let mid = c.prefix_string.new.self in
    let after = after_item c.args.self.now.inside in
    on_ok_weaker _ (λ (settled : mid.refused ≡ false → c.settle.new.self.builder ≡ built mid.order (after mid.open_levels)). settled (ap (λ (x : Built). x.refused) given) ∙ ap (λ (x : Built). built x.order (after x.open_levels)) given)
    c.settle.ensures.builder
