use Rattle.std.proofs.Common.{ℕ, ◌+◌, List, ◌++◌, length, flat_map, ◌∙◌, ap, subst}
use Rattle.cbor_head.specs.{Canonical.canonical, Value.Value, Value.map}
use Rattle.theory_values.{specs.Pairs.pair_bytes, proofs.Sound.sound}
use Rattle.cbor_cursor.proofs.lookup.find_item.Goals as goal
use Rattle.cbor_cursor.proofs.PairsLeft.{found_key, no_key, value_offset}
use Rattle.cbor_cursor.{proofs.OneItem.well_formed_at, specs.Offsets.IsItemAt, specs.Offsets.HasNoKeyBytes, proofs.Slices.each_case, proofs.Slices.some_with}

pub returns-in_err-value-clause-pair : goal.returns-in_err-value-clause-pair
returns-in_err-value-clause-pair c = λ o es rest k a h g e.
    rw c.from_residual.ensures (no_key o es k (sound (map es) a.range a.valid) h g (subst (HasNoKeyBytes o es) e (c.in_err-value.ensures.pair o es rest a)))

pub returns-clause-pair : goal.returns-clause-pair
returns-clause-pair c = λ o es rest k a h g e.
    let f = c.in_ok-value.ensures.pair o es rest a in
    each_case c.item_at.result absurd (λ i at. found_key o es k f.stored f.value (λ (v : Value). (after : List ℕ) × IsItemAt o c.args.bytes.now v after i) (sound (map es) a.range a.valid) h f.has (f.key_is ∙ e) (_, at)) (c.item_at.ensures.item o f.value _ f.begins)

pub returns-in_err-value-clause-any_key : goal.returns-in_err-value-clause-any_key
returns-in_err-value-clause-any_key c = λ o es rest a. rw c.from_residual.ensures (c.in_err-value.ensures.pair o es rest a)

pub returns-clause-any_key : goal.returns-clause-any_key
returns-clause-any_key c = λ o es rest a.
    let f = c.in_ok-value.ensures.pair o es rest a in
    let p = value_offset _ f.before f.after (canonical o f.stored) (canonical o f.value) c.args.bytes.now rest c.args.offset c.in_ok-value.value c.requires c.in_ok-value.ensures.within a.bytes_are f.pairs_are f.begins.begins in
    some_with (HasNoKeyBytes o es (c.args.head.now ++ c.args.payload.now)) c.item_at.result
    (λ i at there. record { stored = f.stored; value = f.value; has = f.has; key_is = f.key_is; before = f.before; after = f.after; pairs_are = f.pairs_are; offset_is = there ∙ p ∙ ap (λ (k : List ℕ). c.args.offset + length (flat_map pair_bytes f.before) + length k) f.key_is; item = at })
    (c.item_at.ensures.item o f.value _ f.begins) c.item_at.ensures.offset

pub returns-clause-well_formed : goal.returns-clause-well_formed
returns-clause-well_formed c = well_formed_at c.args.bytes.now c.in_ok-value.value c.item_at.result c.item_at.ensures.well_formed c.item_at.ensures.offset
