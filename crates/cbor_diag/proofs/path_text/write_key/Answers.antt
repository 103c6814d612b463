use Rattle.std.proofs.Common.{◌≡◌, ◌∙◌, rules, sym}
use Rattle.std.proofs.lemmas.Result.{on_ok_weaker}
use Rattle.cbor_diag.proofs.path_text.write_key.Goals as goal
use Rattle.cbor_diag.proofs.PathKeys.{hidden_key, short_key, unread_key}
use Rattle.cbor_diag.{specs.ItemPath.IsKeyText, proofs.PathSteps.just}

pub returns-then-has_hidden : goal.returns-then-has_hidden
returns-then-has_hidden g c =
    let limits = rw c.unwrap-short.ensures at c.new.ensures.value in
    let same : c.as_slice-bytes.result.now ≡ c.in_ok-text-in-Ok.text.items = search rules in
    let key = hidden_key c.args.item.now c.args.place c.min-start.result _ c.min-start.ensures limits _ _ c.as_slice-bytes.result.now c.in-Ok.ensures.accepted
    (same ∙ c.in_ok-text-in-Ok.ensures) (sym c.if-has_hidden.ensures) in
    on_ok_weaker c.write.result (just (IsKeyText c.args.item.now c.args.place) _ _ _ key) c.write.ensures.bytes

pub returns-in_ok-write_all-in-Ok : goal.returns-in_ok-write_all-in-Ok
returns-in_ok-write_all-in-Ok g c =
    let limits = rw c.unwrap-short.ensures at c.new.ensures.value in
    let same : c.as_slice-bytes.result.now ≡ c.in_ok-text-in-Ok.text.items = search rules in
    on_ok_weaker c.write_all-in-Ok.result
    (short_key c.args.item.now c.args.place c.min-start.result _ c.min-start.ensures limits _ _ c.as_slice-bytes.result.now _ _ _ c.in-Ok.ensures.accepted
    (same ∙ c.in_ok-text-in-Ok.ensures) (sym c.if-has_hidden.ensures) c.in_ok-write_all-in-Ok.ensures.bytes)
    c.write_all-in-Ok.ensures.bytes

pub returns-in_default : goal.returns-in_default
returns-in_default g c =
    let limits = rw c.unwrap-short.ensures at c.new.ensures.value in
    let key = unread_key c.args.item.now c.args.place c.min-start.result _ c.min-start.ensures limits _ c.in-Err.ensures.refused c.in_default.not-Memory in
    on_ok_weaker c.write-in_default.result (just (IsKeyText c.args.item.now c.args.place) _ _ _ key) c.write-in_default.ensures.bytes
