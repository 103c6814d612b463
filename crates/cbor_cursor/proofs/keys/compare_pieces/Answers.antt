use Rattle.std.proofs.Common.{List, ℕ, length, drop, sym, ap, ◌∙◌}
use Rattle.std.specs.{Ordering.nat_cmp, Ordering.ordering_then, declared.cmp.Ordering.Ordering, Cmp.Lexicographic.slice_cmp}
use Rattle.cbor_cursor.proofs.keys.compare_pieces.Goals as goal
use Rattle.cbor_cursor.proofs.LaterKeys.{cmp_pieces, then_decided}

pub returns-in-Equal : goal.returns-in-Equal
returns-in-Equal c =
    let xs = c.args.stored.now in
    let hs = c.args.head.now in
    let ps = c.args.payload.now in
    let start = c.in-Equal.ensures ∙ ap (λ (l : List ℕ). slice_cmp nat_cmp l hs) c.split_at.ensures.front in
    c.compare-in-Equal.ensures ∙ ap (λ (l : List ℕ). slice_cmp nat_cmp l ps) c.split_at.ensures.back
    ∙ ap (λ (r : Ordering). ordering_then r (slice_cmp nat_cmp (drop (length hs) xs) ps)) start
    ∙ sym (cmp_pieces xs hs ps c.requires)

pub returns-in_default : goal.returns-in_default
returns-in_default c =
    let xs = c.args.stored.now in
    let hs = c.args.head.now in
    let ps = c.args.payload.now in
    then_decided c.compare.result (slice_cmp nat_cmp (drop (length hs) xs) ps) c.in_default.not-Equal
    ∙ ap (λ (r : Ordering). ordering_then r (slice_cmp nat_cmp (drop (length hs) xs) ps)) (c.compare.ensures ∙ ap (λ (l : List ℕ). slice_cmp nat_cmp l hs) c.split_at.ensures.front)
    ∙ sym (cmp_pieces xs hs ps c.requires)
