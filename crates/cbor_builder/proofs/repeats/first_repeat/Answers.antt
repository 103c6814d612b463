use Rattle.std.proofs.Common.{ℕ, Option, map, sym, subst, arith, MatchOption, ◌==◌}
use Rattle.std.proofs.lemmas.List.Sums.{count_by-le-length}
use Rattle.theory_values.proofs.KeyByteLists.{are_bytes}
use Rattle.cbor_builder.proofs.FirstRepeat.{bit_most, none_reported, one_reported, placed}
use Rattle.cbor_builder.proofs.repeats.first_repeat.Goals as goal
use Rattle.cbor_builder.specs.{Built.AreAllDifferent, Built.IsFirstRepeat, inner.Prefix.key_of, inner.Repeats.lies_before}
use Rattle.cbor_builder.proofs.{Ranks.all_permuted, Ranks.sorted_keys, Ties.grouped}

pub first_tie-requires : goal.first_tie-requires
first_tie-requires c =
    let of = c.requires.1 in
    let bytes = c.args.bytes.now in
    let ys = c.sort_by_keys.new.spans in
    let e = c.sort_by_keys.ensures in
    let sound = all_permuted _ c.args.spans.now ys e.permuted (all_permuted _ c.requires.0 c.args.spans.now of.5 of.4) in
    record {
      prefixed = sound;
      placed = placed bytes c.requires.0 c.args.spans.now ys (omega arith) of e.permuted;
      grouped = grouped c.args.order bytes ys (sorted_keys c.args.order bytes ys (are_bytes bytes (λ i. omega (arith, c.type_inv.bytes i))) sound e.sorted);
    }

pub returns-in_err-tie : goal.returns-in_err-tie
returns-in_err-tie c xs of =
    let keys = map (key_of c.args.bytes.now) xs in
    subst (λ (r : Option ℕ). MatchOption r (AreAllDifferent keys) (IsFirstRepeat keys)) (sym c.from_residual.ensures) (none_reported c.args.bytes.now xs c.args.spans.now c.sort_by_keys.new.spans of c.sort_by_keys.ensures.permuted c.in_err-tie.ensures)

pub count_before-requires : goal.count_before-requires
count_before-requires c = placed c.args.bytes.now c.requires.0 c.args.spans.now c.sort_by_keys.new.spans (omega arith) c.requires.1 c.sort_by_keys.ensures.permuted

pub overflow_add-result : goal.overflow_add-result
overflow_add-result c =
    omega (arith, count_by-le-length (lies_before c.in_ok-tie.tie.later) c.sort_by_keys.new.spans, bit_most (c.in_ok-tie.tie.earlier == c.in_ok-tie.tie.later), c.count_before.ensures, c.from.ensures)

pub returns : goal.returns
returns c xs of =
    one_reported c.args.bytes.now xs c.args.spans.now c.sort_by_keys.new.spans c.in_ok-tie.tie c.count_before.result c.from.result of c.sort_by_keys.ensures.permuted c.in_ok-tie.ensures c.count_before.ensures c.from.ensures
