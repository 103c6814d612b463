-- What was read of the item that is expected first is reported of each reader, and of its known bytes.
use Rattle.std.proofs.Common.{ℕ, ◌^◌, ◌≡◌, ◌<◌, ◌≤◌, Option, List, [], length, sym, ◌∙◌, arith, subst}
use Rattle.cbor_head.specs.Prelude.{Bounds, AreBounds, Value, Spelling, spell, value_of, depth, IsSpelled, plain, Complains}
use Rattle.cbor_head.specs.declared.limits.TheConstants.{MAX_DEPTH}
use Rattle.theory_values.proofs.{Sound.sound, Depth.depth-value_of}
use Rattle.cbor_machine.specs.NextEvent.{ItemEventsView}
use Rattle.theory_verdicts.proofs.Tops.{item-read, loses, known}
use Rattle.theory_verdicts.{specs.Kinds.KeepsToKinds, specs.Readers.IsReadAs, specs.Reading.ReadsItem, proofs.Valid.in_range_of, proofs.Valid.valid_of}
use Rattle.theory_verdicts.specs.Judged.{Never}
use Rattle.cbor_tree_reader.{specs.Size.size, specs.Prefix.IsPrefixRead, specs.Prefix.HasCanonicalBytes, proofs.Sizes.size_bounded}

-- the value of an item without complaint has canonical bytes
canonical-of : (s : Spelling) → IsSpelled s → length (spell s) < 2 ^ 64 → Never (Complains plain 0 s) → depth s ≤ MAX_DEPTH → HasCanonicalBytes (value_of s)
canonical-of s h l clean deep =
    let k = sound (value_of s) (in_range_of s h l) (valid_of s 0 clean) in
    record { depth = subst (λ (n : ℕ). n ≤ MAX_DEPTH) (sym (depth-value_of s)) deep; in_range = k.range; valid = k.valid }

pub prefix-read : (b : Bounds) (from to : Option (List ℕ)) (new : ItemEventsView) (v : Value) (count : ℕ) → AreBounds b → (i : ReadsItem plain b [] [] [] from to new v) → KeepsToKinds b plain (spell i.item) → count ≡ new.machine.taken
    → IsPrefixRead plain b from to v count
prefix-read b from to new v count l i keeps e =
    let sized : count ≡ length (spell i.item) = e ∙ i.at.agrees.agrees.taken in
    record {
      read = known from (λ input. IsReadAs b plain input v count)
          (λ input k. subst (IsReadAs b plain input v) (sym sized) (item-read plain b input from to k new v i keeps));
      taken = loses (spell i.item) count from to sized i.taken;
      bounded = subst (λ (w : Value). size w ≤ count) i.value (subst (λ (n : ℕ). size (value_of i.item) ≤ n) (sym sized) (size_bounded i.item));
      sound = subst HasCanonicalBytes i.value
          (canonical-of i.item i.spelled (omega (arith, i.at.agrees.agrees.taken, i.at.agrees.agrees.limited, i.at.bytes, l.1)) i.clean (omega (arith, i.within, l.0)));
    }
