use Rattle.std.proofs.Common.{ℕ, ◌+◌, List, length, refl, sym, subst, inl}
use Rattle.cbor_head.specs.Value.{Value, AnyEntry, Same, entries_count}
use Rattle.cbor_head.specs.{Head.shortest_head, declared.major.Major.TheVariants.Map}
use Rattle.cbor_cursor.specs.{Offsets.IsItemAt, Offsets.IsValueAt, declared.items.ItemAt.ItemAt}
use Rattle.naltvigo.proofs.items.naltvigo_find_raw.Goals as goal

pub returns-in-Found-clause-pair : goal.returns-in-Found-clause-pair
returns-in-Found-clause-pair c = λ o es rest k b r v e.
    inl (
      refl,
      subst (λ (i : ItemAt). AnyEntry (Same k) (λ (w : Value). (after : List ℕ) × IsItemAt o c.args.input.now w after i) es)
          (sym c.placed.ensures.offsets) (c.in-Found.ensures.pair o es rest k b r v e),
    )

pub returns-in-Found-clause-any_key : goal.returns-in-Found-clause-any_key
returns-in-Found-clause-any_key c = λ o es rest b.
    inl (refl, subst (λ (i : ItemAt). IsValueAt o es (c.args.offset + length (shortest_head Map (entries_count es))) c.args.key.now c.args.input.now rest i) (sym c.placed.ensures.offsets) (c.in-Found.ensures.any_key o es rest b))
