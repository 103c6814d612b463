use Rattle.std.proofs.Common.{ℕ, ◌∷◌, ◌∙◌, List, Option, slice_get, unwrap_or, ap, arith, subst, reverse}
use Rattle.std.proofs.lemmas.Option.{get_or_from_slice_get}
use Rattle.cbor_tree_reader.proofs.HeldKeys.{none-waits, keys_at_top, top-held, fresh-key, old-key}
use Rattle.cbor_tree_reader.proofs.tree_items.TreeItems.repeated.Goals as goal
use Rattle.cbor_tree_reader.specs.inner.HeldKeys.{IsAdded}

pub returns-in_default-clause-returned : goal.returns-in_default-clause-returned
returns-in_default-clause-returned c = λ h. let s = c.args.self.now in none-waits (s.keys ∷ reverse s.outer.items) s.builder.open_levels c.in_default.ensures h

pub returns-then-branch-clause-returned : goal.returns-then-branch-clause-returned
returns-then-branch-clause-returned c = λ h.
    let s = c.args.self.now in
    let ss = reverse s.outer.items in
    let os = s.builder.open_levels in
    fresh-key s.keys c.add.new.self ss os c.in-Some.key.now c.in-Some.ensures h
    (subst (IsAdded c.in-Some.key.now (keys_at_top os) c.add.new.self) c.if-branch.true (c.in_ok-add.ensures.added (keys_at_top os) (top-held s.keys ss os h)))

pub returns-clause-returned : goal.returns-clause-returned
returns-clause-returned c = λ h.
    let s = c.args.self.now in
    let ss = reverse s.outer.items in
    let os = s.builder.open_levels in (
      old-key os c.in-Some.key.now c.add.new.self c.in-Some.ensures
          (subst (IsAdded c.in-Some.key.now (keys_at_top os) c.add.new.self) c.if-branch.false (c.in_ok-add.ensures.added (keys_at_top os) (top-held s.keys ss os h))),
      (λ at is.
          c.unwrap_or.ensures ∙ ap (λ (o : Option ℕ). unwrap_or o 0) c.copied.ensures ∙ c.get.ensures.lookup.4 (omega arith) 0
          ∙ get_or_from_slice_get c.deref.result.now c.args.open at 0 (ap (λ (xs : List ℕ). slice_get xs c.args.open) c.deref.ensures.value ∙ is)),
    )
