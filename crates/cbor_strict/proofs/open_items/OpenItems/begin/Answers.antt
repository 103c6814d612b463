use Rattle.std.proofs.Common.{false, true, refl, sym, ap, subst, inl, inr, ◌∙◌}
use Rattle.theory_automaton.specs.Trace.{a_head}
use Rattle.cbor_strict.proofs.OpenHeads.{leaf_ended, string_begun, other_begun, map_begun, begun_no_memory, space_levels, space_keys, string_of, map_of, other_of}
use Rattle.cbor_strict.proofs.open_items.OpenItems.begin.Goals as goal
use Rattle.cbor_strict.specs.inner.OpenItems.{IsLeaf, GoesOn}

pub end_item-requires : goal.end_item-requires
end_item-requires c =
    let r = c.requires in
    record { b = r.b; e = r.e; t = _; ended = leaf_ended c.args.self.now r.b r.w r.kind r.t r.x r.e r.has (subst IsLeaf (sym r.is) (c.goes_on.ensures.leaf r.w c.if-not-goes_on.true)); counted = r.counted; all = r.all }

pub returns-then-not-goes_on-clause-returned : goal.returns-then-not-goes_on-clause-returned
returns-then-not-goes_on-clause-returned c = λ b w kind t x e is h n m. c.end_item.ensures.returned b e _ (leaf_ended c.args.self.now b w kind t x e h (subst IsLeaf (sym is) (c.goes_on.ensures.leaf w c.if-not-goes_on.true))) n m

pub returns-in-Bytes-clause-returned : goal.returns-in-Bytes-clause-returned
returns-in-Bytes-clause-returned c = λ b w kind t x e is h n m.
    let some = subst (λ k. GoesOn k c.args.argument) c.in-Bytes.is (c.goes_on.ensures.more c.if-not-goes_on.false) in
    let s = c.begin_string.ensures in
    string_begun c.args.self.now c.begin_string.new.self b w kind t x e false c.args.argument h (string_of false w kind c.args.argument (is ∙ ap (λ k. a_head k w c.args.argument) c.in-Bytes.is) some) some s.same.0 s.same.1 s.expected.0 s.expected.1 s.checked

pub returns-in-Text-clause-returned : goal.returns-in-Text-clause-returned
returns-in-Text-clause-returned c = λ b w kind t x e is h n m.
    let some = subst (λ k. GoesOn k c.args.argument) c.in-Text.is (c.goes_on.ensures.more c.if-not-goes_on.false) in
    let s = c.begin_string-in-Text.ensures in
    string_begun c.args.self.now c.begin_string-in-Text.new.self b w kind t x e true c.args.argument h (string_of true w kind c.args.argument (is ∙ ap (λ k. a_head k w c.args.argument) c.in-Text.is) some) some s.same.0 s.same.1 s.expected.0 s.expected.1 s.checked

pub open_map-requires-clause-levels : goal.open_map-requires-clause-levels
open_map-requires-clause-levels c =
    let r = c.requires in
    space_levels c.args.self.now r.b r.w r.kind r.t r.x r.e r.has (inr (map_of r.w r.kind c.args.major c.args.argument r.is c.in-Map.is (c.goes_on.ensures.more c.if-not-goes_on.false)))

pub open_map-requires-clause-keys : goal.open_map-requires-clause-keys
open_map-requires-clause-keys c =
    let r = c.requires in
    space_keys c.args.self.now r.b r.w r.kind r.t r.x r.e r.has (inr (map_of r.w r.kind c.args.major c.args.argument r.is c.in-Map.is (c.goes_on.ensures.more c.if-not-goes_on.false)))

pub returns-in-Ok-clause-returned : goal.returns-in-Ok-clause-returned
returns-in-Ok-clause-returned c = λ b w kind t x e is h n m. map_begun c.args.self.now _ b w kind t x e h (map_of w kind c.args.major c.args.argument is c.in-Map.is (c.goes_on.ensures.more c.if-not-goes_on.false)) refl refl c.in-Ok.ensures.opened

pub returns-in-Err-clause-returned : goal.returns-in-Err-clause-returned
returns-in-Err-clause-returned c = λ b w kind t x e is h n m to. begun_no_memory c.args.self.now b w kind t x e _ c.args.taken to h.fs h.around h.taken h.begun m c.at.ensures

pub open_other-requires : goal.open_other-requires
open_other-requires c =
    let r = c.requires in
    let o = c.in_default in
    space_levels c.args.self.now r.b r.w r.kind r.t r.x r.e r.has (inl (other_of r.w r.kind c.args.major c.args.argument r.is (c.goes_on.ensures.more c.if-not-goes_on.false) o.not-Bytes o.not-Text o.not-Map))

pub returns-in_default : goal.returns-in_default
returns-in_default c =
    let o = c.in_default in
    record {
      order = refl;
      returned = λ b w kind t x e is h n m.
          other_begun c.args.self.now _ b w kind t x e h (other_of w kind c.args.major c.args.argument is (c.goes_on.ensures.more c.if-not-goes_on.false) o.not-Bytes o.not-Text o.not-Map) refl refl c.open_other.ensures;
      against = tt;
      read = tt;
      memory = tt;
      needed = tt;
      granted = refl;
    }
