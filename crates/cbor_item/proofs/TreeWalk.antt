-- A walk over a node that makes a tree, step by step.
use Rattle.std.proofs.Common.{◌≡◌, ℕ, List, [], ◌∷◌, ◌++◌, map, append_assoc, append-nil, refl, sym, ap, ◌∙◌, subst, Some, None}
use Rattle.std.specs.List.{AllByRecursion}
use Rattle.cbor_head.specs.declared.major.Major.TheVariants as Major
use Rattle.cbor_head.specs.Value as value
use Rattle.cbor_head.specs.Prelude.{Value, IsInRange, AreInRange, AreEntriesInRange}
use Rattle.theory_values.specs.Lists.{values_of}
use Rattle.cbor_item.specs.OpenValues.{OpenValue, ValuePart, leaf, begin, end, after, give, opened, parts_of, parts_of_entries, Makes, the_whole}
use Rattle.cbor_item.specs.inner.TreeWalk.{parts_in, parts_after, parts_left, IsBegun}
use Rattle.cbor_item.specs.{Nodes.entries_in, Nodes.values_in, inner.Rest.flat}

-- the remaining parts may follow with these open, and make w
pub record Walks (w : Value) (vss : List (List Value)) (os : List OpenValue) : Type 0 where
  pub makes : Makes w (parts_left vss) os
  pub in_range : AllByRecursion (λ vs. AreInRange (values_of vs)) vss

pub walks_first : (w : Value) → Makes w (parts_of w) (the_whole [] ∷ []) → IsInRange w → Walks w ((w ∷ []) ∷ []) (the_whole [] ∷ [])
walks_first w made h = record {
  makes = subst (λ ps. Makes w ps (the_whole [] ∷ [])) (sym (append-nil (parts_of w ++ []) ∙ append-nil (parts_of w))) made;
  in_range = ((h, tt), tt);
}

-- its first part was given
pub walks_begun : (w v : Value) (us vs : List Value) (vss : List (List Value)) (os os' : List OpenValue) → Walks w ((v ∷ vs) ∷ vss) os → IsBegun v os os' (Some us)
    → Walks w (us ∷ vs ∷ vss) os'
walks_begun w v us vs vss os os' k b =
    let ps = parts_in us in
    let joined = append_assoc (ps ++ end ∷ []) (parts_in vs) (parts_after vss) ∙ append_assoc ps (end ∷ []) (parts_in vs ++ parts_after vss) in
    record {
      makes = rw (b.given) (subst (λ qs. Makes w qs (after b.first os)) joined (subst (λ qs. Makes w ((qs ++ parts_in vs) ++ parts_after vss) os) b.parts k.makes).1);
      in_range = (b.in_range, (k.in_range.0.1, k.in_range.1));
    }

-- a node that holds no other
pub leaf_begun : (v w : Value) (os os' : List OpenValue) → w ≡ v → parts_of w ≡ leaf w ∷ [] → os' ≡ give w os → IsBegun v os os' None
leaf_begun v w os os' e p g = rw (← e) (record { first = leaf w; parts = p; given = g; in_range = tt })

module _ {N : Type 0} (see : N → Value) where
  parts-flat : (ps : List (N × N)) → parts_of_entries (entries_in see ps) ≡ parts_in (flat see ps)
  parts-flat [] = refl
  parts-flat (p ∷ ps) = ap (λ (qs : List ValuePart). parts_of (see p.0) ++ (parts_of (see p.1) ++ qs)) (parts-flat ps)

  flat_in_range : (ps : List (N × N)) → AreEntriesInRange (entries_in see ps) → AreInRange (values_of (flat see ps))
  flat_in_range [] h = tt
  flat_in_range (p ∷ ps) h = (h.0, (h.1, flat_in_range ps h.2))

  pub array_begun : (v : Value) (ns : List N) (os os' : List OpenValue) → value.array (values_in see ns) ≡ v → IsInRange v → os' ≡ opened Major.Array 0 ∷ os → IsBegun v os os' (Some (map see ns))
  array_begun v ns os os' is h g = record {
    first = begin Major.Array 0;
    parts = ap parts_of (sym is);
    given = g;
    in_range = (subst IsInRange (sym is) h).1;
  }

  pub map_begun : (v : Value) (ps : List (N × N)) (os os' : List OpenValue) → value.map (entries_in see ps) ≡ v → IsInRange v → os' ≡ opened Major.Map 0 ∷ os → IsBegun v os os' (Some (flat see ps))
  map_begun v ps os os' is h g = record {
    first = begin Major.Map 0;
    parts = ap parts_of (sym is) ∙ ap (λ (qs : List ValuePart). begin Major.Map 0 ∷ qs ++ end ∷ []) (parts-flat ps);
    given = g;
    in_range = flat_in_range ps (subst IsInRange (sym is) h).1;
  }

pub tag_begun : (v u : Value) (n : ℕ) (os os' : List OpenValue) → value.tag n u ≡ v → IsInRange v → os' ≡ opened Major.Tag n ∷ os → IsBegun v os os' (Some (u ∷ []))
tag_begun v u n os os' is h g = record {
  first = begin Major.Tag n;
  parts = ap parts_of (sym is) ∙ ap (λ (qs : List ValuePart). begin Major.Tag n ∷ qs ++ end ∷ []) (sym (append-nil (parts_of u)));
  given = g;
  in_range = ((subst IsInRange (sym is) h).1, tt);
}
