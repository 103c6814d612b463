-- The parts of a value make it.
use Rattle.std.proofs.Common.{◌≡◌, List, [], ◌∷◌, ◌++◌, append_assoc, append-nil, refl, sym, ap, subst}
use Rattle.cbor_head.specs.Value as value
use Rattle.cbor_head.specs.Prelude.{Value, Values, Entries}
use Rattle.theory_values.specs.Lists.{values_of, entries_of}
use Rattle.cbor_item.specs.OpenValues.{OpenValue, the_whole, an_array, a_map, a_key, a_tag, give, run, after, parts_of, parts_of_all, parts_of_entries, ValuePart, end, TakesValue, Makes}

-- lists of values
abbrev list_of : Values → List Value
list_of value.no_values = []
list_of (value.a_value v vs) = v ∷ list_of vs

abbrev pairs_of : Entries → List (Value × Value)
pairs_of value.no_entries = []
pairs_of (value.entry k v es) = (k, v) ∷ pairs_of es

values_back : (vs : Values) → values_of (list_of vs) ≡ vs
values_back value.no_values = refl
values_back (value.a_value v vs) = ap (value.a_value v) (values_back vs)

entries_back : (es : Entries) → entries_of (pairs_of es) ≡ es
entries_back value.no_entries = refl
entries_back (value.entry k v es) = ap (value.entry k v) (entries_back es)

-- the parts of v may follow, and then these, where these may follow v
mutual
  pub makes : (w v : Value) (ps : List ValuePart) (os : List OpenValue) → TakesValue os → Makes w ps (give v os) → Makes w (parts_of v ++ ps) os
  makes w v ps [] t m = absurd t
  makes w (value.array vs) ps (c ∷ os) t m =
      (t, rw (append_assoc (parts_of_all vs) (end ∷ []) ps) (makes_all w vs [] (end ∷ ps) (c ∷ os) ((tt, t), subst (λ us. Makes w ps (give (value.array us) (c ∷ os))) (sym (values_back vs)) m)))
  makes w (value.map es) ps (c ∷ os) t m =
      (t, rw (append_assoc (parts_of_entries es) (end ∷ []) ps) (makes_entries w es [] (end ∷ ps) (c ∷ os) ((tt, t), subst (λ fs. Makes w ps (give (value.map fs) (c ∷ os))) (sym (entries_back es)) m)))
  makes w (value.tag n v) ps (c ∷ os) t m = (t, rw (append_assoc (parts_of v) (end ∷ []) ps) (makes w v (end ∷ ps) (a_tag n [] ∷ c ∷ os) refl ((tt, t), m)))
  makes w v ps (c ∷ os) t m = (t, m)

  makes_all : (w : Value) (vs : Values) (acc : List Value) (ps : List ValuePart) (os : List OpenValue) → Makes w ps (an_array (acc ++ list_of vs) ∷ os)
      → Makes w (parts_of_all vs ++ ps) (an_array acc ∷ os)
  makes_all w value.no_values acc ps os m = subst (λ (us : List Value). Makes w ps (an_array us ∷ os)) (append-nil acc) m
  makes_all w (value.a_value v vs) acc ps os m =
      let more = makes_all w vs (acc ++ v ∷ []) ps os (rw (append_assoc acc (v ∷ []) (list_of vs)) m) in
      rw (append_assoc (parts_of v) (parts_of_all vs) ps) (makes w v (parts_of_all vs ++ ps) (an_array acc ∷ os) tt more)

  makes_entries : (w : Value) (es : Entries) (acc : List (Value × Value)) (ps : List ValuePart) (os : List OpenValue) → Makes w ps (a_map (acc ++ pairs_of es) ∷ os)
      → Makes w (parts_of_entries es ++ ps) (a_map acc ∷ os)
  makes_entries w value.no_entries acc ps os m = subst (λ (fs : List (Value × Value)). Makes w ps (a_map fs ∷ os)) (append-nil acc) m
  makes_entries w (value.entry k v es) acc ps os m =
      let more = makes_entries w es (acc ++ (k, v) ∷ []) ps os (rw (append_assoc acc ((k, v) ∷ []) (pairs_of es)) m) in
      let following = makes w v (parts_of_entries es ++ ps) (a_key acc k ∷ os) tt more in
      rw (append_assoc (parts_of k) (parts_of v ++ parts_of_entries es) ps, append_assoc (parts_of v) (parts_of_entries es) ps) (makes w k (parts_of v ++ (parts_of_entries es ++ ps)) (a_map acc ∷ os) tt following)

-- so they make the whole of it
pub makes_whole : (w : Value) → Makes w (parts_of w) (the_whole [] ∷ [])
makes_whole w = subst (λ (ps : List ValuePart). Makes w ps (the_whole [] ∷ [])) (append-nil (parts_of w)) (makes w w [] (the_whole [] ∷ []) refl refl)

made : (w : Value) (ps : List ValuePart) (os : List OpenValue) → Makes w ps os → run ps os ≡ the_whole (w ∷ []) ∷ []
made w [] os m = m
made w (p ∷ ps) os m = made w ps (after p os) m.1

pub whole_made : (w : Value) → run (parts_of w) (the_whole [] ∷ []) ≡ the_whole (w ∷ []) ∷ []
whole_made w = made w (parts_of w) (the_whole [] ∷ []) (makes_whole w)
