-- Sameness of maps by their pairs; sameness is an equivalence.
use Rattle.std.proofs.Common.{◌≡◌, suc, inl, inr, refl, sym, ap, ◌∙◌, subst}
use Rattle.cbor_head.specs.Prelude.{Value, Values, Entries, map, no_values, a_value, values_count, HasEntry, AnyEntry, Same, SameValues, Covered, Covers}
use Rattle.cbor_head.specs.Value.{unsigned, negative, bytes, text, array, tag, simple, no_entries, entry}
use Rattle.theory_values.proofs.Induction.{AllOf, AllIn, AllIn-at, by_cases}

-- fs has a pair that is the same as this one
abbrev pub HasSame : Entries → Value → Value → Type 0
HasSame fs k v = (k' : Value) × (v' : Value) × HasEntry fs k' v' × Same k k' × Same v v'

-- es has a pair that this one is the same as
abbrev pub IsSameOf : Entries → Value → Value → Type 0
IsSameOf es k v = (k' : Value) × (v' : Value) × HasEntry es k' v' × Same k' k × Same v' v

-- each pair of either map has a pair of the other
pub record SameMaps (es fs : Entries) : Type 0 where
  pub forth : (k v : Value) → HasEntry es k v → HasSame fs k v
  pub back : (k v : Value) → HasEntry fs k v → IsSameOf es k v

pub any_from : (K V : Value → Type 0) (es : Entries) (k v : Value) → HasEntry es k v → K k → V v → AnyEntry K V es
any_from K V no_entries k v h a b = absurd h
any_from K V (entry k' v' es) k v (inl e) a b = inl (subst K e.0 a, subst V e.1 b)
any_from K V (entry k' v' es) k v (inr h) a b = inr (any_from K V es k v h a b)

pub from_any : (K V : Value → Type 0) (es : Entries) → AnyEntry K V es → (k : Value) × (v : Value) × HasEntry es k v × K k × V v
from_any K V no_entries h = absurd h
from_any K V (entry k v es) (inl h) = (k, v, inl (refl, refl), h.0, h.1)
from_any K V (entry k v es) (inr h) = let r = from_any K V es h in (r.0, r.1, inr r.2, r.3, r.4)

pub covered_from : (es fs : Entries) → ((k v : Value) → HasEntry es k v → HasSame fs k v) → Covered es fs
covered_from no_entries fs f = tt
covered_from (entry k v es) fs f =
    let r = f k v (inl (refl, refl)) in
    (any_from (Same k) (Same v) fs r.0 r.1 r.2 r.3 r.4, covered_from es fs (λ k' v' h. f k' v' (inr h)))

pub from_covered : (es fs : Entries) → Covered es fs → (k v : Value) → HasEntry es k v → HasSame fs k v
from_covered no_entries fs c k v h = absurd h
from_covered (entry k' v' es) fs c k v (inl e) =
    let r = from_any (Same k') (Same v') fs c.0 in
    (r.0, r.1, r.2, subst (λ u. Same u r.0) (sym e.0) r.3, subst (λ u. Same u r.1) (sym e.1) r.4)
from_covered (entry k' v' es) fs c k v (inr h) = from_covered es fs c.1 k v h

pub covers_from : (es : Entries) (k v : Value) → IsSameOf es k v → Covers es k v
covers_from no_entries k v r = absurd r.2
covers_from (entry k' v' es) k v r = elim r.2 [
  | inl e ↦ inl (subst (λ u. Same u k) e.0 r.3, subst (λ u. Same u v) e.1 r.4)
  | inr h ↦ inr (covers_from es k v (r.0, r.1, h, r.3, r.4))
]

pub from_covers : (es : Entries) (k v : Value) → Covers es k v → IsSameOf es k v
from_covers no_entries k v c = absurd c
from_covers (entry k' v' es) k v (inl h) = (k', v', inl (refl, refl), h.0, h.1)
from_covers (entry k' v' es) k v (inr c) = let r = from_covers es k v c in (r.0, r.1, inr r.2, r.3, r.4)

pub same_maps : (es fs : Entries) → Same (map es) (map fs) → SameMaps es fs
same_maps es fs s = record { forth = from_covered es fs s.0; back = λ k v h. from_covers es k v (s.1 k v h) }

pub Same-maps : (es fs : Entries) → SameMaps es fs → Same (map es) (map fs)
Same-maps es fs s = (covered_from es fs s.forth, λ k v h. covers_from es k v (s.back k v h))

abbrev Refl : Value → Type 0
Refl v = Same v v

pub Same-refl : (v : Value) → Same v v
Same-refl = by_cases {P = Refl} (record {
  at_unsigned = λ n. refl;
  at_negative = λ n. refl;
  at_bytes = λ s. refl;
  at_text = λ s. refl;
  at_array = arrays;
  at_map = λ es a. Same-maps es es (record {
    forth = λ k v h. let p = AllIn-at Refl es k v a h in (k, v, h, p.0, p.1);
    back = λ k v h. let p = AllIn-at Refl es k v a h in (k, v, h, p.0, p.1);
  });
  at_tag = λ n v p. (refl, p);
  at_simple = λ n. refl;
})
  where
    arrays : (vs : Values) → AllOf Refl vs → SameValues vs vs
    arrays no_values a = tt
    arrays (a_value v vs) a = (a.0, arrays vs a.1)

abbrev Sym : Value → Type 0
Sym v = (w : Value) → Same v w → Same w v

sym_array : (vs : Values) → AllOf Sym vs → (ws : Values) → SameValues vs ws → SameValues ws vs
sym_array no_values a no_values s = tt
sym_array no_values a _ s = absurd s
sym_array (a_value v vs) a (a_value w ws) s = (a.0 w s.0, sym_array vs a.1 ws s.1)
sym_array (a_value v vs) a _ s = absurd s

sym_map : (es fs : Entries) → AllIn Sym es → SameMaps es fs → SameMaps fs es
sym_map es fs a s = record {
  forth = λ k v h. let r = s.back k v h in let p = AllIn-at Sym es r.0 r.1 a r.2 in (r.0, r.1, r.2, p.0 k r.3, p.1 v r.4);
  back = λ k v h. let r = s.forth k v h in let p = AllIn-at Sym es k v a h in (r.0, r.1, r.2, p.0 r.0 r.3, p.1 r.1 r.4);
}

pub Same-sym : (v w : Value) → Same v w → Same w v
Same-sym = by_cases {P = Sym} (record {
  at_unsigned = λ n. elim [ unsigned m ↦ λ s. sym s | _ ↦ λ s. absurd s ];
  at_negative = λ n. elim [ negative m ↦ λ s. sym s | _ ↦ λ s. absurd s ];
  at_bytes = λ n. elim [ bytes m ↦ λ s. sym s | _ ↦ λ s. absurd s ];
  at_text = λ n. elim [ text m ↦ λ s. sym s | _ ↦ λ s. absurd s ];
  at_array = λ vs a. elim [ array ws ↦ λ s. sym_array vs a ws s | _ ↦ λ s. absurd s ];
  at_map = λ es a. elim [ map fs ↦ λ s. Same-maps fs es (sym_map es fs a (same_maps es fs s)) | _ ↦ λ s. absurd s ];
  at_tag = λ n v p. elim [ tag m w ↦ λ s. (sym s.0, p w s.1) | _ ↦ λ s. absurd s ];
  at_simple = λ n. elim [ simple m ↦ λ s. sym s | _ ↦ λ s. absurd s ];
})

abbrev Trans : Value → Type 0
Trans v = (w u : Value) → Same v w → Same w u → Same v u

trans_array : (vs : Values) → AllOf Trans vs → (ws us : Values) → SameValues vs ws → SameValues ws us → SameValues vs us
trans_array no_values a no_values us s t = t
trans_array no_values a (a_value w ws) us s t = absurd s
trans_array (a_value v vs) a (a_value w ws) (a_value u us) s t = (a.0 w u s.0 t.0, trans_array vs a.1 ws us s.1 t.1)
trans_array (a_value v vs) a (a_value w ws) no_values s t = absurd t
trans_array (a_value v vs) a no_values us s t = absurd s

trans_map : (es fs gs : Entries) → AllIn Trans es → SameMaps es fs → SameMaps fs gs → SameMaps es gs
trans_map es fs gs a s t = record {
  forth = λ k v h.
      let r = s.forth k v h in
      let q = t.forth r.0 r.1 r.2 in
      let p = AllIn-at Trans es k v a h in
      (q.0, q.1, q.2, p.0 r.0 q.0 r.3 q.3, p.1 r.1 q.1 r.4 q.4);
  back = λ k v h.
      let r = t.back k v h in
      let q = s.back r.0 r.1 r.2 in
      let p = AllIn-at Trans es q.0 q.1 a q.2 in
      (q.0, q.1, q.2, p.0 r.0 k q.3 r.3, p.1 r.1 v q.4 r.4);
}

pub Same-trans : (v w u : Value) → Same v w → Same w u → Same v u
Same-trans = by_cases {P = Trans} (record {
  at_unsigned = λ n. elim [ unsigned m ↦ elim [ unsigned l ↦ λ s t. s ∙ t | _ ↦ λ s t. absurd t ] | _ ↦ λ u s t. absurd s ];
  at_negative = λ n. elim [ negative m ↦ elim [ negative l ↦ λ s t. s ∙ t | _ ↦ λ s t. absurd t ] | _ ↦ λ u s t. absurd s ];
  at_bytes = λ n. elim [ bytes m ↦ elim [ bytes l ↦ λ s t. s ∙ t | _ ↦ λ s t. absurd t ] | _ ↦ λ u s t. absurd s ];
  at_text = λ n. elim [ text m ↦ elim [ text l ↦ λ s t. s ∙ t | _ ↦ λ s t. absurd t ] | _ ↦ λ u s t. absurd s ];
  at_array = λ vs a. elim [ array ws ↦ elim [ array us ↦ λ s t. trans_array vs a ws us s t | _ ↦ λ s t. absurd t ] | _ ↦ λ u s t. absurd s ];
  at_map = λ es a. elim [
    | map fs ↦ elim [
      | map gs ↦ λ s t. Same-maps es gs (trans_map es fs gs a (same_maps es fs s) (same_maps fs gs t))
      | _ ↦ λ s t. absurd t
    ]
    | _ ↦ λ u s t. absurd s
  ];
  at_tag = λ n v p. elim [ tag m w ↦ elim [ tag l u ↦ λ s t. (s.0 ∙ t.0, p w u s.1 t.1) | _ ↦ λ s t. absurd t ] | _ ↦ λ u s t. absurd s ];
  at_simple = λ n. elim [ simple m ↦ elim [ simple l ↦ λ s t. s ∙ t | _ ↦ λ s t. absurd t ] | _ ↦ λ u s t. absurd s ];
})

pub SameValues-count : (vs ws : Values) → SameValues vs ws → values_count vs ≡ values_count ws
SameValues-count no_values no_values h = refl
SameValues-count (a_value v vs) (a_value w ws) h = ap suc (SameValues-count vs ws h.1)
SameValues-count _ _ h = absurd h
