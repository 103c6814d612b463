-- Looking up a value by its key, and a member by its index.
use Rattle.std.proofs.Common.{◌≡◌, ℕ, zero, suc, ◌+◌, ◌<◌, ◌≤◌, List, [], ◌∷◌, length, drop, get_or, Option, Some, None, Bor, inl, inr, refl, ap, subst, arith, ◌↔◌, ℤ, pos, negsuc, option_map, MatchOption, IfSome}
use Rattle.std.proofs.lemmas.List.{drop_all, drop_more}
use Rattle.cbor_head.specs.Value as value
use Rattle.cbor_head.specs.Prelude.{Value, Entries, HasEntry, Same, map}
use Rattle.theory_values.specs.Lookup.{HasValueAt, integer, member_at}
use Rattle.theory_values.specs.Lists.{values_of}
use Rattle.cbor_item.specs.{Nodes.entries_in, ViewValue.view_value, ViewValue.view_values, declared.view.View.View}

abbrev Pair : Type 0
Pair = View × View

abbrev entries : List Pair → Entries
entries ps = entries_in view_value ps

-- what these pairs have at the key, the others have too
abbrev pub LeadsAfter : Value → List Pair → List Pair → Type 0
LeadsAfter k ps rest = (v : Value) → HasValueAt (map (entries ps)) k v → HasValueAt (map (entries rest)) k v

pub looked_by : (k : Value) (ps : List Pair) (i : ℕ) (d : Pair) → i < length ps → LeadsAfter k ps (drop i ps) → (Same (view_value (get_or ps i d).0) k → ⊥) → LeadsAfter k ps (drop (i + 1) ps)
looked_by k ps i d l inv miss v h =
    let at = subst (λ (ps : List Pair). HasValueAt (map (entries ps)) k v) (drop_more ps i d l) (inv v h) in
    elim at.1 [ inl s ↦ absurd (miss (subst (λ (l : Value). Same l k) s.0 at.2)) | inr m ↦ (at.0, m, at.2) ]

has_pair : (ps : List Pair) (i : ℕ) (d : Pair) → i < length ps → HasEntry (entries ps) (view_value (get_or ps i d).0) (view_value (get_or ps i d).1)
has_pair [] i d l = absurd (omega (arith, l))
has_pair (q ∷ ps) zero d l = inl (refl, refl)
has_pair (q ∷ ps) (suc i) d l = inr (has_pair ps i d (omega (arith, l)))

pub found_by : (k : Value) (ps : List Pair) (i : ℕ) (d : Pair) → i < length ps → Same (view_value (get_or ps i d).0) k → HasValueAt (map (entries ps)) k (view_value (get_or ps i d).1)
found_by k ps i d l s = (view_value (get_or ps i d).0, has_pair ps i d l, s)

pub none_following : (k : Value) (ps : List Pair) (i : ℕ) → length ps ≤ i → LeadsAfter k ps (drop i ps) → (v : Value) → HasValueAt (map (entries ps)) k v → ⊥
none_following k ps i l inv v h = (subst (λ (ps : List Pair). HasValueAt (map (entries ps)) k v) (drop_all i ps l) (inv v h)).1

-- ---- members

none_at : (vs : List View) (i : ℕ) → length vs ≤ i → None ≡ member_at (values_of (view_values vs)) i
none_at [] i l = refl
none_at (v ∷ vs) zero l = absurd (omega arith)
none_at (v ∷ vs) (suc i) l = none_at vs i (omega arith)

some_at : (vs : List View) (i : ℕ) (v : View) → i < length vs → v ≡ get_or vs i v → Some (view_value v) ≡ member_at (values_of (view_values vs)) i
some_at [] i v l e = absurd (omega arith)
some_at (w ∷ vs) zero v l e = ap (λ (v : View). Some (view_value v)) e
some_at (w ∷ vs) (suc i) v l e = some_at vs i v (omega arith) e

-- a member that was read by its index
pub member_read : (vs : List View) (i : ℕ) (o : Option (Bor View)) (P : Bor View → Type 0) → MatchOption o (length vs ≤ i) (λ v. (i < length vs) × P v) → IfSome o (λ v. v.now ≡ get_or vs i v.now)
    → option_map (λ (v : Bor View). view_value v.now) o ≡ member_at (values_of (view_values vs)) i
member_read vs i None P m e = none_at vs i m
member_read vs i (Some v) P m e = some_at vs i v.now m.0 e

-- ---- keys without members

pub same_text : (v : Value) (s : List ℕ) → Same v (value.text s) ↔ (v ≡ value.text s)
same_text (value.text t) s = ((λ e. ap value.text e), (λ e. cc e))
same_text _ s = ((λ h. absurd h), (λ e. absurd (cc e)))

same_unsigned : (v : Value) (k : ℕ) → Same v (value.unsigned k) ↔ (v ≡ value.unsigned k)
same_unsigned (value.unsigned n) k = ((λ e. ap value.unsigned e), (λ e. cc e))
same_unsigned _ k = ((λ h. absurd h), (λ e. absurd (cc e)))

same_negative : (v : Value) (k : ℕ) → Same v (value.negative k) ↔ (v ≡ value.negative k)
same_negative (value.negative n) k = ((λ e. ap value.negative e), (λ e. cc e))
same_negative _ k = ((λ h. absurd h), (λ e. absurd (cc e)))

pub same_integer : (v : Value) (z : ℤ) → Same v (integer z) ↔ (v ≡ integer z)
same_integer v (pos n) = same_unsigned v n
same_integer v (negsuc n) = same_negative v n
