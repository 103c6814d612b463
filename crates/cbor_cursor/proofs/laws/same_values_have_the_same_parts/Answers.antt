use Rattle.std.proofs.Common.{◌≡◌, ℕ, zero, suc, Some, None, refl}
use Rattle.std.specs.Prelude.{MatchOption}
use Rattle.cbor_head.specs.Value.{Value, Values, Same, SameValues, no_values, a_value, unsigned, negative, bytes, text, array, map, tag, simple}
use Rattle.theory_values.proofs.Sameness.{same_maps, Same-sym, Same-trans}
use Rattle.theory_values.specs.Lookup.{HasValueAt, member_at, member_of}
use Rattle.cbor_cursor.proofs.laws.same_values_have_the_same_parts.Goals as goal

abbrev HasSameMember : Value → ℕ → Value → Type 0
HasSameMember w i x = (y : Value) × (member_of w i ≡ Some y) × Same x y

members_at : (vs ws : Values) (i : ℕ) → SameValues vs ws → MatchOption (member_at vs i) (member_at ws i ≡ None) (λ x. (y : Value) × (member_at ws i ≡ Some y) × Same x y)
members_at no_values no_values i s = refl
members_at no_values (a_value w ws) i s = absurd s
members_at (a_value v vs) no_values i s = absurd s
members_at (a_value v vs) (a_value w ws) zero s = (w, refl, s.0)
members_at (a_value v vs) (a_value w ws) (suc i) s = members_at vs ws i s.1

members : (v w : Value) (i : ℕ) → Same v w → MatchOption (member_of v i) (member_of w i ≡ None) (HasSameMember w i)
members (array vs) (array ws) i s = members_at vs ws i s
members (unsigned n) (unsigned m) i s = refl
members (negative n) (negative m) i s = refl
members (bytes n) (bytes m) i s = refl
members (text n) (text m) i s = refl
members (map n) (map m) i s = refl
members (tag n v) (tag m w) i s = refl
members (simple n) (simple m) i s = refl
members _ _ i s = absurd s

pub returns-clause-members : goal.returns-clause-members
returns-clause-members c = members

keys : (v w k x : Value) → Same v w → HasValueAt v k x → (y : Value) × HasValueAt w k y × Same x y
keys (map es) (map fs) k x s h = let r = (same_maps es fs s).forth h.0 x h.1 in (r.1, (r.0, r.2, Same-trans r.0 h.0 k (Same-sym h.0 r.0 r.3) h.2), r.4)
keys (map es) _ k x s h = absurd s
keys _ w k x s h = absurd h

pub returns-clause-keys : goal.returns-clause-keys
returns-clause-keys c = keys
