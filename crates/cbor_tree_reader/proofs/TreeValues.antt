-- A tree builder that is given the parts of an item: what each does to the values that it holds.
use Rattle.std.proofs.Common.{◌≡◌, zero, suc, List, [], ◌∷◌, ◌++◌, refl, sym, ap, ◌∙◌, subst}
use Rattle.cbor_head.specs.Prelude.{Spelling, Spellings, SpelledEntries, array, a_map, tag, no_spellings, a_spelling, no_entries, entry, value_of, values_of, entries_of, Value}
use Rattle.cbor_head.specs.Value as value
use Rattle.theory_values.specs.Lists as lists
use Rattle.cbor_item.specs.OpenValues as parts
use Rattle.cbor_item.specs.OpenValues.{Building, OpenValue, open_levels, an_array, give, closed, close, TakesValue, MayEnd, CanEnd, CanHold, IsWhole}
use Rattle.cbor_item.specs.declared.item.Item.{Item}
use Rattle.theory_verdicts.specs.Levels.{Level, a_member, a_value, some_member, some_value, tagged, ParseState, item_expected, item_full, item_whole, settle}
use Rattle.theory_verdicts.specs.Frame.{with_all, with_entries}
use Rattle.cbor_tree_reader.specs.TreeValues.{member_values, pair_values, level_value, level_values, full_value, values_at, IsContainer, IsFullRight, IsTreeAt}

-- ---- members and pairs

members-more : (ss : Spellings) (s : Spelling) → member_values (with_all ss (a_spelling s no_spellings)) ≡ member_values ss ++ value_of s ∷ []
members-more no_spellings s = refl
members-more (a_spelling x ss) s = ap (λ (vs : List Value). value_of x ∷ vs) (members-more ss s)

pairs-more : (es : SpelledEntries) (k v : Spelling) → pair_values (with_entries es (entry k v no_entries)) ≡ pair_values es ++ (value_of k, value_of v) ∷ []
pairs-more no_entries k v = refl
pairs-more (entry x y es) k v = ap (λ (ps : List (Value × Value)). (value_of x, value_of y) ∷ ps) (pairs-more es k v)

members-are : (ss : Spellings) → lists.values_of (member_values ss) ≡ values_of ss
members-are no_spellings = refl
members-are (a_spelling s ss) = ap (value.a_value (value_of s)) (members-are ss)

pairs-are : (es : SpelledEntries) → lists.entries_of (pair_values es) ≡ entries_of es
pairs-are no_entries = refl
pairs-are (entry k v es) = ap (value.entry (value_of k) (value_of v)) (pairs-are es)

-- ---- an item is complete

pub values-given : (ls : List Level) (s : Spelling) → give (value_of s) (level_values ls) ≡ values_at (settle ls s)
values-given (a_member w zero done ∷ ls) s = ap (λ (vs : List Value). an_array vs ∷ level_values ls) (sym (members-more done s))
values-given (a_member w (suc left) done ∷ ls) s = ap (λ (vs : List Value). an_array vs ∷ level_values ls) (sym (members-more done s))
values-given (some_member done ∷ ls) s = ap (λ (vs : List Value). an_array vs ∷ level_values ls) (sym (members-more done s))
values-given (a_value w zero done k ∷ ls) s = ap (λ (ps : List (Value × Value)). parts.a_map ps ∷ level_values ls) (sym (pairs-more done k s))
values-given (a_value w (suc left) done k ∷ ls) s = ap (λ (ps : List (Value × Value)). parts.a_map ps ∷ level_values ls) (sym (pairs-more done k s))
values-given (some_value done k ∷ ls) s = ap (λ (ps : List (Value × Value)). parts.a_map ps ∷ level_values ls) (sym (pairs-more done k s))
values-given _ s = refl

pub settles-right : (ls : List Level) (s : Spelling) → IsFullRight (settle ls s)
settles-right (a_member w zero done ∷ ls) s = tt
settles-right (a_value w zero done k ∷ ls) s = tt
settles-right _ s = tt

-- from one position to another
pub tree-step : (f : List OpenValue → List OpenValue) (old new : Building Item) (x y : ParseState) → IsTreeAt old x → open_levels new ≡ f (open_levels old) → f (values_at x) ≡ values_at y → IsFullRight y → IsTreeAt new y
tree-step f old new x y h step is right = (right, step ∙ ap f h.1 ∙ is)

-- ---- a container ends

full-closed : (s : Spelling) → closed (full_value s) ≡ value_of s
full-closed (array w ss) = ap value.array (members-are ss)
full-closed (a_map w es) = ap value.map (pairs-are es)
full-closed _ = refl

pub full-ends : (s : Spelling) → IsContainer s → CanEnd (full_value s)
full-ends (array w ss) h = tt
full-ends (a_map w es) h = tt
full-ends (tag w n s) h = tt
full-ends _ h = absurd h

level-holds : (l : Level) → CanHold (level_value l)
level-holds (tagged w n) = refl
level-holds _ = tt

pub levels-take : (ls : List Level) → TakesValue (level_values ls)
levels-take [] = refl
levels-take (l ∷ ls) = level-holds l

pub may-end : (c : OpenValue) (ls : List Level) → CanEnd c → MayEnd (c ∷ level_values ls)
may-end c [] h = (h, refl)
may-end c (l ∷ ls) h = (h, level-holds l)

-- a part may begin
pub tree-takes : (os : Building Item) (ls : List Level) → IsTreeAt os (item_expected ls) → TakesValue (open_levels os)
tree-takes os ls h = subst TakesValue (sym h.1) (levels-take ls)

pub tree-may-end : (os : Building Item) (ls : List Level) (s : Spelling) → IsTreeAt os (item_full ls s) → MayEnd (open_levels os)
tree-may-end os ls s h = subst MayEnd (sym h.1) (may-end (full_value s) ls (full-ends s h.0))

pub values-ended : (ls : List Level) (s : Spelling) → close (values_at (item_full ls s)) ≡ values_at (settle ls s)
values-ended ls s = ap (λ (v : Value). give v (level_values ls)) (full-closed s) ∙ values-given ls s

pub whole-in : (os : Building Item) (s : Spelling) → IsTreeAt os (item_whole s) → IsWhole (open_levels os)
whole-in os s h = subst IsWhole (sym h.1) tt
