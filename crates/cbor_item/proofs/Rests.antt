-- What is left of open containers, step by step.
use Rattle.std.proofs.Common.{◌≡◌, List, [], ◌∷◌, ◌++◌, map, reverse, ap, ◌∙◌}
use Rattle.std.proofs.lemmas.List.{reverse-append}
use Rattle.cbor_head.specs.Prelude.{Value}
use Rattle.cbor_item.specs.{inner.Rest.left, inner.Rest.left_of_all, declared.rest.Rest.Rest}

-- one more is open
pub pushed : {N : Type 0} (see : N → Value) (r s : Rest N) (rs rs' : List (Rest N)) → rs' ≡ rs ++ s ∷ [] → left_of_all see r rs' ≡ left see r ∷ left_of_all see s rs
pushed see r s rs rs' e = ap (λ (ts : List (Rest _)). left see r ∷ map (left see) (reverse ts)) e ∙ ap (λ (ts : List (Rest _)). left see r ∷ map (left see) ts) (reverse-append rs (s ∷ []))

-- the innermost has ended
pub popped : {N : Type 0} (see : N → Value) (r s : Rest N) (rs rs' : List (Rest N)) → left see r ≡ [] → rs ≡ rs' ++ s ∷ [] → left_of_all see r rs ≡ [] ∷ left_of_all see s rs'
popped see r s rs rs' none e = pushed see r s rs' rs e ∙ ap (λ (vs : List Value). vs ∷ left_of_all see s rs') none
