-- What an accepted item is in its input, which has one verdict.
use Rattle.std.proofs.Common.{ℕ, ◌+◌, ◌-◌, ◌≡◌, ◌≢◌, ◌≤◌, List, [], ◌++◌, length, take, sym, ap, ◌∙◌, arith, append-nil, length-append, length-take, take_all}
use Rattle.std.proofs.{lemmas.List.nil_from_length, Math.Seq.take-append-add}
use Rattle.cbor_head.specs.Prelude.{Bounds, Spelling, spell, IsItem, Rules, Complaint, IsComplaint, accepted, refused, IsVerdict}
use Rattle.cbor_head.specs.declared.reason.{Reason.TheVariants.Read, Reason.TheVariants.Memory, Refusal.Refusal}
use Rattle.theory_values.proofs.{Beginnings.item_decides, OneVerdict.one_verdict}
use Rattle.theory_verdicts.specs.Readers.{IsUnread, of_verdict, of_reader, of_memory}

module _ (limits : Bounds) (r : Rules) (input : List ℕ) where
  pub one_item : (s t : Spelling) → IsVerdict limits r input (accepted s) → IsVerdict limits r input (accepted t) → s ≡ t
  one_item s t v w = let e = one_verdict limits r input (accepted s) (accepted t) v w in cc e

  pub one_refusal : (f g : Refusal) → IsVerdict limits r input (refused f) → IsVerdict limits r input (refused g) → f ≡ g
  one_refusal f g v w = let e = one_verdict limits r input (refused f) (refused g) v w in cc e

  pub not_both : (s : Spelling) (f : Refusal) → IsVerdict limits r input (accepted s) → IsVerdict limits r input (refused f) → ⊥
  not_both s f v w = let e = one_verdict limits r input (accepted s) (refused f) v w in cc e

  -- a refusal for which neither the reader nor memory is the reason
  pub verdict_only : (f : Refusal) → IsUnread limits r input f → f.reason ≢ Read → f.reason ≢ Memory → IsVerdict limits r input (refused f)
  verdict_only f (of_verdict w) x y = w
  verdict_only f (of_reader is w) x y = absurd (x (ap (λ (g : Refusal). g.reason) is))
  verdict_only f (of_memory p l m is free) x y = absurd (y (ap (λ (g : Refusal). g.reason) is))

module _ (limits : Bounds) (r : Rules) (input : List ℕ) (s : Spelling) (v : IsVerdict limits r input (accepted s)) where
  -- it is the longest beginning
  pub item_is_longest : spell s ≡ v.p
  item_is_longest = ap spell v.decides.0 ∙ v.decides.1

  splits : take limits.bytes input ≡ spell s ++ v.longest.rest
  splits = v.longest.splits ∙ ap (λ (p : List ℕ). p ++ v.longest.rest) (sym item_is_longest)

  pub item_within_limit : length (spell s) ≤ limits.bytes
  item_within_limit = omega (arith, ap length splits, length-append (spell s) v.longest.rest, length-take limits.bytes input)

  -- with nothing after it
  pub item_is_whole : length input ≤ length (spell s) → spell s ≡ input
  item_is_whole l =
      let size : length (take limits.bytes input) ≡ length (spell s) + length v.longest.rest = ap length splits ∙ length-append (spell s) v.longest.rest in
      let none : v.longest.rest ≡ [] = nil_from_length v.longest.rest (omega (arith, size, length-take limits.bytes input, l)) in
      let all : take limits.bytes input ≡ input = take_all limits.bytes input (omega (arith, l, item_within_limit)) in
      sym (append-nil (spell s)) ∙ ap (λ (x : List ℕ). spell s ++ x) (sym none) ∙ sym splits ∙ all

-- an item without complaint at the start of an input is accepted
pub prefix_accepted : (limits : Bounds) (r : Rules) (s : Spelling) (rest : List ℕ) → IsItem limits.depth s (spell s) → ((c : Complaint) → IsComplaint limits r s c → ⊥) → length (spell s) ≤ limits.bytes → IsVerdict limits r (spell s ++ rest) (accepted s)
prefix_accepted limits r s rest well_formed sound fits =
    let left = limits.bytes - length (spell s) in
    let size : limits.bytes ≡ length (spell s) + left = omega (arith, fits) in
    item_decides (IsComplaint limits r) limits (spell s ++ rest) (take left rest) s well_formed (ap (λ (k : ℕ). take k (spell s ++ rest)) size ∙ take-append-add (spell s) rest left) sound
