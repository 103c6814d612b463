-- The longest sequence that an input starts with.
use Rattle.std.proofs.Common.{ℕ, ◌≡◌, ◌≢◌, ◌↔◌, Option, Some, List, [], ◌∷◌, ◌++◌, length, take, refl, sym, ap, ◌∙◌, arith, subst, inl, append_assoc, append-nil, length-append}
use Rattle.std.{specs.Option.IfSome, specs.List.AllByRecursion, proofs.lemmas.List.nil_from_length}
use Rattle.cbor_head.specs.Prelude.{Spelling, simple, spell, value_of, IsItem, canonical, Rules, plain, strict, Bounds, accepted, refused, refusal, IsVerdict}
use Rattle.cbor_head.specs.declared.reason.Reason.TheVariants.{Read, Memory, Truncated, TooLong}
use Rattle.cbor_head.specs.declared.{order.KeyOrder.KeyOrder, reason.Refusal.Refusal}
use Rattle.theory_values.proofs.ReadLaws.{length_spell, unique}
use Rattle.theory_verdicts.specs.Readers.{BeginsWithCanonical, IsUnread, of_verdict, of_reader, of_memory}
use Rattle.theory_verdicts.proofs.CanonicalPrefixes.{strict_bytes, strict_value, strict_accepts}
use Rattle.theory_verdicts.proofs.Accepted.{one_refusal, verdict_only}
use Rattle.cbor_reader.specs.Sequence.{sequence_bytes, IsAccepted, StartsWithItems, IsLongestSequence, EndsBefore, IsAtEnd, IsRefused, Given, given_by, items_of, AreGivenBy, HasGiven}
use Rattle.cbor_reader.proofs.Sequences.{simple_is_fine, is_accepted, verdict_of, not_refused, empty_is_truncated, verdict_before, splits}
use Rattle.cbor_reader.{specs.Headline.IsValidItem, proofs.CutShort.cut}

-- ---- items

pub tree_items : (limits : Bounds) (s : Spelling) → IsAccepted limits plain s ↔ IsValidItem limits (spell s) s
tree_items limits s = ((λ a. record { well_formed = a.well_formed; valid = a.sound; fits = a.fits }), (λ a. record { well_formed = a.well_formed; sound = a.valid; fits = a.fits }))

-- the verdict on the bytes of an accepted item
alone : (limits : Bounds) (r : Rules) (s : Spelling) → IsAccepted limits r s → IsVerdict limits r (spell s) (accepted s)
alone limits r s a = subst (λ (b : List ℕ). IsVerdict limits r b (accepted s)) (append-nil (spell s)) (verdict_of limits r s [] a)

pub strict_items : (limits : Bounds) (o : KeyOrder) (s : Spelling) → IsItem limits.depth s (spell s) → IsAccepted limits (strict o) s ↔ (BeginsWithCanonical limits o (spell s) (value_of s) × (spell s ≡ canonical o (value_of s)))
strict_items limits o s i = (there, back)
  where
    there : IsAccepted limits (strict o) s → BeginsWithCanonical limits o (spell s) (value_of s) × (spell s ≡ canonical o (value_of s))
    there a = (strict_value limits o (spell s) s (alone limits (strict o) s a), strict_bytes limits o (spell s) s (alone limits (strict o) s a))

    back : BeginsWithCanonical limits o (spell s) (value_of s) × (spell s ≡ canonical o (value_of s)) → IsAccepted limits (strict o) s
    back (h, e) =
        let t = strict_accepts limits o (spell s) (value_of s) h in
        let a = is_accepted limits (strict o) (spell s) t.0 t.1 in
        let same : t.0 ≡ s = (unique t.0 s a.well_formed.spelled i.spelled _ [] (splits limits (strict o) (spell s) t.0 t.1 ∙ sym (append-nil (spell s)))).0 in
        subst (IsAccepted limits (strict o)) same a

-- ---- runs

pub starts : (b : Bounds) (input : List ℕ) → HasGiven b (Some input) input []
starts b input = record { rest = input; holds = refl; each = tt; bytes = refl }

given_by_one : (b : Bounds) (r : Rules) (given : List Given) → AllByRecursion (λ g. IsAccepted b g.rules g.item) given → AreGivenBy r given → AllByRecursion (IsAccepted b r) (items_of given)
given_by_one b r [] h a = tt
given_by_one b r (g ∷ gs) h a = (subst (λ (x : Rules). IsAccepted b x g.item) a.0 h.0, given_by_one b r gs h.1 a.1)

pub by_one : (r : Rules) (b : Bounds) (held : Option (List ℕ)) (input : List ℕ) (given : List Given) → (run : HasGiven b held input given) → AreGivenBy r given → StartsWithItems b r input (items_of given) run.rest
by_one r b held input given run a = record { each = given_by_one b r given run.each a; bytes = run.bytes }

pub one_more : (r : Rules) (given : List Given) (s : Spelling) → AreGivenBy r given → AreGivenBy r (given ++ given_by r s ∷ [])
one_more r [] s h = (refl, tt)
one_more r (g ∷ gs) s h = (h.0, one_more r gs s h.1)

-- ---- the longest

module _ (limits : Bounds) (r : Rules) where
  -- after it no item is accepted
  beginning : (items others : List Spelling) (rest following : List ℕ) (f : Refusal) → AllByRecursion (IsAccepted limits r) items → AllByRecursion (IsAccepted limits r) others
      → sequence_bytes items ++ rest ≡ sequence_bytes others ++ following → IsVerdict limits r rest (refused f) → (more : List Spelling) × (others ++ more ≡ items)
  beginning items [] rest following f h k e w = (items, refl)
  beginning [] (t ∷ ts) rest following f h k e w = absurd (not_refused limits r t (sequence_bytes ts ++ following) rest f k.0 (sym (append_assoc (spell t) (sequence_bytes ts) following) ∙ sym e) w)
  beginning (s ∷ ss) (t ∷ ts) rest following f h k e w =
      let u = unique s t h.0.well_formed.spelled k.0.well_formed.spelled (sequence_bytes ss ++ rest) (sequence_bytes ts ++ following)
      (sym (append_assoc (spell s) (sequence_bytes ss) rest) ∙ e ∙ append_assoc (spell t) (sequence_bytes ts) following) in
      let (more, is) = beginning ss ts rest following f h.1 k.1 u.1 w in
      (more, ap (λ (x : Spelling). x ∷ (ts ++ more)) (sym u.0) ∙ ap (λ (xs : List Spelling). s ∷ xs) is)

  pub longest_by : (input : List ℕ) (items : List Spelling) (rest : List ℕ) (f : Refusal) → StartsWithItems limits r input items rest → IsVerdict limits r rest (refused f) → IsLongestSequence limits r input items rest
  longest_by input items rest f h w = record { starts = h; longest = λ others following k. beginning items others rest following f h.each k.each (h.bytes ∙ sym k.bytes) w }

  -- nothing follows what ends where it ends
  same_left : (items : List Spelling) (rest following : List ℕ) → sequence_bytes items ++ rest ≡ sequence_bytes items ++ following → AllByRecursion (IsAccepted limits r) items → rest ≡ following
  same_left [] rest following e h = e
  same_left (s ∷ ss) rest following e h =
      same_left ss rest following (unique s s h.0.well_formed.spelled h.0.well_formed.spelled (sequence_bytes ss ++ rest) (sequence_bytes ss ++ following)
      (sym (append_assoc (spell s) (sequence_bytes ss) rest) ∙ e ∙ append_assoc (spell s) (sequence_bytes ss) following)).1 h.1

  pub one_longest : (input rest following : List ℕ) (items others : List Spelling) → IsLongestSequence limits r input items rest → IsLongestSequence limits r input others following → (items ≡ others) × (rest ≡ following)
  one_longest input rest following items others a b =
      let x = a.longest others following b.starts in
      let y = b.longest items rest a.starts in
      let none : y.0 ≡ [] = nil_from_length y.0 (omega (arith, ap length x.1, ap length y.1, length-append others x.0, length-append items y.0)) in
      let same : items ≡ others = sym (append-nil items) ∙ ap (λ (xs : List Spelling). items ++ xs) (sym none) ∙ y.1 in
      (same, same_left items rest following (a.starts.bytes ∙ sym b.starts.bytes ∙ ap (λ (xs : List Spelling). sequence_bytes xs ++ following) (sym same)) a.starts.each)

module _ (b : Bounds) (held to : Option (List ℕ)) (input : List ℕ) (given : List Given) (run : HasGiven b held input given) where
  ended_so : IsAtEnd b.bytes held to → EndsBefore b.bytes run.rest
  ended_so e = subst (λ (x : Option (List ℕ)). IfSome x (EndsBefore b.bytes)) run.holds e.ends

  pub longest_at_end : (r : Rules) → AreGivenBy r given → IsAtEnd b.bytes held to → IsLongestSequence b r input (items_of given) []
  longest_at_end r a e =
      let (none, l) = ended_so e in
      longest_by b r input (items_of given) [] (refusal Truncated 0 0) (subst (StartsWithItems b r input (items_of given)) none (by_one r b held input given run a)) (empty_is_truncated b r l)

  pub whole_at_end : IsAtEnd b.bytes held to → sequence_bytes (items_of given) ≡ input
  whole_at_end e = sym (append-nil (sequence_bytes (items_of given))) ∙ ap (λ (x : List ℕ). sequence_bytes (items_of given) ++ x) (sym (ended_so e).0) ∙ run.bytes

  pub verdict_on_rest : (r : Rules) (f : Refusal) → IsRefused r b held to f → f.reason ≢ Read → f.reason ≢ Memory → IsVerdict b r run.rest (refused f)
  verdict_on_rest r f u x y = verdict_only b r run.rest f (subst (λ (x : Option (List ℕ)). IfSome x (λ rest. IsUnread b r rest f)) run.holds u.unread) x y

  pub longest_at_refusal : (r : Rules) (f : Refusal) → AreGivenBy r given → IsRefused r b held to f → f.reason ≢ Read → f.reason ≢ Memory → IsLongestSequence b r input (items_of given) run.rest
  longest_at_refusal r f a u x y = longest_by b r input (items_of given) run.rest f (by_one r b held input given run a) (verdict_on_rest r f u x y)

-- ---- no item

pub ends_exactly : (limits : Bounds) (r : Rules) (input : List ℕ) → EndsBefore limits.bytes input ↔ IsVerdict limits r input (refused (refusal Truncated 0 0))
ends_exactly limits r input = ((λ (e, l). subst (λ (b : List ℕ). IsVerdict limits r b (refused (refusal Truncated 0 0))) (sym e) (empty_is_truncated limits r l)), (λ w. verdict_before limits r input (refusal Truncated 0 0) w (refl, refl)))

pub no_bytes : (limits : Bounds) (r : Rules) (input : List ℕ) → limits.bytes ≡ 0 → IsVerdict limits r input (refused (refusal TooLong 0 0))
no_bytes limits r input zero =
    cut limits r input (simple 0) [] (spell (simple 0)) (refusal TooLong 0 0) (record { spelled = omega arith; within = omega arith; bytes_are = refl }) (simple_is_fine limits r 0) (length_spell (simple 0)) (ap (λ (n : ℕ). take n input) zero)
    (inl (sym zero, ap (λ (n : ℕ). refusal TooLong n n) (sym zero)))

pub no_bytes_reported : (limits : Bounds) (r : Rules) (input : List ℕ) (f : Refusal) → limits.bytes ≡ 0 → IsUnread limits r input f → f.reason ≢ Memory → f ≡ refusal TooLong 0 0
no_bytes_reported limits r input f zero (of_verdict w) y = one_refusal limits r input f (refusal TooLong 0 0) w (no_bytes limits r input zero)
no_bytes_reported limits r input f zero (of_reader is w) y =
    let h = one_refusal limits r (take f.read input) (refusal Truncated f.read f.read) (refusal TooLong 0 0) w (no_bytes limits r (take f.read input) zero) in
    absurd (apart (ap (λ (g : Refusal). g.reason) h))
  where
    apart : Truncated ≡ TooLong → ⊥
    apart e = cc e
no_bytes_reported limits r input f zero (of_memory p l m is free) y = absurd (y (ap (λ (g : Refusal). g.reason) is))
