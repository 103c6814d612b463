-- What a prefix of the input decides about its first item, whatever follows: all except that the input ends
-- within it.
use Rattle.std.proofs.Common.{ℕ, ◌+◌, ◌-◌, ◌≡◌, ◌≢◌, inl, inr, List, [], ◌∷◌, ◌++◌, length, take, refl, sym, ap, ◌∙◌, arith, subst, append_assoc, append-nil, length-append, length-take, take_all}
use Rattle.std.proofs.{lemmas.Bool.cases_lt, lemmas.List.take-append-le, Math.Seq.take-append-add}
use Rattle.cbor_head.specs.Prelude.{IsLongestBeginning, Rules, Complaint, IsComplaint, Bounds, Spelling, spell, IsItem, Decision, accepted, refused, refusal, IsFormError, IsVerdict}
use Rattle.cbor_head.specs.{Laws.IsFirstComplaint, Laws.IsWithout, declared.reason.Reason.TheVariants.Truncated, declared.reason.Refusal.Refusal}
use Rattle.theory_values.proofs.{Agree.split_prefix, Complaints.complaints_reported, Complaints.first_for_each, Verdicts.whole_longest}
use Rattle.theory_automaton.proofs.Longest.{longest_if_refused}
use Rattle.theory_verdicts.proofs.{Decisions.first_further, SpelledBytes.longest_always}

-- a verdict that needs no more bytes
abbrev pub IsFinal : Decision → Type 0
IsFinal (accepted s) = Unit {0}
IsFinal (refused f) = f.reason ≢ Truncated

-- the longest beginning, if a byte that may not follow it comes after it
stopped_longest : (d : ℕ) (p : List ℕ) (c : ℕ) (cs more : List ℕ) → IsLongestBeginning d (p ++ c ∷ cs) p → IsLongestBeginning d (p ++ c ∷ (cs ++ more)) p
stopped_longest d p c cs more l = longest_if_refused d p c (cs ++ more) l.beginning (λ f. omega (arith, length-append p (c ∷ []), l.longest (p ++ c ∷ []) cs f (sym (append_assoc p (c ∷ []) cs))))

module _ (limits : Bounds) (rules : Rules) (prefix following : List ℕ) where
  -- the bytes within the limit go on so, if at all
  pub more : List ℕ
  more = take (limits.bytes - length prefix) following

  within : take limits.bytes (prefix ++ following) ≡ take limits.bytes prefix ++ more
  unfolding more
  within = elim (cases_lt (length prefix) limits.bytes) [
    | inl l ↦
        let sum : length prefix + (limits.bytes - length prefix) ≡ limits.bytes = omega (arith, l) in
        let all : take limits.bytes prefix ≡ prefix = take_all limits.bytes prefix (omega (arith, l)) in
        ap (λ (n : ℕ). take n (prefix ++ following)) (sym sum) ∙ take-append-add prefix following (limits.bytes - length prefix)
        ∙ ap (λ (xs : List ℕ). xs ++ take (limits.bytes - length prefix) following) (sym all)
    | inr l ↦
        let none : limits.bytes - length prefix ≡ 0 = omega (arith, l) in
        take-append-le limits.bytes prefix following l ∙ sym (append-nil (take limits.bytes prefix)) ∙ ap (λ (n : ℕ). take limits.bytes prefix ++ take n following) (sym none)
  ]

  pub splits_further : (p rest : List ℕ) → take limits.bytes prefix ≡ p ++ rest → take limits.bytes (prefix ++ following) ≡ p ++ (rest ++ more)
  splits_further p rest e = within ∙ ap (λ (xs : List ℕ). xs ++ more) e ∙ append_assoc p rest more

  full : length (take limits.bytes prefix) ≡ limits.bytes → take limits.bytes (prefix ++ following) ≡ take limits.bytes prefix
  full e = take-append-le limits.bytes prefix following (omega (arith, e, length-take limits.bytes prefix))

  accepted_further : (s : Spelling) → IsVerdict limits rules prefix (accepted s) → IsVerdict limits rules (prefix ++ following) (accepted s)
  accepted_further s v =
      let splits = splits_further v.p v.longest.rest v.longest.splits ∙ ap (λ (xs : List ℕ). xs ++ (v.longest.rest ++ more)) (sym v.decides.1) in
      record {
        p = spell v.item;
        longest = whole_longest limits.depth v.item (take limits.bytes (prefix ++ following)) (v.longest.rest ++ more)
            (record { spelled = v.starts.spelled; within = v.starts.within; bytes_are = refl }) splits;
        item = v.item;
        rest = [];
        starts = record { spelled = v.starts.spelled; within = v.starts.within; bytes_are = sym (append-nil (spell v.item)) };
        decides = (v.decides.0, refl, subst (λ (xs : List ℕ). IsWithout limits rules v.item (length xs)) (sym v.decides.1) v.decides.2);
      }

  complaint_further : (f : Refusal) (v : IsVerdict limits rules prefix (refused f)) (c : Complaint) → IsFirstComplaint limits rules v.item (length v.p) c → f ≡ refusal c.reason c.place c.end
      → IsVerdict limits rules (prefix ++ following) (refused f)
  complaint_further f v c first is =
      let (q, g) = longest_always limits.depth (take limits.bytes (prefix ++ following)) in
      let splits = splits_further v.p v.longest.rest v.longest.splits in
      let l = g.longest v.p (v.longest.rest ++ more) v.longest.beginning splits in
      let (k, e, h) = split_prefix v.p (v.longest.rest ++ more) q g.rest (sym splits ∙ g.splits) l in
      let (t, z, i) = g.beginning in
      let m : IsItem limits.depth t (v.p ++ (k ++ z)) = subst (IsItem limits.depth t) (ap (λ (xs : List ℕ). xs ++ z) e ∙ append_assoc v.p k z) i in
      let there = first_for_each (IsComplaint limits rules) (complaints_reported limits rules) limits.depth v.item t v.p v.rest (k ++ z) v.starts m c first in
      record { p = q; longest = g; item = t; rest = z; starts = i; decides = inl (c, first_further (IsComplaint limits rules t) (length v.p) (length q) c l there, is) }

  form_further : (f : Refusal) (v : IsVerdict limits rules prefix (refused f)) → IsWithout limits rules v.item (length v.p) → spell v.item ≢ v.p → (rest : List ℕ) → v.longest.rest ≡ rest
      → IsFormError limits v.p rest f → f.reason ≢ Truncated → IsVerdict limits rules (prefix ++ following) (refused f)
  form_further f v none apart (c ∷ cs) e h not_cut =
      let splits : take limits.bytes prefix ≡ v.p ++ c ∷ cs = v.longest.splits ∙ ap (λ (xs : List ℕ). v.p ++ xs) e in
      let further : take limits.bytes (prefix ++ following) ≡ v.p ++ c ∷ (cs ++ more) = splits_further v.p (c ∷ cs) splits in
      let stopped = stopped_longest limits.depth v.p c cs more (record {
        beginning = v.longest.beginning;
        rest = c ∷ cs;
        splits = refl;
        longest = λ q r b g. v.longest.longest q r b (splits ∙ g);
      }) in
      record {
        p = v.p;
        longest = record {
          beginning = v.longest.beginning;
          rest = c ∷ (cs ++ more);
          splits = further;
          longest = λ q r b g. stopped.longest q r b (sym further ∙ g);
        };
        item = v.item;
        rest = v.rest;
        starts = v.starts;
        decides = inr (none, apart, h);
      }
  form_further f v none apart [] e (inl h) not_cut =
      let whole : take limits.bytes prefix ≡ v.p = v.longest.splits ∙ ap (λ (xs : List ℕ). v.p ++ xs) e ∙ append-nil v.p in
      let same : take limits.bytes (prefix ++ following) ≡ take limits.bytes prefix = full (ap length whole ∙ h.0) in
      record {
        p = v.p;
        longest = record {
          beginning = v.longest.beginning;
          rest = v.longest.rest;
          splits = same ∙ v.longest.splits;
          longest = λ q r b g. v.longest.longest q r b (sym same ∙ g);
        };
        item = v.item;
        rest = v.rest;
        starts = v.starts;
        decides = v.decides;
      }
  form_further f v none apart [] e (inr h) not_cut = absurd (not_cut (ap (λ (g : Refusal). g.reason) h.1))

  refused_further : (f : Refusal) → IsVerdict limits rules prefix (refused f) → f.reason ≢ Truncated → IsVerdict limits rules (prefix ++ following) (refused f)
  refused_further f v not_cut = elim v.decides [
    | inl h ↦ complaint_further f v h.0 h.1 h.2
    | inr h ↦ form_further f v h.0 h.1 v.longest.rest refl h.2 not_cut
  ]

  -- the verdict on a prefix is that on the whole, unless the prefix ends within the item
  pub further : (a : Decision) → IsVerdict limits rules prefix a → IsFinal a → IsVerdict limits rules (prefix ++ following) a
  further (accepted s) v final = accepted_further s v
  further (refused f) v final = refused_further f v final
