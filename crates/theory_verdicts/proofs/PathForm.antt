-- The position of the automaton before the item that is expected.
use Rattle.std.proofs.Common.{◌≡◌, ℕ, suc, ◌+◌, ◌-◌, ◌<◌, ◌≤◌, Bool, true, false, cond, List, [], ◌∷◌, ◌++◌, length, refl, sym, ap, ◌∙◌, subst, arith, append-nil}
use Rattle.cbor_head.specs.Prelude.{Rules, Holds, head, Spelling, Spellings, SpelledEntries, no_spellings, spell, spell_all, spell_entries, spellings_count, entries_count, IsSpelled, AreSpelled, AreEntriesSpelled, depth, depth_all, depth_entries, HoldsOrIndefinite, initial_reason}
use Rattle.cbor_head.specs.declared.major.Major.TheVariants.{Array, Map, Tag}
use Rattle.cbor_head.specs.declared.{major.Major.Major, width.Width.Width, width.Width.TheVariants.Indefinite}
use Rattle.theory_automaton.specs.Trace.{Mark, a_head, trace, trace_all}
use Rattle.theory_automaton.specs.Automaton.{Frame, counted, indefinite_array, indefinite_map, State, start, at_item, refuses, reports, close, expect, after, has_space, numbered_tail, tail, and_then, run, reached}
use Rattle.theory_automaton.proofs.Beginnings.{onwards, run-append, reporting_all-reached}
use Rattle.theory_automaton.proofs.Forward.{Leads as MembersLead, array-leads, map-leads, map-even, members-forward, forwards, close-counted, forward, head-taken, item_starts, space-above, reporting_all}
use Rattle.theory_automaton.proofs.Members.{members, members-count, members-bytes, members-spelled, members-depth}
use Rattle.theory_verdicts.specs.Path.{Level, a_member, a_key, a_value, tagged, level_bytes, IsClean, bytes_before, AreClean}
use Rattle.theory_verdicts.specs.SoFar.{array_bytes, map_bytes}

-- ---- the frames

abbrev pub container : Level → Frame
container (a_member Indefinite left done) = indefinite_array
container (a_member w left done) = counted left
container (a_key Indefinite left done) = indefinite_map false
container (a_key w left done) = counted (suc (left + left))
container (a_value Indefinite left done k) = indefinite_map true
container (a_value w left done k) = counted (left + left)
container (tagged w n) = counted 0

abbrev pub containers : List Level → List Frame
containers [] = []
containers (l ∷ ls) = container l ∷ containers ls

pub containers_count : (ls : List Level) → length (containers ls) ≡ length ls
containers_count [] = refl
containers_count (l ∷ ls) = ap suc (containers_count ls)

-- ---- from one state to another

abbrev pub Leads : ℕ → State → List ℕ → State → Type 0
Leads d q xs t = (ms : List Mark) × (run d q xs ≡ reached t ms)

module _ (d : ℕ) where
  pub leads_on : (q t u : State) (xs ys : List ℕ) → Leads d q xs t → Leads d t ys u → Leads d q (xs ++ ys) u
  unfolding onwards
  leads_on q t u xs ys a b = (a.0 ++ b.0, run-append d xs ys q ∙ ap (λ o. onwards o (λ v. run d v ys)) a.1 ∙ ap (reporting_all a.0) b.1 ∙ reporting_all-reached a.0 b.0 u)

  pub item_leads : (s : Spelling) (fs : List Frame) → IsSpelled s → depth s + length fs ≤ d → Leads d (at_item fs) (spell s) (close fs)
  item_leads s fs h b = (trace s ++ [], ap (run d (at_item fs)) (sym (append-nil (spell s))) ∙ forward d s fs [] h b ∙ reporting_all-reached (trace s) [] (close fs))

  -- the head of a container
  module _ (fs : List Frame) (space : length fs < d) where
    head_leads : (m : Major) → ((k : ℕ) → tail m k ≡ numbered_tail m k) → has_space d fs m ≡ true → (w : Width) (n : ℕ) → Holds w n → Leads d (at_item fs) (head m w n) (after false m n fs)
    head_leads m plain e w n h =
        (a_head m w n ∷ [], ap (run d (at_item fs)) (sym (append-nil (head m w n))) ∙ head-taken d (at_item fs) false m fs (item_starts d m fs plain e) w n [] h)

    is_space : has_space d fs Array ≡ true
    is_space = space-above d fs 0 (omega (arith, space))

    array_opens : Leads d (at_item fs) (head Array Indefinite 0) (at_item (indefinite_array ∷ fs))
    array_opens =
        (a_head Array Indefinite 0 ∷ [], ap (λ b. and_then (cond b (reports (a_head Array Indefinite 0) (at_item (indefinite_array ∷ fs))) (refuses (initial_reason 0x9f))) (λ t. run d t [])) is_space)

    map_opens : Leads d (at_item fs) (head Map Indefinite 0) (at_item (indefinite_map false ∷ fs))
    map_opens =
        (a_head Map Indefinite 0 ∷ [], ap (λ b. and_then (cond b (reports (a_head Map Indefinite 0) (at_item (indefinite_map false ∷ fs))) (refuses (initial_reason 0xbf))) (λ t. run d t [])) is_space)

  -- ---- complete members and pairs

  module _ (fs : List Frame) where
    -- n more follow the one after these
    abbrev more-leads : ℕ → MembersLead fs
    more-leads k = record {
      expected = λ ss. counted (spellings_count ss + suc k);
      here = λ ss. expect (spellings_count ss + suc k) fs;
      begins = λ s ss. let e : suc (spellings_count ss) + suc k ≡ suc (spellings_count ss + suc k) = omega arith in ap (λ (n : ℕ). expect n fs) e;
      closes = λ ss. close-counted (spellings_count ss + suc k) fs;
    }

    members_lead : (l : MembersLead fs) (ss : Spellings) → AreSpelled ss → depth_all ss + suc (length fs) ≤ d → Leads d (l.here ss) (spell_all ss) (l.here no_spellings)
    members_lead l ss h b = (trace_all ss ++ [], ap (run d (l.here ss)) (sym (append-nil (spell_all ss))) ∙ members-forward d fs l ss [] (forwards ss) h b ∙ reporting_all-reached (trace_all ss) [] (l.here no_spellings))

    pairs_lead : (l : MembersLead fs) (es : SpelledEntries) → AreEntriesSpelled es → depth_entries es + suc (length fs) ≤ d → Leads d (l.here (members es)) (spell_entries es) (l.here no_spellings)
    pairs_lead l es h b = subst (λ (xs : List ℕ). Leads d (l.here (members es)) xs (l.here no_spellings)) (members-bytes es) (members_lead l (members es) (members-spelled es h) (omega (arith, members-depth es, b)))

  -- ---- a level

  module _ (fs : List Frame) (space : length fs < d) where
    array_leads : (w : Width) (left : ℕ) (done : Spellings) → HoldsOrIndefinite w (spellings_count done + suc left) → AreSpelled done → depth_all done + suc (length fs) ≤ d
        → Leads d (at_item fs) (array_bytes w (spellings_count done + suc left) done) (at_item (container (a_member w left done) ∷ fs))
    array_leads Indefinite left done h i b =
        let q = at_item (indefinite_array ∷ fs) in
        leads_on (at_item fs) q q (head Array Indefinite 0) (spell_all done) (array_opens fs space) (members_lead fs (array-leads fs) done i b)
    array_leads w left done h i b =
        let n = spellings_count done + suc left in
        let last : 0 + suc left ≡ suc left = omega arith in
        leads_on (at_item fs) (expect n fs) (at_item (counted left ∷ fs)) (head Array w n) (spell_all done) (head_leads fs space Array (λ k. refl) (is_space fs space) w n h)
        (subst (λ (m : ℕ). Leads d (expect n fs) (spell_all done) (expect m fs)) last (members_lead fs (more-leads fs left) done i b))

    map_leads : (w : Width) (left : ℕ) (done : SpelledEntries) → HoldsOrIndefinite w (entries_count done + suc left) → AreEntriesSpelled done → depth_entries done + suc (length fs) ≤ d
        → Leads d (at_item fs) (map_bytes w (entries_count done + suc left) done) (at_item (container (a_key w left done) ∷ fs))
    map_leads Indefinite left done h i b =
        let q = at_item (indefinite_map false ∷ fs) in
        leads_on (at_item fs) q q (head Map Indefinite 0) (spell_entries done) (map_opens fs space)
        (subst (λ (expected : Bool). Leads d (at_item (indefinite_map expected ∷ fs)) (spell_entries done) q) (map-even done) (pairs_lead fs (map-leads fs) done i b))
    map_leads w left done h i b =
        let n = entries_count done + suc left in
        let e : spellings_count (members done) + suc (suc (left + left)) ≡ n + n = omega (arith, members-count done) in
        let last : 0 + suc (suc (left + left)) ≡ suc (suc (left + left)) = omega arith in
        leads_on (at_item fs) (expect (n + n) fs) (at_item (counted (suc (left + left)) ∷ fs)) (head Map w n) (spell_entries done) (head_leads fs space Map (λ k. refl) (is_space fs space) w n h)
        (subst (λ (m : ℕ). Leads d (expect (n + n) fs) (spell_entries done) (expect m fs)) last
        (subst (λ (m : ℕ). Leads d (expect m fs) (spell_entries done) (expect (0 + suc (suc (left + left))) fs)) e (pairs_lead fs (more-leads fs (suc (left + left))) done i b)))

    key_leads : (w : Width) (left : ℕ) (done : SpelledEntries) (k : Spelling) → IsSpelled k → depth k + suc (length fs) ≤ d
        → Leads d (at_item (container (a_key w left done) ∷ fs)) (spell k) (at_item (container (a_value w left done k) ∷ fs))
    key_leads Indefinite left done k h b = item_leads k (indefinite_map false ∷ fs) h b
    key_leads w left done k h b = item_leads k (counted (suc (left + left)) ∷ fs) h b

    level_leads : (r : Rules) (at k : ℕ) (l : Level) → k ≡ d - suc (length fs) → IsClean r at k l → Leads d (at_item fs) (level_bytes l) (at_item (container l ∷ fs))
    level_leads r at k (a_member w left done) e h = let low = h.within in array_leads w left done h.holds h.spelled (omega (arith, low, e, space))
    level_leads r at k (a_key w left done) e h = let low = h.within in map_leads w left done h.holds h.spelled (omega (arith, low, e, space))
    level_leads r at k (a_value w left done key) e h =
        leads_on (at_item fs) (at_item (container (a_key w left done) ∷ fs)) (at_item (container (a_value w left done key) ∷ fs)) (map_bytes w (entries_count done + suc left) done) (spell key)
        (map_leads w left done h.so_far.holds h.so_far.spelled (omega (arith, h.so_far.within, e, space)))
        (key_leads w left done key h.spelled (omega (arith, h.within, e, space)))
    level_leads r at k (tagged w n) e h = head_leads fs space Tag (λ k. refl) (is_space fs space) w n h.0

-- ---- the path

-- the bytes before the item lead to where it is expected
pub path_run : (r : Rules) (d : ℕ) (ls : List Level) → AreClean r d ls → (ms : List Mark) × (run d start (bytes_before ls) ≡ reached (at_item (containers ls)) ms)
path_run r d [] h = ([], refl)
path_run r d (l ∷ ls) h =
    let fs = containers ls in
    let space : length fs < d = omega (arith, h.0, containers_count ls) in
    let e : d - suc (length ls) ≡ d - suc (length fs) = omega (arith, containers_count ls) in
    leads_on d start (at_item fs) (at_item (container l ∷ fs)) (bytes_before ls) (level_bytes l) (path_run r d ls h.2)
    (level_leads d fs space r (length (bytes_before ls)) (d - suc (length ls)) l e h.1)
