-- A valid item, given to a sink: how an item's end changes the open containers, and the break.
use Rattle.std.proofs.Common.{◌≡◌, ℕ, Bool, zero, suc, ◌-◌, ◌^◌, ◌<◌, ◌≤◌, true, false, Some, None, List, [], ◌∷◌, ◌++◌, length, map, refl, sym, ap, ap₂, ◌∙◌, subst, arith, inl, inr, append_assoc, length-append}
use Rattle.cbor_head.specs.Prelude.{canonical, head, Spelling, array, a_map, tag, no_spellings, a_spelling, no_entries, entry, spell, spell_all, spell_entries, value_of, IsSpelled, depth}
use Rattle.cbor_head.specs.declared.major.Major.TheVariants as majors
use Rattle.cbor_head.specs.declared.{order.KeyOrder.TheVariants.Bytewise, width.Width.TheVariants.Indefinite}
use Rattle.theory_values.specs.Parts as parts
use Rattle.theory_verdicts.proofs.Levels.{spelled-all, within-all, pairs-spelled, pairs-within, pairs-more}
use Rattle.theory_verdicts.specs.Levels.{IsTaken, Level, a_member, a_key, a_value, some_member, some_key, some_value, tagged, frame, AreLevels, bytes_before, ParseState, item_expected, item_full, settle}
use Rattle.theory_verdicts.proofs.PathSteps.{member_count, pair_count, last_member, last_pair}
use Rattle.theory_verdicts.{proofs.Given.settled, specs.Frame.with_all, specs.Frame.with_entries, specs.Given.opens, specs.Given.AgreesAt, specs.Place.close}
use Rattle.cbor_parser.specs.Sink.{is_map, IsEndedAs, AgreesAsFull}
use Rattle.cbor_parser.specs.inner.Parser.{IsExpected, HasEnded, IsCellFull, HasFilled}
use Rattle.cbor_parser.specs.inner.OpenContainer.{counted, opener, full_opener, bytes_after_head, cell_of, cells_of, after}
use Rattle.cbor_parser.proofs.GivenParts.{cells-count, cell-is, cells-are}
use Rattle.cbor_parser.specs.inner.OpenContainer.{Cell}
use Rattle.cbor_parser.specs.{Expected.pairs, declared.container.Expected.TheVariants.Item, declared.container.Expected.TheVariants.Value}
use Rattle.cbor_parser.specs.inner.OpenMaps.{HasTakenPairs}

pub cell-following : (following : ℕ) (l : Level) → (cell_of following l).kept ≡ following
cell-following following (a_member w left done) = refl
cell-following following _ = refl

some-is : (x y : Cell) → Some x ≡ Some y → x ≡ y
some-is x y e = cc

module _ (S : Type 0) (agrees : S → S → ParseState → Type 0) (trusts : Bool) (start : S) (d : ℕ) (input : List ℕ) where
  begins-there : (l : Level) (ls : List Level) (item : Spelling) → opener l ≡ full_opener item → (cell_of (bytes_after_head (length input) ls l) l).kept ≡ length input - length (bytes_before ls ++ full_opener item)
  begins-there l ls item heads = cell-following (bytes_after_head (length input) ls l) l ∙ ap (λ (x : List ℕ). length input - length (bytes_before ls ++ x)) heads

  -- it has a cell, and so others are around it
  filled : (top : Cell) (cs : List Cell) (g : S) (rest : List ℕ) → IsCellFull S agrees trusts (AgreesAsFull S agrees d start g) d input top cs rest → HasFilled S agrees trusts start d input (top ∷ cs) g rest
  filled top [] g rest s = absurd (omega (arith, ap length s.cells, cells-count (length input) s.ls))
  filled top (c ∷ cs) g rest s = s

  -- ---- after an item

  module _ (c : Cell) (cs : List Cell) (g : S) (rest : List ℕ) (h : HasEnded S agrees trusts start d input (c ∷ cs) g rest) where
    short : (ls : List Level) → input ≡ (bytes_before ls ++ spell h.item) ++ rest → length (bytes_before ls ++ spell h.item) < 2 ^ 64
    short ls e = let small = h.small in omega (arith, small, ap length e, length-append (bytes_before ls ++ spell h.item) rest)

    no-more : (x : Cell) → None ≡ Some x → ⊥
    no-more x e = cc

    abbrev levels-with : List Level → Type 0
    levels-with ls = AreLevels d ls × IsTaken (d - length ls) h.item × (c ∷ cs ≡ cells_of (length input) ls) × agrees start g (settle ls h.item) × (input ≡ (bytes_before ls ++ spell h.item) ++ rest)

    -- what the builder of canonical bytes would hold; here its containers and bytes are needed
    abbrev IsSettled : List Level → ParseState → Type 0
    IsSettled ls = AgreesAt Bytewise d (bytes_before ls ++ spell h.item) (close (map frame ls)) (parts.give (canonical Bytewise (value_of h.item)) (opens Bytewise ls)) (length ls)

    settle-here : (ls : List Level) → levels-with ls → IsSettled ls (settle ls h.item)
    settle-here ls k = settled Bytewise d ls h.item k.0 k.1 (short ls k.4)

    ended : levels-with h.ls
    ended = (h.levels, record { spelled = h.spelled; within = h.within; clean = h.given.0 }, h.cells, h.given.1, h.bytes)

    pub goes : (new : Cell) → after c ≡ Some new → IsExpected S agrees trusts start d input (new ∷ cs) g rest
    goes new e = go h.ls ended
      where
        on : (l : Level) (ls : List Level) (k : levels-with (l ∷ ls)) → after (cell_of (bytes_after_head (length input) ls l) l) ≡ Some new
        on l ls k = ap after (sym (cell-is (length input) l ls k.2)) ∙ e

        -- another item is expected
        goes-on : (l : Level) (ls : List Level) (m : Level) → levels-with (l ∷ ls) → settle (l ∷ ls) h.item ≡ item_expected (m ∷ ls) → after (cell_of (bytes_after_head (length input) ls l) l) ≡ Some (cell_of (bytes_after_head (length input) ls l) m) → opener l ≡ opener m
            → IsExpected S agrees trusts start d input (new ∷ cs) g rest
        goes-on l ls m k settled f heads =
            let there = subst (IsSettled (l ∷ ls)) settled (settle-here (l ∷ ls) k) in
            let cell = some-is new (cell_of (bytes_after_head (length input) ls l) m) (sym (on l ls k) ∙ f) ∙ ap (λ (x : List ℕ). cell_of (length input - length (bytes_before ls ++ x)) m) heads in
            record {
              ls = m ∷ ls;
              levels = there.0;
              cells = ap₂ (λ (x : Cell) (xs : List Cell). x ∷ xs) cell (cells-are (length input) l ls k.2);
              given = subst (agrees start g) settled k.3;
              bytes = k.4 ∙ ap (λ (x : List ℕ). x ++ rest) there.1;
              small = h.small;
              known = h.known;
            }

        go : (ls : List Level) → levels-with ls → IsExpected S agrees trusts start d input (new ∷ cs) g rest
        go [] k = let same : c ≡ counted Item 0 0 = cc in absurd (no-more new (ap after (sym same) ∙ e))
        go (a_member w (suc n) done ∷ ls) k = goes-on (a_member w (suc n) done) ls (a_member w n (with_all done (a_spelling h.item no_spellings))) k refl refl (ap (head majors.Array w) (member_count done h.item n))
        go (some_member done ∷ ls) k = goes-on (some_member done) ls (some_member (with_all done (a_spelling h.item no_spellings))) k refl refl refl
        go (a_key w n done ∷ ls) k = goes-on (a_key w n done) ls (a_value w n done h.item) k refl refl refl
        go (some_key done ∷ ls) k = goes-on (some_key done) ls (some_value done h.item) k refl refl refl
        go (a_value w (suc n) done key ∷ ls) k = goes-on (a_value w (suc n) done key) ls (a_key w n (with_entries done (entry key h.item no_entries))) k refl refl (ap (head majors.Map w) (pair_count done key h.item n))
        go (some_value done key ∷ ls) k = goes-on (some_value done key) ls (some_key (with_entries done (entry key h.item no_entries))) k refl refl refl
        go (l ∷ ls) k = absurd (no-more new (on l ls k))

    -- nothing is expected in it; its cell may be another, of the same kind, which begins there
    module _ (new : Cell) (same_kind : pairs new.expected ≡ pairs c.expected) (same_place : new.kept ≡ c.kept) where
      fills : (l : Level) (ls : List Level) → levels-with (l ∷ ls) → (item : Spelling) → settle (l ∷ ls) h.item ≡ item_full ls item → pairs (cell_of (bytes_after_head (length input) ls l) l).expected ≡ is_map item → opener l ≡ full_opener item → HasTakenPairs (d - suc (length ls)) item
          → HasFilled S agrees trusts start d input (new ∷ cs) g rest
      fills l ls k item settled kind heads taken =
          let there = subst (IsSettled (l ∷ ls)) settled (settle-here (l ∷ ls) k) in
          let cell = cell-is (length input) l ls k.2 in
          filled new cs g rest (record {
            ls = ls;
            item = item;
            levels = there.0;
            spelled = there.3.1.spelled;
            within = there.3.1.within;
            cells = cells-are (length input) l ls k.2;
            given = (
              inl (subst (agrees start g) settled k.3),
              record {
                kind = same_kind ∙ ap (λ (x : Cell). pairs x.expected) cell ∙ kind;
                place = same_place ∙ ap (λ (x : Cell). x.kept) cell ∙ begins-there l ls item heads;
                taken = taken;
              },
            );
            bytes = k.4 ∙ ap (λ (x : List ℕ). x ++ rest) there.1;
            small = h.small;
            known = h.known;
          })

      pub is-full : after c ≡ None → HasFilled S agrees trusts start d input (new ∷ cs) g rest
      is-full e = go h.ls ended
        where
          go : (ls : List Level) → levels-with ls → HasFilled S agrees trusts start d input (new ∷ cs) g rest
          go [] k =
              let none : cs ≡ [] = cc in
              let low : d - 0 ≡ d = omega arith in
              subst (λ (x : List Cell). HasFilled S agrees trusts start d input (new ∷ x) g rest) (sym none) (record { item = h.item; taken = subst (λ (n : ℕ). IsTaken n h.item) low k.1; given = k.3; bytes = k.4 })
          go (a_member w zero done ∷ ls) k = fills (a_member w zero done) ls k (array w (with_all done (a_spelling h.item no_spellings))) refl refl (ap (head majors.Array w) (sym (last_member done h.item))) tt
          go (a_value w zero done key ∷ ls) k =
              let taken = pairs-more (d - suc (length ls)) done key h.item k.0.1.1 k.0.1.2 k.1 in
              fills (a_value w zero done key) ls k (a_map w (with_entries done (entry key h.item no_entries))) refl refl (ap (head majors.Map w) (sym (last_pair done key h.item))) taken
          go (tagged w n ∷ ls) k = fills (tagged w n) ls k (tag w n h.item) refl refl refl tt
          go (l ∷ ls) k = absurd (cc (ap after (sym (cell-is (length input) l ls k.2)) ∙ e))

  -- ---- a break

  module _ (c : Cell) (cs : List Cell) (g : S) (following : List ℕ) (s : IsExpected S agrees trusts start d input (c ∷ cs) g (0xff ∷ following)) (open_ended : c.is_indefinite ≡ true) where
    -- the innermost container is complete
    pub break-ends : (c.expected ≡ Value → ⊥) → HasFilled S agrees trusts start d input (c ∷ cs) g following
    break-ends no_value = filled c cs g following (go s.ls s.levels s.cells s.given s.bytes)
      where
        regroup : (ls : List Level) (xs : List ℕ) → input ≡ (bytes_before ls ++ xs) ++ 0xff ∷ following → input ≡ (bytes_before ls ++ (xs ++ (0xff ∷ []))) ++ following
        regroup ls xs e = e ∙ sym (append_assoc (bytes_before ls ++ xs) (0xff ∷ []) following) ∙ ap (λ (x : List ℕ). x ++ following) (append_assoc (bytes_before ls) xs (0xff ∷ []))

        ended : (l : Level) (ls : List Level) (item : Spelling) (xs : List ℕ) → pairs (cell_of (bytes_after_head (length input) ls l) l).expected ≡ is_map item → opener l ≡ full_opener item → spell item ≡ xs ++ (0xff ∷ []) → IsSpelled item → depth item ≤ d - length ls → HasTakenPairs (d - suc (length ls)) item → AreLevels d (l ∷ ls) → c ∷ cs ≡ cells_of (length input) (l ∷ ls)
            → input ≡ (bytes_before ls ++ xs) ++ 0xff ∷ following → IsEndedAs l item → agrees start g (item_expected (l ∷ ls)) → IsCellFull S agrees trusts (AgreesAsFull S agrees d start g) d input c cs following
        ended l ls item xs reported heads is spelled within taken levels e b whole given =
            let same = cell-is (length input) l ls e in
            record {
              ls = ls;
              item = item;
              levels = levels.2;
              spelled = spelled;
              within = within;
              cells = cells-are (length input) l ls e;
              given = (
                inr (l, whole, levels, given),
                record {
                  kind = ap (λ (x : Cell). pairs x.expected) same ∙ reported;
                  place = ap (λ (x : Cell). x.kept) same ∙ begins-there l ls item heads;
                  taken = taken;
                },
              );
              bytes = regroup ls xs b ∙ ap (λ (x : List ℕ). (bytes_before ls ++ x) ++ following) (sym is);
              small = s.small;
              known = s.known;
            }

        go : (ls : List Level) → AreLevels d ls → c ∷ cs ≡ cells_of (length input) ls → agrees start g (item_expected ls) → input ≡ bytes_before ls ++ 0xff ∷ following → IsCellFull S agrees trusts (AgreesAsFull S agrees d start g) d input c cs following
        go [] h e f b = let same : c ≡ counted Item 0 0 = cc in let x : false ≡ true = ap (λ (x : Cell). x.is_indefinite) (sym same) ∙ open_ended in absurd (cc x)
        go (some_member done ∷ ls) h e f b =
            ended (some_member done) ls (array Indefinite done) (head majors.Array Indefinite 0 ++ spell_all done) refl refl refl (tt, spelled-all (d - suc (length ls)) done h.1) (omega (arith, h.0, within-all (d - suc (length ls)) done h.1)) tt h e b refl f
        go (some_key done ∷ ls) h e f b =
            ended (some_key done) ls (a_map Indefinite done) (head majors.Map Indefinite 0 ++ spell_entries done) refl refl refl (tt, pairs-spelled (d - suc (length ls)) done h.1) (omega (arith, h.0, pairs-within (d - suc (length ls)) done h.1)) h.1 h e b refl f
        go (some_value done k ∷ ls) h e f b = absurd (no_value (ap (λ (x : Cell). x.expected) (cell-is (length input) (some_value done k) ls e)))
        go (l ∷ ls) h e f b = absurd (cc (ap (λ (x : Cell). x.is_indefinite) (sym (cell-is (length input) l ls e)) ∙ open_ended))
