-- What ends after a part: the containers that are full, and the item, or a key that came before.
use Rattle.std.proofs.Common.{Vec, Global, ◌≡◌, ℕ, zero, suc, ◌+◌, ◌-◌, ◌^◌, ◌<◌, ◌≤◌, Bool, true, Option, Some, List, [], ◌∷◌, ◌++◌, length, map, slice_get, refl, sym, ap, ap₂, ◌∙◌, subst, arith, append_assoc, nat_lt, length-append}
use Rattle.std.proofs.lemmas.List.{length-map}
use Rattle.cbor_head.specs.Prelude.{canonical, canonical_entries, entries_of, Bounds, Spelling, SpelledEntries, spell, value_of, plain, refusal}
use Rattle.cbor_head.specs.Complaint as complaint
use Rattle.cbor_head.specs.declared.{order.KeyOrder.KeyOrder, reason.Reason.TheVariants.RepeatedKey, reason.Refusal.Refusal}
use Rattle.theory_values.specs.Parts.{IsInContainer, Open, plain as a_plain, give, close as close_open}
use Rattle.cbor_machine.specs.NextEvent.{ItemEventsView}
use Rattle.cbor_builder.specs.Built.{Built, built, HasKey, IsRepeatedKey, HasDistinctKeysSoFar}
use Rattle.cbor_item.specs.OpenValues as trees
use Rattle.cbor_item.specs.{declared.item.Item.Item, OpenValues.Building, OpenValues.MayEnd}
use Rattle.theory_verdicts.specs.Place.{Place, at_item, close, done as at_end, open_at}
use Rattle.theory_verdicts.specs.Levels.{IsTaken, Level, a_key, a_value, some_key, some_value, frame, AreLevels, bytes_before, ParseState, item_expected, item_full, item_whole, settle}
use Rattle.theory_verdicts.specs.Given.{level_open, opens, AgreesAt}
use Rattle.theory_verdicts.proofs.ParseState.{open-is, fewer-open, short-at}
use Rattle.theory_verdicts.{specs.Judged.IsJudged, specs.Reading.HasCause, proofs.Given.settled, proofs.Scalars.at-as, proofs.Items.whole-cause}
use Rattle.theory_verdicts.proofs.Steps.{at-reached}
use Rattle.cbor_parser.specs.Sink.{IsKeyAfter}
use Rattle.cbor_tree_reader.specs.inner.ItemPrefix.{IsExpectedAt, IsWholeAt, GoesOnOrNot}
use Rattle.cbor_tree_reader.specs.inner.TreeItems.{AreApart, AreApartSoFar, HaveBegun, HaveBegunIn, HasItsPlace, IsEndingAt, sets}
use Rattle.cbor_tree_reader.proofs.TreeValues.{values-ended, settles-right, tree-step, tree-may-end}
use Rattle.cbor_tree_reader.proofs.Paths.{closed-apart, apart-now, ends-apart, settled-begun, settled-place}
use Rattle.cbor_tree_reader.specs.{declared.tree_items.TreeItems.TreeItems, declared.key_set.KeySet.KeySet, inner.HeldKeys.AreHeld, inner.HeldKeys.AreHeldSoFar}
use Rattle.cbor_tree_reader.{proofs.HeldKeys.held-popped, proofs.HeldKeys.some-opens, specs.TreeValues.IsTreeAt, proofs.PathFrames.repeat_found}
use Rattle.cbor_tree_reader.proofs.PartPlaces.{agrees-as}

-- ---- containers that end

module _ (v : TreeItems) (b : Bounds) (e : ItemEventsView) (t : List ℕ) (height : ℕ) (h : IsEndingAt v b e t height) where
  counts : e.machine.open_count ≡ length (open_at h.q)
  counts = open-is b e t h.q h.at

  full-count : (ls : List Level) → h.q ≡ close (map frame ls) → e.machine.open_count ≤ length ls
  full-count ls f = omega (arith, counts, ap (λ (p : Place). length (open_at p)) f, fewer-open (map frame ls), length-map ls frame)

  expected-count : (ls : List Level) → h.q ≡ at_item (map frame ls) → e.machine.open_count ≡ length ls
  expected-count ls f = counts ∙ ap (λ (p : Place). length (open_at p)) f ∙ length-map ls frame

  -- more are open in the builder: the innermost is to end
  pub ends-next : e.machine.open_count < height → IsInContainer v.builder.open_levels × HasDistinctKeysSoFar v.builder.open_levels
  ends-next more = go h.open_levels h.agrees
    where
      apart : (os : List Open) → AreApartSoFar os → HasDistinctKeysSoFar os
      apart [] x = tt
      apart (c ∷ os) x = ends-apart c x.0

      go : (x : ParseState) → AgreesAt v.builder.order b.depth t h.q v.builder.open_levels height x → IsInContainer v.builder.open_levels × HasDistinctKeysSoFar v.builder.open_levels
      go (item_expected ls) s = absurd (omega (arith, more, expected-count ls s.2, s.4))
      go (item_full [] u) s = (subst IsInContainer (sym s.3.2) (s.3.1.container (a_plain []) []), apart v.builder.open_levels h.apart)
      go (item_full (l ∷ ls) u) s = (subst IsInContainer (sym s.3.2) (s.3.1.container (level_open v.builder.order l) (opens v.builder.order ls)), apart v.builder.open_levels h.apart)
      go (item_whole u) s = absurd (omega (arith, more, s.4))

  pub ends-in-tree : e.machine.open_count < height → MayEnd (trees.open_levels v.tree)
  ends-in-tree more = go h.open_levels h.agrees h.tree
    where
      go : (x : ParseState) → AgreesAt v.builder.order b.depth t h.q v.builder.open_levels height x → IsTreeAt v.tree x → MayEnd (trees.open_levels v.tree)
      go (item_expected ls) s tree = absurd (omega (arith, more, expected-count ls s.2, s.4))
      go (item_full ls u) s tree = tree-may-end v.tree ls u tree
      go (item_whole u) s tree = absurd (omega (arith, more, s.4))

  pub ends-one : e.machine.open_count < height → (now : TreeItems) → now.builder ≡ built v.builder.order (close_open v.builder.order v.builder.open_levels) → now.starts ≡ v.starts → now.kinds ≡ v.kinds → trees.open_levels now.tree ≡ trees.close (trees.open_levels v.tree)
      → ((s u : KeySet) (ss : List KeySet) → sets v ≡ s ∷ u ∷ ss → sets now ≡ u ∷ ss) → IsEndingAt now b e t (height - 1)
  ends-one more now is starts same_kinds step popped = go h.open_levels h.agrees h.begun h.place h.tree
    where
      o : KeyOrder
      o = v.builder.order

      apart-so : AreApartSoFar now.builder.open_levels
      apart-so = subst AreApartSoFar (sym (ap (λ (g : Built). g.open_levels) is)) (closed-apart v.builder.order v.builder.open_levels h.apart)

      go : (x : ParseState) → AgreesAt v.builder.order b.depth t h.q v.builder.open_levels height x → HaveBegunIn v.starts.items x → HasItsPlace v.starts.items x → IsTreeAt v.tree x → IsEndingAt now b e t (height - 1)
      go (item_expected ls) s begun place tree = absurd (omega (arith, more, expected-count ls s.2, s.4))
      go (item_whole u) s begun place tree = absurd (omega (arith, more, s.4))
      go (item_full ls u) s begun place tree =
          let c = s.3.0 in
          let f = s.3.1 in
          let short : length (bytes_before ls ++ spell u) < 2 ^ 64 = subst (λ (x : List ℕ). length x < 2 ^ 64) s.1 (short-at b e t h.q h.at) in
          let apart = subst AreApartSoFar s.3.2 h.apart in
          let taken : IsTaken (b.depth - length ls) u = record { spelled = f.spelled; within = f.within; clean = f.clean (ends-apart c apart.0) } in
          let os_is : give (canonical v.builder.order (value_of u)) (opens v.builder.order ls) ≡ now.builder.open_levels =
          ap (λ (x : List ℕ). give x (opens v.builder.order ls)) (sym f.canonical_is) ∙ ap (close_open v.builder.order) (sym s.3.2) ∙ sym (ap (λ (g : Built). g.open_levels) is) in
          record {
            q = h.q;
            at = h.at;
            open_levels = settle ls u;
            agrees = subst (λ (p : KeyOrder). AgreesAt p b.depth t h.q now.builder.open_levels (height - 1) (settle ls u)) (sym (ap (λ (g : Built). g.order) is))
                (agrees-as v.builder.order b.depth (settle ls u) (bytes_before ls ++ spell u) t (close (map frame ls)) h.q _ now.builder.open_levels (length ls) (height - 1) (sym s.1) (sym s.2) os_is (omega (arith, s.4))
                (settled v.builder.order b.depth ls u s.0 taken short));
            apart = apart-so;
            begun = subst (λ (xs : Vec ℕ Global). HaveBegunIn xs.items (settle ls u)) (sym starts) (settled-begun v.starts.items ls u begun);
            place = subst (λ (xs : Vec ℕ Global). HasItsPlace xs.items (settle ls u)) (sym starts) (settled-place v.starts.items ls u begun place);
            tree = tree-step trees.close v.tree now.tree (item_full ls u) (settle ls u) tree step (values-ended ls u) (settles-right ls u);
            held = subst (AreHeldSoFar (sets now)) (ap (close_open v.builder.order) (sym s.3.2) ∙ sym (ap (λ (g : Built). g.open_levels) is))
                (held-popped v.builder.order (sets v) (sets now) c (opens v.builder.order ls) (some-opens v.builder.order ls) popped (subst (AreHeldSoFar (sets v)) s.3.2 h.held));
            kinds = same_kinds ∙ h.kinds;
            keeps = h.keeps;
          }

  -- no more are open
  pub ends-all : height ≤ e.machine.open_count → IsEndingAt v b e t e.machine.open_count
  ends-all least = subst (IsEndingAt v b e t) (go h.open_levels h.agrees) h
    where
      go : (x : ParseState) → AgreesAt v.builder.order b.depth t h.q v.builder.open_levels height x → height ≡ e.machine.open_count
      go (item_expected ls) s = s.4 ∙ sym (expected-count ls s.2)
      go (item_full ls u) s = absurd (omega (arith, least, full-count ls s.2, s.4))
      go (item_whole u) s = s.4 ∙ sym (counts ∙ ap (λ (p : Place). length (open_at p)) s.2)

-- ---- what follows

module _ (v : TreeItems) (b : Bounds) (e : ItemEventsView) (t : List ℕ) (h : IsEndingAt v b e t e.machine.open_count) (some : 0 < length t) where
  -- the key that has come is the same as an earlier one
  pub repeated-key : (place : ℕ) (f : Refusal) → IsRepeatedKey v.builder.open_levels → ((at : ℕ) → slice_get v.starts.items e.machine.open_count ≡ Some at → place ≡ at) → f ≡ refusal RepeatedKey place e.machine.taken → (to : Option (List ℕ)) → HasCause plain b [] [] t to f
  repeated-key place f repeated place_is is to = go h.open_levels h.agrees h.place
    where
      few-bytes : length t < 2 ^ 63
      few-bytes = let at = h.at in omega (arith, at.agrees.agrees.taken, at.agrees.agrees.limited, at.bytes, at.limits.1)

      o : KeyOrder
      o = v.builder.order

      key : (l : Level) (ls : List Level) (done : SpelledEntries) (k : Spelling) → IsKeyAfter l done → AreLevels b.depth (l ∷ ls) → IsTaken (b.depth - suc (length ls)) k → t ≡ bytes_before (l ∷ ls) ++ spell k → AreApart (opens o (l ∷ ls))
          → HasKey (canonical_entries o (entries_of done)) (canonical o (value_of k)) → place ≡ length (bytes_before (l ∷ ls)) → HasCause plain b [] [] t to f
      key l ls done k following levels taken bytes_are apart repeats here =
          let at = length (bytes_before (l ∷ ls)) in
          let size : length t ≡ at + length (spell k) = ap length bytes_are ∙ length-append (bytes_before (l ∷ ls)) (spell k) in
          let c = complaint.complaint (at + length (spell k)) at RepeatedKey in
          let whole : b.depth ≡ b.depth - 0 = omega arith in
          let j = repeat_found o b.depth ls l done following levels (omega (arith, few-bytes, size)) apart k taken (omega (arith, few-bytes, size)) repeats in
          whole-cause plain b [] [] t to f c (subst (λ (n : ℕ). IsJudged plain 0 n t (Some c)) whole (subst (λ (x : List ℕ). IsJudged plain 0 b.depth x (Some c)) (sym bytes_are) j))
          (is ∙ ap₂ (λ (x y : ℕ). refusal RepeatedKey x y) here (h.at.agrees.agrees.taken ∙ size)) (at-reached b e t h.q h.at).within

      go : (x : ParseState) → AgreesAt o b.depth t h.q v.builder.open_levels e.machine.open_count x → HasItsPlace v.starts.items x → HasCause plain b [] [] t to f
      go (item_expected (a_value w left done k ∷ ls)) s place_so =
          let apart = subst AreApartSoFar s.3 h.apart in
          key (a_key w left done) ls done k refl (s.0.0, (s.0.1.0, s.0.1.1), s.0.2) s.0.1.2 (s.1 ∙ sym (append_assoc (bytes_before ls) _ (spell k))) (apart.0, (λ x. x), apart.1) (subst IsRepeatedKey s.3 repeated)
          (place_is _ (ap (λ (i : ℕ). slice_get v.starts.items i) s.4 ∙ place_so))
      go (item_expected (some_value done k ∷ ls)) s place_so =
          let apart = subst AreApartSoFar s.3 h.apart in
          key (some_key done) ls done k refl (s.0.0, s.0.1.0, s.0.2) s.0.1.1 (s.1 ∙ sym (append_assoc (bytes_before ls) _ (spell k))) (apart.0, (λ x. x), apart.1) (subst IsRepeatedKey s.3 repeated)
          (place_is _ (ap (λ (i : ℕ). slice_get v.starts.items i) s.4 ∙ place_so))
      go (item_full ls u) s place_so = absurd (omega (arith, full-count v b e t e.machine.open_count h ls s.2, s.4))
      go _ s place_so = absurd (subst IsRepeatedKey s.3 repeated)

  -- the same, where the key is among those of its map
  module _ (now : TreeItems) (same : now.builder ≡ v.builder) (starts : now.starts ≡ v.starts) (same_tree : now.tree ≡ v.tree) (same_kinds : now.kinds ≡ v.kinds) where
    -- another item is expected
    pub goes-on : AreApart v.builder.open_levels → AreHeld (sets now) now.builder.open_levels → 0 < e.machine.open_count → IsExpectedAt now b e t
    goes-on apart held more = go h.open_levels h.agrees h.begun h.tree
      where
        go : (x : ParseState) → AgreesAt v.builder.order b.depth t h.q v.builder.open_levels e.machine.open_count x → HaveBegunIn v.starts.items x → IsTreeAt v.tree x → IsExpectedAt now b e t
        go (item_expected ls) s begun tree = record {
          ls = ls;
          levels = s.0;
          taken = s.1;
          at = at-as b e t t h.q (at_item (map frame ls)) refl s.2 h.at;
          open_levels = subst (λ (g : Built). g.open_levels ≡ opens g.order ls) (sym same) s.3;
          apart = subst (λ (g : Built). AreApart g.open_levels) (sym same) apart;
          begun = subst (λ (xs : Vec ℕ Global). HaveBegun xs.items ls) (sym starts) begun;
          held = held;
          tree = subst (λ (z : Building Item). IsTreeAt z (item_expected ls)) (sym same_tree) tree;
          kinds = same_kinds ∙ h.kinds;
          keeps = h.keeps;
        }
        go (item_full ls u) s begun tree = absurd (omega (arith, full-count v b e t e.machine.open_count h ls s.2, s.4))
        go (item_whole u) s begun tree = absurd (omega (arith, more, s.4))

    -- or the item is whole
    pub is-whole : e.machine.open_count ≡ 0 → IsWholeAt now b e t
    is-whole none = go h.open_levels h.agrees h.tree
      where
        go : (x : ParseState) → AgreesAt v.builder.order b.depth t h.q v.builder.open_levels e.machine.open_count x → IsTreeAt v.tree x → IsWholeAt now b e t
        go (item_expected []) s tree = absurd (omega (arith, some, ap length s.1))
        go (item_expected (l ∷ ls)) s tree = absurd (omega (arith, none, s.4))
        go (item_full ls u) s tree = absurd (omega (arith, full-count v b e t e.machine.open_count h ls s.2, s.4))
        go (item_whole u) s tree = record {
          item = u;
          is = s.0;
          taken = s.1;
          at = at-as b e t t h.q at_end refl s.2 h.at;
          tree = subst (λ (z : Building Item). IsTreeAt z (item_whole u)) (sym same_tree) tree;
          keeps = h.keeps;
        }

-- ---- what is returned

pub goes-or-not : (v now : TreeItems) (b : Bounds) (e : ItemEventsView) (t : List ℕ) (count : ℕ) → IsEndingAt v b e t e.machine.open_count → 0 < length t → now.builder ≡ v.builder → now.starts ≡ v.starts → now.tree ≡ v.tree → now.kinds ≡ v.kinds
    → AreHeld (sets now) now.builder.open_levels × (IsRepeatedKey now.builder.open_levels → ⊥) → count ≡ e.machine.open_count → GoesOnOrNot (nat_lt 0 count) now b e t
goes-or-not v now b e t zero h some same starts same_tree same_kinds held same_count = is-whole v b e t h some now same starts same_tree same_kinds (sym same_count)
goes-or-not v now b e t (suc n) h some same starts same_tree same_kinds held same_count =
    let more : nat_lt 0 (suc n) ≡ true = grind arith in
    let fresh : IsRepeatedKey v.builder.open_levels → ⊥ = λ x. held.1 (subst (λ (g : Built). IsRepeatedKey g.open_levels) (sym same) x) in
    subst (λ (m : Bool). GoesOnOrNot m now b e t) (sym more)
    (goes-on v b e t h some now same starts same_tree same_kinds (apart-now v.builder.open_levels h.apart fresh) held.0 (omega (arith, same_count)))
