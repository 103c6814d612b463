-- A part that was read where an item is expected: what it makes of the path, and why it is refused.
use Rattle.std.proofs.Common.{◌≡◌, ◌≢◌, ℕ, suc, ◌+◌, ◌-◌, ◌^◌, ◌<◌, ◌≤◌, Bool, Option, List, [], ◌∷◌, ◌++◌, length, map, take, slice_get, Some, refl, sym, ap, ap₂, ◌∙◌, subst, inl, arith, append-nil, length-append}
use Rattle.std.{specs.Io.KnownBytes.Consumes, proofs.KnownBytes.Consumes-trans, proofs.lemmas.List.length-map}
use Rattle.cbor_head.specs.Prelude.{head, canonical, Bounds, Value, spell, spell_all, spellings_count, value_of, plain}
use Rattle.cbor_head.specs.declared.major.Major.TheVariants as majors
use Rattle.cbor_head.specs.declared.event.EventKind.TheVariants as kinds
use Rattle.cbor_head.specs.declared.{order.KeyOrder.KeyOrder, reason.Reason.TheVariants.Memory, reason.Refusal.Refusal, width.Width.Width}
use Rattle.cbor_head.specs.declared.{width.Width.TheVariants.Indefinite, event.Event.Event, event.EventKind.EventKind}
use Rattle.theory_values.specs.Parts.{Open, give, opened}
use Rattle.theory_values.proofs.{Counts.holds_fits, ReadLaws.length_spell}
use Rattle.theory_automaton.specs.{Marks.mark_of, Trace.Mark}
use Rattle.cbor_machine.specs.NextEvent.{ItemEventsView}
use Rattle.cbor_builder.specs.Built.{Built, built, TakesPart}
use Rattle.cbor_item.specs.OpenValues as trees
use Rattle.cbor_item.specs.OpenValues.{OpenValue}
use Rattle.theory_verdicts.specs.Place.{Container, Place, at_item, close, IsTaking}
use Rattle.theory_verdicts.specs.Kinds.{AsksForKinds, KeepsToKinds, IsKeyExpectedIn, IsOfOneHead, HasBasicPrefix}
use Rattle.theory_verdicts.specs.Levels.{IsTaken, Level, a_member, some_member, frame, AreLevels, bytes_before, item_expected, settle}
use Rattle.theory_verdicts.specs.Reading.{IsAt, IsUndecided, IsNextHead, ReadsItem, StopsItem, string_value}
use Rattle.theory_verdicts.proofs.Items.{extends-by, extends-in, taking-some}
use Rattle.theory_verdicts.proofs.{KindBytes.item_basic, ItemExpected.basic-event, ItemExpected.head-keeps}
use Rattle.theory_verdicts.{specs.Given.opens, specs.Given.AgreesAt, proofs.KindFrames.keeps_on, proofs.ParseState.open-is, proofs.ParseState.short-at}
use Rattle.theory_verdicts.proofs.{Levels.clean-anywhere, Given.settled, Undecided.item-undecided, Undecided.mark-undecided, Steps.at-reached}
use Rattle.theory_verdicts.{proofs.RefusedAfter.stopped_after, specs.RefusedAfter.IsRefusedAfter, proofs.Valid.count_bounded}
use Rattle.cbor_tree_reader.specs.declared.item_part.ItemPart.TheVariants.{Leaf, String, Begin, Break}
use Rattle.cbor_tree_reader.specs.inner.TreeItems.{AreApartSoFar, HaveBegun, CanTake, IsGiven, IsEndingAt, sets, AreKeysBegun}
use Rattle.cbor_tree_reader.specs.inner.PlainParts.{IsCome, leaf_value, BeginsString, IsStill, ReadsPart}
use Rattle.cbor_tree_reader.proofs.HeldKeys.{held-given, held-opened, held-broken}
use Rattle.cbor_tree_reader.specs.TreeValues.{level_values, values_with, IsForTree}
use Rattle.cbor_tree_reader.proofs.ExpectedRefusals.{few, expects, refused-item, undecided-whole}
use Rattle.cbor_tree_reader.proofs.TreeValues.{values-given, settles-right, tree-step}
use Rattle.cbor_tree_reader.proofs.PartKinds.{basic-more, mark-string, string-item, head-item, HoldsNone, leaf-holds-none, string-holds-none, no-kinds, keeps-broken}
use Rattle.cbor_tree_reader.proofs.Paths.{given-apart, opened-apart, so-far, settled-begun, settled-place, begun-more, begun-space, begins-at}
use Rattle.cbor_tree_reader.proofs.PartPlaces.{IsPlaced, breaks, leaf-canonical, opens-by, agrees-as, string-canonical}
use Rattle.cbor_tree_reader.specs.declared.{tree_items.TreeItems.TreeItems, item_part.ItemPart.ItemPart}
use Rattle.cbor_tree_reader.specs.{inner.ItemPrefix.IsExpectedAt, inner.ItemPrefix.IsNextExpected, declared.key_set.KeySet.KeySet}
use Rattle.cbor_tree_reader.specs.inner.HeldKeys.{AreHeld, AreHeldSoFar}

-- ---- what may come

module _ (v : TreeItems) (b : Bounds) (e : ItemEventsView) (t : List ℕ) (d : IsExpectedAt v b e t) where
  -- a part may begin
  takes-part : TakesPart v.builder.open_levels
  takes-part = subst TakesPart (sym d.open_levels) (go d.ls d.levels (few v b e t d))
    where
      go : (ms : List Level) → AreLevels b.depth ms → length (bytes_before ms) < 2 ^ 63 → TakesPart (opens v.builder.order ms)
      go (a_member w left done ∷ ms) h s = omega (arith, holds_fits w (spellings_count done + suc left) h.1.0)
      go (some_member done ∷ ms) h s =
          omega (arith, s, count_bounded done, length-append (bytes_before ms) (head majors.Array Indefinite 0 ++ spell_all done), length-append (head majors.Array Indefinite 0) (spell_all done))
      go _ h s = tt

  pub expected-height : e.machine.open_count ≡ length d.ls
  expected-height = open-is b e t (at_item (map frame d.ls)) d.at ∙ length-map d.ls frame

  -- ---- a part that was read

  module _ (new : ItemEventsView) (from mid to : Option (List ℕ)) (ev : Event) (after : ItemEventsView) (expected : IsNextExpected b d.ls t ev from mid after) where
    abbrev gs : List Container
    gs = map frame d.ls

    abbrev n : IsNextHead plain b (at_item gs) t ev from mid after
    n = expected.head

    abbrev pub came : IsCome b gs t n.bytes after ev.width ev.kind
    came = record { next = n.next; taking = n.taking; proper = n.proper; at = n.at }

    -- what was taken, and what it makes of the path once it is given to a builder
    pub record IsPartTaken (part : ItemPart) : Type 0 where
      pub bytes : List ℕ
      pub some : 0 < length bytes
      pub consumed : Consumes from to bytes
      pub undecided : IsUndecided plain b [] [] (t ++ bytes)
      pub q : Place
      pub at : IsAt b new (t ++ bytes) q
      pub keeps : KeepsToKinds b plain (t ++ bytes)
      pub leads : (now : TreeItems) (height place count : ℕ) → height ≡ e.machine.open_count → place ≡ ev.place → now.starts.items ≡ take height v.starts.items ++ place ∷ [] → now.kinds ≡ v.kinds → IsGiven v.builder part now.builder count
          → trees.open_levels now.tree ≡ values_with part (trees.open_levels v.tree) → AreKeysBegun count (sets v) (sets now) → IsEndingAt now b new (t ++ bytes) (height + count)

    some-head : 0 < length n.bytes
    some-head = taking-some b.depth gs (mark_of ev.width ev.kind) n.bytes n.next n.taking

    -- the first byte reports the kind
    first-kind : ev.kind ≢ kinds.End → AsksForKinds b plain → IsKeyExpectedIn d.ls → HasBasicPrefix n.bytes
    first-kind item asked is_key = basic-event b.depth gs ev.width ev.kind n.bytes n.next n.taking item (expected.kind asked is_key)

    -- the positions after it
    module _ (now : TreeItems) (height place : ℕ) (same : height ≡ e.machine.open_count) (same_place : place ≡ ev.place) (starts : now.starts.items ≡ take height v.starts.items ++ place ∷ []) (same_kinds : now.kinds ≡ v.kinds) where
      level : height ≡ length d.ls
      level = same ∙ expected-height

      space : height ≤ length v.starts.items
      space = omega (arith, level, begun-space v.starts.items d.ls d.begun)

      begun-so : HaveBegun now.starts.items d.ls
      begun-so = subst (λ (xs : List ℕ). HaveBegun xs d.ls) (sym starts) (begun-more v.starts.items d.ls height place (omega (arith, level)) space d.begun)

      here-so : slice_get now.starts.items (length d.ls) ≡ Some (length (bytes_before d.ls))
      here-so =
          ap (λ (xs : List ℕ). slice_get xs (length d.ls)) starts ∙ ap (λ (i : ℕ). slice_get (take height v.starts.items ++ place ∷ []) i) (sym level) ∙ begins-at v.starts.items height place space
          ∙ ap (λ (i : ℕ). Some i) (same_place ∙ n.place ∙ ap length d.taken)

      placed-ending : (part : ItemPart) (vs : List OpenValue) → values_with part (level_values d.ls) ≡ vs → trees.open_levels now.tree ≡ values_with part (trees.open_levels v.tree) → (x : List ℕ) (q : Place) (os : List Open) (count : ℕ) → IsAt b new (t ++ x) q → (l : IsPlaced v.builder.order b.depth (bytes_before d.ls ++ x) q os (length d.ls + count) now.starts.items vs) → {refused : Bool} → now.builder ≡ record { order = v.builder.order; open_levels = os; refused = refused }
          → AreApartSoFar os → AreHeldSoFar (sets now) os → KeepsToKinds b plain (t ++ x) → IsEndingAt now b new (t ++ x) (height + count)
      placed-ending part vs vs_are step x q os count at l is apart held keeps = record {
        q = q;
        at = at;
        open_levels = l.open_levels;
        agrees = subst (λ (o : KeyOrder). AgreesAt o b.depth (t ++ x) q now.builder.open_levels (height + count) l.open_levels) (sym (ap (λ (g : Built). g.order) is))
            (agrees-as v.builder.order b.depth l.open_levels (bytes_before d.ls ++ x) (t ++ x) q q os now.builder.open_levels (length d.ls + count) (height + count) (ap (λ (y : List ℕ). y ++ x) (sym d.taken)) refl
            (sym (ap (λ (g : Built). g.open_levels) is)) (omega (arith, level)) l.agrees);
        apart = subst AreApartSoFar (sym (ap (λ (g : Built). g.open_levels) is)) apart;
        begun = l.begun;
        place = l.place;
        tree = tree-step (values_with part) v.tree now.tree (item_expected d.ls) l.open_levels d.tree step (vs_are ∙ l.values) l.right;
        held = subst (AreHeldSoFar (sets now)) (sym (ap (λ (g : Built). g.open_levels) is)) held;
        kinds = same_kinds ∙ d.kinds;
        keeps = keeps;
      }

    -- an item that was taken whole
    item-taken : (part : ItemPart) (u : Value) → (ev.kind ≢ kinds.End) → HoldsNone u → ReadsItem plain b gs t n.bytes mid to new u
        → ((g now : Built) (count : ℕ) → IsGiven g part now count → (now ≡ built g.order (give (canonical g.order u) g.open_levels)) × (count ≡ 0))
        → values_with part (level_values d.ls) ≡ trees.give u (level_values d.ls) → IsPartTaken part
    item-taken part u whole none r given-is values-so =
        let m : ReadsItem plain b gs t [] from to new u = record {
          item = r.item;
          spelled = r.spelled;
          within = r.within;
          clean = r.clean;
          taken = extends-in [] [] n.bytes (spell r.item) from mid to (extends-by n.bytes from mid n.consumed) r.taken;
          value = r.value;
          at = r.at;
        } in
        let o = v.builder.order in
        let short : length (bytes_before d.ls ++ spell m.item) < 2 ^ 64 = subst (λ (y : List ℕ). length (y ++ spell m.item) < 2 ^ 64) d.taken (short-at b new (t ++ spell m.item) (close gs) m.at) in
        let is : IsTaken (b.depth - length d.ls) m.item = record { spelled = m.spelled; within = omega (arith, m.within, length-map d.ls frame); clean = clean-anywhere m.item (length t) m.clean } in
        let x = expects v b e t d in
        let keeps = keeps_on b plain x.around r.item (spell r.item) [] r.spelled (omega (arith, r.within, x.space)) (sym (append-nil (spell r.item)))
        (λ asked is_key some. item_basic r.item n.bytes r.taken.more r.spelled r.taken.are some-head (first-kind whole asked is_key)) (λ c o. absurd (no-kinds r.item (subst HoldsNone (sym r.value) none) (length t) c o)) d.keeps in
        record {
          bytes = spell m.item;
          some = length_spell m.item;
          consumed = subst (Consumes from to) (sym m.taken.are) m.taken.consumed;
          keeps = keeps;
          undecided = undecided-whole v b e t d (spell m.item) (item-undecided plain b gs t [] from to new u m);
          q = close gs;
          at = m.at;
          leads = λ now height place count same same_place starts same_kinds given step keys.
              let g = given-is v.builder now.builder count given in
              let begun = begun-so now height place same same_place starts same_kinds in
              let here = here-so now height place same same_place starts same_kinds in
              let os : List Open = give (canonical o u) v.builder.open_levels in
              let os_is : give (canonical o (value_of m.item)) (opens o d.ls) ≡ os = ap₂ (λ (w : Value) (ps : List Open). give (canonical o w) ps) m.value (sym d.open_levels) in
              placed-ending now height place same same_place starts same_kinds part (trees.give u (level_values d.ls)) values-so step (spell m.item) (close gs) os count m.at
              (record {
                open_levels = settle d.ls m.item;
                agrees = agrees-as o b.depth (settle d.ls m.item) _ (bytes_before d.ls ++ spell m.item) (close gs) (close gs) _ os (length d.ls) (length d.ls + count) refl refl os_is (omega (arith, g.1)) (settled o b.depth d.ls m.item d.levels is short);
                begun = settled-begun now.starts.items d.ls m.item begun;
                place = settled-place now.starts.items d.ls m.item begun here;
                right = settles-right d.ls m.item;
                values = ap (λ (w : Value). trees.give w (level_values d.ls)) (sym m.value) ∙ values-given d.ls m.item;
              })
              g.0 (given-apart (canonical o u) v.builder.open_levels d.apart)
              (subst (λ (ss : List KeySet). AreHeldSoFar ss os) (sym (keys.same g.1)) (held-given (canonical o u) (sets v) v.builder.open_levels d.held))
              keeps;
        }

    -- a head or a break alone
    head-taken : (part : ItemPart) → IsStill after new mid to → KeepsToKinds b plain (t ++ n.bytes)
        → ((now : TreeItems) (height place count : ℕ) → height ≡ e.machine.open_count → place ≡ ev.place → now.starts.items ≡ take height v.starts.items ++ place ∷ [] → now.kinds ≡ v.kinds → IsGiven v.builder part now.builder count
        → trees.open_levels now.tree ≡ values_with part (trees.open_levels v.tree) → AreKeysBegun count (sets v) (sets now) → IsAt b new (t ++ n.bytes) n.next → IsEndingAt now b new (t ++ n.bytes) (height + count)) → IsPartTaken part
    head-taken part still keeps leads =
        let at = subst (λ (z : ItemEventsView). IsAt b z (t ++ n.bytes) n.next) (sym still.events) n.at in
        record {
          bytes = n.bytes;
          some = some-head;
          consumed = subst (λ (z : Option (List ℕ)). Consumes from z n.bytes) (sym still.reader) n.consumed;
          keeps = keeps;
          undecided = undecided-whole v b e t d n.bytes (mark-undecided plain b gs t n.bytes (mark_of ev.width ev.kind) n.next n.taking);
          q = n.next;
          at = at;
          leads = λ now height place count same same_place starts same_kinds given step keys. leads now height place count same same_place starts same_kinds given step keys at;
        }

    take-read : (part : ItemPart) → ReadsPart b gs t n.bytes ev.kind after new mid to part → IsPartTaken part
    take-read (Leaf m k) r =
        item-taken (Leaf m k) (leaf_value m k) r.2 (leaf-holds-none m k) r.1
        (λ g now count h. (h.0 ∙ ap (λ (x : List ℕ). built g.order (give x g.open_levels)) (leaf-canonical g.order m k r.0), h.1))
        refl
    take-read (String is_text content) r =
        item-taken (String is_text content) (string_value is_text content.items) r.2 (string-holds-none is_text content.items) r.1
        (λ g now count h. (h.0 ∙ ap (λ (x : List ℕ). built g.order (give x g.open_levels)) (string-canonical g.order is_text content.items), h.1))
        refl
    take-read (Begin m k) r =
        let head = r.0.1 ev.width in
        let item = head-item ev.width ev.kind m k head in
        let keeps = head-keeps plain b t gs (expects v b e t d) ev.width ev.kind n.bytes n.next n.taking item expected.kind in
        head-taken (Begin m k) r.1 keeps
        (λ now height place count same same_place starts same_kinds given step keys at.
        let l = opens-by v.builder.order b d.ls d.levels now.starts.items (begun-so now height place same same_place starts same_kinds) (here-so now height place same same_place starts same_kinds) m ev.width k n.bytes n.next r.0.0 (subst (λ (y : Mark). IsTaking b.depth (at_item gs) y n.bytes n.next) head n.taking) in
        let one : suc (length d.ls) ≡ length d.ls + count = omega (arith, given.1) in
        placed-ending now height place same same_place starts same_kinds (Begin m k) (trees.opened m k ∷ level_values d.ls) refl step n.bytes n.next (opened m k ∷ v.builder.open_levels) count at
        (subst (λ (h : ℕ). IsPlaced v.builder.order b.depth (bytes_before d.ls ++ n.bytes) n.next (opened m k ∷ v.builder.open_levels) h now.starts.items (trees.opened m k ∷ level_values d.ls)) one
        (subst (λ (os : List Open). IsPlaced v.builder.order b.depth (bytes_before d.ls ++ n.bytes) n.next (opened m k ∷ os) (suc (length d.ls)) now.starts.items (trees.opened m k ∷ level_values d.ls)) (sym d.open_levels) l))
        given.0 (opened-apart m k v.builder.open_levels r.0.0 d.apart)
        (let k2 = keys.opened (omega (arith, given.1)) in
        subst (λ (ss : List KeySet). AreHeldSoFar ss (opened m k ∷ v.builder.open_levels)) (sym k2.are) (held-opened m k k2.fresh (sets v) v.builder.open_levels r.0.0 k2.none d.held))
        keeps)
    take-read Break r =
        let taking = subst (λ (k : EventKind). IsTaking b.depth (at_item gs) (mark_of ev.width k) n.bytes n.next) r.0 n.taking in
        let broken = keeps-broken b d.ls n.next d.levels (few v b e t d) taking.1 (subst (KeepsToKinds b plain) d.taken d.keeps) in
        let keeps = subst (λ (y : List ℕ). KeepsToKinds b plain (y ++ n.bytes)) (sym d.taken) (subst (λ (y : List ℕ). KeepsToKinds b plain (bytes_before d.ls ++ y)) (sym taking.0) broken) in
        head-taken Break r.1 keeps
        (λ now height place count same same_place starts same_kinds given step keys at.
        let l = breaks v.builder.order b d.ls n.next now.starts.items d.levels (begun-so now height place same same_place starts same_kinds) (few v b e t d) taking.1 in
        let none : length d.ls ≡ length d.ls + count = omega (arith, given.1) in
        placed-ending now height place same same_place starts same_kinds Break (level_values d.ls) refl step n.bytes n.next v.builder.open_levels count at
        (subst (λ (h : ℕ). IsPlaced v.builder.order b.depth (bytes_before d.ls ++ n.bytes) n.next v.builder.open_levels h now.starts.items (level_values d.ls)) none
        (subst (λ (os : List Open). IsPlaced v.builder.order b.depth (bytes_before d.ls ++ n.bytes) n.next os (length d.ls) now.starts.items (level_values d.ls)) (sym d.open_levels)
        (subst (λ (y : List ℕ). IsPlaced v.builder.order b.depth (bytes_before d.ls ++ y) n.next (opens v.builder.order d.ls) (length d.ls) now.starts.items (level_values d.ls)) (sym taking.0) l)))
        given.0 (so-far v.builder.open_levels d.apart)
        (subst (λ (ss : List KeySet). AreHeldSoFar ss v.builder.open_levels) (sym (keys.same given.1))
        (subst (AreHeldSoFar (sets v)) (sym d.open_levels) (held-broken v.builder.order (sets v) d.ls n.next taking.1 (subst (AreHeld (sets v)) d.open_levels d.held))))
        keeps)

    -- it is read in this way
    abbrev IsReadSo : ItemPart → Type 0
    IsReadSo part = (fs : List Container) (s x : List ℕ) (w : Width) → IsCome b fs s x after w ev.kind → ReadsPart b fs s x ev.kind after new mid to part

    pub part-taken : (part : ItemPart) → IsReadSo part → IsPartTaken part
    part-taken part read = take-read part (read gs t n.bytes ev.width came)

    -- a part that is refused
    pub refused-part : (f : Refusal) → ((fs : List Container) (s x : List ℕ) (w : Width) → IsCome b fs s x after w ev.kind → BeginsString ev.kind × StopsItem plain b fs s x mid to f) → IsRefusedAfter plain b t from to f
    refused-part f refused =
        let h = refused gs t n.bytes ev.width came in
        let s = h.1 in
        let are = sym s.taken.are in
        refused-item v b e t d s.bytes (subst IsOfOneHead are (mark-string b.depth gs ev.width ev.kind n.bytes s.taken.more n.next h.0 n.taking))
        (λ asked is_key. subst HasBasicPrefix are (basic-more n.bytes s.taken.more some-head (first-kind (string-item ev.kind h.0) asked is_key)))
        from to f (subst (Consumes from to) are (Consumes-trans from mid to n.bytes s.taken.more n.consumed s.taken.consumed)) s.read s.why

    pub part-fits : (part : ItemPart) → IsReadSo part → CanTake v.builder part × IsForTree part
    part-fits part read = go part (read gs t n.bytes ev.width came)
      where
        go : (part : ItemPart) → ReadsPart b gs t n.bytes ev.kind after new mid to part → CanTake v.builder part × IsForTree part
        go (Leaf m k) r = ((r.0.0, r.0.1, takes-part), r.0)
        go (String is_text content) r = (takes-part, r.0)
        go (Begin m k) r = ((r.0.0, takes-part), r.0.0)
        go Break r = (tt, tt)

    -- memory is refused after it
    pub part-no-memory : (part : ItemPart) → IsPartTaken part → (f : Refusal) → f.reason ≡ Memory → f.place ≡ f.read → f.read ≡ new.machine.taken → IsRefusedAfter plain b t from to f
    part-no-memory part k f is place read =
        let reached = at-reached b new (t ++ k.bytes) k.q k.at in
        stopped_after plain b t from to f k.bytes k.consumed reached.begins k.keeps (record { read = read ∙ k.at.agrees.agrees.taken; why = inl ((is, place), reached, k.undecided) })
