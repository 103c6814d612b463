-- The kinds of keys in what was read: of the first byte of a head, of what a part is, and after a break.
use Rattle.std.proofs.Common.{◌≡◌, ap, ◌∙◌, ◌≢◌, ◌↔◌, ℕ, suc, ◌-◌, ◌^◌, ◌<◌, true, false, Bool, List, [], ◌∷◌, ◌++◌, length, map, refl, sym, subst, arith, append_assoc, length-append}
use Rattle.cbor_head.specs.Prelude.{plain, Complaint, OfKinds, head, Bounds, Spelling, array, a_map, tag, spell_all, spell_entries, spellings_count, value_of, Value}
use Rattle.cbor_head.specs.Value as value
use Rattle.cbor_head.specs.declared.major.Major.TheVariants as majors
use Rattle.cbor_head.specs.declared.event.EventKind.TheVariants as kinds
use Rattle.cbor_head.specs.declared.{event.EventKind.EventKind, major.Major.Major, order.KeyOrder.KeyOrder, order.KeyOrder.TheVariants.Bytewise}
use Rattle.cbor_head.specs.declared.width.Width.{Width, TheVariants.Indefinite}
use Rattle.theory_values.proofs.{KeyKinds.of_kind_array, KeyKinds.of_kind_map, Reasons.none_by_form}
use Rattle.theory_automaton.specs.{Marks.mark_of, Marks.count_of, Trace.a_head}
use Rattle.cbor_builder.specs.Built.{IsKeyExpected}
use Rattle.theory_verdicts.specs.Kinds.{KeepsToKinds, IsKeyExpectedIn, IsOfOneHead, HasBasicPrefix}
use Rattle.theory_verdicts.specs.Levels.{Level, a_key, some_member, some_key, frame, AreLevels, bytes_before}
use Rattle.theory_verdicts.specs.Place.{Container, Place, at_item, Ends, IsTaking}
use Rattle.theory_verdicts.{proofs.KindBytes.head_bytes, proofs.KindBytes.string_is_one, specs.Given.opens, specs.Reading.string_value}
use Rattle.theory_verdicts.proofs.{Given.full-array, Given.full-map, LevelFrames.around_levels, KindFrames.keeps_closed}
use Rattle.cbor_tree_reader.specs.inner.PlainParts.{leaf_value, BeginsString}

-- ---- the first byte of a head

pub basic-prefix : (x y : List ℕ) → HasBasicPrefix (x ++ y) → HasBasicPrefix x
basic-prefix [] y h = tt
basic-prefix (b ∷ bs) y h = h

pub basic-more : (x y : List ℕ) → 0 < length x → HasBasicPrefix x → HasBasicPrefix (x ++ y)
basic-more [] y some h = absurd (omega (arith, some))
basic-more (b ∷ bs) y some h = h

module _ (d : ℕ) (fs : List Container) where
  pub mark-string : (w : Width) (kind : EventKind) (x y : List ℕ) (next : Place) → BeginsString kind → IsTaking d (at_item fs) (mark_of w kind) x next → IsOfOneHead (x ++ y)
  mark-string w (kinds.Bytes n) x y next i h =
      let g = head_bytes d fs majors.Bytes w (count_of n) x next h in
      subst (λ (z : List ℕ). IsOfOneHead (z ++ y)) (sym g.1) (string_is_one majors.Bytes w (count_of n) y tt g.0)
  mark-string w (kinds.Text n) x y next i h =
      let g = head_bytes d fs majors.Text w (count_of n) x next h in
      subst (λ (z : List ℕ). IsOfOneHead (z ++ y)) (sym g.1) (string_is_one majors.Text w (count_of n) y tt g.0)
  mark-string w _ x y next i h = absurd i

pub string-item : (kind : EventKind) → BeginsString kind → kind ≢ kinds.End
string-item kind h e = subst BeginsString e h

pub head-item : (w : Width) (kind : EventKind) (m : Major) (k : ℕ) → mark_of w kind ≡ a_head m w k → kind ≢ kinds.End
head-item w kind m k h e = cc (sym h ∙ ap (mark_of w) e)

-- ---- where a key is expected

pub expected-opens : (o : KeyOrder) (ls : List Level) → IsKeyExpectedIn ls ↔ IsKeyExpected (opens o ls)
expected-opens o (a_key w left done ∷ ls) = ((λ h. tt), (λ h. tt))
expected-opens o (some_key done ∷ ls) = ((λ h. tt), (λ h. tt))
expected-opens o _ = ((λ h. h), (λ h. h))

-- ---- what holds no items

abbrev pub HoldsNone : Value → Type 0
HoldsNone (value.array vs) = ⊥
HoldsNone (value.map es) = ⊥
HoldsNone (value.tag n v) = ⊥
HoldsNone v = Unit {0}

pub leaf-holds-none : (m : Major) (k : ℕ) → HoldsNone (leaf_value m k)
leaf-holds-none majors.Unsigned k = tt
leaf-holds-none _ k = tt

pub string-holds-none : (is_text : Bool) (content : List ℕ) → HoldsNone (string_value is_text content)
string-holds-none true content = tt
string-holds-none false content = tt

pub no-kinds : (s : Spelling) → HoldsNone (value_of s) → (at : ℕ) (c : Complaint) → OfKinds at s c → ⊥
no-kinds (array w ss) h at c o = h
no-kinds (a_map w es) h at c o = h
no-kinds (tag w n s) h at c o = h
no-kinds s h at c o = none_by_form at s c o

-- ---- after a break

module _ (b : Bounds) where
  pub keeps-broken : (ls : List Level) (next : Place) → AreLevels b.depth ls → length (bytes_before ls) < 2 ^ 63 → Ends (map frame ls) next → KeepsToKinds b plain (bytes_before ls) → KeepsToKinds b plain (bytes_before ls ++ 0xff ∷ [])
  keeps-broken (some_member done ∷ ms) next h s x keeps =
      let opener = head majors.Array Indefinite 0 in
      let full = full-array Bytewise (b.depth - length ms) (b.depth - suc (length ms)) Indefinite done (spellings_count done) _ refl refl h.1 tt (omega (arith, h.0)) in
      let size = length-append opener (spell_all done) in
      let at = length (bytes_before ms) in
      subst (KeepsToKinds b plain) (sym (append_assoc (bytes_before ms) (opener ++ spell_all done) (0xff ∷ [])))
      (keeps_closed b plain (around_levels b.depth ms h.2) (array Indefinite done) (opener ++ spell_all done) (0xff ∷ []) full.spelled full.within refl (omega (arith, size))
      (of_kind_array Indefinite done at) keeps)
  keeps-broken (some_key done ∷ ms) next h s x keeps =
      let opener = head majors.Map Indefinite 0 in
      let size = length-append opener (spell_entries done) in
      let full = full-map Bytewise (b.depth - length ms) (b.depth - suc (length ms)) Indefinite done _ refl h.1 tt (omega (arith, h.0)) (omega (arith, s, length-append (bytes_before ms) (opener ++ spell_entries done), size)) in
      let at = length (bytes_before ms) in
      subst (KeepsToKinds b plain) (sym (append_assoc (bytes_before ms) (opener ++ spell_entries done) (0xff ∷ [])))
      (keeps_closed b plain (around_levels b.depth ms h.2) (a_map Indefinite done) (opener ++ spell_entries done) (0xff ∷ []) full.spelled full.within refl (omega (arith, size))
      (of_kind_map Indefinite done at) keeps)
  keeps-broken _ next h s x keeps = absurd x
