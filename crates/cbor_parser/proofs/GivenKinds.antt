-- A valid item, part by part: the kinds of the keys that begin in what was read.
use Rattle.std.proofs.Common.{◌≡◌, ℕ, suc, ◌+◌, ◌-◌, ◌<◌, ◌≤◌, Bool, false, true, List, [], ◌∷◌, ◌++◌, length, refl, sym, ap, ◌∙◌, subst, inl, inr, arith, append_assoc, append-nil, length-append}
use Rattle.std.proofs.lemmas.List.{append_cancel_right, nil_from_length}
use Rattle.cbor_head.specs.Prelude.{Complaint, plain, OfKinds, Holds, head, bounds, with_keys, Spelling, array, a_map, no_spellings, no_entries, spell, spell_all, spell_entries, IsSpelled, depth}
use Rattle.cbor_head.specs.Head as heads
use Rattle.cbor_head.specs.Value as value
use Rattle.cbor_head.specs.declared.major.Major.TheVariants as majors
use Rattle.cbor_head.specs.declared.{keys.Keys.Keys, keys.Keys.TheVariants.IntegersAndTexts, major.Major.Major, width.Width.Width}
use Rattle.cbor_head.specs.declared.width.Width.TheVariants.{Indefinite}
use Rattle.theory_values.proofs.KeyKinds.{of_kind_array, of_kind_map}
use Rattle.theory_verdicts.specs.Kinds.{KeepsToKinds, IsKeyLevel, IsKeyExpectedIn, HasBasicPrefix}
use Rattle.theory_verdicts.specs.Levels.{Level, a_key, some_member, some_key, some_value, IsLevel, AreLevels, level_bytes, bytes_before, ParseState}
use Rattle.theory_verdicts.proofs.KindBytes.{Begins, head_is_one, keeps_expected}
use Rattle.theory_verdicts.proofs.Levels.{of-opened, spelled-all, within-all, pairs-spelled, pairs-within}
use Rattle.theory_verdicts.proofs.{Heads.open_or, Heads.takes, LevelFrames.around_levels, KindFrames.keeps_closed, KindFrames.keeps_start}
use Rattle.theory_verdicts.{specs.PathKinds.IsFitPrefix, proofs.PathKinds.no_break, proofs.PathKinds.head_begun}
use Rattle.cbor_parser.specs.inner.OpenContainer.{counted, bytes_after_head, cell_of, cells_of}
use Rattle.cbor_parser.specs.inner.Parts.{Counts, IsHead, IsOpener, HasBegun, HasBroken}
use Rattle.cbor_parser.specs.inner.Rules as rules
use Rattle.cbor_parser.specs.inner.OpenContainer.{Cell}
use Rattle.cbor_parser.specs.{Stack.around, Stack.open_levels, declared.container.Expected.Expected}
use Rattle.cbor_parser.specs.declared.{container.Expected.TheVariants.Item, container.Expected.TheVariants.Key, stack.Stack.Stack}
use Rattle.cbor_parser.{proofs.Stacks.open_levels_count, specs.inner.Parser.IsExpected, specs.inner.Kept.KeepsBefore}
use Rattle.cbor_parser.proofs.{GivenItems.IsScalar, GivenItems.follows, GivenParts.height-is, GivenParts.cell-is}

-- ---- what begins so

pub scalar-begun : (v : value.Value) (d : ℕ) (rest following : List ℕ) → IsScalar rest following v → HasBegun d rest following
scalar-begun v d rest following i = record { prefix = spell i.item; is = i.is; one = i.one; item = i.item; spelled = (i.taken d).spelled; within = (i.taken d).within; more = []; bytes = sym (append-nil (spell i.item)) }

-- a head
head-at-prefix : (d : ℕ) (m : Major) (w : Width) (n : ℕ) (following : List ℕ) → heads.IsHead m w n → takes m ≤ d → Holds w n → HasBegun d (head m w n ++ following) following
head-at-prefix d m w n following h l holds =
    let g = head_begun d m w n h l in
    record { prefix = head m w n; is = refl; one = head_is_one m w n (open_or w n holds); item = g.item; spelled = g.spelled; within = g.within; more = g.rest; bytes = g.bytes }

head-has-begun : (d : ℕ) (m : Major) (n : ℕ) (rest following : List ℕ) (h : IsHead m n rest following) → heads.IsHead m h.width n → takes m ≤ d → HasBegun d rest following
head-has-begun d m n rest following h i l = subst (λ (x : List ℕ). HasBegun d x following) (sym h.is) (head-at-prefix d m h.width n following i l h.holds)

-- of a container that is empty
pub counted-begun : (d : ℕ) (m : Major) (expected : Expected) (n : ℕ) (rest following : List ℕ) → Counts m expected → 0 < d → IsHead m n rest following → HasBegun d rest following
counted-begun d majors.Array expected n rest following k space h = head-has-begun d majors.Array n rest following h h.holds (omega (arith, space))
counted-begun d majors.Map expected n rest following k space h = head-has-begun d majors.Map n rest following h h.holds (omega (arith, space))
counted-begun d _ expected n rest following k space h = absurd k

pub opener-begun : (d : ℕ) (m : Major) (n : ℕ) (c : Cell) (rest following : List ℕ) → 0 < d → IsOpener m n c rest following → HasBegun d rest following
opener-begun d m n c rest following space k =
    subst (λ (x : List ℕ). HasBegun d x following) (sym k.is)
    (of-opened (λ m n l. IsLevel 0 l → HasBegun d (level_bytes l ++ following) following) (λ w left n f. counted-head majors.Array w (0 + suc left) f.0 (omega (arith, space)) f.0) (λ n f. without-length 0x9f (array Indefinite no_spellings) refl (tt, tt) (omega (arith, space)))
    (λ w left n f. counted-head majors.Map w (0 + suc left) f.0 (omega (arith, space)) f.0) (λ n f. without-length 0xbf (a_map Indefinite no_entries) refl (tt, tt) (omega (arith, space))) (λ w n f. head-at-prefix d majors.Tag w n following f (omega (arith, space)) f) m n k.level k.opened (k.fresh 0))
  where
    counted-head : (m : Major) (w : Width) (n : ℕ) → heads.IsHead m w n → takes m ≤ d → Holds w n → HasBegun d ((head m w n ++ []) ++ following) following
    counted-head m w n i l holds = subst (λ (x : List ℕ). HasBegun d (x ++ following) following) (sym (append-nil (head m w n))) (head-at-prefix d m w n following i l holds)

    without-length : (first : ℕ) (item : Spelling) → spell item ≡ first ∷ 0xff ∷ [] → IsSpelled item → depth item ≤ d → HasBegun d (first ∷ following) following
    without-length first item bytes spelled within = record { prefix = first ∷ []; is = refl; one = λ container some. absurd (omega (arith, some)); item = item; spelled = spelled; within = within; more = 0xff ∷ []; bytes = bytes }

-- after the bytes of what begins, the rest is left
pub begun-so : (d : ℕ) (rest following : List ℕ) (used : ℕ) → used + length following ≡ length rest → HasBegun d rest following → HasBegun d rest (rules.following used rest)
begun-so d rest following used u h = subst (HasBegun d rest) (sym (follows rest h.prefix following used h.is u)) h

-- ---- no key of another kind begins in it

level-key : (following : ℕ) (l : Level) → IsKeyLevel l → (cell_of following l).expected ≡ Key
level-key following (a_key w left done) h = refl
level-key following (some_key done) h = refl
level-key following _ h = absurd h

expected-key : (n : ℕ) (c : Cell) (cs : List Cell) (ls : List Level) → c ∷ cs ≡ cells_of n ls → IsKeyExpectedIn ls → c.expected ≡ Key
expected-key n c cs [] e h = absurd h
expected-key n c cs (l ∷ ls) e h = ap (λ (x : Cell). x.expected) (cell-is n l ls e) ∙ level-key (bytes_after_head n ls l) l h

-- an item begins so
pub basic-prefix : (s : Spelling) → IsSpelled s → (x y z rest : List ℕ) → spell s ≡ x ++ z → rest ≡ x ++ y → IsFitPrefix rest → HasBasicPrefix x
basic-prefix s h [] y z rest e f fit = tt
basic-prefix s h (b ∷ x) y z rest e f fit = elim (subst IsFitPrefix f fit) [ inl k ↦ k | inr k ↦ absurd (no_break s h (x ++ z) (e ∙ ap (λ (c : ℕ). c ∷ (x ++ z)) k)) ]

-- before the first part
pub starts-kept : (d : ℕ) (input : List ℕ) (keys : Keys) → KeepsBefore d keys input input
starts-kept d input keys = λ t e. subst (KeepsToKinds (with_keys (bounds d 0) keys) plain) (sym (nil_from_length t (omega (arith, ap length e, length-append t input)))) (keeps_start (with_keys (bounds d 0) keys) plain)

module _ (S : Type 0) (agrees : S → S → ParseState → Type 0) (trusts : Bool) (start : S) (d : ℕ) (input : List ℕ) (keys : Keys) where
  -- after an item that begins within these containers
  pub begun-keeps : (k : Stack Cell) (cells : List Cell) (g : S) (rest following : List ℕ) → k.height ≤ length cells → IsExpected S agrees trusts start d input (open_levels Cell k cells) g rest → HasBegun (d - k.height) rest following → (keys ≡ IntegersAndTexts → k.top.expected ≡ Key → IsFitPrefix rest)
      → KeepsBefore d keys input rest → KeepsBefore d keys input following
  begun-keeps k cells g rest following low s h fit keeps = λ t e.
      let height : length s.ls ≡ k.height = omega (arith, height-is S agrees trusts start d input (open_levels Cell k cells) g rest s, open_levels_count Cell k cells low) in
      let within : depth h.item ≤ d - length s.ls = subst (λ (n : ℕ). depth h.item ≤ d - n) (sym height) h.within in
      let begins : Begins (d - length s.ls) h.prefix = record { item = h.item; spelled = h.spelled; within = within; rest = h.more; bytes = h.bytes } in
      let whole : (bytes_before s.ls ++ h.prefix) ++ following ≡ t ++ following = append_assoc (bytes_before s.ls) h.prefix following ∙ ap (λ (x : List ℕ). bytes_before s.ls ++ x) (sym h.is) ∙ sym s.bytes ∙ e in
      subst (KeepsToKinds (with_keys (bounds d 0) keys) plain) (append_cancel_right (bytes_before s.ls ++ h.prefix) t following whole)
      (keeps_expected (with_keys (bounds d 0) keys) plain (around_levels d s.ls s.levels) h.prefix begins h.one
      (λ asked expected. basic-prefix h.item h.spelled h.prefix following h.more rest h.bytes h.is (fit asked.1 (expected-key (length input) k.top (around Cell k cells) s.ls s.cells expected))) (keeps (bytes_before s.ls) s.bytes))

  -- a container of indefinite length ends
  pub broken-keeps : (c : Cell) (cs : List Cell) (g : S) (rest following : List ℕ) → IsExpected S agrees trusts start d input (c ∷ cs) g rest → HasBroken c rest following → KeepsBefore d keys input rest → KeepsBefore d keys input following
  broken-keeps c cs g rest following s h keeps = λ t e. go s.ls s.levels s.cells s.bytes t e
    where
      closed : (l : Level) (ls : List Level) → AreLevels d (l ∷ ls) → input ≡ bytes_before (l ∷ ls) ++ rest → (t : List ℕ) → input ≡ t ++ following → (item : Spelling) → spell item ≡ level_bytes l ++ (0xff ∷ []) → IsSpelled item → depth item ≤ d - length ls
          → 0 < length (level_bytes l) → ((c : Complaint) → OfKinds (length (bytes_before ls)) item c → c.end ≤ length (bytes_before ls) + length (level_bytes l)) → KeepsToKinds (with_keys (bounds d 0) keys) plain t
      closed l ls levels b t e item is spelled within some ends =
          let p = bytes_before ls in
          let x = level_bytes l in
          let whole : (p ++ spell item) ++ following ≡ t ++ following =
          ap (λ (y : List ℕ). (p ++ y) ++ following) is ∙ ap (λ (y : List ℕ). y ++ following) (sym (append_assoc p x (0xff ∷ []))) ∙ append_assoc (p ++ x) (0xff ∷ []) following ∙ ap (λ (y : List ℕ). (p ++ x) ++ y) (sym h.is) ∙ sym b ∙ e in
          subst (KeepsToKinds (with_keys (bounds d 0) keys) plain) (append_cancel_right (p ++ spell item) t following whole)
          (keeps_closed (with_keys (bounds d 0) keys) plain (around_levels d ls levels.2) item x (0xff ∷ []) spelled within is some ends (keeps (p ++ x) b))

      go : (ls : List Level) → AreLevels d ls → c ∷ cs ≡ cells_of (length input) ls → input ≡ bytes_before ls ++ rest → (t : List ℕ) → input ≡ t ++ following → KeepsToKinds (with_keys (bounds d 0) keys) plain t
      go [] levels e b t f = let same : c ≡ counted Item 0 0 = cc in let x : false ≡ true = ap (λ (x : Cell). x.is_indefinite) (sym same) ∙ h.open_ended in absurd (cc x)
      go (some_member done ∷ ls) levels e b t f =
          let one : length (head majors.Array Indefinite 0) ≡ 1 = refl in
          let size = length-append (head majors.Array Indefinite 0) (spell_all done) in
          closed (some_member done) ls levels b t f (array Indefinite done) refl (tt, spelled-all (d - suc (length ls)) done levels.1) (omega (arith, levels.0, within-all (d - suc (length ls)) done levels.1)) (omega (arith, size, one))
          (of_kind_array Indefinite done _)
      go (some_key done ∷ ls) levels e b t f =
          let one : length (head majors.Map Indefinite 0) ≡ 1 = refl in
          let size = length-append (head majors.Map Indefinite 0) (spell_entries done) in
          closed (some_key done) ls levels b t f (a_map Indefinite done) refl (tt, pairs-spelled (d - suc (length ls)) done levels.1) (omega (arith, levels.0, pairs-within (d - suc (length ls)) done levels.1)) (omega (arith, size, one))
          (of_kind_map Indefinite done _)
      go (some_value done k ∷ ls) levels e b t f = absurd (h.no_value (ap (λ (x : Cell). x.expected) (cell-is (length input) (some_value done k) ls e)))
      go (l ∷ ls) levels e b t f = absurd (cc (ap (λ (x : Cell). x.is_indefinite) (sym (cell-is (length input) l ls e)) ∙ h.open_ended))
