-- How a complete item changes the cells, one container at a time.
use Rattle.std.proofs.Common.{◌≡◌, ◌≢◌, ℕ, zero, suc, ◌+◌, ◌-◌, ◌≤◌, Bool, true, false, true≢false, IsTrue, Option, Some, None, List, [], ◌∷◌, ◌++◌, length, take, drop, refl, sym, ap, ◌∙◌, subst, arith, append_assoc, slice_range, length-append}
use Rattle.std.proofs.Math.Seq.{take-append_seam, drop-append_seam}
use Rattle.cbor_head.specs.Prelude.{Rules, plain, strict, complaint, Bounds, key_lt, Spelling, SpelledEntries, array, a_map, tag, spell, refusal}
use Rattle.cbor_head.specs.declared.reason.Reason.TheVariants as reasons
use Rattle.cbor_head.specs.declared.{order.KeyOrder.KeyOrder, reason.Reason.Reason, width.Width.Width, width.Width.TheVariants.Indefinite}
use Rattle.theory_values.specs.KeyPrefix.{prefix_of}
use Rattle.theory_verdicts.specs.LastKey as keys
use Rattle.theory_verdicts.proofs.LastKey.{last_key_with}
use Rattle.theory_verdicts.proofs.LastKey.{last_is}
use Rattle.theory_verdicts.proofs.LastKey.{key-fresh, key-falls}
use Rattle.theory_verdicts.specs.Path as path
use Rattle.theory_verdicts.specs.Path.{a_member, a_key, a_value, tagged, level_bytes, bytes_before, HasEnded}
use Rattle.theory_verdicts.proofs.PathSteps.{more_members, more_pairs, member_next, member_bytes, key_next as expected_next, key_bytes, value_next as pair_next, value_bytes, array_ends, array_bytes_end, map_ends, map_bytes_end, tag_ends, tag_bytes_end}
use Rattle.theory_verdicts.{specs.Frame.keys_onto, specs.Judged.IsJudged, specs.Kinds.KeepsToKinds, specs.Stop.HasComplaint, proofs.PathLevels.judged_key_path}
use Rattle.theory_verdicts.proofs.PlainPaths.{judged_repeat}
use Rattle.cbor_parser.specs.inner.Cells.{StrictCell, last_key, key_at, IsKeyExpected, AreCells, AgreesAt, HasEndedAt, HasClosed, OutOfOrder, TakesKey}
use Rattle.cbor_parser.specs.declared.container.Expected.TheVariants.{Item, Key, Value}
use Rattle.cbor_parser.specs.inner.OpenContainer.{after, after_expected, fewer}
use Rattle.cbor_parser.specs.declared.{container.Expected.Expected, last_key.LastKey.LastKey}

-- a part of the input
pub slice_there : (input p q r : List ℕ) (from to : ℕ) → input ≡ (p ++ q) ++ r → from ≡ length p → to ≡ length (p ++ q) → slice_range input from to ≡ q
slice_there input p q r from to e f g =
    let size : to - from ≡ length q = omega (arith, f, g, length-append p q) in
    ap (λ (n : ℕ). take n (drop from input)) size
    ∙ ap (λ (n : ℕ). take (length q) (drop n input)) f
    ∙ ap (λ (x : List ℕ). take (length q) (drop (length p) x)) (e ∙ append_assoc p q r)
    ∙ ap (take (length q)) (drop-append_seam p (q ++ r))
    ∙ take-append_seam q r

pub item_is_no_key : (c : StrictCell) → c.expected ≡ Item → c.expected ≡ Key → ⊥
item_is_no_key c e f = let g : Item ≡ Key = sym e ∙ f in cc

item_is_no_value : (c : StrictCell) → c.expected ≡ Item → c.expected ≡ Value → ⊥
item_is_no_value c e f = let g : Item ≡ Value = sym e ∙ f in cc

pub key_is_no_value : (c : StrictCell) → c.expected ≡ Key → c.expected ≡ Value → ⊥
key_is_no_value c e f = let g : Key ≡ Value = sym e ∙ f in cc

module _ (o : KeyOrder) (limits : Bounds) (input : List ℕ) (at : ℕ) where
  -- the container around is what has ended, or the input's item is whole
  closed : (ls : List path.Level) (s : Spelling) (cs : List StrictCell) → HasEnded (strict o) limits.depth ls s → AreCells input ls cs → KeepsToKinds limits (strict o) (bytes_before ls ++ spell s) → (rest : List ℕ) → input ≡ (bytes_before ls ++ spell s) ++ rest → at ≡ length (bytes_before ls ++ spell s) → HasClosed o limits input cs at
  closed ls s [] h a keeps rest e f = absurd (no_cells ls a)
    where
      no_cells : (ls : List path.Level) → AreCells input ls [] → ⊥
      no_cells [] a = a
      no_cells (l ∷ ls) a = a
  closed ls s (c ∷ cs) h a keeps rest e f = record { ls = ls; item = s; ended = h; keeps = keeps; are = a; rest = rest; bytes = e; here = f }

  closes_by : (ls : List path.Level) (s t : Spelling) (x : List ℕ) (cs : List StrictCell) → HasEnded (strict o) limits.depth ls t → AreCells input ls cs → KeepsToKinds limits (strict o) (x ++ spell s) → (rest : List ℕ) → input ≡ (x ++ spell s) ++ rest → at ≡ length (x ++ spell s)
      → bytes_before ls ++ spell t ≡ x ++ spell s → HasClosed o limits input cs at
  closes_by ls s t x cs h a keeps rest e f same = closed ls t cs h a (subst (KeepsToKinds limits (strict o)) (sym same) keeps) rest (e ∙ ap (λ (u : List ℕ). u ++ rest) (sym same)) (f ∙ ap length (sym same))

  -- ---- a member

  pub item_full : (c : StrictCell) (cs : List StrictCell) → c.expected ≡ Item → c.left ≡ 0 → HasEndedAt o limits input (c ∷ cs) at → HasClosed o limits input cs at
  item_full c cs expected none h = go h.ls cs h.ended h.are h.keeps h.bytes h.here
    where
      go : (ls : List path.Level) (cs : List StrictCell) → HasEnded (strict o) limits.depth ls h.item → AreCells input ls (c ∷ cs) → KeepsToKinds limits (strict o) (bytes_before ls ++ spell h.item) → input ≡ (bytes_before ls ++ spell h.item) ++ h.rest → at ≡ length (bytes_before ls ++ spell h.item) → HasClosed o limits input cs at
      go [] [] i a keeps e f = record { item = h.item; ended = i; keeps = keeps; rest = h.rest; bytes = e; here = f }
      go [] (x ∷ xs) i a keeps e f = absurd a
      go (a_member w zero done ∷ ls) cs i a keeps e f = closes_by ls h.item (array w (more_members done h.item)) (bytes_before (a_member w 0 done ∷ ls)) cs (array_ends (strict o) limits.depth ls w done h.item i) a.1 keeps h.rest e f (array_bytes_end (strict o) limits.depth ls w done h.item a.0.0)
      go (a_member w (suc n) done ∷ ls) cs i a keeps e f = absurd (omega (arith, none, a.0.2))
      go (a_key w n done ∷ ls) cs i a keeps e f = absurd (item_is_no_key c expected a.0.1.expected)
      go (a_value w n done k ∷ ls) cs i a keeps e f = absurd (item_is_no_value c expected a.0.1.expected)
      go (tagged w n ∷ ls) cs i a keeps e f = closes_by ls h.item (tag w n h.item) (bytes_before (tagged w n ∷ ls)) cs (tag_ends (strict o) limits.depth ls w n h.item i) a.1 keeps h.rest e f (tag_bytes_end (strict o) limits.depth ls w n h.item)

  pub item_next : (c new : StrictCell) (cs : List StrictCell) → c.expected ≡ Item → c.left ≡ suc new.left → new.expected ≡ Item → new.is_indefinite ≡ false → HasEndedAt o limits input (c ∷ cs) at → AgreesAt o limits input (new ∷ cs) at
  item_next c new cs expected more still definite h = go h.ls cs h.ended h.are h.keeps h.bytes h.here
    where
      go : (ls : List path.Level) (cs : List StrictCell) → HasEnded (strict o) limits.depth ls h.item → AreCells input ls (c ∷ cs) → KeepsToKinds limits (strict o) (bytes_before ls ++ spell h.item) → input ≡ (bytes_before ls ++ spell h.item) ++ h.rest → at ≡ length (bytes_before ls ++ spell h.item) → AgreesAt o limits input (new ∷ cs) at
      go [] [] i a keeps e f = absurd (omega (arith, more, a.1))
      go [] (x ∷ xs) i a keeps e f = absurd a
      go (a_member w zero done ∷ ls) cs i a keeps e f = absurd (omega (arith, more, a.0.2))
      go (a_member w (suc n) done ∷ ls) cs i a keeps e f =
          let same = member_bytes (strict o) limits.depth ls w n done h.item in
          record {
            ls = a_member w n (more_members done h.item) ∷ ls;
            clean = member_next (strict o) limits.depth ls w n done h.item i;
            keeps = subst (KeepsToKinds limits (strict o)) (sym same) keeps;
            are = ((a.0.0, still, omega (arith, more, a.0.2), definite), a.1);
            rest = h.rest;
            bytes = e ∙ ap (λ (u : List ℕ). u ++ h.rest) (sym same);
            here = f ∙ ap length (sym same);
          }
      go (a_key w n done ∷ ls) cs i a keeps e f = absurd (item_is_no_key c expected a.0.1.expected)
      go (a_value w n done k ∷ ls) cs i a keeps e f = absurd (item_is_no_value c expected a.0.1.expected)
      go (tagged w n ∷ ls) cs i a keeps e f = absurd (omega (arith, more, a.0.1))

  -- ---- a value

  pub value_full : (c : StrictCell) (cs : List StrictCell) → c.expected ≡ Value → c.left ≡ 0 → HasEndedAt o limits input (c ∷ cs) at → HasClosed o limits input cs at
  value_full c cs expected none h = go h.ls cs h.ended h.are h.keeps h.bytes h.here
    where
      go : (ls : List path.Level) (cs : List StrictCell) → HasEnded (strict o) limits.depth ls h.item → AreCells input ls (c ∷ cs) → KeepsToKinds limits (strict o) (bytes_before ls ++ spell h.item) → input ≡ (bytes_before ls ++ spell h.item) ++ h.rest → at ≡ length (bytes_before ls ++ spell h.item) → HasClosed o limits input cs at
      go [] [] i a keeps e f = absurd (item_is_no_value c a.0 expected)
      go [] (x ∷ xs) i a keeps e f = absurd a
      go (a_member w n done ∷ ls) cs i a keeps e f = absurd (item_is_no_value c a.0.1 expected)
      go (a_key w n done ∷ ls) cs i a keeps e f = absurd (key_is_no_value c a.0.1.expected expected)
      go (a_value w zero done k ∷ ls) cs i a keeps e f = closes_by ls h.item (a_map w (more_pairs done k h.item)) (bytes_before (a_value w 0 done k ∷ ls)) cs (map_ends (strict o) limits.depth ls w done k h.item i) a.1 keeps h.rest e f (map_bytes_end (strict o) limits.depth ls w done k h.item a.0.0)
      go (a_value w (suc n) done k ∷ ls) cs i a keeps e f = absurd (omega (arith, none, a.0.1.left))
      go (tagged w n ∷ ls) cs i a keeps e f = absurd (item_is_no_value c a.0.0 expected)

  pub value_next : (c new : StrictCell) (cs : List StrictCell) → c.expected ≡ Value → c.left ≡ suc new.left → new.expected ≡ Key → new.is_indefinite ≡ false → new.kept.key ≡ at → last_key input new.kept ≡ last_key input c.kept → new.kept.prefix ≡ c.kept.prefix → HasEndedAt o limits input (c ∷ cs) at → AgreesAt o limits input (new ∷ cs) at
  value_next c new cs expected more is_key definite begins kept prefix h = go h.ls cs h.ended h.are h.keeps h.bytes h.here
    where
      go : (ls : List path.Level) (cs : List StrictCell) → HasEnded (strict o) limits.depth ls h.item → AreCells input ls (c ∷ cs) → KeepsToKinds limits (strict o) (bytes_before ls ++ spell h.item) → input ≡ (bytes_before ls ++ spell h.item) ++ h.rest → at ≡ length (bytes_before ls ++ spell h.item) → AgreesAt o limits input (new ∷ cs) at
      go [] [] i a keeps e f = absurd (item_is_no_value c a.0 expected)
      go [] (x ∷ xs) i a keeps e f = absurd a
      go (a_member w n done ∷ ls) cs i a keeps e f = absurd (item_is_no_value c a.0.1 expected)
      go (a_key w n done ∷ ls) cs i a keeps e f = absurd (key_is_no_value c a.0.1.expected expected)
      go (a_value w zero done k ∷ ls) cs i a keeps e f = absurd (omega (arith, more, a.0.1.left))
      go (a_value w (suc n) done k ∷ ls) cs i a keeps e f =
          let same = value_bytes (strict o) limits.depth ls w n done k h.item in
          let l = a_key w n (more_pairs done k h.item) in
          let last : last_key input new.kept ≡ keys.last_key (more_pairs done k h.item) = kept ∙ a.0.1.holds.is ∙ sym (last_key_with done k h.item) in
          record {
            ls = l ∷ ls;
            clean = pair_next (strict o) limits.depth ls w n done k h.item i;
            keeps = subst (KeepsToKinds limits (strict o)) (sym same) keeps;
            are = (
              (a.0.0, record { expected = is_key; left = omega (arith, more, a.0.1.left); definite = definite; begins = begins ∙ f ∙ ap length (sym same) ∙ length-append (bytes_before ls) (level_bytes l); holds = record { is = last; prefixed = prefix ∙ a.0.1.holds.prefixed ∙ ap prefix_of (sym kept) } }),
              a.1,
            );
            rest = h.rest;
            bytes = e ∙ ap (λ (u : List ℕ). u ++ h.rest) (sym same);
            here = f ∙ ap length (sym same);
          }
      go (tagged w n ∷ ls) cs i a keeps e f = absurd (item_is_no_value c a.0.0 expected)

  -- ---- a key

  -- where the key is, and the last one
  record IsKeyHere (c : StrictCell) (cs : List StrictCell) : Type 0 where
    w : Width
    left : ℕ
    done : SpelledEntries
    ls : List path.Level
    item : Spelling
    ended : HasEnded (strict o) limits.depth (a_key w left done ∷ ls) item
    keeps : KeepsToKinds limits (strict o) (bytes_before (a_key w left done ∷ ls) ++ spell item)
    definite : w ≢ Indefinite
    is : IsKeyExpected input c left (keys.last_key done) (length (bytes_before ls) + length (level_bytes (a_key w left done)))
    are : AreCells input ls cs
    rest : List ℕ
    bytes : input ≡ (bytes_before (a_key w left done ∷ ls) ++ spell item) ++ rest
    here : at ≡ length (bytes_before (a_key w left done ∷ ls) ++ spell item)

  key_here : (c : StrictCell) (cs : List StrictCell) → c.expected ≡ Key → HasEndedAt o limits input (c ∷ cs) at → IsKeyHere c cs
  key_here c cs expected h = go h.ls cs h.ended h.are h.keeps h.bytes h.here
    where
      go : (ls : List path.Level) (cs : List StrictCell) → HasEnded (strict o) limits.depth ls h.item → AreCells input ls (c ∷ cs) → KeepsToKinds limits (strict o) (bytes_before ls ++ spell h.item) → input ≡ (bytes_before ls ++ spell h.item) ++ h.rest → at ≡ length (bytes_before ls ++ spell h.item) → IsKeyHere c cs
      go [] [] i a keeps e f = absurd (item_is_no_key c a.0 expected)
      go [] (x ∷ xs) i a keeps e f = absurd a
      go (a_member w n done ∷ ls) cs i a keeps e f = absurd (item_is_no_key c a.0.1 expected)
      go (a_key w n done ∷ ls) cs i a keeps e f = record { w = w; left = n; done = done; ls = ls; item = h.item; ended = i; keeps = keeps; definite = a.0.0; is = a.0.1; are = a.1; rest = h.rest; bytes = e; here = f }
      go (a_value w n done k ∷ ls) cs i a keeps e f = absurd (key_is_no_value c expected a.0.1.expected)
      go (tagged w n ∷ ls) cs i a keeps e f = absurd (item_is_no_key c a.0.0 expected)

  module _ (c : StrictCell) (cs : List StrictCell) (k : IsKeyHere c cs) where
    begins_at : c.kept.key ≡ length (bytes_before (a_key k.w k.left k.done ∷ k.ls))
    begins_at = k.is.begins ∙ sym (length-append (bytes_before k.ls) (level_bytes (a_key k.w k.left k.done)))

    key_bytes_are : key_at input c.kept at ≡ spell k.item
    key_bytes_are = slice_there input (bytes_before (a_key k.w k.left k.done ∷ k.ls)) (spell k.item) k.rest c.kept.key at k.bytes begins_at k.here

    before_end : c.kept.key ≤ at
    before_end = omega (arith, begins_at, k.here, length-append (bytes_before (a_key k.w k.left k.done ∷ k.ls)) (spell k.item))

  pub key_next : (c new : StrictCell) (cs : List StrictCell) → c.expected ≡ Key → new.expected ≡ Value → new.left ≡ c.left → new.is_indefinite ≡ c.is_indefinite → TakesKey true o input at c.kept new.kept → HasEndedAt o limits input (c ∷ cs) at → AgreesAt o limits input (new ∷ cs) at
  key_next c new cs expected is_value same_left same_length t h =
      let k = key_here c cs expected h in
      let key = key_bytes_are c cs k in
      let rises : IsTrue (key_lt o (keys.last_key k.done) (spell k.item)) = rw (sym k.is.holds.is) (rw (sym key) (t.1 k.is.holds.prefixed)) in
      let same = key_bytes (strict o) limits.depth k.ls k.w k.left k.done k.item in
      record {
        ls = a_value k.w k.left k.done k.item ∷ k.ls;
        clean = expected_next (strict o) limits.depth k.ls k.w k.left k.done k.item k.ended (key-fresh o _ k.item (spell k.item) refl (keys_onto [] k.done) (keys.last_key k.done) (last_is k.done) rises);
        keeps = subst (KeepsToKinds limits (strict o)) (sym same) k.keeps;
        are = ((k.definite, record { expected = is_value; left = same_left ∙ k.is.left; definite = same_length ∙ k.is.definite; holds = record { is = t.0.is ∙ key; prefixed = t.0.prefixed } }), k.are);
        rest = k.rest;
        bytes = k.bytes ∙ ap (λ (u : List ℕ). u ++ k.rest) (sym same);
        here = k.here ∙ ap length (sym same);
      }

  module _ (c : StrictCell) (cs : List StrictCell) (k : IsKeyHere c cs) where
    abbrev here : List ℕ
    here = bytes_before (a_key k.w k.left k.done ∷ k.ls)

    -- the complaint of the rules about it
    has_complaint : (r : Rules) (reason : Reason) → KeepsToKinds limits r (here ++ spell k.item) → IsJudged r 0 limits.depth (here ++ spell k.item) (Some (complaint (length here + length (spell k.item)) (length here) reason)) → HasComplaint r limits input (refusal reason c.kept.key at)
    has_complaint r reason keeps judged =
        let end : at ≡ length here + length (spell k.item) = k.here ∙ length-append here (spell k.item) in
        record {
          p = here ++ spell k.item;
          rest = k.rest;
          splits = k.bytes;
          complaint = complaint (length here + length (spell k.item)) (length here) reason;
          judged = judged;
          keeps = keeps;
          is = ap (λ (n : ℕ). refusal reason n at) (begins_at c cs k) ∙ ap (refusal reason (length here)) end;
        }

    falls : key_lt o (last_key input c.kept) (key_at input c.kept at) ≡ false → OutOfOrder o limits input c.kept at
    falls below =
        let key = key_bytes_are c cs k in
        let same : key_lt o (last_key input c.kept) (key_at input c.kept at) ≡ key_lt o (keys.last_key k.done) (spell k.item) =
        ap (λ (x : List ℕ). key_lt o x (key_at input c.kept at)) k.is.holds.is ∙ ap (key_lt o (keys.last_key k.done)) key in
        let not_after : IsTrue (key_lt o (keys.last_key k.done) (spell k.item)) → ⊥ = λ g. true≢false (sym g ∙ sym same ∙ below) in
        record {
          strictly = has_complaint (strict o) reasons.KeyOrder k.keeps (judged_key_path (strict o) limits.depth k.w k.left k.done k.ls k.item _ k.ended
              (key-falls o (length here) k.item (spell k.item) refl (keys_onto [] k.done) (keys.last_key k.done) (last_is k.done) not_after));
          repeated = λ e. has_complaint plain reasons.RepeatedKey k.keeps (judged_repeat o limits.depth k.w k.left k.done k.ls k.item k.ended (sym k.is.holds.is ∙ e ∙ key));
        }

  pub key_out_of_order : (c new : StrictCell) (cs : List StrictCell) → c.expected ≡ Key → TakesKey false o input at c.kept new.kept → HasEndedAt o limits input (c ∷ cs) at → OutOfOrder o limits input new.kept at
  key_out_of_order c new cs expected t h =
      let k = key_here c cs expected h in
      subst (λ (l : LastKey). OutOfOrder o limits input l at) (sym t.0) (falls c cs k (t.1 (before_end c cs k) k.is.holds.prefixed))

  -- ---- where the next is expected

  -- each is of definite length
  definite_cell : (c : StrictCell) (cs : List StrictCell) → HasEndedAt o limits input (c ∷ cs) at → c.is_indefinite ≡ false
  definite_cell c cs h = go h.ls cs h.are
    where
      go : (ls : List path.Level) (cs : List StrictCell) → AreCells input ls (c ∷ cs) → c.is_indefinite ≡ false
      go [] [] a = a.2
      go [] (x ∷ xs) a = absurd a
      go (a_member w n done ∷ ls) cs a = a.0.3
      go (a_key w n done ∷ ls) cs a = a.0.1.definite
      go (a_value w n done k ∷ ls) cs a = a.0.1.definite
      go (tagged w n ∷ ls) cs a = a.0.2

  fewer_some : (e : Expected) (n : ℕ) (i : Bool) (k : LastKey) (new : StrictCell) → i ≡ false → fewer e n i k ≡ Some new → (n ≡ suc new.left) × (new.expected ≡ e) × (new.is_indefinite ≡ false) × (new.kept ≡ k)
  fewer_some e (suc n) i k new d h =
      let same : record { expected = e; left = n; is_indefinite = i; kept = k } ≡ new = cc h in
      (ap (λ (c : StrictCell). suc c.left) same, sym (ap (λ (c : StrictCell). c.expected) same), sym (ap (λ (c : StrictCell). c.is_indefinite) same) ∙ d, sym (ap (λ (c : StrictCell). c.kept) same))
  fewer_some e zero true k new d h = absurd (cc d)
  fewer_some e zero false k new d h = absurd (cc h)

  fewer_none : (e : Expected) (n : ℕ) (i : Bool) (k : LastKey) → fewer e n i k ≡ None → n ≡ 0
  fewer_none e (suc n) i k h = absurd (cc h)
  fewer_none e zero i k h = refl

  after_is : (e : Expected) (c : StrictCell) (r : Option StrictCell) → c.expected ≡ e → after c ≡ r → after_expected e c ≡ r
  after_is e c r is h = ap (λ (x : Expected). after_expected x c) (sym is) ∙ h

  module _ (c new : StrictCell) (cs : List StrictCell) (h : HasEndedAt o limits input (c ∷ cs) at) where
    pub item_goes : c.expected ≡ Item → after c ≡ Some new → AgreesAt o limits input (new ∷ cs) at
    item_goes e more =
        let f = fewer_some c.expected c.left c.is_indefinite c.kept new (definite_cell c cs h) (after_is Item c (Some new) e more) in
        item_next c new cs e f.0 (f.1 ∙ e) f.2 h

    pub value_goes : c.expected ≡ Value → after (record c { kept = record c.kept { key = at } }) ≡ Some new → AgreesAt o limits input (new ∷ cs) at
    value_goes e more =
        let f = fewer_some Key c.left c.is_indefinite (record c.kept { key = at }) new (definite_cell c cs h) (after_is Value (record c { kept = record c.kept { key = at } }) (Some new) e more) in
        value_next c new cs e f.0 f.1 f.2 (ap (λ (k : LastKey). k.key) f.3) (ap (last_key input) f.3) (ap (λ (k : LastKey). k.prefix) f.3) h

    pub key_goes : (kept : LastKey) → c.expected ≡ Key → TakesKey true o input at c.kept kept → after (record c { kept = kept }) ≡ Some new → AgreesAt o limits input (new ∷ cs) at
    key_goes kept e t more =
        let same : record c { expected = Value; kept = kept } ≡ new = cc (after_is Key (record c { kept = kept }) (Some new) e more) in
        key_next c new cs e (sym (ap (λ (x : StrictCell). x.expected) same)) (sym (ap (λ (x : StrictCell). x.left) same)) (sym (ap (λ (x : StrictCell). x.is_indefinite) same))
        (subst (λ (k : LastKey). TakesKey true o input at c.kept k) (ap (λ (x : StrictCell). x.kept) same) t) h

  module _ (c : StrictCell) (cs : List StrictCell) (h : HasEndedAt o limits input (c ∷ cs) at) where
    pub item_ends : c.expected ≡ Item → after c ≡ None → HasClosed o limits input cs at
    item_ends e none = item_full c cs e (fewer_none c.expected c.left c.is_indefinite c.kept (after_is Item c None e none)) h

    pub value_ends : (kept : LastKey) → c.expected ≡ Value → after (record c { kept = kept }) ≡ None → HasClosed o limits input cs at
    value_ends kept e none = value_full c cs e (fewer_none Key c.left c.is_indefinite kept (after_is Value (record c { kept = kept }) None e none)) h

    pub key_goes_on : (kept : LastKey) → c.expected ≡ Key → after (record c { kept = kept }) ≡ None → ⊥
    key_goes_on kept e none = cc (after_is Key (record c { kept = kept }) None e none)
