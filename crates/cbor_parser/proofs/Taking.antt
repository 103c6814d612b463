-- What is taken where an item is expected, in the cells.
use Rattle.std.proofs.Common.{◌≡◌, ℕ, suc, ◌+◌, ◌-◌, ◌<◌, ◌≤◌, Bool, true, false, nat_lt, List, [], ◌∷◌, ◌++◌, length, take, drop, refl, sym, ap, ◌∙◌, subst, inl, inr, arith, append_assoc, append-nil, length-drop, slice_range, ltb-true, ltb-false, length-append}
use Rattle.std.proofs.Math.Seq.{drop-append_seam}
use Rattle.cbor_head.specs.Prelude.{strict, OfCount, Holds, IsHead, head, shortest, Bounds, spell, no_spellings, no_entries, HoldsOrIndefinite}
use Rattle.cbor_head.specs.declared.major.Major.TheVariants.{Array, Map, Tag}
use Rattle.cbor_head.specs.declared.{major.Major.Major, order.KeyOrder.KeyOrder, width.Width.Width, width.Width.TheVariants.Indefinite}
use Rattle.cbor_head.specs.declared.keys.Keys.TheVariants.{IntegersAndTexts}
use Rattle.theory_values.{proofs.Normal.Holds-shortest, specs.KeyPrefix.prefix_of}
use Rattle.theory_verdicts.specs.Path as path
use Rattle.theory_verdicts.specs.Path.{a_member, a_key, a_value, tagged, level_bytes, bytes_before, IsKeyExpectedIn}
use Rattle.theory_verdicts.proofs.PathKinds.{kept_prefix, head_begun, keeps_begun, keeps_item}
use Rattle.theory_verdicts.proofs.{Items.is-definite, Heads.open_or, Heads.takes, KindBytes.head_is_one, KindFrames.keeps_start}
use Rattle.theory_verdicts.specs.{Judged.Never, Kinds.KeepsToKinds, PathKinds.KeepsHere, RefusedHere.IsPlaceFor}
use Rattle.cbor_parser.specs.inner.Cells.{strict_cell, AreCells, AgreesAt, HasEndedAt, IsWhole}
use Rattle.cbor_parser.specs.declared.container.Expected.TheVariants.{Item, Key, Value}
use Rattle.cbor_parser.proofs.CellSteps.{item_is_no_key, key_is_no_value, item_full}
use Rattle.cbor_parser.specs.inner.Cells.{StrictCell}
use Rattle.cbor_parser.specs.{inner.Faults.IsKeyAsked, inner.Leaves.IsLeaf, inner.Items.IsFit, inner.Items.IsOpener, Stack.open_levels}
use Rattle.cbor_parser.{specs.declared.container.Expected.Expected, specs.declared.stack.Stack.Stack, proofs.Stacks.open_levels_count}

-- ---- how many are open

pub cells_count : (input : List ℕ) (ls : List path.Level) (cs : List StrictCell) → AreCells input ls cs → length cs ≡ suc (length ls)
cells_count input [] (c ∷ []) a = refl
cells_count input (l ∷ ls) (c ∷ cs) a = ap suc (cells_count input ls cs a.1)
cells_count input _ _ a = absurd a

-- ---- a key is expected

expected_key : (input : List ℕ) (ls : List path.Level) (c : StrictCell) (cs : List StrictCell) → AreCells input ls (c ∷ cs) → IsKeyExpectedIn ls → c.expected ≡ Key
expected_key input (a_key w left done ∷ ls) c cs a h = a.0.1.expected
expected_key input _ c cs a h = absurd h

pub key_expected : (input : List ℕ) (ls : List path.Level) (c : StrictCell) (cs : List StrictCell) → AreCells input ls (c ∷ cs) → c.expected ≡ Key → IsKeyExpectedIn ls
key_expected input (a_key w left done ∷ ls) c cs a e = tt
key_expected input (a_member w left done ∷ ls) c cs a e = absurd (item_is_no_key c a.0.1 e)
key_expected input (a_value w left done k ∷ ls) c cs a e = absurd (key_is_no_value c e a.0.1.expected)
key_expected input (tagged w n ∷ ls) c cs a e = absurd (item_is_no_key c a.0.0 e)
key_expected input [] c [] a e = absurd (item_is_no_key c a.0 e)
key_expected input [] c (x ∷ xs) a e = absurd a

-- whether it is a key whose kind is judged
pub key_asked : (o : KeyOrder) (limits : Bounds) (input : List ℕ) (c : StrictCell) (cs : List StrictCell) (at : ℕ) (s : AgreesAt o limits input (c ∷ cs) at) (is_key : Bool)
    → (is_key ≡ true → (limits.keys ≡ IntegersAndTexts) × (c.expected ≡ Key)) → (is_key ≡ false → limits.keys ≡ IntegersAndTexts → c.expected ≡ Key → ⊥) → IsKeyAsked is_key limits s.ls
key_asked o limits input c cs at s is_key both none = record {
  both = λ e. let b = both e in (b.0, key_expected input s.ls c cs s.are b.1);
  none = λ e these expected. none e these (expected_key input s.ls c cs s.are expected);
}

pub always : (b : Bool) → (b ≡ false → ⊥) → b ≡ true
always true h = refl
always false h = absurd (h refl)

-- ---- heads in their shortest form

never_long : (o : KeyOrder) (at : ℕ) (m : Major) (w : Width) (n : ℕ) → Holds w n → w ≡ shortest n → Never (OfCount (strict o) at m w n)
never_long o at m Indefinite n h e c x = h
never_long o at m _ n h e c x = x.1 e

from_none : (left : ℕ) → 0 + suc left ≡ suc left
from_none left = omega arith

no_bytes : (xs : List ℕ) (at : ℕ) → slice_range xs at at ≡ []
no_bytes xs at = let e : at - at ≡ 0 = omega arith in ap (λ (n : ℕ). take n (drop at xs)) e

module _ (o : KeyOrder) (limits : Bounds) (input : List ℕ) (cs : List StrictCell) (at : ℕ) (s : AgreesAt o limits input cs at) where
  pub rest_is : drop at input ≡ s.rest
  rest_is = ap (λ (n : ℕ). drop n input) s.here ∙ ap (drop (length (bytes_before s.ls))) s.bytes ∙ drop-append_seam (bytes_before s.ls) s.rest

  pub whole_is : input ≡ bytes_before s.ls ++ drop at input
  whole_is = s.bytes ∙ ap (λ (x : List ℕ). bytes_before s.ls ++ x) (sym rest_is)

  pub leaf_ends : (space : Bool) (used : ℕ) → IsLeaf space (drop at input) used → (space ≡ true → length s.ls < limits.depth) → KeepsHere limits (strict o) s.ls (drop at input) → HasEndedAt o limits input cs (at + used)
  leaf_ends space used leaf fits kept =
      let b = drop at input in
      let i = leaf.item o (limits.depth - length s.ls) (λ e. let l : length s.ls < limits.depth = fits e in omega (arith, l)) in
      let size : length (spell i.item) ≡ used = omega (arith, ap length i.bytes, length-append (spell i.item) (drop used b), length-drop used b, leaf.inside) in
      record {
        ls = s.ls;
        item = i.item;
        ended = record { around = s.clean; spelled = i.fine.spelled; within = i.fine.within; clean = i.fine.clean (length (bytes_before s.ls)) };
        keeps = keeps_item limits (strict o) s.ls s.clean i.item i.fine.spelled i.fine.within i.fine.keyless (kept_prefix limits (strict o) s.ls (spell i.item) (drop used b) (subst (KeepsHere limits (strict o) s.ls) i.bytes kept));
        are = s.are;
        rest = drop used b;
        bytes = whole_is ∙ ap (λ (x : List ℕ). bytes_before s.ls ++ x) i.bytes ∙ sym (append_assoc (bytes_before s.ls) (spell i.item) (drop used b));
        here = omega (arith, s.here, size, length-append (bytes_before s.ls) (spell i.item));
      }

  -- a container opens, whose head these bytes are
  module _ (used : ℕ) (inside : used ≤ length (drop at input)) (space : length s.ls < limits.depth) (kept : KeepsHere limits (strict o) s.ls (drop at input)) where
    opened : (l : path.Level) (c : StrictCell) (m : Major) (w : Width) (n : ℕ) → IsHead m w n → takes m ≤ limits.depth - length s.ls → Holds w n → drop at input ≡ head m w n ++ drop used (drop at input) → level_bytes l ≡ head m w n → path.IsClean (strict o) (length (bytes_before s.ls)) (limits.depth - suc (length s.ls)) l
        → (at + used ≡ length (bytes_before (l ∷ s.ls)) → AreCells input (l ∷ s.ls) (c ∷ cs)) → AgreesAt o limits input (c ∷ cs) (at + used)
    opened l c m w n h deep holds e is clean are =
        let b = drop at input in
        let hs = head m w n in
        let fit = kept_prefix limits (strict o) s.ls hs (drop used b) (subst (KeepsHere limits (strict o) s.ls) e kept) in
        let size : length hs ≡ used = omega (arith, ap length e, length-append hs (drop used b), length-drop used b, inside) in
        let here : at + used ≡ length (bytes_before (l ∷ s.ls)) = omega (arith, s.here, size, ap length is, length-append (bytes_before s.ls) (level_bytes l)) in
        record {
          ls = l ∷ s.ls;
          clean = (space, clean, s.clean);
          keeps = subst (λ (x : List ℕ). KeepsToKinds limits (strict o) (bytes_before s.ls ++ x)) (sym is)
              (keeps_begun limits (strict o) s.ls s.clean hs (head_begun (limits.depth - length s.ls) m w n h deep) (head_is_one m w n (open_or w n holds)) fit);
          are = are here;
          rest = drop used b;
          bytes = whole_is ∙ ap (λ (x : List ℕ). bytes_before s.ls ++ x) (e ∙ ap (λ (x : List ℕ). x ++ drop used b) (sym is)) ∙ sym (append_assoc (bytes_before s.ls) (level_bytes l) (drop used b));
          here = here;
        }

    pub opener_opens : (expected : Expected) (left : ℕ) → IsOpener expected left (drop at input) (drop used (drop at input)) → AgreesAt o limits input (strict_cell expected left (at + used) ∷ cs) (at + used)
    opener_opens Item left (inl h) =
        let n = suc left in
        let w = shortest n in
        let holds = Holds-shortest n h.0 in
        let from = from_none left in
        opened (a_member w left no_spellings) (strict_cell Item left (at + used)) Array w n holds (omega (arith, space)) holds h.1 (append-nil (head Array w (0 + suc left)) ∙ ap (head Array w) from)
        (record {
          holds = subst (HoldsOrIndefinite w) (sym from) (open_or w n holds);
          spelled = tt;
          within = omega arith;
          head_clean = subst (λ (k : ℕ). Never (OfCount (strict o) (length (bytes_before s.ls)) Array w k)) (sym from) (never_long o (length (bytes_before s.ls)) Array w n holds refl);
          clean = λ c x. x;
        })
        (λ here. ((is-definite w n holds, refl, refl, refl), s.are))
    opener_opens Item left (inr (none, (n, range, e))) =
        let w = shortest n in
        opened (tagged w n) (strict_cell Item left (at + used)) Tag w n (Holds-shortest n range) (omega (arith, space)) (Holds-shortest n range) e refl (Holds-shortest n range, λ c x. x.1 refl) (λ here. ((refl, none, refl), s.are))
    opener_opens Key left h =
        let n = suc left in
        let w = shortest n in
        let holds = Holds-shortest n h.0 in
        let from = from_none left in
        let l = a_key w left no_entries in
        let c = strict_cell Key left (at + used) in
        opened l c Map w n holds (omega (arith, space)) holds h.1 (append-nil (head Map w (0 + suc left)) ∙ ap (head Map w) from)
        (record {
          holds = subst (HoldsOrIndefinite w) (sym from) (open_or w n holds);
          spelled = tt;
          within = omega arith;
          head_clean = subst (λ (k : ℕ). Never (OfCount (strict o) (length (bytes_before s.ls)) Map w k)) (sym from) (never_long o (length (bytes_before s.ls)) Map w n holds refl);
          clean = λ x y. y;
        })
        (λ here. (
          (is-definite w n holds, record { expected = refl; left = refl; definite = refl; begins = here ∙ length-append (bytes_before s.ls) (level_bytes l); holds = record { is = no_bytes input (at + used); prefixed = ap prefix_of (sym (no_bytes input (at + used))) } }),
          s.are,
        ))
    opener_opens Value left h = absurd h

-- as many as the stack's height
pub height_is : (o : KeyOrder) (limits : Bounds) (input : List ℕ) (k : Stack StrictCell) (cells : List StrictCell) (at : ℕ) (s : AgreesAt o limits input (open_levels StrictCell k cells) at) → k.height ≤ length cells → length s.ls ≡ k.height
height_is o limits input k cells at s l = omega (arith, cells_count input s.ls (open_levels StrictCell k cells) s.are, open_levels_count StrictCell k cells l)

-- they exist, and one more may open if there is space for it
pub place_for : (o : KeyOrder) (limits : Bounds) (d : ℕ) (input : List ℕ) (k : Stack StrictCell) (cells : List StrictCell) (at : ℕ) (s : AgreesAt o limits input (open_levels StrictCell k cells) at) → k.height ≤ length cells → limits.depth ≡ d
    → IsPlaceFor (nat_lt k.height d) limits.depth s.ls at
place_for o limits d input k cells at s l e =
    let height = height_is o limits input k cells at s l in
    record { here = s.here; fits = λ r. omega (arith, ltb-true k.height d r, height, e); full = λ r. omega (arith, ltb-false k.height d r, height, e) }

-- what is expected is fit
pub fit_here : (o : KeyOrder) (limits : Bounds) (input : List ℕ) (c : StrictCell) (cs : List StrictCell) (at : ℕ) (s : AgreesAt o limits input (c ∷ cs) at) (rest : List ℕ) → IsFit limits c.expected rest → KeepsHere limits (strict o) s.ls rest
fit_here o limits input c cs at s rest fit = record { before = s.keeps; here = λ asked expected. fit asked.1 (expected_key input s.ls c cs s.are expected) }

-- the item of the input is expected before its first byte
pub at_start : (o : KeyOrder) (limits : Bounds) (input : List ℕ) → AgreesAt o limits input (strict_cell Item 0 0 ∷ []) 0
at_start o limits input = record { ls = []; clean = tt; keeps = keeps_start limits (strict o); are = (refl, refl, refl); rest = input; bytes = refl; here = refl }

-- nothing is open around it
pub start_keeps : (o : KeyOrder) (limits : Bounds) (input : List ℕ) → KeepsHere limits (strict o) [] input
start_keeps o limits input = record { before = keeps_start limits (strict o); here = λ asked expected. absurd expected }

pub start_place : (limits : Bounds) (d : ℕ) → d ≡ limits.depth → IsPlaceFor (nat_lt 0 d) limits.depth [] 0
start_place limits d e = record { here = refl; fits = λ r. omega (arith, ltb-true 0 d r, e); full = λ r. omega (arith, ltb-false 0 d r, e) }

-- the input's item is a leaf
pub leaf_is_whole : (o : KeyOrder) (limits : Bounds) (input : List ℕ) (d used : ℕ) → d ≡ limits.depth → IsLeaf (nat_lt 0 d) input used → IsWhole o limits input used
unfolding at_start
leaf_is_whole o limits input d used e leaf =
    let first = strict_cell Item 0 0 in
    let at : 0 + used ≡ used = omega arith in
    subst (IsWhole o limits input) at
    (item_full o limits input (0 + used) first [] refl refl (leaf_ends o limits input (first ∷ []) 0 (at_start o limits input) (nat_lt 0 d) used leaf (start_place limits d e).fits (start_keeps o limits input)))
