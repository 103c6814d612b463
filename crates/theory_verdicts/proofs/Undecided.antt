-- If memory is refused, all but the last byte read decide nothing against the item.
use Rattle.std.proofs.Common.{ℕ, ◌-◌, ◌≡◌, ◌<◌, ◌≤◌, Option, List, [], ◌∷◌, ◌++◌, length, refl, sym, ap, ◌∙◌, append_assoc, arith, subst, length-append}
use Rattle.cbor_head.specs.Prelude.{head, Bounds, Value, AreBytes, spell, Rules}
use Rattle.cbor_head.specs.declared.{major.Major.Major, width.Width.Width}
use Rattle.theory_values.proofs.{Agree.body, Agree.parts, ReadLaws.length_spell, ReadLaws.length_head, ByteLists.bytes_prefix}
use Rattle.theory_automaton.specs.Trace.{Mark, a_head, a_break}
use Rattle.cbor_machine.specs.NextEvent.{ItemEventsView}
use Rattle.theory_verdicts.specs.Place.{Container, Place, at_item, IsTaking}
use Rattle.theory_verdicts.specs.Reading.{IsUndecided, IsPart, ReadsItem}
use Rattle.theory_verdicts.proofs.{Heads.Headed, Items.taken-headed, Judged.judged_head, Judged.judged_start}

-- a list with its last byte apart
pub record LastApart (xs : List ℕ) : Type 0 where
  pub prefix : List ℕ
  pub last : List ℕ
  pub splits : xs ≡ prefix ++ last
  pub byte : length last ≡ 1

pub last-apart : (xs : List ℕ) → 0 < length xs → LastApart xs
last-apart [] h = absurd (omega arith)
last-apart (x ∷ []) h = record { prefix = []; last = x ∷ []; splits = refl; byte = refl }
last-apart (x ∷ y ∷ ys) h =
    let k = last-apart (y ∷ ys) (omega arith) in
    record { prefix = x ∷ k.prefix; last = k.last; splits = ap (λ (zs : List ℕ). x ∷ zs) k.splits; byte = k.byte }

-- after an item without complaint
pub item-undecided : (r : Rules) (b : Bounds) (fs : List Container) (t x : List ℕ) (from to : Option (List ℕ)) (new : ItemEventsView) (v : Value) → (m : ReadsItem r b fs t x from to new v) → IsUndecided r b fs t (spell m.item)
item-undecided r b fs t x from to new v m =
    let k = last-apart (spell m.item) (length_spell m.item) in
    let size = length-append k.prefix k.last in
    record {
      p = k.prefix;
      last = k.last;
      splits = k.splits;
      byte = omega (arith, k.byte);
      judged = record {
        item = m.item;
        rest = k.last;
        is = record { spelled = m.spelled; within = m.within; bytes_are = k.splits };
        finding = (omega (arith, k.byte, ap length k.splits, size), λ e g. absurd (m.clean e g));
      };
    }

-- within a payload
pub is-part : (n : ℕ) (bytes : List ℕ) → 0 < length bytes → length bytes ≤ n → AreBytes bytes → IsPart n bytes
is-part n bytes some most h =
    let k = last-apart bytes some in
    record {
      p = k.prefix;
      last = k.last;
      splits = k.splits;
      byte = omega (arith, k.byte);
      short = omega (arith, k.byte, most, ap length k.splits, length-append k.prefix k.last);
      are_bytes = bytes_prefix k.prefix k.last (subst AreBytes k.splits h);
    }

-- ---- a head

head-undecided : (r : Rules) (b : Bounds) (fs : List Container) (t : List ℕ) (m : Major) (w : Width) (n : ℕ) → Headed (b.depth - length fs) m w n → IsUndecided r b fs t (head m w n)
head-undecided r b fs t m w n h =
    let k = last-apart (head m w n) (length_head m w n) in
    let is = h.head_is ∙ k.splits in
    record {
      p = k.prefix;
      last = k.last;
      splits = k.splits;
      byte = omega (arith, k.byte);
      judged = judged_head r (length t) (b.depth - length fs) k.prefix h.item (k.last ++ body h.item)
          (record { spelled = h.spelled; within = h.within; bytes_are = parts h.item ∙ ap (λ (y : List ℕ). y ++ body h.item) is ∙ append_assoc k.prefix k.last (body h.item) })
          (omega (arith, ap length is, length-append k.prefix k.last, k.byte));
    }

-- or a break
pub mark-undecided : (r : Rules) (b : Bounds) (fs : List Container) (t x : List ℕ) (mark : Mark) (next : Place) → IsTaking b.depth (at_item fs) mark x next → IsUndecided r b fs t x
mark-undecided r b fs t x (a_head m w n) next h = let (g, is) = taken-headed b.depth fs m w n x next h in subst (IsUndecided r b fs t) (sym is) (head-undecided r b fs t m w n g)
mark-undecided r b fs t x a_break next h = record { p = []; last = x; splits = refl; byte = omega (arith, ap length h.0); judged = judged_start r (length t) (b.depth - length fs) }
mark-undecided r b fs t x _ next h = absurd h
