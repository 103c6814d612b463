-- Items at the start of any bytes.
use Rattle.std.proofs.Common.{◌≡◌, ◌↔◌, ℕ, zero, suc, ◌+◌, ◌-◌, ◌<◌, ◌≤◌, List, length, drop, length-drop, length-append, refl, sym, ap, ◌∙◌, subst, arith}
use Rattle.cbor_head.specs.Head.{head}
use Rattle.theory_values.proofs.ReadLaws.{length_head}
use Rattle.cbor_cursor.specs.WellFormed.{BeginsWithHead, BeginsWithItem, BeginsWithItems, item, none, more, payload_of, members_of, HasNoHead, HasNoItem}
use Rattle.cbor_cursor.proofs.HeadsAt.{same_head}

-- ---- several

-- the first of them, and the others
pub record AreCut (k n : ℕ) (bytes rest : List ℕ) : Type 0 where
  pub middle : List ℕ
  pub first : BeginsWithItems k bytes middle
  pub others : BeginsWithItems n middle rest

pub cut : (k n : ℕ) (bytes rest : List ℕ) → BeginsWithItems (k + n) bytes rest → AreCut k n bytes rest
cut zero n bytes rest a = record { middle = bytes; first = none 0 bytes bytes refl refl; others = subst (λ (x : ℕ). BeginsWithItems x bytes rest) (omega arith) a }
cut (suc k) n bytes rest (none m bs r e f) = absurd (omega (arith, e))
cut (suc k) n bytes rest (more m j bs middle r e i a) =
    let c = cut k n middle rest (subst (λ (x : ℕ). BeginsWithItems x middle rest) (omega (arith, e)) a) in
    record { middle = c.middle; first = more (suc k) k bytes middle c.middle refl i c.first; others = c.others }

pub joined : (k n : ℕ) (bytes middle rest : List ℕ) → BeginsWithItems k bytes middle → BeginsWithItems n middle rest → BeginsWithItems (k + n) bytes rest
joined k n bytes middle rest (none m bs r e f) b = subst (λ (xs : List ℕ). BeginsWithItems (k + n) xs rest) (sym f) (subst (λ (x : ℕ). BeginsWithItems x middle rest) (omega (arith, e)) b)
joined k n bytes middle rest (more m j bs mid r e i a) b = more (k + n) (j + n) bytes mid rest (omega (arith, e)) i (joined j n mid middle rest a b)

-- none at all
pub no_more : (n : ℕ) (bytes rest : List ℕ) → n ≡ 0 → BeginsWithItems n bytes rest → bytes ≡ rest
no_more n bytes rest z (none m bs r e f) = f
no_more n bytes rest z (more m j bs middle r e i a) = absurd (omega (arith, z, e))

-- one at least
pub record IsFirst (n : ℕ) (bytes rest : List ℕ) : Type 0 where
  pub middle : List ℕ
  pub first : BeginsWithItem bytes middle
  pub others : BeginsWithItems (n - 1) middle rest

pub first_item : (n : ℕ) (bytes rest : List ℕ) → 0 < n → BeginsWithItems n bytes rest → IsFirst n bytes rest
first_item n bytes rest l (none m bs r e f) = absurd (omega (arith, l, e))
first_item n bytes rest l (more m j bs middle r e i a) = record { middle = middle; first = i; others = subst (λ (x : ℕ). BeginsWithItems x middle rest) (omega (arith, e)) a }

-- each item has at least one byte
mutual
  pub item_fits : (bytes rest : List ℕ) → BeginsWithItem bytes rest → length rest < length bytes
  item_fits bytes rest (item bs r kind n content h p a) =
      omega (arith, ap length h.bytes_are, length_head h.major h.width n, length-append (head h.major h.width n) content, items_fit (members_of kind n) (drop (payload_of kind n) content) rest a, length-drop (payload_of kind n) content)

  pub items_fit : (n : ℕ) (bytes rest : List ℕ) → BeginsWithItems n bytes rest → n + length rest ≤ length bytes
  items_fit n bytes rest (none m bs r e f) = omega (arith, e, ap length f)
  items_fit n bytes rest (more m j bs middle r e i a) = omega (arith, e, item_fits bytes middle i, items_fit j middle rest a)

-- ---- by the head

-- the payload of a string is whole, and so are the items directly inside
pub record IsInside (kind argument : ℕ) (content rest : List ℕ) : Type 0 where
  pub fits : payload_of kind argument ≤ length content
  pub items : BeginsWithItems (members_of kind argument) (drop (payload_of kind argument) content) rest

pub inside : (bytes rest : List ℕ) (kind argument : ℕ) (content : List ℕ) → BeginsWithHead bytes kind argument content → BeginsWithItem bytes rest → IsInside kind argument content rest
inside bytes rest kind argument content h (item bs r k n x g p a) =
    let s = same_head bytes k n x kind argument content g h in
    let at_content : IsInside k n content rest = subst (λ (c : List ℕ). IsInside k n c rest) s.2 (record { fits = p; items = a }) in
    subst (λ (l : ℕ). IsInside l argument content rest) s.0 (subst (λ (m : ℕ). IsInside k m content rest) s.1 at_content)

-- an item is its head, and what is inside
pub by_parts : (bytes rest : List ℕ) (kind argument : ℕ) (content : List ℕ) (payload members : ℕ) (after : List ℕ) → payload_of kind argument ≡ payload → members_of kind argument ≡ members
    → payload ≤ length content → drop payload content ≡ after → BeginsWithHead bytes kind argument content → BeginsWithItem bytes rest ↔ BeginsWithItems members after rest
by_parts bytes rest kind argument content payload members after p m l e h =
    let here : drop (payload_of kind argument) content ≡ after = ap (λ (k : ℕ). drop k content) p ∙ e in (
      λ i. subst (λ (n : ℕ). BeginsWithItems n after rest) m (subst (λ (xs : List ℕ). BeginsWithItems (members_of kind argument) xs rest) here (inside bytes rest kind argument content h i).items),
      λ a. item bytes rest kind argument content h (omega (arith, p, l)) (subst (λ (xs : List ℕ). BeginsWithItems (members_of kind argument) xs rest) (sym here) (subst (λ (n : ℕ). BeginsWithItems n after rest) (sym m) a)),
    )

-- if its content is truncated, there is no item
pub no_space : (bytes : List ℕ) (kind argument : ℕ) (content : List ℕ) → BeginsWithHead bytes kind argument content → length content < payload_of kind argument + members_of kind argument → HasNoItem bytes
no_space bytes kind argument content h l = λ rest i.
    let x = inside bytes rest kind argument content h i in
    omega (arith, l, x.fits, items_fit (members_of kind argument) (drop (payload_of kind argument) content) rest x.items, length-drop (payload_of kind argument) content)

pub no_head : (bytes rest : List ℕ) → HasNoHead bytes → BeginsWithItem bytes rest → ⊥
no_head bytes rest none_is (item bs r k n x g p a) = none_is k n x g
