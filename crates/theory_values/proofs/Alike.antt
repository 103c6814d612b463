-- Byte lists and items that begin with the same bytes, up to where they differ.
use Rattle.std.proofs.Common.{ℕ, ◌+◌, ◌≡◌, ◌<◌, ◌≤◌, List, [], ◌∷◌, ◌++◌, length, Some, None, refl, sym, ap, ◌∙◌, arith, subst, length-append, append_assoc}
use Rattle.cbor_head.specs.Prelude.{Spelling, spell, IsSpelled, depth, break_of}
use Rattle.cbor_head.specs.{Read.read, declared.width.Width.Width, declared.width.Width.TheVariants.Indefinite}
use Rattle.theory_values.proofs.ReadLaws.{unique, reads, break_none}
use Rattle.theory_values.proofs.Parts.{major, width, count, head_of, body, parts, holds_of, SameHead, one_head}

-- ---- byte lists

-- a prefix of a list, completely within a prefix of the same list
pub split_prefix : (a x p u : List ℕ) → a ++ x ≡ p ++ u → length a ≤ length p → (k : List ℕ) × (p ≡ a ++ k) × (x ≡ k ++ u)
split_prefix [] x p u e l = (p, refl, e)
split_prefix (b ∷ a) x [] u e l = absurd (omega arith)
split_prefix (b ∷ a) x (q ∷ p) u e l =
    let same : b ≡ q = cc e in
    let rest : a ++ x ≡ p ++ u = cc e in
    let (k, f, g) = split_prefix a x p u rest (omega arith) in
    (k, cc (same, f), g)

-- what begins with a, and what begins with b, both begin along p
pub record Both (a b p : List ℕ) : Type 0 where
  pub x : List ℕ
  pub y : List ℕ
  pub u : List ℕ
  pub v : List ℕ
  pub left : a ++ x ≡ p ++ u
  pub right : b ++ y ≡ p ++ v

-- what follows a part of both, if that is completely within p
pub record Past (a c d p : List ℕ) (E : Type 0) : Type 0 where
  pub k : List ℕ
  pub is : p ≡ a ++ k
  pub both : Both c d k
  pub same : E

-- after a part that is completely within p
pub past : (a c b d p : List ℕ) (E : Type 0) → Both (a ++ c) (b ++ d) p → length a ≤ length p → ((x y : List ℕ) → a ++ x ≡ b ++ y → E × (x ≡ y)) → Past a c d p E
past a c b d p E both l only =
    let (k, f, g) = split_prefix a (c ++ both.x) p both.u (sym (append_assoc a c both.x) ∙ both.left) l in
    let h : a ++ (k ++ both.v) ≡ b ++ (d ++ both.y) = sym (append_assoc a k both.v) ∙ ap (λ (q : List ℕ). q ++ both.v) (sym f) ∙ sym both.right ∙ append_assoc b d both.y in
    let e = only (k ++ both.v) (d ++ both.y) h in
    record { k = k; is = f; both = record { x = both.x; y = both.y; u = both.u; v = both.v; left = g; right = sym e.1 }; same = e.0 }

-- the prefix alone
pub prefix_both : (a c b d p : List ℕ) → Both (a ++ c) (b ++ d) p → Both a b p
prefix_both a c b d p both = record { x = c ++ both.x; y = d ++ both.y; u = both.u; v = both.v; left = sym (append_assoc a c both.x) ∙ both.left; right = sym (append_assoc b d both.y) ∙ both.right }

-- the same lists, cut into other parts
pub recut : {a b c d : List ℕ} (p : List ℕ) → a ≡ c → b ≡ d → Both a b p → Both c d p
recut p e f both = record {
  x = both.x;
  y = both.y;
  u = both.u;
  v = both.v;
  left = ap (λ (q : List ℕ). q ++ both.x) (sym e) ∙ both.left;
  right = ap (λ (q : List ℕ). q ++ both.y) (sym f) ∙ both.right;
}

pub past_length : (a c d p : List ℕ) (E : Type 0) (q : Past a c d p E) → length p ≡ length a + length q.k
past_length a c d p E q = ap length q.is ∙ length-append a q.k

-- ---- items

-- after the heads, if the first is completely within p
pub enter : (s t : Spelling) → IsSpelled s → IsSpelled t → (p : List ℕ) → Both (spell s) (spell t) p → length (head_of s) ≤ length p
    → Past (head_of s) (body s) (body t) p (SameHead (major s) (width s) (count s) (major t) (width t) (count t))
enter s t h i p both l =
    past (head_of s) (body s) (head_of t) (body t) p (SameHead (major s) (width s) (count s) (major t) (width t) (count t)) (recut p (parts s) (parts t) both) l
    (one_head (major s) (width s) (count s) (major t) (width t) (count t) (holds_of s h) (holds_of t i))

-- after the heads of two items of one constructor
pub enter_same : (s t u : Spelling) → IsSpelled s → IsSpelled t → t ≡ u → (p : List ℕ) → Both (spell s) (spell t) p → length (head_of s) ≤ length p → Past (head_of s) (body s) (body u) p (Unit {0})
enter_same s t u h i e p both l =
    let q = enter s u h (subst IsSpelled e i) p (subst (λ (t : Spelling). Both (spell s) (spell t) p) e both) l in
    record { k = q.k; is = q.is; both = q.both; same = tt }

-- an item that is completely within p is the other one
pub whole : (s t : Spelling) → IsSpelled s → IsSpelled t → (p : List ℕ) → Both (spell s) (spell t) p → length (spell s) ≤ length p → s ≡ t
whole s t h i p both l =
    let (k, f, g) = split_prefix (spell s) both.x p both.u both.left l in
    (unique s t h i (k ++ both.v) both.y (sym (append_assoc (spell s) k both.v) ∙ ap (λ (q : List ℕ). q ++ both.v) (sym f) ∙ sym both.right)).0

-- after a complete item
pub past_item : (s t : Spelling) → IsSpelled s → IsSpelled t → (a b p : List ℕ) → Both (spell s ++ a) (spell t ++ b) p → length (spell s) ≤ length p → Past (spell s) a b p (s ≡ t)
past_item s t h i a b p both l = past (spell s) a (spell t) b p (s ≡ t) both l (λ x y e. unique s t h i x y e)

-- no item begins as the break does
pub not_break : (s : Spelling) → IsSpelled s → (a b p : List ℕ) → Both (spell s ++ a) (0xff ∷ b) p → 0 < length p → ⊥
not_break s h a b [] both l = absurd (omega arith)
not_break s h a b (q ∷ p) both l =
    let first : 0xff ≡ q = let e = both.right in cc e in
    let rest : 0xff ∷ (p ++ both.u) ≡ spell s ++ (a ++ both.x) = ap (λ (c : ℕ). c ∷ (p ++ both.u)) first ∙ sym both.left ∙ append_assoc (spell s) a both.x in
    let none : None ≡ Some (s, a ++ both.x) = sym (break_none (depth s) (p ++ both.u)) ∙ ap (read (depth s)) rest ∙ reads s h (depth s) (omega arith) (a ++ both.x) in
    cc none

-- where one has more, the other has no break
pub not_closed : (s : Spelling) → IsSpelled s → (w : Width) → w ≡ Indefinite → (a p : List ℕ) → Both (spell s ++ a) (break_of w) p → 0 < length p → ⊥
not_closed s h w e a p both l = not_break s h a [] p (subst (λ (w : Width). Both (spell s ++ a) (break_of w) p) e both) l
