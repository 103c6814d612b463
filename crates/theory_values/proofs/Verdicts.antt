-- Beginnings: their prefixes, and the longest that an input starts with.
use Rattle.std.proofs.Common.{ℕ, ◌+◌, ◌≡◌, List, [], ◌∷◌, ◌++◌, length, refl, sym, ap, ◌∙◌, arith, subst, inl, inr, length-append, append_assoc, append-nil}
use Rattle.std.proofs.lemmas.{Bool.cases_lt, List.nil_from_length}
use Rattle.cbor_head.specs.Prelude.{Spelling, IsItem, unsigned, spell, IsBeginning, IsLongestBeginning}
use Rattle.cbor_head.specs.declared.width.Width.TheVariants.{Direct}
use Rattle.theory_values.proofs.{ReadLaws.unique, Alike.split_prefix}

-- no bytes are a beginning: that of 0, at any depth
pub nothing_begins : (d : ℕ) → IsBeginning d []
nothing_begins d = (unsigned Direct 0, 0 ∷ [], record { spelled = omega arith; within = omega arith; bytes_are = refl })

-- a prefix of a beginning is one
pub beginning_prefix : (d : ℕ) (p q : List ℕ) → IsBeginning d (p ++ q) → IsBeginning d p
beginning_prefix d p q b = (b.0, q ++ b.1, subst (IsItem d b.0) (append_assoc p q b.1) b.2)

-- the longest beginning is one
pub longest_one : (d : ℕ) (b p q : List ℕ) → IsLongestBeginning d b p → IsLongestBeginning d b q → p ≡ q
longest_one d b p q f g =
    let m = f.longest q g.rest g.beginning g.splits in
    let n = g.longest p f.rest f.beginning f.splits in
    let s = split_prefix p f.rest q g.rest (sym f.splits ∙ g.splits) n in
    let len : length q ≡ length p + length s.0 = ap length s.1 ∙ length-append p s.0 in
    let none : s.0 ≡ [] = nil_from_length s.0 (omega arith) in
    sym (s.1 ∙ ap (λ (k : List ℕ). p ++ k) none ∙ append-nil p)

-- if p is a complete item, each item that starts with p is that one
pub item_one : (d : ℕ) (s t : Spelling) (p b : List ℕ) → IsItem d s p → IsItem d t (p ++ b) → (s ≡ t) × (b ≡ [])
item_one d s t p b i j = unique s t i.spelled j.spelled b [] (ap (λ (q : List ℕ). q ++ b) i.bytes_are ∙ sym j.bytes_are ∙ sym (append-nil (spell t)))

-- the item that bytes begin with is their longest beginning
pub whole_longest : (d : ℕ) (s : Spelling) (b u : List ℕ) → IsItem d s (spell s) → b ≡ spell s ++ u → IsLongestBeginning d b (spell s)
whole_longest d s b u i e = record {
  beginning = (s, [], record { spelled = i.spelled; within = i.within; bytes_are = sym (append-nil (spell s)) });
  rest = u;
  splits = e;
  longest = λ q x g f. elim (cases_lt (length (spell s)) (length q)) [
    | inr l ↦ l
    | inl l ↦
        let (k, m, h) = split_prefix (spell s) u q x (sym e ∙ f) (omega (arith, l)) in
        let (t, z, j) = g in
        let one = item_one d s t (spell s) (k ++ z) i (subst (IsItem d t) (ap (λ (y : List ℕ). y ++ z) m ∙ append_assoc (spell s) k z) j) in
        let none : length k + length z ≡ 0 = sym (length-append k z) ∙ ap length one.1 in
        omega (arith, none, ap length m ∙ length-append (spell s) k)
  ];
}
