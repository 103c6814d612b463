-- What canonical bytes spell, and which spellings have them.
use Rattle.std.proofs.Common.{◌≡◌, ℕ, List, [], ◌++◌, sym, ap, ◌∙◌, subst}
use Rattle.cbor_head.specs.Prelude.{Value, IsInRange, IsValid, Spelling, spell, value_of, IsSpelled, canonical, strict, Complaint, Complains}
use Rattle.cbor_head.specs.declared.order.KeyOrder.{KeyOrder}
use Rattle.theory_values.proofs.Normal.{normal, spell-normal, IsSpelled-normal}
use Rattle.theory_values.{proofs.ReadLaws.unique, specs.CanonicalSpelling.IsCanonicalSpelling, proofs.Sound.IsSound, proofs.Sound.sound}
use Rattle.theory_values.proofs.{NormalValue.value_of-normal, NormalValue.depth-normal, Agreement.canonical_agrees, Clean.IsClean-normal}
use Rattle.theory_values.proofs.Strict.{strict_spelling}

normal_is_canonical : (o : KeyOrder) (v : Value) → IsSound v → IsCanonicalSpelling o v (normal o v)
normal_is_canonical o v h = record {
  spelled = IsSpelled-normal o v h.range;
  bytes_are = spell-normal o v;
  same = value_of-normal o v;
  as_deep = depth-normal o v;
  clean = IsClean-normal o v h;
}

pub canonical_spelled : (o : KeyOrder) (v : Value) → IsInRange v → IsValid v → (s : Spelling) × IsCanonicalSpelling o v s
canonical_spelled o v h g = (normal o v, normal_is_canonical o v (sound v h g))

-- each spelling that has canonical bytes is the canonical one
pub spelling_is_canonical : (o : KeyOrder) (v : Value) (s : Spelling) → IsInRange v → IsValid v → IsSpelled s → spell s ≡ canonical o v → IsCanonicalSpelling o v s
spelling_is_canonical o v s h g k e =
    let n = normal_is_canonical o v (sound v h g) in
    let same : normal o v ≡ s = (unique (normal o v) s n.spelled k [] [] (ap (λ (l : List ℕ). l ++ []) (n.bytes_are ∙ sym e))).0 in
    subst (IsCanonicalSpelling o v) same n

-- a spelling without strict complaint is the canonical one of its value, which is in range and valid
pub record IsStrictly (o : KeyOrder) (s : Spelling) : Type 0 where
  pub range : IsInRange (value_of s)
  pub valid : IsValid (value_of s)
  pub canonical_is : IsCanonicalSpelling o (value_of s) s

pub strict_exactly : (o : KeyOrder) (s : Spelling) → IsSpelled s → ((c : Complaint) → Complains (strict o) 0 s c → ⊥) → IsStrictly o s
strict_exactly o s h f =
    let r = strict_spelling o s 0 h f in
    record { range = r.sound.range; valid = r.sound.valid; canonical_is = spelling_is_canonical o (value_of s) s r.sound.range r.sound.valid h r.bytes_are }

-- the value that canonical bytes encode has the canonical bytes of the value that they were made
-- from, in either order
pub canonical_again : (o p : KeyOrder) (v : Value) (s : Spelling) → IsInRange v → IsValid v → IsSpelled s → spell s ≡ canonical o v
    → IsInRange (value_of s) × IsValid (value_of s) × (canonical p (value_of s) ≡ canonical p v)
canonical_again o p v s h g k e =
    let n = spelling_is_canonical o v s h g k e in
    let r = strict_exactly o s k (λ c x. n.clean 0 c x) in
    (r.range, r.valid, sym (canonical_agrees p v (value_of s) (sound v h g) (sound (value_of s) r.range r.valid) n.same))
