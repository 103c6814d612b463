-- The last key before another, and the complaints of the strict rules about a key after it.
use Rattle.std.proofs.Common.{◌≡◌, ℕ, cond, ◌+◌, ◌<◌, true, IsTrue, List, [], ◌∷◌, length, refl, sym, ap, subst, arith, nat_lt, ◌==◌}
use Rattle.std.specs.declared.cmp.Ordering.TheVariants.{Less, Equal, Greater}
use Rattle.std.{proofs.lemmas.Bool.Decides.nat_tests, specs.Ordering.is_lt, specs.Ordering.ordering_then}
use Rattle.cbor_head.specs.Prelude.{Spelling, SpelledEntries, no_entries, entry, spell, key_lt, rising, OfKey}
use Rattle.cbor_head.specs.Complaint as complaint
use Rattle.cbor_head.specs.declared.reason.Reason.TheVariants as reasons
use Rattle.cbor_head.specs.declared.order.KeyOrder.{KeyOrder, TheVariants.Bytewise, TheVariants.LengthFirst}
use Rattle.theory_values.proofs.ReadLaws.{length_spell}
use Rattle.theory_verdicts.specs.{Frame.with_entries, Frame.keys_onto, Judged.Never, LastKey.last_key, LastKey.IsLastKey}

-- ---- which it is

last_onto : (k v : Spelling) (es : SpelledEntries) (ks : List Spelling) → IsLastKey (last_key (entry k v es)) (keys_onto ks (entry k v es))
last_onto k v no_entries ks = refl
last_onto k v (entry l w es) ks = last_onto l w es (k ∷ ks)

pub last_is : (a : SpelledEntries) → IsLastKey (last_key a) (keys_onto [] a)
last_is no_entries = refl
last_is (entry k v es) = last_onto k v es []

-- after one more pair
pub last_key_with : (a : SpelledEntries) (k v : Spelling) → last_key (with_entries a (entry k v no_entries)) ≡ spell k
last_key_with no_entries k v = refl
last_key_with (entry l m no_entries) k v = refl
last_key_with (entry l m (entry n o es)) k v = last_key_with (entry n o es) k v

-- ---- a key after it

some-more : (n : ℕ) → 0 < n → nat_lt 0 n ≡ true
some-more n h = grind (arith, nat_tests)

-- each key comes after the empty list of bytes
pub nothing-below : (o : KeyOrder) (key : List ℕ) → 0 < length key → IsTrue (key_lt o [] key)
nothing-below o [] h = absurd (omega arith)
nothing-below Bytewise (c ∷ cs) h = refl
nothing-below LengthFirst (c ∷ cs) h = ap (λ b. is_lt (ordering_then (cond b Less (cond (0 == length (c ∷ cs)) Equal Greater)) Less)) (some-more (length (c ∷ cs)) h)

module _ (o : KeyOrder) (at : ℕ) (k : Spelling) (key : List ℕ) (is : key ≡ spell k) where
  pub key-fresh : (ks : List Spelling) (last : List ℕ) → IsLastKey last ks → IsTrue (key_lt o last key) → Never (OfKey (rising o) at ks k)
  key-fresh [] last l f c x = x
  key-fresh (p ∷ ps) last l f c x = x.0 (subst (λ y. IsTrue (key_lt o y (spell k))) l (subst (λ y. IsTrue (key_lt o last y)) is f))

  pub key-falls : (ks : List Spelling) (last : List ℕ) → IsLastKey last ks → ¬ (IsTrue (key_lt o last key)) → OfKey (rising o) at ks k (complaint.complaint (at + length (spell k)) at reasons.KeyOrder)
  key-falls [] last l f = absurd (f (subst (λ y. IsTrue (key_lt o y key)) (sym l) (nothing-below o key (omega (arith, ap length is, length_spell k)))))
  key-falls (p ∷ ps) last l f = ((λ g. f (subst (λ y. IsTrue (key_lt o last y)) (sym is) (subst (λ y. IsTrue (key_lt o y (spell k))) (sym l) g))), refl)
