-- Examples of verdicts for keys that are integers and texts.
use Rattle.std.proofs.Common.{ℕ, ◌+◌, ◌≡◌, ◌≤◌, inl, inr, List, [], ◌∷◌, ◌++◌, length, take, None, refl, ap, ◌∙◌, sym, arith, subst, IsTrue, append-nil}
use Rattle.cbor_head.specs.Prelude.{IsBeginning, Rules, plain, strict, Complaint, complaint, OfKinds, IsComplaint, Bounds, bounds, with_keys, Spelling, unsigned, text_chunks, array, a_map, simple, IsItem, IsSpelled, spell, depth, IsVerdict, accepted, refused, refusal}
use Rattle.cbor_head.specs.declared.reason.Reason.TheVariants.{TooDeep, Indefinite as IndefiniteReason, KeyKind}
use Rattle.cbor_head.specs.{Read.read, Read.read_head, declared.keys.Keys.TheVariants.IntegersAndTexts, declared.order.KeyOrder.TheVariants.Bytewise}
use Rattle.cbor_head.specs.declared.width.Width.TheVariants.{Direct, Indefinite}
use Rattle.theory_values.proofs.{Complaints.kind_comes_first, Examples.members, Examples.pairs, ReadLaws.reads, VerdictExamples.by_beginning}

abbrev basic : ℕ → Bounds
basic n = with_keys (bounds 256 n) IntegersAndTexts

-- the kind of a key decides where nothing ends before it
of_kind : (n : ℕ) (r : Rules) (input p : List ℕ) (s : Spelling) (rest : List ℕ) (place : ℕ) → IsTrue r.kinds → take n input ≡ p → IsSpelled s → depth s ≤ 256 → spell s ≡ p ++ rest → OfKinds 0 s (complaint (place + 1) place KeyKind) → place + 1 ≤ length p
    → ((e : Complaint) → IsComplaint (basic n) r s e → place + 1 ≤ e.end) → IsVerdict (basic n) r input (refused (refusal KeyKind place (place + 1)))
of_kind n r input p s rest place asked e k l m h space least =
    by_beginning (IsComplaint (basic n) r) (basic n) input p s rest _ e k l m
    (inl (complaint (place + 1) place KeyKind, kind_comes_first (basic n) r s (length p) (complaint (place + 1) place KeyKind) asked refl h space least, refl))

-- ---- {[]: 0}

abbrev array_key : Spelling
array_key = a_map Direct (pairs ((array Direct (members []), unsigned Direct 0) ∷ []))

array_key-verdict : IsVerdict (basic 1048576) plain (0xa1 ∷ 0x80 ∷ 0x00 ∷ []) (refused (refusal KeyKind 1 2))
array_key-verdict = of_kind _ _ _ _ array_key [] 1 refl refl (search arith) (omega arith) refl (inr (inr (inl ((λ x. x), refl)))) (omega arith) (λ e h. grind arith)

-- ---- {0: {[]: 0}}: in a map within

abbrev key_within : Spelling
key_within = a_map Direct (pairs ((unsigned Direct 0, array_key) ∷ []))

key_within-verdict : IsVerdict (basic 1048576) plain (0xa1 ∷ 0x00 ∷ 0xa1 ∷ 0x80 ∷ 0x00 ∷ []) (refused (refusal KeyKind 3 4))
key_within-verdict = of_kind _ _ _ _ key_within [] 3 refl refl (search arith) (omega arith) refl (inr (inr (inr (inl (inr (inr (inl ((λ x. x), refl)))))))) (omega arith) (λ e h. grind arith)

-- ---- {simple(32): 0}, cut after the key's first byte: the kind is reported by that byte, before the input or the limit ends

abbrev simple_key : Spelling
simple_key = a_map Direct (pairs ((simple 32, unsigned Direct 0) ∷ []))

simple_key-cut : IsVerdict (basic 1048576) plain (0xa1 ∷ 0xf8 ∷ []) (refused (refusal KeyKind 1 2))
simple_key-cut = of_kind _ _ _ _ simple_key (0x20 ∷ 0x00 ∷ []) 1 refl refl (search arith) (omega arith) refl (inr (inr (inl ((λ x. x), refl)))) (omega arith) (λ e h. grind arith)

simple_key-at_limit : IsVerdict (basic 2) plain (0xa1 ∷ 0xf8 ∷ []) (refused (refusal KeyKind 1 2))
simple_key-at_limit = of_kind _ _ _ _ simple_key (0x20 ∷ 0x00 ∷ []) 1 refl refl (search arith) (omega arith) refl (inr (inr (inl ((λ x. x), refl)))) (omega arith) (λ e h. grind arith)

-- ---- {"": 0}, the text in chunks

abbrev chunked_key : Spelling
chunked_key = a_map Direct (pairs ((text_chunks [], unsigned Direct 0) ∷ []))

chunked_key-verdict : IsVerdict (basic 1048576) plain (0xa1 ∷ 0x7f ∷ 0xff ∷ 0x00 ∷ []) (accepted chunked_key)
chunked_key-verdict = by_beginning (IsComplaint (basic 1048576) plain) (basic 1048576) _ _ chunked_key [] _ refl (search arith) (omega arith) refl (refl, refl, λ c h l. grind arith)

-- ---- {[]: 0}, the array without a length: by the strict rules two complaints end there, and that on the kind comes first

abbrev open_key : Spelling
open_key = a_map Direct (pairs ((array Indefinite (members []), unsigned Direct 0) ∷ []))

open_key-verdict : IsVerdict (basic 1048576) (strict Bytewise) (0xa1 ∷ 0x9f ∷ 0xff ∷ 0x00 ∷ []) (refused (refusal KeyKind 1 2))
open_key-verdict = of_kind _ _ _ _ open_key [] 1 refl refl (search arith) (omega arith) refl (inr (inr (inl ((λ x. x), refl)))) (omega arith) (λ e h. grind arith)

-- for keys of any kind that of the head is the only one
open_key-any : IsVerdict (bounds 256 1048576) (strict Bytewise) (0xa1 ∷ 0x9f ∷ 0xff ∷ 0x00 ∷ []) (refused (refusal IndefiniteReason 1 2))
open_key-any = by_beginning (IsComplaint (bounds 256 1048576) (strict Bytewise)) (bounds 256 1048576) _ _ open_key [] _ refl (search arith) (omega arith) refl (inl (complaint 2 1 IndefiniteReason, record { holds = search arith; ends = omega arith; first = λ e h l. grind arith }, refl))

-- ---- {[]: 0}, within one level: no key may begin so, whichever kinds are allowed

none_so_deep : (x : List ℕ) → read 1 (0xa1 ∷ 0x80 ∷ x) ≡ None
unfolding read read_head
none_so_deep x = refl

not_beginning : (q : List ℕ) → IsBeginning 1 (0xa1 ∷ 0x80 ∷ q) → ⊥
not_beginning q (s, rest, i) =
    let e = sym (none_so_deep (q ++ rest)) ∙ ap (read 1) (sym i.bytes_are ∙ sym (append-nil (spell s))) ∙ reads s i.spelled 1 i.within [] in
    cc e

no_further : (q x : List ℕ) → IsBeginning 1 q → 0xa1 ∷ 0x80 ∷ 0x00 ∷ [] ≡ q ++ x → length q ≤ 1
no_further [] x g f = omega arith
no_further (b ∷ []) x g f = omega arith
no_further (b ∷ c ∷ q) x g f =
    let first : b ≡ 0xa1 = cc f in
    let second : c ≡ 0x80 = cc f in
    absurd (not_beginning q (subst (λ (b : ℕ). IsBeginning 1 (b ∷ 0x80 ∷ q)) first (subst (λ (c : ℕ). IsBeginning 1 (b ∷ c ∷ q)) second g)))

abbrev flat_key : Spelling
flat_key = a_map Direct (pairs ((unsigned Direct 0, unsigned Direct 0) ∷ []))

too_deep : IsVerdict (with_keys (bounds 1 1048576) IntegersAndTexts) plain (0xa1 ∷ 0x80 ∷ 0x00 ∷ []) (refused (refusal TooDeep 1 2))
too_deep =
    let item : IsItem 1 flat_key (0xa1 ∷ 0x00 ∷ 0x00 ∷ []) = record { spelled = search arith; within = omega arith; bytes_are = refl } in
    record {
      p = 0xa1 ∷ [];
      longest = record { beginning = (flat_key, 0x00 ∷ 0x00 ∷ [], item); rest = 0x80 ∷ 0x00 ∷ []; splits = refl; longest = no_further };
      item = flat_key;
      rest = 0x00 ∷ 0x00 ∷ [];
      starts = item;
      decides = inr ((λ c h l. grind arith), (λ e. absurd (omega (arith, ap length e))), (TooDeep, inl ((flat_key, 0x00 ∷ [], item), refl), refl));
    }
