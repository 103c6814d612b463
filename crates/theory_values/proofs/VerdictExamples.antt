-- Examples of complaints, of which comes first, and of verdicts.
use Rattle.std.proofs.Common.{ℕ, ◌≡◌, ◌<◌, ◌≤◌, ◌⊎◌, inl, inr, List, [], ◌∷◌, ◌++◌, length, take, refl, ap, ◌∙◌, sym, arith, subst, append-nil, length-append}
use Rattle.std.{specs.Char.encode_utf8, specs.Str.chars, specs.Str.is_utf8, specs.Str.Lossy.utf8_valid_len, proofs.lemmas.Str.is_utf8-from_IsUtf8}
use Rattle.cbor_head.specs.Prelude.{IsBeginning, Rules, form, plain, strict, Complaint, complaint, Complains, Bounds, bounds, Spelling, unsigned, negative, text, text_chunks, array, a_map, IsItem, IsSpelled, spell, depth, IsVerdictBy, IsVerdict, DecidesBy, Decision, rank, accepted, refused, refusal}
use Rattle.cbor_head.specs.declared.reason.Reason.TheVariants.{Truncated, TooLong, StrayBreak, InvalidText, RepeatedKey, NotShortest, Indefinite as IndefiniteReason, KeyOrder}
use Rattle.cbor_head.specs.declared.width.Width.TheVariants.{Direct, One, Indefinite}
use Rattle.cbor_head.specs.{Read.read, declared.order.KeyOrder.TheVariants.Bytewise, declared.order.KeyOrder.TheVariants.LengthFirst}
use Rattle.theory_values.proofs.Examples.{chunk, members, pairs}
use Rattle.theory_values.proofs.{KindsUnasked.any_verdict, ReadLaws.reads, ReadLaws.break_none}

-- the verdict if the first n bytes of the input are a beginning
pub by_beginning : (P : Spelling → Complaint → Type 0) (limits : Bounds) (input p : List ℕ) (s : Spelling) (rest : List ℕ) (a : Decision) → take limits.bytes input ≡ p → IsSpelled s → depth s ≤ limits.depth → spell s ≡ p ++ rest → DecidesBy P limits p [] s a
    → IsVerdictBy P limits input a
by_beginning P limits input p s rest a e k l m h =
    let i : IsItem limits.depth s (p ++ rest) = record { spelled = k; within = l; bytes_are = m } in
    record {
      p = p;
      longest = record {
        beginning = (s, rest, i);
        rest = [];
        splits = e ∙ sym (append-nil p);
        longest = λ q x g f. omega (arith, sym (length-append q x), ap length (sym f ∙ e));
      };
      item = s;
      rest = rest;
      starts = i;
      decides = h;
    }

-- the verdict, for keys of any kind
on_beginning : (n : ℕ) (r : Rules) (input p : List ℕ) (s : Spelling) (rest : List ℕ) (a : Decision) → take n input ≡ p → IsSpelled s → depth s ≤ 256 → spell s ≡ p ++ rest → DecidesBy (Complains r 0) (bounds 256 n) p [] s a → IsVerdict (bounds 256 n) r input a
on_beginning n r input p s rest a e k l m h = (any_verdict (bounds 256 n) r refl input a).1 (by_beginning (Complains r 0) (bounds 256 n) input p s rest a e k l m h)

-- it is refused for a complaint where each other one ends later, or ends there and is on a key
refused_for : (n : ℕ) (r : Rules) (input p : List ℕ) (s : Spelling) (rest : List ℕ) (c : Complaint) → take n input ≡ p → IsSpelled s → depth s ≤ 256 → spell s ≡ p ++ rest → Complains r 0 s c → c.end ≤ length p
    → ((e : Complaint) → Complains r 0 s e → (c.end < e.end) ⊎ ((c.end ≡ e.end) × (rank c.reason ≤ rank e.reason))) → IsVerdict (bounds 256 n) r input (refused (refusal c.reason c.place c.end))
refused_for n r input p s rest c e k l m h ends f = on_beginning n r input p s rest _ e k l m (inl (c, record { holds = h; ends = ends; first = λ e i m. f e i }, refl))

-- ---- {1: 2, 3: 4}

abbrev in_order : Spelling
in_order = a_map Direct (pairs ((unsigned Direct 1, unsigned Direct 2) ∷ (unsigned Direct 3, unsigned Direct 4) ∷ []))

in_order-accepted : IsVerdict (bounds 256 1048576) (strict Bytewise) (0xa2 ∷ 0x01 ∷ 0x02 ∷ 0x03 ∷ 0x04 ∷ []) (accepted in_order)
in_order-accepted = on_beginning _ _ _ _ in_order [] _ refl (search arith) (omega arith) refl (refl, refl, λ c h l. grind arith)

-- ---- {1: 0, 1: 0}, the second key in a longer head: the same key, in other bytes

abbrev repeated : Spelling
repeated = a_map Direct (pairs ((unsigned Direct 1, unsigned Direct 0) ∷ (unsigned One 1, unsigned Direct 0) ∷ []))

repeated-plain_verdict : IsVerdict (bounds 256 1048576) plain (0xa2 ∷ 0x01 ∷ 0x00 ∷ 0x18 ∷ 0x01 ∷ 0x00 ∷ []) (refused (refusal RepeatedKey 3 5))
repeated-plain_verdict = refused_for _ _ _ _ repeated [] (complaint 5 3 RepeatedKey) refl (search arith) (omega arith) refl (search arith) (omega arith) (λ e h. grind arith)

repeated-strict_verdict : IsVerdict (bounds 256 1048576) (strict Bytewise) (0xa2 ∷ 0x01 ∷ 0x00 ∷ 0x18 ∷ 0x01 ∷ 0x00 ∷ []) (refused (refusal NotShortest 3 5))
repeated-strict_verdict = refused_for _ _ _ _ repeated [] (complaint 5 3 NotShortest) refl (search arith) (omega arith) refl (search arith) (omega arith) (λ e h. grind arith)

-- ---- {1: 0, 1: 0}, in shortest heads

abbrev equal_keys : Spelling
equal_keys = a_map Direct (pairs ((unsigned Direct 1, unsigned Direct 0) ∷ (unsigned Direct 1, unsigned Direct 0) ∷ []))

equal_keys-verdict : IsVerdict (bounds 256 1048576) (strict Bytewise) (0xa2 ∷ 0x01 ∷ 0x00 ∷ 0x01 ∷ 0x00 ∷ []) (refused (refusal KeyOrder 3 4))
equal_keys-verdict = refused_for _ _ _ _ equal_keys [] (complaint 4 3 KeyOrder) refl (search arith) (omega arith) refl (search arith) (omega arith) (λ e h. grind arith)

-- ---- {{1: 0, 0: 0}: 0, 0: 0}: keys out of order within a key, and then after it

abbrev keys_within : Spelling
keys_within = a_map Direct (pairs ((a_map Direct (pairs ((unsigned Direct 1, unsigned Direct 0) ∷ (unsigned Direct 0, unsigned Direct 0) ∷ [])), unsigned Direct 0) ∷ (unsigned Direct 0, unsigned Direct 0) ∷ []))

keys_within-outer : Complains (strict Bytewise) 0 keys_within (complaint 8 7 KeyOrder)
keys_within-outer = search arith

keys_within-verdict : IsVerdict (bounds 256 1048576) (strict Bytewise) (0xa2 ∷ 0xa2 ∷ 0x01 ∷ 0x00 ∷ 0x00 ∷ 0x00 ∷ 0x00 ∷ 0x00 ∷ 0x00 ∷ []) (refused (refusal KeyOrder 4 5))
keys_within-verdict = refused_for _ _ _ _ keys_within [] (complaint 5 4 KeyOrder) refl (search arith) (omega arith) refl (search arith) (omega arith) (λ e h. grind arith)

-- ---- {100: 0, 1: 0}, the second key in a longer head and out of order: at one end, the complaint on the key comes last

abbrev long_and_late : Spelling
long_and_late = a_map Direct (pairs ((unsigned One 100, unsigned Direct 0) ∷ (unsigned One 1, unsigned Direct 0) ∷ []))

long_and_late-key : Complains (strict Bytewise) 0 long_and_late (complaint 6 4 KeyOrder)
long_and_late-key = search arith

long_and_late-verdict : IsVerdict (bounds 256 1048576) (strict Bytewise) (0xa2 ∷ 0x18 ∷ 0x64 ∷ 0x00 ∷ 0x18 ∷ 0x01 ∷ 0x00 ∷ []) (refused (refusal NotShortest 4 6))
long_and_late-verdict = refused_for _ _ _ _ long_and_late [] (complaint 6 4 NotShortest) refl (search arith) (omega arith) refl (search arith) (omega arith) (λ e h. grind arith)

-- ---- {100: 0, -1: 0}: in order bytewise, and not by length

abbrev by_length : Spelling
by_length = a_map Direct (pairs ((unsigned One 100, unsigned Direct 0) ∷ (negative Direct 0, unsigned Direct 0) ∷ []))

by_length-bytewise : IsVerdict (bounds 256 1048576) (strict Bytewise) (0xa2 ∷ 0x18 ∷ 0x64 ∷ 0x00 ∷ 0x20 ∷ 0x00 ∷ []) (accepted by_length)
by_length-bytewise = on_beginning _ _ _ _ by_length [] _ refl (search arith) (omega arith) refl (refl, refl, λ c h l. grind arith)

by_length-verdict : IsVerdict (bounds 256 1048576) (strict LengthFirst) (0xa2 ∷ 0x18 ∷ 0x64 ∷ 0x00 ∷ 0x20 ∷ 0x00 ∷ []) (refused (refusal KeyOrder 4 5))
by_length-verdict = refused_for _ _ _ _ by_length [] (complaint 5 4 KeyOrder) refl (search arith) (omega arith) refl (search arith) (omega arith) (λ e h. grind arith)

-- ---- [], without a length

abbrev open_array : Spelling
open_array = array Indefinite (members [])

open_array-plain : IsVerdict (bounds 256 1048576) plain (0x9f ∷ 0xff ∷ []) (accepted open_array)
open_array-plain = on_beginning _ _ _ _ open_array [] _ refl (search arith) (omega arith) refl (refl, refl, λ c h l. grind arith)

open_array-verdict : IsVerdict (bounds 256 1048576) (strict Bytewise) (0x9f ∷ 0xff ∷ []) (refused (refusal IndefiniteReason 0 1))
open_array-verdict = refused_for _ _ _ _ open_array [] (complaint 1 0 IndefiniteReason) refl (search arith) (omega arith) refl (search arith) (omega arith) (λ e h. grind arith)

-- ---- a character split between two chunks: UTF-8 when joined, and neither chunk is

abbrev split_character : Spelling
split_character = text_chunks (chunk Direct (0xc3 ∷ []) ∷ chunk Direct (0xbc ∷ []) ∷ [])

split_character-verdict : IsVerdict (bounds 256 1048576) plain (0x7f ∷ 0x61 ∷ 0xc3 ∷ 0x61 ∷ 0xbc ∷ 0xff ∷ []) (refused (refusal InvalidText 2 3))
unfolding utf8_valid_len is_utf8 chars encode_utf8
split_character-verdict = refused_for _ _ _ _ split_character [] (complaint 3 2 InvalidText) refl (search arith) (omega arith) refl (inr (inl (inr (refl, (λ u. cc (is_utf8-from_IsUtf8 (0xc3 ∷ []) u)), refl)))) (omega arith) (λ e h. grind arith)

-- ---- a key that is not UTF-8, and the input ends before its value

abbrev no_text : Spelling
no_text = a_map Direct (pairs ((text Direct (0xff ∷ []), unsigned Direct 0) ∷ []))

no_text-verdict : IsVerdict (bounds 256 1048576) plain (0xa1 ∷ 0x61 ∷ 0xff ∷ []) (refused (refusal InvalidText 2 3))
unfolding utf8_valid_len is_utf8 chars encode_utf8
no_text-verdict = refused_for _ _ _ _ no_text (0x00 ∷ []) (complaint 3 2 InvalidText) refl (search arith) (omega arith) refl (inr (inl (inr (refl, (λ u. cc (is_utf8-from_IsUtf8 (0xff ∷ []) u)), refl)))) (omega arith) (λ e h. grind arith)

-- ---- a text that is not UTF-8 so far, and the input ends within it

abbrev cut_text : Spelling
cut_text = text Direct (0xff ∷ 0x00 ∷ [])

cut_text-verdict : IsVerdict (bounds 256 1048576) plain (0x62 ∷ 0xff ∷ []) (refused (refusal Truncated 2 2))
cut_text-verdict = on_beginning _ _ _ _ cut_text (0x00 ∷ []) _ refl (search arith) (omega arith) refl (inr ((λ c h l. grind arith), (λ e. absurd (omega (arith, ap length e))), inr (omega arith, refl)))

-- ---- 100, with a byte limit of 1

abbrev number : Spelling
number = unsigned One 100

number-verdict : IsVerdict (bounds 256 1) plain (0x18 ∷ 0x64 ∷ []) (refused (refusal TooLong 1 1))
number-verdict = on_beginning _ _ _ _ number (0x64 ∷ []) _ refl (search arith) (omega arith) refl (inr ((λ c h l. grind arith), (λ e. absurd (omega (arith, ap length e))), inl (refl, refl)))

-- ---- a break where an item is expected

-- no item begins with a break
not_beginning : (q : List ℕ) → IsBeginning 256 (0xff ∷ q) → ⊥
not_beginning q (s, rest, i) =
    let e = sym (break_none 256 (q ++ rest)) ∙ ap (read 256) (sym i.bytes_are ∙ sym (append-nil (spell s))) ∙ reads s i.spelled 256 i.within [] in
    cc e

no_prefix_of_break : (q x : List ℕ) → IsBeginning 256 q → 0xff ∷ [] ≡ q ++ x → length q ≤ 0
no_prefix_of_break [] x g f = omega arith
no_prefix_of_break (b ∷ q) x g f =
    let e : b ≡ 0xff = cc f in
    absurd (not_beginning q (subst (λ (b : ℕ). IsBeginning 256 (b ∷ q)) e g))

stray_break : IsVerdict (bounds 256 1048576) form (0xff ∷ []) (refused (refusal StrayBreak 0 1))
stray_break =
    let zero : IsItem 256 (unsigned Direct 0) (0x00 ∷ []) = record { spelled = omega arith; within = omega arith; bytes_are = refl } in
    let verdict : IsVerdictBy (Complains form 0) (bounds 256 1048576) (0xff ∷ []) (refused (refusal StrayBreak 0 1)) = record {
      p = [];
      longest = record { beginning = (unsigned Direct 0, 0x00 ∷ [], zero); rest = 0xff ∷ []; splits = refl; longest = no_prefix_of_break };
      item = unsigned Direct 0;
      rest = 0x00 ∷ [];
      starts = zero;
      decides = inr ((λ c h l. cc h.0), (λ e. absurd (omega (arith, ap length e))), (StrayBreak, inl ((unsigned Direct 0, [], zero), refl), refl));
    } in
    (any_verdict (bounds 256 1048576) form refl (0xff ∷ []) (refused (refusal StrayBreak 0 1))).1 verdict
