-- Examples of results, and why the laws say no more.
use Rattle.std.proofs.Common.{ℕ, ◌≡◌, ◌<◌, ◌≤◌, inl, inr, List, [], ◌∷◌, length, refl, sym, ap, arith}
use Rattle.std.specs.{Char.encode_utf8, Str.chars, Str.is_utf8, Str.Lossy.utf8_valid_len}
use Rattle.std.proofs.lemmas.Str.{is_utf8-from_IsUtf8, IsUtf8-from_is_utf8}
use Rattle.cbor_head.specs.Prelude.{plain, Complaint, complaint, Complains, IsComplaint, bounds, Spelling, unsigned, negative, text_chunks, a_map, spell, value_of, depth, IsSpelled, IsValid, canonical, IsVerdict, refused, refusal}
use Rattle.cbor_head.specs.Value as value
use Rattle.cbor_head.specs.declared.reason.Reason.TheVariants.{Truncated, TooLong, InvalidText}
use Rattle.cbor_head.specs.declared.order.KeyOrder.{KeyOrder, TheVariants.Bytewise, TheVariants.LengthFirst}
use Rattle.cbor_head.specs.declared.{reason.Refusal.Refusal, width.Width.TheVariants.Direct, width.Width.TheVariants.One}
use Rattle.theory_values.proofs.{Examples.chunk, Examples.pairs, KindsUnasked.any_complaint, OneVerdict.one_verdict}
use Rattle.theory_verdicts.specs.Readers.{BeginsWithCanonical}
use Rattle.cbor_tree_reader.specs.Size.{size}
use Rattle.cbor_reader.{specs.Canonicalise.IsCanonicalOf, proofs.CutShort.too_long, proofs.OneResult.one_canonical, proofs.Headline.results_exactly}

-- within 256 levels and 2^20 bytes
item_becomes : (o : KeyOrder) (s : Spelling) (input out : List ℕ) → IsSpelled s → depth s ≤ 256 → spell s ≡ input → length input ≤ 1048576 → ((c : Complaint) → Complains plain 0 s c → ⊥)
    → canonical o (value_of s) ≡ out → length out ≤ 1048576 → IsCanonicalOf (bounds 256 1048576) o input out
item_becomes o s input out h l e m none f k =
    (results_exactly (bounds 256 1048576) o input out).1 (s, record { well_formed = record { spelled = h; within = l; bytes_are = e }; valid = λ c x. none c ((any_complaint (bounds 256 1048576) plain refl s c).0 x); fits = m }, sym f, k)

-- ---- 0, in two bytes

zero_becomes : IsCanonicalOf (bounds 256 1048576) Bytewise (0x18 ∷ 0x00 ∷ []) (0x00 ∷ [])
zero_becomes = item_becomes Bytewise (unsigned One 0) _ _ (omega arith) (omega arith) refl (omega arith) (λ c x. cc x.0) refl (omega arith)

-- it is not its own result, though the plain verdict accepts it whole
not_its_own : IsCanonicalOf (bounds 256 1048576) Bytewise (0x18 ∷ 0x00 ∷ []) (0x18 ∷ 0x00 ∷ []) → ⊥
not_its_own a =
    let e = one_canonical (bounds 256 1048576) Bytewise (0x18 ∷ 0x00 ∷ []) (0x18 ∷ 0x00 ∷ []) (0x00 ∷ []) a zero_becomes in
    omega (arith, ap (length {A = ℕ}) e)

-- ---- {-1: 0, 100: 0}, in either order

abbrev by_length : Spelling
by_length = a_map Direct (pairs ((negative Direct 0, unsigned Direct 0) ∷ (unsigned One 100, unsigned Direct 0) ∷ []))

abbrev bytewise : Spelling
bytewise = a_map Direct (pairs ((unsigned One 100, unsigned Direct 0) ∷ (negative Direct 0, unsigned Direct 0) ∷ []))

becomes_by_length : IsCanonicalOf (bounds 256 1048576) LengthFirst (0xa2 ∷ 0x18 ∷ 0x64 ∷ 0x00 ∷ 0x20 ∷ 0x00 ∷ []) (0xa2 ∷ 0x20 ∷ 0x00 ∷ 0x18 ∷ 0x64 ∷ 0x00 ∷ [])
becomes_by_length = item_becomes LengthFirst bytewise _ _ (search arith) (omega arith) refl (omega arith) (λ c x. grind arith) refl (omega arith)

becomes_bytewise : IsCanonicalOf (bounds 256 1048576) Bytewise (0xa2 ∷ 0x20 ∷ 0x00 ∷ 0x18 ∷ 0x64 ∷ 0x00 ∷ []) (0xa2 ∷ 0x18 ∷ 0x64 ∷ 0x00 ∷ 0x20 ∷ 0x00 ∷ [])
becomes_bytewise = item_becomes Bytewise by_length _ _ (search arith) (omega arith) refl (omega arith) (λ c x. grind arith) refl (omega arith)

stays_bytewise : IsCanonicalOf (bounds 256 1048576) Bytewise (0xa2 ∷ 0x18 ∷ 0x64 ∷ 0x00 ∷ 0x20 ∷ 0x00 ∷ []) (0xa2 ∷ 0x18 ∷ 0x64 ∷ 0x00 ∷ 0x20 ∷ 0x00 ∷ [])
stays_bytewise = item_becomes Bytewise bytewise _ _ (search arith) (omega arith) refl (omega arith) (λ c x. grind arith) refl (omega arith)

-- their results are equal, and their values are the same but not equal
other_value : value_of by_length ≡ value_of bytewise → ⊥
other_value e = cc e

-- ---- a character split between two chunks: the value is valid, and the item is not

abbrev split_character : Spelling
split_character = text_chunks (chunk Direct (0xc3 ∷ []) ∷ chunk Direct (0xbc ∷ []) ∷ [])

split_value : IsValid (value_of split_character)
unfolding is_utf8 chars encode_utf8
split_value = IsUtf8-from_is_utf8 (0xc3 ∷ 0xbc ∷ []) refl

split_item : ((c : Complaint) → Complains plain 0 split_character c → ⊥) → ⊥
unfolding utf8_valid_len is_utf8 chars encode_utf8
split_item f = f (complaint 3 2 InvalidText) (inr (inl (inr (refl, (λ u. cc (is_utf8-from_IsUtf8 (0xc3 ∷ []) u)), refl))))

-- ---- 100, cut after its first byte: if the byte limit ends there too, it is too long and not
-- truncated

cut_at_limit : IsVerdict (bounds 256 1) plain (0x18 ∷ 0x64 ∷ []) (refused (refusal Truncated 1 1)) → ⊥
cut_at_limit v =
    let none : (c : Complaint) → IsComplaint (bounds 256 1) plain (unsigned One 100) c → ⊥ = λ c x. cc ((any_complaint (bounds 256 1) plain refl (unsigned One 100) c).0 x).0 in
    let w = too_long (bounds 256 1) plain (unsigned One 100) (0x18 ∷ 0x64 ∷ []) [] (record { spelled = omega arith; within = omega arith; bytes_are = refl }) none (omega arith) in
    let e = one_verdict (bounds 256 1) plain (0x18 ∷ 0x64 ∷ []) (refused (refusal Truncated 1 1)) (refused (refusal TooLong 1 1)) v w in
    let f : refusal Truncated 1 1 ≡ refusal TooLong 1 1 = cc e in
    let g : Truncated ≡ TooLong = ap (λ (f : Refusal). f.reason) f in
    cc g

-- ---- {1: 2} with a byte after it

begins_a_map : BeginsWithCanonical (bounds 256 1048576) Bytewise (0xa1 ∷ 0x01 ∷ 0x02 ∷ 0x00 ∷ []) (value.map (value.entry (value.unsigned 1) (value.unsigned 2) value.no_entries))
begins_a_map = record { range = search arith; valid = search arith; keys = λ e. (tt, tt, tt); within = omega arith; fits = omega arith; rest = 0x00 ∷ []; begins = refl }

-- ---- as large as its item

as_large : size (value_of (unsigned Direct 0)) < length (spell (unsigned Direct 0)) → ⊥
as_large l = omega arith
