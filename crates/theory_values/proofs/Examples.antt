-- Examples of spellings, of reading and of canonical bytes, by computation.
use Rattle.std.proofs.Common.{ℕ, ◌≡◌, List, [], ◌∷◌, Some, None, map, refl}
use Rattle.cbor_head.specs.Prelude.{canonical, Chunk, Spelling, Spellings, SpelledEntries, unsigned, negative, bytes, text, byte_chunks, text_chunks, array, a_map, tag, simple, no_spellings, a_spelling, no_entries, entry, spell, value_of}
use Rattle.cbor_head.specs.declared.width.Width.TheVariants.{Direct, One, Two, Four, Eight, Indefinite}
use Rattle.cbor_head.specs.{Read.read, Read.read_head, declared.order.KeyOrder.TheVariants.Bytewise, declared.order.KeyOrder.TheVariants.LengthFirst}
use Rattle.cbor_head.specs.declared.width.Width.{Width}

-- a chunk, by its parts
abbrev pub chunk : Width → List ℕ → Chunk
chunk w payload = record { width = w; payload = payload }

-- members, of a list
abbrev pub members : List Spelling → Spellings
members [] = no_spellings
members (s ∷ ss) = a_spelling s (members ss)

-- pairs, of a list
abbrev pub pairs : List (Spelling × Spelling) → SpelledEntries
pairs [] = no_entries
pairs (p ∷ ps) = entry p.0 p.1 (pairs ps)

-- ---- spellings

-- {"aa": 1, 10: 2, 100: 3, -1: 4, "z": 5, [100]: 6, [-1]: 7, false: 8}
abbrev eight_keys : Spelling
eight_keys = a_map Direct (pairs ((text Direct (0x61 ∷ 0x61 ∷ []), unsigned Direct 1) ∷ (unsigned Direct 10, unsigned Direct 2) ∷ (unsigned One 100, unsigned Direct 3) ∷ (negative Direct 0, unsigned Direct 4) ∷ (text Direct (0x7a ∷ []), unsigned Direct 5) ∷ (array Direct (members (unsigned One 100 ∷ [])), unsigned Direct 6) ∷ (array Direct (members (negative Direct 0 ∷ [])), unsigned Direct 7) ∷ (simple 20, unsigned Direct 8) ∷ []))

-- items, with their bytes
abbrev spelled : List (Spelling × List ℕ)
spelled =
    -- 0
    (unsigned Direct 0, 0x00 ∷ [])
    -- 23
    ∷ (unsigned Direct 23, 0x17 ∷ [])
    -- 24
    ∷ (unsigned One 24, 0x18 ∷ 0x18 ∷ [])
    -- 1000
    ∷ (unsigned Two 1000, 0x19 ∷ 0x03 ∷ 0xe8 ∷ [])
    -- 1000000
    ∷ (unsigned Four 1000000, 0x1a ∷ 0x00 ∷ 0x0f ∷ 0x42 ∷ 0x40 ∷ [])
    -- 18446744073709551615
    ∷ (unsigned Eight 18446744073709551615, 0x1b ∷ 0xff ∷ 0xff ∷ 0xff ∷ 0xff ∷ 0xff ∷ 0xff ∷ 0xff ∷ 0xff ∷ [])
    -- 23, in the widest head
    ∷ (unsigned Eight 23, 0x1b ∷ 0x00 ∷ 0x00 ∷ 0x00 ∷ 0x00 ∷ 0x00 ∷ 0x00 ∷ 0x00 ∷ 0x17 ∷ [])
    -- -1
    ∷ (negative Direct 0, 0x20 ∷ [])
    -- -100
    ∷ (negative One 99, 0x38 ∷ 0x63 ∷ [])
    -- -18446744073709551616
    ∷ (negative Eight 18446744073709551615, 0x3b ∷ 0xff ∷ 0xff ∷ 0xff ∷ 0xff ∷ 0xff ∷ 0xff ∷ 0xff ∷ 0xff ∷ [])
    -- false
    ∷ (simple 20, 0xf4 ∷ [])
    -- simple(16)
    ∷ (simple 16, 0xf0 ∷ [])
    -- simple(255)
    ∷ (simple 255, 0xf8 ∷ 0xff ∷ [])
    -- h''
    ∷ (bytes Direct [], 0x40 ∷ [])
    -- h'01020304'
    ∷ (bytes Direct (0x01 ∷ 0x02 ∷ 0x03 ∷ 0x04 ∷ []), 0x44 ∷ 0x01 ∷ 0x02 ∷ 0x03 ∷ 0x04 ∷ [])
    -- ""
    ∷ (text Direct [], 0x60 ∷ [])
    -- "ü"
    ∷ (text Direct (0xc3 ∷ 0xbc ∷ []), 0x62 ∷ 0xc3 ∷ 0xbc ∷ [])
    -- 1(1363896240)
    ∷ (tag Direct 1 (unsigned Four 1363896240), 0xc1 ∷ 0x1a ∷ 0x51 ∷ 0x4b ∷ 0x67 ∷ 0xb0 ∷ [])
    -- 24(h'6449455446')
    ∷ (tag One 24 (bytes Direct (0x64 ∷ 0x49 ∷ 0x45 ∷ 0x54 ∷ 0x46 ∷ [])), 0xd8 ∷ 0x18 ∷ 0x45 ∷ 0x64 ∷ 0x49 ∷ 0x45 ∷ 0x54 ∷ 0x46 ∷ [])
    -- []
    ∷ (array Direct (members []), 0x80 ∷ [])
    -- [1, [2, 3], [4, 5]]
    ∷ (array Direct (members (unsigned Direct 1 ∷ array Direct (members (unsigned Direct 2 ∷ unsigned Direct 3 ∷ [])) ∷ array Direct (members (unsigned Direct 4 ∷ unsigned Direct 5 ∷ [])) ∷ [])), 0x83 ∷ 0x01 ∷ 0x82 ∷ 0x02 ∷ 0x03 ∷ 0x82 ∷ 0x04 ∷ 0x05 ∷ [])
    -- {}
    ∷ (a_map Direct (pairs []), 0xa0 ∷ [])
    -- {1: 2, 3: 4}
    ∷ (a_map Direct (pairs ((unsigned Direct 1, unsigned Direct 2) ∷ (unsigned Direct 3, unsigned Direct 4) ∷ [])), 0xa2 ∷ 0x01 ∷ 0x02 ∷ 0x03 ∷ 0x04 ∷ [])
    -- {"a": 1, "b": [2, 3]}
    ∷ (a_map Direct (pairs ((text Direct (0x61 ∷ []), unsigned Direct 1) ∷ (text Direct (0x62 ∷ []), array Direct (members (unsigned Direct 2 ∷ unsigned Direct 3 ∷ []))) ∷ [])), 0xa2 ∷ 0x61 ∷ 0x61 ∷ 0x01 ∷ 0x61 ∷ 0x62 ∷ 0x82 ∷ 0x02 ∷ 0x03 ∷ [])
    -- ["a", {"b": "c"}]
    ∷ (array Direct (members (text Direct (0x61 ∷ []) ∷ a_map Direct (pairs ((text Direct (0x62 ∷ []), text Direct (0x63 ∷ [])) ∷ [])) ∷ [])), 0x82 ∷ 0x61 ∷ 0x61 ∷ 0xa1 ∷ 0x61 ∷ 0x62 ∷ 0x61 ∷ 0x63 ∷ [])
    -- {h'61': 0, "a": 1}
    ∷ (a_map Direct (pairs ((bytes Direct (0x61 ∷ []), unsigned Direct 0) ∷ (text Direct (0x61 ∷ []), unsigned Direct 1) ∷ [])), 0xa2 ∷ 0x41 ∷ 0x61 ∷ 0x00 ∷ 0x61 ∷ 0x61 ∷ 0x01 ∷ [])
    -- {1(1): 0, 1: 1}
    ∷ (a_map Direct (pairs ((tag Direct 1 (unsigned Direct 1), unsigned Direct 0) ∷ (unsigned Direct 1, unsigned Direct 1) ∷ [])), 0xa2 ∷ 0xc1 ∷ 0x01 ∷ 0x00 ∷ 0x01 ∷ 0x01 ∷ [])
    -- h'0102030405'
    ∷ (byte_chunks (chunk Direct (0x01 ∷ 0x02 ∷ []) ∷ chunk Direct (0x03 ∷ 0x04 ∷ 0x05 ∷ []) ∷ []), 0x5f ∷ 0x42 ∷ 0x01 ∷ 0x02 ∷ 0x43 ∷ 0x03 ∷ 0x04 ∷ 0x05 ∷ 0xff ∷ [])
    -- "streaming"
    ∷ (text_chunks (chunk Direct (0x73 ∷ 0x74 ∷ 0x72 ∷ 0x65 ∷ 0x61 ∷ []) ∷ chunk Direct (0x6d ∷ 0x69 ∷ 0x6e ∷ 0x67 ∷ []) ∷ []), 0x7f ∷ 0x65 ∷ 0x73 ∷ 0x74 ∷ 0x72 ∷ 0x65 ∷ 0x61 ∷ 0x64 ∷ 0x6d ∷ 0x69 ∷ 0x6e ∷ 0x67 ∷ 0xff ∷ [])
    -- h''
    ∷ (byte_chunks [], 0x5f ∷ 0xff ∷ [])
    -- ""
    ∷ (text_chunks [], 0x7f ∷ 0xff ∷ [])
    -- []
    ∷ (array Indefinite (members []), 0x9f ∷ 0xff ∷ [])
    -- [1, [2, 3], [4, 5]]
    ∷ (array Indefinite (members (unsigned Direct 1 ∷ array Direct (members (unsigned Direct 2 ∷ unsigned Direct 3 ∷ [])) ∷ array Indefinite (members (unsigned Direct 4 ∷ unsigned Direct 5 ∷ [])) ∷ [])), 0x9f ∷ 0x01 ∷ 0x82 ∷ 0x02 ∷ 0x03 ∷ 0x9f ∷ 0x04 ∷ 0x05 ∷ 0xff ∷ 0xff ∷ [])
    -- {}
    ∷ (a_map Indefinite (pairs []), 0xbf ∷ 0xff ∷ [])
    -- {"Fun": true, "Amt": -2}
    ∷ (a_map Indefinite (pairs ((text Direct (0x46 ∷ 0x75 ∷ 0x6e ∷ []), simple 21) ∷ (text Direct (0x41 ∷ 0x6d ∷ 0x74 ∷ []), negative Direct 1) ∷ [])), 0xbf ∷ 0x63 ∷ 0x46 ∷ 0x75 ∷ 0x6e ∷ 0xf5 ∷ 0x63 ∷ 0x41 ∷ 0x6d ∷ 0x74 ∷ 0x21 ∷ 0xff ∷ [])
    -- the eight keys
    ∷ (eight_keys, 0xa8 ∷ 0x62 ∷ 0x61 ∷ 0x61 ∷ 0x01 ∷ 0x0a ∷ 0x02 ∷ 0x18 ∷ 0x64 ∷ 0x03 ∷ 0x20 ∷ 0x04 ∷ 0x61 ∷ 0x7a ∷ 0x05 ∷ 0x81 ∷ 0x18 ∷ 0x64 ∷ 0x06 ∷ 0x81 ∷ 0x20 ∷ 0x07 ∷ 0xf4 ∷ 0x08 ∷ [])
    ∷ []

these_are_their_bytes : map (λ (e : Spelling × List ℕ). spell e.0) spelled ≡ map (λ (e : Spelling × List ℕ). e.1) spelled
these_are_their_bytes = refl

-- and reading them gives each back
they_are_read_back : map (λ (e : Spelling × List ℕ). read 256 e.1) spelled ≡ map (λ (e : Spelling × List ℕ). Some (e.0, [])) spelled
unfolding read read_head
they_are_read_back = refl

-- an item that another follows
one_of_two : read 256 (0x81 ∷ 0x20 ∷ 0x07 ∷ []) ≡ Some (array Direct (members (negative Direct 0 ∷ [])), 0x07 ∷ [])
unfolding read read_head
one_of_two = refl

-- ---- bytes that begin with no item

abbrev refused : List (List ℕ)
refused =
    -- a simple value below 32 in a second byte
    (0xf8 ∷ 0x1f ∷ [])
    -- a float
    ∷ (0xf9 ∷ 0x00 ∷ 0x00 ∷ [])
    -- additional information 28
    ∷ (0x1c ∷ [])
    -- a number without a length
    ∷ (0x1f ∷ [])
    -- a break where an item is expected
    ∷ (0xff ∷ [])
    -- a break in place of a value
    ∷ (0xbf ∷ 0x00 ∷ 0xff ∷ [])
    -- an indefinite string in another
    ∷ (0x5f ∷ 0x5f ∷ 0x41 ∷ 0x00 ∷ 0xff ∷ 0xff ∷ [])
    -- a chunk of another type
    ∷ (0x5f ∷ 0x61 ∷ 0x00 ∷ 0xff ∷ [])
    -- the argument cut short
    ∷ (0x19 ∷ 0x03 ∷ [])
    ∷ []

none_is_read : map (read 256) refused ≡ map (λ (b : List ℕ). None) refused
unfolding read read_head
none_is_read = refl

-- three arrays within two
too_deep : read 2 (0x81 ∷ 0x81 ∷ 0x80 ∷ []) ≡ None
unfolding read read_head
too_deep = refl

-- two arrays within two
deep_enough : read 2 (0x81 ∷ 0x81 ∷ 0x01 ∷ []) ≡ Some (array Direct (members (array Direct (members (unsigned Direct 1 ∷ [])) ∷ [])), [])
unfolding read read_head
deep_enough = refl

-- ---- canonical bytes

-- h'0102030405'
joined_canonically : canonical Bytewise (value_of (byte_chunks (chunk Direct (0x01 ∷ 0x02 ∷ []) ∷ chunk Direct (0x03 ∷ 0x04 ∷ 0x05 ∷ []) ∷ []))) ≡ 0x45 ∷ 0x01 ∷ 0x02 ∷ 0x03 ∷ 0x04 ∷ 0x05 ∷ []
joined_canonically = refl

-- [1, [2, 3], [4, 5]]
counted_canonically : canonical Bytewise (value_of (array Indefinite (members (unsigned Direct 1 ∷ array Direct (members (unsigned Direct 2 ∷ unsigned Direct 3 ∷ [])) ∷ array Indefinite (members (unsigned Direct 4 ∷ unsigned Direct 5 ∷ [])) ∷ [])))) ≡ 0x83 ∷ 0x01 ∷ 0x82 ∷ 0x02 ∷ 0x03 ∷ 0x82 ∷ 0x04 ∷ 0x05 ∷ []
counted_canonically = refl

-- {"Amt": -2, "Fun": true}
ordered_canonically : canonical Bytewise (value_of (a_map Indefinite (pairs ((text Direct (0x46 ∷ 0x75 ∷ 0x6e ∷ []), simple 21) ∷ (text Direct (0x41 ∷ 0x6d ∷ 0x74 ∷ []), negative Direct 1) ∷ [])))) ≡ 0xa2 ∷ 0x63 ∷ 0x41 ∷ 0x6d ∷ 0x74 ∷ 0x21 ∷ 0x63 ∷ 0x46 ∷ 0x75 ∷ 0x6e ∷ 0xf5 ∷ []
ordered_canonically = refl

-- {1: 1, 1(1): 0}
tag_after_number : canonical Bytewise (value_of (a_map Direct (pairs ((tag Direct 1 (unsigned Direct 1), unsigned Direct 0) ∷ (unsigned Direct 1, unsigned Direct 1) ∷ [])))) ≡ 0xa2 ∷ 0x01 ∷ 0x01 ∷ 0xc1 ∷ 0x01 ∷ 0x00 ∷ []
tag_after_number = refl

-- 23
shortened_canonically : canonical Bytewise (value_of (unsigned Eight 23)) ≡ 0x17 ∷ []
shortened_canonically = refl

bytewise_keys : canonical Bytewise (value_of eight_keys) ≡ 0xa8 ∷ 0x0a ∷ 0x02 ∷ 0x18 ∷ 0x64 ∷ 0x03 ∷ 0x20 ∷ 0x04 ∷ 0x61 ∷ 0x7a ∷ 0x05 ∷ 0x62 ∷ 0x61 ∷ 0x61 ∷ 0x01 ∷ 0x81 ∷ 0x18 ∷ 0x64 ∷ 0x06 ∷ 0x81 ∷ 0x20 ∷ 0x07 ∷ 0xf4 ∷ 0x08 ∷ []
bytewise_keys = refl

length_first_keys : canonical LengthFirst (value_of eight_keys) ≡ 0xa8 ∷ 0x0a ∷ 0x02 ∷ 0x20 ∷ 0x04 ∷ 0xf4 ∷ 0x08 ∷ 0x18 ∷ 0x64 ∷ 0x03 ∷ 0x61 ∷ 0x7a ∷ 0x05 ∷ 0x81 ∷ 0x20 ∷ 0x07 ∷ 0x62 ∷ 0x61 ∷ 0x61 ∷ 0x01 ∷ 0x81 ∷ 0x18 ∷ 0x64 ∷ 0x06 ∷ []
length_first_keys = refl
