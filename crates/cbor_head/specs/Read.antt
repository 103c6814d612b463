-- A plain, slow reading of bytes: what item they begin with (RFC 8949, section 3).
use Rattle.std.specs.Prelude.{ℕ, zero, suc, ◌/◌, ◌%◌, ◌==◌, ◌∷◌, Bool, true, false, nat_lt, nat_le, if◌then◌else◌, List, [], length, take, drop, Option, Some, None}
use Rattle.byteorder.specs.Endian.{big_number}
use Rattle.cbor_head.specs.Spelling.{Chunk, Spelling, Spellings, SpelledEntries, unsigned, negative, bytes, text, byte_chunks, text_chunks, array, a_map, tag, simple, no_spellings, a_spelling, no_entries, entry}
use Rattle.cbor_head.specs.declared.major.Major.TheVariants.{Unsigned, Negative, Bytes, Text, Array, Map, Tag, Simple}
use Rattle.cbor_head.specs.declared.width.Width.TheVariants.{Direct, One, Two, Four, Eight, Indefinite}
use Rattle.cbor_head.specs.{Head.major_number, declared.major.Major.Major, declared.width.Width.Width}

infixl 10 ◌>>=◌
-- f of what was read, or nothing
abbrev pub ◌>>=◌ : {A B : Type 0} → Option A → (A → Option B) → Option B
None >>= f = None
(Some x) >>= f = f x

-- f of the value, or o if there is none
abbrev pub either : {A B : Type 0} → B → (A → B) → Option A → B
either o f None = o
either o f (Some x) = f x

-- a head, and what follows it
pub record Prefix : Type 0 where
  pub major : Major
  pub width : Width
  pub argument : ℕ
  pub rest : List ℕ

-- a prefix, by its parts
abbrev pub prefix : Major → Width → ℕ → List ℕ → Prefix
prefix m w n rest = record { major = m; width = w; argument = n; rest = rest }

-- the type with the number in the high three bits
abbrev pub major_of : ℕ → Major
major_of n = if n == 0 then Unsigned else if n == 1 then Negative else if n == 2 then Bytes else if n == 3 then Text else if n == 4 then Array else if n == 5 then Map else if n == 6 then Tag else Simple

-- an argument in the next k bytes
abbrev pub numbered : Major → Width → ℕ → List ℕ → Option Prefix
numbered m w k bs = if nat_le k (length bs) then Some (prefix m w (big_number k bs) (drop k bs)) else None

-- the head with this type and these low five bits in its initial byte, read from the bytes after that byte
abbrev pub with_low : Major → ℕ → List ℕ → Option Prefix
with_low m low bs =
    if nat_lt low 24 then Some (prefix m Direct low bs)
    else if low == 24 then numbered m One 1 bs
    else if low == 25 then numbered m Two 2 bs
    else if low == 26 then numbered m Four 4 bs
    else if low == 27 then numbered m Eight 8 bs
    else if low == 31 then Some (prefix m Indefinite 0 bs)
    else None

-- the head at the start
unfoldable pub read_head : List ℕ → Option Prefix
read_head [] = None
read_head (b ∷ bs) = with_low (major_of (b / 32)) (b % 32) bs

-- the next n bytes
abbrev pub payload : {A : Type 0} → ℕ → List ℕ → (List ℕ → A) → Option (A × List ℕ)
payload n bs f = if nat_le n (length bs) then Some (f (take n bs), drop n bs) else None

-- the break, which is no item
abbrev pub is_break : Prefix → Bool
is_break h = elim h.width [ Indefinite ↦ (elim h.major [ Simple ↦ true | _ ↦ false ]) | _ ↦ false ]

-- whether two types are the same
abbrev pub same_major : Major → Major → Bool
same_major m n = major_number m == major_number n

-- a chunk after its head
abbrev pub chunk : Width → ℕ → List ℕ → Option (Chunk × List ℕ)
chunk Indefinite n bs = None
chunk w n bs = payload n bs (λ p. record { width = w; payload = p })

-- a definite string of this type
abbrev pub read_chunk : Major → Prefix → Option (Chunk × List ℕ)
read_chunk m h = if same_major m h.major then chunk h.width h.argument h.rest else None

-- chunks up to the break, at most the first number of them
abbrev pub read_chunks : Major → ℕ → List ℕ → Option (List Chunk × List ℕ)
read_chunks m zero bs = None
read_chunks m (suc k) bs = read_head bs >>= λ h.
    if is_break h then Some ([], h.rest) else (read_chunk m h >>= λ c. read_chunks m k c.1 >>= λ cs. Some (c.0 ∷ cs.0, cs.1))

-- what reads one item
abbrev pub Reader : Type 0
Reader = List ℕ → Option (Spelling × List ℕ)

-- that many items
abbrev pub read_many : Reader → ℕ → List ℕ → Option (Spellings × List ℕ)
read_many one zero bs = Some (no_spellings, bs)
read_many one (suc k) bs = one bs >>= λ s. read_many one k s.1 >>= λ ss. Some (a_spelling s.0 ss.0, ss.1)

-- that many pairs
abbrev pub read_pairs : Reader → ℕ → List ℕ → Option (SpelledEntries × List ℕ)
read_pairs one zero bs = Some (no_entries, bs)
read_pairs one (suc k) bs = one bs >>= λ s. one s.1 >>= λ v. read_pairs one k v.1 >>= λ es. Some (entry s.0 v.0 es.0, es.1)

-- after the break
abbrev pub past_break : List ℕ → Option (List ℕ)
past_break bs = read_head bs >>= λ h. if is_break h then Some h.rest else None

-- items up to the break, fewer than the first number
abbrev pub read_until : Reader → ℕ → List ℕ → Option (Spellings × List ℕ)
read_until one zero bs = None
read_until one (suc k) bs = either (past_break bs >>= λ rest. Some (no_spellings, rest)) (λ s. read_until one k s.1 >>= λ ss. Some (a_spelling s.0 ss.0, ss.1)) (one bs)

-- pairs up to the break, fewer than the first number
abbrev pub read_pairs_until : Reader → ℕ → List ℕ → Option (SpelledEntries × List ℕ)
read_pairs_until one zero bs = None
read_pairs_until one (suc k) bs = either (past_break bs >>= λ rest. Some (no_entries, rest)) (λ s. one s.1 >>= λ v. read_pairs_until one k v.1 >>= λ es. Some (entry s.0 v.0 es.0, es.1)) (one bs)

-- after a head, an item without items inside
abbrev pub leaf : Major → Width → ℕ → Reader
leaf Unsigned Indefinite n bs = None
leaf Unsigned w n bs = Some (unsigned w n, bs)
leaf Negative Indefinite n bs = None
leaf Negative w n bs = Some (negative w n, bs)
leaf Bytes Indefinite n bs = read_chunks Bytes (length bs) bs >>= λ cs. Some (byte_chunks cs.0, cs.1)
leaf Bytes w n bs = payload n bs (bytes w)
leaf Text Indefinite n bs = read_chunks Text (length bs) bs >>= λ cs. Some (text_chunks cs.0, cs.1)
leaf Text w n bs = payload n bs (text w)
leaf Simple Direct n bs = Some (simple n, bs)
leaf Simple One n bs = if nat_le 32 n then Some (simple n, bs) else None
leaf _ _ n bs = None

-- after a head, an item with items inside
abbrev pub container_stack : Reader → Major → Width → ℕ → Reader
container_stack one Array Indefinite n bs = read_until one (length bs) bs >>= λ ss. Some (array Indefinite ss.0, ss.1)
container_stack one Array w n bs = read_many one n bs >>= λ ss. Some (array w ss.0, ss.1)
container_stack one Map Indefinite n bs = read_pairs_until one (length bs) bs >>= λ es. Some (a_map Indefinite es.0, es.1)
container_stack one Map w n bs = read_pairs one n bs >>= λ es. Some (a_map w es.0, es.1)
container_stack one Tag Indefinite n bs = None
container_stack one Tag w n bs = one bs >>= λ s. Some (tag w n s.0, s.1)
container_stack one _ w n bs = None

-- the first of two, if it exists, or else the second
abbrev pub or_else : {A : Type 0} → Option A → Option A → Option A
or_else None o = o
or_else (Some x) o = Some x

-- the item at the start, at most this deep, and what follows it
unfoldable pub read : ℕ → Reader
read zero bs = read_head bs >>= λ h. leaf h.major h.width h.argument h.rest
read (suc d) bs = read_head bs >>= λ h. or_else (leaf h.major h.width h.argument h.rest) (container_stack (read d) h.major h.width h.argument h.rest)
