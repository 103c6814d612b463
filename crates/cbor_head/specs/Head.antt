-- Heads (RFC 8949, section 3 and appendix B).
use Rattle.std.specs.Prelude.{ℕ, ◌+◌, ◌*◌, ◌^◌, ◌≡◌, ◌<◌, ◌≤◌, nat_lt, if◌then◌else◌, List, [], ◌∷◌}
use Rattle.byteorder.specs.Endian.{big_bytes}
use Rattle.cbor_head.specs.declared.major.Major.TheVariants.{Unsigned, Negative, Bytes, Text, Array, Map, Tag, Simple}
use Rattle.cbor_head.specs.declared.width.Width.TheVariants.{Direct, One, Two, Four, Eight, Indefinite}
use Rattle.cbor_head.specs.declared.{major.Major.Major, width.Width.Width}

-- a simple value's number: 0 to 23 or 32 to 255 (section 3.3)
abbrev pub IsSimple : ℕ → Type 0
IsSimple n = (n < 256) × (24 ≤ n → 32 ≤ n)

-- the width has space for the argument
abbrev pub Holds : Width → ℕ → Type 0
Holds Direct n = n < 24
Holds One n = n < 2 ^ 8
Holds Two n = n < 2 ^ 16
Holds Four n = n < 2 ^ 32
Holds Eight n = n < 2 ^ 64
Holds Indefinite n = ⊥

-- the number in the high three bits of a head
abbrev pub major_number : Major → ℕ
major_number Unsigned = 0
major_number Negative = 1
major_number Bytes = 2
major_number Text = 3
major_number Array = 4
major_number Map = 5
major_number Tag = 6
major_number Simple = 7

-- the bytes of a head: the first byte, with the low five bits added, and the argument after it, most significant byte first
abbrev pub with_argument : Width → ℕ → ℕ → List ℕ
with_argument Direct first n = (first + n) ∷ []
with_argument One first n = (first + 24) ∷ big_bytes 1 n
with_argument Two first n = (first + 25) ∷ big_bytes 2 n
with_argument Four first n = (first + 26) ∷ big_bytes 4 n
with_argument Eight first n = (first + 27) ∷ big_bytes 8 n
with_argument Indefinite first n = (first + 31) ∷ []

-- a head's bytes; for an indefinite length, the initial byte only
abbrev pub head : Major → Width → ℕ → List ℕ
head major width n = with_argument width (32 * major_number major) n

-- the first width that holds the argument
abbrev pub shortest : ℕ → Width
shortest n = if nat_lt n 24 then Direct else if nat_lt n (2 ^ 8) then One else if nat_lt n (2 ^ 16) then Two else if nat_lt n (2 ^ 32) then Four else Eight

-- the head of fewest bytes
abbrev pub shortest_head : Major → ℕ → List ℕ
shortest_head major n = head major (shortest n) n

-- a definite head: its width holds its argument, and a simple value has one head only
abbrev pub IsHead : Major → Width → ℕ → Type 0
IsHead Simple w n = IsSimple n × (w ≡ shortest n)
IsHead _ w n = Holds w n

-- what contracts see of a head
pub record HeadParts : Type 0 where
  pub major : Major
  pub width : Width
  pub argument : ℕ

-- a head, by its parts
abbrev pub head_parts : Major → Width → ℕ → HeadParts
head_parts m w n = record { major = m; width = w; argument = n }
