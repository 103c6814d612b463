-- What a writer puts, one part after another, and their bytes (RFC 8949, section 3).
use Rattle.std.specs.Prelude.{ℕ, ℤ, pos, negsuc, List, [], ◌∷◌, ◌++◌, length, flat_map}
use Rattle.cbor_head.specs.{Head.head, Head.shortest_head, declared.major.Major.Major}
use Rattle.cbor_head.specs.declared.{major.Major.TheVariants.Unsigned, major.Major.TheVariants.Negative, width.Width.TheVariants.Indefinite}

-- a head: an integer, a tag, a simple value, or the beginning of an array or map with a count; a string; the beginning of an array or map
-- without a count; the end of one; an item by its bytes
pub data Part : Type 0 where
  a_head : Major → ℕ → Part
  a_string : Major → List ℕ → Part
  an_opening : Major → Part
  an_end : Part
  an_item : List ℕ → Part

abbrev pub bytes_of : Part → List ℕ
bytes_of (a_head m n) = shortest_head m n
bytes_of (a_string m s) = shortest_head m (length s) ++ s
bytes_of (an_opening m) = head m Indefinite 0
bytes_of an_end = 255 ∷ []
bytes_of (an_item s) = s

-- an integer, by its head
abbrev pub an_integer : ℤ → Part
an_integer (pos n) = a_head Unsigned n
an_integer (negsuc n) = a_head Negative n

-- the bytes of all parts, in their order
abbrev pub all_bytes : List Part → List ℕ
all_bytes ps = flat_map bytes_of ps
