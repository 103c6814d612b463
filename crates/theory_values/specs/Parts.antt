-- What the parts given to a builder mean, as lists and without a buffer (RFC 8949, section 4.2.1).
use Rattle.std.specs.Prelude.{ℕ, suc, ◌≡◌, ◌++◌, List, [], ◌∷◌, length, flat_map}
use Rattle.cbor_head.specs.Value as value
use Rattle.cbor_head.specs.Prelude.{shortest_head, Value, Values, Entries, Pair, in_order}
use Rattle.cbor_head.specs.declared.major.Major.TheVariants.{Unsigned, Negative, Bytes, Text, Array, Map, Tag, Simple}
use Rattle.cbor_head.specs.{Value.no_entries, Value.entry, declared.order.KeyOrder.KeyOrder, declared.major.Major.Major}
use Rattle.theory_values.specs.Pairs.{pair_bytes, HasDistinctBytes}

-- An open item, with the canonical bytes of its finished members. A map has its pairs in the order of arrival, equal keys too.
pub data Open : Type 0 where
  plain : List ℕ → Open
  an_array : ℕ → List ℕ → Open
  a_map : List Pair → Open
  a_key : List Pair → List ℕ → Open
  a_string : Major → List ℕ → Open

-- a pair, by the bytes of its key and of its value
abbrev pub pair : List ℕ → List ℕ → Pair
pair k b = record { key = k; value = b }

-- an open item with one more finished member
abbrev pub with_member : List ℕ → Open → Open
with_member b (plain bs) = plain (bs ++ b)
with_member b (an_array n bs) = an_array (suc n) (bs ++ b)
with_member b (a_map ps) = a_key ps b
with_member b (a_key ps k) = a_map (ps ++ pair k b ∷ [])
with_member b (a_string m bs) = a_string m bs

-- the bytes of an item when it is closed: a map's pairs are put in order
abbrev pub closed : KeyOrder → Open → List ℕ
closed o (plain bs) = bs
closed o (an_array n bs) = shortest_head Array n ++ bs
closed o (a_map ps) = shortest_head Map (length ps) ++ flat_map pair_bytes (in_order o ps)
closed o (a_key ps k) = []
closed o (a_string m bs) = shortest_head m (length bs) ++ bs

-- the open items, the innermost first, with one more finished member in the innermost
abbrev pub give : List ℕ → List Open → List Open
give b [] = []
give b (c ∷ os) = with_member b c ∷ os

-- the item that a head opens: an array or a map without members, a tag without its content, an empty string; only a tag uses the
-- number
abbrev pub opened : Major → ℕ → Open
opened Array n = an_array 0 []
opened Map n = a_map []
opened Tag n = plain (shortest_head Tag n)
opened m n = a_string m []

-- an open item with more bytes of a string
abbrev pub with_content : List ℕ → Open → Open
with_content b (a_string m bs) = a_string m (bs ++ b)
with_content b c = c

-- the open items, with more bytes of a string in the innermost
abbrev pub extended : List ℕ → List Open → List Open
extended b [] = []
extended b (c ∷ os) = with_content b c ∷ os

-- the innermost is closed, and becomes a member of the item around it
abbrev pub close : KeyOrder → List Open → List Open
close o [] = []
close o (c ∷ os) = give (closed o c) os

-- no two keys of the map are equal
abbrev pub HasNoRepeats : Open → Type 0
HasNoRepeats (a_map ps) = HasDistinctBytes ps
HasNoRepeats c = Unit {0}

-- the innermost open item is an array, a map or a tag, and no key has yet to get its value
abbrev pub IsInContainer : List Open → Type 0
IsInContainer (an_array n bs ∷ c ∷ os) = Unit {0}
IsInContainer (a_map ps ∷ c ∷ os) = Unit {0}
IsInContainer (plain bs ∷ c ∷ os) = Unit {0}
IsInContainer _ = ⊥

-- the parts; only for a tag is the number of a `begin` used
pub data Part : Type 0 where
  leaf : Major → ℕ → Part
  begin : Major → ℕ → Part
  content : List ℕ → Part
  end : Part

-- the open items after a part
abbrev pub after : KeyOrder → Part → List Open → List Open
after o (leaf m n) os = give (shortest_head m n) os
after o (begin m n) os = opened m n ∷ os
after o (content b) os = extended b os
after o end os = close o os

-- the open items after these parts
abbrev pub run : KeyOrder → List Part → List Open → List Open
run o [] os = os
run o (p ∷ ps) os = run o ps (after o p os)

-- the pieces of a string, and its end
abbrev pub string_parts : List (List ℕ) → List Part
string_parts [] = end ∷ []
string_parts (b ∷ bs) = content b ∷ string_parts bs

-- the bytes of all pieces, in their order
abbrev pub chunks_joined : List (List ℕ) → List ℕ
chunks_joined = flat_map (λ (b : List ℕ). b)

-- these parts make the string of this type and these bytes, in any number of pieces
abbrev pub MakesString : Major → List ℕ → List Part → Type 0
MakesString m s ps = (n : ℕ) × (bs : List (List ℕ)) × (chunks_joined bs ≡ s) × (ps ≡ begin m n ∷ string_parts bs)

-- these parts make v
abbrev mutual
  pub Makes : Value → List Part → Type 0
  Makes (value.unsigned n) ps = ps ≡ leaf Unsigned n ∷ []
  Makes (value.negative n) ps = ps ≡ leaf Negative n ∷ []
  Makes (value.simple n) ps = ps ≡ leaf Simple n ∷ []
  Makes (value.bytes s) ps = MakesString Bytes s ps
  Makes (value.text s) ps = MakesString Text s ps
  Makes (value.array vs) ps = (n : ℕ) × (qs : List Part) × MakesAll vs qs × (ps ≡ begin Array n ∷ qs ++ end ∷ [])
  Makes (value.map es) ps = (n : ℕ) × (qs : List Part) × MakesEntries es qs × (ps ≡ begin Map n ∷ qs ++ end ∷ [])
  Makes (value.tag n v) ps = (qs : List Part) × Makes v qs × (ps ≡ begin Tag n ∷ qs ++ end ∷ [])

  -- these make the members of an array
  pub MakesAll : Values → List Part → Type 0
  MakesAll value.no_values ps = ps ≡ []
  MakesAll (value.a_value v vs) ps = (qs : List Part) × (rs : List Part) × Makes v qs × MakesAll vs rs × (ps ≡ qs ++ rs)

  -- these make the pairs of a map, each key before its value
  pub MakesEntries : Entries → List Part → Type 0
  MakesEntries value.no_entries ps = ps ≡ []
  MakesEntries (value.entry k v es) ps =
      (qs : List Part) × (rs : List Part) × (ts : List Part) × Makes k qs × Makes v rs × MakesEntries es ts × (ps ≡ qs ++ (rs ++ ts))
