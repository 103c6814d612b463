-- Values (RFC 8949, section 2), and when two are the same (section 5.6.1).
use Rattle.std.specs.Prelude.{ℕ, suc, ◌^◌, ◌≡◌, ◌<◌, ◌⊎◌, List, length, max, IsUtf8}
use Rattle.std.specs.List.{AllByRecursion}
use Rattle.cbor_head.specs.Head.{IsSimple}

mutual
  -- an item without its encoding. Negative n is the number -1 - n. A text is the list of its bytes.
  pub data Value : Type 0 where
    unsigned : ℕ → Value
    negative : ℕ → Value
    bytes : List ℕ → Value
    text : List ℕ → Value
    array : Values → Value
    map : Entries → Value
    tag : ℕ → Value → Value
    simple : ℕ → Value

  pub data Values : Type 0 where
    no_values : Values
    a_value : Value → Values → Values

  pub data Entries : Type 0 where
    no_entries : Entries
    entry : Value → Value → Entries → Entries

-- how many members
abbrev pub values_count : Values → ℕ
values_count no_values = 0
values_count (a_value v vs) = suc (values_count vs)

-- how many pairs
abbrev pub entries_count : Entries → ℕ
entries_count no_entries = 0
entries_count (entry k v es) = suc (entries_count es)

-- the map has this pair
abbrev pub HasEntry : Entries → Value → Value → Type 0
HasEntry no_entries k v = ⊥
HasEntry (entry k' v' es) k v = ((k ≡ k') × (v ≡ v')) ⊎ HasEntry es k v

-- some pair has a key for which K holds and a value for which V holds
abbrev pub AnyEntry : (Value → Type 0) → (Value → Type 0) → Entries → Type 0
AnyEntry K V no_entries = ⊥
AnyEntry K V (entry k v es) = (K k × V v) ⊎ AnyEntry K V es

-- Equal kind and equal numbers or bytes; arrays member by member; maps where each pair of either has a pair of the other
-- with the same key and the same value.
abbrev mutual
  pub Same : Value → Value → Type 0
  Same (unsigned n) (unsigned m) = n ≡ m
  Same (negative n) (negative m) = n ≡ m
  Same (bytes s) (bytes t) = s ≡ t
  Same (text s) (text t) = s ≡ t
  Same (array vs) (array ws) = SameValues vs ws
  Same (map es) (map fs) = Covered es fs × ((k v : Value) → HasEntry fs k v → Covers es k v)
  Same (tag n v) (tag m w) = (n ≡ m) × Same v w
  Same (simple n) (simple m) = n ≡ m
  Same _ _ = ⊥

  pub SameValues : Values → Values → Type 0
  SameValues no_values no_values = Unit {0}
  SameValues (a_value v vs) (a_value w ws) = Same v w × SameValues vs ws
  SameValues _ _ = ⊥

  -- each pair of es is the same as some pair of fs
  pub Covered : Entries → Entries → Type 0
  Covered no_entries fs = Unit {0}
  Covered (entry k v es) fs = AnyEntry (Same k) (Same v) fs × Covered es fs

  -- some pair of es is the same as this one
  pub Covers : Entries → Value → Value → Type 0
  Covers no_entries k v = ⊥
  Covers (entry k' v' es) k v = (Same k' k × Same v' v) ⊎ Covers es k v

-- numbers below 256
abbrev pub AreBytes : List ℕ → Type 0
AreBytes bs = AllByRecursion (λ b. b < 256) bs

-- In range: numbers are below 2^64, bytes are below 256, and the number of a simple value exists (section 3.3). Counts of
-- bytes, members and pairs are below 2^64, so that a head can hold them.
abbrev mutual
  pub IsInRange : Value → Type 0
  IsInRange (unsigned n) = n < 2 ^ 64
  IsInRange (negative n) = n < 2 ^ 64
  IsInRange (bytes s) = (length s < 2 ^ 64) × AreBytes s
  IsInRange (text s) = (length s < 2 ^ 64) × AreBytes s
  IsInRange (array vs) = (values_count vs < 2 ^ 64) × AreInRange vs
  IsInRange (map es) = (entries_count es < 2 ^ 64) × AreEntriesInRange es
  IsInRange (tag n v) = (n < 2 ^ 64) × IsInRange v
  IsInRange (simple n) = IsSimple n

  pub AreInRange : Values → Type 0
  AreInRange no_values = Unit {0}
  AreInRange (a_value v vs) = IsInRange v × AreInRange vs

  pub AreEntriesInRange : Entries → Type 0
  AreEntriesInRange no_entries = Unit {0}
  AreEntriesInRange (entry k v es) = IsInRange k × IsInRange v × AreEntriesInRange es

-- no two pairs have the same key
abbrev pub HasDistinctKeys : Entries → Type 0
HasDistinctKeys no_entries = Unit {0}
HasDistinctKeys (entry k v es) = ((k' v' : Value) → HasEntry es k' v' → Same k k' → ⊥) × HasDistinctKeys es

-- valid: texts are UTF-8 (section 3.1), and no map has two pairs with the same key (section 5.6)
abbrev mutual
  pub IsValid : Value → Type 0
  IsValid (text s) = IsUtf8 s
  IsValid (array vs) = AreValid vs
  IsValid (map es) = AreEntriesValid es × HasDistinctKeys es
  IsValid (tag n v) = IsValid v
  IsValid _ = Unit {0}

  pub AreValid : Values → Type 0
  AreValid no_values = Unit {0}
  AreValid (a_value v vs) = IsValid v × AreValid vs

  pub AreEntriesValid : Entries → Type 0
  AreEntriesValid no_entries = Unit {0}
  AreEntriesValid (entry k v es) = IsValid k × IsValid v × AreEntriesValid es

-- an integer, or a text
abbrev pub IsIntegerOrText : Value → Type 0
IsIntegerOrText (unsigned n) = Unit {0}
IsIntegerOrText (negative n) = Unit {0}
IsIntegerOrText (text s) = Unit {0}
IsIntegerOrText _ = ⊥

-- each key, at every depth, is an integer or a text
abbrev mutual
  pub HasBasicKeys : Value → Type 0
  HasBasicKeys (array vs) = HaveBasicKeys vs
  HasBasicKeys (map es) = EntriesHaveBasicKeys es
  HasBasicKeys (tag n v) = HasBasicKeys v
  HasBasicKeys _ = Unit {0}

  pub HaveBasicKeys : Values → Type 0
  HaveBasicKeys no_values = Unit {0}
  HaveBasicKeys (a_value v vs) = HasBasicKeys v × HaveBasicKeys vs

  pub EntriesHaveBasicKeys : Entries → Type 0
  EntriesHaveBasicKeys no_entries = Unit {0}
  EntriesHaveBasicKeys (entry k v es) = IsIntegerOrText k × HasBasicKeys v × EntriesHaveBasicKeys es

-- how deep arrays, maps and tags nest: a scalar or string has depth 0, an empty array 1
abbrev mutual
  pub depth : Value → ℕ
  depth (array vs) = suc (depth_all vs)
  depth (map es) = suc (depth_entries es)
  depth (tag n v) = suc (depth v)
  depth _ = 0

  pub depth_all : Values → ℕ
  depth_all no_values = 0
  depth_all (a_value v vs) = max (depth v) (depth_all vs)

  pub depth_entries : Entries → ℕ
  depth_entries no_entries = 0
  depth_entries (entry k v es) = max (max (depth k) (depth v)) (depth_entries es)
