-- The head of a value's canonical bytes, and what follows it.
use Rattle.std.proofs.Common.{◌≡◌, ℕ, List, [], ◌++◌, length, refl, sym, ap, ◌∙◌, append_assoc, append-nil}
use Rattle.cbor_head.specs.Value as value
use Rattle.cbor_head.specs.Prelude.{IsHead, shortest, shortest_head, Value, Values, Entries, IsInRange, canonical, major_number}
use Rattle.cbor_head.specs.declared.order.KeyOrder.{KeyOrder}
use Rattle.theory_values.proofs.Normal.{Holds-shortest}
use Rattle.cbor_cursor.specs.Items.{BeginsWith, major_of, argument_of, content_of}
use Rattle.cbor_cursor.specs.{Decoded.decoded, Decoded.encoded, inner.Canonical.IsCanonical, inner.Pairs.ArePairsOf}

pub head_and_content : (o : KeyOrder) (v : Value) → canonical o v ≡ shortest_head (major_of v) (argument_of v) ++ content_of o v
head_and_content o (value.unsigned n) = sym (append-nil _)
head_and_content o (value.negative n) = sym (append-nil _)
head_and_content o (value.bytes s) = refl
head_and_content o (value.text s) = refl
head_and_content o (value.array vs) = refl
head_and_content o (value.map es) = refl
head_and_content o (value.tag n v) = refl
head_and_content o (value.simple n) = sym (append-nil _)

pub head_of : (v : Value) → IsInRange v → IsHead (major_of v) (shortest (argument_of v)) (argument_of v)
head_of (value.unsigned n) h = Holds-shortest n h
head_of (value.negative n) h = Holds-shortest n h
head_of (value.bytes s) h = Holds-shortest (length s) h.0
head_of (value.text s) h = Holds-shortest (length s) h.0
head_of (value.array vs) h = Holds-shortest _ h.0
head_of (value.map es) h = Holds-shortest _ h.0
head_of (value.tag n v) h = Holds-shortest n h.0
head_of (value.simple n) h = (h, refl)

pub from_head : (o : KeyOrder) (v : Value) (bytes rest : List ℕ) → BeginsWith o bytes v rest → bytes ≡ shortest_head (major_of v) (argument_of v) ++ (content_of o v ++ rest)
from_head o v bytes rest b =
    b.begins ∙ ap (λ (l : List ℕ). l ++ rest) (head_and_content o v) ∙ append_assoc (shortest_head (major_of v) (argument_of v)) (content_of o v) rest

-- an item with the major type of a map is a map
pub is_map : (v : Value) → major_number (major_of v) ≡ 5 → (es : Entries) × (v ≡ value.map es)
is_map (value.map es) e = (es, refl)
is_map (value.unsigned n) e = absurd (cc e)
is_map (value.negative n) e = absurd (cc e)
is_map (value.bytes s) e = absurd (cc e)
is_map (value.text s) e = absurd (cc e)
is_map (value.array vs) e = absurd (cc e)
is_map (value.tag n v) e = absurd (cc e)
is_map (value.simple n) e = absurd (cc e)

-- the pairs after its head
pub pairs_of : (o : KeyOrder) (es : Entries) (bytes rest content : List ℕ) (count : ℕ) → BeginsWith o bytes (value.map es) rest → count ≡ value.entries_count es → content ≡ content_of o (value.map es) ++ rest → ArePairsOf o es count content rest
pairs_of o es bytes rest content count b n e = record { range = b.range; valid = b.valid; count_is = n; bytes_are = e }

-- one item begins with itself
pub whole_begins : (o : KeyOrder) (bytes : List ℕ) → IsCanonical (encoded o bytes) → BeginsWith o bytes (decoded bytes) []
whole_begins o bytes i = record { range = i.range; valid = i.valid; begins = i.bytes_are ∙ sym (append-nil _) }

-- an item with the major type of an array is an array
pub is_array : (v : Value) → major_number (major_of v) ≡ 4 → (vs : Values) × (v ≡ value.array vs)
is_array (value.array vs) e = (vs, refl)
is_array (value.unsigned n) e = absurd (cc e)
is_array (value.negative n) e = absurd (cc e)
is_array (value.bytes s) e = absurd (cc e)
is_array (value.text s) e = absurd (cc e)
is_array (value.map es) e = absurd (cc e)
is_array (value.tag n v) e = absurd (cc e)
is_array (value.simple n) e = absurd (cc e)

-- an item with the major type of a tag is a tag
pub is_tag : (v : Value) → major_number (major_of v) ≡ 6 → (n : ℕ) × (w : Value) × (v ≡ value.tag n w)
is_tag (value.tag n v) e = (n, v, refl)
is_tag (value.unsigned n) e = absurd (cc e)
is_tag (value.negative n) e = absurd (cc e)
is_tag (value.bytes s) e = absurd (cc e)
is_tag (value.text s) e = absurd (cc e)
is_tag (value.array vs) e = absurd (cc e)
is_tag (value.map es) e = absurd (cc e)
is_tag (value.simple n) e = absurd (cc e)
