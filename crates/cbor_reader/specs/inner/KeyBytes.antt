-- The canonical bytes of keys alone: which parts of an item are stored, and what the builder gets
-- of them.
use Rattle.std.specs.Prelude.{ℕ, zero, suc, ◌≡◌, ◌||◌, ◌++◌, if◌then◌else◌, Bool, true, false, List, [], ◌∷◌, length}
use Rattle.cbor_head.specs.{Prelude.Pair, Prelude.shortest_head, declared.order.KeyOrder.KeyOrder}
use Rattle.theory_values.specs.Parts.{Open, plain, a_map, a_key, a_string, pair, give}
use Rattle.theory_verdicts.specs.Levels.{Level, ParseState, item_expected, item_full, item_whole}
use Rattle.theory_verdicts.specs.{Given.level_open, Given.IsFull, Reading.string_major}
use Rattle.cbor_parser.specs.Sink.{takes_key, is_map}
use Rattle.cbor_reader.specs.declared.key_bytes.KeyBytes.{KeyBytes}

-- ---- where a key is expected

abbrev pub is_open_map : Open → Bool
is_open_map (a_map ps) = true
is_open_map _ = false

-- the item is a key, or is in one
abbrev pub in_key : List Level → Bool
in_key [] = false
in_key (l ∷ ls) = takes_key l || in_key ls

-- ---- what is stored

-- the keys, each with a value of no bytes
abbrev pub bare_pairs : List Pair → List Pair
bare_pairs [] = []
bare_pairs (p ∷ ps) = pair p.key [] ∷ bare_pairs ps

-- what is stored of a container that is not in a key: the keys of a map, and else nothing
abbrev pub bare : Open → List Open → List Open
bare (a_map ps) os = a_map (bare_pairs ps) ∷ os
bare (a_key ps k) os = a_map (bare_pairs ps ++ pair k [] ∷ []) ∷ os
bare _ os = os

-- what is stored of a container, which is in a key or not
abbrev pub kept : Bool → Open → List Open → List Open
kept true c os = c ∷ os
kept false c os = bare c os

abbrev pub kept_all : KeyOrder → List Level → List Open
kept_all o [] = plain [] ∷ []
kept_all o (l ∷ ls) = kept (in_key ls) (level_open o l) (kept_all o ls)

abbrev pub one_more : Bool → ℕ → ℕ
one_more true n = suc n
one_more false n = 0

-- how many containers within a key are open
abbrev pub inside : List Level → ℕ
inside [] = 0
inside (l ∷ ls) = one_more (in_key ls) (inside ls)

-- whether an item is stored: it is within a key of which n containers are open, or is a key itself
abbrev pub is_kept : ℕ → Bool → Bool
is_kept zero is_key = is_key
is_kept (suc n) is_key = true

-- a string, by its content
abbrev pub string_bytes : Bool → List ℕ → List ℕ
string_bytes is_text content = shortest_head (string_major is_text) (length content) ++ content

-- a key that is complete gets a value of no bytes
abbrev pub after_item : ℕ → List Open → List Open
after_item zero os = give [] os
after_item (suc n) os = os

-- what is stored after an item of these bytes
abbrev pub with_item : ℕ → Bool → List ℕ → List Open → List Open
with_item n is_key b os = if is_kept n is_key then after_item n (give b os) else os

-- ---- the state at a position in the item

abbrev pub KeepsAt : KeyOrder → List Open → ℕ → ParseState → Type 0
KeepsAt o os n (item_expected ls) = (os ≡ kept_all o ls) × (n ≡ inside ls)
KeepsAt o os n (item_full ls s) =
    (d : ℕ) × (c : Open) × IsFull o d c s × (is_open_map c ≡ is_map s) × (os ≡ kept (in_key ls) c (kept_all o ls)) × (n ≡ one_more (in_key ls) (inside ls))
KeepsAt o os n (item_whole s) = Unit {0}

abbrev pub keys_agree : KeyBytes → KeyBytes → ParseState → Type 0
keys_agree start g st = KeepsAt g.builder.order g.builder.open_levels g.inside st

-- within a string, it also holds the content so far, if that is stored
abbrev pub keys_hold : KeyBytes → KeyBytes → List Level → Bool → List ℕ → Type 0
keys_hold start g ls is_text content =
    (g.builder.open_levels ≡ kept (in_key ls) (a_string (string_major is_text) content) (kept_all g.builder.order ls)) × (g.inside ≡ inside ls)

-- a request for memory was refused
abbrev pub keys_refused : KeyBytes → Bool
keys_refused g = g.builder.refused
