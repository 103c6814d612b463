-- What is still to come in an open container, and what is stored for it.
use Rattle.std.specs.Prelude.{ℕ, zero, suc, ◌+◌, ◌-◌, ◌++◌, Bool, true, false, Option, Some, None, List, [], ◌∷◌, length}
use Rattle.cbor_head.specs.Prelude.{head, Spelling, spellings_count, entries_count}
use Rattle.cbor_head.specs.Spelling as spelling
use Rattle.cbor_head.specs.declared.major.Major.TheVariants.{Array, Map, Tag}
use Rattle.cbor_head.specs.declared.width.Width.TheVariants.{Indefinite}
use Rattle.theory_verdicts.specs.Levels.{Level, a_member, a_key, a_value, some_member, some_key, some_value, tagged, bytes_before}
use Rattle.cbor_parser.specs.declared.container.Expected.TheVariants.{Item, Key, Value}
use Rattle.cbor_parser.specs.declared.{container.Expected.Expected, open_container.OpenContainer.OpenContainer}

-- ---- whatever is stored for it

abbrev pub counted : {K : Type 0} → Expected → ℕ → K → OpenContainer K
counted expected left kept = record { expected = expected; left = left; is_indefinite = false; kept = kept }

abbrev pub indefinite : {K : Type 0} → Expected → K → OpenContainer K
indefinite expected kept = record { expected = expected; left = 0; is_indefinite = true; kept = kept }

-- what is expected once an item is complete

abbrev pub fewer : {K : Type 0} → Expected → ℕ → Bool → K → Option (OpenContainer K)
fewer expected (suc left) e kept = Some (record { expected = expected; left = left; is_indefinite = e; kept = kept })
fewer expected zero true kept = Some (indefinite expected kept)
fewer expected zero false kept = None

-- the container after a member or a pair; none, if it was the last
abbrev pub after_member : {K : Type 0} → OpenContainer K → Option (OpenContainer K)
after_member c = fewer c.expected c.left c.is_indefinite c.kept

abbrev pub after_expected : {K : Type 0} → Expected → OpenContainer K → Option (OpenContainer K)
after_expected Item c = after_member c
after_expected Key c = Some (record c { expected = Value })
after_expected Value c = after_member (record c { expected = Key })

-- the container after an item
abbrev pub after : {K : Type 0} → OpenContainer K → Option (OpenContainer K)
after c = after_expected c.expected c

-- ---- cells that store how many bytes of the input follow the container's head

abbrev pub Cell : Type 0
Cell = OpenContainer ℕ

-- ---- the head that it begins with

abbrev pub opener : Level → List ℕ
opener (a_member w left done) = head Array w (spellings_count done + suc left)
opener (a_key w left done) = head Map w (entries_count done + suc left)
opener (a_value w left done k) = head Map w (entries_count done + suc left)
opener (some_member done) = head Array Indefinite 0
opener (some_key done) = head Map Indefinite 0
opener (some_value done k) = head Map Indefinite 0
opener (tagged w n) = head Tag w n

-- the head of a complete container; of another item nothing
abbrev pub full_opener : Spelling → List ℕ
full_opener (spelling.array w ss) = head Array w (spellings_count ss)
full_opener (spelling.a_map w es) = head Map w (entries_count es)
full_opener (spelling.tag w n s) = head Tag w n
full_opener _ = []

-- ---- the cells

-- the cell of a container, if this number of bytes follows its head
abbrev pub cell_of : ℕ → Level → Cell
cell_of following (a_member w left done) = counted Item left following
cell_of following (a_key w left done) = counted Key left following
cell_of following (a_value w left done k) = counted Value left following
cell_of following (some_member done) = indefinite Item following
cell_of following (some_key done) = indefinite Key following
cell_of following (some_value done k) = indefinite Value following
cell_of following (tagged w n) = counted Item 0 following

-- how many bytes follow the head, within these containers, in an input of this number of bytes
abbrev pub bytes_after_head : ℕ → List Level → Level → ℕ
bytes_after_head n ls l = n - length (bytes_before ls ++ opener l)

-- the cells of all open containers, in an input of this number of bytes; the outermost is the input itself, in which one
-- item is expected
abbrev pub cells_of : ℕ → List Level → List Cell
cells_of n [] = counted Item 0 0 ∷ []
cells_of n (l ∷ ls) = cell_of (bytes_after_head n ls l) l ∷ cells_of n ls
