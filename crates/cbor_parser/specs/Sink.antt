-- What a sink was given of a valid item, at each position of a walk.
use Rattle.std.specs.Prelude.{ℕ, ◌≡◌, ◌<◌, ◌≤◌, ◌-◌, ◌^◌, ◌⊎◌, ◌++◌, Bool, true, false, List, [], ◌∷◌, length}
use Rattle.cbor_head.specs.Prelude.{plain, Bounds, Spelling, SpelledEntries, entry, array, a_map, spell, value_of, IsSpelled, depth, Value}
use Rattle.cbor_head.specs.Value as value
use Rattle.cbor_head.specs.declared.{major.Major.Major, major.Major.TheVariants.Negative, major.Major.TheVariants.Simple, order.KeyOrder.KeyOrder}
use Rattle.cbor_builder.specs.{Built.AreOpenKeysDifferent, Built.IsRepeatReported, declared.repeat.Repeat.Repeat}
use Rattle.theory_verdicts.specs.Levels.{IsClean, IsTaken, IsOpened, Level, a_key, some_member, some_key, AreLevels, bytes_before, ParseState, item_expected, item_full, item_whole, settle}
use Rattle.theory_verdicts.specs.{Given.opens, Given.full_open, Reading.string_value, Readers.IsRead}

-- ---- parts

-- the value of an item that consists of its head
abbrev pub leaf_value : Major → ℕ → Value
leaf_value Negative n = value.negative n
leaf_value Simple n = value.simple n
leaf_value _ n = value.unsigned n

-- ---- where a key is expected

abbrev pub takes_key : Level → Bool
takes_key (a_key w left done) = true
takes_key (some_key done) = true
takes_key _ = false

-- the next item is a key
abbrev pub key_expected : List Level → Bool
key_expected [] = false
key_expected (l ∷ ls) = takes_key l

abbrev pub is_map : Spelling → Bool
is_map (a_map w es) = true
is_map _ = false

-- the innermost open item is a map, and no key has yet to get its value
abbrev pub awaits_key : ParseState → Bool
awaits_key (item_expected ls) = key_expected ls
awaits_key (item_full ls s) = is_map s
awaits_key (item_whole s) = false

-- a sink is at this position, and the flag it gets (a key is expected, or a map ends) is right
abbrev pub Reported : (S : Type 0) → (S → S → ParseState → Type 0) → Bool → S → S → ParseState → Type 0
Reported S agrees is_key start g st = agrees start g st × (is_key ≡ awaits_key st)

-- ---- what fits

-- the containers are open within an item that is no longer than an input can be
pub record AreOpenLevels (d : ℕ) (ls : List Level) : Type 0 where
  pub levels : AreLevels d ls
  pub short : length (bytes_before ls) < 2 ^ 63

-- this item is complete in these containers
pub record Completes (d : ℕ) (ls : List Level) (s : Spelling) : Type 0 where
  pub levels : AreLevels d ls
  pub taken : IsTaken (d - length ls) s
  pub short : length (bytes_before ls ++ spell s) < 2 ^ 63

-- this container, complete within these, has no more members; it may have equal keys, unless the whole is known to be valid
pub record Fills (trusts : Bool) (d : ℕ) (ls : List Level) (s : Spelling) : Type 0 where
  pub levels : AreLevels d ls
  pub spelled : IsSpelled s
  pub within : depth s ≤ d - length ls
  pub short : length (bytes_before ls ++ spell s) < 2 ^ 63
  pub clean : trusts ≡ true → IsClean s

-- what a container of indefinite length is at its end, which is a break or, before its first item, a definite length of 0
abbrev pub IsEndedAs : Level → Spelling → Type 0
IsEndedAs (some_member done) (array w ss) = ss ≡ done
IsEndedAs (some_key done) (a_map w es) = es ≡ done
IsEndedAs l s = ⊥

-- ---- equal keys

-- of the open maps, from the outermost in, the first with two equal keys, and of it the first key that is equal to an earlier one
abbrev pub IsReportedIn : List Level → Repeat → Type 0
IsReportedIn ls repeat = (o : KeyOrder) × IsRepeatReported (opens o ls) repeat.outside repeat.pair

-- the same, with the innermost container complete
abbrev pub IsReportedFull : List Level → Spelling → Repeat → Type 0
IsReportedFull ls s repeat = (o : KeyOrder) × IsRepeatReported (full_open o s ∷ opens o ls) repeat.outside repeat.pair

-- ---- what is given, by the relation that says which position a sink is at, counted from its first state

-- an item is expected, a key or not
abbrev pub IsItemExpected : (S : Type 0) → (S → S → ParseState → Type 0) → Bool → S → Type 0
IsItemExpected S agrees is_key g = (start : S) × (d : ℕ) × (ls : List Level) × AreOpenLevels d ls × Reported S agrees is_key start g (item_expected ls)

-- an item of this value is given
abbrev pub Gives : (S : Type 0) → (S → S → ParseState → Type 0) → Bool → Value → S → S → Type 0
Gives S agrees is_key v old new =
    (start : S) (d : ℕ) (ls : List Level) (s : Spelling) → Reported S agrees is_key start old (item_expected ls) → Completes d ls s → value_of s ≡ v → agrees start new (settle ls s)

-- a container opens
abbrev pub Opens : (S : Type 0) → (S → S → ParseState → Type 0) → Bool → Major → ℕ → S → S → Type 0
Opens S agrees is_key m n old new = (start : S) (ls : List Level) (l : Level) → Reported S agrees is_key start old (item_expected ls) → IsOpened m n l → agrees start new (item_expected (l ∷ ls))

-- this container has no more members: its last item was given, or it is of indefinite length
abbrev pub AgreesAsFull : (S : Type 0) → (S → S → ParseState → Type 0) → ℕ → S → S → List Level → Spelling → Type 0
AgreesAsFull S agrees d start g ls s =
    agrees start g (item_full ls s) ⊎ ((l : Level) × IsEndedAs l s × AreLevels d (l ∷ ls) × agrees start g (item_expected (l ∷ ls)))

-- a container should end, a map or not
abbrev pub IsContainerFull : (S : Type 0) → (S → S → ParseState → Type 0) → Bool → Bool → S → Type 0
IsContainerFull S agrees trusts is_map g = (start : S) × (d : ℕ) × (ls : List Level) × (s : Spelling) × Fills trusts d ls s × AgreesAsFull S (Reported S agrees is_map) d start g ls s

-- it ends, and has no equal keys
abbrev pub Ends : (S : Type 0) → (S → S → ParseState → Type 0) → Bool → Bool → S → S → Type 0
Ends S agrees trusts is_map old new =
    (start : S) (d : ℕ) (ls : List Level) (s : Spelling) → Fills trusts d ls s → AgreesAsFull S (Reported S agrees is_map) d start old ls s → IsClean s × agrees start new (settle ls s)

-- it has no keys
abbrev pub IsKeyless : Spelling → Type 0
IsKeyless (a_map w (entry k v es)) = ⊥
IsKeyless _ = Unit {0}

-- it does not end, since two of its keys are equal, and this key is reported
abbrev pub Repeats : (S : Type 0) → (S → S → ParseState → Type 0) → Bool → Bool → S → Repeat → Type 0
Repeats S agrees trusts is_map old repeat =
    (start : S) (d : ℕ) (ls : List Level) (s : Spelling) → Fills trusts d ls s → AgreesAsFull S (Reported S agrees is_map) d start old ls s → IsReportedFull ls s repeat × (IsKeyless s → ⊥)

-- ---- a string in chunks, by the relation that says what its content so far is

-- a string begins, with no chunks
abbrev pub BeginsString : (S : Type 0) → (S → S → ParseState → Type 0) → (S → S → List Level → Bool → List ℕ → Type 0) → Bool → Bool → S → S → Type 0
BeginsString S agrees holds is_key is_text old new = (start : S) (ls : List Level) → Reported S agrees is_key start old (item_expected ls) → holds start new ls is_text []

-- a chunk of the string is expected
abbrev pub IsChunkExpected : (S : Type 0) → (S → S → List Level → Bool → List ℕ → Type 0) → Bool → Bool → S → Type 0
IsChunkExpected S holds is_key is_text g =
    (start : S) × (d : ℕ) × (ls : List Level) × (content : List ℕ) × AreOpenLevels d ls × holds start g ls is_text content × (is_key ≡ key_expected ls)

-- the string is continued by a chunk
abbrev pub GrowsString : (S : Type 0) → (S → S → List Level → Bool → List ℕ → Type 0) → Bool → Bool → List ℕ → S → S → Type 0
GrowsString S holds is_key is_text chunk old new =
    (start : S) (ls : List Level) (content : List ℕ) → holds start old ls is_text content → is_key ≡ key_expected ls → holds start new ls is_text (content ++ chunk)

-- the string ends
abbrev pub EndsString : (S : Type 0) → (S → S → ParseState → Type 0) → (S → S → List Level → Bool → List ℕ → Type 0) → Bool → Bool → S → S → Type 0
EndsString S agrees holds is_key is_text old new =
    (start : S) (d : ℕ) (ls : List Level) (content : List ℕ) (s : Spelling) → holds start old ls is_text content → is_key ≡ key_expected ls
    → Completes d ls s → value_of s ≡ string_value is_text content → agrees start new (settle ls s)

-- ---- keys

-- no two complete keys of an open map have the same canonical bytes, in some order of keys
abbrev pub AreKeysDistinct : List Level → Type 0
AreKeysDistinct ls = (o : KeyOrder) × AreOpenKeysDifferent (opens o ls)

-- an item is expected in these containers, or a chunk of a string
abbrev pub IsWithin : (S : Type 0) → (S → S → ParseState → Type 0) → (S → S → List Level → Bool → List ℕ → Type 0) → S → S → List Level → Type 0
IsWithin S agrees holds start g ls = agrees start g (item_expected ls) ⊎ ((is_text : Bool) × (content : List ℕ) × holds start g ls is_text content)

-- wherever an item or a chunk is expected, no key is repeated
abbrev pub FindsNoRepeat : (S : Type 0) → (S → S → ParseState → Type 0) → (S → S → List Level → Bool → List ℕ → Type 0) → S → Type 0
FindsNoRepeat S agrees holds g = (start : S) (ls : List Level) → IsWithin S agrees holds start g ls → AreKeysDistinct ls

-- wherever an item or a chunk is expected, this is the key to report
abbrev pub FindsRepeat : (S : Type 0) → (S → S → ParseState → Type 0) → (S → S → List Level → Bool → List ℕ → Type 0) → S → Repeat → Type 0
FindsRepeat S agrees holds g repeat = (start : S) (ls : List Level) → IsWithin S agrees holds start g ls → IsReportedIn ls repeat

-- ---- a key that is expected

-- a key is expected in this container, after these pairs
abbrev pub IsKeyAfter : Level → SpelledEntries → Type 0
IsKeyAfter (a_key w left done) es = es ≡ done
IsKeyAfter (some_key done) es = es ≡ done
IsKeyAfter _ es = ⊥

-- ---- the whole item

-- the item at the start of an input is known to be accepted by the plain rules
abbrev pub IsKnownValid : Bounds → List ℕ → Type 0
IsKnownValid limits input = (size : ℕ) × IsRead limits plain input size

-- the item at the start of an input is accepted by the plain rules, has this number of bytes, and all of it was given
pub record IsGivenPrefix (given : ParseState → Type 0) (limits : Bounds) (input : List ℕ) (size : ℕ) : Type 0 where
  pub read : IsRead limits plain input size
  pub whole : given (item_whole read.item)
