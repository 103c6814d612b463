-- What is stored of the keys of the maps that are open around an item. The open containers are listed with the innermost
-- first.
use Rattle.std.specs.Prelude.{◌≡◌, ◌≢◌, ℕ, suc, ◌+◌, ◌-◌, ◌++◌, Bool, true, false, if◌then◌else◌, IsTrue, List, [], ◌∷◌, length, slice_set, Result, MatchResult}
use Rattle.cbor_head.specs.Prelude.{head, key_lt, Spelling, SpelledEntries, no_spellings, no_entries, entry, spell, spell_entries, entries_count}
use Rattle.cbor_head.specs.declared.{major.Major.TheVariants.Map, order.KeyOrder.KeyOrder, width.Width.Width, width.Width.TheVariants.Indefinite}
use Rattle.theory_verdicts.specs.Frame.{Frame, a_member, a_key, a_content, tagged, plug, before}
use Rattle.theory_verdicts.specs.LastKey.{last_key}
use Rattle.cbor_strict.specs.declared.last_keys.Expected.TheVariants.{Member, Key, Value}
use Rattle.cbor_strict.specs.declared.last_keys.{Expected.Expected, LastKeys.LastKeys, KeySpan.KeySpan}

pub record KeysView : Type 0 where
  -- what is expected in each
  pub levels : List Expected
  pub spans : List KeySpan
  pub bytes : List ℕ
  -- the number of incomplete keys that the item in the innermost is in
  pub open_keys : ℕ

abbrev pub view_value : LastKeys → KeysView
view_value k = record { levels = k.levels.items; spans = k.spans.items; bytes = k.bytes.items; open_keys = k.open_keys }

-- the same containers with the outermost first
abbrev pub from_outside : List Frame → List Frame
from_outside [] = []
from_outside (f ∷ fs) = from_outside fs ++ f ∷ []

abbrev pub is_key : Frame → Bool
is_key (a_key w a v b) = true
is_key _ = false

-- the item in the innermost container is in a key that is not complete
abbrev pub within_key : List Frame → Bool
within_key [] = false
within_key (f ∷ fs) = if is_key f then true else within_key fs

-- the number of such keys
abbrev pub keys_around : List Frame → ℕ
keys_around [] = 0
keys_around (f ∷ fs) = if is_key f then suc (keys_around fs) else keys_around fs

abbrev pub expected_of : Frame → Expected
expected_of (a_key w a v b) = Key
expected_of (a_content w a k b) = Value
expected_of _ = Member

abbrev pub levels_of : List Frame → List Expected
levels_of [] = []
levels_of (f ∷ fs) = levels_of fs ++ expected_of f ∷ []

-- the number of bytes before the last key of these pairs
abbrev pub before_last : SpelledEntries → ℕ
before_last (entry k v (entry l w es)) = length (spell k ++ spell v) + before_last (entry l w es)
before_last _ = 0

-- the bytes of the last complete key of an open map
abbrev pub complete_key : Frame → List ℕ
complete_key (a_key w a v b) = last_key a
complete_key (a_content w a k b) = spell k
complete_key _ = []

-- The bytes that are stored when p was read of the item in the innermost container: the last complete key of each open map,
-- up to the first key that is not complete; and all of that key.
abbrev pub kept_bytes : List Frame → List ℕ → List ℕ
kept_bytes [] p = []
kept_bytes (f ∷ fs) p = if within_key fs then kept_bytes fs (before f ++ p) else kept_bytes fs [] ++ (complete_key f ++ (if is_key f then p else []))

-- the number of stored bytes before those of a container
abbrev pub kept_before : List Frame → ℕ
kept_before fs = length (kept_bytes fs [])

abbrev pub span : ℕ → ℕ → ℕ → KeySpan
span from to next = record { from = from; to = to; next = next }

-- where the last complete key of the innermost map is, and where the next one begins
abbrev pub spans_in : Frame → List Frame → List KeySpan
spans_in (a_content w a k b) fs =
    let from = kept_before fs + (if within_key fs then length (head Map w (entries_count a + suc (entries_count b)) ++ spell_entries a) else 0) in
    span from (from + length (spell k)) (from + length (spell k)) ∷ []
spans_in (a_key w a v b) fs =
    let from = kept_before fs + (if within_key fs then length (head Map w (entries_count a + suc (entries_count b))) + before_last a else 0) in
    span from (from + length (last_key a)) (kept_before fs + (if within_key fs then length (before (a_key w a v b)) else length (last_key a))) ∷ []
spans_in _ fs = []

abbrev pub spans_of : List Frame → List KeySpan
spans_of [] = []
spans_of (f ∷ fs) = spans_of fs ++ spans_in f fs

-- The state when p was read of the item in the innermost of these containers.
pub record IsKept (k : KeysView) (fs : List Frame) (p : List ℕ) : Type 0 where
  pub levels : k.levels ≡ levels_of fs
  pub spans : k.spans ≡ spans_of fs
  pub bytes : k.bytes ≡ kept_bytes fs p
  pub open_keys : k.open_keys ≡ keys_around fs

-- ---- an item ends

-- a container of definite length, whose last item is expected
abbrev pub IsFull : Frame → Type 0
IsFull (a_member w a no_spellings) = w ≢ Indefinite
IsFull (a_content w a k no_entries) = w ≢ Indefinite
IsFull (tagged w n) = Unit {0}
IsFull _ = ⊥

-- a container of definite length
abbrev pub HasLength : Frame → Type 0
HasLength (a_member w a b) = w ≢ Indefinite
HasLength (a_key w a v b) = w ≢ Indefinite
HasLength (a_content w a k b) = w ≢ Indefinite
HasLength (tagged w n) = Unit {0}

abbrev pub AreDefinite : List Frame → Type 0
AreDefinite [] = Unit {0}
AreDefinite (f ∷ fs) = HasLength f × AreDefinite fs

-- the containers that are open after the last item in the innermost of them
abbrev pub still_open : List Frame → List Frame
still_open [] = []
still_open (a_member w a no_spellings ∷ fs) = still_open fs
still_open (a_content w a k no_entries ∷ fs) = still_open fs
still_open (tagged w n ∷ fs) = still_open fs
still_open (f ∷ fs) = f ∷ fs

-- the item that then has ended in the innermost of them: the last container that closed, if any
abbrev pub ended_item : List Frame → Spelling → Spelling
ended_item (a_member w a no_spellings ∷ fs) s = ended_item fs (plug (a_member w a no_spellings) s)
ended_item (a_content w a k no_entries ∷ fs) s = ended_item fs (plug (a_content w a k no_entries) s)
ended_item (tagged w n ∷ fs) s = ended_item fs (plug (tagged w n) s)
ended_item _ s = s

-- a key is complete in the innermost map
pub record HasKeyEnded (k : KeysView) : Type 0 where
  pub w : Width
  pub a : SpelledEntries
  pub v : Spelling
  pub b : SpelledEntries
  pub fs : List Frame
  pub s : Spelling
  pub kept : IsKept k (a_key w a v b ∷ fs) (spell s)

-- it comes after the one before, and replaces it; or it does not, and the error is its number of bytes
abbrev pub ReturnsKeyEnd : KeyOrder → KeysView → KeysView → Result (Unit {0}) ℕ → Type 0
ReturnsKeyEnd o old new result =
    (w : Width) (a : SpelledEntries) (v : Spelling) (b : SpelledEntries) (fs : List Frame) (s : Spelling) → IsKept old (a_key w a v b ∷ fs) (spell s)
    → MatchResult result
    (λ u. IsTrue (key_lt o (last_key a) (spell s)) × IsKept new (a_content w a s b ∷ fs) [])
    (λ n. ¬ IsTrue (key_lt o (last_key a) (spell s)) × (n ≡ length (spell s)))

-- the state with this expected in the innermost map, and its last key there
abbrev pub with_last : KeysView → Expected → KeySpan → KeysView
with_last k expected sp = record { levels = slice_set k.levels (length k.levels - 1) expected; spans = slice_set k.spans (length k.spans - 1) sp; bytes = k.bytes; open_keys = k.open_keys }

-- the state with the bytes from there on as the last complete key of the innermost map, and its value expected
abbrev pub with_key : KeysView → ℕ → KeysView
with_key k from = with_last k Value (span from (length k.bytes) (length k.bytes))
