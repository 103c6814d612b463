-- How many maps are open in an item, and how many bytes of keys are stored, by the container that it is in.
use Rattle.std.proofs.Common.{◌≡◌, ℕ, suc, ◌+◌, ◌-◌, ◌<◌, ◌≤◌, List, [], ◌∷◌, ◌++◌, length, refl, ap, ◌∙◌, arith, if◌then◌else◌, lt-ltb, le-ltb, le-leb, length-append}
use Rattle.cbor_head.specs.Prelude.{head, Spelling, Spellings, SpelledEntries, a_map, no_spellings, a_spelling, no_entries, entry, spell, spell_all, spell_entries, spellings_count, entries_count}
use Rattle.cbor_head.specs.declared.major.Major.TheVariants.{Array, Map, Tag}
use Rattle.theory_verdicts.specs.Frame.{Frame, a_member, a_key, a_content, tagged, with_all, with_entries, plug, before, following}
use Rattle.theory_verdicts.proofs.Frames.{count_with, entries_with, pair_size, spell_plug}
use Rattle.theory_verdicts.specs.{LastKey.last_key, OpenMaps.before_all}
use Rattle.cbor_strict.specs.KeptKeys.{open_maps, open_maps_in, open_maps_in_entries, key_bytes, key_bytes_in, key_bytes_in_entries}
use Rattle.cbor_strict.specs.inner.LastKeys.{is_key, complete_key}

-- ---- what a path of containers counts, the outermost first

abbrev pub one_map : Frame → ℕ
one_map (a_member w a b) = 0
one_map (tagged w n) = 0
one_map _ = 1

abbrev pub map_count : List Frame → ℕ
map_count [] = 0
map_count (f ∷ fs) = one_map f + map_count fs

-- if n bytes of the item in the innermost container were read
abbrev pub keys_size : List Frame → ℕ → ℕ
keys_size [] n = 0
keys_size (f ∷ fs) n = length (complete_key f) + (if is_key f then length (before_all fs) + n else keys_size fs n)

-- ---- one container

pub members_size : (s : Spelling) (ss : Spellings) → length (spell_all (a_spelling s ss)) ≡ length (spell s) + length (spell_all ss)
members_size s ss = length-append (spell s) (spell_all ss)

-- the counts of the members are those of the item among them that is not complete
members_counted : (a : Spellings) (s : Spelling) (b : Spellings) (n m : ℕ) → m ≡ length (spell_all a) + n → n < length (spell s)
    → (open_maps_in m (with_all a (a_spelling s b)) ≡ open_maps n s) × (key_bytes_in m (with_all a (a_spelling s b)) ≡ key_bytes n s)
members_counted no_spellings s b n m e l =
    let same : m ≡ n = omega (arith, e) in
    rw (lt-ltb m (length (spell s)) (omega (arith, e, l))) (ap (λ (x : ℕ). open_maps x s) same, ap (λ (x : ℕ). key_bytes x s) same)
members_counted (a_spelling t a) s b n m e l =
    let size = members_size t a in
    rw (le-ltb m (length (spell t)) (omega (arith, e, size))) (members_counted a s b n (m - length (spell t)) (omega (arith, e, size)) l)

-- the length of the last key of these pairs, after one of n bytes
abbrev last_size : ℕ → SpelledEntries → ℕ
last_size last no_entries = last
last_size last (entry k v es) = last_size (length (spell k)) es

last_of : (k v : Spelling) (es : SpelledEntries) → last_size (length (spell k)) es ≡ length (last_key (entry k v es))
last_of k v no_entries = refl
last_of k v (entry l w es) = last_of l w es

last_all : (es : SpelledEntries) → last_size 0 es ≡ length (last_key es)
last_all no_entries = refl
last_all (entry k v es) = last_of k v es

key_counted : (a : SpelledEntries) (k v : Spelling) (b : SpelledEntries) (n m last : ℕ) → m ≡ length (spell_entries a) + n → n < length (spell k)
    → (open_maps_in_entries m (with_entries a (entry k v b)) ≡ open_maps n k) × (key_bytes_in_entries m last (with_entries a (entry k v b)) ≡ last_size last a + n)
key_counted no_entries k v b n m last e l =
    let same : m ≡ n = omega (arith, e) in
    rw (lt-ltb m (length (spell k)) (omega (arith, e, l))) (ap (λ (x : ℕ). open_maps x k) same, ap (λ (x : ℕ). last + x) same)
key_counted (entry j u a) k v b n m last e l =
    let size = pair_size j u a in
    rw (le-ltb m (length (spell j)) (omega (arith, e, size)), le-ltb (m - length (spell j)) (length (spell u)) (omega (arith, e, size)))
    (key_counted a k v b n (m - length (spell j) - length (spell u)) (length (spell j)) (omega (arith, e, size)) l)

value_counted : (a : SpelledEntries) (k v : Spelling) (b : SpelledEntries) (n m last : ℕ) → m ≡ length (spell_entries a) + length (spell k) + n → n < length (spell v)
    → (open_maps_in_entries m (with_entries a (entry k v b)) ≡ open_maps n v) × (key_bytes_in_entries m last (with_entries a (entry k v b)) ≡ length (spell k) + key_bytes n v)
value_counted no_entries k v b n m last e l =
    let same : m - length (spell k) ≡ n = omega (arith, e) in
    rw (le-ltb m (length (spell k)) (omega (arith, e)), lt-ltb (m - length (spell k)) (length (spell v)) (omega (arith, e, l))) (ap (λ (x : ℕ). open_maps x v) same, ap (λ (x : ℕ). length (spell k) + key_bytes x v) same)
value_counted (entry j u a) k v b n m last e l =
    let size = pair_size j u a in
    rw (le-ltb m (length (spell j)) (omega (arith, e, size)), le-ltb (m - length (spell j)) (length (spell u)) (omega (arith, e, size)))
    (value_counted a k v b n (m - length (spell j) - length (spell u)) (length (spell j)) (omega (arith, e, size)) l)

-- an item is completely in its container
pub plug_size : (f : Frame) (s : Spelling) → length (before f) + length (spell s) ≤ length (spell (plug f s))
plug_size f s = omega (arith, ap length (spell_plug f s), length-append (before f) (spell s ++ following f), length-append (spell s) (following f))

none_more : (n : ℕ) → n ≡ 0 + n
none_more n = omega arith

one_more : (n : ℕ) → suc n ≡ 1 + n
one_more n = omega arith

-- what is stored of the container, if so much is stored of the item
abbrev pub around : Frame → ℕ → ℕ → ℕ
around f n keys = length (complete_key f) + (if is_key f then n else keys)

pub plug_counted : (f : Frame) (s : Spelling) (n m : ℕ) → m ≡ length (before f) + n → n < length (spell s) → (open_maps m (plug f s) ≡ one_map f + open_maps n s) × (key_bytes m (plug f s) ≡ around f n (key_bytes n s))
plug_counted (a_member w a b) s n m e l =
    let hd = head Array w (spellings_count a + suc (spellings_count b)) in
    let heads = ap (λ (i : ℕ). length (head Array w i)) (count_with a (a_spelling s b)) in
    let both = members_counted a s b n (m - length (head Array w (spellings_count (with_all a (a_spelling s b))))) (omega (arith, e, heads, length-append hd (spell_all a))) l in
    (both.0 ∙ none_more (open_maps n s), both.1 ∙ none_more (key_bytes n s))
plug_counted (a_key w a v b) s n m e l =
    let hd = head Map w (entries_count a + suc (entries_count b)) in
    let heads = ap (λ (i : ℕ). length (head Map w i)) (entries_with a (entry s v b)) in
    let whole = plug_size (a_key w a v b) s in
    let sizes = length-append hd (spell_entries a) in
    let es = with_entries a (entry s v b) in
    let both = key_counted a s v b n (m - length (head Map w (entries_count es))) 0 (omega (arith, e, heads, sizes)) l in
    rw (le-leb (length (head Map w (entries_count es))) m (omega (arith, e, heads, sizes)), lt-ltb m (length (spell (a_map w es))) (omega (arith, e, l, whole)))
    (ap suc both.0 ∙ one_more (open_maps n s), both.1 ∙ ap (λ (x : ℕ). x + n) (last_all a))
plug_counted (a_content w a k b) s n m e l =
    let hd = head Map w (entries_count a + suc (entries_count b)) in
    let heads = ap (λ (i : ℕ). length (head Map w i)) (entries_with a (entry k s b)) in
    let whole = plug_size (a_content w a k b) s in
    let sizes = length-append (hd ++ spell_entries a) (spell k) in
    let sizes2 = length-append hd (spell_entries a) in
    let es = with_entries a (entry k s b) in
    let both = value_counted a k s b n (m - length (head Map w (entries_count es))) 0 (omega (arith, e, heads, sizes, sizes2)) l in
    rw (le-leb (length (head Map w (entries_count es))) m (omega (arith, e, heads, sizes, sizes2)), lt-ltb m (length (spell (a_map w es))) (omega (arith, e, l, whole)))
    (ap suc both.0 ∙ one_more (open_maps n s), both.1)
plug_counted (tagged w k) s n m e l =
    let same : m - length (head Tag w k) ≡ n = omega (arith, e) in
    (ap (λ (x : ℕ). open_maps x s) same ∙ none_more (open_maps n s), ap (λ (x : ℕ). key_bytes x s) same ∙ none_more (key_bytes n s))
