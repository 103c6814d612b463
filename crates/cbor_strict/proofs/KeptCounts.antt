-- How many maps are open, and how many bytes of keys are stored: the counts of each item that starts with the bytes read.
use Rattle.std.proofs.Common.{◌≡◌, ℕ, ◌+◌, ◌-◌, ◌<◌, ◌≤◌, List, [], ◌∷◌, ◌++◌, length, refl, sym, ap, ◌∙◌, subst, arith, append_assoc, le-ltb, length-append}
use Rattle.cbor_head.specs.Prelude.{head, Spelling, Spellings, array, a_map, tag, no_spellings, a_spelling, spell, spell_all, spellings_count, entries_count, break_of, IsSpelled}
use Rattle.cbor_head.specs.declared.major.Major.TheVariants.{Array, Map, Tag}
use Rattle.theory_automaton.proofs.Opens.{over-none}
use Rattle.theory_verdicts.specs.Frame.{Frame, before, following, IsFrame}
use Rattle.theory_verdicts.specs.OpenMaps.{before_all}
use Rattle.cbor_strict.specs.KeptKeys.{open_maps, open_maps_in, key_bytes, key_bytes_in}
use Rattle.cbor_strict.proofs.FrameCounts.{around, keys_size, map_count, members_size, one_map, plug_counted, plug_size}
use Rattle.cbor_strict.{specs.inner.LastKeys.HasLength, proofs.FrameStarts.starts_in}

-- ---- a path of containers

-- n bytes of the item are not all of it, and this is counted in it
pub record Counts (s : Spelling) (n maps keys : ℕ) : Type 0 where
  pub within : n < length (spell s)
  pub maps_are : open_maps n s ≡ maps
  pub keys_are : key_bytes n s ≡ keys

abbrev pub AreAround : List Frame → Type 0
AreAround [] = Unit {0}
AreAround (f ∷ fs) = IsFrame f × HasLength f × AreAround fs

pub path_counts : (fs : List Frame) (p : List ℕ) → AreAround fs → ((s : Spelling) (x u : List ℕ) → IsSpelled s → spell s ++ x ≡ p ++ u → Counts s (length p) 0 0)
    → (s : Spelling) (x u : List ℕ) → IsSpelled s → spell s ++ x ≡ (before_all fs ++ p) ++ u → Counts s (length (before_all fs ++ p)) (map_count fs) (keys_size fs (length p))
path_counts [] p h base s x u i e = base s x u i e
path_counts (f ∷ fs) p h base s x u i e =
    let k = starts_in f s x ((before_all fs ++ p) ++ u) h.0 h.1 i
    (e ∙ ap (λ (y : List ℕ). y ++ u) (append_assoc (before f) (before_all fs) p) ∙ append_assoc (before f) (before_all fs ++ p) u) in
    let c = path_counts fs p h.2 base k.item (following k.frame ++ x) u k.spelled k.bytes_are in
    let n = length (before_all fs ++ p) in
    let sizes : length ((before f ++ before_all fs) ++ p) ≡ length (before k.frame) + n = ap length (append_assoc (before f) (before_all fs) p) ∙ length-append (before f) (before_all fs ++ p) ∙ ap (λ (y : ℕ). y + n) (sym k.size) in
    let inner = c.within in
    let whole = plug_size k.frame k.item in
    let m = length ((before f ++ before_all fs) ++ p) in
    let both = plug_counted k.frame k.item n m sizes inner in
    subst (λ (t : Spelling). Counts t m (one_map f + map_count fs) (keys_size (f ∷ fs) (length p))) (sym k.is) (record {
      within = omega (arith, sizes, inner, whole);
      maps_are = both.0 ∙ ap (λ (y : ℕ). one_map k.frame + y) c.maps_are ∙ ap (λ (y : ℕ). y + map_count fs) k.maps;
      keys_are = both.1 ∙ k.keys n (key_bytes n k.item) ∙ ap (around f n) c.keys_are ∙ ap (λ (y : ℕ). around f y (keys_size fs (length p))) (length-append (before_all fs) p);
    })

-- ---- after an item

mutual
  pub past : (s : Spelling) (n : ℕ) → length (spell s) ≤ n → (open_maps n s ≡ 0) × (key_bytes n s ≡ 0)
  past (array w ss) n l =
      let hd = head Array w (spellings_count ss) in
      past_in ss (n - length hd) (omega (arith, l, length-append (hd ++ spell_all ss) (break_of w), length-append hd (spell_all ss)))
  past (a_map w es) n l = (over-none n (length (head Map w (entries_count es))) (length (spell (a_map w es))) _ l, rw (le-ltb n (length (spell (a_map w es))) l) refl)
  past (tag w k s) n l = past s (n - length (head Tag w k)) (omega (arith, l, length-append (head Tag w k) (spell s)))
  past _ n l = (refl, refl)

  past_in : (ss : Spellings) (n : ℕ) → length (spell_all ss) ≤ n → (open_maps_in n ss ≡ 0) × (key_bytes_in n ss ≡ 0)
  past_in no_spellings n l = (refl, refl)
  past_in (a_spelling s ss) n l =
      let size = members_size s ss in
      rw (le-ltb n (length (spell s)) (omega (arith, l, size))) (past_in ss (n - length (spell s)) (omega (arith, l, size)))
