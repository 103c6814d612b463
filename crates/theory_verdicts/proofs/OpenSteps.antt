-- How the open containers change as members, keys and values end, and what stays known of them.
use Rattle.std.proofs.Common.{ℕ, suc, ◌+◌, ◌≡◌, ◌≤◌, ◌⊎◌, List, [], ◌∷◌, ◌++◌, length, refl, sym, ap, ◌∙◌, arith, subst, inl, inr, length-append, append_assoc, append-nil}
use Rattle.cbor_head.specs.Prelude.{head, Holds, Spelling, Spellings, SpelledEntries, no_spellings, a_spelling, no_entries, entry, spell, spell_all, spell_entries, spellings_count, entries_count, IsSpelled, HoldsOrIndefinite, depth, Rules, Complaint, OfCount, OfKey, Complains, OfHead}
use Rattle.cbor_head.specs.declared.major.Major.TheVariants.{Array, Map, Tag}
use Rattle.cbor_head.specs.declared.width.Width.{Width}
use Rattle.theory_verdicts.specs.Frame.{Frame, a_member, a_key, a_content, tagged, with_all, with_entries, plug, before, IsFrame, depth_beside, OfKeyAt, OfBack}
use Rattle.theory_verdicts.specs.OpenMaps.{Placed, placed, keys_at, open_keys, AreDistinct, ComplainsWithin, OfClosed, before_all, ArePath, AreClosedClean, AreOpenDistinct, AreOpen}
use Rattle.theory_verdicts.proofs.Frames.{count_with, entries_with, members_split, plug_split, depth_with, spelled_with, spelled_entries_with, depth_entries_with}
use Rattle.theory_verdicts.proofs.Judged.{zero_item, zero_spelled, zeros, zero_pairs, zeros_count, zeros_spelled, zeros_flat, pairs_count, pairs_spelled, pairs_flat}
use Rattle.theory_verdicts.{specs.Judged.Never, specs.SoFar.array_bytes, specs.SoFar.map_bytes, proofs.Loops.array_bytes-more, proofs.Loops.map_bytes-more}
use Rattle.theory_verdicts.proofs.OpenKeys.{prefix_apart}

-- ---- one container more, within the others

pub before_snoc : (fs : List Frame) (f : Frame) → before_all (fs ++ f ∷ []) ≡ before_all fs ++ before f
before_snoc [] f = append-nil (before f)
before_snoc (g ∷ fs) f = ap (λ (x : List ℕ). before g ++ x) (before_snoc fs f) ∙ sym (append_assoc (before g) (before_all fs) (before f))

pub path_snoc : (fs : List Frame) (f : Frame) (d : ℕ) → ArePath (suc d) fs → IsFrame f → depth_beside f ≤ d → ArePath d (fs ++ f ∷ [])
path_snoc [] f d h i l = (i, omega (arith, l), tt)
path_snoc (g ∷ fs) f d h i l = (h.0, omega (arith, h.1, length-append fs (f ∷ [])), path_snoc fs f d h.2 i l)

pub path_outer : (fs : List Frame) (f : Frame) (d : ℕ) → ArePath d (fs ++ f ∷ []) → ArePath (suc d) fs
path_outer [] f d h = tt
path_outer (g ∷ fs) f d h = (h.0, omega (arith, h.1, length-append fs (f ∷ [])), path_outer fs f d h.2)

pub clean_snoc : (fs : List Frame) (f : Frame) (r : Rules) (at to : ℕ) → to ≡ at + length (before_all fs) → AreClosedClean r at fs → Never (OfClosed r to f) → AreClosedClean r at (fs ++ f ∷ [])
clean_snoc [] f r at to e h i = let g : to ≡ at = omega (arith, e) in (subst (λ (k : ℕ). Never (OfClosed r k f)) g i, tt)
clean_snoc (g ∷ fs) f r at to e h i = (h.0, clean_snoc fs f r (at + length (before g)) to (omega (arith, e, length-append (before g) (before_all fs))) h.1 i)

pub clean_outer : (fs : List Frame) (f : Frame) (r : Rules) (at to : ℕ) → to ≡ at + length (before_all fs) → AreClosedClean r at (fs ++ f ∷ []) → AreClosedClean r at fs × Never (OfClosed r to f)
clean_outer [] f r at to e h = let g : at ≡ to = omega (arith, e) in (tt, subst (λ (k : ℕ). Never (OfClosed r k f)) g h.0)
clean_outer (g ∷ fs) f r at to e h =
    let i = clean_outer fs f r (at + length (before g)) to (omega (arith, e, length-append (before g) (before_all fs))) h.1 in
    ((h.0, i.0), i.1)

pub distinct_snoc : (fs : List Frame) (f : Frame) (r : Rules) (at to : ℕ) → to ≡ at + length (before_all fs) → AreOpenDistinct r at fs → AreDistinct r (open_keys to f) → AreOpenDistinct r at (fs ++ f ∷ [])
distinct_snoc [] f r at to e h i = let g : to ≡ at = omega (arith, e) in (subst (λ (k : ℕ). AreDistinct r (open_keys k f)) g i, tt)
distinct_snoc (g ∷ fs) f r at to e h i = (h.0, distinct_snoc fs f r (at + length (before g)) to (omega (arith, e, length-append (before g) (before_all fs))) h.1 i)

-- ---- a member, a key or a value ends

pub member_count : (a : Spellings) (s : Spelling) (m : ℕ) → spellings_count (with_all a (a_spelling s no_spellings)) + suc m ≡ spellings_count a + suc (suc m)
member_count a s m = omega (arith, count_with a (a_spelling s no_spellings))

pub pair_count : (a : SpelledEntries) (k v : Spelling) (m : ℕ) → entries_count (with_entries a (entry k v no_entries)) + suc m ≡ entries_count a + suc (suc m)
pair_count a k v m = omega (arith, entries_with a (entry k v no_entries))

-- a member: the next is expected
pub member_before : (w : Width) (a : Spellings) (s t : Spelling) (b : Spellings) → before (a_member w (with_all a (a_spelling s no_spellings)) b) ≡ before (a_member w a (a_spelling t b)) ++ spell s
member_before w a s t b = ap (λ (n : ℕ). array_bytes w n (with_all a (a_spelling s no_spellings))) (member_count a s (spellings_count b)) ∙ array_bytes-more w (spellings_count a + suc (suc (spellings_count b))) a s

pub member_clean : (w : Width) (a : Spellings) (s t : Spelling) (b : Spellings) (r : Rules) (at : ℕ) → Never (OfClosed r at (a_member w a (a_spelling t b)))
    → Never (Complains r (at + length (before (a_member w a (a_spelling t b)))) s) → Never (OfClosed r at (a_member w (with_all a (a_spelling s no_spellings)) b))
member_clean w a s t b r at clean none c h =
    let hd = head Array w (spellings_count a + suc (suc (spellings_count b))) in
    let g = rw (member_count a s (spellings_count b)) at h in
    elim g [
      | inl x ↦ clean c (inl x)
      | inr x ↦ elim (members_split a (a_spelling s no_spellings) r (OfKey r.keys) (at + length hd) (at + length (hd ++ spell_all a)) c (omega (arith, length-append hd (spell_all a))) x) [
        | inl y ↦ clean c (inr y)
        | inr (inl y) ↦ none c y
        | inr (inr y) ↦ absurd y
      ]
    ]

pub key_clean : (w : Width) (a : SpelledEntries) (k v : Spelling) (b : SpelledEntries) (r : Rules) (at : ℕ) → Never (OfClosed r at (a_key w a v b)) → Never (Complains r (at + length (before (a_key w a v b))) k)
    → Never (OfClosed r at (a_content w a k b))
key_clean w a k v b r at clean none c h = elim h [ inl x ↦ clean c (inl x) | inr (inl x) ↦ clean c (inr x) | inr (inr x) ↦ none c x ]

-- a value: the next key is expected, and the completed keys are as before
pub keys_with : (es fs : SpelledEntries) (at to : ℕ) → to ≡ at + length (spell_entries es) → keys_at at (with_entries es fs) ≡ keys_at at es ++ keys_at to fs
keys_with no_entries fs at to e = let g : at ≡ to = omega (arith, e) in ap (λ (n : ℕ). keys_at n fs) g
keys_with (entry k v es) fs at to e =
    ap (λ (xs : List Placed). placed at k ∷ xs)
    (keys_with es fs (at + length (spell k) + length (spell v)) to (omega (arith, e, length-append (spell k ++ spell v) (spell_entries es), length-append (spell k) (spell v))))

within_with : (es fs : SpelledEntries) (r : Rules) (at to : ℕ) (c : Complaint) → to ≡ at + length (spell_entries es) → ComplainsWithin r at (with_entries es fs) c → ComplainsWithin r at es c ⊎ ComplainsWithin r to fs c
within_with no_entries fs r at to c e h = let g : at ≡ to = omega (arith, e) in inr (subst (λ (n : ℕ). ComplainsWithin r n fs c) g h)
within_with (entry k v es) fs r at to c e (inl h) = inl (inl h)
within_with (entry k v es) fs r at to c e (inr (inl h)) = inl (inr (inl h))
within_with (entry k v es) fs r at to c e (inr (inr h)) =
    elim (within_with es fs r (at + length (spell k) + length (spell v)) to c (omega (arith, e, length-append (spell k ++ spell v) (spell_entries es), length-append (spell k) (spell v))) h) [ inl x ↦ inl (inr (inr x)) | inr x ↦ inr x ]

pub content_before : (w : Width) (a : SpelledEntries) (k v l m o : Spelling) (b : SpelledEntries) → before (a_key w (with_entries a (entry k v no_entries)) o b) ≡ before (a_content w a k (entry l m b)) ++ spell v
content_before w a k v l m o b =
    ap (λ (n : ℕ). map_bytes w n (with_entries a (entry k v no_entries))) (pair_count a k v (entries_count b)) ∙ map_bytes-more w (entries_count a + suc (suc (entries_count b))) a k v

pub content_keys : (w : Width) (a : SpelledEntries) (k v l m o : Spelling) (b : SpelledEntries) (at : ℕ) → open_keys at (a_key w (with_entries a (entry k v no_entries)) o b) ≡ open_keys at (a_content w a k (entry l m b))
content_keys w a k v l m o b at =
    let h = head Map w (entries_count a + suc (suc (entries_count b))) in
    ap (λ (n : ℕ). keys_at (at + length (head Map w n)) (with_entries a (entry k v no_entries))) (pair_count a k v (entries_count b))
    ∙ keys_with a (entry k v no_entries) (at + length h) (at + length (h ++ spell_entries a)) (omega (arith, length-append h (spell_entries a)))

pub content_clean : (w : Width) (a : SpelledEntries) (k v l m o : Spelling) (b : SpelledEntries) (r : Rules) (at : ℕ) → Never (OfClosed r at (a_content w a k (entry l m b)))
    → Never (Complains r (at + length (before (a_content w a k (entry l m b)))) v) → Never (OfClosed r at (a_key w (with_entries a (entry k v no_entries)) o b))
content_clean w a k v l m o b r at clean none c h =
    let hd = head Map w (entries_count a + suc (suc (entries_count b))) in
    let here = at + length (hd ++ spell_entries a) in
    let there : here + length (spell k) ≡ at + length (hd ++ spell_entries a ++ spell k) = omega (arith, length-append (hd ++ spell_entries a) (spell k)) in
    let g = rw (pair_count a k v (entries_count b)) at h in
    elim g [
      | inl x ↦ clean c (inl x)
      | inr x ↦ elim (within_with a (entry k v no_entries) r (at + length hd) here c (omega (arith, length-append hd (spell_entries a))) x) [
        | inl y ↦ clean c (inr (inl y))
        | inr (inl y) ↦ clean c (inr (inr y))
        | inr (inr (inl y)) ↦ none c (subst (λ (m : ℕ). Complains r m v c) there y)
        | inr (inr (inr y)) ↦ absurd y
      ]
    ]

-- ---- a container closes: it is one item, without complaint where its keys have none

-- with its last item complete, and nothing after it
closes : (f : Frame) (s : Spelling) (r : Rules) (at : ℕ) → Never (OfClosed r at f) → AreDistinct r (open_keys at f) → Never (Complains r (at + length (before f)) s)
    → Never (OfKeyAt r (at + length (before f)) f s) → Never (OfBack r (at + length (before f) + length (spell s)) f s) → Never (Complains r at (plug f s))
closes f s r at clean distinct none key back c h = elim (plug_split f s r (OfKey r.keys) at (at + length (before f)) c refl h) [
  | inl x ↦ elim (prefix_apart f r at c x) [ inl y ↦ clean c y | inr y ↦ distinct c y ]
  | inr (inl x) ↦ none c x
  | inr (inr (inl x)) ↦ key c x
  | inr (inr (inr x)) ↦ back c x
]

pub map_closes : (w : Width) (a : SpelledEntries) (k v : Spelling) (r : Rules) (at : ℕ) → Never (OfClosed r at (a_content w a k no_entries)) → AreDistinct r (open_keys at (a_content w a k no_entries))
    → Never (Complains r (at + length (before (a_content w a k no_entries))) v) → Never (Complains r at (plug (a_content w a k no_entries) v))
map_closes w a k v r at clean distinct none = closes (a_content w a k no_entries) v r at clean distinct none (λ c x. x) (λ c x. x)

pub array_closes : (w : Width) (a : Spellings) (s : Spelling) (r : Rules) (at : ℕ) → Never (OfClosed r at (a_member w a no_spellings))
    → Never (Complains r (at + length (before (a_member w a no_spellings))) s) → Never (Complains r at (plug (a_member w a no_spellings) s))
array_closes w a s r at clean none = closes (a_member w a no_spellings) s r at clean (λ c x. x) none (λ c x. x) (λ c x. x)

pub tag_closes : (w : Width) (n : ℕ) (s : Spelling) (r : Rules) (at : ℕ) → Never (OfClosed r at (tagged w n)) → Never (Complains r (at + length (before (tagged w n))) s) → Never (Complains r at (plug (tagged w n) s))
tag_closes w n s r at clean none = closes (tagged w n) s r at clean (λ c x. x) none (λ c x. x) (λ c x. x)

-- ---- what a reader keeps true of them

module _ (r : Rules) (depth_limit : ℕ) where
  -- ---- the innermost container

  pub none_open : AreOpen r depth_limit []
  none_open = record { left = depth_limit; levels = omega arith; path = tt; closed = tt }

  -- one opens, where there is a level for it
  pub opens : (fs : List Frame) (f : Frame) (d : ℕ) → AreOpen r depth_limit fs → suc (length fs + d) ≡ depth_limit → IsFrame f → depth_beside f ≤ d → Never (OfClosed r (length (before_all fs)) f)
      → AreOpen r depth_limit (fs ++ f ∷ [])
  opens fs f d o e h l clean =
      let space : o.left ≡ suc d = omega (arith, e, o.levels) in
      record {
        left = d;
        levels = omega (arith, e, length-append fs (f ∷ []));
        path = path_snoc fs f d (subst (λ (k : ℕ). ArePath k fs) space o.path) h l;
        closed = clean_snoc fs f r 0 (length (before_all fs)) (omega arith) o.closed clean;
      }

  -- it closes
  pub shuts : (fs : List Frame) (f : Frame) → AreOpen r depth_limit (fs ++ f ∷ []) → AreOpen r depth_limit fs
  shuts fs f o = record {
    left = suc o.left;
    levels = omega (arith, o.levels, length-append fs (f ∷ []));
    path = path_outer fs f o.left o.path;
    closed = (clean_outer fs f r 0 (length (before_all fs)) (omega arith) o.closed).0;
  }

  -- what is known of it
  pub record IsInnermost (at d : ℕ) (f : Frame) : Type 0 where
    pub fits : IsFrame f
    pub flat : depth_beside f ≤ d
    pub clean : Never (OfClosed r at f)

  last_fits : (fs : List Frame) (f : Frame) (d : ℕ) → ArePath d (fs ++ f ∷ []) → IsFrame f × (depth_beside f ≤ d)
  last_fits [] f d h = (h.0, omega (arith, h.1))
  last_fits (g ∷ fs) f d h = last_fits fs f d h.2

  pub innermost : (fs : List Frame) (f : Frame) (o : AreOpen r depth_limit (fs ++ f ∷ [])) → IsInnermost (length (before_all fs)) o.left f
  innermost fs f o =
      let l = last_fits fs f o.left o.path in
      record { fits = l.0; flat = l.1; clean = (clean_outer fs f r 0 (length (before_all fs)) (omega arith) o.closed).1 }

  -- it goes on
  pub goes_on : (fs : List Frame) (f g : Frame) (o : AreOpen r depth_limit (fs ++ f ∷ [])) → IsInnermost (length (before_all fs)) o.left g → AreOpen r depth_limit (fs ++ g ∷ [])
  goes_on fs f g o i = opens fs g o.left (shuts fs f o) (omega (arith, o.levels, length-append fs (f ∷ []))) i.fits i.flat i.clean

  -- ---- a container opens, with one member or pair at least to come

  pub array_opens : (fs : List Frame) (w : Width) (more d : ℕ) → AreOpen r depth_limit fs → suc (length fs + d) ≡ depth_limit → HoldsOrIndefinite w (suc more)
      → Never (OfCount r (length (before_all fs)) Array w (suc more)) → AreOpen r depth_limit (fs ++ a_member w no_spellings (zeros more) ∷ [])
  array_opens fs w more d o e h clean =
      let n : suc more ≡ 0 + suc (spellings_count (zeros more)) = omega (arith, zeros_count more) in
      opens fs (a_member w no_spellings (zeros more)) d o e (subst (HoldsOrIndefinite w) n h, tt, zeros_spelled more) (omega (arith, zeros_flat more))
      (λ c x. elim x [ inl y ↦ subst (λ (k : ℕ). Never (OfCount r (length (before_all fs)) Array w k)) n clean c y | inr y ↦ absurd y ])

  pub map_opens : (fs : List Frame) (w : Width) (more d : ℕ) → AreOpen r depth_limit fs → suc (length fs + d) ≡ depth_limit → HoldsOrIndefinite w (suc more)
      → Never (OfCount r (length (before_all fs)) Map w (suc more)) → AreOpen r depth_limit (fs ++ a_key w no_entries zero_item (zero_pairs more) ∷ [])
  map_opens fs w more d o e h clean =
      let n : suc more ≡ 0 + suc (entries_count (zero_pairs more)) = omega (arith, pairs_count more) in
      opens fs (a_key w no_entries zero_item (zero_pairs more)) d o e (subst (HoldsOrIndefinite w) n h, tt, zero_spelled, pairs_spelled more) (omega (arith, pairs_flat more))
      (λ c x. elim x [ inl y ↦ subst (λ (k : ℕ). Never (OfCount r (length (before_all fs)) Map w k)) n clean c y | inr y ↦ absurd y ])

  pub tag_opens : (fs : List Frame) (w : Width) (n d : ℕ) → AreOpen r depth_limit fs → suc (length fs + d) ≡ depth_limit → Holds w n → Never (OfHead r (length (before_all fs)) Tag w n)
      → AreOpen r depth_limit (fs ++ tagged w n ∷ [])
  tag_opens fs w n d o e h clean = opens fs (tagged w n) d o e h (omega arith) clean

  -- ---- a member, a key, a value ends

  pub member_ends : (fs : List Frame) (w : Width) (a : Spellings) (s t : Spelling) (b : Spellings) (o : AreOpen r depth_limit (fs ++ a_member w a (a_spelling t b) ∷ []))
      → IsSpelled s → depth s ≤ o.left → Never (Complains r (length (before_all fs) + length (before (a_member w a (a_spelling t b)))) s)
      → AreOpen r depth_limit (fs ++ a_member w (with_all a (a_spelling s no_spellings)) b ∷ [])
  member_ends fs w a s t b o h l none =
      let i = innermost fs (a_member w a (a_spelling t b)) o in
      goes_on fs (a_member w a (a_spelling t b)) (a_member w (with_all a (a_spelling s no_spellings)) b) o (record {
        fits = (subst (HoldsOrIndefinite w) (sym (member_count a s (spellings_count b))) i.fits.0, spelled_with a (a_spelling s no_spellings) i.fits.1 (h, tt), i.fits.2.1);
        flat = omega (arith, i.flat, l, depth_with a (a_spelling s no_spellings));
        clean = member_clean w a s t b r (length (before_all fs)) i.clean none;
      })

  pub key_ends : (fs : List Frame) (w : Width) (a : SpelledEntries) (k v : Spelling) (b : SpelledEntries) (o : AreOpen r depth_limit (fs ++ a_key w a v b ∷ []))
      → IsSpelled k → depth k ≤ o.left → Never (Complains r (length (before_all fs) + length (before (a_key w a v b))) k)
      → AreOpen r depth_limit (fs ++ a_content w a k b ∷ [])
  key_ends fs w a k v b o h l none =
      let i = innermost fs (a_key w a v b) o in
      goes_on fs (a_key w a v b) (a_content w a k b) o
      (record { fits = (i.fits.0, i.fits.1, h, i.fits.3); flat = omega (arith, i.flat, l); clean = key_clean w a k v b r (length (before_all fs)) i.clean none })

  pub content_ends : (fs : List Frame) (w : Width) (a : SpelledEntries) (k v l m : Spelling) (b : SpelledEntries) (o : AreOpen r depth_limit (fs ++ a_content w a k (entry l m b) ∷ []))
      → IsSpelled v → depth v ≤ o.left → Never (Complains r (length (before_all fs) + length (before (a_content w a k (entry l m b)))) v)
      → AreOpen r depth_limit (fs ++ a_key w (with_entries a (entry k v no_entries)) m b ∷ [])
  content_ends fs w a k v l m b o h low none =
      let i = innermost fs (a_content w a k (entry l m b)) o in
      goes_on fs (a_content w a k (entry l m b)) (a_key w (with_entries a (entry k v no_entries)) m b) o (record {
        fits = (subst (HoldsOrIndefinite w) (sym (pair_count a k v (entries_count b))) i.fits.0, spelled_entries_with a (entry k v no_entries) i.fits.1 (i.fits.2, h, tt), i.fits.3.1, i.fits.3.2);
        flat = omega (arith, i.flat, low, depth_entries_with a (entry k v no_entries));
        clean = content_clean w a k v l m m b r (length (before_all fs)) i.clean none;
      })
