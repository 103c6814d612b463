-- An item that starts as an open container does is one with its first members.
use Rattle.std.proofs.Common.{◌≡◌, ◌≢◌, ℕ, suc, ◌+◌, List, ◌++◌, length, refl, sym, ap, ◌∙◌, subst, arith, append_assoc}
use Rattle.cbor_head.specs.Prelude.{head, Spelling, Spellings, SpelledEntries, array, a_map, no_spellings, a_spelling, no_entries, entry, spell, spell_all, spell_entries, spellings_count, entries_count, break_of, IsSpelled, AreSpelled, AreEntriesSpelled}
use Rattle.cbor_head.specs.declared.major.Major.TheVariants.{Array, Map, Tag}
use Rattle.cbor_head.{specs.declared.width.Width.Width, specs.declared.width.Width.TheVariants.Indefinite, proofs.HeadLaws.reported}
use Rattle.theory_values.proofs.Parts.{major, width, count, head_of, body, parts, holds_of, one_head, as_array, as_map, as_tag}
use Rattle.theory_values.proofs.ReadLaws.{unique, holds_or_open}
use Rattle.theory_verdicts.specs.Frame.{Frame, a_member, a_key, a_content, tagged, with_all, with_entries, plug, before, following, IsFrame}
use Rattle.cbor_strict.{specs.inner.LastKeys.HasLength, proofs.FrameCounts.around, proofs.FrameCounts.one_map}

-- ---- an item that starts as a container does

reported_is : (w : Width) (n i : ℕ) → w ≢ Indefinite → reported w n ≡ reported w i → n ≡ i
reported_is Indefinite n i f e = absurd (f refl)
reported_is _ n i f e = e

-- members that start with these, with n more after the next
record MembersStart (a ss : Spellings) (y rest : List ℕ) (m : ℕ) : Type 0 where
  item : Spelling
  others : Spellings
  are : ss ≡ with_all a (a_spelling item others)
  spelled : IsSpelled item
  counts : spellings_count others ≡ m
  bytes_are : spell item ++ (spell_all others ++ y) ≡ rest

members_start : (a ss : Spellings) (y rest : List ℕ) (m : ℕ) → AreSpelled a → AreSpelled ss → spellings_count ss ≡ spellings_count a + suc m → spell_all ss ++ y ≡ spell_all a ++ rest → MembersStart a ss y rest m
members_start no_spellings (a_spelling s ss) y rest m h i c e =
    record { item = s; others = ss; are = refl; spelled = i.0; counts = omega (arith, c); bytes_are = sym (append_assoc (spell s) (spell_all ss) y) ∙ e }
members_start (a_spelling t a) (a_spelling s ss) y rest m h i c e =
    let u = unique s t i.0 h.0 (spell_all ss ++ y) (spell_all a ++ rest) (sym (append_assoc (spell s) (spell_all ss) y) ∙ e ∙ append_assoc (spell t) (spell_all a) rest) in
    let k = members_start a ss y rest m h.1 i.1 (omega (arith, c)) u.1 in
    record { item = k.item; others = k.others; are = ap (λ (x : Spelling). a_spelling x ss) u.0 ∙ ap (λ (x : Spellings). a_spelling t x) k.are; spelled = k.spelled; counts = k.counts; bytes_are = k.bytes_are }
members_start _ no_spellings y rest m h i c e = absurd (omega (arith, c))

record EntriesStart (a es : SpelledEntries) (y rest : List ℕ) (m : ℕ) : Type 0 where
  key : Spelling
  value : Spelling
  others : SpelledEntries
  are : es ≡ with_entries a (entry key value others)
  spelled : IsSpelled key × IsSpelled value
  counts : entries_count others ≡ m
  bytes_are : spell key ++ (spell value ++ (spell_entries others ++ y)) ≡ rest

pair_apart : (k v c d : List ℕ) → ((k ++ v) ++ c) ++ d ≡ k ++ (v ++ (c ++ d))
pair_apart k v c d = append_assoc (k ++ v) c d ∙ append_assoc k v (c ++ d)

entries_start : (a es : SpelledEntries) (y rest : List ℕ) (m : ℕ) → AreEntriesSpelled a → AreEntriesSpelled es → entries_count es ≡ entries_count a + suc m → spell_entries es ++ y ≡ spell_entries a ++ rest → EntriesStart a es y rest m
entries_start no_entries (entry k v es) y rest m h i c e =
    record { key = k; value = v; others = es; are = refl; spelled = (i.0, i.1); counts = omega (arith, c); bytes_are = sym (pair_apart (spell k) (spell v) (spell_entries es) y) ∙ e }
entries_start (entry j u a) (entry k v es) y rest m h i c e =
    let x = unique k j i.0 h.0 (spell v ++ (spell_entries es ++ y)) (spell u ++ (spell_entries a ++ rest)) (sym (pair_apart (spell k) (spell v) (spell_entries es) y) ∙ e ∙ pair_apart (spell j) (spell u) (spell_entries a) rest) in
    let z = unique v u i.1 h.1 (spell_entries es ++ y) (spell_entries a ++ rest) x.1 in
    let o = entries_start a es y rest m h.2 i.2 (omega (arith, c)) z.1 in
    record {
      key = o.key;
      value = o.value;
      others = o.others;
      are = ap (λ (q : Spelling). entry q v es) x.0 ∙ ap (λ (q : Spelling). entry j q es) z.0 ∙ ap (λ (q : SpelledEntries). entry j u q) o.are;
      spelled = o.spelled;
      counts = o.counts;
      bytes_are = o.bytes_are;
    }
entries_start _ no_entries y rest m h i c e = absurd (omega (arith, c))

-- the same container, with its last items unknown
pub record StartsIn (f : Frame) (s : Spelling) (x rest : List ℕ) : Type 0 where
  pub frame : Frame
  pub item : Spelling
  pub is : s ≡ plug frame item
  pub size : length (before frame) ≡ length (before f)
  pub maps : one_map frame ≡ one_map f
  pub keys : (n k : ℕ) → around frame n k ≡ around f n k
  pub spelled : IsSpelled item
  pub bytes_are : spell item ++ (following frame ++ x) ≡ rest

pub starts_in : (f : Frame) (s : Spelling) (x rest : List ℕ) → IsFrame f → HasLength f → IsSpelled s → spell s ++ x ≡ before f ++ rest → StartsIn f s x rest
starts_in (a_member w a b) s x rest h l i e =
    let n = spellings_count a + suc (spellings_count b) in
    let o = one_head Array w n (major s) (width s) (count s) h.0 (holds_of s i) (spell_all a ++ rest) (body s ++ x)
    (sym (append_assoc (head Array w n) (spell_all a) rest) ∙ sym e ∙ ap (λ (y : List ℕ). y ++ x) (parts s) ∙ append_assoc (head_of s) (body s) x) in
    let v = as_array s w n o.0 in
    let here : AreSpelled v.0 = (subst IsSpelled v.1 i).1 in
    let m = members_start a v.0 (break_of w ++ x) rest (spellings_count b) h.1 here (sym (reported_is w n (spellings_count v.0) l v.2))
    (sym (append_assoc (spell_all v.0) (break_of w) x) ∙ ap (λ (t : Spelling). body t ++ x) (sym v.1) ∙ sym o.1) in
    record {
      frame = a_member w a m.others;
      item = m.item;
      is = v.1 ∙ ap (λ (y : Spellings). array w y) m.are;
      size = ap (λ (y : ℕ). length (head Array w (spellings_count a + suc y) ++ spell_all a)) m.counts;
      maps = refl;
      keys = λ n k. refl;
      spelled = m.spelled;
      bytes_are = ap (λ (y : List ℕ). spell m.item ++ y) (append_assoc (spell_all m.others) (break_of w) x) ∙ m.bytes_are;
    }
starts_in (a_key w a v b) s x rest h l i e =
    let n = entries_count a + suc (entries_count b) in
    let o = one_head Map w n (major s) (width s) (count s) h.0 (holds_of s i) (spell_entries a ++ rest) (body s ++ x)
    (sym (append_assoc (head Map w n) (spell_entries a) rest) ∙ sym e ∙ ap (λ (y : List ℕ). y ++ x) (parts s) ∙ append_assoc (head_of s) (body s) x) in
    let z = as_map s w n o.0 in
    let here : AreEntriesSpelled z.0 = (subst IsSpelled z.1 i).1 in
    let m = entries_start a z.0 (break_of w ++ x) rest (entries_count b) h.1 here (sym (reported_is w n (entries_count z.0) l z.2))
    (sym (append_assoc (spell_entries z.0) (break_of w) x) ∙ ap (λ (t : Spelling). body t ++ x) (sym z.1) ∙ sym o.1) in
    record {
      frame = a_key w a m.value m.others;
      item = m.key;
      is = z.1 ∙ ap (λ (y : SpelledEntries). a_map w y) m.are;
      size = ap (λ (y : ℕ). length (head Map w (entries_count a + suc y) ++ spell_entries a)) m.counts;
      maps = refl;
      keys = λ n k. refl;
      spelled = m.spelled.0;
      bytes_are = ap (λ (y : List ℕ). spell m.key ++ y) (pair_apart (spell m.value) (spell_entries m.others) (break_of w) x) ∙ m.bytes_are;
    }
starts_in (a_content w a k b) s x rest h l i e =
    let n = entries_count a + suc (entries_count b) in
    let o = one_head Map w n (major s) (width s) (count s) h.0 (holds_of s i) (spell_entries a ++ (spell k ++ rest)) (body s ++ x)
    (sym (append_assoc (head Map w n) (spell_entries a) (spell k ++ rest)) ∙ sym (append_assoc (head Map w n ++ spell_entries a) (spell k) rest) ∙ sym e ∙ ap (λ (y : List ℕ). y ++ x) (parts s) ∙ append_assoc (head_of s) (body s) x) in
    let z = as_map s w n o.0 in
    let here : AreEntriesSpelled z.0 = (subst IsSpelled z.1 i).1 in
    let m = entries_start a z.0 (break_of w ++ x) (spell k ++ rest) (entries_count b) h.1 here (sym (reported_is w n (entries_count z.0) l z.2))
    (sym (append_assoc (spell_entries z.0) (break_of w) x) ∙ ap (λ (t : Spelling). body t ++ x) (sym z.1) ∙ sym o.1) in
    let u = unique m.key k m.spelled.0 h.2 (spell m.value ++ (spell_entries m.others ++ (break_of w ++ x))) rest m.bytes_are in
    record {
      frame = a_content w a k m.others;
      item = m.value;
      is = z.1 ∙ ap (λ (y : SpelledEntries). a_map w y) m.are ∙ ap (λ (y : Spelling). a_map w (with_entries a (entry y m.value m.others))) u.0;
      size = ap (λ (y : ℕ). length (head Map w (entries_count a + suc y) ++ spell_entries a ++ spell k)) m.counts;
      maps = refl;
      keys = λ n k. refl;
      spelled = m.spelled.1;
      bytes_are = ap (λ (y : List ℕ). spell m.value ++ y) (append_assoc (spell_entries m.others) (break_of w) x) ∙ u.1;
    }
starts_in (tagged w n) s x rest h l i e =
    let o = one_head Tag w n (major s) (width s) (count s) (holds_or_open w n h) (holds_of s i) rest (body s ++ x)
    (sym e ∙ ap (λ (y : List ℕ). y ++ x) (parts s) ∙ append_assoc (head_of s) (body s) x) in
    let z = as_tag s w n i h o.0 in
    record {
      frame = tagged w n;
      item = z.0;
      is = z.1;
      size = refl;
      maps = refl;
      keys = λ n k. refl;
      spelled = (subst IsSpelled z.1 i).1;
      bytes_are = ap (λ (t : Spelling). body t ++ x) (sym z.1) ∙ sym o.1;
    }
