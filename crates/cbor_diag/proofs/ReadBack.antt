-- A text in either layout is read back as its value, up to its end.
use Rattle.std.proofs.Common.{◌≡◌, ℕ, zero, suc, ◌+◌, ◌*◌, ◌<◌, Bool, true, false, List, [], ◌∷◌, ◌++◌, drop, replicate, flat_map, codes, decimal, inl, inr, eqb, refl, sym, ap, ◌∙◌, subst, append_assoc, ◌↔◌, arith}
use Rattle.std.proofs.lemmas.Bool.{cond-false}
use Rattle.hex.specs.Hex.{encode_lower}
use Rattle.cbor_head.specs.Value as value
use Rattle.cbor_head.specs.Prelude.{Value, Values, Entries, IsInRange, AreInRange, AreEntriesInRange}
use Rattle.cbor_diag.specs.inner.Layout.{gap, end, laid_out, laid_pairs, laid_texts, rows}
use Rattle.cbor_diag.proofs.Reading.{rest, Pass, FirstFails, rest-all, first}
use Rattle.cbor_diag.proofs.ReadLeaves.{Begins, Read, begins, blank, bytes-back, closes, closes-pairs, got, negative-back, read, read_members, read_pairs, simple-back, size, size_all, size_entries, tag-back, tag_joined, text-back, unsigned-back, with-key, with-value}
use Rattle.cbor_diag.specs.{Text.text, Text.escaped, IndentedText.new_line, IndentedText.indented, Follows.Ends, declared.layout.Layout.Layout}
use Rattle.cbor_diag.specs.declared.layout.Layout.TheVariants.{OneLine, Indented}
use Rattle.cbor_diag.proofs.Layouts.{one-line, on-lines}

-- ---- between members

blanks : (n : ℕ) → Pass blank (replicate n 32)
blanks zero = tt
blanks (suc n) = (refl, blanks n)

member_joined : (g t r x : List ℕ) → ((g ++ t) ++ r) ++ x ≡ g ++ (t ++ (r ++ x))
member_joined g t r x = append_assoc (g ++ t) r x ∙ append_assoc g t (r ++ x)

pair_joined : (g s c t r x : List ℕ) → ((g ++ ((s ++ c) ++ t)) ++ r) ++ x ≡ g ++ (s ++ (c ++ (t ++ (r ++ x))))
pair_joined g s c t r x = simp append_assoc

blank-line : (level : ℕ) → Pass blank (new_line level)
blank-line level = (refl, blanks (2 * level))

blank-gap : (l : Layout) (level : ℕ) (b : Bool) → Pass blank (gap l level b)
blank-gap OneLine level true = tt
blank-gap OneLine level false = (refl, (refl, tt))
blank-gap Indented level true = blank-line (level + 1)
blank-gap Indented level false = (refl, blank-line (level + 1))

blank-end : (l : Layout) (level : ℕ) (b : Bool) → Pass blank (end l level b)
blank-end Indented level false = blank-line level
blank-end _ level _ = tt

gap-ends : (l : Layout) (level : ℕ) (xs : List ℕ) → Ends (gap l level false ++ xs)
gap-ends OneLine level xs = (inl (omega arith), λ e. absurd (omega arith))
gap-ends Indented level xs = (inl (omega arith), λ e. absurd (omega arith))

end-ends : (l : Layout) (level : ℕ) (c : ℕ) (xs : List ℕ) → 57 < c → Ends (end l level false ++ c ∷ xs)
end-ends OneLine level c xs h = (inr h, λ e. absurd (omega arith))
end-ends Indented level c xs h = (inl (omega arith), λ e. absurd (omega arith))

rows-ends : (l : Layout) (level c : ℕ) (ts : List (List ℕ)) (xs : List ℕ) → 57 < c → Ends (rows l level false ts ++ c ∷ xs)
rows-ends l level c [] xs h = end-ends l level c xs h
rows-ends l level c (t ∷ ts) xs h =
    subst Ends (sym (member_joined (gap l level false) t (rows l level false ts) (c ∷ xs))) (gap-ends l level (t ++ (rows l level false ts ++ c ∷ xs)))

-- what follows blanks
skipped : (gs cs : List ℕ) → Pass blank gs → (b : Begins cs) → rest blank (gs ++ cs) ≡ cs
skipped gs cs h b = rest-all blank gs cs h (subst (FirstFails blank) (sym b.is) b.no_blank)

no-more : (k : ℕ) (gs x : List ℕ) → Pass blank gs → read_members (suc k) (gs ++ 93 ∷ x) ≡ (value.no_values, x)
no-more k gs x h = ap (closes k) (rest-all blank gs (93 ∷ x) h refl)

no-more-pairs : (k : ℕ) (gs x : List ℕ) → Pass blank gs → read_pairs (suc k) (gs ++ 125 ∷ x) ≡ (value.no_entries, x)
no-more-pairs k gs x h = ap (closes-pairs k) (rest-all blank gs (125 ∷ x) h refl)

one-more : (k : ℕ) (gs : List ℕ) (v : Value) (vs : Values) (cs others x : List ℕ) → Pass blank gs → Begins cs → read k cs ≡ (v, others) → read_members k others ≡ (vs, x)
    → read_members (suc k) (gs ++ cs) ≡ (value.a_value v vs, x)
one-more k gs v vs cs others x h b one more =
    ap (closes k) (skipped gs cs h b)
    ∙ cond-false {A = Values × List ℕ} (eqb (first cs) 93) (value.no_values, drop 1 cs) (value.a_value (read k cs).0 (read_members k (read k cs).1).0, (read_members k (read k cs).1).1)
    (ap (λ (l : List ℕ). eqb (first l) 93) b.is ∙ b.no_array_end)
    ∙ ap (λ (r : Read). got (value.a_value r.0 (read_members k r.1).0) (read_members k r.1).1) one
    ∙ ap (λ (r : Values × List ℕ). got (value.a_value v r.0) r.1) more

one-more-pair : (k : ℕ) (gs : List ℕ) (key v : Value) (es : Entries) (cs ds others x : List ℕ) → Pass blank gs → Begins cs → read k cs ≡ (key, codes ": " ++ ds) → read k ds ≡ (v, others)
    → read_pairs k others ≡ (es, x) → read_pairs (suc k) (gs ++ cs) ≡ (value.entry key v es, x)
one-more-pair k gs key v es cs ds others x h b one two more =
    ap (closes-pairs k) (skipped gs cs h b)
    ∙ cond-false {A = Entries × List ℕ} (eqb (first cs) 125) (value.no_entries, drop 1 cs) (with-key k (read k cs)) (ap (λ (l : List ℕ). eqb (first l) 125) b.is ∙ b.no_map_end)
    ∙ ap (with-key k) one
    ∙ ap (with-value k key) two
    ∙ ap (λ (r : Entries × List ℕ). got (value.entry key v r.0) r.1) more

-- ---- all values

mutual
  back : (l : Layout) (level : ℕ) (v : Value) (k : ℕ) (x : List ℕ) → IsInRange v → size v < k → Ends x → read k (laid_out l level v ++ x) ≡ (v, x)
  back l level v zero x h s e = absurd (omega arith)
  back l level (value.unsigned n) (suc k) x h s e = unsigned-back k n x h e
  back l level (value.negative n) (suc k) x h s e = negative-back k n x h e
  back l level (value.bytes bs) (suc k) x h s e = ap (λ (t : List ℕ). read (suc k) (104 ∷ 39 ∷ t)) (append_assoc (encode_lower bs) (codes "'") x) ∙ bytes-back k bs x h.1
  back l level (value.text bs) (suc k) x h s e = ap (λ (t : List ℕ). read (suc k) (34 ∷ t)) (append_assoc (flat_map escaped bs) (codes "\"") x) ∙ text-back k bs x h.1
  back l level (value.array vs) (suc k) x h s e =
      ap (λ (t : List ℕ). read (suc k) (91 ∷ t)) (append_assoc (rows l level true (laid_texts l (level + 1) vs)) (codes "]") x)
      ∙ ap (λ (r : Values × List ℕ). got (value.array r.0) r.1) (members-back l level true vs k x h.1 (omega arith))
  back l level (value.map es) (suc k) x h s e =
      ap (λ (t : List ℕ). read (suc k) (123 ∷ t)) (append_assoc (rows l level true (laid_pairs l (level + 1) es)) (codes "}") x)
      ∙ ap (λ (r : Entries × List ℕ). got (value.map r.0) r.1) (pairs-back l level true es k x h.1 (omega arith))
  back l level (value.tag n v) (suc k) x h s e =
      ap (read (suc k)) (tag_joined (decimal n) (laid_out l level v) x)
      ∙ tag-back k n v (laid_out l level v) x h.0 (back l level v k (41 ∷ x) h.1 (omega arith) (inl (omega arith), λ f. absurd (omega arith)))
  back l level (value.simple n) (suc k) x h s e = simple-back k n x (omega (arith, h.0))

  members-back : (l : Layout) (level : ℕ) (b : Bool) (vs : Values) (k : ℕ) (x : List ℕ) → AreInRange vs → size_all vs < k → read_members k (rows l level b (laid_texts l (level + 1) vs) ++ 93 ∷ x) ≡ (vs, x)
  members-back l level b vs zero x h s = absurd (omega arith)
  members-back l level b value.no_values (suc k) x h s = no-more k (end l level b) x (blank-end l level b)
  members-back l level b (value.a_value v vs) (suc k) x h s =
      let t = laid_out l (level + 1) v in
      let others = rows l level false (laid_texts l (level + 1) vs) ++ 93 ∷ x in
      ap (read_members (suc k)) (member_joined (gap l level b) t (rows l level false (laid_texts l (level + 1) vs)) (93 ∷ x))
      ∙ one-more k (gap l level b) v vs (t ++ others) others x (blank-gap l level b) (begins l (level + 1) v h.0 others)
      (back l (level + 1) v k others h.0 (omega arith) (rows-ends l level 93 (laid_texts l (level + 1) vs) x (omega arith))) (members-back l level false vs k x h.1 (omega arith))

  pairs-back : (l : Layout) (level : ℕ) (b : Bool) (es : Entries) (k : ℕ) (x : List ℕ) → AreEntriesInRange es → size_entries es < k → read_pairs k (rows l level b (laid_pairs l (level + 1) es) ++ 125 ∷ x) ≡ (es, x)
  pairs-back l level b es zero x h s = absurd (omega arith)
  pairs-back l level b value.no_entries (suc k) x h s = no-more-pairs k (end l level b) x (blank-end l level b)
  pairs-back l level b (value.entry key v es) (suc k) x h s =
      let t = laid_out l (level + 1) key in
      let u = laid_out l (level + 1) v in
      let others = rows l level false (laid_pairs l (level + 1) es) ++ 125 ∷ x in
      ap (read_pairs (suc k)) (pair_joined (gap l level b) t (codes ": ") u (rows l level false (laid_pairs l (level + 1) es)) (125 ∷ x))
      ∙ one-more-pair k (gap l level b) key v es (t ++ (codes ": " ++ (u ++ others))) (u ++ others) others x (blank-gap l level b) (begins l (level + 1) key h.0 (codes ": " ++ (u ++ others)))
      (back l (level + 1) key k (codes ": " ++ (u ++ others)) h.0 (omega arith) (inr (omega arith), λ f. absurd (omega arith)))
      (back l (level + 1) v k others h.1 (omega arith) (rows-ends l level 125 (laid_pairs l (level + 1) es) x (omega arith))) (pairs-back l level false es k x h.2 (omega arith))

-- texts in any layouts with rests that are equal are of the same value, and the rests are equal
pub reported : (l m : Layout) (i j : ℕ) (v w : Value) (x y : List ℕ) → IsInRange v → IsInRange w → Ends x → Ends y → laid_out l i v ++ x ≡ laid_out m j w ++ y → (v ≡ w) × (x ≡ y)
reported l m i j v w x y h g e f is =
    let same : ◌≡◌ {A = Read} (v, x) (w, y) =
    sym (back l i v (suc (size v + size w)) x h (omega arith) e) ∙ ap (read (suc (size v + size w))) is ∙ back m j w (suc (size v + size w)) y g (omega arith) f in
    (ap (λ (r : Read). r.0) same, ap (λ (r : Read). r.1) same)

-- ---- the two texts

pub reported-line : (v w : Value) (x y : List ℕ) → IsInRange v → IsInRange w → Ends x → Ends y → text v ++ x ≡ text w ++ y → (v ≡ w) × (x ≡ y)
reported-line v w x y h g e f is =
    reported OneLine OneLine 0 0 v w x y h g e f (ap (λ (l : List ℕ). l ++ x) (one-line v 0) ∙ is ∙ sym (ap (λ (l : List ℕ). l ++ y) (one-line w 0)))

pub equal-line : (v w : Value) → IsInRange v → IsInRange w → text v ≡ text w ↔ v ≡ w
equal-line v w h g = ((λ e. (reported-line v w [] [] h g tt tt (ap (λ (l : List ℕ). l ++ []) e)).0), ap text)

pub reported-lines : (i j : ℕ) (v w : Value) (x y : List ℕ) → IsInRange v → IsInRange w → Ends x → Ends y → indented i v ++ x ≡ indented j w ++ y → (v ≡ w) × (x ≡ y)
reported-lines i j v w x y h g e f is =
    reported Indented Indented i j v w x y h g e f (ap (λ (l : List ℕ). l ++ x) (on-lines v i) ∙ is ∙ sym (ap (λ (l : List ℕ). l ++ y) (on-lines w j)))

pub equal-lines : (i : ℕ) (v w : Value) → IsInRange v → IsInRange w → indented i v ≡ indented i w ↔ v ≡ w
equal-lines i v w h g = ((λ e. (reported-lines i i v w [] [] h g tt tt (ap (λ (l : List ℕ). l ++ []) e)).0), ap (indented i))
