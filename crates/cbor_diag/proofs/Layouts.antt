-- Text as it is written is text as it is defined.
use Rattle.std.proofs.Common.{◌≡◌, ℕ, ◌+◌, true, false, List, [], ◌∷◌, ◌++◌, flat_map, codes, decimal, refl, sym, ap, ◌∙◌, append_assoc}
use Rattle.cbor_head.specs.Value as value
use Rattle.cbor_head.specs.Prelude.{Value, Values, Entries}
use Rattle.cbor_diag.specs.Text.{text, texts, pair_texts, joined}
use Rattle.cbor_diag.specs.IndentedText.{new_line, lines, indented, indented_texts, indented_pairs}
use Rattle.cbor_diag.specs.inner.Layout.{laid_out, laid_pairs, laid_texts, rows, shown}
use Rattle.cbor_diag.specs.declared.layout.Layout.{Layout, TheVariants.OneLine, TheVariants.Indented}

-- ---- on one line

later-line : (n : ℕ) (ts : List (List ℕ)) → rows OneLine n false ts ≡ flat_map (λ (u : List ℕ). codes ", " ++ u) ts
later-line n [] = refl
later-line n (t ∷ ts) = ap (λ (l : List ℕ). (codes ", " ++ t) ++ l) (later-line n ts)

rows-line : (n : ℕ) (ts : List (List ℕ)) → rows OneLine n true ts ≡ joined ts
rows-line n [] = refl
rows-line n (t ∷ ts) = ap (λ (l : List ℕ). t ++ l) (later-line n ts)

mutual
  pub one-line : (v : Value) (n : ℕ) → laid_out OneLine n v ≡ text v
  one-line (value.array vs) n = ap (λ (l : List ℕ). codes "[" ++ l ++ codes "]") (rows-line n (laid_texts OneLine (n + 1) vs) ∙ ap joined (line-texts vs (n + 1)))
  one-line (value.map es) n = ap (λ (l : List ℕ). codes "{" ++ l ++ codes "}") (rows-line n (laid_pairs OneLine (n + 1) es) ∙ ap joined (line-pairs es (n + 1)))
  one-line (value.tag m v) n = ap (λ (l : List ℕ). decimal m ++ codes "(" ++ l ++ codes ")") (one-line v n)
  one-line _ n = refl

  line-texts : (vs : Values) (n : ℕ) → laid_texts OneLine n vs ≡ texts vs
  line-texts value.no_values n = refl
  line-texts (value.a_value v vs) n = λ i. one-line v n i ∷ line-texts vs n i

  line-pairs : (es : Entries) (n : ℕ) → laid_pairs OneLine n es ≡ pair_texts es
  line-pairs value.no_entries n = refl
  line-pairs (value.entry k v es) n = λ i. (one-line k n i ++ codes ": " ++ one-line v n i) ∷ line-pairs es n i

-- ---- one member or pair a line

abbrev below : ℕ → List ℕ → List ℕ
below n u = codes "," ++ new_line (n + 1) ++ u

later-lines : (n : ℕ) (ts : List (List ℕ)) → rows Indented n false ts ≡ flat_map (below n) ts ++ new_line n
later-lines n [] = refl
later-lines n (t ∷ ts) = ap (λ (l : List ℕ). below n t ++ l) (later-lines n ts) ∙ sym (append_assoc (below n t) (flat_map (below n) ts) (new_line n))

rows-lines : (n : ℕ) (ts : List (List ℕ)) → rows Indented n true ts ≡ lines n ts
rows-lines n [] = refl
rows-lines n (t ∷ ts) =
    ap (λ (l : List ℕ). (new_line (n + 1) ++ t) ++ l) (later-lines n ts) ∙ sym (append_assoc (new_line (n + 1) ++ t) (flat_map (below n) ts) (new_line n))

mutual
  pub on-lines : (v : Value) (n : ℕ) → laid_out Indented n v ≡ indented n v
  on-lines (value.array vs) n = ap (λ (l : List ℕ). codes "[" ++ l ++ codes "]") (rows-lines n (laid_texts Indented (n + 1) vs) ∙ ap (lines n) (lines-texts vs (n + 1)))
  on-lines (value.map es) n = ap (λ (l : List ℕ). codes "{" ++ l ++ codes "}") (rows-lines n (laid_pairs Indented (n + 1) es) ∙ ap (lines n) (lines-pairs es (n + 1)))
  on-lines (value.tag m v) n = ap (λ (l : List ℕ). decimal m ++ codes "(" ++ l ++ codes ")") (on-lines v n)
  on-lines _ n = refl

  lines-texts : (vs : Values) (n : ℕ) → laid_texts Indented n vs ≡ indented_texts n vs
  lines-texts value.no_values n = refl
  lines-texts (value.a_value v vs) n = λ i. on-lines v n i ∷ lines-texts vs n i

  lines-pairs : (es : Entries) (n : ℕ) → laid_pairs Indented n es ≡ indented_pairs n es
  lines-pairs value.no_entries n = refl
  lines-pairs (value.entry k v es) n = λ i. (on-lines k n i ++ codes ": " ++ on-lines v n i) ∷ lines-pairs es n i

-- in either layout
pub laid : (l : Layout) (v : Value) → laid_out l 0 v ≡ shown l v
laid OneLine v = one-line v 0
laid Indented v = on-lines v 0
