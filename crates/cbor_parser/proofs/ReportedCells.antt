-- The open map that is reported, among the cells.
use Rattle.std.proofs.Common.{◌≡◌, ℕ, zero, suc, ◌+◌, ◌<◌, ◌≤◌, Bool, true, false, Some, List, [], ◌∷◌, ◌++◌, length, take, drop, get_or, refl, sym, ap, ◌∙◌, arith, append_assoc, reverse, take_all, take-append-drop}
use Rattle.std.proofs.lemmas.List.{reverse-append, reverse-reverse, take_more, drop_more}
use Rattle.cbor_parser.specs.{Expected.pairs, inner.OpenMaps.map_cells, inner.OpenMaps.counts_one, inner.OpenContainer.Cell}

counts_add : (b : Bool) (m n : ℕ) → counts_one b (m + n) ≡ counts_one b m + n
counts_add true m n = omega arith
counts_add false m n = refl

counts_same : (b : Bool) (m n : ℕ) → counts_one b m ≡ counts_one b n → m ≡ n
counts_same true m n e = omega (arith, e)
counts_same false m n e = e

pub maps_append : (xs ys : List Cell) → map_cells (xs ++ ys) ≡ map_cells xs + map_cells ys
maps_append [] ys = omega arith
maps_append (x ∷ xs) ys = ap (counts_one (pairs x.expected)) (maps_append xs ys) ∙ counts_add (pairs x.expected) (map_cells xs) (map_cells ys)

maps_reverse : (xs : List Cell) → map_cells (reverse xs) ≡ map_cells xs
maps_reverse [] = refl
maps_reverse (x ∷ xs) =
    ap map_cells (reverse-append (x ∷ []) xs) ∙ maps_append (reverse xs) (x ∷ []) ∙ ap (λ (n : ℕ). n + map_cells (x ∷ [])) (maps_reverse xs) ∙ last (pairs x.expected) (map_cells xs)
  where
    last : (b : Bool) (n : ℕ) → n + counts_one b 0 ≡ counts_one b n
    last true n = omega arith
    last false n = omega arith

-- two maps with as many before them are one
pub one_map : (a b : List Cell) (x y : Cell) (more rest : List Cell) → a ++ x ∷ more ≡ b ++ y ∷ rest → pairs x.expected ≡ true → pairs y.expected ≡ true → map_cells a ≡ map_cells b → x ≡ y
one_map [] [] x y more rest e f g n = cc e
one_map [] (z ∷ b) x y more rest e f g n =
    let same : x ≡ z = cc e in
    absurd (omega (arith, n ∙ ap (λ (t : Bool). counts_one t (map_cells b)) (ap (λ (c : Cell). pairs c.expected) (sym same) ∙ f)))
one_map (z ∷ a) [] x y more rest e f g n =
    let same : z ≡ y = cc e in
    absurd (omega (arith, sym n ∙ ap (λ (t : Bool). counts_one t (map_cells a)) (ap (λ (c : Cell). pairs c.expected) same ∙ g)))
one_map (z ∷ a) (w ∷ b) x y more rest e f g n =
    let same : z ≡ w = cc e in
    let tails : a ++ x ∷ more ≡ b ++ y ∷ rest = cc e in
    one_map a b x y more rest tails f g (counts_same (pairs z.expected) (map_cells a) (map_cells b) (n ∙ ap (λ (c : Cell). counts_one (pairs c.expected) (map_cells b)) (sym same)))

none_left : (left : ℕ) (b : Bool) → (left ≡ 0 → b ≡ false) → left < counts_one b 0 → ⊥
none_left left false f l = omega (arith, l)
none_left zero true f l = absurd (cc (f refl))
none_left (suc n) true f l = omega (arith, l)

-- after the cell at this index
pub maps_more : (xs : List Cell) (i : ℕ) (d : Cell) (b : Bool) → i < length xs → pairs (get_or xs i d).expected ≡ b → map_cells (take (i + 1) xs) ≡ map_cells (take i xs) + counts_one b 0
maps_more xs i d b l e = ap map_cells (take_more xs i d l) ∙ maps_append (take i xs) (get_or xs i d ∷ []) ∙ ap (λ (t : Bool). map_cells (take i xs) + counts_one t 0) e

-- The cells of the open containers are these, from the outermost in, and the innermost. One of them is reported.
module _ (xs : List Cell) (top : Cell) (inner outer : List Cell) (c : Cell) (outside : ℕ) (are_these : top ∷ reverse xs ≡ inner ++ c ∷ outer) (in_map : pairs c.expected ≡ true) (count : map_cells outer ≡ outside) where
  flipped : xs ++ top ∷ [] ≡ reverse outer ++ c ∷ reverse inner
  flipped =
      ap (λ (ys : List Cell). ys ++ top ∷ []) (sym (reverse-reverse xs))
      ∙ sym (reverse-append (top ∷ []) (reverse xs))
      ∙ ap reverse are_these
      ∙ reverse-append inner (c ∷ outer)
      ∙ ap (λ (ys : List Cell). ys ++ reverse inner) (reverse-append (c ∷ []) outer)
      ∙ append_assoc (reverse outer) (c ∷ []) (reverse inner)

  -- it is the map at this index
  pub reported_at : (i : ℕ) (d : Cell) (left : ℕ) → i < length xs → pairs (get_or xs i d).expected ≡ true → map_cells (take i xs) + left ≡ outside → left ≡ 0 → Some (get_or xs i d) ≡ Some c
  reported_at i d left l here before none =
      let x = get_or xs i d in
      let split : xs ++ top ∷ [] ≡ take i xs ++ x ∷ (drop (i + 1) xs ++ top ∷ []) =
      ap (λ (ys : List Cell). ys ++ top ∷ []) (sym (take-append-drop i xs) ∙ ap (λ (ys : List Cell). take i xs ++ ys) (drop_more xs i d l)) ∙ append_assoc (take i xs) (x ∷ drop (i + 1) xs) (top ∷ []) in
      ap (λ (y : Cell). Some y) (one_map (take i xs) (reverse outer) x c (drop (i + 1) xs ++ top ∷ []) (reverse inner) (sym split ∙ flipped) here in_map (omega (arith, before, none, maps_reverse outer, count)))

  -- it is the innermost
  pub reported_top : (i left : ℕ) → length xs ≤ i → pairs top.expected ≡ true → map_cells (take i xs) + left ≡ outside → left ≡ 0 → Some top ≡ Some c
  reported_top i left l here before none =
      let all = ap map_cells (take_all i xs l) in
      ap (λ (y : Cell). Some y) (one_map xs (reverse outer) top c [] (reverse inner) flipped here in_map (omega (arith, before, none, all, maps_reverse outer, count)))

  -- there is one
  pub reported_somewhere : (i left : ℕ) → length xs ≤ i → map_cells (take i xs) + left ≡ outside → (left ≡ 0 → pairs top.expected ≡ false) → ⊥
  reported_somewhere i left l before last =
      let all = ap map_cells (take_all i xs l) in
      let one = ap (λ (b : Bool). counts_one b (map_cells (reverse inner))) in_map in
      let sums = sym (maps_append xs (top ∷ [])) ∙ ap map_cells flipped ∙ maps_append (reverse outer) (c ∷ reverse inner) in
      none_left left (pairs top.expected) last (omega (arith, before, all, one, sums, maps_reverse outer, count))
