-- What a buffer holds after a write.
use Rattle.std.proofs.Common.{◌≡◌, ℕ, ◌+◌, ◌-◌, ◌≤◌, List, ◌∷◌, ◌++◌, append_assoc, length, length-append, length-drop, length-take, take, drop, set, take-append-drop, drop-drop, refl, sym, ap, ◌∙◌, arith, slice_range, take-take}
use Rattle.std.proofs.lemmas.List.{take-append-le, drop-append-le, take-set, drop-set, with_items_is}
use Rattle.std.proofs.Math.Seq.{drop-append_seam, take-append_seam, take-set-lt, paste}
use Rattle.std.specs.{Global.Vec, Vec.with_items}
use Rattle.cbor_builder.proofs.Slices.{prefix_of_list, slice_within, slice_all}

pub take_prefix : (from start : ℕ) (out x : List ℕ) → from ≤ start → start ≤ length out → take from (take start out ++ x) ≡ take from out
take_prefix from start out x h g =
    let l = length-take start out in
    take-append-le from (take start out) x (omega (arith, l, h, g)) ∙ sym (take-append-le from (take start out) (drop start out) (omega (arith, l, h, g))) ∙ ap (take from) (take-append-drop start out)

pub drop_prefix : (start : ℕ) (out x : List ℕ) → start ≤ length out → drop start (take start out ++ x) ≡ x
drop_prefix start out x g =
    let e : start ≡ length (take start out) = omega (arith, length-take start out, g) in
    ap (λ k. drop k (take start out ++ x)) e ∙ drop-append_seam (take start out) x

-- the length is the same if the number of bytes written is the number of bytes replaced
pub length_kept : (xs ys : List ℕ) (a k : ℕ) → a + k ≤ length xs → length ys ≡ k → length (take a xs ++ (ys ++ drop k (drop a xs))) ≡ length xs
length_kept xs ys a k h e =
    omega (arith, length-append (take a xs) (ys ++ drop k (drop a xs)), length-append ys (drop k (drop a xs)), length-take a xs, length-drop k (drop a xs), length-drop a xs, h, e)

-- the first k of the bytes that are written after the first len
pub written : (xs ys rest : List ℕ) (len k : ℕ) → len ≤ length xs → k ≤ length ys → take (len + k) (take len xs ++ (ys ++ rest)) ≡ take len xs ++ take k ys
written xs ys rest len k h g =
    let prefix = take len xs ++ take k ys in
    let n : len + k ≡ length prefix = omega (arith, length-append (take len xs) (take k ys), length-take len xs, length-take k ys, h, g) in
    let split : take len xs ++ (ys ++ rest) ≡ prefix ++ (drop k ys ++ rest) =
    ap (λ (us : List ℕ). take len xs ++ (us ++ rest)) (sym (take-append-drop k ys)) ∙ simp append_assoc in
    (λ i. take (n i) (split i)) ∙ take-append_seam prefix (drop k ys ++ rest)

-- one byte replaces one byte
pub byte_written : (xs : List ℕ) (at start len x : ℕ) → start ≡ at + 1 → start ≤ len → len ≤ length xs → take len (set xs at x) ≡ take at (take len xs) ++ (x ∷ drop start (take len xs))
byte_written xs at start len x e h g =
    let out = take len xs in
    let d : drop at (set out at x) ≡ x ∷ drop start out = drop-set out at x (omega (arith, length-take len xs, e, h, g)) ∙ ap (λ k. x ∷ drop k out) (sym e) in
    take-set-lt len xs at x (omega (arith, e, h))
    ∙ sym (take-append-drop at (set out at x)) ∙ ap (λ (us : List ℕ). us ++ drop at (set out at x)) (take-set out at x) ∙ ap (λ (us : List ℕ). take at out ++ us) d

-- a head, and what follows it up to m
head_and_tail : (prefix h tail rest : List ℕ) (m : ℕ) → m ≡ length prefix + (length h + length tail) → take m (prefix ++ (h ++ (tail ++ rest))) ≡ prefix ++ (h ++ tail)
head_and_tail prefix h tail rest m e =
    let n : m ≡ length (prefix ++ (h ++ tail)) = omega (arith, length-append prefix (h ++ tail), length-append h tail, e) in
    let regroup : prefix ++ (h ++ (tail ++ rest)) ≡ (prefix ++ (h ++ tail)) ++ rest = simp append_assoc in
    (λ i. take (n i) (regroup i)) ∙ take-append_seam (prefix ++ (h ++ tail)) rest

-- a head replaces one of the same length
head_kept : (xs h : List ℕ) (len from start k : ℕ) → len ≤ length xs → from ≤ start → start ≤ len → k ≡ start - from → length h ≡ k
    → take len (take from xs ++ (h ++ drop k (drop from xs))) ≡ take from (take len xs) ++ (h ++ drop start (take len xs))
head_kept xs h len from start k g b e is n =
    let out = take len xs in
    let l = length-take len xs in
    let whole : xs ≡ out ++ drop len xs = sym (take-append-drop len xs) in
    let s : from + k ≡ start = omega (arith, is, b) in
    let rest : drop k (drop from xs) ≡ drop start out ++ drop len xs =
    drop-drop k from xs ∙ ap (λ j. drop j xs) s ∙ ap (drop start) whole ∙ drop-append-le start out (drop len xs) (omega (arith, l, e, g)) in
    let prefix : take from xs ≡ take from out = ap (take from) whole ∙ take-append-le from out (drop len xs) (omega (arith, l, b, e, g)) in
    (λ i. take len (prefix i ++ (h ++ rest i))) ∙ head_and_tail (take from out) h (drop start out) (drop len xs) len (omega (arith, l, length-take from out, length-drop start out, n, is, b, e, g))

-- a head replaces one of another length: what follows has been moved
head_moved : (xs h : List ℕ) (len from start k m : ℕ) → len ≤ length xs → from ≤ start → start ≤ len → from + k + (len - start) ≤ length xs → length h ≡ k → m ≡ from + k + (len - start)
    → take m (take from (paste xs (from + k) (drop start xs) (len - start)) ++ (h ++ drop k (drop from (paste xs (from + k) (drop start xs) (len - start))))) ≡ take from (take len xs) ++ (h ++ drop start (take len xs))
head_moved xs h len from start k m g b e fits n is =
    let out = take len xs in
    let l = length-take len xs in
    let tail = take (len - start) (drop start xs) in
    let rest = drop (from + k + (len - start)) xs in
    let moved = paste xs (from + k) (drop start xs) (len - start) in
    let whole : xs ≡ out ++ drop len xs = sym (take-append-drop len xs) in
    let lo : length (drop start out) ≡ len - start = length-drop start out ∙ ap (λ j. j - start) (omega (arith, l, g)) in
    let same : tail ≡ drop start out =
    ap (λ (us : List ℕ). take (len - start) (drop start us)) whole ∙ ap (take (len - start)) (drop-append-le start out (drop len xs) (omega (arith, l, e, g)))
    ∙ ap (λ j. take j (drop start out ++ drop len xs)) (sym lo) ∙ take-append_seam (drop start out) (drop len xs) in
    let flat : moved ≡ take (from + k) xs ++ (tail ++ rest) = append_assoc (take (from + k) xs) tail rest in
    let prefix : take from moved ≡ take from out =
    ap (take from) flat ∙ take_prefix from (from + k) xs (tail ++ rest) (omega arith) (omega (arith, fits)) ∙ ap (take from) whole ∙ take-append-le from out (drop len xs) (omega (arith, l, b, e, g)) in
    let following : drop k (drop from moved) ≡ drop start out ++ rest =
    drop-drop k from moved ∙ ap (drop (from + k)) flat ∙ drop_prefix (from + k) xs (tail ++ rest) (omega (arith, fits)) ∙ ap (λ (us : List ℕ). us ++ rest) same in
    (λ i. take m (prefix i ++ (h ++ following i))) ∙ head_and_tail (take from out) h (drop start out) rest m (omega (arith, l, length-take from out, lo, n, is, b, e, g))

-- ---- of a vector whose first len elements are the output

pub vec_kept : (v : Vec ℕ) (xs ys h out : List ℕ) (len from start k : ℕ) → xs ≡ v.items → take len v.items ≡ out → len ≤ v.len → from ≤ start → start ≤ length out
    → k ≡ start - from → ys ≡ h → k ≡ length h
    → take len (with_items v (take from xs ++ (ys ++ drop (start - from) (drop from xs)))).items ≡ take from out ++ (h ++ drop start out)
vec_kept v xs ys h out len from start k ex eo g b e ek ey n =
    let long : len ≤ length v.items = omega (arith, g, v.ok.0) in
    let ends : start ≤ len = omega (arith, length-take len v.items, ap length eo, e) in
    let space : from + (start - from) ≤ length xs = omega (arith, ap length ex, long, ends, b) in
    let size : length ys ≡ start - from = ap length ey ∙ sym n ∙ ek in
    let whole = length_kept xs ys from (start - from) space size ∙ ap length ex ∙ sym v.ok.0 in
    ap (take len) (with_items_is v (take from xs ++ (ys ++ drop (start - from) (drop from xs))) whole)
    ∙ (λ i. take len (take from (ex i) ++ (ey i ++ drop (start - from) (drop from (ex i)))))
    ∙ head_kept v.items h len from start (start - from) long b ends refl (sym n ∙ ek)
    ∙ (λ i. take from (eo i) ++ (h ++ drop start (eo i)))

pub vec_moved : (v : Vec ℕ) (was xs ys h out : List ℕ) (len from start k : ℕ) → v.items ≡ paste was (from + k) (drop start was) (len - start) → xs ≡ v.items → take len was ≡ out
    → len + k ≤ length was → v.len ≡ length was → from ≤ start → start ≤ length out → ys ≡ h → k ≡ length h
    → take (from + k + (len - start)) (with_items v (take from xs ++ (ys ++ drop (from + k - from) (drop from xs)))).items ≡ take from out ++ (h ++ drop start out)
vec_moved v was xs ys h out len from start k ev ex eo space same b e ey n =
    let ends : start ≤ len = omega (arith, length-take len was, ap length eo, e) in
    let step : from + k - from ≡ k = omega arith in
    let size : length ys ≡ from + k - from = ap length ey ∙ sym n ∙ sym step in
    let fits : from + (from + k - from) ≤ length xs = omega (arith, ap length ex, v.ok.0, same, space, ends, b) in
    let whole = length_kept xs ys from (from + k - from) fits size ∙ ap length ex ∙ sym v.ok.0 in
    ap (take (from + k + (len - start))) (with_items_is v (take from xs ++ (ys ++ drop (from + k - from) (drop from xs))) whole)
    ∙ (λ i. take (from + k + (len - start)) (take from ((ex ∙ ev) i) ++ (ey i ++ drop (step i) (drop from ((ex ∙ ev) i)))))
    ∙ head_moved was h len from start k (from + k + (len - start)) (omega (arith, space)) b ends (omega (arith, space, ends, b)) (sym n) refl
    ∙ (λ i. take from (eo i) ++ (h ++ drop start (eo i)))

-- what a slice of all of it holds, written back
written_back : (items new : List ℕ) (n : ℕ) → n ≡ length items → length new ≡ length items → take n (new ++ drop (length new) items) ≡ new
written_back items new n e l =
    let m : n ≡ length new = omega (arith, e, l) in ap (λ k. take k (new ++ drop (length new) items)) m ∙ take-append_seam new (drop (length new) items)

pub vec_extended : (items was new out : List ℕ) (n len r s e : ℕ) → was ≡ items → n ≡ length items → length new ≡ length was → take len items ≡ out → len ≤ n → s ≤ e → e ≤ length out
    → take r new ≡ take len was ++ slice_range was s e → take r (take n (new ++ drop (length new) items)) ≡ out ++ slice_range out s e
vec_extended items was new out n len r s e is en l eo h b g now =
    let prefix = prefix_of_list items out len eo (omega (arith, en, h)) in
    ap (take r) (written_back items new n en (l ∙ ap length is)) ∙ now ∙ ap (λ (xs : List ℕ). take len xs ++ slice_range xs s e) is
    ∙ (λ i. eo i ++ slice_within items out s e prefix b g i)

pub vec_closed_up : (items was new out : List ℕ) (n len r s e : ℕ) → was ≡ items → n ≡ length items → length new ≡ length was → take len items ≡ out → len ≤ n → s ≤ e → e ≤ length out
    → take r new ≡ take s was ++ slice_range was e len → take r (take n (new ++ drop (length new) items)) ≡ take s out ++ drop e out
vec_closed_up items was new out n len r s e is en l eo h b g now =
    let prefix = prefix_of_list items out len eo (omega (arith, en, h)) in
    let long : length out ≡ len = omega (arith, length-take len items, ap length eo, en, h) in
    let before : take s items ≡ take s out = sym (take-take s len items (omega (arith, long, b, g))) ∙ ap (take s) eo in
    let following : slice_range items e len ≡ drop e out = slice_within items out e len prefix (omega (arith, long, g)) (omega (arith, long)) ∙ slice_all out e len long in
    ap (take r) (written_back items new n en (l ∙ ap length is)) ∙ now ∙ ap (λ (xs : List ℕ). take s xs ++ slice_range xs e len) is
    ∙ (λ i. before i ++ following i)
