-- Parts of byte lists.
use Rattle.std.proofs.Common.{◌≡◌, ℕ, ◌+◌, ◌-◌, ◌≤◌, List, ◌++◌, length, length-drop, take, drop, take-append-drop, length-take, sym, ap, ◌∙◌, subst, arith, drop-drop, slice_range, take-take}
use Rattle.std.proofs.lemmas.List.{take-append-le, drop-append-le, take_rest}
use Rattle.std.proofs.Math.Seq.{take-add, drop-append_seam}

-- a part of the start of a list
pub slice_prefix : (xs ys : List ℕ) (s e : ℕ) → s ≤ e → e ≤ length xs → slice_range (xs ++ ys) s e ≡ slice_range xs s e
slice_prefix xs ys s e h g =
    let l = length-drop s xs in
    let r : e - s ≤ length (drop s xs) = subst (λ (n : ℕ). e - s ≤ n) (sym l) (omega arith) in
    ap (take (e - s)) (drop-append-le s xs ys (omega arith)) ∙ take-append-le (e - s) (drop s xs) ys r

-- the same of what begins a longer list
pub slice_within : (all out : List ℕ) (s e : ℕ) → take (length out) all ≡ out → s ≤ e → e ≤ length out → slice_range all s e ≡ slice_range out s e
slice_within all out s e is h g =
    let whole : all ≡ out ++ drop (length out) all = sym (take-append-drop (length out) all) ∙ ap (λ (xs : List ℕ). xs ++ drop (length out) all) is in
    ap (λ (xs : List ℕ). slice_range xs s e) whole ∙ slice_prefix out (drop (length out) all) s e h g

-- the first of a block that was read there
pub block_part : (all out block : List ℕ) (s e : ℕ) → take (length out) all ≡ out → s ≤ e → e ≤ length out → e - s ≤ 32 → block ≡ take 32 (take (length all - s) (drop s all))
    → take (e - s) block ≡ slice_range out s e
block_part all out block s e is h g few read =
    ap (take (e - s)) read ∙ ap (λ (xs : List ℕ). take (e - s) (take 32 xs)) (take_rest all s) ∙ take-take (e - s) 32 (drop s all) few ∙ slice_within all out s e is h g

-- what begins a list, by its own length
pub prefix_of_list : (all out : List ℕ) (len : ℕ) → take len all ≡ out → len ≤ length all → take (length out) all ≡ out
prefix_of_list all out len is h = let l = length-take len all in ap (λ k. take k all) (omega (arith, l, h, ap length is)) ∙ is

-- a prefix stays a prefix when more is appended
pub prefix_kept : (out xs ys : List ℕ) → take (length out) xs ≡ out → take (length out) (xs ++ ys) ≡ out
prefix_kept out xs ys is = let l = length-take (length out) xs in take-append-le (length out) xs ys (omega (arith, l, ap length is)) ∙ is

-- what follows a list moves down into it
pub moved_down : (xs ys zs : List ℕ) (start end : ℕ) → end ≡ length xs → start ≤ end → zs ≡ xs ++ ys → take start zs ++ drop end zs ≡ take start xs ++ ys
moved_down xs ys zs start end e h is =
    ap (λ (us : List ℕ). take start us ++ drop end us) is
    ∙ (λ i. take-append-le start xs ys (omega (arith, e, h)) i ++ (ap (λ k. drop k (xs ++ ys)) e ∙ drop-append_seam xs ys) i)

-- the part to the end
pub slice_all : (xs : List ℕ) (s n : ℕ) → length xs ≡ n → slice_range xs s n ≡ drop s xs
slice_all xs s n e = ap (λ k. slice_range xs s k) (sym e) ∙ take_rest xs s

pub slices_join : (xs : List ℕ) (a b c : ℕ) → a ≤ b → b ≤ c → slice_range xs a b ++ slice_range xs b c ≡ slice_range xs a c
slices_join xs a b c h g =
    let n : a + (b - a) ≡ b = omega (arith, h) in
    let m : (b - a) + (c - b) ≡ c - a = omega (arith, h, g) in
    let d : drop b xs ≡ drop (b - a) (drop a xs) = sym (drop-drop (b - a) a xs ∙ ap (λ k. drop k xs) n) in
    ap (λ (ys : List ℕ). take (b - a) (drop a xs) ++ take (c - b) ys) d ∙ sym (take-add (b - a) (c - b) (drop a xs)) ∙ ap (λ k. take k (drop a xs)) m

pub slice_length : (xs : List ℕ) (s e : ℕ) → e ≤ length xs → length (slice_range xs s e) ≡ e - s
slice_length xs s e h = omega (arith, length-take (e - s) (drop s xs), length-drop s xs, h)
