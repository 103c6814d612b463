-- Lists of bytes, by offset, in parts and joined.
use Rattle.std.proofs.Common.{ℕ, zero, suc, ◌-◌, ◌<◌, List, [], ◌∷◌, ◌++◌, take, drop, get_or, slice_range}
use Rattle.cbor_head.specs.Prelude.{AreBytes}

pub are_bytes : (xs : List ℕ) → ((i : ℕ) → get_or xs i 0 < 256) → AreBytes xs
are_bytes [] h = tt
are_bytes (x ∷ xs) h = (h zero, are_bytes xs (λ i. h (suc i)))

pub bytes_join : (xs ys : List ℕ) → AreBytes xs → AreBytes ys → AreBytes (xs ++ ys)
bytes_join [] ys g h = h
bytes_join (x ∷ xs) ys g h = (g.0, bytes_join xs ys g.1 h)

pub bytes_prefix : (xs ys : List ℕ) → AreBytes (xs ++ ys) → AreBytes xs
bytes_prefix [] ys h = tt
bytes_prefix (x ∷ xs) ys h = (h.0, bytes_prefix xs ys h.1)

pub bytes_back : (xs ys : List ℕ) → AreBytes (xs ++ ys) → AreBytes ys
bytes_back [] ys h = h
bytes_back (x ∷ xs) ys h = bytes_back xs ys h.1

pub bytes_take : (n : ℕ) (xs : List ℕ) → AreBytes xs → AreBytes (take n xs)
bytes_take zero xs h = tt
bytes_take (suc n) [] h = tt
bytes_take (suc n) (x ∷ xs) h = (h.0, bytes_take n xs h.1)

pub bytes_drop : (n : ℕ) (xs : List ℕ) → AreBytes xs → AreBytes (drop n xs)
bytes_drop zero xs h = h
bytes_drop (suc n) [] h = tt
bytes_drop (suc n) (x ∷ xs) h = bytes_drop n xs h.1

pub bytes_slice : (xs : List ℕ) (a b : ℕ) → AreBytes xs → AreBytes (slice_range xs a b)
bytes_slice xs a b h = bytes_take (b - a) (drop a xs) (bytes_drop a xs h)
