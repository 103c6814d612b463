-- What a buffer and a writer are after bytes were appended.
use Rattle.std.proofs.Common.{◌≡◌, ℕ, ◌+◌, ◌-◌, ◌^◌, ◌<◌, ◌≤◌, inl, inr, List, [], ◌∷◌, ◌++◌, append_assoc, length, length-append, length-take, length-drop, take, drop, drop-drop, sym, ap, ◌∙◌, arith}
use Rattle.std.proofs.{Math.Seq.drop-append_seam, Math.Seq.take-append_seam, lemmas.Bool.cases_lt, lemmas.List.flat_map_more}
use Rattle.std.specs.Prelude.{◌==◌, if◌then◌else◌}
use Rattle.cbor_writer.specs.Parts.{Part, bytes_of, all_bytes}
use Rattle.cbor_writer.specs.Writing.{status_of, HasPut, Appends}
use Rattle.cbor_writer.specs.declared.writer.Writer.{Writer}

-- a head and bytes are written one after the other
pub both_written : (xs h b : List ℕ) (n middle end : ℕ) → middle ≡ n + length h → end ≡ middle + length b → end ≤ length xs
    → (let once = take n xs ++ (h ++ drop (middle - n) (drop n xs)) in take middle once ++ (b ++ drop (end - middle) (drop middle once))) ≡ take n xs ++ ((h ++ b) ++ drop (n + length (h ++ b)) xs)
both_written xs h b n middle end m e fits =
    let following = drop (middle - n) (drop n xs) in
    let prefix = take n xs ++ h in
    let long : middle ≡ length prefix = omega (arith, length-append (take n xs) h, length-take n xs, m, e, fits) in
    let regroup : take n xs ++ (h ++ following) ≡ prefix ++ following = sym (append_assoc (take n xs) h following) in
    let before : take middle (take n xs ++ (h ++ following)) ≡ prefix = (λ i. take (long i) (regroup i)) ∙ take-append_seam prefix following in
    let after : drop middle (take n xs ++ (h ++ following)) ≡ following = (λ i. drop (long i) (regroup i)) ∙ drop-append_seam prefix following in
    let last : n + (middle - n) + (end - middle) ≡ n + length (h ++ b) = omega (arith, length-append h b, m, e) in
    let rest : drop (end - middle) following ≡ drop (n + length (h ++ b)) xs =
    ap (drop (end - middle)) (drop-drop (middle - n) n xs) ∙ drop-drop (end - middle) (n + (middle - n)) xs ∙ ap (λ k. drop k xs) last in
    (λ i. before i ++ (b ++ drop (end - middle) (after i)))
    ∙ append_assoc (take n xs) h (b ++ drop (end - middle) following)
    ∙ ap (λ (ys : List ℕ). take n xs ++ ys) (sym (append_assoc h b (drop (end - middle) following)))
    ∙ ap (λ (ys : List ℕ). take n xs ++ ((h ++ b) ++ ys)) rest

-- a write over the same number of bytes
length_same : (xs ys : List ℕ) (n : ℕ) → n + length ys ≤ length xs → length (take n xs ++ (ys ++ drop (n + length ys) xs)) ≡ length xs
length_same xs ys n fits =
    omega (arith, length-append (take n xs) (ys ++ drop (n + length ys) xs), length-append ys (drop (n + length ys) xs), length-take n xs, length-drop (n + length ys) xs, fits)

-- the bytes so far, and those appended
begins_with_both : (xs bs ys : List ℕ) (n m : ℕ) → n + length ys ≤ length xs → take n xs ≡ bs → m ≡ n + length ys → take m (take n xs ++ (ys ++ drop (n + length ys) xs)) ≡ bs ++ ys
begins_with_both xs bs ys n m fits is e =
    let long : m ≡ length (take n xs ++ ys) = omega (arith, length-append (take n xs) ys, length-take n xs, fits, e) in
    (λ i. take (long i) (sym (append_assoc (take n xs) ys (drop (n + length ys) xs)) i))
    ∙ take-append_seam (take n xs ++ ys) (drop (n + length ys) xs) ∙ ap (λ (zs : List ℕ). zs ++ ys) is

still_fits : (f a x l : ℕ) → a + x ≤ l → status_of f a l ≡ status_of f (a + x) l
still_fits f a x l h = grind arith

fits_no_more : (f a x l : ℕ) → l < a + x → (if status_of f a l == 0 then 2 else status_of f a l) ≡ status_of f (a + x) l
fits_no_more f a x l h = grind arith

-- all parts, and one more
more_bytes : (p : Part) (ps : List Part) → all_bytes (ps ++ p ∷ []) ≡ all_bytes ps ++ bytes_of p
more_bytes p ps = sym (flat_map_more bytes_of [] ps p)

more_count : (p : Part) (ps : List Part) → length (all_bytes (ps ++ p ∷ [])) ≡ length (all_bytes ps) + length (bytes_of p)
more_count p ps = ap length (more_bytes p ps) ∙ length-append (all_bytes ps) (bytes_of p)

-- there is space for one more
more_fits : (p : Part) (xs ys : List ℕ) (old new : Writer) → length xs < 2 ^ 64 - 1 → Appends (bytes_of p) xs ys old new
    → (ps : List Part) (f : ℕ) → HasPut ps f xs old → old.needed + length (bytes_of p) ≤ length xs → HasPut (ps ++ p ∷ []) f ys new
more_fits p xs ys old new few a ps f h fits =
    let n = length (all_bytes ps) in
    let more = more_count p ps in
    let put : old.needed ≡ n = omega (arith, h.count, few, fits) in
    let within : n + length (bytes_of p) ≤ length xs = omega (arith, put, fits) in
    let now : new.needed ≡ old.needed + length (bytes_of p) = omega (arith, a.count, few, fits) in
    let same : length ys ≡ length xs = ap length (a.fits fits).0 ∙ length_same xs (bytes_of p) old.needed fits in
    record {
      count = omega (arith, now, put, more, within, few);
      begins = λ _. ap (take new.needed) (a.fits fits).0 ∙ begins_with_both xs (all_bytes ps) (bytes_of p) old.needed new.needed fits (h.begins (omega (arith, within))) now ∙ sym (more_bytes p ps);
      status = (a.fits fits).1 ∙ h.status ∙ still_fits f n (length (bytes_of p)) (length xs) within ∙ (λ i. status_of f (sym more i) (sym same i));
    }

-- there is none
more_fits_not : (p : Part) (xs ys : List ℕ) (old new : Writer) → length xs < 2 ^ 64 - 1 → Appends (bytes_of p) xs ys old new
    → (ps : List Part) (f : ℕ) → HasPut ps f xs old → length xs < old.needed + length (bytes_of p) → HasPut (ps ++ p ∷ []) f ys new
more_fits_not p xs ys old new few a ps f h none =
    let n = length (all_bytes ps) in
    let more = more_count p ps in
    let over : length xs < n + length (bytes_of p) = omega (arith, h.count, few, none) in
    let same : length ys ≡ length xs = ap length (a.no_space none).0 in
    record {
      count = omega (arith, a.count, h.count, more);
      begins = λ fits. absurd (omega (arith, fits, more, same, over));
      status = (a.no_space none).1 ∙ ap (λ (s : ℕ). if s == 0 then 2 else s) h.status ∙ fits_no_more f n (length (bytes_of p)) (length xs) over ∙ (λ i. status_of f (sym more i) (sym same i));
    }

-- a writer of some parts becomes one of one more
pub one_more : (p : Part) (xs ys : List ℕ) (old new : Writer) → length xs < 2 ^ 64 - 1 → Appends (bytes_of p) xs ys old new
    → (ps : List Part) (f : ℕ) → HasPut ps f xs old → HasPut (ps ++ p ∷ []) f ys new
one_more p xs ys old new few a ps f h =
    elim (cases_lt (length xs) (old.needed + length (bytes_of p))) [ inl none ↦ more_fits_not p xs ys old new few a ps f h none | inr fits ↦ more_fits p xs ys old new few a ps f h fits ]
