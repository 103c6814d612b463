-- The lines around an offset, part by part.
use Rattle.std.proofs.Common.{ℕ, ◌+◌, ◌-◌, ◌*◌, ◌/◌, ◌%◌, ◌<◌, ◌≡◌, min, Option, List, [], ◌∷◌, ◌++◌, length, take, drop, get_or, replicate, sym, ap, ◌∙◌, arith, append-nil, subst, codes, length-drop}
use Rattle.std.{specs.Io.KnownBytes.Appends, proofs.KnownBytes.Appends-trans, proofs.lemmas.Grind.flat_map-append}
use Rattle.std.proofs.lemmas.List.{take_min, take_more}
use Rattle.cbor_diag.specs.Surroundings.{digit, spaced, label, lines_from, lines_around, surroundings}

-- what is written for a byte
abbrev pub digits_of : ℕ → List ℕ
digits_of b = 32 ∷ digit (b / 16) ∷ digit (b % 16) ∷ []

spaced_next : (bytes : List ℕ) (i d : ℕ) → i < length bytes → spaced (take (i + 1) bytes) ≡ spaced (take i bytes) ++ digits_of (get_or bytes i d)
spaced_next bytes i d l =
    ap spaced (take_more bytes i d l) ∙ flat_map-append digits_of (take i bytes) (get_or bytes i d ∷ [])
    ∙ ap (λ r. spaced (take i bytes) ++ r) (append-nil (digits_of (get_or bytes i d)))

pub digits_more : (bytes : List ℕ) (i b first second : ℕ) → i < length bytes → b ≡ get_or bytes i 0 → first ≡ digit (b / 16) → second ≡ digit (b % 16) → (x y z : Option (List ℕ))
    → Appends x y (spaced (take i bytes)) → Appends y z (32 ∷ first ∷ second ∷ []) → Appends x z (spaced (take (i + 1) bytes))
digits_more bytes i b first second l is high low x y z w v =
    subst (Appends x z) (sym (spaced_next bytes i 0 l))
    (Appends-trans x y z (spaced (take i bytes)) (digits_of (get_or bytes i 0)) w
    (subst (λ n. Appends y z (digits_of n)) is
    (subst (λ n. Appends y z (32 ∷ digit (b / 16) ∷ n ∷ [])) low (subst (λ n. Appends y z (32 ∷ n ∷ second ∷ [])) high v))))

pub shown_is : (bytes : List ℕ) (start : ℕ) → take (min 16 (length bytes - start)) (drop start bytes) ≡ take 16 (drop start bytes)
shown_is bytes start = ap (λ n. take (min 16 n) (drop start bytes)) (sym (length-drop start bytes)) ∙ take_min 16 (drop start bytes)

pub six_written : (a b c d e f g : Option (List ℕ)) (s t u v w x : List ℕ) → Appends a b s → Appends b c t → Appends c d u → Appends d e v → Appends e f w → Appends f g x
    → Appends a g (s ++ t ++ u ++ v ++ w ++ x)
six_written a b c d e f g s t u v w x p q r i j k =
    Appends-trans a f g (s ++ t ++ u ++ v ++ w) x
    (Appends-trans a e f (s ++ t ++ u ++ v) w (Appends-trans a d e (s ++ t ++ u) v (Appends-trans a c d (s ++ t) u (Appends-trans a b c s t p q) r) i) j) k

pub surroundings_written : (bytes : List ℕ) (place at before count : ℕ) → at ≡ min place (length bytes) → before ≡ min at 8 → count ≡ min 16 (length bytes - (at - before))
    → (a b c d e f g : Option (List ℕ)) (prefix : List ℕ) → prefix ≡ label (at - before)
    → Appends a b prefix → Appends b c (spaced (take (at - before + count - (at - before)) (drop (at - before) bytes))) → Appends c d (codes "\n") → Appends d e (replicate (length prefix) 32)
    → Appends e f (replicate (3 * before + 1) 32) → Appends f g (codes "^^\n") → Appends a g (surroundings bytes place)
surroundings_written bytes place at before count at_is before_is count_is a b c d e f g prefix is p q r i j k =
    let n : at - before + count - (at - before) ≡ min 16 (length bytes - (at - before)) = omega (arith, count_is) in
    subst (λ x. Appends a g (lines_around bytes x)) at_is
    (subst (λ x. Appends a g (lines_from bytes (at - x) x)) before_is
    (subst (λ t. Appends a g (t ++ spaced (take 16 (drop (at - before) bytes)) ++ codes "\n" ++ replicate (length t) 32 ++ replicate (3 * before + 1) 32 ++ codes "^^\n")) is
    (subst (λ t. Appends a g (prefix ++ spaced t ++ codes "\n" ++ replicate (length prefix) 32 ++ replicate (3 * before + 1) 32 ++ codes "^^\n"))
    (ap (λ x. take x (drop (at - before) bytes)) n ∙ shown_is bytes (at - before))
    (six_written a b c d e f g prefix (spaced (take (at - before + count - (at - before)) (drop (at - before) bytes))) (codes "\n") (replicate (length prefix) 32) (replicate (3 * before + 1) 32) (codes "^^\n") p q r i j k))))
