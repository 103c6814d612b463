-- The open containers in the numbers of a saved machine.
use Rattle.std.proofs.Common.{◌≡◌, ℕ, zero, suc, ◌+◌, ◌-◌, ◌<◌, List, [], ◌∷◌, ◌++◌, length, take, drop, set, get_or, replicate, Some, refl, sym, ap, ◌∙◌, add-one, arith, slice_get}
use Rattle.std.proofs.lemmas.List.{drop-replicate, length-replicate, set-get_or, take_more}
use Rattle.std.proofs.lemmas.Option.{get_or_from_slice_get}
use Rattle.cbor_machine.specs.{declared.frame.Frame.Frame, Saved.AreZeros, inner.Saved.frame_by, inner.Saved.frames_by}

-- one more is written
frames-written : (ls ks : List ℕ) (i n k : ℕ) → i < length ls → i < length ks → frames_by (take (suc i) (set ls i n)) (take (suc i) (set ks i k)) ≡ frames_by (take i ls) (take i ks) ++ frame_by n k ∷ []
frames-written (x ∷ ls) (y ∷ ks) zero n k l m = refl
frames-written (x ∷ ls) (y ∷ ks) (suc i) n k l m = ap (λ fs. frame_by x y ∷ fs) (frames-written ls ks i n k (omega arith) (omega arith))
frames-written ls ks i n k l m = absurd (omega arith)

pub written : (ls ks : List ℕ) (fs : List Frame) (i n k : ℕ) (f : Frame) → i < length ls → i < length ks → i < length fs → frames_by (take i ls) (take i ks) ≡ take i fs → slice_get fs i ≡ Some f → frame_by n k ≡ f
    → frames_by (take (i + 1) (set ls i n)) (take (i + 1) (set ks i k)) ≡ take (i + 1) fs
written ls ks fs i n k f l m h e there is =
    ap (λ j. frames_by (take j (set ls i n)) (take j (set ks i k))) (add-one i) ∙ frames-written ls ks i n k l m ∙ ap (λ gs. gs ++ frame_by n k ∷ []) e
    ∙ ap (λ g. take i fs ++ g ∷ []) (is ∙ sym (get_or_from_slice_get fs i f f there)) ∙ sym (take_more fs i f h)

-- one more is read
next-read : (ls ks : List ℕ) (i : ℕ) → i < length ls → i < length ks → frames_by (take (i + 1) ls) (take (i + 1) ks) ≡ frames_by (take i ls) (take i ks) ++ frame_by (get_or ls i 0) (get_or ks i 0) ∷ []
next-read ls ks i l m =
    ap (λ j. frames_by (take j ls) (take j ks)) (add-one i)
    ∙ ap (λ xs. frames_by (take (suc i) xs) (take (suc i) ks)) (sym (set-get_or ls i 0)) ∙ ap (λ xs. frames_by (take (suc i) (set ls i (get_or ls i 0))) (take (suc i) xs)) (sym (set-get_or ks i 0))
    ∙ frames-written ls ks i (get_or ls i 0) (get_or ks i 0) l m

pub read-on : (ls ks : List ℕ) (i : ℕ) (container_stack to : List Frame) (f : Frame) → i < length ls → i < length ks → container_stack ≡ frames_by (take i ls) (take i ks) → to ≡ container_stack ++ f ∷ [] → f ≡ frame_by (get_or ls i 0) (get_or ks i 0)
    → to ≡ frames_by (take (i + 1) ls) (take (i + 1) ks)
read-on ls ks i container_stack to f l m e pushed is = pushed ∙ ap (λ fs. fs ++ f ∷ []) e ∙ ap (λ g. frames_by (take i ls) (take i ks) ++ g ∷ []) is ∙ sym (next-read ls ks i l m)

pub zeros-following : (n most : ℕ) (xs : List ℕ) → xs ≡ drop n (replicate most 0) → AreZeros xs
zeros-following n most xs e =
    let is : xs ≡ replicate (most - n) 0 = e ∙ drop-replicate n most 0 in
    is ∙ ap (λ k. replicate k 0) (sym (ap length is ∙ length-replicate (most - n) 0))
