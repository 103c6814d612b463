-- Parts of bytes, by their lengths and offsets.
use Rattle.std.proofs.Common.{◌≡◌, ℕ, ◌+◌, ◌-◌, ◌≤◌, List, ◌++◌, length, take, drop, take-append-drop, sym, ap, ◌∙◌, arith, append_assoc, length-append, length-drop, Option, Some, None}
use Rattle.std.{specs.Prelude.MatchOption, specs.Prelude.IfSome, proofs.Math.Seq.drop-append_seam, proofs.lemmas.List.take_at}

-- where a rest begins
pub offset_of : (bytes : List ℕ) (offset : ℕ) (prefix rest found : List ℕ) → drop offset bytes ≡ prefix ++ rest → found ≡ rest → drop (length bytes - length found) bytes ≡ rest
offset_of bytes offset prefix rest found e f =
    let before = take offset bytes in
    let all : bytes ≡ (before ++ prefix) ++ rest = sym (take-append-drop offset bytes) ∙ ap (λ (l : List ℕ). before ++ l) e ∙ sym (append_assoc before prefix rest) in
    let n : length bytes - length found ≡ length (before ++ prefix) = omega (arith, ap length all, ap length f, length-append (before ++ prefix) rest) in
    ap (λ (k : ℕ). drop k bytes) n ∙ ap (drop (length (before ++ prefix))) all ∙ drop-append_seam (before ++ prefix) rest

-- what is between two offsets
pub between : (bytes : List ℕ) (offset end : ℕ) (prefix rest : List ℕ) → offset ≤ end → end ≤ length bytes → drop offset bytes ≡ prefix ++ rest → drop end bytes ≡ rest → take (end - offset) (drop offset bytes) ≡ prefix
between bytes offset end prefix rest l m e f =
    let n : length prefix ≡ end - offset = omega (arith, l, m, ap length e, ap length f, length-drop offset bytes, length-drop end bytes, length-append prefix rest) in
    ap (take (end - offset)) e ∙ take_at prefix rest (end - offset) n

-- another fact for each case
pub each_case : {A : Type 0} {P Q : A → Type 0} {M N : Type 0} (r : Option A) → (M → N) → ((x : A) → P x → Q x) → MatchOption r M P → MatchOption r N Q
each_case None f g h = f h
each_case (Some x) f g h = g x h

pub some_with : {A : Type 0} {P Q R : A → Type 0} (N : Type 0) (r : Option A) → ((x : A) → P x → R x → Q x) → MatchOption r ⊥ P → IfSome r R → MatchOption r N Q
some_with N None f h g = absurd h
some_with N (Some x) f h g = f x h g

-- where what follows a part begins
pub offset_after : (bytes : List ℕ) (offset end : ℕ) (part rest : List ℕ) → offset ≤ length bytes → end ≤ length bytes → drop offset bytes ≡ part ++ rest → drop end bytes ≡ rest → end ≡ offset + length part
offset_after bytes offset end part rest l m e f = omega (arith, l, m, ap length e, ap length f, length-drop offset bytes, length-drop end bytes, length-append part rest)

-- what comes before a offset
pub prefix_of : (bytes : List ℕ) (end : ℕ) (prefix rest : List ℕ) → end ≤ length bytes → bytes ≡ prefix ++ rest → drop end bytes ≡ rest → take end bytes ≡ prefix
prefix_of bytes end prefix rest l e f =
    let n : length prefix ≡ end = omega (arith, l, ap length e, ap length f, length-drop end bytes, length-append prefix rest) in
    ap (take end) e ∙ take_at prefix rest end n
