-- What is complete in the open containers has no complaint if the whole is known to have none.
use Rattle.std.proofs.Common.{◌≡◌, ℕ, ◌+◌, ◌-◌, ◌≤◌, List, [], ◌∷◌, ◌++◌, length, refl, sym, ap, ap₂, ◌∙◌, subst, inl, arith, append-nil, append_assoc, length-append}
use Rattle.cbor_head.specs.Prelude.{plain, Rules, Complaint, OfKey, Complains, Spelling, spell, IsItem, IsSpelled, depth}
use Rattle.theory_values.proofs.{Agree.split_prefix, Agree.same_complaints, OneFirst.bounded, Verdicts.whole_longest}
use Rattle.theory_verdicts.specs.Levels.{IsClean, IsTaken, Level, AreLevels, bytes_before}
use Rattle.theory_verdicts.proofs.LevelFrames.{path, path_length, path_bytes, path_open}
use Rattle.theory_verdicts.{specs.Frame.Frame, specs.Frame.before, specs.Kinds.plug_all, specs.OpenMaps.before_all, proofs.Frames.plug_item}
use Rattle.theory_verdicts.proofs.{KindFrames.spell_along, KindFrames.item_along, Levels.clean-anywhere}

-- a complaint of an item is one of the containers around it
complaint_along : (fs : List Frame) (s : Spelling) (r : Rules) (at to : ℕ) (c : Complaint) → to ≡ at + length (before_all fs) → Complains r to s c → Complains r at (plug_all fs s) c
complaint_along [] s r at to c e h = let f : to ≡ at = omega (arith, e) in subst (λ (n : ℕ). Complains r n s c) f h
complaint_along (f ∷ fs) s r at to c e h =
    let next = at + length (before f) in
    plug_item f (plug_all fs s) r (OfKey r.keys) at next c refl (inl (complaint_along fs s r next to c (omega (arith, e, length-append (before f) (before_all fs))) h))

-- An item in these containers begins with x, and the bytes up to x begin an item that was read. Then the first item has no
-- complaint that ends within x.
pub clean-prefix : (d : ℕ) (ls : List Level) (s t : Spelling) (x z rest more : List ℕ) → AreLevels d ls → IsItem (d - length ls) s (x ++ z) → IsTaken d t → (bytes_before ls ++ x) ++ rest ≡ spell t ++ more
    → (c : Complaint) → Complains plain (length (bytes_before ls)) s c → c.end ≤ length (bytes_before ls) + length x → ⊥
clean-prefix d ls s t x z rest more levels part taken e c h ends =
    let fs = path ls in
    let are = path_open d ls levels in
    let u = plug_all fs s in
    let p = bytes_before ls ++ x in
    let (spelled_around, deep) = item_along fs s are.left are.path part.spelled (omega (arith, part.within, are.levels, path_length ls)) in
    let (following, around) = spell_along fs s in
    let i : IsItem d u (p ++ (z ++ following)) = record {
      spelled = spelled_around;
      within = omega (arith, deep, are.levels);
      bytes_are = around
          ∙ ap₂ (λ (y w : List ℕ). y ++ (w ++ following)) (path_bytes ls) part.bytes_are
          ∙ ap (λ (y : List ℕ). bytes_before ls ++ y) (append_assoc x z following)
          ∙ sym (append_assoc (bytes_before ls) x (z ++ following));
    } in
    let whole = whole_longest d t (p ++ rest) more (record { spelled = taken.spelled; within = taken.within; bytes_are = refl }) e in
    let (k, same, _) = split_prefix p rest (spell t) more e (whole.longest p rest (u, z ++ following, i) refl) in
    let j : IsItem d t (p ++ k) = record { spelled = taken.spelled; within = taken.within; bytes_are = same } in
    taken.clean 0 c (same_complaints d u t p (z ++ following) k i j plain c (omega (arith, ends, length-append (bytes_before ls) x)) (complaint_along fs s plain 0 (length (bytes_before ls)) c (omega (arith, ap length (path_bytes ls))) h))

-- and one that is complete there has none
pub clean-within : (d : ℕ) (ls : List Level) (s t : Spelling) (rest more : List ℕ) → AreLevels d ls → IsSpelled s → depth s ≤ d - length ls → IsTaken d t
    → (bytes_before ls ++ spell s) ++ rest ≡ spell t ++ more → IsClean s
clean-within d ls s t rest more levels spelled within taken e = clean-anywhere s (length (bytes_before ls)) (λ c h.
    let whole : IsItem (d - length ls) s (spell s ++ []) = record { spelled = spelled; within = within; bytes_are = sym (append-nil (spell s)) } in
    clean-prefix d ls s t (spell s) [] rest more levels whole taken e c h (omega (arith, bounded s plain _ c h)))
