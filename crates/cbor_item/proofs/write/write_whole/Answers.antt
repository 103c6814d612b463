use Rattle.std.proofs.Common.{◌≡◌, ℕ, ◌+◌, ◌-◌, List, ◌++◌, arith, length, take, drop, sym, ap, ◌∙◌, subst, take-add}
use Rattle.std.{proofs.lemmas.List.take_rest, specs.Io.KnownBytes.Appends, proofs.KnownBytes.Appends-trans}
use Rattle.cbor_item.proofs.write.write_whole.Goals as goal

joins : (xs : List ℕ) (a n : ℕ) → take a xs ++ take n (take (length xs - a) (drop a xs)) ≡ take (a + n) xs
joins xs a n = ap (λ l. take a xs ++ take n l) (take_rest xs a) ∙ sym (take-add a n xs)

pub loop-at-preserved : goal.loop-at-preserved
loop-at-preserved g c =
    let joined = Appends-trans _ _ _ _ _ c.loop-at.invariant.1 c.in-Ok.ensures.bytes in
    (omega (arith, c.in-Ok.ensures.bound), subst (Appends _ _) (joins c.args.bytes.now c.loop-at.at c.in-Ok.count) joined)
