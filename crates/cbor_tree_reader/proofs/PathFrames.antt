-- The open containers in a builder that has no two keys that are the same: what is found of the item is found of the whole.
use Rattle.std.proofs.Common.{ℕ, suc, ◌+◌, ◌-◌, ◌^◌, ◌<◌, Option, Some, List, [], ◌∷◌, ◌++◌, length, map, subst, arith}
use Rattle.std.proofs.lemmas.List.{map-append}
use Rattle.cbor_head.specs.Prelude.{Pair, canonical, canonical_entries, Spelling, SpelledEntries, spell, value_of, entries_of, plain, Complaint}
use Rattle.cbor_head.specs.Complaint as complaint
use Rattle.cbor_head.specs.declared.{order.KeyOrder.KeyOrder, reason.Reason.TheVariants.RepeatedKey}
use Rattle.theory_values.specs.Parts.{Open, a_map, a_key, pair}
use Rattle.theory_values.specs.Pairs.{HasDistinctBytes}
use Rattle.cbor_builder.specs.Built.{HasKey, IsRepeatedKey, keys_so_far, AreAllDifferent, AreOpenKeysDifferent}
use Rattle.cbor_builder.proofs.KeysSoFar.{distinct_different}
use Rattle.theory_verdicts.specs.Levels.{IsTaken, Level, AreLevels, bytes_before}
use Rattle.theory_verdicts.specs.{Judged.IsJudged, Given.opens}
use Rattle.cbor_parser.{proofs.LevelPaths.found_of_whole, proofs.LevelPaths.repeat_of_whole, proofs.Repeats.repeated_by_bytes, specs.Sink.IsKeyAfter}
use Rattle.cbor_tree_reader.{specs.inner.TreeItems.HasKeysApart, specs.inner.TreeItems.AreApart, proofs.Paths.distinct-more}

-- ---- its keys

different : (ps : List Pair) (k : List ℕ) → HasDistinctBytes ps → (HasKey ps k → ⊥) → AreAllDifferent (map (λ (p : Pair). p.key) ps ++ k ∷ [])
different ps k h fresh = subst AreAllDifferent (map-append (λ (p : Pair). p.key) ps (pair k [] ∷ [])) (distinct_different (ps ++ pair k [] ∷ []) (distinct-more ps k [] h fresh))

keys-different : (c : Open) (os : List Open) → HasKeysApart c → (IsRepeatedKey (c ∷ os) → ⊥) → AreAllDifferent (keys_so_far c)
keys-different (a_map ps) os h fresh = distinct_different ps h
keys-different (a_key ps k) os h fresh = different ps k h fresh
keys-different _ os h fresh = λ i r. let none = r.2 in absurd (omega (arith, none))

apart-different : (os : List Open) → AreApart os → AreOpenKeysDifferent os
apart-different [] h = tt
apart-different (c ∷ os) h = (keys-different c os h.0 h.1, apart-different os h.2)

-- what is found of the item is found of the whole
pub found_within : (o : KeyOrder) (d : ℕ) (ls : List Level) (p : List ℕ) (found : Option Complaint) → AreLevels d ls → length (bytes_before ls) < 2 ^ 63 → AreApart (opens o ls)
    → IsJudged plain (length (bytes_before ls)) (d - length ls) p found → IsJudged plain 0 d (bytes_before ls ++ p) found
found_within o d ls p found h short apart = found_of_whole o d ls p found h short (apart-different (opens o ls) apart)

-- ---- a key that is the same as an earlier one

-- in such a map it is the first complaint
pub repeat_found : (o : KeyOrder) (d : ℕ) (ls : List Level) (l : Level) (done : SpelledEntries) → IsKeyAfter l done → AreLevels d (l ∷ ls) → length (bytes_before (l ∷ ls)) < 2 ^ 63 → AreApart (opens o (l ∷ ls))
    → (k : Spelling) → IsTaken (d - suc (length ls)) k → length (spell k) < 2 ^ 63 → HasKey (canonical_entries o (entries_of done)) (canonical o (value_of k))
    → IsJudged plain 0 d (bytes_before (l ∷ ls) ++ spell k) (Some (complaint.complaint (length (bytes_before (l ∷ ls)) + length (spell k)) (length (bytes_before (l ∷ ls))) RepeatedKey))
repeat_found o d ls l done following levels short apart k i key_short repeat =
    repeat_of_whole o d ls l done following levels short (apart-different (opens o (l ∷ ls)) apart) k i (repeated_by_bytes o d (d - suc (length ls)) ls l done following levels short k i key_short repeat)
