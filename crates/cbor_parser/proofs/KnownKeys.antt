-- Of an item that is known to be valid, no two keys of an open map are the same.
use Rattle.std.proofs.Common.{◌≡◌, ℕ, zero, suc, ◌^◌, ◌<◌, ◌≤◌, List, [], ◌∷◌, ◌++◌, length, refl, ◌∙◌, inr, arith, append_assoc}
use Rattle.cbor_head.specs.{Prelude.plain, Prelude.Bounds, declared.order.KeyOrder.KeyOrder, declared.order.KeyOrder.TheVariants.Bytewise}
use Rattle.cbor_builder.specs.Built.{keys_so_far, IsRepeatAt, AreOpenKeysDifferent, open_maps}
use Rattle.theory_verdicts.specs.Levels.{Level, level_bytes, AreLevels, bytes_before}
use Rattle.theory_verdicts.{specs.Given.level_open, specs.Given.opens, specs.Kinds.KeepsToKinds, proofs.KindFrames.keeps_prefix}
use Rattle.theory_verdicts.proofs.LevelFrames.{begins_before}
use Rattle.cbor_parser.{specs.Sink.AreKeysDistinct, specs.inner.Parser.BeginsTaken, proofs.ReportedMaps.reported_within, proofs.ReportedMaps.never_known}

module _ (limits : Bounds) (input : List ℕ) (small : length input ≤ 2 ^ 62) (known : BeginsTaken limits.depth input) (o : KeyOrder) where
  module _ (l : Level) (ls : List Level) (rest : List ℕ) (levels : AreLevels limits.depth (l ∷ ls)) (e : input ≡ bytes_before (l ∷ ls) ++ rest) (keeps : KeepsToKinds limits plain (bytes_before (l ∷ ls))) (outer : AreOpenKeysDifferent (opens o ls)) where
    -- the first key that is equal to an earlier one would be reported
    none-below : (n i : ℕ) → i < n → IsRepeatAt (keys_so_far (level_open o l)) i → ⊥
    none-below zero i below r = absurd (omega (arith, below))
    none-below (suc n) i below r =
        let t = reported_within limits input small (l ∷ ls) rest (record { outside = open_maps (opens o ls); pair = i }) levels e keeps (o, inr (outer, refl, (r, λ j less again. none-below n j (omega (arith, less, below)) again))) in
        never_known limits input _ i t.key known

  all-different : (ls : List Level) (rest : List ℕ) → AreLevels limits.depth ls → input ≡ bytes_before ls ++ rest → KeepsToKinds limits plain (bytes_before ls) → AreOpenKeysDifferent (opens o ls)
  all-different [] rest levels e keeps = (λ i r. absurd (omega (arith, r.2)), tt)
  all-different (l ∷ ls) rest levels e keeps =
      let outer = all-different ls (level_bytes l ++ rest) levels.2 (e ∙ append_assoc (bytes_before ls) (level_bytes l) rest) (keeps_prefix limits plain (bytes_before ls) (level_bytes l) (begins_before limits.depth (l ∷ ls) levels) keeps) in
      (λ i r. none-below l ls rest levels e keeps outer (suc i) i (omega arith) r, outer)

pub known-distinct : (limits : Bounds) (input : List ℕ) → length input ≤ 2 ^ 62 → BeginsTaken limits.depth input → (ls : List Level) (rest : List ℕ) → AreLevels limits.depth ls → input ≡ bytes_before ls ++ rest → KeepsToKinds limits plain (bytes_before ls) → AreKeysDistinct ls
known-distinct limits input small known ls rest levels e keeps = (Bytewise, all-different limits input small known Bytewise ls rest levels e keeps)
