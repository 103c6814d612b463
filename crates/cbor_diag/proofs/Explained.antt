-- An explanation, part by part.
use Rattle.std.proofs.Common.{ℕ, ◌≤◌, Option, List, ◌++◌, length, codes}
use Rattle.std.{specs.Io.KnownBytes.Appends, proofs.KnownBytes.Appends-trans}
use Rattle.cbor_head.specs.declared.reason.Refusal.{Refusal}
use Rattle.cbor_diag.specs.{Explanation.sentences, Explanation.IsExplained, Surroundings.surroundings, ItemPath.IsPathText, inner.Written.Writes}
use Rattle.cbor_diag.specs.declared.item_path.Step.{Step}

pub explained : (depth : ℕ) (item : List ℕ) (f : Refusal) (way : List Step) → length way ≤ depth → (a b c d e z : Option (List ℕ)) → Appends a b (sentences f.reason)
    → Appends b c (surroundings item f.place) → Appends c d (codes "  at ") → Writes (IsPathText item way) d e → Appends e z (codes "\n") → IsExplained depth item f a z
explained depth item f way within a b c d e z p q at w end =
    let sentences_and_bytes = Appends-trans a b c (sentences f.reason) (surroundings item f.place) p q in
    let up_to_path = Appends-trans a c d (sentences f.reason ++ surroundings item f.place) (codes "  at ") sentences_and_bytes at in
    let path = Appends-trans a d e (sentences f.reason ++ surroundings item f.place ++ codes "  at ") w.text up_to_path w.written in
    record {
      path = w.text;
      leads = record { way = way; within = within; is = w.is };
      written = Appends-trans a e z (sentences f.reason ++ surroundings item f.place ++ codes "  at " ++ w.text) (codes "\n") path end;
    }
