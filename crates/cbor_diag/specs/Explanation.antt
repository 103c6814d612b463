-- The text that explains a refusal.
use Rattle.std.specs.Prelude.{ℕ, ◌≡◌, ◌≤◌, List, ◌++◌, length, Option, codes}
use Rattle.std.specs.Io.KnownBytes.{Appends}
use Rattle.cbor_head.specs.declared.reason.{Reason.Reason, Refusal.Refusal}
use Rattle.cbor_diag.specs.{Sentences.meaning, Sentences.advice, Surroundings.surroundings, ItemPath.IsPathText, declared.item_path.Step.Step}

-- the sentences of a reason, a line each
abbrev pub sentences : Reason → List ℕ
sentences reason = codes "  " ++ meaning reason ++ codes "\n" ++ codes "  " ++ advice reason ++ codes "\n"

-- the text of a path of no more steps than the depth limit
pub record IsPath (depth : ℕ) (item path : List ℕ) : Type 0 where
  pub way : List Step
  pub within : length way ≤ depth
  pub is : IsPathText item way path

-- what a refusal means and what to do, the bytes around its offset, and the path to it
pub record IsExplained (depth : ℕ) (item : List ℕ) (f : Refusal) (old new : Option (List ℕ)) : Type 0 where
  pub path : List ℕ
  pub leads : IsPath depth item path
  pub written : Appends old new (sentences f.reason ++ surroundings item f.place ++ codes "  at " ++ path ++ codes "\n")

-- the sentences of a refusal's reason and the path to it, joined by line feeds
pub record IsExplanation (depth : ℕ) (item : List ℕ) (f : Refusal) (text : List ℕ) : Type 0 where
  pub path : List ℕ
  pub leads : IsPath depth item path
  pub is : text ≡ meaning f.reason ++ codes "\n" ++ advice f.reason ++ codes "\n" ++ path
