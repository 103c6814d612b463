-- The texts of the first steps of a path.
use Rattle.std.proofs.Common.{ℕ, Option, List, [], ◌∷◌, ◌++◌, refl, sym, ap, ◌∙◌, append_assoc, append-nil, subst, codes}
use Rattle.std.{specs.Io.KnownBytes.Appends, proofs.KnownBytes.Appends-trans}
use Rattle.cbor_diag.specs.ItemPath.{AreStepTexts, IsStepText, IsPathText}
use Rattle.cbor_diag.specs.{inner.Written.Writes, declared.item_path.Step.Step}

-- the prefix of a path, with the steps so far
pub record HasWritten (item : List ℕ) (done : List Step) (old new : Option (List ℕ)) : Type 0 where
  pub steps : List ℕ
  pub are : AreStepTexts item done steps
  pub written : Appends old new (codes "$" ++ steps)

texts_more : (item : List ℕ) (done : List Step) (s : Step) (texts t : List ℕ) → AreStepTexts item done texts → IsStepText item s t → AreStepTexts item (done ++ s ∷ []) (texts ++ t)
texts_more item [] s texts t are is = (t, [], is, refl, ap (λ x. x ++ t) are ∙ sym (append-nil t))
texts_more item (d ∷ ds) s texts t (first, rest, first_is, rest_are, joins) is =
    (first, rest ++ t, first_is, texts_more item ds s rest t rest_are is, ap (λ x. x ++ t) joins ∙ append_assoc first rest t)

pub one_more : (item : List ℕ) (done : List Step) (s : Step) (old mid new : Option (List ℕ)) → HasWritten item done old mid → Writes (IsStepText item s) mid new → HasWritten item (done ++ s ∷ []) old new
one_more item done s old mid new h w = record {
  steps = h.steps ++ w.text;
  are = texts_more item done s h.steps w.text h.are w.is;
  written = subst (Appends old new) (append_assoc (codes "$") h.steps w.text) (Appends-trans old mid new (codes "$" ++ h.steps) w.text h.written w.written);
}

pub path_written : (item : List ℕ) (way : List Step) (old new : Option (List ℕ)) → HasWritten item way old new → Writes (IsPathText item way) old new
path_written item way old new h = record { text = codes "$" ++ h.steps; is = record { steps = h.steps; are = h.are; is = refl }; written = h.written }

-- a text for which this holds was written
pub just : (Is : List ℕ → Type 0) (old new : Option (List ℕ)) (t : List ℕ) → Is t → Appends old new t → Writes Is old new
just Is old new t is w = record { text = t; is = is; written = w }
