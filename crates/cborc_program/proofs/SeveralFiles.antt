-- `check` of several files, one after another.
use Rattle.std.proofs.Common.{◌≡◌, ◌≢◌, ◌≤◌, ◌<◌, ◌+◌, suc, ap, take, length, ◌++◌, ◌∷◌, ◌∙◌, ℕ, Bool, true, false, List, [], Option, arith, inl, inr, max, refl}
use Rattle.std.{proofs.Math.ListN.get_or, proofs.Math.Seq.take-suc, proofs.lemmas.Bool.Decides.Decides-eqb, specs.Prelude.◌==◌, specs.Prelude.if◌then◌else◌}
use Rattle.std.specs.Borrow.{Bor}
use Rattle.cborc_files.specs.Folder.{Files, KeepsFiles}
use Rattle.cborc_words.specs.declared.request.Verbosity.TheVariants as verbosities
use Rattle.cborc_words.specs.declared.request.{Accepted.Accepted, Action.TheVariants.Check, Options.Options, Request.Request, Verbosity.Verbosity}
use Rattle.cborc_commands.specs.declared.status.Status.{Status, TheVariants.Accepted as accepted_status, TheVariants.Refused, TheVariants.Misused, TheVariants.Failed}
use Rattle.cborc_commands.specs.Outcome.{IsFinished, IsReportedBy, IsStatus, done, stopped}
use Rattle.cborc_commands.specs.Performed.{IsActionDone}
use Rattle.cborc_program.specs.SeveralFiles.{label, line_of, request_for, AreAllChecked, IsNamed}

-- `check` changes no file
kept_done : (accepted : Accepted) (sequence : Bool) (options : Options) (source : List ℕ) (old new : Option Files) (before after : Option (List ℕ)) (s : Status)
    → IsActionDone (Check accepted) sequence options source old new before after s → KeepsFiles old new
kept_done accepted false options source old new before after accepted_status h = h.1
kept_done accepted true options source old new before after accepted_status h = h.1
kept_done accepted false options source old new before after Refused h = absurd h
kept_done accepted true options source old new before after Refused h = absurd h
kept_done accepted false options source old new before after Misused h = absurd h
kept_done accepted true options source old new before after Misused h = absurd h
kept_done accepted false options source old new before after Failed h = absurd h
kept_done accepted true options source old new before after Failed h = absurd h

-- a status is at most 3
at_most : (s : Status) (status : ℕ) → IsStatus s status → status ≤ 3
at_most accepted_status status (inl e) = omega (arith, e)
at_most Refused status (inl e) = omega (arith, e)
at_most Misused status (inl e) = omega (arith, e)
at_most Failed status (inl e) = omega (arith, e)
at_most s status (inr e) = omega (arith, e)

module _ (request : Request) (accepted : Accepted) (path : Bor (List ℕ)) (old new : Option Files) (before after : Option (List ℕ)) (status : ℕ) where
  when_finished : IsFinished (request_for request accepted path) old new before after status → KeepsFiles old new × (status ≤ 3)
  when_finished (done s taken d keeps is) = (kept_done accepted request.sequence request.options path.now old new before taken s d, at_most s status is)
  when_finished (stopped fault taken not kept silent keeps is) = (kept, at_most _ status is)

module _ (request : Request) (accepted : Accepted) (path : Bor (List ℕ)) (old new : Option Files) (before after : Option (List ℕ)) (status : ℕ) where
  -- what each report of `check` says of the files and the status
  pub reported : (verbosity : Verbosity) → IsReportedBy verbosity (request_for request accepted path) old new before after status → KeepsFiles old new × (status ≤ 3)
  reported verbosities.Quiet h = when_finished request accepted path old new _ _ status h.0
  reported verbosities.Plain h = when_finished request accepted path old new before after status h
  reported verbosities.Explained h = when_finished request accepted path old new before after status h

first_worst : (worst own : ℕ) → worst ≡ 0 → max worst own ≡ max own 0
first_worst worst own e = omega (arith, e)

later_worst : (worst mine others own : ℕ) → worst ≡ max mine others → max worst own ≡ max mine (max others own)
later_worst worst mine others own e = omega (arith, e)

module _ (verbosity : Verbosity) (request : Request) (accepted : Accepted) where
  -- one more file is checked
  pub checked_more : (paths : List (Bor (List ℕ))) (path : Bor (List ℕ)) (old middle new : Option Files) (before taken after : Option (List ℕ)) (worst own : ℕ)
      → AreAllChecked verbosity request accepted paths old middle before taken worst
      → IsNamed verbosity (request_for request accepted path) middle new taken after own
      → AreAllChecked verbosity request accepted (paths ++ path ∷ []) old new before after (max worst own)
  checked_more [] path old middle new before taken after worst own (e, f, none) named =
      (new, after, own, 0, rw (e, f) at named, (refl, refl, refl), first_worst worst own none)
  checked_more (first ∷ paths) path old middle new before taken after worst own (files, got, mine, others, one, rest, is) named = (
    files,
    got,
    mine,
    max others own,
    one,
    checked_more paths path files middle new got taken after others own rest named,
    later_worst worst mine others own is,
  )

-- the paths before the next one, and it
pub one_more : (paths : List (Bor (List ℕ))) (i : ℕ) (none : Bor (List ℕ)) → i < length paths → take (i + 1) paths ≡ take i paths ++ get_or paths i none ∷ []
one_more paths i none within = let next : i + 1 ≡ suc i = omega arith in ap (λ (n : ℕ). take n paths) next ∙ take-suc paths i none within

-- what is written for a file whose report added something
pub line_is : (path text : List ℕ) → length text ≢ length (label path) → line_of path text ≡ text
line_is path text differs = go (length text == length (label path)) (λ e. differs ((Decides-eqb (length text) (length (label path))).0 e))
  where
    go : (b : Bool) → (b ≡ true → ⊥) → (if b then [] else text) ≡ text
    go true h = absurd (h refl)
    go false h = refl
