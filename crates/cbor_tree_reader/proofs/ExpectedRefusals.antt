-- What is refused where an item is expected: its head, what follows it, or the first byte of a key of another kind.
use Rattle.std.proofs.Common.{◌≡◌, ℕ, ◌-◌, ◌^◌, ◌<◌, ◌⊎◌, Option, None, List, [], ◌++◌, length, map, sym, ap, subst, inl, inr, arith}
use Rattle.std.{specs.Io.KnownBytes.Consumes, proofs.lemmas.List.length-map}
use Rattle.cbor_head.specs.Prelude.{plain, Complaint, Bounds}
use Rattle.cbor_head.specs.declared.reason.Refusal.{Refusal}
use Rattle.cbor_machine.specs.NextEvent.{ItemEventsView}
use Rattle.theory_verdicts.specs.Kinds.{AsksForKinds, KeepsToKinds, IsKeyExpectedIn, IsOfOneHead, HasBasicPrefix}
use Rattle.theory_verdicts.proofs.Items.{cause-in, cause-prefix, undecided-in, undecided-prefix}
use Rattle.theory_verdicts.proofs.KindBytes.{Begins, keeps_expected, judged_begins, one_head_prefix}
use Rattle.theory_verdicts.specs.Reading.{IsUndecided, HasCause, IsMemory, IsReached}
use Rattle.theory_verdicts.{proofs.ItemExpected.ExpectsItem, specs.Judged.IsJudged, specs.Levels.frame, specs.Levels.bytes_before, specs.Place.Container}
use Rattle.theory_verdicts.{specs.RefusedAfter.IsRefusedAfter, proofs.LevelFrames.around_levels, proofs.LevelFrames.path, proofs.KindFrames.IsAround}
use Rattle.theory_verdicts.proofs.RefusedAfter.{stopped_by}
use Rattle.cbor_tree_reader.specs.{declared.tree_items.TreeItems.TreeItems, inner.ItemPrefix.IsExpectedAt, inner.TreeItems.AreApart}
use Rattle.cbor_tree_reader.proofs.{PartKinds.basic-prefix, PathFrames.found_within}

module _ (v : TreeItems) (b : Bounds) (e : ItemEventsView) (t : List ℕ) (d : IsExpectedAt v b e t) where
  pub few : length (bytes_before d.ls) < 2 ^ 63
  few = let at = d.at in let taken = d.taken in omega (arith, at.agrees.agrees.taken, at.agrees.agrees.limited, at.bytes, at.limits.1, ap length taken)

  abbrev gs : List Container
  gs = map frame d.ls

  lift : (p : List ℕ) (found : Option Complaint) → IsJudged plain (length (bytes_before d.ls)) (b.depth - length gs) p found → IsJudged plain 0 (b.depth - 0) (bytes_before d.ls ++ p) found
  lift p found j =
      let whole : b.depth ≡ b.depth - 0 = omega arith in
      subst (λ (n : ℕ). IsJudged plain 0 n (bytes_before d.ls ++ p) found) whole
      (found_within v.builder.order b.depth d.ls p found d.levels few (subst AreApart d.open_levels d.apart) (subst (λ (n : ℕ). IsJudged plain (length (bytes_before d.ls)) (b.depth - n) p found) (length-map d.ls frame) j))

  -- what was read so far
  pub expects : ExpectsItem plain b t gs (IsKeyExpectedIn d.ls)
  expects = record {
    left = b.depth - length d.ls;
    fs = path d.ls;
    around = subst (λ (x : List ℕ). IsAround b.depth (b.depth - length d.ls) (path d.ls) x (IsKeyExpectedIn d.ls)) (sym d.taken) (around_levels b.depth d.ls d.levels);
    space = ap (λ (n : ℕ). b.depth - n) (length-map d.ls frame);
    lift = λ p found j.
        subst (λ (x : List ℕ). IsJudged plain 0 (b.depth - 0) (x ++ p) found) (sym d.taken) (lift p found (subst (λ (x : List ℕ). IsJudged plain (length x) (b.depth - length gs) p found) d.taken j));
    keeps = d.keeps;
  }

  pub undecided-whole : (x : List ℕ) → IsUndecided plain b gs t x → IsUndecided plain b [] [] (t ++ x)
  undecided-whole x u = undecided-in plain b [] gs [] t expects.lift x u

  -- an item that is refused after its head
  module _ (bytes : List ℕ) (one : IsOfOneHead bytes) (basic : AsksForKinds b plain → IsKeyExpectedIn d.ls → HasBasicPrefix bytes) where
    keeps-split : (x last : List ℕ) (found : Option Complaint) → bytes ≡ x ++ last → IsJudged plain (length t) (b.depth - length gs) x found → KeepsToKinds b plain (t ++ x)
    keeps-split x last found e j =
        keeps_expected b plain expects.around x (subst (λ (n : ℕ). Begins n x) expects.space (judged_begins plain (length t) (b.depth - length gs) x found j)) (one_head_prefix x last (subst IsOfOneHead e one))
        (λ asked expected. basic-prefix x last (subst HasBasicPrefix e (basic asked expected))) d.keeps

    pub refused-item : (from to : Option (List ℕ)) (f : Refusal) → Consumes from to bytes → f.read ≡ length (t ++ bytes) → (IsMemory f × IsReached b (t ++ bytes) × IsUndecided plain b gs t bytes) ⊎ HasCause plain b gs t bytes to f → IsRefusedAfter plain b t from to f
    refused-item from to f consumed read why = elim why [
      | inl m ↦ stopped_by plain b t from to f bytes consumed read (inl (m.0, m.1, undecided-in plain b [] gs [] t expects.lift bytes m.2))
          (λ rest is. subst (KeepsToKinds b plain) (sym (undecided-prefix plain b [] gs [] t expects.lift bytes m.2)) (keeps-split m.2.p m.2.last None m.2.splits m.2.judged))
      | inr h ↦ stopped_by plain b t from to f bytes consumed read (inr (cause-in plain b [] gs [] t expects.lift bytes to f h))
          (λ rest is. subst (KeepsToKinds b plain) (sym (cause-prefix plain b [] gs [] t expects.lift bytes to f h)) (keeps-split h.p h.last h.found h.splits h.judged))
    ]
