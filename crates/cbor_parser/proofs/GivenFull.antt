-- A container without further members, given to a sink: it ends, or a key is reported that is the same as an earlier
-- one.
use Rattle.std.proofs.Common.{◌≡◌, ℕ, Bool, List, ◌++◌, length, refl, sym, ◌∙◌, ap, inl, inr, arith, length-append}
use Rattle.cbor_head.specs.Prelude.{Spelling, array, a_map, spell}
use Rattle.cbor_builder.specs.declared.repeat.Repeat.{Repeat}
use Rattle.theory_verdicts.specs.Levels.{Level, some_member, some_key, bytes_before, ParseState}
use Rattle.theory_verdicts.proofs.CleanParts.{clean-within}
use Rattle.cbor_parser.specs.Sink.{Fills, AgreesAsFull, Reported, takes_key, is_map, IsEndedAs, IsReportedFull, IsContainerFull, Ends, IsKeyless, Repeats}
use Rattle.cbor_parser.specs.inner.Parser.{HasEnded, IsFull, IsToEnd, IsCellFull}
use Rattle.cbor_parser.specs.{Expected.pairs, inner.OpenContainer.Cell}

-- a key is expected where a map ends
ended-kind : (l : Level) (s : Spelling) → IsEndedAs l s → takes_key l ≡ is_map s
ended-kind (some_key done) (a_map w es) e = refl
ended-kind (some_member done) (array w ss) e = refl
ended-kind l s e = absurd e

module _ (S : Type 0) (agrees : S → S → ParseState → Type 0) (trusts : Bool) (start : S) (d : ℕ) (input : List ℕ) where
  -- of its item something else is known
  pub known-as : (P Q : List Level → Spelling → Type 0) (cs : List Cell) (rest : List ℕ) → (s : IsFull S agrees trusts P d input cs rest) → Q s.ls s.item → IsFull S agrees trusts Q d input cs rest
  known-as P Q cs rest s given =
      record { ls = s.ls; item = s.item; levels = s.levels; spelled = s.spelled; within = s.within; cells = s.cells; given = given; bytes = s.bytes; small = s.small; known = s.known }

  fills-of : (P : List Level → Spelling → Type 0) (cs : List Cell) (rest : List ℕ) → (s : IsFull S agrees trusts P d input cs rest) → Fills trusts d s.ls s.item
  fills-of P cs rest s =
      record {
        levels = s.levels;
        spelled = s.spelled;
        within = s.within;
        short = omega (arith, s.small, ap length s.bytes, length-append (bytes_before s.ls ++ spell s.item) rest);
        clean = λ e. let (item, more, taken, prefix) = s.known e in clean-within d s.ls s.item item rest more s.levels s.spelled s.within taken (sym s.bytes ∙ prefix);
      }

  -- ---- one that is to end

  pub container-full : (t : Bool) (cs : List Cell) (g : S) (rest : List ℕ) → IsToEnd S agrees trusts t start d input cs g rest → IsContainerFull S agrees trusts t g
  container-full t cs g rest s = (start, d, s.ls, s.item, fills-of _ cs rest s, s.given)

  pub has-ended : (t : Bool) (cs : List Cell) (g new : S) (rest : List ℕ) → IsToEnd S agrees trusts t start d input cs g rest → Ends S agrees trusts t g new → HasEnded S agrees trusts start d input cs new rest
  has-ended t cs g new rest s ends = known-as _ _ cs rest s (ends start d s.ls s.item (fills-of _ cs rest s) s.given)

  -- one without keys ends
  pub keyless-ends : (t : Bool) (cs : List Cell) (g : S) (rest : List ℕ) (repeat : Repeat) → IsFull S agrees trusts (λ ls s. AgreesAsFull S (Reported S agrees t) d start g ls s × IsKeyless s) d input cs rest → Repeats S agrees trusts t g repeat → ⊥
  keyless-ends t cs g rest repeat s repeats = (repeats start d s.ls s.item (fills-of _ cs rest s) s.given.0).1 s.given.1

  -- ---- the one of this cell, within those around it

  module _ (t : Bool) (c : Cell) (cs : List Cell) (g : S) (rest : List ℕ) (reported : t ≡ pairs c.expected) (s : IsCellFull S agrees trusts (AgreesAsFull S agrees d start g) d input c cs rest) where
    -- the sink gets the right flag for a map
    agrees-reported : AgreesAsFull S (Reported S agrees t) d start g s.ls s.item
    agrees-reported =
        let kind : t ≡ is_map s.item = reported ∙ s.given.1.kind in
        elim s.given.0 [ inl given ↦ inl (given, kind) | inr (l, ended, levels, given) ↦ inr (l, ended, levels, (given, kind ∙ sym (ended-kind l s.item ended))) ]

    full-to-end : IsToEnd S agrees trusts t start d input cs g rest
    full-to-end = known-as _ _ cs rest s agrees-reported

    pub full-asked : IsContainerFull S agrees trusts t g
    full-asked = container-full t cs g rest full-to-end

    pub full-ended : (new : S) → Ends S agrees trusts t g new → HasEnded S agrees trusts start d input cs new rest
    full-ended new = has-ended t cs g new rest full-to-end

    -- it does not end
    pub full-repeats : (repeat : Repeat) → Repeats S agrees trusts t g repeat → IsCellFull S agrees trusts (λ ls item. IsReportedFull ls item repeat) d input c cs rest
    full-repeats repeat repeats = known-as _ _ cs rest s ((repeats start d s.ls s.item (fills-of _ cs rest s) agrees-reported).0, s.given.1)
