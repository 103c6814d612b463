-- Items that are skipped one by one.
use Rattle.std.proofs.Common.{◌≡◌, ℕ, suc, ◌-◌, ◌≤◌, List, ◌++◌, length, take, take_all, inl, inr, refl, sym, ◌∙◌, subst, arith, append_assoc}
use Rattle.cbor_head.specs.Prelude.{Spelling, Spellings, no_spellings, a_spelling, spell, spell_all, spellings_count}
use Rattle.cbor_head.specs.Prelude.{plain, Bounds}
use Rattle.cbor_head.specs.declared.keys.Keys.TheVariants.{Any}
use Rattle.theory_values.proofs.{Accepted.accepts_exactly, OneVerdict.one_verdict, ReadLaws.unique}
use Rattle.theory_verdicts.{specs.Kinds.KeepsToKinds, proofs.Decisions.whole_beside, specs.Levels.IsTaken, specs.Levels.AreTaken}
use Rattle.cbor_parser.specs.declared.parser.ParseError.TheVariants as errors
use Rattle.cbor_parser.specs.{declared.parser.ParseError.ParseError, inner.Parser.BeginsTaken, inner.Parser.IsStopWithin}
use Rattle.cbor_parser.{proofs.ReportedMaps.never_known, specs.inner.Skip.HasItemsAtStart}

-- no items
pub none_at_start : (d : ℕ) (rest : List ℕ) (count : ℕ) (following : List ℕ) → count ≡ 0 → HasItemsAtStart d rest count following → rest ≡ following
none_at_start d rest count following none h = h.bytes_are ∙ go h.items (h.count_is ∙ none)
  where
    go : (ss : Spellings) → spellings_count ss ≡ 0 → spell_all ss ++ following ≡ following
    go no_spellings e = refl
    go (a_spelling s ss) e = absurd (cc e)

-- the first of them, and those after it
pub record IsOneMore (d : ℕ) (rest : List ℕ) (count : ℕ) (following : List ℕ) : Type 0 where
  pub item : Spelling
  pub taken : IsTaken d item
  pub more : List ℕ
  pub bytes : rest ≡ spell item ++ more
  pub others : HasItemsAtStart d more count following

pub one_more : (d : ℕ) (rest : List ℕ) (count : ℕ) (following : List ℕ) → HasItemsAtStart d rest (suc count) following → IsOneMore d rest count following
one_more d rest count following h = go h.items h.taken h.count_is h.bytes_are
  where
    go : (ss : Spellings) → AreTaken (d - 1) ss → spellings_count ss ≡ suc count → rest ≡ spell_all ss ++ following → IsOneMore d rest count following
    go no_spellings t n e = absurd (cc n)
    go (a_spelling s ss) t n e = record {
      item = s;
      taken = record { spelled = t.0.spelled; within = omega (arith, t.0.within); clean = t.0.clean };
      more = spell_all ss ++ following;
      bytes = e ∙ append_assoc (spell s) (spell_all ss) following;
      others = record { items = ss; taken = t.1; space = h.space; count_is = omega (arith, n); bytes_are = refl };
    }

-- a parse of an item that is known to be valid does not stop if no request is refused and the kinds of keys are not judged
pub never-stops : (limits : Bounds) (input : List ℕ) → limits.keys ≡ Any → length input ≤ limits.bytes → BeginsTaken limits.depth input → (e : ParseError) → IsStopWithin ⊥ limits input e → ⊥
never-stops limits input any within known (errors.Repeated following pair) h = never_known limits input following pair h known
never-stops limits input any within known (errors.Refused f) (inr x) = x.1
never-stops limits input any within (item, more, taken, prefix) (errors.Refused f) (inl v) =
    let all : input ≡ take limits.bytes input = sym (take_all limits.bytes input within) in
    let keeps : KeepsToKinds limits plain (spell item) = λ asks s c starts of_kind ends. cc (any, asks.1) in
    let accepted = (accepts_exactly limits plain input item).1 (
      more,
      (taken.spelled, taken.within, sym prefix ∙ all),
      whole_beside limits plain item (record { spelled = taken.spelled; within = taken.within; bytes_are = refl }) keeps (taken.clean 0),
    ) in
    cc (one_verdict limits plain input _ _ (v input all) accepted)

-- the others follow one item
pub gone_on : (d : ℕ) (rest : List ℕ) (count : ℕ) (following : List ℕ) → HasItemsAtStart d rest (suc count) following → (item : Spelling) (more : List ℕ) → IsTaken d item → rest ≡ spell item ++ more → HasItemsAtStart d more count following
gone_on d rest count following h item more taken e =
    let o = one_more d rest count following h in
    subst (λ (x : List ℕ). HasItemsAtStart d x count following) (sym (unique item o.item taken.spelled o.taken.spelled more o.more (sym e ∙ o.bytes)).1) o.others
