-- A builder of canonical bytes that is given the parts of an item: its position after each.
use Rattle.std.proofs.Common.{◌≡◌, ℕ, suc, ◌+◌, ◌-◌, ◌^◌, ◌<◌, Bool, true, false, List, [], ◌∷◌, ◌++◌, length, refl, sym, ap, ap₂, ◌∙◌, subst, arith, inl, inr, ◌↔◌, IsNone, Option, Some, None, MatchOption, IfSome, Result, Ok, Err, IfOk, length-append}
use Rattle.std.specs.Option.{is_some}
use Rattle.cbor_head.specs.Prelude.{canonical, canonical_all, canonical_entries, head, shortest_head, Spelling, Spellings, SpelledEntries, array, a_map, spell, spell_all, spellings_count, value_of, values_of, entries_of, Value}
use Rattle.cbor_head.specs.declared.major.Major.TheVariants as majors
use Rattle.cbor_head.specs.declared.{major.Major.Major, order.KeyOrder.KeyOrder, width.Width.TheVariants.Indefinite}
use Rattle.theory_values.specs.Parts as parts
use Rattle.theory_values.{proofs.Counts.holds_fits, specs.Parts.IsInContainer}
use Rattle.cbor_builder.specs.Built.{Built, built, AreOpenKeysDifferent, IsLeaf, IsInString, HasDistinctKeysSoFar, TakesPart}
use Rattle.cbor_builder.specs.declared.repeat.Repeat.{Repeat}
use Rattle.theory_verdicts.proofs.Given.{full-array, full-map, settled}
use Rattle.theory_verdicts.specs.Given.{level_open, opens, AgreesAt}
use Rattle.theory_verdicts.specs.Levels.{AreTaken, ArePairsTaken, Level, IsOpened, a_member, some_member, some_key, AreLevels, bytes_before, ParseState, item_expected, item_full, settle}
use Rattle.theory_verdicts.{proofs.Levels.of-opened, proofs.Levels.pairs-shorter, proofs.Valid.count_bounded, specs.Place.Place}
use Rattle.theory_verdicts.specs.Reading.{string_major, string_value}
use Rattle.cbor_parser.specs.Sink.{FindsNoRepeat, leaf_value, Reported, Completes, Fills, IsEndedAs, AgreesAsFull, IsItemExpected, Gives, Opens, IsContainerFull, Ends, IsChunkExpected, EndsString}
use Rattle.cbor_parser.specs.CanonSink.{canon_agrees, canon_holds}

-- ---- the bytes of values

pub leaf-bytes : (o : KeyOrder) (m : Major) (n : ℕ) → IsLeaf m → canonical o (leaf_value m n) ≡ shortest_head m n
leaf-bytes o majors.Unsigned n l = refl
leaf-bytes o majors.Negative n l = refl
leaf-bytes o majors.Simple n l = refl
leaf-bytes o _ n l = absurd l

pub string-bytes : (o : KeyOrder) (t : Bool) (content : List ℕ) → canonical o (string_value t content) ≡ shortest_head (string_major t) (length content) ++ content
string-bytes o true content = refl
string-bytes o false content = refl

-- ---- an item is expected

pub opens-take : (o : KeyOrder) (d : ℕ) (ms : List Level) → AreLevels d ms → length (bytes_before ms) < 2 ^ 63 → TakesPart (opens o ms)
opens-take o d (a_member w left done ∷ ms) h l = omega (arith, holds_fits w (spellings_count done + suc left) h.1.0)
opens-take o d (some_member done ∷ ms) h l =
    omega (arith, l, count_bounded done, length-append (bytes_before ms) (head majors.Array Indefinite 0 ++ spell_all done), length-append (head majors.Array Indefinite 0) (spell_all done))
opens-take o d _ h l = tt

pub takes : (t : Bool) (g : Built) → IsItemExpected Built canon_agrees t g → TakesPart g.open_levels
takes t g (start, d, ls, k, (at, reported)) = subst TakesPart (sym at.1) (opens-take start.order d ls k.levels k.short)

-- it is given
stood : (start new : Built) (d : ℕ) (t : List ℕ) (q : Place) (os : List parts.Open) (height : ℕ) (st : ParseState) → AgreesAt start.order d t q os height st → new.order ≡ start.order → new.open_levels ≡ os → canon_agrees start new st
stood start new d t q os height (item_full ls s) h same is = (same, (d - length ls, h.3.0, h.3.1, is ∙ h.3.2))
stood start new d t q os height _ h same is = (same, is ∙ h.3)

settles : (start new : Built) (d : ℕ) (ls : List Level) (s : Spelling) → Completes d ls s → new.order ≡ start.order → new.open_levels ≡ parts.give (canonical start.order (value_of s)) (opens start.order ls) → canon_agrees start new (settle ls s)
settles start new d ls s k same is =
    stood start new d _ _ _ _ (settle ls s) (settled start.order d ls s k.levels k.taken (omega (arith, k.short))) same is

pub given : (t : Bool) (v : Value) (out : List ℕ) (old new : Built) → ((o : KeyOrder) → canonical o v ≡ out) → new ≡ built old.order (parts.give out old.open_levels) → Gives Built canon_agrees t v old new
given t v out old new same is start d ls s (at, reported) k e =
    let o = start.order in
    settles start new d ls s k (ap (λ (x : Built). x.order) is ∙ at.0)
    (ap (λ (x : Built). x.open_levels) is ∙ ap₂ (λ (x : List ℕ) (os : List parts.Open). parts.give x os) (sym (same o) ∙ ap (canonical o) (sym e)) at.1)

-- ---- containers

pub level-opened : (o : KeyOrder) (m : Major) (n : ℕ) (l : Level) → IsOpened m n l → level_open o l ≡ parts.opened m n
level-opened o = of-opened (λ m n l. level_open o l ≡ parts.opened m n) (λ w left n. refl) (λ n. refl) (λ w left n. refl) (λ n. refl) (λ w n. refl)

pub opened : (t : Bool) (m : Major) (n : ℕ) (old new : Built) → new ≡ built old.order (parts.opened m n ∷ old.open_levels) → Opens Built canon_agrees t m n old new
opened t m n old new is start ls l (at, reported) k = (
  ap (λ (x : Built). x.order) is ∙ at.0,
  ap (λ (x : Built). x.open_levels) is ∙ ap₂ (λ (c : parts.Open) (os : List parts.Open). c ∷ os) (sym (level-opened start.order m n l k)) at.1,
)

-- one of indefinite length has no more members
pub full-indefinite : {trusts : Bool} (start g : Built) (d : ℕ) (ls : List Level) (l : Level) (s : Spelling) → canon_agrees start g (item_expected (l ∷ ls)) → AreLevels d (l ∷ ls) → IsEndedAs l s → Fills trusts d ls s → canon_agrees start g (item_full ls s)
full-indefinite start g d ls (some_member done) (array w ss) at levels ended k =
    let e = d - suc (length ls) in (
      at.0,
      (
        suc e,
        _,
        full-array start.order (suc e) e w ss (spellings_count done) (canonical_all start.order (values_of done)) (ap spellings_count (sym ended)) (ap (λ (x : Spellings). canonical_all start.order (values_of x)) (sym ended))
            (subst (AreTaken e) (sym ended) levels.1) k.spelled.0 (omega arith),
        at.1,
      ),
    )
full-indefinite start g d ls (some_key done) (a_map w es) at levels ended k =
    let e = d - suc (length ls) in
    let short = k.short in (
      at.0,
      (
        suc e,
        _,
        full-map start.order (suc e) e w es (canonical_entries start.order (entries_of done)) (ap (λ (x : SpelledEntries). canonical_entries start.order (entries_of x)) (sym ended))
            (subst (ArePairsTaken e) (sym ended) levels.1) k.spelled.0 (omega arith)
            (omega (arith, short, length-append (bytes_before ls) (spell (a_map w es)), pairs-shorter w es)),
        at.1,
      ),
    )
full-indefinite start g d ls l s at levels ended k = absurd ended

pub agrees-full : {trusts : Bool} (t : Bool) (start g : Built) (d : ℕ) (ls : List Level) (s : Spelling) → Fills trusts d ls s → AgreesAsFull Built (Reported Built canon_agrees t) d start g ls s → canon_agrees start g (item_full ls s)
agrees-full t start g d ls s k (inl at) = at.0
agrees-full t start g d ls s k (inr (l, ended, levels, at)) = full-indefinite start g d ls l s at.0 levels ended k

pub in-container : {trusts : Bool} (t : Bool) (g : Built) → IsContainerFull Built canon_agrees trusts t g → IsInContainer g.open_levels
in-container t g (start, d, ls, s, k, full) = let at = agrees-full t start g d ls s k full in subst IsInContainer (sym at.1.3) (go at.1.1 at.1.2.container ls)
  where
    go : (c : parts.Open) → ((other : parts.Open) (os : List parts.Open) → IsInContainer (c ∷ other ∷ os)) → (ms : List Level) → IsInContainer (c ∷ opens start.order ms)
    go c inside [] = inside (parts.plain []) []
    go c inside (l ∷ ms) = inside (level_open start.order l) (opens start.order ms)

pub ended : {trusts : Bool} (t : Bool) (old new : Built) → HasDistinctKeysSoFar old.open_levels → new ≡ built old.order (parts.close old.order old.open_levels) → Ends Built canon_agrees trusts t old new
ended t old new distinct is start d ls s k stood =
    let at = agrees-full t start old d ls s k stood in
    let full = at.1.2 in
    let clean = full.clean (subst HasDistinctKeysSoFar at.1.3 distinct) in (
      clean,
      settles start new d ls s (record { levels = k.levels; taken = record { spelled = k.spelled; within = k.within; clean = clean }; short = k.short }) (ap (λ (x : Built). x.order) is ∙ at.0)
          (ap (λ (x : Built). x.open_levels) is ∙ ap₂ (λ (o : KeyOrder) (os : List parts.Open). parts.close o os) at.0 at.1.3 ∙ ap (λ (x : List ℕ). parts.give x (opens start.order ls)) full.canonical_is),
    )

-- by what the builder returns
pub ends-if : (trusts : Bool) {E : Type 0} (r : Result (Option Repeat) E) (t : Bool) (old new : Built) → IfOk r (λ reported. IsNone reported ↔ HasDistinctKeysSoFar old.open_levels) → IfOk r (λ reported. IsNone reported → new ≡ built old.order (parts.close old.order old.open_levels))
    → IfOk r (λ reported. IsNone reported → Ends Built canon_agrees trusts t old new)
ends-if trusts (Ok reported) t old new x y = λ none. ended t old new (x.0 none) (y none)
ends-if trusts (Err e) t old new x y = tt

pub repeats-if : {E : Type 0} (r : Result (Option Repeat) E) (D : Type 0) (P Q : Repeat → Type 0) → ((repeat : Repeat) → P repeat → (D → ⊥) → Q repeat) → IfOk r (λ reported. IsNone reported ↔ D) → IfOk r (λ reported. IfSome reported P) → IfOk r (λ reported. IfSome reported Q)
repeats-if (Ok (Some repeat)) D P Q f d h = f repeat h (λ x. cc (d.1 x))
repeats-if _ D P Q f d h = tt

-- ---- strings in chunks

pub string-opens : (t : Bool) → parts.opened (string_major t) 0 ≡ parts.a_string (string_major t) []
string-opens true = refl
string-opens false = refl

pub in-string : (key t : Bool) (g : Built) → IsChunkExpected Built canon_holds key t g → IsInString g.open_levels
in-string key t g (start, d, ls, content, space, at, reported) = subst IsInString (sym at.1) (go ls)
  where
    go : (ls : List Level) → IsInString (parts.a_string (string_major t) content ∷ opens start.order ls)
    go [] = tt
    go (l ∷ ls) = tt

pub string-ended : (key t : Bool) (old new : Built) → new ≡ built old.order (parts.close old.order old.open_levels) → EndsString Built canon_agrees canon_holds key t old new
string-ended key t old new is start d ls content s at reported k e =
    settles start new d ls s k (ap (λ (x : Built). x.order) is ∙ at.0)
    (ap (λ (x : Built). x.open_levels) is ∙ ap₂ (λ (o : KeyOrder) (os : List parts.Open). parts.close o os) at.0 at.1
    ∙ ap (λ (x : List ℕ). parts.give x (opens start.order ls)) (sym (string-bytes start.order t content) ∙ ap (canonical start.order) (sym e)))

-- ---- keys

pub none-reported : {R : Type 0} (r : Option R) (X : Type 0) (P : R → Type 0) → MatchOption r X P → is_some r ≡ false → X
none-reported None X P h e = h
none-reported (Some r) X P h e = cc e

pub one-reported : {R : Type 0} (r : Option R) (X : Type 0) (P Q : R → Type 0) → MatchOption r X P → ((t : R) → P t → Q t) → IfSome r Q
one-reported None X P Q h f = tt
one-reported (Some r) X P Q h f = f r h

pub no-repeat : (g : Built) → AreOpenKeysDifferent g.open_levels → FindsNoRepeat Built canon_agrees canon_holds g
no-repeat g h start ls (inl at) = (start.order, subst AreOpenKeysDifferent at.1 h)
no-repeat g h start ls (inr (is_text, content, at)) = (start.order, (subst AreOpenKeysDifferent at.1 h).1)
