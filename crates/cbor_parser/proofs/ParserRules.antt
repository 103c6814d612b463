-- The position of a parse that gives a valid item to a sink.
use Rattle.std.proofs.Common.{◌≡◌, ◌-◌, ◌≤◌, ℕ, Bool, Bor, List, [], ◌∷◌, ◌⊎◌, length, refl, subst, inl, inr, arith}
use Rattle.cbor_head.specs.{Prelude.Bounds, declared.keys.Keys.TheVariants.IntegersAndTexts}
use Rattle.theory_verdicts.specs.{Levels.Level, Levels.ParseState, PathKinds.IsFitPrefix}
use Rattle.cbor_parser.specs.inner.Parser.{HasFilled, Expects, HasItem, Fills, Passes, Stops, Lacks, HasCome, IsRepeatVisited, IsStopWithin, TakesTo as Takes}
use Rattle.cbor_parser.specs.declared.parser.ParseError.TheVariants as errors
use Rattle.cbor_parser.specs.inner.Rules.{IsFilled, TakesTo, StopsAt, HasCellLeft, following}
use Rattle.cbor_parser.specs.inner.Begins.{IsAllowed, Begins, IsLeft}
use Rattle.cbor_parser.specs.declared.item_rules.Part.TheVariants as part
use Rattle.cbor_parser.specs.declared.parser.SinkStop.TheVariants as stop
use Rattle.cbor_parser.specs.declared.walk.WalkStop.TheVariants as walks
use Rattle.cbor_parser.specs.{declared.parser.ParseError.ParseError, inner.Kept.KeepsBefore, inner.OpenContainer.Cell}
use Rattle.cbor_parser.specs.{inner.Parts.TakesPrefix, inner.Parts.HasTaken, declared.container.Expected.TheVariants.Key, declared.item_rules.Part.Part}
use Rattle.cbor_parser.specs.declared.{walk.WalkStop.WalkStop, parser.Parser.Parser, parser.SinkStop.SinkStop, stack.Stack.Stack}
use Rattle.cbor_parser.{specs.Stack.around, specs.Stack.open_levels, specs.declared.item_start.Here.Here, proofs.Stacks.open_levels_count}
use Rattle.cbor_parser.proofs.{GivenStops.come-expected, GivenKinds.begun-keeps, GivenKinds.broken-keeps}

module _ (S : Type 0) (agrees : S → S → ParseState → Type 0) (trusts : Bool) (first now : Parser S) (limits : Bounds) (input : List ℕ) where
  abbrev pub Filled : List Cell → List ℕ → Type 0
  Filled = IsFilled (Parser S) ℕ (Fills S agrees trusts) (Passes S agrees trusts) first now limits input

  -- the innermost container is whole, or the input's item
  pub is_filled : (cs : List Cell) (rest : List ℕ) → HasFilled S agrees trusts first.sink limits.depth input cs now.sink rest → KeepsBefore limits.depth limits.keys input rest → Filled cs rest
  is_filled [] rest h k = absurd h
  is_filled (c ∷ []) rest h k = (h, k)
  is_filled (c ∷ d ∷ cs) rest h k = (h, k)

-- ---- what is taken

module _ (S : Type 0) (agrees : S → S → ParseState → Type 0) (trusts : Bool) (holds : S → S → List Level → Bool → List ℕ → Type 0) (lacked : S → Type 0) (first now new : Parser S) (limits : Bounds) (input : List ℕ) (k : Stack Cell) (cells : List Cell) (low : k.height ≤ length cells) (rest : List ℕ) (h : Expects S agrees trusts first now limits input (open_levels Cell k cells) rest) (cs : List Cell) (count : ℕ) where
  -- within these limits it begins no key of another kind
  pub taken : (p : Part SinkStop) → Takes S agrees trusts holds lacked p first.sink limits.depth input rest cs new.sink → TakesPrefix p (limits.depth - k.height) k.top rest → (HasTaken p → limits.keys ≡ IntegersAndTexts → k.top.expected ≡ Key → IsFitPrefix rest)
      → (p ≡ part.Untaken → Lacks limits cs count rest)
      → TakesTo (Parser S) ℕ SinkStop (Expects S agrees trusts) (Stops S agrees trusts holds lacked) (HasItem S agrees trusts) (Fills S agrees trusts) (Passes S agrees trusts) Lacks p first new limits input cs count rest
  taken (part.Item used) t prefix fits left = (t.0, t.1, (t.2, begun-keeps S agrees trusts first.sink limits.depth input limits.keys k cells now.sink rest (following used rest) low h.0 prefix (fits tt) h.1))
  taken (part.Head used) t prefix fits left = (t.0, t.1, (t.2, begun-keeps S agrees trusts first.sink limits.depth input limits.keys k cells now.sink rest (following used rest) low h.0 prefix (fits tt) h.1))
  taken (part.Break used) t prefix fits left =
      (t.0, t.1, is_filled S agrees trusts first new limits input cs (following used rest) t.2 (broken-keeps S agrees trusts first.sink limits.depth input limits.keys k.top (around Cell k cells) now.sink rest (following used rest) h.0 prefix h.1))
  taken part.Untaken t prefix fits left = ((t, h.1), left refl)
  taken (part.Stopped stop.Broken) t prefix fits left = (t.0, h.1, t.1)
  taken (part.Stopped stop.Repeated) t prefix fits left = absurd t
  taken (part.Stopped stop.Memory) t prefix fits left = t

-- ---- where it stops

-- before these bytes, at an item or at a string in chunks
abbrev pub StopsBefore : WalkStop SinkStop → Bor (List ℕ) → Type 0
StopsBefore w rest = (w ≡ walks.Untaken rest) ⊎ (w ≡ walks.Stopped rest stop.Broken)

module _ (S : Type 0) (agrees : S → S → ParseState → Type 0) (trusts : Bool) (holds : S → S → List Level → Bool → List ℕ → Type 0) (lacked : S → Type 0) (first now : Parser S) (limits : Bounds) (input : List ℕ) (cs : List Cell) (count : ℕ) where
  abbrev pub Stopped : WalkStop SinkStop → Type 0
  Stopped w = StopsAt (Parser S) ℕ SinkStop (Expects S agrees trusts) (Stops S agrees trusts holds lacked) Lacks w first now limits input cs count

  pub came : (w : WalkStop SinkStop) (rest : Bor (List ℕ)) → StopsBefore w rest → Stopped w → HasCome S agrees trusts holds first.sink limits.depth input cs now.sink rest.now × KeepsBefore limits.depth limits.keys input rest.now
  came w rest (inl e) h = let (s, left) = subst Stopped e h in (come-expected S agrees trusts holds first.sink limits.depth input cs now.sink rest.now s.0, s.1)
  came w rest (inr e) h = let s = subst Stopped e h in (s.0, s.1)

  pub repeats : (w : WalkStop SinkStop) (rest : Bor (List ℕ)) → w ≡ walks.Stopped rest stop.Repeated → Stopped w → IsRepeatVisited S agrees trusts now.repeat limits.depth input cs rest.now × KeepsBefore limits.depth limits.keys input rest.now
  repeats w rest e h = subst Stopped e h

-- ---- nothing that is allowed begins where it stops

module _ (S : Type 0) (agrees : S → S → ParseState → Type 0) (trusts : Bool) (holds : S → S → List Level → Bool → List ℕ → Type 0) (lacked : S → Type 0) (first now : Parser S) (limits : Bounds) (input : List ℕ) (k : Stack Cell) (cells : List Cell) (low : k.height ≤ length cells) where
  height-of : length (around Cell k cells) ≡ k.height
  height-of = omega (arith, open_levels_count Cell k cells low)

  pub left-there : (w : WalkStop SinkStop) (rest : Bor (List ℕ)) → StopsBefore w rest → HasCellLeft w k.height (length cells) limits → Stopped S agrees trusts holds lacked first now limits input (open_levels Cell k cells) (length cells) w
      → (here : Here) → IsAllowed limits.keys limits.depth k.top k.height here → Begins here rest.now → ⊥
  left-there w rest (inl e) free h here allowed begins =
      let stopped = subst (Stopped S agrees trusts holds lacked first now limits input (open_levels Cell k cells) (length cells)) e h in
      let space = subst (λ (x : WalkStop SinkStop). HasCellLeft x k.height (length cells) limits) e free in
      elim (subst (λ (n : ℕ). IsLeft limits.keys limits.depth k.top n (length cells) rest.now) height-of stopped.1) [
        | inl (under, full) ↦ elim space [ inl x ↦ absurd (omega (arith, x, full)) | inr x ↦ absurd (omega (arith, x, full, under)) ]
        | inr none ↦ none here allowed begins
      ]
  left-there w rest (inr e) free h here allowed begins =
      let stopped = subst (Stopped S agrees trusts holds lacked first now limits input (open_levels Cell k cells) (length cells)) e h in
      stopped.2 here begins

-- no request was refused where a key is reported
pub of-repeat : (lacked : Type 0) (limits : Bounds) (input : List ℕ) (e : ParseError) → IsStopWithin ⊥ limits input e → IsStopWithin lacked limits input e
of-repeat lacked limits input (errors.Refused f) (inl x) = inl x
of-repeat lacked limits input (errors.Refused f) (inr x) = absurd x.1
of-repeat lacked limits input (errors.Repeated following pair) h = h
