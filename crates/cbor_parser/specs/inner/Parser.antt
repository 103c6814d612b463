-- The state of the walk over a valid item: what is still to come in the open containers, and a sink that was given what is
-- complete.
use Rattle.std.specs.Prelude.{◌≡◌, ℕ, ◌-◌, ◌^◌, ◌<◌, ◌≤◌, ◌⊎◌, Bool, true, List, [], ◌∷◌, ◌++◌, length, take}
use Rattle.cbor_head.specs.Prelude.{plain, refusal, refused, Bounds, IsVerdict, Spelling, spell, IsSpelled, depth}
use Rattle.cbor_head.specs.declared.reason.Reason.TheVariants.{Memory}
use Rattle.cbor_builder.specs.declared.repeat.Repeat.{Repeat}
use Rattle.theory_verdicts.specs.Levels.{IsClean, IsTaken, Level, AreLevels, bytes_before, ParseState, item_expected, item_whole, settle}
use Rattle.cbor_parser.specs.declared.parser.ParseError.TheVariants as error
use Rattle.cbor_parser.specs.declared.parser.SinkStop.TheVariants as stop
use Rattle.cbor_parser.specs.declared.item_rules.Part.TheVariants as part
use Rattle.cbor_parser.specs.Sink.{AgreesAsFull, Reported, IsReportedFull, IsWithin}
use Rattle.cbor_parser.specs.declared.{parser.ParseError.ParseError, parser.Parser.Parser, parser.SinkStop.SinkStop, item_rules.Part.Part}
use Rattle.cbor_parser.specs.inner.{Repeated.IsKeyReported, Kept.KeepsBefore, OpenContainer.cells_of, OpenContainer.Cell, Begins.NothingBegins, Begins.IsLeft}
use Rattle.cbor_parser.specs.inner.{OpenMaps.IsCellOf, Rules.following}

-- ---- what is known about an input

-- the input begins with an item without complaint
abbrev pub BeginsTaken : ℕ → List ℕ → Type 0
BeginsTaken d input = (item : Spelling) × (rest : List ℕ) × IsTaken d item × (input ≡ spell item ++ rest)

-- why the bytes within the limits begin with no valid item, or memory was refused; or a key of an open map is reported that
-- is the same as an earlier one
abbrev pub IsStopWithin : Type 0 → Bounds → List ℕ → ParseError → Type 0
IsStopWithin lacked limits input (error.Refused f) = ((bytes : List ℕ) → input ≡ take limits.bytes bytes → IsVerdict limits plain bytes (refused f)) ⊎ ((f ≡ refusal Memory 0 0) × lacked)
IsStopWithin lacked limits input (error.Repeated following pair) = IsKeyReported limits input following pair

-- ---- the position of the walk, before the rest of an input, with the sink and its first state

module _ (S : Type 0) (agrees : S → S → ParseState → Type 0) (trusts : Bool) where
  -- these containers are open before the rest of an input, and what is complete in them was given
  pub record AgreesBefore (given_in : List Level → Type 0) (d : ℕ) (input : List ℕ) (cs : List Cell) (rest : List ℕ) : Type 0 where
    pub ls : List Level
    pub levels : AreLevels d ls
    pub cells : cs ≡ cells_of (length input) ls
    pub given : given_in ls
    pub bytes : input ≡ bytes_before ls ++ rest
    pub small : length input < 2 ^ 63
    pub known : trusts ≡ true → BeginsTaken d input

  -- an item is expected, or a break
  abbrev pub IsExpected : S → ℕ → List ℕ → List Cell → S → List ℕ → Type 0
  IsExpected start d input cs g rest = AgreesBefore (λ ls. agrees start g (item_expected ls)) d input cs rest

  -- an item is complete, and this is known about it; two keys of a map may be the same
  pub record IsFull (is_known : List Level → Spelling → Type 0) (d : ℕ) (input : List ℕ) (cs : List Cell) (rest : List ℕ) : Type 0 where
    pub ls : List Level
    pub item : Spelling
    pub levels : AreLevels d ls
    pub spelled : IsSpelled item
    pub within : depth item ≤ d - length ls
    pub cells : cs ≡ cells_of (length input) ls
    pub given : is_known ls item
    pub bytes : input ≡ (bytes_before ls ++ spell item) ++ rest
    pub small : length input < 2 ^ 63
    pub known : trusts ≡ true → BeginsTaken d input

  -- it has no complaint, and was given to the sink
  abbrev pub HasEnded : S → ℕ → List ℕ → List Cell → S → List ℕ → Type 0
  HasEnded start d input cs g rest = IsFull (λ ls s. IsClean s × agrees start g (settle ls s)) d input cs rest

  -- a container should end in the sink, a map or not
  abbrev pub IsToEnd : Bool → S → ℕ → List ℕ → List Cell → S → List ℕ → Type 0
  IsToEnd is_map start d input cs g rest = IsFull (AgreesAsFull S (Reported S agrees is_map) d start g) d input cs rest

  -- it has a cell, which is still the innermost
  abbrev pub IsCellFull : (List Level → Spelling → Type 0) → ℕ → List ℕ → Cell → List Cell → List ℕ → Type 0
  IsCellFull is_known d input c cs rest = IsFull (λ ls s. is_known ls s × IsCellOf (length input) d c ls s) d input cs rest

  -- the input's item is complete
  pub record IsBuilt (start : S) (d : ℕ) (input : List ℕ) (g : S) (rest : List ℕ) : Type 0 where
    pub item : Spelling
    pub taken : IsTaken d item
    pub given : agrees start g (item_whole item)
    pub bytes : input ≡ spell item ++ rest

  -- the innermost container is complete; or, if no other cell is around its cell, the input's item
  abbrev pub HasFilled : S → ℕ → List ℕ → List Cell → S → List ℕ → Type 0
  HasFilled start d input [] g rest = ⊥
  HasFilled start d input (top ∷ []) g rest = IsBuilt start d input g rest
  HasFilled start d input (top ∷ c ∷ cs) g rest = IsCellFull (AgreesAsFull S agrees d start g) d input top (c ∷ cs) rest

  -- the innermost container could not end: two of its keys are the same, and this one is reported
  abbrev pub IsRepeatVisited : Repeat → ℕ → List ℕ → List Cell → List ℕ → Type 0
  IsRepeatVisited repeat d input [] rest = ⊥
  IsRepeatVisited repeat d input (top ∷ cs) rest = IsCellFull (λ ls s. IsReportedFull ls s repeat) d input top cs rest

  -- ---- what the calls require: that this is true of some input

  abbrev pub IsExpectedIn : ℕ → List Cell → S → List ℕ → Type 0
  IsExpectedIn d cs g rest = (start : S) × (input : List ℕ) × IsExpected start d input cs g rest

  abbrev pub IsExpectedFor : Cell → S → List ℕ → Type 0
  IsExpectedFor top g rest = (d : ℕ) × (outer : List Cell) × IsExpectedIn d (top ∷ outer) g rest

  module _ (holds : S → S → List Level → Bool → List ℕ → Type 0) where
    -- an item is expected, or a chunk of one
    abbrev pub HasCome : S → ℕ → List ℕ → List Cell → S → List ℕ → Type 0
    HasCome start d input cs g rest = AgreesBefore (IsWithin S agrees holds start g) d input cs rest

    -- ---- what is taken, by the states of a sink of which a request was refused

    module _ (lacked : S → Type 0) where
      abbrev pub TakesTo : Part SinkStop → S → ℕ → List ℕ → List ℕ → List Cell → S → Type 0
      TakesTo (part.Item used) start d input rest cs g = (0 < used) × (used ≤ length rest) × HasEnded start d input cs g (following used rest)
      TakesTo (part.Head used) start d input rest cs g = (0 < used) × (used ≤ length rest) × IsExpected start d input cs g (following used rest)
      TakesTo (part.Break used) start d input rest cs g = (0 < used) × (used ≤ length rest) × HasFilled start d input cs g (following used rest)
      TakesTo part.Untaken start d input rest cs g = IsExpected start d input cs g rest
      TakesTo (part.Stopped stop.Broken) start d input rest cs g = HasCome start d input cs g rest × NothingBegins rest
      TakesTo (part.Stopped stop.Repeated) start d input rest cs g = ⊥
      TakesTo (part.Stopped stop.Memory) start d input rest cs g = lacked g

      -- with these cells and this sink before, and those after
      abbrev pub Takes : Part SinkStop → ℕ → List ℕ → List Cell → S → List Cell → S → Type 0
      Takes result d rest cs g now new = (start : S) (input : List ℕ) → IsExpected start d input cs g rest → TakesTo result start d input rest now new

      -- the same for any cells around this one
      abbrev pub TakesItem : Part SinkStop → List ℕ → Cell → S → S → Type 0
      TakesItem result rest top g new = (d : ℕ) (outer : List Cell) → Takes result d rest (top ∷ outer) g (top ∷ outer) new

-- ---- the position of a parse, with its first state: no key of another kind began

module _ (S : Type 0) (agrees : S → S → ParseState → Type 0) (trusts : Bool) where
  abbrev pub Expects : Parser S → Parser S → Bounds → List ℕ → List Cell → List ℕ → Type 0
  Expects first now limits input cs rest = IsExpected S agrees trusts first.sink limits.depth input cs now.sink rest × KeepsBefore limits.depth limits.keys input rest

  abbrev pub HasItem : Parser S → Parser S → Bounds → List ℕ → List Cell → List ℕ → Type 0
  HasItem first now limits input cs rest = HasEnded S agrees trusts first.sink limits.depth input cs now.sink rest × KeepsBefore limits.depth limits.keys input rest

  abbrev pub Fills : Parser S → Parser S → Bounds → List ℕ → List Cell → List ℕ → Type 0
  Fills first now limits input cs rest = HasFilled S agrees trusts first.sink limits.depth input cs now.sink rest × KeepsBefore limits.depth limits.keys input rest

  -- the item ends before these bytes
  abbrev pub Passes : Parser S → Parser S → Bounds → List ℕ → List ℕ → Type 0
  Passes first now limits input rest = IsBuilt S agrees trusts first.sink limits.depth input now.sink rest × KeepsBefore limits.depth limits.keys input rest

  -- it stops: within a string, at equal keys, or because memory was refused
  abbrev pub Stops : (holds : S → S → List Level → Bool → List ℕ → Type 0) → (lacked : S → Type 0) → Parser S → Parser S → Bounds → List ℕ → List Cell → List ℕ → SinkStop → Type 0
  Stops holds lacked first now limits input cs rest stop.Broken = HasCome S agrees trusts holds first.sink limits.depth input cs now.sink rest × KeepsBefore limits.depth limits.keys input rest × NothingBegins rest
  Stops holds lacked first now limits input cs rest stop.Repeated = IsRepeatVisited S agrees trusts now.repeat limits.depth input cs rest × KeepsBefore limits.depth limits.keys input rest
  Stops holds lacked first now limits input cs rest stop.Memory = lacked now.sink

-- what is next may be left in these containers
abbrev pub Lacks : Bounds → List Cell → ℕ → List ℕ → Type 0
Lacks limits [] count rest = ⊥
Lacks limits (top ∷ outer) count rest = IsLeft limits.keys limits.depth top (length outer) count rest
