-- Where the walk over a valid item stops: the refusal of what begins there is that of the input.
use Rattle.std.proofs.Common.{◌≡◌, ◌≢◌, ℕ, ◌-◌, ◌^◌, ◌<◌, ◌≤◌, Bool, true, false, nat_lt, List, ◌++◌, length, take, sym, ap, ◌∙◌, subst, inl, arith, ltb-true, ltb-false, length-append}
use Rattle.cbor_head.specs.Prelude.{plain, Bounds, AreBytes, IsVerdict, refused}
use Rattle.cbor_head.specs.declared.{keys.Keys.TheVariants.IntegersAndTexts, reason.Refusal.Refusal}
use Rattle.theory_verdicts.specs.Levels.{Level, ParseState, bytes_before}
use Rattle.theory_verdicts.specs.Path as path
use Rattle.theory_verdicts.proofs.LevelFrames.{paths_of, paths_length, paths_bytes}
use Rattle.theory_verdicts.{specs.Kinds.KeepsToKinds, specs.Stop.IsStopped, specs.Stop.IsReportedAs, proofs.PathVerdict.stopped}
use Rattle.cbor_parser.proofs.LevelPaths.{paths_clean, path_expected, breaks_path}
use Rattle.cbor_parser.specs.{inner.Parser.IsExpected, inner.Parser.HasCome, Stack.around, Stack.open_levels, declared.container.Expected.Expected}
use Rattle.cbor_parser.specs.declared.{container.Expected.TheVariants.Key, container.Expected.TheVariants.Value, stack.Stack.Stack}
use Rattle.cbor_parser.{proofs.Stacks.open_levels_count, specs.Sink.AreKeysDistinct, specs.inner.Kept.KeepsBefore, specs.inner.Faults.IsFault}
use Rattle.cbor_parser.{specs.declared.item_start.Here.Here, proofs.GivenParts.cells-count, specs.inner.OpenContainer.Cell}

-- kinds are judged, and a key is expected
pub record IsAsked (limits : Bounds) (expected : Expected) (is_key : Bool) : Type 0 where
  pub both : is_key ≡ true → (limits.keys ≡ IntegersAndTexts) × (expected ≡ Key)
  pub none : is_key ≡ false → limits.keys ≡ IntegersAndTexts → expected ≡ Key → ⊥

module _ (S : Type 0) (agrees : S → S → ParseState → Type 0) (trusts : Bool) (holds : S → S → List Level → Bool → List ℕ → Type 0) (start : S) where
  -- an item is expected
  pub come-expected : (d : ℕ) (input : List ℕ) (cs : List Cell) (g : S) (rest : List ℕ) → IsExpected S agrees trusts start d input cs g rest → HasCome S agrees trusts holds start d input cs g rest
  come-expected d input cs g rest h = record { ls = h.ls; levels = h.levels; cells = h.cells; given = inl h.given; bytes = h.bytes; small = h.small; known = h.known }

  module _ (limits : Bounds) (bytes input : List ℕ) (within : input ≡ take limits.bytes bytes) (are : AreBytes input) (k : Stack Cell) (cells : List Cell) (low : k.height ≤ length cells) (g : S) (rest : List ℕ) (come : HasCome S agrees trusts holds start limits.depth input (open_levels Cell k cells) g rest) (kept : KeepsBefore limits.depth limits.keys input rest) where
    -- what is found at the offset of the rest, if no open map has two keys that are the same
    pub stopped-there : (at : ℕ) (here : Here) (f outcome : Refusal) → AreKeysDistinct come.ls → at ≡ length input - length rest → here.space ≡ nat_lt k.height limits.depth → IsAsked limits k.top.expected here.is_key
        → (k.top.is_indefinite ≡ true → k.top.expected ≢ Value → here.may_break ≡ true) → IsFault plain rest at here f → IsReportedAs limits.bytes input f outcome → IsVerdict limits plain bytes (refused outcome)
    stopped-there at here f outcome apart there roomy asked breaks fault is_returned =
        let ls = come.ls in
        let ps = paths_of ls in
        let same = paths_bytes ls in
        let size = length-append (bytes_before ls) rest in
        let short : length (bytes_before ls) < 2 ^ 63 = omega (arith, come.small, ap length come.bytes, size) in
        let (order, different) = apart in
        let whole : path.bytes_before ps ++ rest ≡ input = ap (λ (x : List ℕ). x ++ rest) same ∙ sym come.bytes in
        let count = paths_length ls in
        let height : length ls ≡ k.height = omega (arith, open_levels_count Cell k cells low, ap length come.cells, cells-count (length input) ls) in
        let expected = path_expected (length input) k.top (around Cell k cells) ls come.cells in
        let found = fault limits ps (paths_clean order limits.depth ls come.levels short different)
        (λ b. let may = breaks_path (length input) k.top (around Cell k cells) limits.depth ls come.levels come.cells b in breaks may.0 may.1)
        (subst (KeepsToKinds limits plain) (sym same) (kept (bytes_before ls) come.bytes))
        (record { both = λ e. let both = asked.both e in (both.0, expected.0 both.1); none = λ e kinds key. asked.none e kinds (expected.1 key) })
        (record {
          here = there ∙ omega (arith, ap length come.bytes, size) ∙ ap length (sym same);
          fits = λ r. let below = ltb-true k.height limits.depth (sym roomy ∙ r) in omega (arith, below, count, height);
          full = λ r. let above = ltb-false k.height limits.depth (sym roomy ∙ r) in omega (arith, above, count, height);
        })
        (subst AreBytes (sym whole) are) in
        stopped plain limits bytes f (subst (λ (x : List ℕ). IsStopped plain limits x f) (whole ∙ within) found) outcome (subst (λ (x : List ℕ). IsReportedAs limits.bytes x f outcome) within is_returned)
