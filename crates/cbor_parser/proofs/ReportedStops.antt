-- Where a walk stops and the sink reports a key that is the same as an earlier one: the cell of its map, and what is reported of it.
use Rattle.std.proofs.Common.{◌≡◌, ◌≤◌, ℕ, ◌^◌, Bool, Option, List, [], ◌∷◌, ◌++◌, length, refl, sym, ap, ◌∙◌, subst, append_assoc, inl, inr}
use Rattle.cbor_head.specs.Prelude.{Bounds, spell}
use Rattle.cbor_builder.specs.declared.repeat.Repeat.{Repeat}
use Rattle.theory_verdicts.specs.Levels.{Level, a_member, bytes_before, ParseState}
use Rattle.cbor_parser.specs.inner.OpenContainer.{cell_of, cells_of, bytes_after_head}
use Rattle.cbor_parser.specs.inner.OpenMaps.{is_map_level, map_levels, map_cells, counts_one, FindsMap}
use Rattle.cbor_parser.specs.inner.Repeated.{IsKeyReported, IsCellReported, IsKeyReportedIn}
use Rattle.cbor_parser.proofs.ReportedMaps.{IsReportedWithin, reported_within, reported_full}
use Rattle.cbor_parser.specs.inner.OpenContainer.{Cell}
use Rattle.cbor_parser.specs.{Expected.pairs, Sink.FindsRepeat, inner.Parser.IsRepeatVisited, inner.Parser.HasCome, inner.Kept.KeepsBefore}
use Rattle.cbor_parser.proofs.GivenEnds.{cell-following}

-- ---- the cells

kind_of : (n : ℕ) (l : Level) → pairs (cell_of n l).expected ≡ is_map_level l
kind_of n (a_member w left done) = refl
kind_of n _ = refl

-- as many are those of maps as there are maps
cells_maps : (n : ℕ) (ls : List Level) → map_cells (cells_of n ls) ≡ map_levels ls
cells_maps n [] = refl
cells_maps n (l ∷ ls) = ap (λ (b : Bool). counts_one b (map_cells (cells_of n ls))) (kind_of (bytes_after_head n ls l) l) ∙ ap (counts_one (is_map_level l)) (cells_maps n ls)

cells_split : (n : ℕ) (inner : List Level) (l : Level) (outer : List Level) → (cs : List Cell) × (cells_of n (inner ++ l ∷ outer) ≡ cs ++ cell_of (bytes_after_head n outer l) l ∷ cells_of n outer)
cells_split n [] l outer = ([], refl)
cells_split n (m ∷ inner) l outer =
    let r = cells_split n inner l outer in
    let c = cell_of (bytes_after_head n (inner ++ l ∷ outer) m) m in
    (c ∷ r.0, ap (λ (cs : List Cell). c ∷ cs) r.1)

-- ---- the cell that is found

module _ (limits : Bounds) (input : List ℕ) (small : length input ≤ 2 ^ 62) where
  among : (around : List Cell) (ls : List Level) (outside pair : ℕ) (found : Option Cell) → IsReportedWithin limits input small ls outside pair → FindsMap (around ++ cells_of (length input) ls) outside found → IsCellReported limits input found pair
  among around ls outside pair found t finds =
      let n = length input in
      let (cs, e) = cells_split n t.inner t.level t.outer in
      let following = bytes_after_head n t.outer t.level in
      let c = cell_of following t.level in
      let split : around ++ cells_of n ls ≡ (around ++ cs) ++ c ∷ cells_of n t.outer = ap (λ (ms : List Level). around ++ cells_of n ms) t.splits ∙ ap (λ (ds : List Cell). around ++ ds) e ∙ sym (append_assoc around cs (c ∷ cells_of n t.outer)) in
      (c, finds (around ++ cs) (cells_of n t.outer) c split (kind_of following t.level ∙ t.is_map) (cells_maps n t.outer ∙ sym t.outside_is), subst (λ (m : ℕ). IsKeyReported limits input m pair) (sym (cell-following following t.level)) t.key)

  module _ (S : Type 0) (agrees : S → S → ParseState → Type 0) (trusts : Bool) (holds : S → S → List Level → Bool → List ℕ → Type 0) (start g : S) (cs : List Cell) (rest : List ℕ) (repeat : Repeat) (keeps : KeepsBefore limits.depth limits.keys input rest) where
    -- where an item is expected, or a chunk
    pub reported_where_expected : HasCome S agrees trusts holds start limits.depth input cs g rest → FindsRepeat S agrees holds g repeat → IsKeyReportedIn limits input cs repeat
    reported_where_expected h reports = λ found finds.
        among [] h.ls repeat.outside repeat.pair found (reported_within limits input small h.ls rest repeat h.levels h.bytes (keeps (bytes_before h.ls) h.bytes) (reports start h.ls h.given)) (subst (λ (ds : List Cell). FindsMap ds repeat.outside found) h.cells finds)

    -- a container should end, and its cell is still the innermost
    pub reported_at_end : IsRepeatVisited S agrees trusts repeat limits.depth input cs rest → IsKeyReportedIn limits input cs repeat
    reported_at_end visited = go cs visited
      where
        go : (cs : List Cell) → IsRepeatVisited S agrees trusts repeat limits.depth input cs rest → IsKeyReportedIn limits input cs repeat
        go [] h = absurd h
        go (c ∷ cs) h = λ found finds.
            let n = length input in
            let its = h.given.1 in
            let here = subst (λ (ds : List Cell). FindsMap (c ∷ ds) repeat.outside found) h.cells finds in
            elim (reported_full limits input small h.ls h.item rest repeat h.levels h.spelled h.within its.taken h.bytes (keeps (bytes_before h.ls ++ spell h.item) h.bytes) h.given.0) [
              | inl t ↦ (c, here [] (cells_of n h.ls) c refl (its.kind ∙ t.is_map) (cells_maps n h.ls ∙ sym t.outside_is), subst (λ (m : ℕ). IsKeyReported limits input m repeat.pair) (sym its.place) t.key)
              | inr t ↦ among (c ∷ []) h.ls repeat.outside repeat.pair found t here
            ]
