-- What is left of a text that is being written, by the containers that are open.
use Rattle.std.specs.Prelude.{ℕ, ◌≡◌, ◌+◌, ◌≤◌, max, false, List, [], ◌∷◌, ◌++◌, length, codes, Option, Some, None, Result, Ok, Err}
use Rattle.cbor_head.specs.Value.{depth, depth_all, depth_entries}
use Rattle.cbor_head.specs.{Prelude.Value, declared.limits.TheConstants.MAX_DEPTH}
use Rattle.cbor_item.specs.Nodes.{entries_in, values_in}
use Rattle.cbor_diag.specs.inner.Layout.{laid_out, laid_pairs, laid_texts, rows}
use Rattle.cbor_diag.specs.declared.walk.Remaining.TheVariants as parts
use Rattle.cbor_diag.specs.{inner.Outbox.HasPut, inner.Outbox.HasStopped, declared.layout.Layout.Layout, declared.outbox.Outbox.Outbox}
use Rattle.cbor_diag.specs.declared.{outbox.Stopped.Stopped, walk.OpenNode.OpenNode, walk.Remaining.Remaining}

-- the nodes that are left have these values
module _ {N : Type 0} (see : N → Value) where
  -- what is left of a container, at this many levels of indentation
  abbrev pub left_of : Layout → ℕ → Remaining N → List ℕ
  left_of l n (parts.Array left first) = rows l n first (laid_texts l (n + 1) (values_in see left.now)) ++ codes "]"
  left_of l n (parts.Map left first) = rows l n first (laid_pairs l (n + 1) (entries_in see left.now)) ++ codes "}"
  left_of l n (parts.Value value left) =
      codes ": " ++ laid_out l (n + 1) (see value.now) ++ rows l n false (laid_pairs l (n + 1) (entries_in see left.now)) ++ codes "}"
  left_of l n (parts.Content content) = laid_out l n (see content.now) ++ codes ")"
  left_of l n parts.Tag = codes ")"

  abbrev pub rest_of : Layout → OpenNode N → List ℕ
  rest_of l v = left_of l v.indent v.left

  -- what is left of all of them, the innermost first
  abbrev pub following : Layout → List (OpenNode N) → List ℕ
  following l [] = []
  following l (v ∷ vs) = rest_of l v ++ following l vs

  -- how deep what is left nests
  abbrev pub depth_left : Remaining N → ℕ
  depth_left (parts.Array left first) = depth_all (values_in see left.now)
  depth_left (parts.Map left first) = depth_entries (entries_in see left.now)
  depth_left (parts.Value value left) = max (depth (see value.now)) (depth_entries (entries_in see left.now))
  depth_left (parts.Content content) = depth (see content.now)
  depth_left parts.Tag = 0

  -- within the greatest depth, the innermost first
  abbrev pub AreShallow : List (OpenNode N) → Type 0
  AreShallow [] = Unit {0}
  AreShallow (v ∷ vs) = (v.indent ≤ length vs) × (depth_left v.left + length vs + 1 ≤ MAX_DEPTH) × AreShallow vs

  -- an item of this depth may begin here
  pub record IsExpected (d indent : ℕ) (vs : List (OpenNode N)) : Type 0 where
    pub space : d + length vs ≤ MAX_DEPTH
    pub indented : indent ≤ length vs
    pub shallow : AreShallow vs

  -- what is left, if this container is the innermost and these are around it
  abbrev pub all_left : Layout → Option (OpenNode N) → List (OpenNode N) → List ℕ
  all_left l None vs = []
  all_left l (Some v) vs = rest_of l v ++ following l vs

  abbrev pub AreAllShallow : Option (OpenNode N) → List (OpenNode N) → Type 0
  AreAllShallow None vs = Unit {0}
  AreAllShallow (Some v) vs = AreShallow (v ∷ vs)

  -- an item of this depth was written, or this container of it is open
  abbrev pub IsOpenOf : ℕ → ℕ → Option (OpenNode N) → Type 0
  IsOpenOf d indent None = Unit {0}
  IsOpenOf d indent (Some v) = (v.indent ≡ indent) × (depth_left v.left + 1 ≤ d)

-- a part of the whole was put, at least `least` bytes, and the rest is left
pub record HasLeft (least : ℕ) (old new : Option (List ℕ)) (from to : Outbox) (whole left : List ℕ) : Type 0 where
  pub done : List ℕ
  pub written : HasPut old new from to done
  pub some : least ≤ length done
  pub joins : done ++ left ≡ whole

-- the same, with this container the innermost and these around it; or the writer failed
abbrev pub Leaves : {N : Type 0} → ℕ → (N → Value) → Layout → Option (List ℕ) → Option (List ℕ) → Outbox → Outbox → List ℕ → List (OpenNode N) → Result (Option (OpenNode N)) Stopped → Type 0
Leaves n see l old new from to whole vs (Ok o) = HasLeft n old new from to whole (all_left see l o vs)
Leaves n see l old new from to whole vs (Err e) = HasStopped old new from whole to
