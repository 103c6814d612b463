-- The value of an accepted item, and memory that was refused after it.
use Rattle.std.proofs.Common.{ℕ, ◌^◌, ◌≡◌, ◌≤◌, List, [], length, refl, sym, ap, ◌∙◌, arith, subst, append-nil}
use Rattle.cbor_head.specs.Prelude.{plain, Bounds, spell, Value, IsInRange, IsValid, refusal}
use Rattle.cbor_head.specs.{declared.limits.TheConstants.MAX_DEPTH, Value.depth, declared.reason.Reason.TheVariants.Memory, declared.reason.Refusal.Refusal}
use Rattle.theory_verdicts.specs.Readers.{IsRead, IsReadAs, IsUnread, of_memory}
use Rattle.theory_verdicts.proofs.Tops.{prefix-free, without}
use Rattle.cbor_tree_reader.{specs.Size.size, proofs.Sizes.size_bounded}
use Rattle.cbor_reader.proofs.Headline.{prefix_range, prefix_valid, prefix_depth}

pub view_depth : (limits : Bounds) (input : List ℕ) (v : Value) (count : ℕ) → limits.depth ≤ MAX_DEPTH → IsReadAs limits plain input v count → depth v ≤ MAX_DEPTH
view_depth limits input v count l r = subst (λ (v : Value). depth v ≤ MAX_DEPTH) (sym r.value) (omega (arith, prefix_depth limits plain input r.read.item r.read.verdict))

pub view_range : (limits : Bounds) (input : List ℕ) (v : Value) (count : ℕ) → limits.bytes ≤ 2 ^ 62 → IsReadAs limits plain input v count → IsInRange v
view_range limits input v count l r = subst IsInRange (sym r.value) (prefix_range limits plain input r.read.item l r.read.verdict)

pub view_valid : (limits : Bounds) (input : List ℕ) (v : Value) (count : ℕ) → IsReadAs limits plain input v count → IsValid v
view_valid limits input v count r = subst IsValid (sym r.value) (prefix_valid limits input r.read.item r.read.verdict)

pub view_bounded : (limits : Bounds) (input : List ℕ) (v : Value) (count : ℕ) → IsReadAs limits plain input v count → size v ≤ count
view_bounded limits input v count r =
    let few = subst (λ (u : Value). size u ≤ length (spell r.read.item)) (sym r.value) (size_bounded r.read.item) in
    subst (λ (k : ℕ). size v ≤ k) (sym r.read.size) few

-- ---- refusals

-- memory was refused when the item had been read
pub memory_after : (limits : Bounds) (input : List ℕ) (count : ℕ) (f : Refusal) → IsRead limits plain input count → f ≡ refusal Memory count count → IsUnread limits plain input f
memory_after limits input count f a is =
    let w = a.verdict in
    let size : count ≡ length w.p = a.size ∙ ap length (ap spell w.decides.0 ∙ w.decides.1) in
    let free = prefix-free limits plain w.p w.p [] w.item w.rest count w.starts (sym (append-nil w.p)) (without limits plain w.item (length w.p) w.decides.2) (omega (arith, size)) in
    subst (IsUnread limits plain input) (sym is) (of_memory w.p w.longest (omega (arith, size)) refl free)
