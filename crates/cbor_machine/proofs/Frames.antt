-- The stack of frames, whose last is the innermost.
use Rattle.std.proofs.Common.{◌≡◌, ℕ, ◌+◌, List, [], ◌∷◌, ◌++◌, map, reverse, length, refl, ap, ◌∙◌, arith, pow-suc, mul_comm, mul-le-mul_left, mul-le-mul_right, subst, add-one, ◌*◌, ◌^◌, ◌≤◌, ◌<◌, ◌-◌, true, false}
use Rattle.std.proofs.lemmas.List.{reverse-append, length-reverse, length-map}
use Rattle.std.proofs.Math.Nat.{pow-le-pow_right}
use Rattle.cbor_machine.specs.State.{frame_of, frames_of, head_left, wanted_at, IsFit, IsNextFit, IsSettled, IsNextSettled, is_in_payload, is_done}
use Rattle.cbor_machine.specs.declared.position.Position.TheVariants.{Head, Payload, Done}
use Rattle.cbor_machine.specs.declared.take_byte.Next.TheVariants.{Refuses, Goes, Reports}
use Rattle.cbor_machine.specs.declared.{position.Position.Position, take_byte.Next.Next, frame.Frame.Frame}

-- the innermost frame is last
pub frames_push : (xs : List Frame) (f : Frame) → frames_of (xs ++ f ∷ []) ≡ frame_of f ∷ frames_of xs
frames_push xs f = ap (map frame_of) (reverse-append xs (f ∷ []))

pub length_frames : (xs : List Frame) → length (frames_of xs) ≡ length xs
length_frames xs = length-map (reverse xs) frame_of ∙ length-reverse xs

-- an argument with k + 1 bytes to come has space for the next
pub space_now : (a k : ℕ) → (a + 1) * 256 ^ (k + 1) ≤ 2 ^ 64 → (a + 1) * 256 ≤ 2 ^ 64
space_now a k h =
    let big : 256 ^ 1 ≤ 256 ^ (k + 1) = pow-le-pow_right {n = 256} (omega arith) {i = 1} {j = k + 1} (omega arith) in
    let more : (a + 1) * 256 ≤ (a + 1) * 256 ^ (k + 1) = mul-le-mul_left (a + 1) big in
    omega arith

pub space_next : (a k c : ℕ) → c < 256 → 0 < k → (a + 1) * 256 ^ (k + 1) ≤ 2 ^ 64 → (a * 256 + c + 1) * 256 ^ (k - 1 + 1) ≤ 2 ^ 64
space_next a k c hc hk h =
    let same : k - 1 + 1 ≡ k = omega arith in
    let unit = 256 ^ k in
    let wider : 256 ^ (k + 1) ≡ 256 * unit = ap (λ (x : ℕ). 256 ^ x) (add-one k) ∙ pow-suc 256 k ∙ mul_comm unit 256 in
    let all : (a + 1) * (256 * unit) ≤ 2 ^ 64 = subst (λ (x : ℕ). (a + 1) * x ≤ 2 ^ 64) wider h in
    let up : (a * 256 + c + 1) * unit ≤ ((a + 1) * 256) * unit = mul-le-mul_right unit (omega arith) in
    rw same (omega arith)

pub settled_fit : (depth : ℕ) (fs : List Frame) (position : Position) → IsSettled fs position → IsFit depth fs position
settled_fit depth fs (Head chunk kind width left argument) h = absurd h
settled_fit depth fs Done h = h
settled_fit depth fs _ h = tt

pub next_settled_fit : (depth : ℕ) (fs : List Frame) (next : Next) → IsNextSettled fs next → IsNextFit depth fs next
next_settled_fit depth fs (Refuses r) h = tt
next_settled_fit depth fs (Goes position) h = settled_fit depth fs position h
next_settled_fit depth fs (Reports w kind position) h = settled_fit depth fs position h

-- outside a payload what is open is a head
pub wanted-head : (position : Position) → (is_in_payload position ≡ true → ⊥) → wanted_at position ≡ head_left position
wanted-head (Payload chunk kind left) h = absurd (h refl)
wanted-head _ h = refl

-- a byte that completes no event leads to a position within the item
pub still-going : (position : Position) (depth : ℕ) (fs : List Frame) → IsFit depth fs position → (IsSettled fs position → ⊥) → is_done position ≡ false
still-going Done depth fs fit within = absurd (within fit)
still-going _ depth fs fit within = refl
