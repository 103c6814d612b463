-- Why a walk over an item stops: what is wrong with the bytes, which are all of an input within its limit.
use Rattle.std.specs.Prelude.{◌≡◌, ◌≢◌, ℕ, ◌+◌, ◌++◌, ◌⊎◌, List, [], ◌∷◌, length, Some, None}
use Rattle.cbor_head.specs.Prelude.{MayFollow, Rules, Complaint, complaint, plain, strict, OfKinds, Bounds, Spelling, IsReasonAt, refusal}
use Rattle.cbor_head.specs.declared.order.KeyOrder as orders
use Rattle.cbor_head.specs.declared.reason.Reason.TheVariants.{Truncated, TooLong, RepeatedKey, KeyOrder, KeyKind}
use Rattle.cbor_head.specs.{Laws.StartsWith, declared.reason.Refusal.Refusal}
use Rattle.theory_verdicts.specs.{Judged.IsJudged, Kinds.AsksForKinds, Kinds.KeepsToKinds}

-- The item at their start has this complaint first.
pub record HasComplaint (r : Rules) (limits : Bounds) (b : List ℕ) (f : Refusal) : Type 0 where
  pub p : List ℕ
  pub rest : List ℕ
  pub splits : b ≡ p ++ rest
  pub complaint : Complaint
  pub judged : IsJudged r 0 limits.depth p (Some complaint)
  pub keeps : KeepsToKinds limits r p
  pub is : f ≡ refusal complaint.reason complaint.place complaint.end

-- A beginning has no complaint, and the byte after it is not allowed there.
pub record HasBadByte (r : Rules) (limits : Bounds) (b : List ℕ) (f : Refusal) : Type 0 where
  pub p : List ℕ
  pub byte : ℕ
  pub rest : List ℕ
  pub splits : b ≡ p ++ byte ∷ rest
  pub judged : IsJudged r 0 limits.depth p None
  pub keeps : KeepsToKinds limits r p
  pub cannot_follow : MayFollow limits.depth p byte → ⊥
  pub reason : IsReasonAt limits.depth p byte f.reason
  pub is : f ≡ refusal f.reason (length p) (length p + 1)

-- They have no complaint, and end within the item.
pub record EndsWithin (r : Rules) (limits : Bounds) (b : List ℕ) (f : Refusal) : Type 0 where
  pub judged : IsJudged r 0 limits.depth b None
  pub keeps : KeepsToKinds limits r b
  pub is : f ≡ refusal Truncated (length b) (length b)

-- A beginning has no complaint, and a key of a kind that the limits do not allow begins with the byte after it.
pub record HasOtherKey (r : Rules) (limits : Bounds) (b : List ℕ) (f : Refusal) : Type 0 where
  pub p : List ℕ
  pub byte : ℕ
  pub rest : List ℕ
  pub splits : b ≡ (p ++ byte ∷ []) ++ rest
  pub judged : IsJudged r 0 limits.depth p None
  pub keeps : KeepsToKinds limits r p
  pub asked : AsksForKinds limits r
  pub item : Spelling
  pub starts : StartsWith limits.depth item (p ++ byte ∷ [])
  pub other : OfKinds 0 item (complaint (length p + 1) (length p) KeyKind)
  pub is : f ≡ refusal KeyKind (length p) (length p + 1)

abbrev pub IsStopped : Rules → Bounds → List ℕ → Refusal → Type 0
IsStopped r limits b f = HasComplaint r limits b f ⊎ HasBadByte r limits b f ⊎ EndsWithin r limits b f ⊎ HasOtherKey r limits b f

-- A key is the same as the one before it: by the deterministic encoding keys do not rise, by the plain rules a key is repeated.
pub record RepeatsKey (o : orders.KeyOrder) (limits : Bounds) (b : List ℕ) (f : Refusal) : Type 0 where
  pub is : f.reason ≡ RepeatedKey
  pub strictly : HasComplaint (strict o) limits b (refusal KeyOrder f.place f.read)
  pub plainly : HasComplaint plain limits b f

-- the deterministic encoding refuses the bytes, or a key is the same as the one before it
abbrev pub IsRefused : orders.KeyOrder → Bounds → List ℕ → Refusal → Type 0
IsRefused o limits b f = IsStopped (strict o) limits b f ⊎ RepeatsKey o limits b f

-- if the input is truncated at the byte limit, it is reported as too long
pub record IsReportedAs (n : ℕ) (b : List ℕ) (f g : Refusal) : Type 0 where
  pub too_long : f.reason ≡ Truncated → length b ≡ n → g ≡ refusal TooLong n n
  pub same : (f.reason ≡ Truncated → length b ≢ n) → g ≡ f
