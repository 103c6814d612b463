-- Why the rules refuse the rest of an input at an offset.
use Rattle.std.specs.Prelude.{◌≡◌, ℕ, ◌+◌, ◌++◌, Bool, true, false, List, ◌∷◌}
use Rattle.cbor_head.specs.Prelude.{plain, strict, refusal, Rules, Bounds, AreBytes}
use Rattle.cbor_head.specs.declared.{keys.Keys.TheVariants.IntegersAndTexts, reason.Refusal.Refusal, reason.Reason.TheVariants.Indefinite as IndefiniteReason}
use Rattle.cbor_head.specs.declared.order.KeyOrder.{KeyOrder}
use Rattle.theory_verdicts.specs.Path.{Level, bytes_before, AreClean, IsKeyExpectedIn, MayBreak}
use Rattle.theory_verdicts.specs.{Kinds.KeepsToKinds, Stop.IsStopped, RefusedHere.IsPlaceFor, RefusedHere.IsRefusedBy}
use Rattle.cbor_parser.specs.declared.item_start.{ItemStart.TheVariants.Indefinite, ItemStart.TheVariants.Refused, Here.Here, ItemStart.ItemStart}
use Rattle.cbor_parser.specs.inner.Begins.{AreWholeChunks}

-- the rules of the deterministic encoding, in either order; or those of any valid item
abbrev pub AreRulesOf : Bool → Rules → Type 0
AreRulesOf true r = (o : KeyOrder) × (r ≡ strict o)
AreRulesOf false r = r ≡ plain

-- kinds of keys are judged, and a key is expected; or not both
pub record IsKeyAsked (is_key : Bool) (limits : Bounds) (ls : List Level) : Type 0 where
  pub both : is_key ≡ true → (limits.keys ≡ IntegersAndTexts) × IsKeyExpectedIn ls
  pub none : is_key ≡ false → limits.keys ≡ IntegersAndTexts → IsKeyExpectedIn ls → ⊥

-- The rest of an input at this offset is refused with this refusal by these rules; `here` says whether one more
-- container may open, and whether a break is allowed.
abbrev pub IsFault : Rules → List ℕ → ℕ → Here → Refusal → Type 0
IsFault r b at here f =
    (limits : Bounds) (ls : List Level) → AreClean r limits.depth ls → (MayBreak ls → here.may_break ≡ true) → KeepsToKinds limits r (bytes_before ls) → IsKeyAsked here.is_key limits ls → IsPlaceFor here.space limits.depth ls at → AreBytes (bytes_before ls ++ b)
    → IsStopped r limits (bytes_before ls ++ b) f

abbrev pub IsRefusedHere : Bool → List ℕ → ℕ → Here → Refusal → Type 0
IsRefusedHere is_strict b at here f = (r : Rules) → AreRulesOf is_strict r → IsFault r b at here f

abbrev pub IsRefusedStart : Bool → List ℕ → ℕ → Here → ItemStart → Type 0
IsRefusedStart is_strict b at here (Refused f) = IsRefusedHere is_strict b at here f
IsRefusedStart is_strict b at here _ = Unit {0}

-- ---- indefinite lengths

-- this is the refusal of bytes that begin with the opener of a string in chunks
abbrev pub AreChunksRefused : List ℕ → ℕ → Refusal → Type 0
AreChunksRefused b at f = (space : Bool) → IsRefusedBy plain space b at f

abbrev pub IsIndefiniteStart : Bool → ℕ → List ℕ → ℕ → ItemStart → Type 0
IsIndefiniteStart true first following at start = start ≡ Refused (refusal IndefiniteReason at (at + 1))
IsIndefiniteStart false first following at (Refused f) = AreChunksRefused (first ∷ following) at f
IsIndefiniteStart false first following at Indefinite = (first ≡ 0x5f → AreWholeChunks false following) × (first ≡ 0x7f → AreWholeChunks true following)
IsIndefiniteStart false first following at _ = ⊥
