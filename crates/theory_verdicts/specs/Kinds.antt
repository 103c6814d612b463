-- The kinds of keys in the bytes so far of an item.
use Rattle.std.specs.Prelude.{ℕ, ◌≡◌, ◌<◌, ◌≤◌, ◌^◌, ◌-◌, ◌/◌, ◌%◌, IsTrue, List, [], ◌∷◌, length}
use Rattle.cbor_head.specs.Prelude.{Bounds, Spelling, Rules, Complaint, OfKinds}
use Rattle.cbor_head.specs.{Laws.StartsWith, declared.keys.Keys.TheVariants.IntegersAndTexts}
use Rattle.theory_values.specs.FirstBytes.{is_basic, is_container}
use Rattle.theory_verdicts.specs.Frame.{Frame, a_key, plug}
use Rattle.theory_verdicts.specs.Levels as levels
use Rattle.theory_verdicts.specs.Levels.{Level}

-- the rules and limits require keys to be integers and texts
abbrev pub AsksForKinds : Bounds → Rules → Type 0
AsksForKinds limits r = IsTrue r.kinds × (limits.keys ≡ IntegersAndTexts)

-- if they do, no key that begins in these bytes of an item is of another kind
abbrev pub KeepsToKinds : Bounds → Rules → List ℕ → Type 0
KeepsToKinds limits r t = AsksForKinds limits r → (s : Spelling) (c : Complaint) → StartsWith limits.depth s t → OfKinds 0 s c → c.end ≤ length t → ⊥

-- ---- what is expected in the open containers, the outermost first

-- an item at this position is a key
abbrev pub IsKeyFrame : Frame → Type 0
IsKeyFrame (a_key w a v b) = Unit {0}
IsKeyFrame _ = ⊥

-- a key is expected in the innermost container
abbrev pub IsKeyExpected : List Frame → Type 0
IsKeyExpected [] = ⊥
IsKeyExpected (f ∷ []) = IsKeyFrame f
IsKeyExpected (f ∷ g ∷ fs) = IsKeyExpected (g ∷ fs)

-- all these containers, with the item in the innermost
abbrev pub plug_all : List Frame → Spelling → Spelling
plug_all [] s = s
plug_all (f ∷ fs) s = plug f (plug_all fs s)

-- the same for levels, the innermost first
abbrev pub IsKeyLevel : Level → Type 0
IsKeyLevel (levels.a_key w left done) = Unit {0}
IsKeyLevel (levels.some_key done) = Unit {0}
IsKeyLevel _ = ⊥

abbrev pub IsKeyExpectedIn : List Level → Type 0
IsKeyExpectedIn [] = ⊥
IsKeyExpectedIn (l ∷ ls) = IsKeyLevel l

-- ---- the first bytes of an item that is expected

-- by their first byte, they are of one head, or of an item without members
abbrev pub IsOfOneHead : List ℕ → Type 0
IsOfOneHead [] = Unit {0}
IsOfOneHead (b ∷ bs) = IsTrue (is_container (b / 32)) → 0 < length bs → (24 ≤ b % 32) × (b % 32 < 28) × (length bs ≤ 2 ^ (b % 32 - 24))

-- the item is an integer or a text, if any byte of it was read
abbrev pub HasBasicPrefix : List ℕ → Type 0
HasBasicPrefix [] = Unit {0}
HasBasicPrefix (b ∷ bs) = IsTrue (is_basic (b / 32))
