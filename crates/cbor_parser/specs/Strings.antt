-- A string, or a chunk of one, whose head is at the start of some bytes.
use Rattle.std.specs.Prelude.{◌≡◌, ℕ, ◌+◌, ◌-◌, ◌%◌, ◌<◌, ◌≤◌, ◌⊎◌, Bool, IsTrue, IsUtf8, List, ◌∷◌, length, take, get_or}
use Rattle.std.specs.Str.Lossy.{utf8_valid_len}
use Rattle.cbor_head.specs.Prelude.{Rules, OfHead, refusal}
use Rattle.cbor_head.specs.declared.{major.Major.Major, reason.Reason.TheVariants.Truncated, reason.Reason.TheVariants.InvalidText, reason.Refusal.Refusal}
use Rattle.cbor_head.specs.{Argument.IsArgument, declared.argument.Argument.Argument}
use Rattle.theory_verdicts.specs.{Judged.Never, RefusedHere.IsRefusedBy}

-- the head of a string, and what follows it
pub record IsStringHead (b : List ℕ) (head : Argument) : Type 0 where
  pub first : ℕ
  pub following : List ℕ
  pub is : b ≡ first ∷ following
  pub low : 64 ≤ first
  pub high : first < 128
  pub argument : IsArgument (first % 32) following head.width head.number head.rest.now
  pub fewer : length head.rest.now ≤ length following

-- its payload is complete, and is UTF-8 if it is a text's
pub record IsStringWhole (b : List ℕ) (head : Argument) : Type 0 where
  pub inside : head.number ≤ length head.rest.now
  pub utf8 : 96 ≤ get_or b 0 0 → IsUtf8 (take head.number head.rest.now)

-- its payload is incomplete
pub record IsCutOff (b : List ℕ) (head : Argument) (at : ℕ) (f : Refusal) : Type 0 where
  pub less : length head.rest.now < head.number
  pub is : f ≡ refusal Truncated (at + length b) (at + length b)

-- its payload is complete, is a text's, and is not UTF-8
pub record IsNoText (b : List ℕ) (head : Argument) (at : ℕ) (f : Refusal) : Type 0 where
  pub text : 96 ≤ get_or b 0 0
  pub inside : head.number ≤ length head.rest.now
  pub none : IsUtf8 (take head.number head.rest.now) → ⊥
  pub is : f ≡ refusal InvalidText (at + (length b - length head.rest.now) + utf8_valid_len (take head.number head.rest.now)) (at + (length b - length head.rest.now) + head.number)

-- it is refused at this offset, for one of these two reasons
abbrev pub IsStringFault : List ℕ → Argument → ℕ → Refusal → Type 0
IsStringFault b head at f = IsCutOff b head at f ⊎ IsNoText b head at f

-- it is refused so by rules that require UTF-8, if they have no complaint about its head
abbrev pub IsStringRefused : List ℕ → Argument → ℕ → Refusal → Type 0
IsStringRefused b head at f =
    (r : Rules) (space : Bool) → IsTrue r.texts → ((to : ℕ) (m : Major) → Never (OfHead r to m head.width head.number)) → IsRefusedBy r space b at f
