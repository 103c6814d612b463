-- What a reader's refusal can be: its reason, and what comes before its offset.
use Rattle.std.specs.Prelude.{ℕ, ◌≡◌, ◌≤◌, ◌⊎◌, IsTrue, List, length}
use Rattle.cbor_head.specs.Prelude.{distinct, rising, Rules, Complaint, IsComplaint, Bounds, Spelling}
use Rattle.cbor_head.specs.declared.order.KeyOrder as order
use Rattle.cbor_head.specs.declared.reason.Reason.TheVariants.{Truncated, TooLong, InvalidText, RepeatedKey, NotShortest, Indefinite, KeyOrder, Read, Memory, KeyKind}
use Rattle.cbor_head.specs.{Laws.StartsWith, declared.keys.Keys.TheVariants.IntegersAndTexts, declared.reason.Reason.Reason, declared.reason.Refusal.Refusal}
use Rattle.theory_automaton.specs.Reasons.{IsFormReason as IsByteReason}

-- the reasons for which bytes are not well-formed within the limits (RFC 8949, section 3 and appendix F): 1 to 9
abbrev pub IsFormReason : Reason → Type 0
IsFormReason Truncated = Unit {0}
IsFormReason TooLong = Unit {0}
IsFormReason x = IsByteReason x

-- The reasons of complaints: of texts 10 (section 3.1), of heads 14 and 15 (section 4.2.1), of keys 11 (section 5.6) or 16
-- (section 4.2.1).
abbrev pub IsComplaintReason : Rules → Reason → Type 0
IsComplaintReason r InvalidText = IsTrue r.texts
IsComplaintReason r NotShortest = IsTrue r.heads
IsComplaintReason r Indefinite = IsTrue r.heads
IsComplaintReason r RepeatedKey = r.keys ≡ distinct
IsComplaintReason r KeyOrder = (o : order.KeyOrder) × (r.keys ≡ rising o)
IsComplaintReason r _ = ⊥

-- 20, if the kinds of keys are judged
abbrev pub IsKindReason : Bounds → Rules → Reason → Type 0
IsKindReason limits r x = (x ≡ KeyKind) × IsTrue r.kinds × (limits.keys ≡ IntegersAndTexts)

-- the reasons of a reader with these rules: those, 17 and 19
abbrev pub IsReaderReason : Bounds → Rules → Reason → Type 0
IsReaderReason limits r x = IsFormReason x ⊎ (IsComplaintReason r x ⊎ IsKindReason limits r x) ⊎ (x ≡ Read) ⊎ (x ≡ Memory)

-- no complaint of an item that starts with p ends before this offset
abbrev pub IsFreeBefore : Bounds → Rules → List ℕ → ℕ → Type 0
IsFreeBefore limits r p place = (s : Spelling) (c : Complaint) → StartsWith limits.depth s p → IsComplaint limits r s c → place ≤ c.end

-- a refusal's offset is at most the number of bytes read, which is at most the limit and the length of the input
pub record IsWithinInput (n : ℕ) (input : List ℕ) (f : Refusal) : Type 0 where
  pub by_read : f.place ≤ f.read
  pub in_limit : f.read ≤ n
  pub in_input : f.read ≤ length input
