-- The verdict on an input: the item that it starts with, or the refusal (RFC 8949, sections 3 and 5.3.1, and appendix F).
use Rattle.std.specs.Prelude.{ℕ, ◌+◌, ◌≡◌, ◌≢◌, ◌<◌, ◌≤◌, ◌⊎◌, ◌++◌, ◌==◌, ◌||◌, ◌&&◌, ◌%◌, nat_le, if◌then◌else◌, List, [], ◌∷◌, length, take}
use Rattle.cbor_head.specs.Spelling.{Spelling, spell, IsItem}
use Rattle.cbor_head.specs.Complaint.{Rules, Complaint, IsComplaint}
use Rattle.cbor_head.specs.declared.reason.Reason.TheVariants.{Truncated, TooLong, Reserved, NoIndefinite, Float, BadSimple, StrayBreak, BadChunk, TooDeep, RepeatedKey, KeyOrder, KeyKind}
use Rattle.cbor_head.specs.{Limits.Bounds, Beginning.MayFollow, Beginning.IsLongestBeginning, declared.reason.Reason.Reason, declared.reason.Refusal.Refusal}

-- a refusal, from reason, offset and the number of bytes consumed
abbrev pub refusal : Reason → ℕ → ℕ → Refusal
refusal reason place read = record { reason = reason; place = place; read = read }

-- why a byte that begins no item is refused where an item may begin
abbrev pub initial_reason : ℕ → Reason
initial_reason c =
    if c == 0xff then StrayBreak
    else if (c == 0xf9) || (c == 0xfa) || (c == 0xfb) then Float
    else if (c == 0x1f) || (c == 0x3f) || (c == 0xdf) then NoIndefinite
    else if nat_le 28 (c % 32) && nat_le (c % 32) 30 then Reserved
    else TooDeep

-- Why c may not follow p. If the byte 00 could follow, an item was expected. If 00 could not and 20 could, the number of a simple value was
-- expected. Otherwise a chunk was.
abbrev pub IsReasonAt : ℕ → List ℕ → ℕ → Reason → Type 0
IsReasonAt d p c reason =
    (MayFollow d p 0x00 × (reason ≡ initial_reason c)) ⊎ (¬ MayFollow d p 0x00 × MayFollow d p 0x20 × (reason ≡ BadSimple))
    ⊎ (¬ MayFollow d p 0x00 × ¬ MayFollow d p 0x20 × (reason ≡ BadChunk))

-- the form error after p, given the bytes that follow p within the byte limit
abbrev pub IsFormError : Bounds → List ℕ → List ℕ → Refusal → Type 0
IsFormError limits p (c ∷ rest) f = (reason : Reason) × IsReasonAt limits.depth p c reason × (f ≡ refusal reason (length p) (length p + 1))
IsFormError limits p [] f = ((length p ≡ limits.bytes) × (f ≡ refusal TooLong limits.bytes limits.bytes)) ⊎ ((length p < limits.bytes) × (f ≡ refusal Truncated (length p) (length p)))

-- at equal ends complaints on a key's kind come first, and others on a key last
abbrev pub rank : Reason → ℕ
rank KeyKind = 0
rank RepeatedKey = 2
rank KeyOrder = 2
rank _ = 1

-- of these complaints the first that ends within the first t bytes
pub record IsFirstOf (P : Complaint → Type 0) (t : ℕ) (c : Complaint) : Type 0 where
  pub holds : P c
  pub ends : c.end ≤ t
  pub first : (e : Complaint) → P e → e.end ≤ t → (c.end < e.end) ⊎ ((c.end ≡ e.end) × (rank c.reason ≤ rank e.reason))

-- none of them ends within the first t bytes
abbrev pub HasNoneOf : (Complaint → Type 0) → ℕ → Type 0
HasNoneOf P t = (c : Complaint) → P c → c.end ≤ t → ⊥

-- an item, or the refusal
pub data Decision : Type 0 where
  accepted : Spelling → Decision
  refused : Refusal → Decision

-- the verdict that an item starting with p decides, from its complaints P, given the bytes that follow p
abbrev pub DecidesBy : (Spelling → Complaint → Type 0) → Bounds → List ℕ → List ℕ → Spelling → Decision → Type 0
DecidesBy P limits p following s (accepted t) = (t ≡ s) × (spell s ≡ p) × HasNoneOf (P s) (length p)
DecidesBy P limits p following s (refused f) =
    ((c : Complaint) × IsFirstOf (P s) (length p) c × (f ≡ refusal c.reason c.place c.end))
    ⊎ (HasNoneOf (P s) (length p) × (spell s ≢ p) × IsFormError limits p following f)

-- the verdict on an input, from the complaints of items
pub record IsVerdictBy (P : Spelling → Complaint → Type 0) (limits : Bounds) (input : List ℕ) (outcome : Decision) : Type 0 where
  -- the longest beginning, and an item that starts with it
  pub p : List ℕ
  pub longest : IsLongestBeginning limits.depth (take limits.bytes input) p
  pub item : Spelling
  pub rest : List ℕ
  pub starts : IsItem limits.depth item (p ++ rest)
  pub decides : DecidesBy P limits p longest.rest item outcome

-- within limits, by rules
abbrev pub IsVerdict : Bounds → Rules → List ℕ → Decision → Type 0
IsVerdict limits rules input outcome = IsVerdictBy (IsComplaint limits rules) limits input outcome

-- Examples, the plain verdict within 256 levels, for keys of any kind, unless the row says otherwise; each is a row of the conformance table, and
-- VerdictExamples and KindExamples of theory_values/proofs have others, proved:
--   f818               BadSimple 1, 2         there is no simple value 24
--   f81f, 1 byte       TooLong 1, 1           the number is past the limit
--   5f5c, 5f6100ff     BadChunk 1, 2          neither the head of a byte string nor a break
--   c1c100, depth 1    TooDeep 1, 2           the second tag would be open within the first
--   9c, depth 0        Reserved 0, 1          no head at all, so not an array that is too deep
--   9f, depth 0        TooDeep 0, 1
--   f9, depth 0        Float 0, 1
--   a100ff             StrayBreak 2, 3        a value was expected
--   61ff               InvalidText 1, 2
--   62ff               Truncated 2, 2         the text never ends, so it has no complaint
--   a20100180100       RepeatedKey 3, 5       by the strict rules NotShortest 3, 5, which ends there too
--   a26261610061ff00   InvalidText 6, 7       by the strict rules too: KeyOrder has the same end
--   7801ff             InvalidText 2, 3       by the strict rules NotShortest 0, 2
--   d80100             accepted               by the strict rules NotShortest 0, 2
-- For keys that are integers and texts:
--   a18000, a1f8       KeyKind 1, 2           an array; a simple value, whose number is not read
--   a100a18000         KeyKind 3, 4           in a map within
--   a17fff00           accepted               a text in chunks
--   a19fff00           KeyKind 1, 2           by the strict rules too: Indefinite has the same end
--   a1f97c0000         Float 1, 2             no key begins with this byte
