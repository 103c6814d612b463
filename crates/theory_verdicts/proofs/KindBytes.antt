-- In which bytes of an item no key begins after the first: those of one head, or of an item without members.
use Rattle.std.proofs.Common.{ℕ, zero, suc, ◌+◌, ◌*◌, ◌-◌, ◌^◌, ◌/◌, ◌%◌, ◌≡◌, ◌<◌, ◌≤◌, true, false, List, [], ◌∷◌, ◌++◌, length, replicate, refl, sym, ap, ◌∙◌, arith, subst, ◌≢◌, None, IsTrue, Option, length-append, append-nil}
use Rattle.cbor_head.specs.Prelude.{head, major_number, Bounds, IsIntegerOrText, AreBytes, Spelling, array, a_map, tag, spell, depth, value_of, IsSpelled, HoldsOrIndefinite, Rules, Complaint, OfKinds, form, MayFollow}
use Rattle.cbor_head.specs.declared.width.Width.TheVariants.{Direct, One, Two, Four, Eight, Indefinite}
use Rattle.cbor_head.specs.declared.{major.Major.Major, major.Major.TheVariants.Bytes, major.Major.TheVariants.Text, width.Width.Width}
use Rattle.theory_values.proofs.KeyKinds.{number_is, byte_basic, of_kind, first_of_head}
use Rattle.theory_values.proofs.Parts.{major, width, count, head_of, body, parts, holds_of}
use Rattle.theory_values.{proofs.Reasons.none_by_form, specs.FirstBytes.is_basic, specs.FirstBytes.is_container, proofs.ReadLaws.length_head}
use Rattle.theory_values.proofs.ByteLists.{bytes_back}
use Rattle.theory_automaton.specs.Trace.{Mark, a_head, a_chunk, a_byte, a_break}
use Rattle.theory_automaton.specs.Automaton as automaton
use Rattle.theory_automaton.specs.Automaton.{State, at_item as expected_at, in_head, in_simple, run, reached, Next, refuses, goes, reports, take_byte}
use Rattle.theory_automaton.proofs.Taking.{IsWithin, nothing-taken, IsTakingNext, byte-taken, within-start}
use Rattle.theory_automaton.proofs.{Arguments.number, Agrees.IsString, Refusals.IsTaken, Refusals.taken-follows}
use Rattle.cbor_machine.specs.NextEvent.{ItemEventsView}
use Rattle.theory_verdicts.specs.Kinds.{IsOfOneHead, HasBasicPrefix, AsksForKinds, KeepsToKinds}
use Rattle.theory_verdicts.specs.Place.{Container, Place, at_item, IsTaking}
use Rattle.theory_verdicts.proofs.Heads.{Headed, open_or, zero_bytes, cut_head, zero_length}
use Rattle.theory_verdicts.proofs.Places.{place_of, clear-at, taking-at}
use Rattle.theory_verdicts.{specs.Frame.Frame, specs.Judged.IsJudged, proofs.Items.taken-headed, proofs.KindFrames.IsAround, proofs.KindFrames.keeps_on}
use Rattle.theory_verdicts.{specs.Reading.IsAt, specs.Reading.state_at, proofs.SpelledBytes.beginning_bytes, proofs.Steps.at-run}

-- ---- bytes of one head

-- the number of bytes of an argument, by the first byte
abbrev FollowingBytes : ℕ → ℕ → Type 0
FollowingBytes b k = 0 < k → (24 ≤ b % 32) × (b % 32 < 28) × (k ≤ 2 ^ (b % 32 - 24))

-- they are no more than the head has
within_wide : (m : Major) (b low k size : ℕ) → 32 * major_number m + low ≡ b → low < 32 → 2 ^ (low - 24) < size → 0 < k → FollowingBytes b k → suc k ≤ size
within_wide m b low k size e h s some f =
    let same : b % 32 ≡ low = omega (arith, e, h) in
    let most : k ≤ 2 ^ (low - 24) = subst (λ (j : ℕ). k ≤ 2 ^ (j - 24)) same (f some).2 in
    omega (arith, most, s)

within_head : (m : Major) (w : Width) (n b k : ℕ) (y z : List ℕ) → HoldsOrIndefinite w n → head m w n ++ z ≡ b ∷ y → FollowingBytes b k → suc k ≤ length (head m w n)
within_head m w n b zero y z h e f = length_head m w n
within_head m Direct n b (suc k) y z h e f = let first : 32 * major_number m + n ≡ b = cc e in absurd (omega (arith, first, h, (f (omega arith)).0))
within_head m One n b (suc k) y z h e f = within_wide m b 24 (suc k) 2 (cc e) (omega arith) (omega arith) (omega arith) f
within_head m Two n b (suc k) y z h e f = within_wide m b 25 (suc k) 3 (cc e) (omega arith) (omega arith) (omega arith) f
within_head m Four n b (suc k) y z h e f = within_wide m b 26 (suc k) 5 (cc e) (omega arith) (omega arith) (omega arith) f
within_head m Eight n b (suc k) y z h e f = within_wide m b 27 (suc k) 9 (cc e) (omega arith) (omega arith) (omega arith) f
within_head m Indefinite n b (suc k) y z h e f = let first : 32 * major_number m + 31 ≡ b = cc e in absurd (omega (arith, first, (f (omega arith)).1))

-- ---- no key but the item itself begins in them

within_first : (s : Spelling) → IsSpelled s → (b : ℕ) (bs z : List ℕ) → spell s ≡ b ∷ (bs ++ z) → IsTrue (is_container (major_number (major s))) → IsOfOneHead (b ∷ bs) → suc (length bs) ≤ length (head_of s)
within_first s h b bs z e container one =
    let n = number_is s h b [] (bs ++ z) (append-nil (spell s) ∙ e) in
    within_head (major s) (width s) (count s) b (length bs) (bs ++ z) (body s) (holds_of s h) (sym (parts s) ∙ e) (one (subst (λ (k : ℕ). IsTrue (is_container k)) n container))

pub kinds_after : (s : Spelling) → IsSpelled s → (x z : List ℕ) → spell s ≡ x ++ z → IsOfOneHead x → (at : ℕ) (c : Complaint) → OfKinds at s c → at + length x < c.end
kinds_after s h [] z e one at c o = omega (arith, (of_kind s at c o).later)
kinds_after (array w ss) h (b ∷ bs) z e one at c o = omega (arith, within_first (array w ss) h b bs z e refl one, (of_kind (array w ss) at c o).later)
kinds_after (a_map w es) h (b ∷ bs) z e one at c o = omega (arith, within_first (a_map w es) h b bs z e refl one, (of_kind (a_map w es) at c o).later)
kinds_after (tag w n s) h (b ∷ bs) z e one at c o = omega (arith, within_first (tag w n s) h b bs z e refl one, (of_kind (tag w n s) at c o).later)
kinds_after s h (b ∷ bs) z e one at c o = absurd (none_by_form at s c o)

-- a prefix of them
pub one_head_prefix : (x y : List ℕ) → IsOfOneHead (x ++ y) → IsOfOneHead x
one_head_prefix [] y h = tt
one_head_prefix (b ∷ bs) y h = λ container some.
    let size = length-append bs y in
    let g = h container (omega (arith, some, size)) in
    (g.0, g.1, omega (arith, g.2, size))

-- ---- heads

argument_of : (b low k : ℕ) → b % 32 ≡ low → 24 ≤ low → low < 28 → k ≤ 2 ^ (low - 24) → (24 ≤ b % 32) × (b % 32 < 28) × (k ≤ 2 ^ (b % 32 - 24))
argument_of b low k e l h most = (omega (arith, e, l), omega (arith, e, h), subst (λ (j : ℕ). k ≤ 2 ^ (j - 24)) (sym e) most)

pub head_is_one : (m : Major) (w : Width) (n : ℕ) → HoldsOrIndefinite w n → IsOfOneHead (head m w n)
head_is_one m Direct n h = λ container some. absurd (omega (arith, some))
head_is_one m One n h = λ container some. argument_of (32 * major_number m + 24) 24 1 (omega arith) (omega arith) (omega arith) (omega arith)
head_is_one m Two n h = λ container some. argument_of (32 * major_number m + 25) 25 2 (omega arith) (omega arith) (omega arith) (omega arith)
head_is_one m Four n h = λ container some. argument_of (32 * major_number m + 26) 26 4 (omega arith) (omega arith) (omega arith) (omega arith)
head_is_one m Eight n h = λ container some. argument_of (32 * major_number m + 27) 27 8 (omega arith) (omega arith) (omega arith) (omega arith)
head_is_one m Indefinite n h = λ container some. absurd (omega (arith, some))

-- a head that has begun
begun_is_one : (d : ℕ) (fs : List automaton.Frame) (q : State) (x : List ℕ) → IsWithin d (expected_at fs) q x → IsOfOneHead x
begun_is_one d fs (in_head false m w k acc gs) x h =
    let more = replicate (suc k) 0 in
    let whole = h.3 more (zero_length (suc k)) (zero_bytes (suc k)) in
    one_head_prefix x more (subst IsOfOneHead (sym whole.0) (head_is_one m w (number acc more) (open_or w (number acc more) whole.1)))
begun_is_one d fs (in_head true m w k acc gs) x h = absurd (cc h.0)
begun_is_one d fs (in_simple gs) x h = subst IsOfOneHead (sym h.1) (λ container some. absurd (omega (arith, some)))
begun_is_one d fs _ x h = subst IsOfOneHead (sym h.1) tt

pub silent_is_one : (d : ℕ) (fs : List automaton.Frame) (q : State) (x : List ℕ) → AreBytes x → run d (expected_at fs) x ≡ reached q [] → IsOfOneHead x
silent_is_one d fs q x b e = begun_is_one d fs q x (nothing-taken d (expected_at fs) q x tt b e)

-- a string, complete or not
pub string_is_one : (m : Major) (w : Width) (n : ℕ) (q : List ℕ) → IsString m → HoldsOrIndefinite w n → IsOfOneHead (head m w n ++ q)
string_is_one Bytes Direct n q i h = λ container. let e : (64 + n) / 32 ≡ 2 = omega (arith, h) in absurd (cc (subst (λ (k : ℕ). IsTrue (is_container k)) e container))
string_is_one Bytes _ n q i h = λ container. absurd (cc container)
string_is_one Text Direct n q i h = λ container. let e : (96 + n) / 32 ≡ 3 = omega (arith, h) in absurd (cc (subst (λ (k : ℕ). IsTrue (is_container k)) e container))
string_is_one Text _ n q i h = λ container. absurd (cc container)
string_is_one _ w n q i h = absurd i

-- ---- the bytes of a head that comes

pub head_bytes : (d : ℕ) (cs : List Container) (m : Major) (w : Width) (n : ℕ) (x : List ℕ) (next : Place) → IsTaking d (at_item cs) (a_head m w n) x next → HoldsOrIndefinite w n × (x ≡ head m w n)
head_bytes d cs m Indefinite n x next h = (tt, h.1)
head_bytes d cs m _ n x next h = (h.1, h.0)

-- of an integer or a text
pub basic_mark : (d : ℕ) (cs : List Container) (m : Major) (w : Width) (n : ℕ) (x : List ℕ) (next : Place) → IsTaking d (at_item cs) (a_head m w n) x next → IsTrue (is_basic (major_number m)) → HasBasicPrefix x
basic_mark d cs m w n x next h basic =
    let g = head_bytes d cs m w n x next h in
    let f = first_of_head m w n g.0 in
    let same : major_number m ≡ (32 * major_number m + f.low) / 32 = omega (arith, f.small) in
    subst HasBasicPrefix (sym (g.1 ∙ f.is)) (subst (λ (k : ℕ). IsTrue (is_basic k)) same basic)

-- ---- the item that a head begins

pub record Begins (d : ℕ) (x : List ℕ) : Type 0 where
  pub item : Spelling
  pub spelled : IsSpelled item
  pub within : depth item ≤ d
  pub rest : List ℕ
  pub bytes : spell item ≡ x ++ rest

pub begins_by : (d : ℕ) (x : List ℕ) (s : Spelling) → IsSpelled s → depth s ≤ d → head_of s ≡ x → Begins d x
begins_by d x s h l e = record { item = s; spelled = h; within = l; rest = body s; bytes = parts s ∙ ap (λ (y : List ℕ). y ++ body s) e }

pub of_headed : {d : ℕ} {m : Major} {w : Width} {n : ℕ} → Headed d m w n → Begins d (head m w n)
of_headed h = begins_by _ _ h.item h.spelled h.within h.head_is

pub mark_begins : (d : ℕ) (cs : List Container) (mark : Mark) (x : List ℕ) (next : Place) → IsTaking d (at_item cs) mark x next → (mark ≡ a_break → ⊥) → Begins (d - length cs) x × IsOfOneHead x
mark_begins d cs (a_head m w n) x next h b =
    let (g, is) = taken-headed d cs m w n x next h in (subst (Begins (d - length cs)) (sym is) (of_headed g), subst IsOfOneHead (sym is) (head_is_one m w n (head_bytes d cs m w n x next h).0))
mark_begins d cs (a_chunk w n) x next h b = absurd h
mark_begins d cs a_byte x next h b = absurd h
mark_begins d cs a_break x next h b = absurd (b refl)

-- ---- the bytes so far, with what was found of the item that is expected

pub item_basic : (s : Spelling) (x z : List ℕ) → IsSpelled s → spell s ≡ x ++ z → 0 < length x → HasBasicPrefix x → IsIntegerOrText (value_of s)
item_basic s [] z h e some basic = absurd (omega (arith, some))
item_basic s (b ∷ bs) z h e some basic = byte_basic s h b [] (bs ++ z) (append-nil (spell s) ∙ e) basic

pub keeps_expected : {left : ℕ} {fs : List Frame} {before : List ℕ} {Expected : Type 0} → (limits : Bounds) (r : Rules) → IsAround limits.depth left fs before Expected → (x : List ℕ) → Begins left x → IsOfOneHead x → (AsksForKinds limits r → Expected → HasBasicPrefix x)
    → KeepsToKinds limits r before → KeepsToKinds limits r (before ++ x)
keeps_expected limits r around x g one basic keeps =
    keeps_on limits r around g.item x g.rest g.spelled g.within g.bytes (λ asked expected some. item_basic g.item x g.rest g.spelled g.bytes some (basic asked expected)) (kinds_after g.item g.spelled x g.rest g.bytes one _) keeps

-- what was found of an item is of one that begins so
pub judged_begins : (r : Rules) (at d : ℕ) (x : List ℕ) (found : Option Complaint) → IsJudged r at d x found → Begins d x
judged_begins r at d x found j = record { item = j.item; spelled = j.is.spelled; within = j.is.within; rest = j.rest; bytes = j.is.bytes_are }

-- ---- where an item is expected: that no payload is open, and the item that a byte begins

no_break : (d : ℕ) (cs : List Container) (m : Mark) (c : ℕ) (to : Place) → c ≢ 0xff → IsTaking d (at_item cs) m (c ∷ []) to → m ≡ a_break → ⊥
no_break d cs m c to other h e =
    let taking : IsTaking d (at_item cs) a_break (c ∷ []) to = subst (λ (k : Mark). IsTaking d (at_item cs) k (c ∷ []) to) e h in
    let all : c ∷ [] ≡ 0xff ∷ [] = taking.0 in
    let same : c ≡ 0xff = cc all in
    other same

taken_begins : (d : ℕ) (cs : List Container) (c : ℕ) (next : Next) → c ≢ 0xff → IsTaken next → IsTakingNext d (state_at (at_item cs)) next (c ∷ []) → Begins (d - length cs) (c ∷ [])
taken_begins d cs c (refuses r) other taken h = absurd taken
taken_begins d cs c (goes q) other taken h =
    judged_begins form 0 (d - length cs) (c ∷ []) None (cut_head form 0 d cs q (c ∷ []) h)
taken_begins d cs c (reports m q) other taken h =
    let taking = taking-at d (at_item cs) m (c ∷ []) q h.0 in
    (mark_begins d cs m (c ∷ []) (place_of q) taking (no_break d cs m c (place_of q) other taking)).0

-- a byte that may follow begins one, if it is no break
pub byte_begins : (b : Bounds) (e : ItemEventsView) (t : List ℕ) (cs : List Container) (c : ℕ) → IsAt b e t (at_item cs) → MayFollow b.depth t c → c ≢ 0xff → Begins (b.depth - length cs) (c ∷ [])
byte_begins b e t cs c a follows other =
    let q = state_at (at_item cs) in
    let small : c < 256 = (bytes_back t (c ∷ []) (beginning_bytes b.depth (t ++ c ∷ []) follows)).0 in
    let taken = (taken-follows b.depth t q a.marks c a.agrees.agrees.are_bytes small (at-run b e t (at_item cs) a)).1 follows in
    taken_begins b.depth cs c (take_byte b.depth q c) other taken (byte-taken b.depth q q [] c (within-start b.depth q (clear-at (at_item cs))) small)
