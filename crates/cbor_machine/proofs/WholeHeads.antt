-- A whole head where an item is expected.
use Rattle.std.proofs.Common.{◌≡◌, ℕ, zero, suc, Bool, nat_lt, ◌+◌, ◌-◌, ◌*◌, ◌/◌, ◌%◌, ◌^◌, ◌<◌, ◌≤◌, true, false, List, [], ◌∷◌, ◌++◌, length, take, refl, sym, ap, ◌∙◌, arith, append-nil, length-append}
use Rattle.std.{proofs.Math.Seq.take-append_seam, specs.Int.bytes_high_first}
use Rattle.byteorder.specs.Numbers.{length-bytes_high_first}
use Rattle.cbor_head.specs.declared.width.Width.TheVariants.{Direct, One, Two, Four, Eight, Indefinite}
use Rattle.cbor_head.specs.declared.event.EventKind.TheVariants as kinds
use Rattle.cbor_head.specs.{declared.event.EventKind.EventKind, Prelude.head, Prelude.major_number, declared.major.Major.Major}
use Rattle.cbor_head.specs.{declared.major.Major.TheVariants.Simple, declared.width.Width.Width, Argument.IsArgument}
use Rattle.theory_automaton.specs.Automaton.{Frame, State, at_item, in_head, after, close, tail, numbered_tail, major_at, has_space, run, reached, reporting}
use Rattle.theory_automaton.specs.Marks.{marks_of, IsDefinite, IsProper}
use Rattle.theory_automaton.proofs.Forward.{feed-fits, head-taken, item_starts, simple-direct, simple-one}
use Rattle.theory_automaton.{specs.Trace.Mark, specs.Trace.a_head, proofs.FirstByte.number-major_at, proofs.Rows.definite}
use Rattle.cbor_machine.specs.declared.opening.ArgumentType.TheVariants as numbered
use Rattle.cbor_machine.specs.declared.frame.Frame.{Frame as NestFrame}
use Rattle.cbor_machine.{proofs.Frames.length_frames, specs.AtOnce.may_begin, specs.State.frames_of, specs.State.major_of}
use Rattle.cbor_machine.specs.{Whole.IsArgumentLeft, Whole.IsEventRun, declared.opening.ArgumentType.ArgumentType}

plain : (kind : ArgumentType) (k : ℕ) → tail (major_of kind) k ≡ numbered_tail (major_of kind) k
plain numbered.Unsigned k = refl
plain _ k = refl

-- what comes before the rest
pub prefix-of : (xs hs rest : List ℕ) → xs ≡ hs ++ rest → take (length xs - length rest) xs ≡ hs
prefix-of xs hs rest e =
    let n : length xs - length rest ≡ length hs = omega (arith, ap length e, length-append hs rest) in
    ap (λ k. take k xs) n ∙ ap (take (length hs)) e ∙ take-append_seam hs rest

-- the bytes of a head, by its first byte
spelled-head : (c : ℕ) (following : List ℕ) (w : Width) (n : ℕ) (rest : List ℕ) (m : Major) → IsArgument (c % 32) following w n rest → major_number m ≡ c / 32 → c ∷ following ≡ head m w n ++ rest
spelled-head c following w n rest m a e =
    let first : c ≡ 32 * major_number m + c % 32 = omega (arith, e) in
    ap (λ x. x ∷ following) first ∙ a.spelled (32 * major_number m)

one-mark : (d : ℕ) (q u : State) (m : Mark) (hs : List ℕ) → ((rest : List ℕ) → run d q (hs ++ rest) ≡ reporting m (run d u rest)) → run d q hs ≡ reached u (m ∷ [])
one-mark d q u m hs h = ap (run d q) (sym (append-nil hs)) ∙ h []

-- a definite head of any type but 7
pub numbered-run : (d : ℕ) (fs : List Frame) (xs : List ℕ) (c : ℕ) (following : List ℕ) (w : Width) (n : ℕ) (rest : List ℕ) (kind : ArgumentType) (kind' : EventKind) (to : State)
    → xs ≡ c ∷ following → IsArgument (c % 32) following w n rest → c < 256 → major_of kind ≡ major_at (c / 32) → has_space d fs (major_of kind) ≡ true
    → to ≡ after false (major_of kind) n fs → marks_of w kind' ≡ a_head (major_of kind) w n ∷ [] → (IsDefinite w → IsProper w kind')
    → IsEventRun d (at_item fs) to (take (length xs - length rest) xs) w kind'
numbered-run d fs xs c following w n rest kind kind' to xs-is a small major space to-is marks proper =
    let m = major_of kind in
    let number : major_number m ≡ c / 32 = ap major_number major ∙ number-major_at (c / 32) (omega arith) in
    let prefix = prefix-of xs (head m w n) rest (xs-is ∙ spelled-head c following w n rest m a number) in
    record {
      ran = ap (run d (at_item fs)) prefix ∙ one-mark d (at_item fs) (after false m n fs) (a_head m w n) (head m w n) (λ more. head-taken d (at_item fs) false m fs (item_starts d m fs (plain kind) space) w n more a.holds)
          ∙ ap (λ q. reached q (a_head m w n ∷ [])) (sym to-is) ∙ ap (reached to) (sym marks);
      proper = proper (definite w n a.holds);
    }

-- a simple value
pub simple-run : (d : ℕ) (fs : List Frame) (xs : List ℕ) (c : ℕ) (following : List ℕ) (w : Width) (n : ℕ) (rest : List ℕ) (to : State)
    → xs ≡ c ∷ following → IsArgument (c % 32) following w n rest → c < 256 → 224 ≤ c → c % 32 ≤ 24 → (c % 32 ≡ 24 → 32 ≤ n) → to ≡ close fs
    → IsEventRun d (at_item fs) to (take (length xs - length rest) xs) w (kinds.Simple n)
simple-run d fs xs c following w n rest to xs-is a small high low enough to-is =
    let number : major_number Simple ≡ c / 32 = omega arith in
    let prefix = prefix-of xs (head Simple w n) rest (xs-is ∙ spelled-head c following w n rest Simple a number) in
    record {
      ran = ap (run d (at_item fs)) prefix ∙ by-width w n a enough ∙ ap (λ q. reached q (a_head Simple w n ∷ [])) (sym to-is);
      proper = definite w n a.holds;
    }
  where
    head-cons : {x y : ℕ} {xs ys : List ℕ} → x ∷ xs ≡ y ∷ ys → x ≡ y
    head-cons e = cc

    by-width : (w : Width) (n : ℕ) → IsArgument (c % 32) following w n rest → (c % 32 ≡ 24 → 32 ≤ n) → run d (at_item fs) (head Simple w n) ≡ reached (close fs) (a_head Simple w n ∷ [])
    by-width Direct n a more = one-mark d (at_item fs) (close fs) (a_head Simple Direct n) (head Simple Direct n) (λ zs. simple-direct d n fs zs a.holds)
    by-width One n a more =
        let e = a.spelled 0 in
        let f : 0 + c % 32 ≡ 0 + 24 = head-cons e in
        one-mark d (at_item fs) (close fs) (a_head Simple One n) (head Simple One n) (λ zs. simple-one d n fs zs (more (omega arith)) a.holds)
    by-width Two n a more = let e = a.spelled 0 in absurd (let f : 0 + c % 32 ≡ 0 + 25 = head-cons e in omega arith)
    by-width Four n a more = let e = a.spelled 0 in absurd (let f : 0 + c % 32 ≡ 0 + 26 = head-cons e in omega arith)
    by-width Eight n a more = let e = a.spelled 0 in absurd (let f : 0 + c % 32 ≡ 0 + 27 = head-cons e in omega arith)
    by-width Indefinite n a more = absurd a.holds

-- the argument of an open head, if all of its bytes are available
fed-by : (left k n : ℕ) (xs rest : List ℕ) → left ≡ k → n < 256 ^ suc k → xs ≡ bytes_high_first (suc k) n ++ rest → IsArgumentLeft left n xs × (left < length xs)
fed-by left k n xs rest same fits is =
    let bs = bytes_high_first (suc k) n in
    let size : length bs ≡ suc k = length-bytes_high_first (suc k) n in
    let all : left + 1 ≡ length bs = omega (arith, size) in
    let prefix : take (left + 1) xs ≡ bs = ap (λ j. take j xs) all ∙ ap (take (length bs)) is ∙ take-append_seam bs rest in (
      λ d chunk m w fs.
          ap (run d (in_head chunk m w left 0 fs)) prefix ∙ ap (λ j. run d (in_head chunk m w j 0 fs) bs) same ∙ ap (run d (in_head chunk m w k 0 fs)) (sym (append-nil bs)) ∙ feed-fits d chunk m w k n fs [] fits,
      omega (arith, size, ap length is, length-append bs rest),
    )

pub fed : (left low n : ℕ) (xs rest : List ℕ) (w : Width) → left + 1 ≡ 2 ^ (low - 24) → 24 ≤ low → IsArgument low xs w n rest → IsArgumentLeft left n xs × (left < length xs)
fed left low n xs rest w at high a = by-width w a
  where
    head-cons : {x y : ℕ} {xs ys : List ℕ} → x ∷ xs ≡ y ∷ ys → x ≡ y
    head-cons e = cc

    tail-cons : {x y : ℕ} {xs ys : List ℕ} → x ∷ xs ≡ y ∷ ys → xs ≡ ys
    tail-cons e = cc

    left-is : (k x : ℕ) → low ≡ x → 2 ^ (x - 24) ≡ k + 1 → left ≡ k
    left-is k x e f = let g : left + 1 ≡ k + 1 = at ∙ ap (λ y. 2 ^ (y - 24)) e ∙ f in omega arith

    by-width : (w : Width) → IsArgument low xs w n rest → IsArgumentLeft left n xs × (left < length xs)
    by-width Direct a = let e = a.spelled 0 in let f : 0 + low ≡ 0 + n = head-cons e in let h = a.holds in absurd (omega arith)
    by-width One a = let e = a.spelled 0 in let f : 0 + low ≡ 0 + 24 = head-cons e in fed-by left 0 n xs rest (left-is 0 24 (omega arith) refl) a.holds (tail-cons e)
    by-width Two a = let e = a.spelled 0 in let f : 0 + low ≡ 0 + 25 = head-cons e in fed-by left 1 n xs rest (left-is 1 25 (omega arith) refl) a.holds (tail-cons e)
    by-width Four a = let e = a.spelled 0 in let f : 0 + low ≡ 0 + 26 = head-cons e in fed-by left 3 n xs rest (left-is 3 26 (omega arith) refl) a.holds (tail-cons e)
    by-width Eight a = let e = a.spelled 0 in let f : 0 + low ≡ 0 + 27 = head-cons e in fed-by left 7 n xs rest (left-is 7 27 (omega arith) refl) a.holds (tail-cons e)
    by-width Indefinite a = absurd a.holds

-- an argument with no byte after the first is in the first byte
pub direct_alone : (low : ℕ) (following : List ℕ) (w : Width) (n : ℕ) (rest : List ℕ) → length following ≡ 0 → IsArgument low following w n rest → low < 24
direct_alone low following w n rest none a = by-width w a
  where
    head-cons : {x y : ℕ} {xs ys : List ℕ} → x ∷ xs ≡ y ∷ ys → x ≡ y
    head-cons e = cc

    -- there are no `size` bytes of an argument
    following-it : (size : ℕ) (first : ℕ) → 0 < size → (0 + low) ∷ following ≡ first ∷ (bytes_high_first size n ++ rest) → low < 24
    following-it size first some e = absurd (omega (arith, none, ap length e, length-append (bytes_high_first size n) rest, length-bytes_high_first size n))

    by-width : (w : Width) → IsArgument low following w n rest → low < 24
    by-width Direct a = let e = a.spelled 0 in let f : 0 + low ≡ 0 + n = head-cons e in let h = a.holds in omega arith
    by-width One a = following-it 1 24 (omega arith) (a.spelled 0)
    by-width Two a = following-it 2 25 (omega arith) (a.spelled 0)
    by-width Four a = following-it 4 26 (omega arith) (a.spelled 0)
    by-width Eight a = following-it 8 27 (omega arith) (a.spelled 0)
    by-width Indefinite a = absurd a.holds

-- if there is space for a container, an item may begin with any byte below 224
pub space_begins : (d : ℕ) (fs : List NestFrame) (c : ℕ) → c < 224 → has_space d (frames_of fs) (major_at (c / 32)) ≡ true → may_begin d (length fs) c ≡ true
space_begins d fs c small space = by-byte (nat_lt c 0x80) refl
  where
    deep : (k : ℕ) → 4 ≤ k → k < 7 → has_space d (frames_of fs) (major_at k) ≡ true → nat_lt (length fs) d ≡ true
    deep zero l h e = absurd (omega (arith, l))
    deep (suc zero) l h e = absurd (omega (arith, l))
    deep (suc (suc zero)) l h e = absurd (omega (arith, l))
    deep (suc (suc (suc zero))) l h e = absurd (omega (arith, l))
    deep (suc (suc (suc (suc zero)))) l h e = rw (← length_frames fs) e
    deep (suc (suc (suc (suc (suc zero))))) l h e = rw (← length_frames fs) e
    deep (suc (suc (suc (suc (suc (suc zero)))))) l h e = rw (← length_frames fs) e
    deep _ l h e = absurd (omega (arith, h))

    by-byte : (b : Bool) → nat_lt c 0x80 ≡ b → may_begin d (length fs) c ≡ true
    by-byte true e = rw e refl
    by-byte false e = let h = deep (c / 32) (grind (arith, e)) (omega arith) space in grind (arith, h, e)
