-- What the digits of a text encode, and one more digit.
use Rattle.std.proofs.Common.{ℕ, ◌+◌, ◌*◌, ◌%◌, ◌<◌, ◌≡◌, Bool, true, false, List, [], ◌∷◌, ◌++◌, length, take, drop, slice_index, Option, Some, None, Result, Ok, Err, refl, sym, ap, ◌∙◌, subst, arith, eq-eqb, append_assoc, length-append, ◌==◌, if◌then◌else◌, IsErr, append-nil, take-append-drop}
use Rattle.std.{specs.List.filter, proofs.lemmas.List.drop_more, proofs.lemmas.List.take_more, proofs.lemmas.List.Elements.filter-append}
use Rattle.hex.specs.Hex.{decode_of, decode_pairs, digit_or_error, hex_digit_value, pair_value, value_at, ◌>>=◌}
use Rattle.hex.specs.declared.error.FromHexError.{FromHexError, TheVariants.InvalidHexCharacter, TheVariants.OddLength}
use Rattle.hex.proofs.Pairs.{cons_byte, decode_pairs-ok_pair}
use Rattle.cborc_files.specs.Digits.{DigitsView, EndsIn, Spells, SpellsOn, IsHexErrorIn, IsWhole}
use Rattle.cborc_files.specs.Hex.{is_kept, is_white}

-- ---- decoding

ok_of : {A B : Type 0} → (r : Result A FromHexError) (f : A → Result B FromHexError) (y : B) → (r >>= f) ≡ Ok y → (x : A) × (r ≡ Ok x) × (f x ≡ Ok y)
ok_of (Ok x) f y h = (x, refl, h)
ok_of (Err e) f y h = cc h

err_after : {A B : Type 0} → (r : Result A FromHexError) (f : A → Result B FromHexError) → ((x : A) → IsErr (f x)) → IsErr (r >>= f)
err_after (Ok x) f h = h x
err_after (Err e) f h = refl

err_before : {A B : Type 0} → (r : Result A FromHexError) (f : A → Result B FromHexError) → IsErr r → IsErr (r >>= f)
err_before (Ok x) f h = cc h
err_before (Err e) f h = refl

abbrev ok : List ℕ → Result (List ℕ) FromHexError
ok x = Ok x

inside : {x y : List ℕ} → ok x ≡ ok y → x ≡ y
inside e = cc e

pair_is : (i high low a b : ℕ) → hex_digit_value high ≡ Some a → hex_digit_value low ≡ Some b → pair_value high low i ≡ Ok (a * 16 + b)
pair_is i high low a b h l =
    let first : value_at high i ≡ Ok a = ap (digit_or_error high i) h in
    let second : value_at low (i + 1) ≡ Ok b = ap (digit_or_error low (i + 1)) l in
    rw (first, second) refl

one_more : (i : ℕ) (xs bs : List ℕ) (high low v : ℕ) → decode_pairs i xs ≡ Ok bs → ((j : ℕ) → pair_value high low j ≡ Ok v) → decode_pairs i (xs ++ high ∷ low ∷ []) ≡ Ok (bs ++ v ∷ [])
unfolding decode_pairs
one_more i [] bs high low v h p = decode_pairs-ok_pair i high low v [] (p i) ∙ ap (λ (x : List ℕ). Ok (x ++ v ∷ [])) (inside h)
one_more i (x ∷ []) bs high low v h p = cc h
one_more i (x ∷ y ∷ rest) bs high low v h p =
    let first = ok_of (pair_value x y i) _ bs h in
    let second = ok_of (decode_pairs (i + 2) rest) _ bs first.2 in
    decode_pairs-ok_pair i x y first.0 (rest ++ high ∷ low ∷ []) first.1
    ∙ ap (cons_byte first.0) (one_more (i + 2) rest second.0 high low v second.1 p)
    ∙ ap (λ (l : List ℕ). Ok (l ++ v ∷ [])) (inside second.2)

twice : (i : ℕ) (xs bs : List ℕ) → decode_pairs i xs ≡ Ok bs → length xs ≡ 2 * length bs
unfolding decode_pairs
twice i [] bs h = omega (arith, ap length (inside h))
twice i (x ∷ []) bs h = cc h
twice i (x ∷ y ∷ rest) bs h =
    let first = ok_of (pair_value x y i) _ bs h in
    let second = ok_of (decode_pairs (i + 2) rest) _ bs first.2 in
    omega (arith, twice (i + 2) rest second.0 second.1, ap length (inside second.2))

never : (i : ℕ) (xs more : List ℕ) (c : ℕ) → hex_digit_value c ≡ None → IsErr (decode_pairs i (xs ++ c ∷ more))
unfolding decode_pairs
never i [] [] c e = refl
never i [] (m ∷ ms) c e =
    let bad : value_at c i ≡ Err (InvalidHexCharacter c i) = ap (digit_or_error c i) e in
    err_before (pair_value c m i) _ (rw bad refl)
never i (x ∷ []) more c e =
    let bad : value_at c (i + 1) ≡ Err (InvalidHexCharacter c (i + 1)) = ap (digit_or_error c (i + 1)) e in
    err_before (pair_value x c i) _ (err_after (value_at x i) _ (λ a. rw bad refl))
never i (x ∷ y ∷ xs) more c e =
    err_after (pair_value x y i) _ (λ byte. err_before (decode_pairs (i + 2) (xs ++ c ∷ more)) _ (never (i + 2) xs more c e))

either_err : (b : Bool) (r : Result (List ℕ) FromHexError) → IsErr r → IsErr (if b then Err OddLength else r)
either_err true r h = refl
either_err false r h = h

by_test : (b : Bool) (r : Result (List ℕ) FromHexError) → b ≡ true → IsErr (if b then Err OddLength else r)
by_test b r e = rw e refl

by_other : (b : Bool) (r : Result (List ℕ) FromHexError) → b ≡ false → (if b then Err OddLength else r) ≡ r
by_other b r e = rw e refl

odd_fails : (digits : List ℕ) (k : ℕ) → length digits ≡ 2 * k + 1 → IsErr (decode_of digits)
odd_fails digits k e = by_test (length digits % 2 == 1) (decode_pairs 0 digits) (eq-eqb (length digits % 2) 1 (omega (arith, e)))

-- ---- texts

kept_byte : (byte : ℕ) (more : List ℕ) → false ≡ is_white byte → filter is_kept (byte ∷ more) ≡ byte ∷ filter is_kept more
kept_byte byte more e = rw (← e) refl

white_byte : (byte : ℕ) → true ≡ is_white byte → filter is_kept (byte ∷ []) ≡ []
white_byte byte e = rw (← e) refl

-- the digits of a text and one more
kept_more : (text : List ℕ) (byte : ℕ) → false ≡ is_white byte → filter is_kept (text ++ byte ∷ []) ≡ filter is_kept text ++ byte ∷ []
kept_more text byte apart = filter-append is_kept text (byte ∷ []) ∙ ap (λ (x : List ℕ). filter is_kept text ++ x) (kept_byte byte [] apart)

-- a byte that is neither white space nor a digit
pub no_digit : (d : DigitsView) (byte : ℕ) → false ≡ is_white byte → hex_digit_value byte ≡ None → IsHexErrorIn (byte ∷ []) d
no_digit d byte apart none text spelled more h =
    let digits : filter is_kept (text ++ byte ∷ more) ≡ filter is_kept text ++ byte ∷ filter is_kept more = filter-append is_kept text (byte ∷ more) ∙ ap (λ (x : List ℕ). filter is_kept text ++ x) (kept_byte byte more apart) in
    subst (λ (x : List ℕ). IsErr (decode_of x)) (sym digits)
    (either_err (length (filter is_kept text ++ byte ∷ filter is_kept more) % 2 == 1) _ (never 0 (filter is_kept text) (filter is_kept more) byte none))

-- ---- the next byte

abbrev pub digits_view : ℕ → ℕ → Option ℕ → DigitsView
digits_view line column high = record { high = high; line = line; column = column }

module _ (before : List ℕ) where
  pub white : (d : DigitsView) (byte : ℕ) → true ≡ is_white byte → SpellsOn (byte ∷ []) d d before before
  white d byte e = record {
    more = [];
    added = sym (append-nil before);
    few = omega arith;
    goes_on = λ text spelled h.
        let same : filter is_kept (text ++ byte ∷ []) ≡ filter is_kept text =
        filter-append is_kept text (byte ∷ []) ∙ ap (λ (x : List ℕ). filter is_kept text ++ x) (white_byte byte e) ∙ append-nil (filter is_kept text) in
        record {
          pairs = h.pairs;
          ends = subst (λ (x : List ℕ). EndsIn x h.pairs d.high) (sym same) h.ends;
          is = h.is ∙ ap ok (sym (append-nil spelled));
        };
  }

  module _ (line column byte value : ℕ) (apart : false ≡ is_white byte) (is : hex_digit_value byte ≡ Some value) where
    pub waits : SpellsOn (byte ∷ []) (digits_view line column None) (digits_view line column (Some value)) before before
    waits = record {
      more = [];
      added = sym (append-nil before);
      few = omega arith;
      goes_on = λ text spelled h. record {
        pairs = h.pairs;
        ends = (byte, kept_more text byte apart ∙ ap (λ (x : List ℕ). x ++ byte ∷ []) h.ends, is);
        is = h.is ∙ ap ok (sym (append-nil spelled));
      };
    }

    -- after a digit whose second digit is expected
    pub completes : (high : ℕ) (after : List ℕ) → after ≡ before ++ (high * 16 + value) ∷ [] → SpellsOn (byte ∷ []) (digits_view line column (Some high)) (digits_view line column None) before after
    completes high after e = record {
      more = (high * 16 + value) ∷ [];
      added = e;
      few = omega arith;
      goes_on = λ text spelled h. record {
        pairs = h.pairs ++ h.ends.0 ∷ byte ∷ [];
        ends = kept_more text byte apart ∙ ap (λ (x : List ℕ). x ++ byte ∷ []) h.ends.1 ∙ append_assoc h.pairs (h.ends.0 ∷ []) (byte ∷ []);
        is = one_more 0 h.pairs spelled h.ends.0 byte (high * 16 + value) h.is (λ j. pair_is j h.ends.0 byte high value h.ends.2 is);
      };
    }

-- ---- the next bytes

pub spells_none : (d : DigitsView) (before : List ℕ) → SpellsOn [] d d before before
spells_none d before = record {
  more = [];
  added = sym (append-nil before);
  few = omega arith;
  goes_on = λ text spelled h.
      subst (λ (x : List ℕ). Spells x (spelled ++ []) d) (sym (append-nil text)) (subst (λ (x : List ℕ). Spells text x d) (sym (append-nil spelled)) h);
}

-- these bytes of a text, and then one more
module _ (text : List ℕ) (i : ℕ) (within : i < length text) (old middle : DigitsView) (before between : List ℕ) (h : SpellsOn (take i text) old middle before between) where
  prefix : take (i + 1) text ≡ take i text ++ slice_index text i ∷ []
  prefix = take_more text i 0 within

  pub spells_more : (new : DigitsView) (after : List ℕ) → SpellsOn (slice_index text i ∷ []) middle new between after → SpellsOn (take (i + 1) text) old new before after
  spells_more new after k = subst (λ (x : List ℕ). SpellsOn x old new before after) (sym prefix) (record {
    more = h.more ++ k.more;
    added = k.added ∙ ap (λ (x : List ℕ). x ++ k.more) h.added ∙ append_assoc before h.more k.more;
    few = omega (arith, h.few, k.few, length-append h.more k.more, length-append (take i text) (slice_index text i ∷ []));
    goes_on = λ earlier spelled s.
        subst (λ (x : List ℕ). Spells x (spelled ++ (h.more ++ k.more)) new) (append_assoc earlier (take i text) (slice_index text i ∷ []))
        (subst (λ (x : List ℕ). Spells ((earlier ++ take i text) ++ slice_index text i ∷ []) x new) (append_assoc spelled h.more k.more)
        (k.goes_on (earlier ++ take i text) (spelled ++ h.more) (h.goes_on earlier spelled s)));
  })

  -- that byte is not a digit
  pub hex_error_after : IsHexErrorIn (slice_index text i ∷ []) middle → IsHexErrorIn text old
  hex_error_after k earlier spelled more s =
      let there : (earlier ++ take i text) ++ slice_index text i ∷ (drop (i + 1) text ++ more) ≡ earlier ++ (text ++ more) =
      append_assoc earlier (take i text) (slice_index text i ∷ (drop (i + 1) text ++ more))
      ∙ ap (λ (x : List ℕ). earlier ++ x) (sym (append_assoc (take i text) (slice_index text i ∷ drop (i + 1) text) more)
      ∙ ap (λ (x : List ℕ). x ++ more) (ap (λ (x : List ℕ). take i text ++ x) (sym (drop_more text i 0 within)) ∙ take-append-drop i text)) in
      subst (λ (x : List ℕ). IsErr (decode_of (filter is_kept x))) there
      (k (earlier ++ take i text) (spelled ++ h.more) (drop (i + 1) text ++ more) (h.goes_on earlier spelled s))

-- ---- the end of the text

pub none_yet : (line column : ℕ) → Spells [] [] (digits_view line column None)
unfolding decode_pairs
none_yet line column = record { pairs = []; ends = refl; is = refl }

pub all_spelled : (line column : ℕ) → IsWhole (digits_view line column None)
all_spelled line column text spelled h =
    let even : (length h.pairs % 2 == 1) ≡ false = grind (arith, twice 0 h.pairs spelled h.is) in
    ap decode_of h.ends ∙ by_other (length h.pairs % 2 == 1) (decode_pairs 0 h.pairs) even ∙ h.is

pub one_alone : (line column high : ℕ) (text spelled : List ℕ) → Spells text spelled (digits_view line column (Some high)) → IsErr (decode_of (filter is_kept text))
one_alone line column high text spelled h =
    odd_fails (filter is_kept text) (length spelled)
    (omega (arith, ap length h.ends.1, length-append h.pairs (h.ends.0 ∷ []), twice 0 h.pairs spelled h.is))
