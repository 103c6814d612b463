-- A file that is read in parts, as bytes or as hex text, and its input.
use Rattle.std.proofs.Common.{ℕ, ◌+◌, ◌-◌, ◌^◌, ◌≡◌, ◌<◌, ◌≤◌, ◌⊎◌, inl, inr, Bool, true, false, Option, Some, None, List, [], ◌∷◌, ◌++◌, length, take, drop, refl, sym, ap, ◌∙◌, arith, subst, IsErr, nat_lt, append_assoc, append-nil, length-append, length-take, length-drop, take-append-drop}
use Rattle.std.{specs.List.filter, proofs.Math.Seq.drop-append_seam, proofs.Math.Seq.take-append_seam}
use Rattle.std.proofs.lemmas.{Bool.cases_lt, Bool.false≢true, Bool.Decides.Decides-ltb, List.Elements.filter-append, List.nil_from_length}
use Rattle.hex.specs.Hex.{decode_of, decode_pairs}
use Rattle.cborc_files.specs.Digits.{DigitsView, EndsIn, Spells, SpellsOn, IsWhole, IsOfText}
use Rattle.cborc_files.specs.Folder.{Files, Holds, IsNoDigits, ReadsOn, KeepsFiles}
use Rattle.cborc_files.specs.declared.hex_text.DigitsFault.TheVariants as digits
use Rattle.cborc_files.specs.declared.folder.FileFault.TheVariants as file_faults
use Rattle.cborc_files.specs.{declared.folder.FileFault.FileFault, Hex.is_kept, declared.hex_text.DigitsFault.DigitsFault}
use Rattle.cborc_commands.specs.Input.{IsInput, IsPrefix, IsNotHex}
use Rattle.cborc_commands.specs.declared.fault.Fault.TheVariants as faults
use Rattle.cborc_commands.specs.inner.Sources.{StartsFile, Gives, IsAll, HasGiven, IsFresh, Adds, IsPartAdded, IsUndecoded, IsHexErrorText, IsNoPart, StartsInputAt, HasInput, HasNoInput}
use Rattle.cborc_commands.proofs.Files.{held_before, keeps_keeps, there_before, missing_before}
use Rattle.cborc_commands.proofs.Files.{same_files}
use Rattle.cborc_commands.specs.{NoInput.IsNoInput, declared.fault.Fault.Fault, declared.source.Source.Source}

-- what a later state of a file holds, the earlier state held
same_file : (files : Files) (now : Option Files) (path xs ys : List ℕ) → KeepsFiles (Some files) now → files path ≡ Some xs → Holds now path ys → ys ≡ xs
same_file files now path xs ys keeps h k = inside (sym (held_before (Some files) now path ys keeps k) ∙ h)
  where
    inside : {x y : List ℕ} → Some x ≡ Some y → x ≡ y
    inside e = cc e

-- ---- the next part

-- of a file
file_further : (held now : Option Files) (path prefix part : List ℕ) (was ended : Bool) (most : ℕ) → KeepsFiles held now → StartsFile held path prefix was
    → ReadsOn now path (length prefix) most [] part → (ended ≡ true → length part < most) → StartsFile held path (prefix ++ part) ended
file_further None now path prefix part was ended most keeps f r short = record { back = []; holds = tt; end = λ e. refl }
file_further (Some files) now path prefix part was ended most keeps f r short =
    let whole : r.whole ≡ prefix ++ f.back = same_file files now path (prefix ++ f.back) r.whole keeps f.holds r.holds in
    let part_is : part ≡ take most f.back =
    r.added ∙ ap (λ (xs : List ℕ). take most (drop (length prefix) xs)) whole ∙ ap (take most) (drop-append_seam prefix f.back) in
    let splits : prefix ++ f.back ≡ (prefix ++ part) ++ drop most f.back =
    ap (λ (xs : List ℕ). prefix ++ xs) (sym (take-append-drop most f.back)) ∙ sym (append_assoc prefix (take most f.back) (drop most f.back))
    ∙ ap (λ (xs : List ℕ). (prefix ++ xs) ++ drop most f.back) (sym part_is) in
    record {
      back = drop most f.back;
      holds = f.holds ∙ ap (λ (xs : List ℕ). Some xs) splits;
      end = λ e. nil_from_length (drop most f.back) (omega (arith, ap length part_is, short e, length-take most f.back, length-drop most f.back));
    }

-- of what it gives
more_given : (hex : Bool) (d new : DigitsView) (prefix part bytes before after : List ℕ) → Gives hex d prefix bytes → Adds hex part d new before after
    → (more : List ℕ) × (after ≡ before ++ more) × Gives hex new (prefix ++ part) (bytes ++ more)
more_given false d new prefix part bytes before after g a = (part, a, ap (λ (xs : List ℕ). xs ++ part) g)
more_given true d new prefix part bytes before after g a = (a.more, a.added, a.goes_on prefix bytes g)

pub given_further : (held now : Option Files) (path : List ℕ) (old new : Source) (bytes before after : List ℕ) → KeepsFiles held now → HasGiven held path old bytes
    → IsPartAdded now path old new before after → (more : List ℕ) × (after ≡ before ++ more) × HasGiven held path new (bytes ++ more)
given_further held now path old new bytes before after keeps g a =
    let m = more_given old.hex old.digits new.digits g.prefix a.part bytes before after g.gives a.adds in (
      m.0,
      m.1,
      record {
        prefix = g.prefix ++ a.part;
        file = file_further held now path g.prefix a.part old.ended new.ended a.most keeps g.file
            (subst (λ (n : ℕ). ReadsOn now path n a.most [] a.part) g.size_is a.read)
            (λ e. (Decides-ltb (length a.part) a.most).0 (sym a.ended_is ∙ e));
        gives = subst (λ (hex : Bool). Gives hex new.digits (g.prefix ++ a.part) (bytes ++ m.0)) (sym a.hex_is) m.2;
        size_is = omega (arith, a.size_is, g.size_is, length-append g.prefix a.part);
        all = a.all;
      },
    )

-- no bytes, of nothing
none_given : (hex : Bool) (d : DigitsView) → Spells [] [] d → Gives hex d [] []
none_given false d h = refl
none_given true d h = h

fresh_given : (held : Option Files) (path : List ℕ) (hex : Bool) (s : Source) (whole : List ℕ) → IsFresh hex s → Holds held path whole → HasGiven held path s []
fresh_given held path hex s whole f h = record {
  prefix = [];
  file = record { back = whole; holds = h; end = λ e. absurd (false≢true (sym f.ended_is ∙ e)) };
  gives = none_given s.hex s.digits f.none;
  size_is = f.size_is;
  all = λ e. absurd (false≢true (sym f.ended_is ∙ e));
}

pub first_given : (held : Option Files) (path : List ℕ) (hex : Bool) (old new : Source) (after : List ℕ) → IsFresh hex old → IsPartAdded held path old new [] after
    → HasGiven held path new after
first_given held path hex old new after f a =
    let m = given_further held held path old new [] [] after (same_files held) (fresh_given held path hex old a.read.whole f a.read.holds) a in
    subst (HasGiven held path new) (sym m.1) m.2

-- how many bytes there are
pub no_fewer : (hex : Bool) (part before after : List ℕ) (old new : DigitsView) → Adds hex part old new before after
    → (length before ≤ length after) × (length after ≤ length before + length part)
no_fewer false part before after old new a =
    let size = ap length a ∙ length-append before part in
    (omega (arith, size), omega (arith, size))
no_fewer true part before after old new a =
    let size = ap length a.added ∙ length-append before a.more in
    (omega (arith, size), omega (arith, size, a.few))

-- ---- the input

abbrev pub IsKnown : Source → Type 0
IsKnown s = (s.ended ≡ true) ⊎ (s.hex ≡ false)

-- of a file that is at its end
module _ (held : Option Files) (path prefix back bytes : List ℕ) (d : DigitsView) (none : back ≡ []) (h : Holds held path (prefix ++ back)) where
  whole_file : Holds held path prefix
  whole_file = subst (Holds held path) (ap (λ (xs : List ℕ). prefix ++ xs) none ∙ append-nil prefix) h

  whole_input : (hex : Bool) → Gives hex d prefix bytes → IsAll hex d → IsInput held path hex bytes
  whole_input false g a = subst (Holds held path) (sym g) whole_file
  whole_input true g a = (prefix, whole_file, a prefix bytes g)

module _ (held : Option Files) (path : List ℕ) (s : Source) (bytes : List ℕ) (g : HasGiven held path s bytes) where
  pub input_known : IsKnown s → StartsInputAt held path s.hex bytes s.ended
  input_known (inl e) = record {
    following = [];
    is = subst (IsInput held path s.hex) (sym (append-nil bytes))
        (whole_input held path g.prefix g.file.back bytes s.digits (g.file.end e) g.file.holds s.hex g.gives (g.all e));
    end = λ e. refl;
  }
  input_known (inr raw) = record {
    following = g.file.back;
    is = subst (λ (hex : Bool). IsInput held path hex (bytes ++ g.file.back)) (sym raw)
        (subst (λ (xs : List ℕ). Holds held path (xs ++ g.file.back)) (sym (subst (λ (hex : Bool). Gives hex s.digits g.prefix bytes) raw g.gives)) g.file.holds);
    end = g.file.end;
  }

  -- once more of it was read
  pub input_beyond : (more : List ℕ) (t : Source) → t.hex ≡ s.hex → StartsInputAt held path t.hex (bytes ++ more) t.ended → StartsInputAt held path s.hex bytes s.ended
  input_beyond more t same k = by s.ended refl
    where
      by : (ended : Bool) → s.ended ≡ ended → StartsInputAt held path s.hex bytes s.ended
      by true e = input_known (inl e)
      by false e = record {
        following = more ++ k.following;
        is = subst (IsInput held path s.hex) (append_assoc bytes more k.following) (subst (λ (hex : Bool). IsInput held path hex ((bytes ++ more) ++ k.following)) same k.is);
        end = λ ends. absurd (false≢true (sym e ∙ ends));
      }

-- ---- its prefix

-- digits, and one that may wait
ends_after : (digits pairs : List ℕ) (high : Option ℕ) → EndsIn digits pairs high → (more : List ℕ) × (digits ≡ pairs ++ more)
ends_after digits pairs None e = ([], e ∙ sym (append-nil pairs))
ends_after digits pairs (Some value) (digit, e, is) = (digit ∷ [], e)

module _ (held : Option Files) (path prefix back bytes : List ℕ) (d : DigitsView) (h : Holds held path (prefix ++ back)) where
  prefix_of : (hex : Bool) → Gives hex d prefix bytes → IsPrefix held path hex bytes
  prefix_of false g = (prefix ++ back, length prefix, h, g ∙ sym (take-append_seam prefix back))
  prefix_of true g =
      let e = ends_after (filter is_kept prefix) g.pairs d.high g.ends in
      let first : take (length g.pairs) (filter is_kept (prefix ++ back)) ≡ g.pairs =
      ap (take (length g.pairs)) (filter-append is_kept prefix back ∙ ap (λ (xs : List ℕ). xs ++ filter is_kept back) e.1 ∙ append_assoc g.pairs e.0 (filter is_kept back))
      ∙ take-append_seam g.pairs (e.0 ++ filter is_kept back) in
      (prefix ++ back, length g.pairs, h, ap (decode_pairs 0) first ∙ g.is)

pub prefix_given : (held : Option Files) (path : List ℕ) (s : Source) (bytes : List ℕ) → HasGiven held path s bytes → IsPrefix held path s.hex bytes
prefix_given held path s bytes g = prefix_of held path g.prefix g.file.back bytes s.digits g.file.holds s.hex g.gives

-- ---- there is none

hex_error_text : (held now : Option Files) (path : List ℕ) (s : Source) (bytes : List ℕ) → KeepsFiles held now → HasGiven held path s bytes → IsHexErrorText now path s → IsNoDigits held path
hex_error_text held now path s bytes keeps g h = by held keeps g.file
  where
    spells : Spells g.prefix bytes s.digits
    spells = subst (λ (hex : Bool). Gives hex s.digits g.prefix bytes) h.hex_is g.gives

    by : (held : Option Files) → KeepsFiles held now → StartsFile held path g.prefix s.ended → IsNoDigits held path
    by None keeps f = (g.prefix ++ drop s.size h.whole, tt, h.hex_error g.prefix bytes spells)
    by (Some files) keeps f =
        let whole : h.whole ≡ g.prefix ++ f.back = same_file files now path (g.prefix ++ f.back) h.whole keeps f.holds h.holds in
        let following : drop s.size h.whole ≡ f.back =
        ap (λ (n : ℕ). drop n h.whole) g.size_is ∙ ap (drop (length g.prefix)) whole ∙ drop-append_seam g.prefix f.back in
        (g.prefix ++ f.back, f.holds, subst (λ (xs : List ℕ). IsErr (decode_of (filter is_kept (g.prefix ++ xs)))) following (h.hex_error g.prefix bytes spells))

pub no_part : (held now : Option Files) (path : List ℕ) (s : Source) (bytes : List ℕ) → KeepsFiles held now → HasGiven held path s bytes
    → (fault : Fault) → IsNoPart now path s fault → IsNoInput held path s.hex fault
no_part held now path s bytes keeps g (faults.CannotRead named) (e, h) = (e, missing_before held now path keeps h)
no_part held now path s bytes keeps g (faults.NotHex named) (e, h) =
    (e, subst (IsNotHex held path) (sym h.hex_is) (hex_error_text held now path s bytes keeps g h))
no_part held now path s bytes keeps g faults.Memory h = there_before held now path keeps h
no_part held now path s bytes keeps g _ h = absurd h

pub no_first_part : (held : Option Files) (path : List ℕ) (hex : Bool) (s : Source) → IsFresh hex s → (fault : Fault) → IsNoPart held path s fault → IsNoInput held path hex fault
no_first_part held path hex s f (faults.CannotRead named) h = h
no_first_part held path hex s f (faults.NotHex named) (e, h) =
    subst (λ (b : Bool). IsNoInput held path b (faults.NotHex named)) f.hex_is
    (no_part held held path s [] (same_files held) (fresh_given held path hex s h.whole f h.holds) (faults.NotHex named) (e, h))
no_first_part held path hex s f faults.Memory h = h
no_first_part held path hex s f _ h = absurd h

-- ---- reading on to the end

-- the input bytes of the first are a prefix of those of the second
abbrev pub IsFurther : Option Files → List ℕ → Source → Source → Type 0
IsFurther now path s t =
    (held : Option Files) (bytes : List ℕ) → KeepsFiles held now → HasGiven held path s bytes → (more : List ℕ) × HasGiven held path t (bytes ++ more)

module _ (now later : Option Files) (path : List ℕ) (s t : Source) (keeps : KeepsFiles now later) (far : IsFurther now path s t) where
  pub one_further : (u : Source) (before after : List ℕ) → IsPartAdded later path t u before after → IsFurther now path s u
  one_further u before after a held bytes kept g =
      let m = far held bytes kept g in
      let n = given_further held later path t u (bytes ++ m.0) before after (keeps_keeps held now later kept keeps) m.1 a in
      (m.0 ++ n.0, subst (HasGiven held path u) (append_assoc bytes m.0 n.0) n.2)

  pub no_end : t.hex ≡ s.hex → (fault : Fault) → IsNoPart later path t fault → HasNoInput now path s fault
  no_end same fault none held bytes kept g =
      let m = far held bytes kept g in
      subst (λ (hex : Bool). IsNoInput held path hex fault) same
      (no_part held later path t (bytes ++ m.0) (keeps_keeps held now later kept keeps) m.1 fault none)

pub at_end : (now : Option Files) (path : List ℕ) (s t : Source) → IsFurther now path s t → t.hex ≡ s.hex → IsKnown t → HasInput now path s
at_end now path s t far same known held bytes kept g =
    let m = far held bytes kept g in
    input_beyond held path s bytes g m.0 t same (input_known held path t (bytes ++ m.0) m.1 known)

-- ---- what a part of a file adds

adds_read : (hex : Bool) (part before after : List ℕ) (old new : DigitsView) → hex ≡ false → after ≡ before ++ part → Adds hex part old new before after
adds_read false part before after old new e a = a
adds_read true part before after old new e a = cc e

adds_spelled : (hex : Bool) (part before after : List ℕ) (old new : DigitsView) → hex ≡ true → SpellsOn part old new before after → Adds hex part old new before after
adds_spelled false part before after old new e a = cc e
adds_spelled true part before after old new e a = a

all_read : (hex : Bool) (d : DigitsView) → hex ≡ false → IsAll hex d
all_read false d e = tt
all_read true d e = cc e

all_spelled : (hex : Bool) (d : DigitsView) → hex ≡ true → IsWhole d → IsAll hex d
all_spelled false d e w = cc e
all_spelled true d e w = w

module _ (held : Option Files) (path before after : List ℕ) (old new : Source) (most : ℕ) (some : 0 < most) (same : new.hex ≡ old.hex) (count : ℕ)
    (size : new.size ≡ old.size + count) (ended : new.ended ≡ nat_lt count most) where
  -- as bytes
  pub read_added : old.hex ≡ false → length after ≡ length before + count → ReadsOn held path old.size most before after → IsPartAdded held path old new before after
  read_added raw is r =
      let part = take most (drop old.size r.whole) in
      let all : count ≡ length part = omega (arith, is, ap length r.added, length-append before part) in
      record {
        most = most;
        some = some;
        part = part;
        read = record { whole = r.whole; holds = r.holds; added = refl };
        adds = adds_read old.hex part before after old.digits new.digits raw r.added;
        hex_is = same;
        size_is = size ∙ ap (λ (n : ℕ). old.size + n) all;
        ended_is = ended ∙ ap (λ (n : ℕ). nat_lt n most) all;
        all = λ e. all_read new.hex new.digits (same ∙ raw);
      }

  -- as hex text
  module _ (part : List ℕ) (is : count ≡ length part) (hex : old.hex ≡ true) (r : ReadsOn held path old.size most [] part) where
    pub spelled_added : SpellsOn part old.digits new.digits before after → (new.ended ≡ true → IsWhole new.digits) → IsPartAdded held path old new before after
    spelled_added s whole = record {
      most = most;
      some = some;
      part = part;
      read = r;
      adds = adds_spelled old.hex part before after old.digits new.digits hex s;
      hex_is = same;
      size_is = size ∙ ap (λ (n : ℕ). old.size + n) is;
      ended_is = ended ∙ ap (λ (n : ℕ). nat_lt n most) is;
      all = λ e. all_spelled new.hex new.digits (same ∙ hex) (whole e);
    }

-- a file with a part that is not hex text is not hex text
pub hex_error_part : (held : Option Files) (path : List ℕ) (s : Source) (most count : ℕ) (part : List ℕ) → s.hex ≡ true → ReadsOn held path s.size most [] part → count ≡ length part
    → IsUndecoded part (nat_lt count most) s.digits → IsHexErrorText held path s
hex_error_part held path s most count part hex r is u = record {
  hex_is = hex;
  whole = r.whole;
  holds = r.holds;
  hex_error = λ text spelled h.
      let later = drop most (drop s.size r.whole) in
      let all : part ++ later ≡ drop s.size r.whole = ap (λ (xs : List ℕ). xs ++ later) r.added ∙ take-append-drop most (drop s.size r.whole) in
      subst (λ (xs : List ℕ). IsErr (decode_of (filter is_kept (text ++ xs)))) all
      (u text spelled later
      (λ e. nil_from_length later
      (omega (arith, (Decides-ltb count most).0 e, is, ap length r.added, length-take most (drop s.size r.whole), length-drop most (drop s.size r.whole))))
      h);
}

-- a last digit alone
pub hex_error_end : (part before after : List ℕ) (old new : DigitsView) (ended : Bool) → ended ≡ true → SpellsOn part old new before after
    → ((text spelled : List ℕ) → Spells text spelled new → IsErr (decode_of (filter is_kept text))) → IsUndecoded part ended old
hex_error_end part before after old new ended e s hex_error text spelled more none h =
    subst (λ (xs : List ℕ). IsErr (decode_of (filter is_kept (text ++ xs)))) (sym (ap (λ (xs : List ℕ). part ++ xs) (none e) ∙ append-nil part))
    (hex_error (text ++ part) (spelled ++ s.more) (s.goes_on text spelled h))

-- the fault of reading
pub by_reading : (P : Fault → Type 0) (fault : FileFault) (reported failed : Fault) → (fault ≡ file_faults.Failed → reported ≡ failed) → (fault ≡ file_faults.Memory → reported ≡ faults.Memory)
    → (fault ≡ file_faults.Failed → P failed) → (fault ≡ file_faults.Memory → P faults.Memory) → P reported
by_reading P file_faults.Failed reported failed other memory h m = subst P (sym (other refl)) (h refl)
by_reading P file_faults.Memory reported failed other memory h m = subst P (sym (memory refl)) (m refl)

-- the fault of decoding
pub by_digits : (P : Fault → Type 0) (fault : DigitsFault) (reported hexed : Fault) → (IsOfText fault → reported ≡ hexed) → (¬ IsOfText fault → reported ≡ faults.Memory)
    → (IsOfText fault → P hexed) → P faults.Memory → P reported
by_digits P (digits.NotHex hex_error) reported hexed hex memory h m = subst P (sym (hex tt)) (h tt)
by_digits P digits.Memory reported hexed hex memory h m = subst P (sym (memory (λ e. e))) m

-- ---- what becomes less

-- one more call where the end is not known
abbrev pub expected : Bool → ℕ
expected true = 0
expected false = 1

-- of what may be read
abbrev pub unread : Source → ℕ
unread s = 2 ^ 63 - s.size + expected s.ended

-- becomes less as a part is read
module _ (held : Option Files) (path before after : List ℕ) (old new : Source) (a : IsPartAdded held path old new before after) where
  -- a part that is as long as requested
  longer : new.ended ≡ false → old.size < new.size
  longer e = elim (cases_lt (length a.part) a.most) [
    | inl l ↦ absurd (false≢true (sym e ∙ a.ended_is ∙ (Decides-ltb (length a.part) a.most).1 l))
    | inr l ↦ omega (arith, l, a.some, a.size_is)
  ]

  pub unread_less : old.ended ≡ false → new.size < 2 ^ 63 → (unread new < unread old) × (unread new + length a.part ≤ unread old)
  unread_less live range = by new.ended refl
    where
      by : (ended : Bool) → new.ended ≡ ended → (unread new < unread old) × (unread new + length a.part ≤ unread old)
      by true e =
          (omega (arith, range, a.size_is, ap expected e, ap expected live), omega (arith, range, a.size_is, ap expected e, ap expected live))
      by false e =
          (omega (arith, range, longer e, a.size_is, ap expected e, ap expected live), omega (arith, range, longer e, a.size_is, ap expected e, ap expected live))
