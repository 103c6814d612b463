-- The parts of a valid item, by their bytes: items without members, and the openers of containers.
use Rattle.std.proofs.Common.{◌≡◌, ℕ, suc, ◌+◌, ◌-◌, ◌*◌, ◌%◌, ◌<◌, ◌≤◌, Bool, true, false, List, [], ◌∷◌, ◌++◌, length, take, drop, refl, sym, ap, ap₂, ◌∙◌, subst, arith, inl, inr, append_assoc, append-nil, IsUtf8, length-append, length-take-le, take-append-drop}
use Rattle.std.proofs.{lemmas.Bool.cases_lt, lemmas.List.take_rest, Math.Seq.drop-append_seam}
use Rattle.cbor_head.specs.Prelude.{Holds, IsSimple, head, major_number, shortest, Spelling, unsigned, negative, bytes, text, simple, no_spellings, no_entries, spell, value_of, HoldsOrIndefinite, Value, AreBytes}
use Rattle.cbor_head.specs.declared.major.Major.TheVariants as majors
use Rattle.cbor_head.specs.{declared.major.Major.Major, declared.width.Width.Width, Argument.IsArgument}
use Rattle.theory_values.proofs.{ReadLaws.length_head, ByteLists.bytes_prefix}
use Rattle.cbor_builder.specs.Built.{IsLeaf, IsContainer}
use Rattle.theory_verdicts.specs.Levels.{IsTaken, IsOpened, Level, IsLevel, a_member, a_key, some_member, some_key, tagged, level_bytes}
use Rattle.theory_verdicts.{proofs.Heads.open_or, proofs.KindBytes.head_is_one, proofs.KindBytes.string_is_one, specs.Kinds.IsOfOneHead}
use Rattle.theory_verdicts.{proofs.Levels.of-opened, specs.Reading.string_major, specs.Reading.string_value, proofs.Arguments.low_bits, proofs.Arguments.spells}
use Rattle.cbor_parser.specs.inner.OpenContainer.{counted, indefinite, opener, cell_of}
use Rattle.cbor_parser.specs.inner.Parts.{IsHead, IsOpener, IsPayload, Counts}
use Rattle.cbor_parser.specs.inner.OpenContainer.{Cell}
use Rattle.cbor_parser.specs.{inner.Rules.following, declared.container.Expected.Expected}
use Rattle.cbor_parser.specs.{declared.container.Expected.TheVariants.Item, declared.container.Expected.TheVariants.Key, Sink.leaf_value}

-- ---- items without members

-- the item exists, and has this value
pub record IsScalar (rest following : List ℕ) (v : Value) : Type 0 where
  pub item : Spelling
  pub taken : (d : ℕ) → IsTaken d item
  pub is : rest ≡ spell item ++ following
  pub one : IsOfOneHead (spell item)
  pub value_is : value_of item ≡ v

pub scalar-head : (m : Major) (n : ℕ) (rest following : List ℕ) → IsLeaf m → IsHead m n rest following → IsScalar rest following (leaf_value m n)
scalar-head majors.Unsigned n rest following l h = record {
  item = unsigned h.width n;
  taken = λ d. record { spelled = h.holds; within = omega arith; clean = λ at c x. cc x.0 };
  is = h.is;
  one = head_is_one majors.Unsigned h.width n (open_or h.width n h.holds);
  value_is = refl;
}
scalar-head majors.Negative n rest following l h = record {
  item = negative h.width n;
  taken = λ d. record { spelled = h.holds; within = omega arith; clean = λ at c x. cc x.0 };
  is = h.is;
  one = head_is_one majors.Negative h.width n (open_or h.width n h.holds);
  value_is = refl;
}
scalar-head majors.Simple n rest following l h = record {
  item = simple n;
  taken = λ d. record { spelled = (h.simple refl).0; within = omega arith; clean = λ at c x. x };
  is = h.is ∙ ap (λ (w : Width). head majors.Simple w n ++ following) (h.simple refl).1;
  one = head_is_one majors.Simple (shortest n) n (subst (λ (w : Width). HoldsOrIndefinite w n) (h.simple refl).1 (open_or h.width n h.holds));
  value_is = refl;
}
scalar-head _ n rest following l h = absurd l

-- the head of a string before its payload
pub string-bytes : (m : Major) (n : ℕ) (rest following : List ℕ) (h : IsHead m n rest following) → n ≤ length following → rest ≡ (head m h.width (length (take n following)) ++ take n following) ++ drop n following
string-bytes m n rest following h inside =
    h.is
    ∙ ap₂ (λ (k : ℕ) (x : List ℕ). head m h.width k ++ x) (sym (length-take-le n following inside)) (sym (take-append-drop n following))
    ∙ sym (append_assoc (head m h.width (length (take n following))) (take n following) (drop n following))

pub scalar-string : (t : Bool) (n size : ℕ) (rest following : List ℕ) → IsHead (string_major t) n rest following → IsPayload false t n size following → AreBytes following
    → IsScalar rest (drop size following) (string_value t (take size following))
scalar-string t n size rest following h p are =
    subst (λ (k : ℕ). IsScalar rest (drop k following) (string_value t (take k following))) (sym p.all)
    (go t h (p.utf8 refl) (length-take-le n following p.inside) (bytes_prefix (take n following) (drop n following) (subst AreBytes (sym (take-append-drop n following)) are)))
  where
    go : (t : Bool) (h : IsHead (string_major t) n rest following) → (t ≡ true → IsUtf8 (take n following)) → length (take n following) ≡ n → AreBytes (take n following)
        → IsScalar rest (drop n following) (string_value t (take n following))
    go false h u long small = record {
      item = bytes h.width (take n following);
      taken = λ d. record { spelled = (subst (Holds h.width) (sym long) h.holds, small); within = omega arith; clean = λ at c x. cc x.0 };
      is = string-bytes majors.Bytes n rest following h p.inside;
      one = string_is_one majors.Bytes h.width (length (take n following)) (take n following) tt (open_or h.width (length (take n following)) (subst (Holds h.width) (sym long) h.holds));
      value_is = refl;
    }
    go true h u long small = record {
      item = text h.width (take n following);
      taken = λ d. record { spelled = (subst (Holds h.width) (sym long) h.holds, small); within = omega arith; clean = λ at c x. elim x [ inl y ↦ cc y.0 | inr y ↦ y.1 (u refl) ] };
      is = string-bytes majors.Text n rest following h p.inside;
      one = string_is_one majors.Text h.width (length (take n following)) (take n following) tt (open_or h.width (length (take n following)) (subst (Holds h.width) (sym long) h.holds));
      value_is = refl;
    }

-- ---- openers

head-some : (m : Major) (w : Width) (n : ℕ) (xs : List ℕ) → 0 < length (head m w n ++ xs)
head-some m w n xs = omega (arith, length_head m w n, length-append (head m w n) xs)

counted-opens : (m : Major) (n : ℕ) (l : Level) (c : Cell) (rest following : List ℕ) (h : IsHead m n rest following) → 0 < n → level_bytes l ≡ head m h.width (0 + suc (n - 1)) ++ [] → ((d : ℕ) → Holds h.width (0 + suc (n - 1)) → IsLevel d l)
    → c ≡ cell_of (length following) l → IsOpened m n l → IsOpener m n c rest following
counted-opens m n l c rest following h some whole fresh is opened =
    let e : 0 + suc (n - 1) ≡ n = omega (arith, some) in
    record {
      level = l;
      fresh = λ d. fresh d (subst (Holds h.width) (sym e) h.holds);
      cell = is;
      opened = opened;
      some = omega (arith, ap length whole, head-some m h.width (0 + suc (n - 1)) []);
      is = h.is ∙ ap (λ (x : List ℕ). x ++ following) (ap (head m h.width) (sym e) ∙ sym (append-nil (head m h.width (0 + suc (n - 1)))) ∙ sym whole);
    }

pub head-opens : (m : Major) (n : ℕ) (expected : Expected) (c : Cell) (rest following : List ℕ) → Counts m expected → 0 < n → c ≡ counted expected (n - 1) (length following) → IsHead m n rest following → IsOpener m n c rest following
head-opens majors.Array n Item c rest following k some is h = counted-opens majors.Array n (a_member h.width (n - 1) no_spellings) c rest following h some refl (λ d f. (f, tt)) is (inl (h.width, n - 1, refl))
head-opens majors.Map n Key c rest following k some is h = counted-opens majors.Map n (a_key h.width (n - 1) no_entries) c rest following h some refl (λ d f. (f, tt)) is (inl (h.width, n - 1, refl))
head-opens _ n _ c rest following k some is h = absurd k

pub counts-container : (m : Major) (expected : Expected) → Counts m expected → IsContainer m
counts-container majors.Array expected k = tt
counts-container majors.Map expected k = tt
counts-container _ expected k = absurd k

pub tag-opens : (n : ℕ) (c : Cell) (rest following : List ℕ) → c ≡ counted Item 0 (length following) → IsHead majors.Tag n rest following → IsOpener majors.Tag n c rest following
tag-opens n c rest following is h = record {
  level = tagged h.width n;
  fresh = λ d. h.holds;
  cell = is;
  opened = (h.width, refl);
  some = subst (λ (x : List ℕ). 0 < length x) (append-nil (head majors.Tag h.width n)) (head-some majors.Tag h.width n []);
  is = h.is;
}

pub array-opens : (c : Cell) (rest following : List ℕ) → rest ≡ 0x9f ∷ following → c ≡ indefinite Item (length following) → IsOpener majors.Array 0 c rest following
array-opens c rest following is e = record { level = some_member no_spellings; fresh = λ d. tt; cell = e; opened = inr refl; some = omega arith; is = is }

pub map-opens : (c : Cell) (rest following : List ℕ) → rest ≡ 0xbf ∷ following → c ≡ indefinite Key (length following) → IsOpener majors.Map 0 c rest following
map-opens c rest following is e = record { level = some_key no_entries; fresh = λ d. tt; cell = e; opened = inr refl; some = omega arith; is = is }

-- nothing was given before
pub opener-whole : (m : Major) (n : ℕ) (l : Level) → IsOpened m n l → level_bytes l ≡ opener l
opener-whole = of-opened (λ m n l. level_bytes l ≡ opener l) (λ w left n. append-nil (head majors.Array w (0 + suc left))) (λ n. refl) (λ w left n. append-nil (head majors.Map w (0 + suc left))) (λ n. refl) (λ w n. refl)

-- ---- what follows the first `used` bytes: the remainder of the rest

pub follows : (rest prefix left : List ℕ) (used : ℕ) → rest ≡ prefix ++ left → used + length left ≡ length rest → following used rest ≡ left
follows rest prefix left used e u =
    let size : used ≡ length prefix = omega (arith, u, ap length e, length-append prefix left) in
    take_rest rest used ∙ ap (λ (n : ℕ). drop n rest) size ∙ ap (drop (length prefix)) e ∙ drop-append_seam prefix left

pub as-used : (P : List ℕ → Type 0) (rest prefix left : List ℕ) (used : ℕ) → rest ≡ prefix ++ left → used + length left ≡ length rest → (length left < length rest) × P left → (0 < used) × (used ≤ length rest) × P (following used rest)
as-used P rest prefix left used e u (less, h) = (omega (arith, u, less), omega (arith, u), subst P (sym (follows rest prefix left used e u)) h)

pub head-shorter : (m : Major) (n : ℕ) (rest following : List ℕ) → IsHead m n rest following → length following < length rest
head-shorter m n rest following h = omega (arith, ap length h.is, length_head m h.width n, length-append (head m h.width n) following)

-- ---- a head, by its first byte

pub head-here : (m : Major) (first : ℕ) (following rest : List ℕ) (w : Width) (n : ℕ) → IsArgument (first % 32) following w n rest → 32 * major_number m + first % 32 ≡ first → (m ≡ majors.Simple → IsSimple n × (w ≡ shortest n))
    → (b : List ℕ) → b ≡ first ∷ following → IsHead m n b rest
head-here m first following rest w n a e proper b is = record {
  width = w;
  holds = a.holds;
  simple = proper;
  is = is ∙ spells first following (32 * major_number m) w n rest a e;
}

pub simple-here : (low : ℕ) (following : List ℕ) (w : Width) (n : ℕ) (rest : List ℕ) → IsArgument low following w n rest → low ≤ 24 → (low < 24 → n ≡ low) → (low ≡ 24 → (32 ≤ n) × (n < 256)) → IsSimple n × (w ≡ shortest n)
simple-here low following w n rest a l direct wide = (is-simple, low_bits low following w n rest a l (λ e. (wide e).0))
  where
    is-simple : IsSimple n
    is-simple = elim (cases_lt low 24) [
      | inl k ↦ (omega (arith, direct k, k), λ m. absurd (omega (arith, direct k, k, m)))
      | inr k ↦ ((wide (omega (arith, l, k))).1, λ m. (wide (omega (arith, l, k))).0)
    ]
