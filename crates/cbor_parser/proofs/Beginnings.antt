-- What may begin where an item is expected, and what is left there because nothing does.
use Rattle.std.proofs.Common.{◌≡◌, ◌≢◌, ◌⊎◌, ℕ, ◌+◌, ◌-◌, ◌*◌, ◌/◌, ◌%◌, ◌^◌, ◌<◌, ◌≤◌, Bool, true, false, List, [], ◌∷◌, length, drop, sym, ap, ◌∙◌, subst, inl, inr, arith, length-append}
use Rattle.cbor_head.specs.Prelude.{Holds, head, major_number}
use Rattle.cbor_head.specs.Head as heads
use Rattle.cbor_head.specs.{declared.keys.Keys.Keys, declared.width.Width.Width, declared.major.Major.TheVariants.Unsigned, Argument.IsArgument}
use Rattle.cbor_head.proofs.{Arguments.reads_head, WholeHead.one_head}
use Rattle.theory_values.proofs.ReadLaws.{length_head}
use Rattle.theory_verdicts.specs.{PathKinds.IsFitPrefix, Reading.string_major}
use Rattle.cbor_parser.specs.inner.Begins.{AreWholeChunks, at_break, a_chunk, HasHead, BeginsItem, Begins, NothingBegins, IsFull, IsLeft}
use Rattle.cbor_parser.specs.{declared.item_start.Here.Here, inner.OpenContainer.Cell, inner.Parts.IsHead, inner.Parts.IsWholePayload}

-- ---- one argument follows the low bits of a first byte

pub record IsOnly (bits : ℕ) (following : List ℕ) (w : Width) (n : ℕ) (x : List ℕ) : Type 0 where
  pub few : bits < 28
  pub space : 24 ≤ bits → 2 ^ (bits - 24) ≤ length following
  pub only : (v : Width) (k : ℕ) (y : List ℕ) → IsArgument bits following v k y → (v ≡ w) × (k ≡ n) × (y ≡ x)

pub argument-only : (bits : ℕ) (following : List ℕ) (w : Width) (n : ℕ) (x : List ℕ) → bits < 32 → IsArgument bits following w n x → IsOnly bits following w n x
argument-only bits following w n x small a =
    let r = reads_head (0 + bits) following Unsigned w n x a.holds (a.spelled 0) in
    let same : (0 + bits) % 32 ≡ bits = omega (arith, small) in
    record {
      few = omega (arith, r.low, same);
      space = subst (λ (b : ℕ). 24 ≤ b → 2 ^ (b - 24) ≤ length following) same r.space;
      only = λ v k y b. r.only v k y (subst (λ (l : ℕ). IsArgument l following v k y) (sym same) b);
    }

-- ---- chunks

string-head : (t : Bool) (w : Width) (n : ℕ) → Holds w n → heads.IsHead (string_major t) w n
string-head true w n h = h
string-head false w n h = h

no-head : (t : Bool) (following : List ℕ) (n : ℕ) (from : List ℕ) → IsHead (string_major t) n (0xff ∷ following) from → ⊥
no-head true following n from h = absurd (omega (arith, (reads_head 0xff following (string_major true) h.width n from h.holds h.is).type))
no-head false following n from h = absurd (omega (arith, (reads_head 0xff following (string_major false) h.width n from h.holds h.is).type))

-- nothing is left
pub no-chunks-left : (t : Bool) (rest : List ℕ) → rest ≡ [] → AreWholeChunks t rest → ⊥
no-chunks-left t rest none (at_break r following e) = absurd (cc (sym none ∙ e))
no-chunks-left t rest none (a_chunk r n from h inside utf8 more) =
    absurd (omega (arith, ap length none, ap length h.is, length_head (string_major t) h.width n, length-append (head (string_major t) h.width n) from))

-- no chunk begins so
pub no-chunk-begins : (t : Bool) (rest : List ℕ) (first : ℕ) (following : List ℕ) → rest ≡ first ∷ following → first ≢ 0xff → ((n : ℕ) (from : List ℕ) → IsHead (string_major t) n (first ∷ following) from → ⊥) → AreWholeChunks t rest → ⊥
no-chunk-begins t rest first following is other none (at_break r more e) = other (cc (sym is ∙ e))
no-chunk-begins t rest first following is other none (a_chunk r n from h inside utf8 more) = none n from (subst (λ (x : List ℕ). IsHead (string_major t) n x from) is h)

-- after the chunk with this head
pub next-chunks : (t : Bool) (rest : List ℕ) (n : ℕ) (from : List ℕ) → IsHead (string_major t) n rest from → AreWholeChunks t rest → IsWholePayload t n from × AreWholeChunks t (drop n from)
next-chunks t rest n from h (at_break r following e) = absurd (no-head t following n from (subst (λ (x : List ℕ). IsHead (string_major t) n x from) e h))
next-chunks t rest n from h (a_chunk r k x head inside utf8 more) =
    let same = one_head (string_major t) (string_major t) head.width h.width k n x from (string-head t head.width k head.holds) (string-head t h.width n h.holds) (sym head.is ∙ h.is) in
    let P = λ (m : ℕ) (y : List ℕ). IsWholePayload t m y × AreWholeChunks t (drop m y) in
    subst (P n) same.3 (subst (λ (m : ℕ). P m x) same.2 (record { inside = inside; utf8 = utf8 }, more))

-- ---- at a first byte

abbrev pub IsWhat : Here → ℕ → List ℕ → Type 0
IsWhat here first following = ((first ≡ 0xff) × (here.may_break ≡ true)) ⊎ (BeginsItem here.space first following × (here.is_key ≡ true → IsFitPrefix (first ∷ following)))

what-begins : (here : Here) (rest : List ℕ) (first : ℕ) (following : List ℕ) → rest ≡ first ∷ following → Begins here rest → IsWhat here first following
what-begins here rest first following is b =
    let f : b.first ≡ first = cc (sym b.is ∙ is) in
    let g : b.following ≡ following = cc (sym b.is ∙ is) in
    subst (λ (x : List ℕ). IsWhat here first x) g (subst (λ (x : ℕ). IsWhat here x b.following) f
    (elim b.what [ inl x ↦ inl x | inr x ↦ inr (x.0, λ e. subst IsFitPrefix b.is (x.1 e)) ]))

module _ (first : ℕ) (following rest : List ℕ) (is : rest ≡ first ∷ following) where
  -- the argument is incomplete
  pub cut-left : 24 ≤ first % 32 → first % 32 < 28 → length following < 2 ^ (first % 32 - 24) → NothingBegins rest
  cut-left long low short here b = elim (what-begins here rest first following is b) [
    | inl x ↦ absurd (omega (arith, x.0, low))
    | inr x ↦ let h = x.0.head low in absurd (let space = (argument-only (first % 32) following h.width h.number h.rest (omega (arith, low)) h.argument).space long in omega (arith, space, short))
  ]

  module _ (w : Width) (n : ℕ) (from : List ℕ) (a : IsArgument (first % 32) following w n from) (low : first % 32 < 28) where
    same-head : (h : HasHead first following) → (h.number ≡ n) × (h.rest ≡ from)
    same-head h = let o = (argument-only (first % 32) following w n from (omega (arith, low)) a).only h.width h.number h.rest h.argument in (o.1, o.2)

    -- a string is not whole
    pub string-left : (t : Bool) → first / 32 ≡ major_number (string_major t) → (IsWholePayload t n from → ⊥) → NothingBegins rest
    string-left t high none here b = elim (what-begins here rest first following is b) [
      | inl x ↦ absurd (omega (arith, x.0, low))
      | inr x ↦
          let h = x.0.head low in
          let same = same-head h in
          none (whole t high h same)
    ]
      where
        whole : (u : Bool) → first / 32 ≡ major_number (string_major u) → (h : HasHead first following) → (h.number ≡ n) × (h.rest ≡ from) → IsWholePayload u n from
        whole true e h same = subst (IsWholePayload true n) same.1 (subst (λ (k : ℕ). IsWholePayload true k h.rest) same.0 (record { inside = h.inside (omega (arith, e)) (omega (arith, e)); utf8 = λ _. h.utf8 (omega (arith, e)) (omega (arith, e)) }))
        whole false e h same = subst (IsWholePayload false n) same.1 (subst (λ (k : ℕ). IsWholePayload false k h.rest) same.0 (record { inside = h.inside (omega (arith, e)) (omega (arith, e)); utf8 = λ f. cc f }))

    -- no simple value has two bytes if one is enough
    pub simple-left : 224 ≤ first → first % 32 ≡ 24 → n < 32 → NothingBegins rest
    simple-left high byte few here b = elim (what-begins here rest first following is b) [
      | inl x ↦ absurd (omega (arith, x.0, low))
      | inr x ↦
          let h = x.0.head low in
          let may = x.0.may.no_float in
          let some = h.simple (omega (arith, high, byte, may)) in
          absurd (omega (arith, some, few, (same-head h).0))
    ]

  -- a float
  pub float-left : 224 ≤ first → 24 < first % 32 → first % 32 < 28 → NothingBegins rest
  float-left high byte low here b = elim (what-begins here rest first following is b) [
    | inl x ↦ absurd (omega (arith, x.0, low))
    | inr x ↦ let may = x.0.may.no_float in absurd (omega (arith, high, byte, may))
  ]

  -- a container that is not opened
  pub container-left : (keys : Keys) (depth : ℕ) (top : Cell) (height count : ℕ) → 128 ≤ first → first < 224 → IsFull depth height count → IsLeft keys depth top height count rest
  container-left keys depth top height count low high (inr x) = inl x
  container-left keys depth top height count low high (inl x) = inr (λ here allowed b. elim (what-begins here rest first following is b) [
    | inl y ↦ absurd (omega (arith, y.0, high))
    | inr y ↦ let under = allowed.space (y.0.may.fits low high) in absurd (omega (arith, under, x))
  ])

  -- a string in chunks that is not whole
  pub chunks-left : (t : Bool) → first ≡ 32 * major_number (string_major t) + 31 → (AreWholeChunks t following → ⊥) → NothingBegins rest
  chunks-left true e none here b = elim (what-begins here rest first following is b) [ inl x ↦ absurd (omega (arith, x.0, e)) | inr x ↦ none (x.0.text e) ]
  chunks-left false e none here b = elim (what-begins here rest first following is b) [ inl x ↦ absurd (omega (arith, x.0, e)) | inr x ↦ none (x.0.bytes e) ]
