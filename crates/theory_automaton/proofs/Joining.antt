-- Events with neighbouring pieces joined follow from their marks.
use Rattle.std.proofs.Common.{◌≡◌, ℕ, zero, suc, ◌+◌, ◌-◌, ◌<◌, ◌≤◌, ◌⊎◌, Bool, true, false, nat_lt, nat_le, cond, List, [], ◌∷◌, ◌++◌, replicate, Option, Some, None, refl, sym, ap, ap₂, ◌∙◌, subst, inl, inr, arith, append-nil, lt-ltb, le-ltb}
use Rattle.std.proofs.lemmas.Bool.{cases_lt, le-leb, lt-leb}
use Rattle.cbor_head.specs.declared.major.Major.TheVariants as majors
use Rattle.cbor_head.specs.declared.event.EventKind.TheVariants.{Unsigned, Negative, Simple, Bytes, Text, Chunk, Piece, Array, Map, Tag, End}
use Rattle.cbor_head.specs.declared.{major.Major.Major, width.Width.Width, width.Width.TheVariants.Direct, width.Width.TheVariants.Indefinite}
use Rattle.cbor_head.specs.declared.event.{Event.Event, EventKind.EventKind}
use Rattle.theory_automaton.specs.Trace.{Mark, a_head, a_chunk, a_byte, a_break, size, total, within}
use Rattle.theory_automaton.specs.Marks.{count_of, mark_of, marks_of, IsProper}
use Rattle.theory_automaton.specs.Event.{event, count_at, marks_in, event_size, joined_with, onto, joined, prefix_of, cut, IsRow}
use Rattle.theory_automaton.proofs.Events.{within-none, within-some}

-- ---- the event of a mark

abbrev head_kind : Major → Width → ℕ → EventKind
head_kind majors.Unsigned w n = Unsigned n
head_kind majors.Negative w n = Negative n
head_kind majors.Bytes w n = Bytes (count_at w n)
head_kind majors.Text w n = Text (count_at w n)
head_kind majors.Array w n = Array (count_at w n)
head_kind majors.Map w n = Map (count_at w n)
head_kind majors.Tag w n = Tag n
head_kind majors.Simple w n = Simple n

abbrev event_of : ℕ → Mark → Event
event_of at (a_head major w n) = event at w (head_kind major w n)
event_of at (a_chunk w n) = event at w (Chunk n)
event_of at a_byte = event at Direct (Piece 1)
event_of at a_break = event at Indefinite End

-- the events of marks, neighbouring pieces joined
abbrev pub rejoin : ℕ → List Mark → List Event
rejoin at [] = []
rejoin at (m ∷ ms) = onto (event_of at m) (rejoin (at + size m) ms)

-- an event with a count gets the same count back, for any kind
count-back : (w : Width) (count : Option ℕ) → IsProper w (Bytes count) → count_at w (count_of count) ≡ count
count-back w None h = ap (λ v. count_at v 0) h
count-back Indefinite (Some n) h = absurd h
count-back _ (Some n) h = refl

-- one mark, and not a piece's
abbrev pub IsSingle : EventKind → Type 0
IsSingle (Piece n) = ⊥
IsSingle _ = Unit {0}

back : (at : ℕ) (w : Width) (kind : EventKind) → IsSingle kind → IsProper w kind → event_of at (mark_of w kind) ≡ event at w kind
back at w (Piece n) s p = absurd s
back at w (Bytes count) s p = ap (λ c. event at w (Bytes c)) (count-back w count p)
back at w (Text None) s p = ap (λ c. event at w (Text c)) (count-back w None p)
back at w (Text (Some n)) s p = ap (λ c. event at w (Text c)) (count-back w (Some n) p)
back at w (Array None) s p = ap (λ c. event at w (Array c)) (count-back w None p)
back at w (Array (Some n)) s p = ap (λ c. event at w (Array c)) (count-back w (Some n) p)
back at w (Map None) s p = ap (λ c. event at w (Map c)) (count-back w None p)
back at w (Map (Some n)) s p = ap (λ c. event at w (Map c)) (count-back w (Some n) p)
back at w End s p = ap (λ v. event at v End) (sym p)
back at w _ s p = refl

-- an event that is not a piece has one mark, which is not joined
record Single (at : ℕ) (w : Width) (kind : EventKind) : Type 0 where
  marks : marks_of w kind ≡ mark_of w kind ∷ []
  alone : (es : List Event) → onto (event at w kind) es ≡ event at w kind ∷ es
  prefix : (t : ℕ) → prefix_of t kind (event at w kind) ≡ []

single : (at : ℕ) (w : Width) (kind : EventKind) → IsSingle kind → Single at w kind
single at w (Piece n) s = absurd s
single at w _ s = record { marks = refl; alone = λ es. refl; prefix = λ t. refl }

-- ---- pieces

abbrev piece : ℕ → ℕ → Event
piece at n = event at Direct (Piece n)

pub bytes-total : (n : ℕ) → total (replicate n a_byte) ≡ n
bytes-total zero = refl
bytes-total (suc n) = let e = bytes-total n in omega (arith, e)

-- a piece before what is joined with a piece
piece-joined : (at to k n : ℕ) (kind : EventKind) (f : Event) (es : List Event) → onto (piece at k) (joined_with (piece to n) n kind f es) ≡ joined_with (piece at (k + n)) (k + n) kind f es
piece-joined at to k n (Piece m) f es = let e : k + (n + m) ≡ k + n + m = omega arith in ap (λ j. piece at j ∷ es) e
piece-joined at to k n _ f es = refl

pieces-join : (at to k n : ℕ) (es : List Event) → onto (piece at k) (onto (piece to n) es) ≡ onto (piece at (k + n)) es
pieces-join at to k n [] = refl
pieces-join at to k n (f ∷ es) = piece-joined at to k n f.kind f es

-- the marks of a piece
pieces-rejoin : (at n : ℕ) (ms : List Mark) → 0 < n → rejoin at (replicate n a_byte ++ ms) ≡ onto (piece at n) (rejoin (at + n) ms)
pieces-rejoin at zero ms h = absurd (omega arith)
pieces-rejoin at (suc zero) ms h = refl
pieces-rejoin at (suc (suc n)) ms h =
    let some : 0 < suc n = omega arith in
    let to : at + 1 + suc n ≡ at + suc (suc n) = omega arith in
    let all : 1 + suc n ≡ suc (suc n) = omega arith in
    ap (onto (piece at 1)) (pieces-rejoin (at + 1) (suc n) ms some)
    ∙ pieces-join at (at + 1) 1 (suc n) (rejoin (at + 1 + suc n) ms)
    ∙ ap₂ (λ k p. onto (piece at k) (rejoin p ms)) all to

single-rejoin : (at : ℕ) (w : Width) (kind : EventKind) (ms : List Mark) → IsSingle kind → IsProper w kind → rejoin at (marks_of w kind ++ ms) ≡ onto (event at w kind) (rejoin (at + total (marks_of w kind)) ms)
single-rejoin at w kind ms s p =
    let one = single at w kind s in
    let same : at + size (mark_of w kind) ≡ at + (size (mark_of w kind) + 0) = omega arith in
    ap (λ ns. rejoin at (ns ++ ms)) one.marks
    ∙ ap₂ (λ e k. onto e (rejoin k ms)) (back at w kind s p) same
    ∙ ap (λ ns. onto (event at w kind) (rejoin (at + total ns) ms)) (sym one.marks)

-- the marks of an event
event-rejoin : (at : ℕ) (w : Width) (kind : EventKind) (ms : List Mark) → IsProper w kind → rejoin at (marks_of w kind ++ ms) ≡ onto (event at w kind) (rejoin (at + total (marks_of w kind)) ms)
event-rejoin at w (Piece n) ms p =
    pieces-rejoin at n ms p.1 ∙ ap₂ (λ v k. onto (event at v (Piece n)) (rejoin (at + k) ms)) (sym p.0) (sym (bytes-total n))
event-rejoin at w kind ms p = single-rejoin at w kind ms tt p

-- joined events that follow one another are those of their marks
pub joined-rejoin : (at : ℕ) (es : List Event) → IsRow at es → joined es ≡ rejoin at (marks_in es)
joined-rejoin at [] r = refl
joined-rejoin at (e ∷ es) r =
    ap (onto e) (joined-rejoin (at + event_size e) es r.2)
    ∙ ap (λ p. onto (event p e.width e.kind) (rejoin (at + event_size e) (marks_in es))) r.0
    ∙ sym (event-rejoin at e.width e.kind (marks_in es) r.1)

-- ---- within the first bytes

-- the first event is not a piece
abbrev pub IsFresh : List Event → Type 0
IsFresh [] = Unit {0}
IsFresh (e ∷ es) = IsSingle e.kind

-- no two pieces are neighbours
abbrev pub AreApart : List Event → Type 0
AreApart [] = Unit {0}
AreApart (e ∷ es) = (IsSingle e.kind ⊎ IsFresh es) × AreApart es

cut-fresh : (t : ℕ) (es : List Event) → IsFresh es → IsFresh (cut t es)
cut-fresh t [] h = tt
cut-fresh t (e ∷ es) h = go (nat_le (e.place + event_size e) t)
  where
    go : (b : Bool) → IsFresh (cond b (e ∷ cut t es) (prefix_of t e.kind e))
    go true = h
    go false = subst IsFresh (sym ((single e.place e.width e.kind h).prefix t)) tt

apart-kind : (e f : Event) (n : ℕ) (kind : EventKind) (es : List Event) → IsSingle kind → joined_with e n kind f es ≡ e ∷ f ∷ es
apart-kind e f n (Piece m) es h = absurd h
apart-kind e f n _ es h = refl

onto-fresh : (at n : ℕ) (es : List Event) → IsFresh es → onto (piece at n) es ≡ piece at n ∷ es
onto-fresh at n [] h = refl
onto-fresh at n (f ∷ es) h = apart-kind (piece at n) f n f.kind es h

within-bytes : (n t : ℕ) (ms : List Mark) → n ≤ t → within t (replicate n a_byte ++ ms) ≡ replicate n a_byte ++ within (t - n) ms
within-bytes zero t ms h = let e : t ≡ t - 0 = omega arith in ap (λ k. within k ms) e
within-bytes (suc n) t ms h =
    let some : size a_byte ≤ t = omega arith in
    let less : n ≤ t - 1 = omega arith in
    let same : t - 1 - n ≡ t - suc n = omega arith in
    within-some t a_byte (replicate n a_byte ++ ms) some ∙ ap (λ ns. a_byte ∷ ns) (within-bytes n (t - 1) ms less ∙ ap (λ k. replicate n a_byte ++ within k ms) same)

within-part : (n t : ℕ) (ms : List Mark) → t < n → within t (replicate n a_byte ++ ms) ≡ replicate t a_byte
within-part zero t ms h = absurd (omega arith)
within-part (suc n) zero ms h = let none : 0 < size a_byte = omega arith in within-none 0 a_byte (replicate n a_byte ++ ms) none
within-part (suc n) (suc t) ms h =
    let some : size a_byte ≤ suc t = omega arith in
    let less : t < n = omega arith in
    let same : suc t - 1 ≡ t = omega arith in
    within-some (suc t) a_byte (replicate n a_byte ++ ms) some ∙ ap (λ k. a_byte ∷ within k (replicate n a_byte ++ ms)) same ∙ ap (λ ns. a_byte ∷ ns) (within-part n t ms less)

-- the first event and the others, cut
abbrev CutFirst : ℕ → Width → EventKind → List Event → ℕ → List Event
CutFirst at w kind es t = cond (nat_le (at + total (marks_of w kind)) (at + t)) (event at w kind ∷ cut (at + t) es) (prefix_of (at + t) kind (event at w kind))

abbrev CutRest : ℕ → List Event → Type 0
CutRest to es = (t : ℕ) → rejoin to (within t (marks_in es)) ≡ cut (to + t) es

single-cut : (at : ℕ) (w : Width) (kind : EventKind) (es : List Event) (t : ℕ) → IsSingle kind → IsProper w kind → CutRest (at + total (marks_of w kind)) es
    → rejoin at (within t (marks_of w kind ++ marks_in es)) ≡ CutFirst at w kind es t
single-cut at w kind es t s p rest =
    let one = single at w kind s in
    let m = mark_of w kind in
    let ns = marks_in es in
    let whole : total (marks_of w kind) ≡ size m + 0 = ap total one.marks in
    let first = ap (λ xs. rejoin at (within t (xs ++ ns))) one.marks in
    elim (cases_lt t (size m)) [
      | inl k ↦
          let over : at + t < at + total (marks_of w kind) = omega (arith, whole) in
          first ∙ ap (rejoin at) (within-none t m ns k) ∙ rw (lt-leb (at + total (marks_of w kind)) (at + t) over) (sym (one.prefix (at + t)))
      | inr k ↦
          let fits : at + total (marks_of w kind) ≤ at + t = omega (arith, whole) in
          let to : at + size m ≡ at + total (marks_of w kind) = omega (arith, whole) in
          let all : at + total (marks_of w kind) + (t - size m) ≡ at + t = omega (arith, whole) in
          first ∙ ap (rejoin at) (within-some t m ns k)
          ∙ ap₂ (λ e q. onto e (rejoin q (within (t - size m) ns))) (back at w kind s p) to
          ∙ ap (onto (event at w kind)) (rest (t - size m) ∙ ap (λ q. cut q es) all)
          ∙ rw (le-leb (at + total (marks_of w kind)) (at + t) fits) (one.alone (cut (at + t) es))
    ]

piece-cut : (at n : ℕ) (es : List Event) (t : ℕ) → 0 < n → IsFresh es → CutRest (at + total (marks_of Direct (Piece n))) es
    → rejoin at (within t (replicate n a_byte ++ marks_in es)) ≡ CutFirst at Direct (Piece n) es t
piece-cut at n es t some fresh rest =
    let ns = marks_in es in
    let whole = bytes-total n in
    elim (cases_lt t n) [
      | inl k ↦
          let over : at + t < at + total (replicate n a_byte) = omega (arith, whole) in
          rw (lt-leb (at + total (replicate n a_byte)) (at + t) over) (ap (rejoin at) (within-part n t ns k) ∙ part t)
      | inr k ↦
          let fits : at + total (replicate n a_byte) ≤ at + t = omega (arith, whole) in
          let to : at + n ≡ at + total (replicate n a_byte) = omega (arith, whole) in
          let all : at + total (replicate n a_byte) + (t - n) ≡ at + t = omega (arith, whole) in
          ap (rejoin at) (within-bytes n t ns k) ∙ pieces-rejoin at n (within (t - n) ns) some
          ∙ ap (λ q. onto (piece at n) (rejoin q (within (t - n) ns))) to
          ∙ ap (onto (piece at n)) (rest (t - n) ∙ ap (λ q. cut q es) all)
          ∙ rw (le-leb (at + total (replicate n a_byte)) (at + t) fits) (onto-fresh at n (cut (at + t) es) (cut-fresh (at + t) es fresh))
    ]
  where
    part : (t : ℕ) → rejoin at (replicate t a_byte) ≡ cond (nat_lt at (at + t)) (event at Direct (Piece (at + t - at)) ∷ []) []
    part zero =
        let none : at + 0 ≤ at = omega arith in
        rw (le-ltb at (at + 0) none) refl
    part (suc t) =
        let some : at < at + suc t = omega arith in
        let len : suc t ≡ at + suc t - at = omega arith in
        let most : 0 < suc t = omega arith in
        rw (lt-ltb at (at + suc t) some)
        (ap (rejoin at) (sym (append-nil (replicate (suc t) a_byte))) ∙ pieces-rejoin at (suc t) [] most ∙ ap (λ k. piece at k ∷ []) len)

kind-cut : (at : ℕ) (w : Width) (kind : EventKind) (es : List Event) (t : ℕ) → IsProper w kind → IsSingle kind ⊎ IsFresh es → CutRest (at + total (marks_of w kind)) es
    → rejoin at (within t (marks_of w kind ++ marks_in es)) ≡ CutFirst at w kind es t
kind-cut at w (Piece n) es t p (inl h) rest = absurd h
kind-cut at w (Piece n) es t p (inr h) rest = piece-cut at n es t p.1 h rest ∙ ap (λ v. CutFirst at v (Piece n) es t) (sym p.0)
kind-cut at w kind es t p h rest = single-cut at w kind es t tt p rest

-- events without neighbouring pieces, up to the first t bytes
pub cut-rejoin : (es : List Event) (at t : ℕ) → IsRow at es → AreApart es → rejoin at (within t (marks_in es)) ≡ cut (at + t) es
cut-rejoin [] at t r h = refl
cut-rejoin (e ∷ es) at t r h =
    kind-cut at e.width e.kind es t r.1 h.0 (λ u. cut-rejoin es (at + event_size e) u r.2 h.1)
    ∙ ap (λ p. cond (nat_le (p + event_size e) (at + t)) (event p e.width e.kind ∷ cut (at + t) es) (prefix_of (at + t) e.kind (event p e.width e.kind))) (sym r.0)
