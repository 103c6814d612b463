-- The lines of events: joining neighbouring pieces does not change them.
use Rattle.std.proofs.Common.{◌≡◌, ℕ, ◌<◌, List, [], ◌∷◌, ◌++◌, length, refl, ap, ◌∙◌, arith, append-nil}
use Rattle.std.proofs.lemmas.Grind.{flat_map-append}
use Rattle.cbor_head.specs.declared.{width.Width.Width, event.Event.Event, event.EventKind.EventKind, event.EventKind.TheVariants.Piece}
use Rattle.theory_automaton.specs.Event.{event, joined_with, piece_onto, kind_onto, onto, joined}
use Rattle.cbor_listing.specs.Listing.{line, lines}

pub lines-more : (start : ℕ) (es : List Event) (e : Event) → lines start (es ++ e ∷ []) ≡ lines start es ++ line start e
lines-more start es e = flat_map-append (line start) es (e ∷ []) ∙ ap (λ l. lines start es ++ l) (append-nil (line start e))

-- a piece before another event
before-lines : (start : ℕ) (at n : ℕ) (w : Width) (place : ℕ) (width : Width) (k : EventKind) (es : List Event)
    → lines start (joined_with (event at w (Piece n)) n k (event place width k) es) ≡ line start (event place width k) ++ lines start es
before-lines start at n w place width (Piece m) es = refl
before-lines start at n w place width _ es = refl

piece-lines : (start : ℕ) (at n : ℕ) (w : Width) (es : List Event) → lines start (piece_onto (event at w (Piece n)) n es) ≡ lines start es
piece-lines start at n w [] = refl
piece-lines start at n w (f ∷ es) = before-lines start at n w f.place f.width f.kind es

kind-lines : (start : ℕ) (at : ℕ) (w : Width) (k : EventKind) (es : List Event) → lines start (kind_onto k (event at w k) es) ≡ line start (event at w k) ++ lines start es
kind-lines start at w (Piece n) es = piece-lines start at n w es
kind-lines start at w _ es = refl

pub lines-joined : (start : ℕ) (es : List Event) → lines start (joined es) ≡ lines start es
lines-joined start [] = refl
lines-joined start (e ∷ es) = kind-lines start e.place e.width e.kind (joined es) ∙ ap (λ l. line start e ++ l) (lines-joined start es)

-- ---- an event that is not a piece is not joined

abbrev pub HasLine : EventKind → Type 0
HasLine (Piece n) = ⊥
HasLine _ = Unit {0}

kind-has-line : (start : ℕ) (at : ℕ) (w : Width) (k : EventKind) (n : ℕ) → n < length (line start (event at w k)) → HasLine k
kind-has-line start at w (Piece m) n h = absurd (omega arith)
kind-has-line start at w _ n h = tt

pub has-line : (start : ℕ) (e : Event) (n : ℕ) → n < length (line start e) → HasLine e.kind
has-line start e n h = kind-has-line start e.place e.width e.kind n h

alone : (k : EventKind) (e : Event) → HasLine k → kind_onto k e [] ≡ e ∷ []
alone (Piece n) e h = absurd h
alone _ e h = refl

after-piece : (p : Event) (n : ℕ) (k : EventKind) (e : Event) → HasLine k → joined_with p n k e [] ≡ p ∷ e ∷ []
after-piece p n (Piece m) e h = absurd h
after-piece p n _ e h = refl

before-last : (p : Event) (n : ℕ) (k : EventKind) (f : Event) (es : List Event) (e : Event) → joined_with p n k f (es ++ e ∷ []) ≡ joined_with p n k f es ++ e ∷ []
before-last p n (Piece m) f es e = refl
before-last p n _ f es e = refl

piece-last : (p : Event) (n : ℕ) (es : List Event) (e : Event) → HasLine e.kind → piece_onto p n (es ++ e ∷ []) ≡ piece_onto p n es ++ e ∷ []
piece-last p n [] e h = after-piece p n e.kind e h
piece-last p n (f ∷ es) e h = before-last p n f.kind f es e

kind-last : (k : EventKind) (f : Event) (es : List Event) (e : Event) → HasLine e.kind → kind_onto k f (es ++ e ∷ []) ≡ kind_onto k f es ++ e ∷ []
kind-last (Piece n) f es e h = piece-last f n es e h
kind-last _ f es e h = refl

pub joined-last : (es : List Event) (e : Event) → HasLine e.kind → joined (es ++ e ∷ []) ≡ joined es ++ e ∷ []
joined-last [] e h = alone e.kind e h
joined-last (f ∷ es) e h = ap (onto f) (joined-last es e h) ∙ kind-last f.kind f (joined es) e h
