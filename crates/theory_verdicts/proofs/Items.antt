-- An item in another: what is read and what is refused of it, for the whole.
use Rattle.std.proofs.Common.{◌≡◌, ◌≢◌, ℕ, ◌-◌, ◌<◌, ◌≤◌, Option, Some, None, List, [], ◌++◌, length, refl, sym, ap, ◌∙◌, subst, arith, append_assoc, append-nil}
use Rattle.std.{specs.Io.KnownBytes.Consumes, proofs.KnownBytes.Consumes-nil, proofs.KnownBytes.Consumes-trans}
use Rattle.cbor_head.specs.Prelude.{Holds, head, Bounds, Rules, Complaint, OfHead, OfCount, refusal}
use Rattle.cbor_head.specs.declared.major.Major.TheVariants as majors
use Rattle.cbor_head.specs.declared.{major.Major.Major, width.Width.Width, width.Width.TheVariants.Indefinite, reason.Refusal.Refusal}
use Rattle.theory_values.proofs.ReadLaws.{length_head}
use Rattle.theory_automaton.specs.Trace.{Mark, a_head, a_chunk, a_byte, a_break}
use Rattle.theory_automaton.specs.Marks as marks
use Rattle.theory_automaton.proofs.Taking.{nothing-taken, IsNumbered}
use Rattle.theory_verdicts.specs.Place.{Container, Place, at_item, Follows, Opens, IsTaking}
use Rattle.theory_verdicts.specs.Reading.{Extends, IsFormRefusal, OfMark, IsCause, HasCause, IsUndecided, IsCutHead, state_at}
use Rattle.theory_verdicts.proofs.Heads.{takes, Headed, headed, simple-headed, IsOpener, opened, head_judged, cut_head}
use Rattle.theory_verdicts.specs.Judged.{IsJudged}

-- ---- a complaint of all that was taken

pub whole-cause : (r : Rules) (b : Bounds) (fs : List Container) (t x : List ℕ) (to : Option (List ℕ)) (f : Refusal) (c : Complaint) → IsJudged r (length t) (b.depth - length fs) x (Some c) → f ≡ refusal c.reason c.place c.end → length (t ++ x) ≤ b.bytes
    → HasCause r b fs t x to f
whole-cause r b fs t x to f c judged is within = record { p = x; last = []; splits = sym (append-nil x); found = Some c; judged = judged; cause = (is, within) }

-- ---- what was taken

pub extends-none : (x : List ℕ) (from : Option (List ℕ)) → Extends x x from from
extends-none x from = record { more = []; consumed = Consumes-nil from; are = sym (append-nil x) }

pub extends-by : (bs : List ℕ) (from to : Option (List ℕ)) → Consumes from to bs → Extends [] bs from to
extends-by bs from to c = record { more = bs; consumed = c; are = refl }

pub extends-on : (x y bs z : List ℕ) (from mid to : Option (List ℕ)) → Extends x y from mid → Consumes mid to bs → z ≡ y ++ bs → Extends x z from to
extends-on x y bs z from mid to e c is =
    record { more = e.more ++ bs; consumed = Consumes-trans from mid to e.more bs e.consumed c; are = is ∙ ap (λ (u : List ℕ). u ++ bs) e.are ∙ append_assoc x e.more bs }

-- what was read of a part
pub extends-in : (x y e z : List ℕ) (from mid to : Option (List ℕ)) → Extends x (y ++ e) from mid → Extends e z mid to → Extends x (y ++ z) from to
extends-in x y e z from mid to f g = extends-on x (y ++ e) g.more (y ++ z) from mid to f g.consumed (ap (λ (u : List ℕ). y ++ u) g.are ∙ sym (append_assoc y e g.more))

-- ---- refusals

cause-as : (b : Bounds) (all whole : List ℕ) (to : Option (List ℕ)) (at there : ℕ) (found : Option Complaint) (f : Refusal) → all ≡ whole → at ≡ there → IsCause b all to at found f → IsCause b whole to there found f
cause-as b all whole to at there (Some c) f e g h = (h.0, subst (λ (xs : List ℕ). length xs ≤ b.bytes) e h.1)
cause-as b all whole to at there None f e g h = (h.0 ∙ g, subst (λ (xs : List ℕ). IsFormRefusal b xs to f) e h.1)

module _ (r : Rules) (b : Bounds) (fs gs : List Container) (t y : List ℕ)
    (lift : (p : List ℕ) (found : Option Complaint) → IsJudged r (length (t ++ y)) (b.depth - length gs) p found → IsJudged r (length t) (b.depth - length fs) (y ++ p) found)
  where
    -- why the part is refused is why the whole is
    pub cause-in : (m : List ℕ) (to : Option (List ℕ)) (f : Refusal) → HasCause r b gs (t ++ y) m to f → HasCause r b fs t (y ++ m) to f
    cause-in m to f h = record {
      p = y ++ h.p;
      last = h.last;
      splits = ap (λ (u : List ℕ). y ++ u) h.splits ∙ sym (append_assoc y h.p h.last);
      found = h.found;
      judged = lift h.p h.found h.judged;
      cause = cause-as b ((t ++ y) ++ m) (t ++ (y ++ m)) to (length ((t ++ y) ++ h.p)) (length (t ++ (y ++ h.p))) h.found f (append_assoc t y m) (ap length (append_assoc t y h.p)) h.cause;
    }

    pub cause-prefix : (m : List ℕ) (to : Option (List ℕ)) (f : Refusal) (h : HasCause r b gs (t ++ y) m to f) → (cause-in m to f h).p ≡ y ++ h.p
    unfolding cause-in
    cause-prefix m to f h = refl

    -- what is undecided of the part is undecided of the whole
    pub undecided-in : (m : List ℕ) → IsUndecided r b gs (t ++ y) m → IsUndecided r b fs t (y ++ m)
    undecided-in m h = record {
      p = y ++ h.p;
      last = h.last;
      splits = ap (λ (u : List ℕ). y ++ u) h.splits ∙ sym (append_assoc y h.p h.last);
      byte = h.byte;
      judged = lift h.p None h.judged;
    }

    pub undecided-prefix : (m : List ℕ) (h : IsUndecided r b gs (t ++ y) m) → (undecided-in m h).p ≡ y ++ h.p
    unfolding undecided-in
    undecided-prefix m h = refl

-- ---- heads

-- a definite head of an item
pub record IsDefinite (d : ℕ) (fs : List Container) (m : Major) (w : Width) (n : ℕ) (bs : List ℕ) (next : Place) : Type 0 where
  pub bytes_are : bs ≡ head m w n
  pub holds : Holds w n
  pub follows : Follows d fs m w n next

pub definite : (d : ℕ) (fs : List Container) (m : Major) (w : Width) (n : ℕ) (bs : List ℕ) (next : Place) → w ≢ Indefinite → IsTaking d (at_item fs) (a_head m w n) bs next → IsDefinite d fs m w n bs next
definite d fs m Indefinite n bs next f h = absurd (f refl)
definite d fs m _ n bs next f h = record { bytes_are = h.0; holds = h.1; follows = h.2 }

pub is-definite : (w : Width) (n : ℕ) → Holds w n → w ≢ Indefinite
is-definite w n h e = subst (λ (x : Width). Holds x n) e h

pub proper-definite : (w : Width) → marks.IsDefinite w → w ≢ Indefinite
proper-definite w h e = subst marks.IsDefinite e h

-- what has no indefinite form
abbrev pub IsPlainMajor : Major → Type 0
IsPlainMajor majors.Unsigned = Unit {0}
IsPlainMajor majors.Negative = Unit {0}
IsPlainMajor majors.Tag = Unit {0}
IsPlainMajor majors.Simple = Unit {0}
IsPlainMajor _ = ⊥

pub never-open : (d : ℕ) (fs : List Container) (m : Major) (w : Width) (n : ℕ) (bs : List ℕ) (next : Place) → IsPlainMajor m → IsTaking d (at_item fs) (a_head m w n) bs next → w ≢ Indefinite
never-open d fs m w n bs next i h e = no m i (subst (λ (x : Width). IsTaking d (at_item fs) (a_head m x n) bs next) e h)
  where
    no : (m : Major) → IsPlainMajor m → IsTaking d (at_item fs) (a_head m Indefinite n) bs next → ⊥
    no majors.Bytes i h = i
    no majors.Text i h = i
    no majors.Array i h = i
    no majors.Map i h = i
    no _ i h = h.2

pub head-count : (r : Rules) (at : ℕ) (m : Major) (w : Width) (n : ℕ) (c : Complaint) → w ≢ Indefinite → OfHead r at m w n c → OfCount r at m w n c
head-count r at m Indefinite n c f h = absurd (f refl)
head-count r at m _ n c f h = h

pub follows-takes : (d : ℕ) (fs : List Container) (m : Major) (w : Width) (n : ℕ) (next : Place) → IsNumbered m → Follows d fs m w n next → takes m ≤ d - length fs
follows-takes d fs majors.Array w n next i f = omega (arith, f.0)
follows-takes d fs majors.Map w n next i f = omega (arith, f.0)
follows-takes d fs majors.Tag w n next i f = omega (arith, f.0)
follows-takes d fs _ w n next i f = omega arith

opener : (d : ℕ) (fs : List Container) (m : Major) (next : Place) → Opens d fs m next → IsOpener m (d - length fs)
opener d fs majors.Bytes next h = tt
opener d fs majors.Text next h = tt
opener d fs majors.Array next h = omega (arith, h.0)
opener d fs majors.Map next h = omega (arith, h.0)
opener d fs _ next h = absurd h

-- a head that was taken is that of an item
pub taken-headed : (d : ℕ) (fs : List Container) (m : Major) (w : Width) (n : ℕ) (x : List ℕ) (next : Place) → IsTaking d (at_item fs) (a_head m w n) x next → Headed (d - length fs) m w n × (x ≡ head m w n)
taken-headed d fs m Indefinite n x next h = (opened (d - length fs) m n (opener d fs m next h.2), h.1)
taken-headed d fs majors.Simple w n x next h = (simple-headed (d - length fs) w n h.1 h.2.0 h.2.1, h.0)
taken-headed d fs m w n x next h = (headed (d - length fs) m w n tt h.1 (follows-takes d fs m w n next tt h.2), h.0)

pub head-judged : (r : Rules) (at d : ℕ) (fs : List Container) (mark : Mark) (bs : List ℕ) (next : Place) (c : Complaint) → IsTaking d (at_item fs) mark bs next → OfMark r at (at_item fs) mark c → IsJudged r at (d - length fs) bs (Some c)
head-judged r at d fs (a_head m w n) bs next c h o =
    let (g, is) = taken-headed d fs m w n bs next h in subst (λ (xs : List ℕ). IsJudged r at (d - length fs) xs (Some c)) (sym is) (head_judged r at (d - length fs) m w n c g o)
head-judged r at d fs (a_chunk w n) bs next c h o = absurd h
head-judged r at d fs a_byte bs next c h o = absurd h
head-judged r at d fs a_break bs next c h o = absurd o

-- what was taken of a head that is cut reports nothing against the item
pub cut-judged : (r : Rules) (b : Bounds) (fs : List Container) (t taken : List ℕ) (to : Option (List ℕ)) (f : Refusal) → (c : IsCutHead b (at_item fs) t taken to f) → IsJudged r (length t) (b.depth - length fs) c.p None
cut-judged r b fs t taken to f c =
    cut_head r (length t) b.depth fs c.begun c.p (nothing-taken b.depth (state_at (at_item fs)) c.begun c.p tt c.are_bytes c.ran)

-- ---- the item that is expected

pub taking-some : (d : ℕ) (fs : List Container) (mark : Mark) (bs : List ℕ) (next : Place) → IsTaking d (at_item fs) mark bs next → 0 < length bs
taking-some d fs (a_head m w n) bs next h = omega (arith, ap length (taken-headed d fs m w n bs next h).1, length_head m w n)
taking-some d fs a_break bs next h = omega (arith, ap length h.0)
taking-some d fs (a_chunk w n) bs next h = absurd h
taking-some d fs a_byte bs next h = absurd h
