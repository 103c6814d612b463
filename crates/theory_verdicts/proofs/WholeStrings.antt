-- Strings of one piece.
use Rattle.std.proofs.Common.{◌≡◌, ℕ, ◌+◌, ◌-◌, ◌<◌, ◌≤◌, Bool, true, false, Option, Some, None, List, [], ◌++◌, length, refl, sym, ap, ◌∙◌, subst, inl, inr, arith, append_assoc, IsTrue, IsUtf8, length-append}
use Rattle.std.specs.Str.Lossy.{utf8_valid_len}
use Rattle.cbor_head.specs.Prelude.{Holds, head, Bounds, AreBytes, spell, Rules, Complaint, complaint, OfHead, OfPayload, Complains, refusal}
use Rattle.cbor_head.specs.declared.major.Major.TheVariants as majors
use Rattle.cbor_head.specs.declared.{width.Width.Width, reason.Refusal.Refusal, reason.Reason.TheVariants.InvalidText}
use Rattle.cbor_machine.specs.NextEvent.{ItemEventsView}
use Rattle.theory_verdicts.specs.Place.{Container, Place, close, payload}
use Rattle.theory_verdicts.specs.Reading.{IsAt, Extends, IsFormRefusal, IsNoText, IsBegun, ReadsItem, StopsItem, HasCause, ReadsPayload, StopsPayload, string_major, string_kind, string_value, IsPart, IsUndecided}
use Rattle.theory_verdicts.proofs.Items.{whole-cause, extends-none, extends-on, definite, proper-definite, is-definite, head-count}
use Rattle.theory_verdicts.{specs.Judged.IsJudged, specs.Judged.Never, proofs.Scalars.at-as, proofs.CutHeads.string_cut, proofs.Leaves.text_complains}
pub use Rattle.theory_verdicts.proofs.Leaves.{made_of, made-spells, made-spelled, made-flat, made-value, so-far}
use Rattle.theory_verdicts.proofs.Steps.{reached-as}

pub is-text : (r : Rules) (at : ℕ) (q : List ℕ) (c : Complaint) → IsUtf8 q → OfPayload r at q c → ⊥
is-text r at q c u h = h.1 u

-- ---- a payload that is refused

-- after z, which was read of the item, if the item continues after each part of the payload
module _ (r : Rules) (b : Bounds) (fs : List Container) (t z : List ℕ) (n : ℕ) (part : (p : List ℕ) → length p < n → AreBytes p → IsJudged r (length t) (b.depth - length fs) (z ++ p) None) where
  payload-undecided : (bytes : List ℕ) → IsPart n bytes → IsUndecided r b fs t (z ++ bytes)
  payload-undecided bytes m =
      record { p = z ++ m.p; last = m.last; splits = ap (λ (u : List ℕ). z ++ u) m.splits ∙ sym (append_assoc z m.p m.last); byte = m.byte; judged = part m.p m.short m.are_bytes }

  pub stops-payload : (x : List ℕ) (text : Bool) (from mid to : Option (List ℕ)) (f : Refusal) → Extends x z from mid → ((q : List ℕ) → text ≡ true → IsNoText b (t ++ z) n q f → HasCause r b fs t (z ++ q) to f)
      → StopsPayload b (t ++ z) n text mid to f → StopsItem r b fs t x from to f
  stops-payload x text from mid to f taken no_text s =
      let regroup = append_assoc t z s.bytes in
      record {
        bytes = z ++ s.bytes;
        taken = extends-on x z s.bytes (z ++ s.bytes) from mid to taken s.consumed refl;
        read = s.read ∙ ap length regroup;
        why = elim s.why [
          | inl m ↦ inl (m.0, reached-as b ((t ++ z) ++ s.bytes) (t ++ (z ++ s.bytes)) regroup m.1, payload-undecided s.bytes m.2)
          | inr (inl c) ↦
              inr (record {
                p = z ++ c.p;
                last = c.last;
                splits = ap (λ (u : List ℕ). z ++ u) c.splits ∙ sym (append_assoc z c.p c.last);
                found = None;
                judged = part c.p c.short c.are_bytes;
                cause = (c.place ∙ ap length (append_assoc t z c.p), subst (λ (u : List ℕ). IsFormRefusal b u to f) regroup c.refused);
              })
          | inr (inr y) ↦ inr (no_text s.bytes y.0 y.1)
        ];
      }

-- ---- of one piece

-- the head of a definite string
pub record StringHead (r : Rules) (b : Bounds) (fs : List Container) (t x : List ℕ) (w : Width) (text : Bool) (n : ℕ) (next : Place) : Type 0 where
  pub bytes_are : x ≡ head (string_major text) w n
  pub holds : Holds w n
  pub follows : next ≡ payload false (string_major text) n fs
  pub clean : Never (OfHead r (length t) (string_major text) w n)

pub string-head : (r : Rules) (b : Bounds) (fs : List Container) (t x : List ℕ) (e : ItemEventsView) (w : Width) (text : Bool) (n : ℕ) → (i : IsBegun r b fs t x e w (string_kind text (Some n))) → StringHead r b fs t x w text n i.next
string-head r b fs t x e w true n i =
    let f = definite b.depth fs majors.Text w n x i.next (proper-definite w i.proper) i.taking in
    record { bytes_are = f.bytes_are; holds = f.holds; follows = f.follows; clean = λ c h. i.clean c (head-count r (length t) majors.Text w n c (is-definite w n f.holds) h) }
string-head r b fs t x e w false n i =
    let f = definite b.depth fs majors.Bytes w n x i.next (proper-definite w i.proper) i.taking in
    record { bytes_are = f.bytes_are; holds = f.holds; follows = f.follows; clean = λ c h. i.clean c (head-count r (length t) majors.Bytes w n c (is-definite w n f.holds) h) }

pub made-clean : (text : Bool) (w : Width) (q : List ℕ) (r : Rules) (at : ℕ) → Never (OfHead r at (string_major text) w (length q)) → (text ≡ true → IsUtf8 q) → Never (Complains r at (made_of text w q))
made-clean true w q r at h u c g = elim g [ inl y ↦ h c y | inr y ↦ is-text r (at + length (head majors.Text w (length q))) q c (u refl) y ]
made-clean false w q r at h u c g = h c g

pub text-judged : (r : Rules) (b : Bounds) (fs : List Container) (t x : List ℕ) (w : Width) (n : ℕ) (next : Place) (to : Option (List ℕ)) (f : Refusal) → IsTrue r.texts → StringHead r b fs t x w true n next
    → (q : List ℕ) → IsNoText b (t ++ x) n q f → HasCause r b fs t (x ++ q) to f
text-judged r b fs t x w n next to f looks h q y =
    let head_as : x ≡ head majors.Text w (length q) = h.bytes_are ∙ ap (head majors.Text w) (sym y.count) in
    let at = length t + length (head majors.Text w (length q)) in
    let there : length (t ++ x) ≡ at = length-append t x ∙ ap (λ (u : List ℕ). length t + length u) head_as in
    let c = complaint (at + length q) (at + utf8_valid_len q) InvalidText in
    whole-cause r b fs t (x ++ q) to f c
    (subst (λ (u : List ℕ). IsJudged r (length t) (b.depth - length fs) (u ++ q) (Some c)) (sym head_as)
    (text_complains w q r (length t) (b.depth - length fs) c (subst (Holds w) (sym y.count) h.holds, y.are_bytes) (subst (λ (k : ℕ). Never (OfHead r (length t) majors.Text w k)) (sym y.count) h.clean) (looks, y.no_text, refl)))
    (y.is ∙ ap (λ (k : ℕ). refusal InvalidText (k + utf8_valid_len q) (k + length q)) there) (subst (λ (u : List ℕ). length u ≤ b.bytes) (append_assoc t x q) y.within)

module _ (r : Rules) (b : Bounds) (fs : List Container) (t x : List ℕ) (w : Width) (text : Bool) (n : ℕ) (next : Place) (h : StringHead r b fs t x w text n next) where
  -- a part of the payload has come
  string-part : (p : List ℕ) → length p < n → AreBytes p → IsJudged r (length t) (b.depth - length fs) (x ++ p) None
  string-part p short are_bytes =
      subst (λ (u : List ℕ). IsJudged r (length t) (b.depth - length fs) (u ++ p) None) (sym h.bytes_are) (string_cut w n p h.holds are_bytes short r (length t) (b.depth - length fs) text h.clean)

  pub string-undecided : (bytes : List ℕ) → IsPart n bytes → IsUndecided r b fs t (x ++ bytes)
  string-undecided bytes m = payload-undecided r b fs t x n string-part bytes m

module _ (r : Rules) (b : Bounds) (fs : List Container) (t x : List ℕ) (e : ItemEventsView) (w : Width) (text : Bool) (n : ℕ) (i : IsBegun r b fs t x e w (string_kind text (Some n))) where
  head-is : StringHead r b fs t x w text n i.next
  head-is = string-head r b fs t x e w text n i

  -- its payload is expected
  pub string-expected : IsAt b e (t ++ x) (payload false (string_major text) n fs)
  string-expected = at-as b e (t ++ x) (t ++ x) i.next (payload false (string_major text) n fs) refl head-is.follows i.at

  pub reads-string : (content : List ℕ) (from to : Option (List ℕ)) (new : ItemEventsView) → (reads : ReadsPayload b (close fs) (t ++ x) n [] content from to new) → (text ≡ true → IsUtf8 reads.bytes)
      → ReadsItem r b fs t x from to new (string_value text content) × (text ≡ true → IsUtf8 content)
  reads-string content from to new reads utf8 =
      let q = reads.bytes in
      let bytes_are : x ++ q ≡ spell (made_of text w q) =
      ap (λ (u : List ℕ). u ++ q) (head-is.bytes_are ∙ ap (head (string_major text) w) (sym reads.count)) ∙ sym (made-spells text w q) in (
        record {
          item = made_of text w q;
          spelled = made-spelled text w q (subst (Holds w) (sym reads.count) head-is.holds) reads.are_bytes;
          within = omega (arith, made-flat text w q);
          clean = made-clean text w q r (length t) (subst (λ (k : ℕ). Never (OfHead r (length t) (string_major text) w k)) (sym reads.count) head-is.clean) utf8;
          taken = record { more = q; consumed = reads.consumed; are = sym bytes_are };
          value = made-value text w q ∙ ap (string_value text) (sym reads.grows);
          at = at-as b new ((t ++ x) ++ q) (t ++ spell (made_of text w q)) (close fs) (close fs) (append_assoc t x q ∙ ap (λ (u : List ℕ). t ++ u) bytes_are) refl reads.at;
        },
        λ yes_text. subst IsUtf8 (sym reads.grows) (utf8 yes_text),
      )

  pub stops-string : IsTrue r.texts → (from to : Option (List ℕ)) (f : Refusal) → StopsPayload b (t ++ x) n text from to f → StopsItem r b fs t x from to f
  stops-string looks from to f =
      stops-payload r b fs t x n (string-part r b fs t x w text n i.next head-is) x text from from to f (extends-none x from)
      (λ q e y. text-judged r b fs t x w n i.next to f looks (subst (λ (v : Bool). StringHead r b fs t x w v n i.next) e head-is) q y)
