-- What a reader found is the verdict.
use Rattle.std.proofs.Common.{ℕ, ◌+◌, ◌≡◌, ◌≤◌, Some, None, List, [], ◌∷◌, ◌++◌, length, take, refl, sym, ap, ◌∙◌, arith, subst, inl, inr, append_assoc, append-nil, length-append}
use Rattle.std.proofs.lemmas.Bool.{cases_lt}
use Rattle.cbor_head.specs.Prelude.{Bounds, Spelling, spell, IsItem, Rules, Complaint, complaint, OfKinds, Complains, IsComplaint, refusal, refused, IsFormError, IsFirstOf, HasNoneOf, IsVerdict, IsLongestBeginning}
use Rattle.cbor_head.specs.{Laws.StartsWith, declared.reason.Reason.TheVariants.KeyKind, declared.reason.Refusal.Refusal}
use Rattle.theory_values.proofs.Complaints.{complains_reported, first_for_each, kind_comes_first}
use Rattle.theory_values.proofs.{Agree.split_prefix, Agree.same_complaints, KeyKinds.of_kind, KeyKinds.same_kinds}
use Rattle.theory_verdicts.specs.{Judged.IsJudged, Kinds.AsksForKinds, Kinds.KeepsToKinds}

pub first_at_start : (r : Rules) (s : Spelling) (p : List ℕ) (c : Complaint) → IsFirstOf (Complains r 0 s) (0 + length p) c → IsFirstOf (Complains r 0 s) (length p) c
first_at_start r s p c f =
    record { holds = f.holds; ends = omega (arith, f.ends); first = λ x h l. f.first x h (omega (arith, l)) }

-- what comes first within t bytes comes first within u, if u is not less
pub first_further : (P : Complaint → Type 0) (t u : ℕ) (c : Complaint) → t ≤ u → IsFirstOf P t c → IsFirstOf P u c
first_further P t u c l f =
    record { holds = f.holds; ends = omega (arith, f.ends, l); first = λ x h m. elim (cases_lt t x.end) [ inl k ↦ inl (omega (arith, f.ends, k)) | inr k ↦ f.first x h k ] }

-- ---- with no key of another kind so far

module _ (limits : Bounds) (r : Rules) (s : Spelling) (t : ℕ) (keeps : AsksForKinds limits r → (e : Complaint) → OfKinds 0 s e → e.end ≤ t → ⊥) where
  first_beside : (c : Complaint) → IsFirstOf (Complains r 0 s) t c → IsFirstOf (IsComplaint limits r s) t c
  first_beside c f = record { holds = inl f.holds; ends = f.ends; first = λ e h l. elim h [ inl x ↦ f.first e x l | inr x ↦ absurd (keeps (x.0, x.1) e x.2 l) ] }

  pub none_beside : HasNoneOf (Complains r 0 s) t → HasNoneOf (IsComplaint limits r s) t
  none_beside none c h l = elim h [ inl x ↦ none c x l | inr x ↦ keeps (x.0, x.1) c x.2 l ]

-- a complete item
pub whole_beside : (limits : Bounds) (r : Rules) (s : Spelling) → IsItem limits.depth s (spell s) → KeepsToKinds limits r (spell s) → ((c : Complaint) → Complains r 0 s c → ⊥) → (c : Complaint) → IsComplaint limits r s c → ⊥
whole_beside limits r s i keeps clean c (inl h) = clean c h
whole_beside limits r s i keeps clean c (inr h) =
    let item : IsItem limits.depth s (spell s ++ []) = subst (IsItem limits.depth s) (sym (append-nil (spell s))) i in
    keeps (h.0, h.1) s c ([], item) h.2 (omega (arith, (of_kind s 0 c h.2).within))

-- a complaint, wherever it was found first
pub complaint_decides : (limits : Bounds) (r : Rules) (input p u q : List ℕ) (c : Complaint) → IsJudged r 0 limits.depth p (Some c) → KeepsToKinds limits r p → take limits.bytes input ≡ p ++ u
    → IsLongestBeginning limits.depth (take limits.bytes input) q → IsVerdict limits r input (refused (refusal c.reason c.place c.end))
complaint_decides limits r input p u q c j keeps e g =
    let l = g.longest p u (j.item, j.rest, j.is) e in
    let (k, f, h) = split_prefix p u q g.rest (sym e ∙ g.splits) l in
    let (t, z, i) = g.beginning in
    let m : IsItem limits.depth t (p ++ (k ++ z)) = subst (IsItem limits.depth t) (ap (λ (x : List ℕ). x ++ z) f ∙ append_assoc p k z) i in
    let first = first_for_each (Complains r 0) (complains_reported r) limits.depth j.item t p j.rest (k ++ z) j.is m c (first_at_start r j.item p c j.finding) in
    let all = first_beside limits r t (length p) (λ asked x y n. keeps asked t x (k ++ z, m) y n) c first in
    record { p = q; longest = g; item = t; rest = z; starts = i; decides = inl (c, first_further (IsComplaint limits r t) (length p) (length q) c l all, refl) }

-- a form error after what has no complaint so far
pub break_decides : (limits : Bounds) (r : Rules) (input p : List ℕ) (f : Refusal) → IsJudged r 0 limits.depth p None → KeepsToKinds limits r p → (g : IsLongestBeginning limits.depth (take limits.bytes input) p) → IsFormError limits p g.rest f
    → IsVerdict limits r input (refused f)
break_decides limits r input p f j keeps g b =
    record {
      p = p;
      longest = g;
      item = j.item;
      rest = j.rest;
      starts = j.is;
      decides = inr (
        none_beside limits r j.item (length p) (λ asked x y n. keeps asked j.item x (j.rest, j.is) y n) (λ c h l. omega (arith, l, j.finding.1 c h)),
        (λ e. omega (arith, ap length e, j.finding.0)),
        b,
      );
    }

-- a key of another kind, which begins with the byte after what has no complaint so far
pub kind_decides : (limits : Bounds) (r : Rules) (input p u q : List ℕ) (x : ℕ) (s : Spelling) → AsksForKinds limits r → IsJudged r 0 limits.depth p None → KeepsToKinds limits r p → StartsWith limits.depth s (p ++ x ∷ [])
    → OfKinds 0 s (complaint (length p + 1) (length p) KeyKind) → take limits.bytes input ≡ (p ++ x ∷ []) ++ u → IsLongestBeginning limits.depth (take limits.bytes input) q
    → IsVerdict limits r input (refused (refusal KeyKind (length p) (length p + 1)))
kind_decides limits r input p u q x s asked j keeps begins o e g =
    let prefix = p ++ x ∷ [] in
    let size : length prefix ≡ length p + 1 = length-append p (x ∷ []) in
    let l = g.longest prefix u (s, begins.0, begins.1) e in
    let (k, f, h) = split_prefix prefix u q g.rest (sym e ∙ g.splits) l in
    let (t, z, i) = g.beginning in
    let m : IsItem limits.depth t (prefix ++ (k ++ z)) = subst (IsItem limits.depth t) (ap (λ (y : List ℕ). y ++ z) f ∙ append_assoc prefix k z) i in
    let n : IsItem limits.depth t (p ++ (x ∷ [] ++ (k ++ z))) = subst (IsItem limits.depth t) (append_assoc p (x ∷ []) (k ++ z)) m in
    let c = complaint (length p + 1) (length p) KeyKind in
    let held : OfKinds 0 t c = same_kinds limits.depth s t prefix begins.0 (k ++ z) begins.1 m c (omega (arith, size)) o in
    let least : (y : Complaint) → IsComplaint limits r t y → length p + 1 ≤ y.end = λ y a. elim (cases_lt (length p) y.end) [
      | inl b ↦ omega (arith, b)
      | inr b ↦ elim a [
        | inl w ↦ absurd (omega (arith, b, j.finding.1 y (same_complaints limits.depth t j.item p (x ∷ [] ++ (k ++ z)) j.rest n j.is r y b w)))
        | inr w ↦ absurd (keeps asked t y (x ∷ [] ++ (k ++ z), n) w.2 b)
      ]
    ] in
    record {
      p = q;
      longest = g;
      item = t;
      rest = z;
      starts = i;
      decides = inl (c, kind_comes_first limits r t (length q) c asked.0 asked.1 held (omega (arith, size, l)) least, refl);
    }
