-- Complaints that are determined by the bytes of an item: one comes first, and it is the same for each item that starts with
-- these bytes.
use Rattle.std.proofs.Common.{ℕ, ◌≡◌, ◌≤◌, List, ◌++◌, length, ap, arith, inl, inr, IsTrue}
use Rattle.std.proofs.lemmas.Bool.{cases_lt}
use Rattle.cbor_head.specs.Prelude.{Bounds, Spelling, spell, IsItem, Rules, Complaint, OfKinds, Complains, IsComplaint, rank, IsFirstOf, HasNoneOf}
use Rattle.cbor_head.specs.declared.keys.Keys.TheVariants.{IntegersAndTexts}
use Rattle.theory_values.proofs.KeyKinds.{of_kind, one_kind, same_kinds}
use Rattle.theory_values.proofs.{Agree.same_complaints, OneFirst.bounded, OneFirst.apart, Reasons.ranked}

-- Items that start with the same bytes have the same complaints that end within these; and no two of an item end at one offset
-- with one rank.
pub record AreReportedByBytes (P : Spelling → Complaint → Type 0) : Type 0 where
  pub agree : (d : ℕ) (s t : Spelling) (p a b : List ℕ) → IsItem d s (p ++ a) → IsItem d t (p ++ b) → (c : Complaint) → c.end ≤ length p → P s c → P t c
  pub alone : (s : Spelling) (c e : Complaint) → c.end ≡ e.end → rank c.reason ≡ rank e.reason → P s c → P s e → c ≡ e

-- ---- those of the rules, with the kinds of keys and without

pub complains_reported : (r : Rules) → AreReportedByBytes (Complains r 0)
complains_reported r = record { agree = λ d s t p a b i j c l h. same_complaints d s t p a b i j r c l h; alone = λ s c e f g h i. apart s r 0 c e f g h i }

-- one on a key's kind has the least rank
pub kind_rank : (s : Spelling) (c : Complaint) → OfKinds 0 s c → rank c.reason ≡ 0
kind_rank s c h = ap (λ (x : Complaint). rank x.reason) ((of_kind s 0 c h).is)

pub complaints_reported : (limits : Bounds) (r : Rules) → AreReportedByBytes (IsComplaint limits r)
complaints_reported limits r = record { agree = same_reported; alone = one }
  where
    same_reported : (d : ℕ) (s t : Spelling) (p a b : List ℕ) → IsItem d s (p ++ a) → IsItem d t (p ++ b) → (c : Complaint) → c.end ≤ length p → IsComplaint limits r s c → IsComplaint limits r t c
    same_reported d s t p a b i j c l (inl h) = inl (same_complaints d s t p a b i j r c l h)
    same_reported d s t p a b i j c l (inr h) = inr (h.0, h.1, same_kinds d s t p a b i j c l h.2)

    one : (s : Spelling) (c e : Complaint) → c.end ≡ e.end → rank c.reason ≡ rank e.reason → IsComplaint limits r s c → IsComplaint limits r s e → c ≡ e
    one s c e f g (inl h) (inl i) = apart s r 0 c e f g h i
    one s c e f g (inl h) (inr i) = absurd (omega (arith, g, ranked r 0 s c h, kind_rank s e i.2))
    one s c e f g (inr h) (inl i) = absurd (omega (arith, g, ranked r 0 s e i, kind_rank s c h.2))
    one s c e f g (inr h) (inr i) = one_kind s 0 c e f h.2 i.2

-- it ends within the item
pub complaint_within : (limits : Bounds) (r : Rules) (s : Spelling) (c : Complaint) → IsComplaint limits r s c → c.end ≤ length (spell s)
complaint_within limits r s c (inl h) = omega (arith, bounded s r 0 c h)
complaint_within limits r s c (inr h) = omega (arith, (of_kind s 0 c h.2).within)

-- one on a key's kind comes first if none ends before it
pub kind_comes_first : (limits : Bounds) (r : Rules) (s : Spelling) (t : ℕ) (c : Complaint) → IsTrue r.kinds → limits.keys ≡ IntegersAndTexts → OfKinds 0 s c → c.end ≤ t
    → ((e : Complaint) → IsComplaint limits r s e → c.end ≤ e.end) → IsFirstOf (IsComplaint limits r s) t c
kind_comes_first limits r s t c asked basic h l least = record {
  holds = inr (asked, basic, h);
  ends = l;
  first = λ e i m. elim (cases_lt c.end e.end) [ inl k ↦ inl k | inr k ↦ inr (omega (arith, k, least e i), omega (arith, kind_rank s c h)) ];
}

-- ---- the first of them

module _ (P : Spelling → Complaint → Type 0) (reported : AreReportedByBytes P) where
  -- it is one
  pub one_first : (s : Spelling) (t : ℕ) (c e : Complaint) → IsFirstOf (P s) t c → IsFirstOf (P s) t e → c ≡ e
  one_first s t c e h i =
      let m = h.first e i.holds i.ends in
      let n = i.first c h.holds h.ends in
      reported.alone s c e (omega (arith, m, n)) (omega (arith, m, n)) h.holds i.holds

  -- what comes first for one item that starts with p comes first for each
  pub first_for_each : (d : ℕ) (s t : Spelling) (p a b : List ℕ) → IsItem d s (p ++ a) → IsItem d t (p ++ b) → (c : Complaint) → IsFirstOf (P s) (length p) c → IsFirstOf (P t) (length p) c
  first_for_each d s t p a b i j c f = record {
    holds = reported.agree d s t p a b i j c f.ends f.holds;
    ends = f.ends;
    first = λ e h l. f.first e (reported.agree d t s p b a j i e l h) l;
  }

  -- if there is none for one item that starts with p, there is none for each
  pub none_for_each : (d : ℕ) (s t : Spelling) (p a b : List ℕ) → IsItem d s (p ++ a) → IsItem d t (p ++ b) → HasNoneOf (P s) (length p) → HasNoneOf (P t) (length p)
  none_for_each d s t p a b i j h c k l = h c (reported.agree d t s p b a j i c l k) l
