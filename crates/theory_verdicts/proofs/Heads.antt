-- A head that is cut: some item within the depth starts with the bytes so far, and has no complaint on them.
use Rattle.std.proofs.Common.{ℕ, suc, ◌+◌, ◌-◌, ◌≡◌, ◌<◌, ◌≤◌, true, false, Some, None, inl, inr, List, [], ◌∷◌, ◌++◌, length, replicate, refl, sym, ap, ◌∙◌, arith, subst, ltb-true, length-append, append_assoc}
use Rattle.std.proofs.lemmas.List.{length-replicate}
use Rattle.cbor_head.specs.Prelude.{Holds, IsSimple, head, shortest, Spelling, unsigned, negative, bytes, text, byte_chunks, text_chunks, array, a_map, tag, simple, no_spellings, no_entries, IsSpelled, HoldsOrIndefinite, depth, IsItem, Rules, Complaint, OfHead, OfCount, Complains}
use Rattle.cbor_head.specs.declared.major.Major.TheVariants.{Unsigned, Negative, Bytes, Text, Array, Map, Tag, Simple}
use Rattle.cbor_head.specs.declared.{major.Major.Major, width.Width.Width, width.Width.TheVariants.Indefinite}
use Rattle.theory_values.proofs.Agree.{head_of, body, parts, later}
use Rattle.theory_values.proofs.{OneFirst.count_last, Reasons.ranked}
use Rattle.theory_automaton.specs.Automaton.{Frame, State, at_item, in_head, in_simple, in_chunks, has_space}
use Rattle.theory_automaton.proofs.{Arguments.number, Taking.IsNumbered, Taking.IsWithin}
use Rattle.theory_verdicts.proofs.Judged.{judged_start, judged_head, zero_item, zero_spelled, zeros, zero_pairs, zeros_count, zeros_spelled, zeros_flat, pairs_count, pairs_spelled, pairs_flat}
use Rattle.theory_verdicts.specs.Judged.{IsJudged}
pub use Rattle.theory_values.proofs.ReadLaws.{holds_or_open as open_or}
pub use Rattle.theory_automaton.proofs.Beginnings.{zero_bytes}

pub zero_length : (n : ℕ) → length {A = ℕ} (replicate n 0) ≡ n
zero_length n = length-replicate n 0

-- an item with this head, of which is complained what is of the head
pub record Headed (d : ℕ) (m : Major) (w : Width) (n : ℕ) : Type 0 where
  pub item : Spelling
  pub spelled : IsSpelled item
  pub within : depth item ≤ d
  pub head_is : head_of item ≡ head m w n
  pub of : (r : Rules) (at : ℕ) (c : Complaint) → OfCount r at m w n c → Complains r at item c

definite-head : (r : Rules) (at : ℕ) (m : Major) (w : Width) (n : ℕ) (c : Complaint) → Holds w n → OfCount r at m w n c → OfHead r at m w n c
definite-head r at m Indefinite n c h o = absurd h
definite-head r at m _ n c h o = o

-- n more containers
abbrev pub takes : Major → ℕ
takes Array = 1
takes Map = 1
takes Tag = 1
takes _ = 0

pub headed : (d : ℕ) (m : Major) (w : Width) (n : ℕ) → IsNumbered m → Holds w n → takes m ≤ d → Headed d m w n
headed d Unsigned w n i h l = record { item = unsigned w n; spelled = h; within = omega arith; head_is = refl; of = λ r at c o. definite-head r at Unsigned w n c h o }
headed d Negative w n i h l = record { item = negative w n; spelled = h; within = omega arith; head_is = refl; of = λ r at c o. definite-head r at Negative w n c h o }
headed d Bytes w n i h l = record {
  item = bytes w (replicate n 0);
  spelled = (subst (Holds w) (sym (zero_length n)) h, zero_bytes n);
  within = omega arith;
  head_is = ap (head Bytes w) (zero_length n);
  of = λ r at c o. subst (λ (k : ℕ). OfHead r at Bytes w k c) (sym (zero_length n)) (definite-head r at Bytes w n c h o);
}
headed d Text w n i h l = record {
  item = text w (replicate n 0);
  spelled = (subst (Holds w) (sym (zero_length n)) h, zero_bytes n);
  within = omega arith;
  head_is = ap (head Text w) (zero_length n);
  of = λ r at c o. inl (subst (λ (k : ℕ). OfHead r at Text w k c) (sym (zero_length n)) (definite-head r at Text w n c h o));
}
headed d Array w n i h l = record {
  item = array w (zeros n);
  spelled = (subst (HoldsOrIndefinite w) (sym (zeros_count n)) (open_or w n h), zeros_spelled n);
  within = omega (arith, zeros_flat n, l);
  head_is = ap (head Array w) (zeros_count n);
  of = λ r at c o. inl (subst (λ (k : ℕ). OfCount r at Array w k c) (sym (zeros_count n)) o);
}
headed d Map w n i h l = record {
  item = a_map w (zero_pairs n);
  spelled = (subst (HoldsOrIndefinite w) (sym (pairs_count n)) (open_or w n h), pairs_spelled n);
  within = omega (arith, pairs_flat n, l);
  head_is = ap (head Map w) (pairs_count n);
  of = λ r at c o. inl (subst (λ (k : ℕ). OfCount r at Map w k c) (sym (pairs_count n)) o);
}
headed d Tag w n i h l = record { item = tag w n zero_item; spelled = (h, zero_spelled); within = omega (arith, l); head_is = refl; of = λ r at c o. inl (definite-head r at Tag w n c h o) }
headed d Simple w n i h l = absurd i

-- a simple value never has one
pub simple-headed : (d : ℕ) (w : Width) (n : ℕ) → Holds w n → IsSimple n → w ≡ shortest n → Headed d Simple w n
simple-headed d w n h i e =
    record { item = simple n; spelled = i; within = omega arith; head_is = ap (λ (v : Width). head Simple v n) (sym e); of = λ r at c o. (definite-head r at Simple w n c h o).1 e }

-- an opener of indefinite length, and one more container may open
abbrev pub IsOpener : Major → ℕ → Type 0
IsOpener Bytes d = Unit {0}
IsOpener Text d = Unit {0}
IsOpener Array d = 1 ≤ d
IsOpener Map d = 1 ≤ d
IsOpener _ d = ⊥

pub opened : (d : ℕ) (m : Major) (n : ℕ) → IsOpener m d → Headed d m Indefinite n
opened d Bytes n i = record { item = byte_chunks []; spelled = tt; within = omega arith; head_is = refl; of = λ r at c o. inl o }
opened d Text n i = record { item = text_chunks []; spelled = tt; within = omega arith; head_is = refl; of = λ r at c o. inl o }
opened d Array n i = record { item = array Indefinite no_spellings; spelled = (tt, tt); within = omega (arith, i); head_is = refl; of = λ r at c o. inl o }
opened d Map n i = record { item = a_map Indefinite no_entries; spelled = (tt, tt); within = omega (arith, i); head_is = refl; of = λ r at c o. inl o }
opened d _ n i = absurd i

-- a complaint about a head comes before all others about its item
pub head_judged : (r : Rules) (at d : ℕ) (m : Major) (w : Width) (n : ℕ) (c : Complaint) → Headed d m w n → OfCount r at m w n c → IsJudged r at d (head m w n) (Some c)
head_judged r at d m w n c g o =
    let s = g.item in
    let e = count_last r at m w n c o in
    let size = ap length g.head_is in
    let from : at + length (head m w n) ≤ c.end = omega (arith, later s r at c (g.of r at c o), size) in
    record {
      item = s;
      rest = body s;
      is = record { spelled = g.spelled; within = g.within; bytes_are = parts s ∙ ap (λ (x : List ℕ). x ++ body s) g.head_is };
      finding = record { holds = g.of r at c o; ends = omega (arith, e); first = λ x k l. inr (omega (arith, e, from, l, later s r at x k, size), omega (arith, e, from, ranked r at s x k)) };
    }

pub space_for : (d : ℕ) (fs : List Frame) (m : Major) → has_space d fs m ≡ true → takes m ≤ d - length fs
space_for d fs Array e = omega (arith, ltb-true (length fs) d e)
space_for d fs Map e = omega (arith, ltb-true (length fs) d e)
space_for d fs Tag e = omega (arith, ltb-true (length fs) d e)
space_for d fs _ e = omega arith

pub long_cut : (r : Rules) (at d : ℕ) (m : Major) (w : Width) (n : ℕ) (p more : List ℕ) → Headed d m w n → p ++ more ≡ head m w n → 0 < length more → IsJudged r at d p None
long_cut r at d m w n p more h e some =
    let is = h.head_is ∙ sym e in
    judged_head r at d p h.item (more ++ body h.item)
    (record { spelled = h.spelled; within = h.within; bytes_are = parts h.item ∙ ap (λ (x : List ℕ). x ++ body h.item) is ∙ append_assoc p more (body h.item) })
    (omega (arith, some, ap length is ∙ length-append p more))

-- the first byte of a simple value in two
pub simple_cut : {d : ℕ} → IsItem d (simple 32) (0xf8 ∷ 0x20 ∷ [])
simple_cut = let n : 32 < 256 = omega arith in record { spelled = (n, λ l. omega arith); within = omega arith; bytes_are = refl }

-- the bytes of an item's head so far
pub cut_head : (r : Rules) (at d : ℕ) (fs : List Frame) (q : State) (p : List ℕ) → IsWithin d (at_item fs) q p → IsJudged r at (d - length fs) p None
cut_head r at d fs (in_head false m w k acc gs) p h =
    let more = replicate (suc k) 0 in
    let whole = h.3 more (zero_length (suc k)) (zero_bytes (suc k)) in
    let same : at_item fs ≡ at_item gs = h.0 in
    let space : has_space d fs m ≡ true = subst (λ (g : List Frame). has_space d g m ≡ true) (cc same) h.2 in
    long_cut r at (d - length fs) m w (number acc more) p more (headed (d - length fs) m w (number acc more) h.1 whole.1 (space_for d fs m space)) whole.0 (omega (arith, zero_length (suc k)))
cut_head r at d fs (in_head true m w k acc gs) p h = let e : at_item fs ≡ in_chunks m gs = h.0 in absurd (cc e)
cut_head r at d fs (in_simple gs) p h =
    subst (λ (x : List ℕ). IsJudged r at (d - length fs) x None) (sym h.1) (judged_head r at (d - length fs) (0xf8 ∷ []) (simple 32) (0x20 ∷ []) simple_cut (omega arith))
cut_head r at d fs _ p h = subst (λ (x : List ℕ). IsJudged r at (d - length fs) x None) (sym h.1) (judged_start r at (d - length fs))
