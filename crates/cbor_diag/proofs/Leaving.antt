-- What is left of a text after each part that is put.
use Rattle.std.proofs.Common.{◌≡◌, ℕ, ◌+◌, ◌<◌, ◌≤◌, Bool, true, false, List, [], ◌∷◌, ◌++◌, length, Option, Some, None, Result, Ok, Err, Bor, codes, decimal, refl, sym, ap, ◌∙◌, subst, append_assoc, append-nil, length-append, arith, reverse, IsSome, option_to_list}
use Rattle.std.proofs.lemmas.List.{reverse-append, nil_from_length}
use Rattle.cbor_head.specs.{Prelude.Value, Prelude.map, Value.array, Value.tag}
use Rattle.cbor_item.specs.Nodes.{entries_in, values_in}
use Rattle.cbor_diag.specs.inner.Layout.{gap, end, laid_out, laid_pairs, laid_texts, rows}
use Rattle.cbor_diag.specs.inner.Outbox.{HasPut, HasStopped, Puts}
use Rattle.cbor_diag.specs.inner.Levels.{HasLeft, Leaves, all_left, following, left_of, rest_of}
use Rattle.cbor_diag.specs.declared.walk.Remaining.TheVariants as parts
use Rattle.cbor_diag.proofs.Putting.{puts-next, puts-then, puts-stops, stops-more}
use Rattle.cbor_diag.specs.declared.{outbox.Stopped.Stopped, layout.Layout.Layout, outbox.Outbox.Outbox, walk.Remaining.Remaining, walk.OpenNode.OpenNode}

-- the first part of the whole could not be put
pub prefix-stops : (a b : Option (List ℕ)) (s : Outbox) (whole xs more : List ℕ) (e : Outbox) → xs ++ more ≡ whole → HasStopped a b s xs e → HasStopped a b s whole e
prefix-stops a b s whole xs more e is p = subst (λ (l : List ℕ). HasStopped a b s l e) is (stops-more a b s xs more e p)

-- the first part was put
pub prefix-left : (a b : Option (List ℕ)) (s t : Outbox) (whole xs more : List ℕ) → xs ++ more ≡ whole → 0 < length xs → HasPut a b s t xs → HasLeft 1 a b s t whole more
prefix-left a b s t whole xs more is some p = record { done = xs; written = p; some = some; joins = is }

-- the text of an item that holds no other
pub leaf-left : (l : Layout) (n : ℕ) (v w : Value) (a b : Option (List ℕ)) (s t : Outbox) → v ≡ w → 0 < length (laid_out l n v) → HasPut a b s t (laid_out l n v) → HasLeft 1 a b s t (laid_out l n w) []
leaf-left l n v w a b s t is some p =
    prefix-left a b s t (laid_out l n w) (laid_out l n v) [] (append-nil (laid_out l n v) ∙ ap (laid_out l n) is) some p

-- a part, perhaps empty, and then what follows
pub put-left : (n : ℕ) → n ≤ 1 → (a b c : Option (List ℕ)) (s t u : Outbox) (whole xs mid more : List ℕ) → xs ++ mid ≡ whole → HasPut a b s t xs → HasLeft 1 b c t u mid more → HasLeft n a c s u whole more
put-left n few a b c s t u whole xs mid more is p q =
    let some = q.some in
    record {
      done = xs ++ q.done;
      written = puts-then a b c s t u xs q.done p q.written;
      some = omega (arith, length-append xs q.done);
      joins = append_assoc xs q.done more ∙ ap (λ (l : List ℕ). xs ++ l) q.joins ∙ is;
    }

pub put-stops : (a b c : Option (List ℕ)) (s t : Outbox) (whole xs mid : List ℕ) (e : Outbox) → xs ++ mid ≡ whole → HasPut a b s t xs → HasStopped b c t mid e → HasStopped a c s whole e
put-stops a b c s t whole xs mid e is p q = subst (λ (l : List ℕ). HasStopped a c s l e) is (puts-stops a b c s t xs mid e p q)

pub left-left : (a b c : Option (List ℕ)) (s t u : Outbox) (whole mid more : List ℕ) → HasLeft 0 a b s t whole mid → HasLeft 1 b c t u mid more → HasLeft 0 a c s u whole more
left-left a b c s t u whole mid more p q = put-left 0 (omega arith) a b c s t u whole p.done mid more p.joins p.written q

pub left-stops : (n : ℕ) (a b c : Option (List ℕ)) (s t : Outbox) (whole mid : List ℕ) (e : Outbox) → HasLeft n a b s t whole mid → HasStopped b c t mid e → HasStopped a c s whole e
left-stops n a b c s t whole mid e p q = put-stops a b c s t whole p.done mid e p.joins p.written q

pub left-puts : (n : ℕ) (a b c : Option (List ℕ)) (s t u : Outbox) (whole mid : List ℕ) (r : Result (Unit {0}) Stopped) → HasLeft n a b s t whole mid → Puts b c t u mid r → Puts a c s u whole r
left-puts n a b c s t u whole mid r p q = subst (λ (l : List ℕ). Puts a c s u l r) p.joins (puts-next a b c s t u p.done mid r p.written q)

four : (g x m e r : List ℕ) → g ++ (x ++ ((m ++ e) ++ r)) ≡ (((g ++ x) ++ m) ++ e) ++ r
four g x m e r = simp append_assoc

six : (g k c v p e r : List ℕ) → g ++ (k ++ ((((c ++ v) ++ p) ++ e) ++ r)) ≡ (((g ++ ((k ++ c) ++ v)) ++ p) ++ e) ++ r
six g k c v p e r = simp append_assoc

without : {A : Type 0} (xs : List A) → (0 < length xs → ⊥) → xs ≡ []
without [] h = refl
without (x ∷ xs) h = absurd (h (omega arith))

-- of nodes that have these values
module _ {N : Type 0} (see : N → Value) where
  -- ---- one more container, or one less

  pub following-top : (l : Layout) (vs us : List (OpenNode N)) (v : OpenNode N) → us ≡ vs ++ v ∷ [] → following see l (reverse us) ≡ rest_of see l v ++ following see l (reverse vs)
  following-top l vs us v is = ap (following see l) (ap reverse is ∙ reverse-append vs (v ∷ []))

  -- the container that was around the one that ended, if there was one
  popped : (l : Layout) (vs us : List (OpenNode N)) (o : Option (OpenNode N)) → vs ≡ us ++ option_to_list o → (0 < length vs → IsSome o) → following see l (reverse vs) ≡ all_left see l o (reverse us)
  popped l vs us None is some = ap (λ (x : List (OpenNode N)). following see l (reverse x)) (without vs (λ h. cc (some h)))
  popped l vs us (Some v) is some = following-top l us vs v is

  -- the end of a container was put
  pub ended : (l : Layout) (vs us : List (OpenNode N)) (o : Option (OpenNode N)) (a b : Option (List ℕ)) (s t : Outbox) (whole xs : List ℕ) → vs ≡ us ++ option_to_list o → (0 < length vs → IsSome o) → xs ++ following see l (reverse vs) ≡ whole → 0 < length xs → HasPut a b s t xs
      → HasLeft 1 a b s t whole (all_left see l o (reverse us))
  ended l vs us o a b s t whole xs is has all some p =
      prefix-left a b s t whole xs (all_left see l o (reverse us)) (ap (λ (x : List ℕ). xs ++ x) (sym (popped l vs us o is has)) ∙ all) some p

  -- the end of a container was put, after the text before it
  pub ends : (l : Layout) (vs us : List (OpenNode N)) (o : Option (OpenNode N)) (a b c : Option (List ℕ)) (s t u : Outbox) (whole xs ys : List ℕ) → vs ≡ us ++ option_to_list o → (0 < length vs → IsSome o) → xs ++ (ys ++ following see l (reverse vs)) ≡ whole → 0 < length ys
      → HasPut a b s t xs → HasPut b c t u ys → HasLeft 1 a c s u whole (all_left see l o (reverse us))
  ends l vs us o a b c s t u whole xs ys is has all some p q =
      ended l vs us o a c s u whole (xs ++ ys) is has (append_assoc xs ys (following see l (reverse vs)) ∙ all) (omega (arith, length-append xs ys)) (puts-then a b c s t u xs ys p q)

  -- ---- the starts of containers

  pub array-prefix : (l : Layout) (n : ℕ) (v : Value) (ns : List N) → array (values_in see ns) ≡ v
      → codes "[" ++ ((rows l n true (laid_texts l (n + 1) (values_in see ns)) ++ codes "]") ++ []) ≡ laid_out l n v
  array-prefix l n v ns is = ap (λ (x : List ℕ). codes "[" ++ x) (append-nil (rows l n true (laid_texts l (n + 1) (values_in see ns)) ++ codes "]")) ∙ ap (laid_out l n) is

  pub map-prefix : (l : Layout) (n : ℕ) (v : Value) (ps : List (N × N)) → map (entries_in see ps) ≡ v
      → codes "{" ++ ((rows l n true (laid_pairs l (n + 1) (entries_in see ps)) ++ codes "}") ++ []) ≡ laid_out l n v
  map-prefix l n v ps is = ap (λ (x : List ℕ). codes "{" ++ x) (append-nil (rows l n true (laid_pairs l (n + 1) (entries_in see ps)) ++ codes "}")) ∙ ap (laid_out l n) is

  pub tag-prefix : (l : Layout) (n : ℕ) (v : Value) (k : ℕ) (content : N) → tag k (see content) ≡ v
      → (decimal k ++ codes "(") ++ ((laid_out l n (see content) ++ codes ")") ++ []) ≡ laid_out l n v
  tag-prefix l n v k content is =
      ap (λ (x : List ℕ). (decimal k ++ codes "(") ++ x) (append-nil (laid_out l n (see content) ++ codes ")"))
      ∙ sym (append_assoc (decimal k ++ codes "(") (laid_out l n (see content)) (codes ")")) ∙ ap (laid_out l n) is

  -- ---- what is left of a container, and its first part

  left_as : (l : Layout) (n : ℕ) (left other : Remaining N) (rest : List ℕ) → left ≡ other → left_of see l n other ++ rest ≡ left_of see l n left ++ rest
  left_as l n left other rest is = ap (λ (x : Remaining N). left_of see l n x ++ rest) (sym is)

  pub member-next : (l : Layout) (n : ℕ) (first : Bool) (left : Remaining N) (b : Bor (List N)) (x : N) (more : List N) (rest : List ℕ) → left ≡ parts.Array b first → b.now ≡ x ∷ more
      → gap l n first ++ (laid_out l (n + 1) (see x) ++ ((rows l n false (laid_texts l (n + 1) (values_in see more)) ++ codes "]") ++ rest)) ≡ left_of see l n left ++ rest
  member-next l n first left b x more rest is split =
      four (gap l n first) (laid_out l (n + 1) (see x)) (rows l n false (laid_texts l (n + 1) (values_in see more))) (codes "]") rest
      ∙ ap (λ (ns : List N). (rows l n first (laid_texts l (n + 1) (values_in see ns)) ++ codes "]") ++ rest) (sym split) ∙ left_as l n left (parts.Array b first) rest is

  pub members-end : (l : Layout) (n : ℕ) (first : Bool) (left : Remaining N) (b : Bor (List N)) (rest : List ℕ) → left ≡ parts.Array b first → length b.now ≡ 0 → end l n first ++ (codes "]" ++ rest) ≡ left_of see l n left ++ rest
  members-end l n first left b rest is none =
      sym (append_assoc (end l n first) (codes "]") rest) ∙ ap (λ (ns : List N). (rows l n first (laid_texts l (n + 1) (values_in see ns)) ++ codes "]") ++ rest) (sym (nil_from_length b.now none)) ∙ left_as l n left (parts.Array b first) rest is

  pub pair-next : (l : Layout) (n : ℕ) (first : Bool) (left : Remaining N) (b : Bor (List (N × N))) (x : N × N) (more : List (N × N)) (rest : List ℕ) → left ≡ parts.Map b first → b.now ≡ x ∷ more
      → gap l n first ++ (laid_out l (n + 1) (see x.0) ++ ((((codes ": " ++ laid_out l (n + 1) (see x.1)) ++ rows l n false (laid_pairs l (n + 1) (entries_in see more))) ++ codes "}") ++ rest)) ≡ left_of see l n left ++ rest
  pair-next l n first left b x more rest is split =
      six (gap l n first) (laid_out l (n + 1) (see x.0)) (codes ": ") (laid_out l (n + 1) (see x.1)) (rows l n false (laid_pairs l (n + 1) (entries_in see more))) (codes "}") rest
      ∙ ap (λ (ps : List (N × N)). (rows l n first (laid_pairs l (n + 1) (entries_in see ps)) ++ codes "}") ++ rest) (sym split) ∙ left_as l n left (parts.Map b first) rest is

  pub pairs-end : (l : Layout) (n : ℕ) (first : Bool) (left : Remaining N) (b : Bor (List (N × N))) (rest : List ℕ) → left ≡ parts.Map b first → length b.now ≡ 0 → end l n first ++ (codes "}" ++ rest) ≡ left_of see l n left ++ rest
  pairs-end l n first left b rest is none =
      sym (append_assoc (end l n first) (codes "}") rest) ∙ ap (λ (ps : List (N × N)). (rows l n first (laid_pairs l (n + 1) (entries_in see ps)) ++ codes "}") ++ rest) (sym (nil_from_length b.now none)) ∙ left_as l n left (parts.Map b first) rest is

  pub value-next : (l : Layout) (n : ℕ) (left : Remaining N) (x : Bor N) (b : Bor (List (N × N))) (rest : List ℕ) → left ≡ parts.Value x b
      → codes ": " ++ (laid_out l (n + 1) (see x.now) ++ ((rows l n false (laid_pairs l (n + 1) (entries_in see b.now)) ++ codes "}") ++ rest)) ≡ left_of see l n left ++ rest
  value-next l n left x b rest is =
      four (codes ": ") (laid_out l (n + 1) (see x.now)) (rows l n false (laid_pairs l (n + 1) (entries_in see b.now))) (codes "}") rest ∙ left_as l n left (parts.Value x b) rest is

  -- an item follows what was put
  pub goes-on : (l : Layout) (vs : List (OpenNode N)) (a b c : Option (List ℕ)) (s t u : Outbox) (whole xs mid : List ℕ) (r : Result (Option (OpenNode N)) Stopped) → xs ++ mid ≡ whole → HasPut a b s t xs → Leaves 1 see l b c t u mid vs r → Leaves 1 see l a c s u whole vs r
  goes-on l vs a b c s t u whole xs mid (Ok o) is p q = put-left 1 (omega arith) a b c s t u whole xs mid (all_left see l o vs) is p q
  goes-on l vs a b c s t u whole xs mid (Err e) is p q = put-stops a b c s t whole xs mid u is p q
