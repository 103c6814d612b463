-- Why a reader stops within an item: the refusal is that of the bytes consumed, and of what the reader held after
-- them.
use Rattle.std.proofs.Common.{◌≡◌, ◌≢◌, ℕ, ◌+◌, ◌-◌, ◌/◌, ◌<◌, ◌≤◌, ◌⊎◌, Option, Some, None, List, [], ◌∷◌, ◌++◌, length, refl, sym, ap, ◌∙◌, subst, inl, inr, arith, append_assoc, append-nil, IsTrue, length-append}
use Rattle.std.{specs.Option.IfSome, specs.Io.KnownBytes.Consumes, proofs.KnownBytes.Consumes-trans}
use Rattle.cbor_head.specs.Prelude.{Bounds, IsBeginning, MayFollow, IsIntegerOrText, spell, value_of, Rules, refusal}
use Rattle.cbor_head.specs.declared.reason.{Reason.TheVariants.KeyKind, Refusal.Refusal}
use Rattle.theory_values.{specs.FirstBytes.is_basic, proofs.KeyKinds.basic_byte}
use Rattle.cbor_machine.specs.NextEvent.{ItemEventsView}
use Rattle.theory_verdicts.specs.Kinds.{AsksForKinds, KeepsToKinds, HasBasicPrefix}
use Rattle.theory_verdicts.specs.Reading.{AreRefused, IsAt, IsMemory, IsReached, IsUndecided, HasCause, IsCutHead, IsPrefixUnread}
use Rattle.theory_verdicts.proofs.KindBytes.{Begins, judged_begins, silent_is_one, keeps_expected, byte_begins}
use Rattle.theory_verdicts.proofs.KindFrames.{KeepsBefore, IsAround, keeps_prefix, other_key}
use Rattle.theory_verdicts.proofs.Tops.{kind-unread, prefix-unread, known, loses}
use Rattle.theory_verdicts.specs.{Frame.Frame, Judged.IsJudged, Place.Container, Place.at_item, Readers.IsUnread, RefusedAfter.IsRefusedAfter}
use Rattle.theory_verdicts.proofs.{Items.cut-judged, Judged.judged_start, Reasons.reader-reason}

-- ---- what the reader held after the bytes consumed

held_whole : (t rest bs : List ℕ) (to : Option (List ℕ)) → Consumes (Some rest) to bs → Consumes (Some (t ++ rest)) to (t ++ bs)
held_whole t rest bs None c = c
held_whole t rest bs (Some left) c = ap (λ (x : List ℕ). t ++ x) c ∙ sym (append_assoc t bs left)

-- the first byte that the reader lost is the first that it held
pub basic_first : (t p last : List ℕ) (from to : Option (List ℕ)) (bytes rest : List ℕ) (place : ℕ) → (length t < place → (first : ℕ) (more : List ℕ) → from ≡ Some (first ∷ more) → IsTrue (is_basic (first / 32))) → place ≡ length (t ++ p) → bytes ≡ p ++ last
    → Consumes from to bytes → from ≡ Some rest → HasBasicPrefix p
basic_first t [] last from to bytes rest place basic at splits c is = tt
basic_first t (x ∷ p) last from to bytes rest place basic at splits c is = go to (subst (λ (y : Option (List ℕ)). Consumes y to bytes) is c)
  where
    go : (to : Option (List ℕ)) → Consumes (Some rest) to bytes → IsTrue (is_basic (x / 32))
    go None k = absurd k
    go (Some left) k = basic (omega (arith, at, length-append t (x ∷ p))) x ((p ++ last) ++ left) (is ∙ ap Some (k ∙ ap (λ (y : List ℕ). y ++ left) splits))

module _ (r : Rules) (b : Bounds) (t : List ℕ) (from to : Option (List ℕ)) (f : Refusal) where
  -- why is known, and no key of another kind begins before it
  pub stopped_by : (bytes : List ℕ) → Consumes from to bytes → f.read ≡ length (t ++ bytes) → (why : (IsMemory f × IsReached b (t ++ bytes) × IsUndecided r b [] [] (t ++ bytes)) ⊎ HasCause r b [] [] (t ++ bytes) to f)
      → ((rest : List ℕ) → from ≡ Some rest → KeepsBefore r b (t ++ bytes) to f why) → IsRefusedAfter r b t from to f
  stopped_by bytes consumed read why keeps = record {
    bytes = bytes;
    consumed = consumed;
    read = read;
    reason = reader-reason r b b [] [] [] None to f (record { bytes = t ++ bytes; taken = record { more = t ++ bytes; consumed = tt; are = refl }; read = read; why = why });
    unread = known from (λ rest. IsUnread b r (t ++ rest) f) (λ rest is.
        (prefix-unread r b (Some (t ++ rest)) to f
        (record { bytes = t ++ bytes; taken = record { more = t ++ bytes; consumed = held_whole t rest bytes to (subst (λ (x : Option (List ℕ)). Consumes x to bytes) is consumed); are = refl }; read = read; why = why })
        (keeps rest is)).refused);
  }

  -- an event was read
  pub stopped_after : (bytes : List ℕ) → Consumes from to bytes → IsBeginning b.depth (t ++ bytes) → KeepsToKinds b r (t ++ bytes) → AreRefused r b (t ++ bytes) to f → IsRefusedAfter r b t from to f
  stopped_after bytes consumed begins keeps a = stopped_by bytes consumed a.read a.why (λ rest is. before a.why)
    where
      before : (why : (IsMemory f × IsReached b (t ++ bytes) × IsUndecided r b [] [] (t ++ bytes)) ⊎ HasCause r b [] [] (t ++ bytes) to f) → KeepsBefore r b (t ++ bytes) to f why
      before (inl m) = keeps_prefix b r m.2.p m.2.last (subst (IsBeginning b.depth) m.2.splits begins) (subst (KeepsToKinds b r) m.2.splits keeps)
      before (inr h) = keeps_prefix b r h.p h.last (subst (IsBeginning b.depth) h.splits begins) (subst (KeepsToKinds b r) h.splits keeps)

-- ---- where a head is expected

module _ {left : ℕ} {fs : List Frame} {Expected : Type 0} (r : Rules) (b : Bounds) (t : List ℕ) (from to : Option (List ℕ)) (f : Refusal) (cs : List Container) (around : IsAround b.depth left fs t Expected) (space : b.depth - length cs ≡ left)
    (lifted : (p : List ℕ) → IsJudged r (length t) (b.depth - length cs) p None → IsJudged r 0 (b.depth - 0) (t ++ p) None) (keeps : KeepsToKinds b r t) where
  -- it is cut
  pub stopped_within : (bytes : List ℕ) → Consumes from to bytes → f.read ≡ length (t ++ bytes) → (c : IsCutHead b (at_item cs) t bytes to f) → (AsksForKinds b r → Expected → (rest : List ℕ) → from ≡ Some rest → HasBasicPrefix c.p) → IsRefusedAfter r b t from to f
  stopped_within bytes consumed read c basic =
      let j = cut-judged r b cs t bytes to f c in
      let cause : HasCause r b [] [] (t ++ bytes) to f = record {
        p = t ++ c.p;
        last = c.last;
        splits = ap (λ (x : List ℕ). t ++ x) c.splits ∙ sym (append_assoc t c.p c.last);
        found = None;
        judged = lifted c.p j;
        cause = (c.place, c.refused);
      } in
      stopped_by r b t from to f bytes consumed read (inr cause)
      (λ rest is.
      keeps_expected b r around c.p (subst (λ (n : ℕ). Begins n c.p) space (judged_begins r (length t) (b.depth - length cs) c.p None j)) (silent_is_one b.depth cs c.begun c.p c.are_bytes c.ran) (λ asked expected. basic asked expected rest is) keeps)

  -- it is that of a key of another kind, of which the first byte was read
  pub stopped_other : (e : ItemEventsView) (x : ℕ) → IsAt b e t (at_item cs) → AsksForKinds b r → Expected → MayFollow b.depth t x → x ≢ 0xff → ¬ IsTrue (is_basic (x / 32)) → Consumes from to (x ∷ []) → length t + 1 ≤ b.bytes
      → f ≡ refusal KeyKind (length t) (length t + 1) → IsRefusedAfter r b t from to f
  stopped_other e x at asked expected follows item other consumed fits is =
      let size = length-append t (x ∷ []) in
      let g = subst (λ (n : ℕ). Begins n (x ∷ [])) space (byte_begins b e t cs x at follows item) in
      let no_basic : ¬ IsIntegerOrText (value_of g.item) = λ i. other (basic_byte g.item g.spelled x [] g.rest (append-nil (spell g.item) ∙ g.bytes) i) in
      let (o, begins, complains) = other_key b r around g.item x g.rest g.spelled g.within g.bytes expected no_basic in
      let judged : IsJudged r 0 b.depth t None = whole (lifted [] (judged_start r (length t) (b.depth - length cs))) in
      record {
        bytes = x ∷ [];
        consumed = consumed;
        read = ap (λ (y : Refusal). y.read) is ∙ sym size;
        reason = inr (inl (inr (ap (λ (y : Refusal). y.reason) is, asked.0, asked.1)));
        unread = known from (λ rest. IsUnread b r (t ++ rest) f) (λ rest held.
            subst (IsUnread b r (t ++ rest)) (sym is)
            (kind-unread r b (t ++ rest) (Some (t ++ rest)) to refl t x o
            (record { more = t ++ x ∷ []; consumed = held_whole t rest (x ∷ []) to (subst (λ (y : Option (List ℕ)). Consumes y to (x ∷ [])) held consumed); are = refl }) (omega (arith, fits, size)) asked judged keeps begins complains));
      }
    where
      whole : IsJudged r 0 (b.depth - 0) (t ++ []) None → IsJudged r 0 b.depth t None
      whole j = let e : b.depth - 0 ≡ b.depth = omega arith in subst (λ (n : ℕ). IsJudged r 0 n t None) e (subst (λ (y : List ℕ). IsJudged r 0 (b.depth - 0) y None) (append-nil t) j)

-- ---- from where it began

module _ (r : Rules) (b : Bounds) (f : Refusal) where
  -- some bytes were taken before
  pub stopped_from : (t bs : List ℕ) (from now to : Option (List ℕ)) → Consumes from now bs → IsRefusedAfter r b (t ++ bs) now to f → IsRefusedAfter r b t from to f
  stopped_from t bs from now to c s = record {
    bytes = bs ++ s.bytes;
    consumed = Consumes-trans from now to bs s.bytes c s.consumed;
    read = s.read ∙ ap length (append_assoc t bs s.bytes);
    reason = s.reason;
    unread = held from now c s.unread;
  }
    where
      held : (from now : Option (List ℕ)) → Consumes from now bs → IfSome now (λ rest. IsUnread b r ((t ++ bs) ++ rest) f) → IfSome from (λ rest. IsUnread b r (t ++ rest) f)
      held None now c u = tt
      held (Some x) None c u = absurd c
      held (Some x) (Some y) c u = subst (λ (z : List ℕ). IsUnread b r z f) (append_assoc t bs y ∙ ap (λ (z : List ℕ). t ++ z) (sym c)) u

  pub stopped_prefix : (from to : Option (List ℕ)) → IsRefusedAfter r b [] from to f → IsPrefixUnread r b from to f
  stopped_prefix from to s = record { refused = s.unread; reason = s.reason; taken = loses s.bytes f.read from to s.read (record { more = s.bytes; consumed = s.consumed; are = refl }) }
