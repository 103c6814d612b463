-- What a public builder represents, from what its core does.
use Rattle.std.proofs.Common.{◌≡◌, ℕ, Bool, true, false, List, [], ◌∷◌, Option, Some, None, true≢false, refl, sym, ap, ◌∙◌, subst, IsTrue, IfSome, IsNone, ◌↔◌, Ok}
use Rattle.theory_values.specs.Parts.{Open, plain, a_map, HasNoRepeats, IsInContainer}
use Rattle.cbor_builder.specs.Built.{Built, built, HasDistinctKeysSoFar, IsRepeatReported, LeavesIfDistinct, keys_so_far, AreAllDifferent}
use Rattle.cbor_builder.specs.inner.BuilderState.{open_levels, innermost, IsLaid, WasLaid, IsLeftOpen, came_open_levels}
use Rattle.cbor_builder.specs.inner.CanonState.{if_sound, view_value, IsNested, IsKept}
use Rattle.cbor_builder.specs.{declared.span.Span.Span, declared.builder.Core.Core, declared.repeat.Repeat.Repeat, inner.Repeats.Reports}
use Rattle.cbor_builder.{specs.declared.canon_builder.CanonBuilder.TheInside.Inside, proofs.KeysSoFar.different_distinct, proofs.OpenMembers.whole_item}

-- ---- a builder that accepts a part has not failed

-- what is known about a builder in which something is open
pub record Known (b : Inside) (w : Built) : Type 0 where
  pub order : b.core.order ≡ w.order
  pub open_levels_is : open_levels b.core ≡ w.open_levels
  pub kept : b.memory ≡ false
  pub laid : IsLaid b.core
  pub nested : IsNested w.open_levels

sound_where : (P : List Open → Type 0) → (P [] → ⊥) → (s : Bool) (os : List Open) → P (if_sound s os) → IsTrue s
sound_where P none true os p = refl
sound_where P none false os p = absurd (none p)

pub known : (P : List Open → Type 0) → (P [] → ⊥) → (b : Inside) (w : Built) → IsKept b → view_value b ≡ w → P w.open_levels → Known b w
known P none b w kept e p =
    let s = sound_where P none b.is_sound (open_levels b.core) (subst (λ (v : Built). P v.open_levels) (sym e) p) in
    let is : open_levels b.core ≡ w.open_levels = sym (ap (λ t. if_sound t (open_levels b.core)) s) ∙ ap (λ (v : Built). v.open_levels) e in
    record {
      order = ap (λ (v : Built). v.order) e;
      open_levels_is = is;
      kept = (kept s).0;
      laid = (kept s).1;
      nested = subst IsNested is (kept s).2;
    }

-- something is open
abbrev pub IsOpen : List Open → Type 0
IsOpen [] = ⊥
IsOpen (c ∷ os) = Unit {0}

-- the bytes of an item that is whole
pub whole_bytes : (b : Inside) (w : Built) (bs : List ℕ) → IsKept b → view_value b ≡ w → w.open_levels ≡ plain bs ∷ [] → b.core.out ≡ bs
whole_bytes b w bs kept e p =
    let k = known IsOpen (λ h. h) b w kept e (subst IsOpen (sym p) tt) in whole_item b.core k.laid bs (k.open_levels_is ∙ p)

-- ---- a map that does not end

different_repeats : (c : Open) → AreAllDifferent (keys_so_far c) → HasNoRepeats c
different_repeats (a_map ps) d = different_distinct ps d
different_repeats c d = tt

-- what is reported of it
pub reported_there : {E : Type 0} (b : Inside) (w : Built) (n : Core) (distinct : Bool) (r : Option Repeat) (new : Built) (os : List Open) → IsKept b → view_value b ≡ w → IsInContainer w.open_levels → IsLeftOpen b.core n
    → distinct ≡ false → (IsTrue distinct ↔ HasNoRepeats (innermost b.core)) → ((came : List Span) → WasLaid came n → Reports (came_open_levels came n) r)
    → new ≡ (record { order = b.core.order; open_levels = []; refused = b.memory }) → LeavesIfDistinct {E = E} (Ok r) w new os
reported_there b w n distinct r new os kept is inside left e d reports after =
    let k = known IsInContainer (λ h. h) b w kept is inside in
    let nothing : new ≡ built w.order [] = after ∙ (λ i. record { order = k.order i; open_levels = []; refused = k.kept i }) in
    let t = subst (λ (os : List Open). (IsNone r → ⊥) × (HasDistinctKeysSoFar os → ⊥) × IfSome r (λ (t : Repeat). IsRepeatReported os t.outside t.pair)) k.open_levels_is
    (by_result r (subst (λ (os : List Open). Reports os r) left.1 (reports b.core.spans.items left.0))) in
    record {
      order = ap (λ (v : Built). v.order) nothing;
      distinct = ((λ none. absurd (t.0 none)), (λ h. absurd (t.1 h)));
      ended = λ none. absurd (t.0 none);
      reported = t.2;
      left = always nothing r;
      refused = tt;
    }
  where
    always : new ≡ built w.order [] → (r : Option Repeat) → IfSome r (λ _. new ≡ built w.order [])
    always nothing None = tt
    always nothing (Some t) = nothing

    not_distinct : HasNoRepeats (innermost b.core) → ⊥
    not_distinct h = true≢false (sym (d.1 h) ∙ e)

    by_result : (r : Option Repeat) → Reports (open_levels b.core) r → (IsNone r → ⊥) × (HasNoRepeats (innermost b.core) → ⊥) × IfSome r (λ (t : Repeat). IsRepeatReported (open_levels b.core) t.outside t.pair)
    by_result None t = absurd (not_distinct (different_repeats (innermost b.core) t.0))
    by_result (Some u) t = ((λ n. cc), not_distinct, t)
