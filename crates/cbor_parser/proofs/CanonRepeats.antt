-- The repeated key that a builder of canonical bytes reports is the one of all of its open maps.
use Rattle.std.proofs.Common.{◌≡◌, ℕ, Bool, List, [], ◌∷◌, refl, sym, ap, subst, inl, inr, arith}
use Rattle.cbor_head.specs.Spelling as spelling
use Rattle.cbor_head.specs.{Prelude.Spelling, declared.order.KeyOrder.KeyOrder}
use Rattle.theory_values.specs.Parts.{Open, a_map, a_key, a_string, HasNoRepeats}
use Rattle.cbor_builder.specs.Built.{Built, keys_so_far, IsFirstRepeat, IsRepeatReported, HasDistinctKeysSoFar}
use Rattle.cbor_builder.specs.declared.repeat.Repeat.{Repeat}
use Rattle.theory_verdicts.specs.Given.{opens, full_open, IsHeldAs, IsNoMap}
use Rattle.theory_verdicts.specs.Reading.{string_major}
use Rattle.cbor_parser.specs.Sink.{FindsRepeat, IsKeyless, Repeats}
use Rattle.cbor_parser.{specs.CanonSink.canon_agrees, specs.CanonSink.canon_holds, proofs.CanonGiven.agrees-full}

-- ---- by the keys of the innermost alone

same-keys-reported : (c x : Open) (os : List Open) (outside pair : ℕ) → keys_so_far c ≡ keys_so_far x → IsRepeatReported (c ∷ os) outside pair → IsRepeatReported (x ∷ os) outside pair
same-keys-reported c x os outside pair e (inl h) = inl h
same-keys-reported c x os outside pair e (inr (apart, maps, first)) = inr (apart, maps, subst (λ (ks : List (List ℕ)). IsFirstRepeat ks pair) e first)

-- it has none
pub around-reported : (c : Open) (os : List Open) (outside pair : ℕ) → keys_so_far c ≡ [] → IsRepeatReported (c ∷ os) outside pair → IsRepeatReported os outside pair
around-reported c os outside pair e (inl h) = h
around-reported c os outside pair e (inr (apart, maps, first)) = let f = subst (λ (ks : List (List ℕ)). IsFirstRepeat ks pair) e first in absurd (omega (arith, f.0.2))

no-map-keys : (c : Open) → IsNoMap c → keys_so_far c ≡ []
no-map-keys (a_map ps) h = absurd h
no-map-keys (a_key ps k) h = absurd h
no-map-keys _ h = refl

-- a container of which all was given
held-keys : (o : KeyOrder) (c : Open) (s : Spelling) → IsHeldAs o c s → keys_so_far c ≡ keys_so_far (full_open o s)
held-keys o c (spelling.a_map w es) h = ap keys_so_far h
held-keys o c _ h = no-map-keys c h

pub full-reported : (o : KeyOrder) (c : Open) (s : Spelling) (os : List Open) (outside pair : ℕ) → IsHeldAs o c s → IsRepeatReported (c ∷ os) outside pair → IsRepeatReported (full_open o s ∷ os) outside pair
full-reported o c s os outside pair held = same-keys-reported c (full_open o s) os outside pair (held-keys o c s held)

-- ---- without keys

no-map-distinct : (c : Open) → IsNoMap c → HasNoRepeats c
no-map-distinct (a_map ps) h = absurd h
no-map-distinct _ h = tt

pub keyless-distinct : (o : KeyOrder) (c : Open) (s : Spelling) → IsHeldAs o c s → IsKeyless s → HasNoRepeats c
keyless-distinct o c (spelling.a_map w spelling.no_entries) h k = subst HasNoRepeats (sym h) tt
keyless-distinct o c (spelling.a_map w (spelling.entry k v es)) h none = absurd none
keyless-distinct o c _ h k = no-map-distinct c h

-- ---- of the sink

module _ (g : Built) (repeat : Repeat) (h : IsRepeatReported g.open_levels repeat.outside repeat.pair) where
  abbrev reported-in : List Open → Type 0
  reported-in os = IsRepeatReported os repeat.outside repeat.pair

  pub canon-finds : FindsRepeat Built canon_agrees canon_holds g repeat
  canon-finds start ls (inl at) = (start.order, subst reported-in at.1 h)
  canon-finds start ls (inr (is_text, content, at)) =
      let o = start.order in
      (o, around-reported (a_string (string_major is_text) content) (opens o ls) repeat.outside repeat.pair refl (subst reported-in at.1 h))

  pub canon-repeats : (HasDistinctKeysSoFar g.open_levels → ⊥) → (trusts t : Bool) → Repeats Built canon_agrees trusts t g repeat
  canon-repeats differ trusts t start d ls s fills full =
      let o = start.order in
      let at = (agrees-full t start g d ls s fills full).1 in (
        (o, full-reported o at.1 s (opens o ls) repeat.outside repeat.pair at.2.held (subst reported-in at.3 h)),
        λ keyless. differ (subst HasDistinctKeysSoFar (sym at.3) (keyless-distinct o at.1 s at.2.held keyless)),
      )
