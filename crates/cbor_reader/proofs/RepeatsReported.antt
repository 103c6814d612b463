-- The repeated key that the sink of keys reports is the one of all open maps of an item.
use Rattle.std.proofs.Common.{◌≡◌, ℕ, suc, Bool, true, false, List, [], ◌∷◌, ◌++◌, ◌⊎◌, ◌<◌, refl, sym, ap, ◌∙◌, subst, inl, inr, arith}
use Rattle.cbor_head.specs.Spelling as spelling
use Rattle.cbor_head.specs.{Prelude.Spelling, declared.order.KeyOrder.KeyOrder}
use Rattle.theory_values.specs.Parts.{Open, a_map, a_key, a_string}
use Rattle.theory_values.specs.Parts as parts
use Rattle.cbor_builder.specs.Built.{keys_so_far, open_maps, AreOpenKeysDifferent, IsFirstRepeat, IsRepeatReported, HasDistinctKeysSoFar}
use Rattle.cbor_builder.specs.declared.repeat.Repeat.{Repeat}
use Rattle.theory_verdicts.specs.Given.{level_open, opens, IsHeldAs}
use Rattle.theory_verdicts.specs.{Levels.Level, Reading.string_major}
use Rattle.cbor_parser.specs.Sink.{FindsRepeat, IsKeyless, Repeats}
use Rattle.cbor_parser.proofs.CanonRepeats.{around-reported, full-reported, keyless-distinct}
use Rattle.cbor_reader.proofs.KeysApart.{bare-keys, waiting-keys, all-apart}
use Rattle.cbor_reader.specs.inner.KeyBytes.{is_open_map, one_more, inside, in_key, bare_pairs, kept, kept_all, keys_agree, keys_hold}
use Rattle.cbor_reader.{proofs.KeysGiven.full-at, specs.declared.key_bytes.KeyBytes.KeyBytes}

-- ---- by the keys that are stored

more-maps : (c : Open) (os us : List Open) → open_maps os ≡ open_maps us → open_maps (c ∷ os) ≡ open_maps (c ∷ us)
more-maps (a_map ps) os us e = ap suc e
more-maps (a_key ps k) os us e = ap suc e
more-maps _ os us e = e

kept-maps : (t : Bool) (c : Open) (os us : List Open) → open_maps os ≡ open_maps us → open_maps (kept t c os) ≡ open_maps (c ∷ us)
kept-maps true c os us e = more-maps c os us e
kept-maps false (a_map ps) os us e = ap suc e
kept-maps false (a_key ps k) os us e = ap suc e
kept-maps false _ os us e = e

all-maps : (o : KeyOrder) (ls : List Level) → open_maps (kept_all o ls) ≡ open_maps (opens o ls)
all-maps o [] = refl
all-maps o (l ∷ ls) = kept-maps (in_key ls) (level_open o l) (kept_all o ls) (opens o ls) (all-maps o ls)

module _ (os us : List Open) (outside pair : ℕ) (reported : IsRepeatReported os outside pair → IsRepeatReported us outside pair) (apart : AreOpenKeysDifferent os → AreOpenKeysDifferent us) (maps : open_maps os ≡ open_maps us) where
  more-reported : (c x : Open) → keys_so_far c ≡ keys_so_far x → IsRepeatReported (c ∷ os) outside pair → IsRepeatReported (x ∷ us) outside pair
  more-reported c x e (inl h) = inl (reported h)
  more-reported c x e (inr (h, n, first)) = inr (apart h, n ∙ maps, subst (λ (ks : List (List ℕ)). IsFirstRepeat ks pair) e first)

  kept-reported : (t : Bool) (c : Open) → IsRepeatReported (kept t c os) outside pair → IsRepeatReported (c ∷ us) outside pair
  kept-reported true c h = more-reported c c refl h
  kept-reported false (a_map ps) h = more-reported (a_map (bare_pairs ps)) (a_map ps) (bare-keys ps) h
  kept-reported false (a_key ps k) h = more-reported (a_map (bare_pairs ps ++ parts.pair k [] ∷ [])) (a_key ps k) (waiting-keys ps k) h
  kept-reported false _ h = inl (reported h)

all-reported : (o : KeyOrder) (ls : List Level) (outside pair : ℕ) → IsRepeatReported (kept_all o ls) outside pair → IsRepeatReported (opens o ls) outside pair
all-reported o [] outside pair h = h
all-reported o (l ∷ ls) outside pair h = kept-reported (kept_all o ls) (opens o ls) outside pair (all-reported o ls outside pair) (all-apart o ls) (all-maps o ls) (in_key ls) (level_open o l) h

-- with another open within
within-reported : (o : KeyOrder) (ls : List Level) (c : Open) (outside pair : ℕ) → IsRepeatReported (kept (in_key ls) c (kept_all o ls)) outside pair → IsRepeatReported (c ∷ opens o ls) outside pair
within-reported o ls c outside pair h = kept-reported (kept_all o ls) (opens o ls) outside pair (all-reported o ls outside pair) (all-apart o ls) (all-maps o ls) (in_key ls) c h

-- ---- of the sink

-- of a container without keys no two are equal
keyless-kept : (o : KeyOrder) (t : Bool) (c : Open) (s : Spelling) (os : List Open) → IsHeldAs o c s → IsKeyless s → (t ≡ true) ⊎ (is_open_map c ≡ true) → HasDistinctKeysSoFar (kept t c os)
keyless-kept o true c s os h k e = keyless-distinct o c s h k
keyless-kept o false c (spelling.a_map w spelling.no_entries) os h k e = subst (λ (x : Open). HasDistinctKeysSoFar (kept false x os)) (sym h) tt
keyless-kept o false c (spelling.a_map w (spelling.entry k v es)) os h none e = absurd none
keyless-kept o false (a_map ps) _ os h k e = absurd h
keyless-kept o false c _ os h k (inl e) = absurd (cc e)
keyless-kept o false _ _ os h k (inr e) = absurd (cc e)

module _ (g : KeyBytes) (repeat : Repeat) (h : IsRepeatReported g.builder.open_levels repeat.outside repeat.pair) where
  abbrev in-keys : List Open → Type 0
  in-keys os = IsRepeatReported os repeat.outside repeat.pair

  pub keys-find : FindsRepeat KeyBytes keys_agree keys_hold g repeat
  keys-find start ls (inl at) = (g.builder.order, all-reported g.builder.order ls repeat.outside repeat.pair (subst in-keys at.0 h))
  keys-find start ls (inr (is_text, content, at)) =
      let o = g.builder.order in
      let c = a_string (string_major is_text) content in
      (o, around-reported c (opens o ls) repeat.outside repeat.pair refl (within-reported o ls c repeat.outside repeat.pair (subst in-keys at.0 h)))

  pub keys-repeat : (HasDistinctKeysSoFar g.builder.open_levels → ⊥) → (t : Bool) → (0 < g.inside) ⊎ (t ≡ true) → Repeats KeyBytes keys_agree false t g repeat
  keys-repeat differ t within start d ls s fills full =
      let o = g.builder.order in
      let (at, kind) = full-at t d start g ls s fills full in
      let stored : (in_key ls ≡ true) ⊎ (is_open_map at.1 ≡ true) = elim within [ inl some ↦ inl (in-a-key (in_key ls) (inside ls) some at.5) | inr map ↦ inr (at.3 ∙ sym kind ∙ map) ] in (
        (o, full-reported o at.1 s (opens o ls) repeat.outside repeat.pair at.2.held (within-reported o ls at.1 repeat.outside repeat.pair (subst in-keys at.4 h))),
        λ keyless. differ (subst HasDistinctKeysSoFar (sym at.4) (keyless-kept o (in_key ls) at.1 s (kept_all o ls) at.2.held keyless stored)),
      )
    where
      in-a-key : (u : Bool) (n : ℕ) → 0 < g.inside → g.inside ≡ one_more u n → u ≡ true
      in-a-key true n some e = refl
      in-a-key false n some e = absurd (omega (arith, some, e))
