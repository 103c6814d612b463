-- What is stored of an item decides for all of its open maps whether two keys are the same.
use Rattle.std.proofs.Common.{◌≡◌, ℕ, Bool, true, false, List, [], ◌∷◌, ◌++◌, map, refl, ap, ◌∙◌, subst, inl, inr, arith}
use Rattle.std.proofs.lemmas.List.{map-append}
use Rattle.cbor_head.specs.{Prelude.Pair, declared.order.KeyOrder.KeyOrder}
use Rattle.theory_values.specs.Parts.{Open, a_map, a_key, a_string, pair}
use Rattle.cbor_builder.specs.Built.{keys_so_far, AreAllDifferent, AreOpenKeysDifferent}
use Rattle.theory_verdicts.specs.{Given.level_open, Given.opens, Levels.Level, Reading.string_major}
use Rattle.cbor_parser.specs.Sink.{FindsNoRepeat}
use Rattle.cbor_reader.specs.inner.KeyBytes.{in_key, bare_pairs, kept, kept_all, keys_agree, keys_hold}
use Rattle.cbor_reader.specs.declared.key_bytes.KeyBytes.{KeyBytes}

abbrev pub keys : List Pair → List (List ℕ)
keys ps = map (λ (p : Pair). p.key) ps

pub bare-keys : (ps : List Pair) → keys (bare_pairs ps) ≡ keys ps
bare-keys [] = refl
bare-keys (p ∷ ps) = ap (λ (ks : List (List ℕ)). p.key ∷ ks) (bare-keys ps)

-- one waits for its value
pub waiting-keys : (ps : List Pair) (k : List ℕ) → keys (bare_pairs ps ++ pair k [] ∷ []) ≡ keys ps ++ k ∷ []
waiting-keys ps k = map-append (λ (p : Pair). p.key) (bare_pairs ps) (pair k [] ∷ []) ∙ ap (λ (ks : List (List ℕ)). ks ++ k ∷ []) (bare-keys ps)

no-keys : AreAllDifferent []
no-keys i r = let h = r.2 in absurd (omega (arith, h))

kept-apart : (t : Bool) (c : Open) (os : List Open) → AreOpenKeysDifferent (kept t c os) → AreAllDifferent (keys_so_far c) × AreOpenKeysDifferent os
kept-apart true c os h = h
kept-apart false (a_map ps) os h = (subst AreAllDifferent (bare-keys ps) h.0, h.1)
kept-apart false (a_key ps k) os h = (subst AreAllDifferent (waiting-keys ps k) h.0, h.1)
kept-apart false _ os h = (no-keys, h)

pub all-apart : (o : KeyOrder) (ls : List Level) → AreOpenKeysDifferent (kept_all o ls) → AreOpenKeysDifferent (opens o ls)
all-apart o [] h = h
all-apart o (l ∷ ls) h = let apart = kept-apart (in_key ls) (level_open o l) (kept_all o ls) h in (apart.0, all-apart o ls apart.1)

pub no-repeat : (g : KeyBytes) → AreOpenKeysDifferent g.builder.open_levels → FindsNoRepeat KeyBytes keys_agree keys_hold g
no-repeat g h start ls (inl at) = (g.builder.order, all-apart g.builder.order ls (subst AreOpenKeysDifferent at.0 h))
no-repeat g h start ls (inr (is_text, content, at)) =
    let o = g.builder.order in
    (o, all-apart o ls (kept-apart (in_key ls) (a_string (string_major is_text) content) (kept_all o ls) (subst AreOpenKeysDifferent at.0 h)).1)
