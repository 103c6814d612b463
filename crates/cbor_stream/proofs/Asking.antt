-- Whether a key is expected whose kind is judged, by what is stored.
use Rattle.std.proofs.Common.{◌≡◌, ℕ, zero, suc, ◌<◌, ◌↔◌, ◌&&◌, true, false, List, [], ◌∷◌, ◌++◌, refl, ap, ◌∙◌, arith}
use Rattle.cbor_head.specs.declared.keys.Keys.{Keys, TheVariants.IntegersAndTexts, TheVariants.Any}
use Rattle.cbor_strict.specs.inner.LastKeys.{view_value, expected_of, levels_of}
use Rattle.cbor_strict.specs.declared.last_keys.Expected.TheVariants.{Member, Key, Value}
use Rattle.cbor_strict.{specs.declared.last_keys.Expected.Expected, specs.declared.open_items.OpenItems.OpenItems, proofs.StrictKinds.key_top}
use Rattle.cbor_strict.proofs.StrictStops.{IsAsked}
use Rattle.cbor_stream.specs.inner.Amid.{last_expected, is_key_expected, is_zero, asks_of}

last_snoc : (es : List Expected) (e : Expected) → last_expected (es ++ e ∷ []) ≡ e
last_snoc [] e = refl
last_snoc (d ∷ []) e = refl
last_snoc (d ∷ f ∷ es) e = last_snoc (f ∷ es) e

-- by what is left of a payload, and what is expected in the innermost container
by_last : (n : ℕ) (e : Expected) → n ≡ 0 → ((is_zero n && is_key_expected e) ≡ true) ↔ (e ≡ Key)
by_last zero Key z = ((λ h. refl), (λ h. refl))
by_last zero Member z = ((λ h. absurd (cc h)), (λ h. absurd (cc h)))
by_last zero Value z = ((λ h. absurd (cc h)), (λ h. absurd (cc h)))
by_last (suc n) e z = absurd (omega (arith, z))

pub asked_so : (keys : Keys) (v : OpenItems) → IsAsked (asks_of keys v) keys v
asked_so Any v = record {
  expected = λ fs p k none. ((λ h. absurd (cc h)), (λ h. let two : Any ≡ IntegersAndTexts = h.0 in absurd (cc two)));
  payload = λ l. refl;
}
asked_so IntegersAndTexts v =
    let levels = (view_value v.keys).levels in
    record {
      expected = λ fs p k none.
          let top = key_top (view_value v.keys) (last_expected levels) (λ f gs q i. ap last_expected i.levels ∙ last_snoc (levels_of gs) (expected_of f)) (λ q i. ap last_expected i.levels) fs p k in
          let at = by_last v.left (last_expected levels) none in
          ((λ h. (refl, top.0 (at.0 h))), (λ h. at.1 (top.1 h.1)));
      payload = λ l. in_payload v.left (last_expected levels) l;
    }
  where
    in_payload : (n : ℕ) (e : Expected) → 0 < n → (is_zero n && is_key_expected e) ≡ false
    in_payload zero e l = absurd (omega (arith, l))
    in_payload (suc n) e l = refl
