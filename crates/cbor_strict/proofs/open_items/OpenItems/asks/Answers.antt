use Rattle.std.proofs.Common.{refl}
use Rattle.cbor_strict.proofs.open_items.OpenItems.asks.Goals as goal
use Rattle.cbor_strict.{specs.inner.LastKeys.view_value, proofs.StrictKinds.key_top}

pub returns-in-Key-clause-expected : goal.returns-in-Key-clause-expected
returns-in-Key-clause-expected c = λ fs p k none.
    (λ t. (c.in-IntegersAndTexts.is, (key_top (view_value c.args.self.now.keys) c.expected.result c.expected.ensures.some c.expected.ensures.none fs p k).0 c.in-Key.is), λ h. refl)

pub returns-in_default-matches : goal.returns-in_default-matches
returns-in_default-matches c = record {
  expected = λ fs p k none. (λ t. absurd (cc t), λ h. absurd (c.in_default-matches.not-Key ((key_top (view_value c.args.self.now.keys) c.expected.result c.expected.ensures.some c.expected.ensures.none fs p k).1 h.1)));
  payload = λ l. refl;
}
