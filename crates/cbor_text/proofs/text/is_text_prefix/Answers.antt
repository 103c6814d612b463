use Rattle.std.proofs.{Common.refl, lemmas.Str.IsUtf8-from_ascii}
use Rattle.cbor_text.proofs.text.is_text_prefix.Goals as goal

pub returns-then-is_short_ascii : goal.returns-then-is_short_ascii
returns-then-is_short_ascii c = (λ e. IsUtf8-from_ascii _ (c.is_short_ascii.ensures c.if-is_short_ascii.true), λ u. refl)
